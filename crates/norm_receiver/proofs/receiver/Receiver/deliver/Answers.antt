use Rattle.std.proofs.Common.{◌∙◌, ap}
use Rattle.norm_receiver.specs.Inside.{kept_of}
use Rattle.norm_receiver.specs.ReceiverKept.{ReceiverKept}
use Rattle.norm_receiver.proofs.ReceiverLemmas.{delivered, refused, wanted, sound_after}
use Rattle.norm_receiver.proofs.receiver.Receiver.deliver.Goals as goal

pub returns-clause-profile : goal.returns-clause-profile
returns-clause-profile c = c.deliver.ensures.profile ∙ ap (λ (k : ReceiverKept). k.p) c.self.view_is

pub returns-clause-stands : goal.returns-clause-stands
returns-clause-stands c =
    delivered c.deliver.result (kept_of c.self.inside.parts) c.args.self.now (kept_of c.deliver.new.self) c.args.bytes.now c.args.now c.args.draw c.self.view_is
    c.deliver.ensures.state

pub returns-clause-refused : goal.returns-clause-refused
returns-clause-refused c =
    refused c.deliver.result (kept_of c.self.inside.parts) c.args.self.now (kept_of c.deliver.new.self) c.self.view_is c.deliver.ensures.refused

pub returns-clause-wanted : goal.returns-clause-wanted
returns-clause-wanted c =
    wanted c.deliver.result (kept_of c.self.inside.parts) c.args.self.now c.args.bytes.now c.self.view_is c.deliver.ensures.wanted

pub invariant_of-self : goal.invariant_of-self
invariant_of-self c =
    sound_after c.deliver.result (kept_of c.self.inside.parts) (kept_of c.deliver.new.self) c.args.bytes.now c.args.now c.args.draw
    c.deliver.ensures.state c.deliver.ensures.refused c.self.invariant
