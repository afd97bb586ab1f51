use Rattle.std.proofs.Common.{◌∙◌, ap, sym, subst}
use Rattle.norm_receive_rules.specs.Ticking.{ticked}
use Rattle.norm_receiver.specs.Inside.{kept_of}
use Rattle.norm_receiver.specs.ReceiverKept.{ReceiverKept}
use Rattle.norm_receiver.specs.ReceiverSound.{StandsFor, IsTick, IsAcknowledged}
use Rattle.norm_receiver.proofs.TickingLemmas.{ticks, acknowledged}
use Rattle.norm_receiver.proofs.receiver.Receiver.tick.Goals as goal

pub returns-clause-profile : goal.returns-clause-profile
returns-clause-profile c = c.tick.ensures.profile ∙ ap (λ (k : ReceiverKept). k.p) c.self.view_is

pub returns-clause-stands : goal.returns-clause-stands
returns-clause-stands c s h =
    let k = kept_of c.self.inside.parts in
    let new = kept_of c.tick.new.self in
    let here = subst (λ (v : ReceiverKept). StandsFor v s) (sym c.self.view_is) h in
    subst (λ (v : ReceiverKept). IsTick new c.tick.new.out c.tick.result (ticked v.p s c.args.now)) c.self.view_is
    (ticks k new c.tick.new.out c.tick.result c.args.now s (c.tick.ensures.sent s here.agrees) here.outside)

pub returns-clause-acknowledged : goal.returns-clause-acknowledged
returns-clause-acknowledged c s h =
    let k = kept_of c.self.inside.parts in
    let here = subst (λ (v : ReceiverKept). StandsFor v s) (sym c.self.view_is) h in
    subst (λ (v : ReceiverKept). IsAcknowledged v.p s c.tick.new.out c.tick.result) c.self.view_is
    (acknowledged k.p c.args.now s c.tick.new.out c.tick.result (c.tick.ensures.sent s here.agrees).octets)

pub invariant_of-self : goal.invariant_of-self
invariant_of-self c =
    let k = kept_of c.self.inside.parts in
    let new = kept_of c.tick.new.self in
    let here = c.self.invariant in
    record {
      state = (ticked k.p here.state c.args.now).0;
      stands =
          (ticks k new c.tick.new.out c.tick.result c.args.now here.state (c.tick.ensures.sent here.state here.stands.agrees) here.stands.outside).stands;
    }
