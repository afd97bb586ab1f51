use Rattle.norm_receive_rules.specs.Leaving.{enters}
use Rattle.norm_receiver.specs.Inside.{kept_of}
use Rattle.norm_receiver.proofs.EnteringLemmas.{named_in}
use Rattle.norm_receiver.proofs.parts.Parts.go_on.Goals as goal

pub returns-clause-state : goal.returns-clause-state
returns-clause-state c = λ s stands.
    named_in (kept_of c.take_in_at.new.self) c.in_ok-next.next.profile c.args.self.now.profile c.args.now c.args.draw c.args.naming.now.object c.in-Some.index c.args.said.now
    (enters c.args.naming.now.instance s) s c.in_ok-next.ensures.profile c.in-Some.ensures
    (c.in_ok-take_in_at.ensures.state (enters c.args.naming.now.instance s) (c.in_ok-next.ensures.state s stands))
