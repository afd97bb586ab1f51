use Rattle.std.proofs.Common.{◌≡◌, ◌∙◌, ap, sym, subst, []}
use Rattle.std.specs.Prelude.{IfNone}
use Rattle.norm_receive_rules.specs.Taking.{took}
use Rattle.norm_receiver.specs.Inside.{kept_of}
use Rattle.norm_receiver.specs.ReceiverKept.{ReceiverKept}
use Rattle.norm_receiver.specs.ReceiverSound.{StandsFor}
use Rattle.norm_receiver.proofs.ReceiverLemmas.{takes_up, given_in}
use Rattle.norm_receiver.proofs.receiver.Receiver.take_up.Goals as goal

pub returns-clause-profile : goal.returns-clause-profile
returns-clause-profile c = c.take_up.ensures.profile ∙ ap (λ (k : ReceiverKept). k.p) c.self.view_is

pub returns-clause-stands : goal.returns-clause-stands
returns-clause-stands c s h =
    let here = subst (λ (v : ReceiverKept). StandsFor v s) (sym c.self.view_is) h in
    let after = c.take_up.ensures.state s here.agrees in
    (takes_up (kept_of c.self.inside.parts).p (kept_of c.take_up.new.self) s after.0 here.outside, after.1)

pub returns-clause-none : goal.returns-clause-none
returns-clause-none c =
    subst (λ (v : ReceiverKept). IfNone c.take_up.result ((v.hold.ups ≡ []) × (kept_of c.take_up.new.self ≡ v))) c.self.view_is c.take_up.ensures.none

pub returns-clause-some : goal.returns-clause-some
returns-clause-some c =
    given_in c.take_up.result (kept_of c.self.inside.parts) c.args.self.now c.self.view_is (λ s stands. (c.take_up.ensures.state s stands).1)

pub invariant_of-self : goal.invariant_of-self
invariant_of-self c =
    let here = c.self.invariant in
    record {
      state = (took here.state).0;
      stands = takes_up (kept_of c.self.inside.parts).p (kept_of c.take_up.new.self) here.state (c.take_up.ensures.state here.state here.stands.agrees).0 here.stands.outside;
    }
