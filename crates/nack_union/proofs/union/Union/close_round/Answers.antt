use Rattle.std.proofs.Common.{◌∙◌, ap, sym, subst}
use Rattle.nack_union.specs.UnionState.{UnionState, Stands}
use Rattle.std.specs.Prelude.{min, length, ◌-◌}
use Rattle.norm_send_rules.specs.Closing.{round_closed}
use Rattle.nack_union.proofs.Heard.{asked_by_round}
use Rattle.nack_union.proofs.union.Union.close_round.Goals as goal

pub returns-clause-stands : goal.returns-clause-stands
returns-clause-stands c = λ r s is stands.
    let u = c.self.inside in
    let here = subst (λ (v : UnionState). Stands v s) (sym c.self.view_is) stands in
    subst (λ (v : UnionState). Stands (record { p = u.profile; kept = c.close_round.new.self }) (round_closed v.p r s)) c.self.view_is (record {
      holds = (c.close_round.ensures.rules u.profile s r here.holds (asked_by_round u.profile u.collection s r is here.collects)).0;
      collects = c.close_round.ensures.begun u.profile (round_closed u.profile r s);
    })

pub returns-clause-answer : goal.returns-clause-answer
returns-clause-answer c = λ r s is stands.
    let u = c.self.inside in
    let here = subst (λ (v : UnionState). Stands v s) (sym c.self.view_is) stands in
    let rules = c.close_round.ensures.rules u.profile s r here.holds (asked_by_round u.profile u.collection s r is here.collects) in
    (rules.1 ∙ ap (λ (v : UnionState). min (length (round_closed v.p r s).wants - length s.wants) 4294967295) c.self.view_is, rules.2)
