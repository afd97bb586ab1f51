use Rattle.std.proofs.Common.{sym, subst}
use Rattle.nack_union.specs.Kept.{asked_so_far}
use Rattle.nack_union.specs.UnionState.{UnionState, Stands}
use Rattle.norm_send_rules.specs.Hearing.{joined_round}
use Rattle.nack_union.proofs.Heard.{stands_heard}
use Rattle.nack_union.proofs.union.Union.add.Goals as goal

pub returns-clause-stands : goal.returns-clause-stands
returns-clause-stands c = λ s now stands.
    let u = c.self.inside in
    let here = subst (λ (v : UnionState). Stands v s) (sym c.self.view_is) stands in
    subst (λ (v : UnionState). Stands (record { p = u.profile; kept = c.add.new.self }) (joined_round v.p s now c.args.requests)) c.self.view_is
    (stands_heard u.profile c.add.new.self s now c.args.requests (c.add.ensures.stands s here.holds) (c.add.ensures.collects s (asked_so_far s) here.holds here.collects))
