use Rattle.std.proofs.Common.{sym, subst}
use Rattle.nack_union.specs.Kept.{MayRetire, asked_so_far}
use Rattle.nack_union.specs.UnionState.{UnionState, Stands}
use Rattle.nack_union.proofs.union.Union.retire.Goals as goal

pub retire-requires : goal.retire-requires
retire-requires c = subst (λ (u : UnionState). MayRetire c.args.index c.args.block u.kept) (sym c.self.view_is) c.requires

pub returns-clause-stands : goal.returns-clause-stands
returns-clause-stands c = λ s stands.
    let u = c.self.inside in
    let here = subst (λ (v : UnionState). Stands v s) (sym c.self.view_is) stands in
    record {
      holds = (c.retire.ensures.stands u.profile s here.holds).0;
      collects = c.retire.ensures.collects u.profile s (asked_so_far s) here.holds here.collects;
    }

pub returns-clause-wanted : goal.returns-clause-wanted
returns-clause-wanted c = λ s stands.
    let here = subst (λ (v : UnionState). Stands v s) (sym c.self.view_is) stands in
    (c.retire.ensures.stands c.self.inside.profile s here.holds).1
