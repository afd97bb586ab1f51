use Rattle.std.proofs.Common.{ℕ, Option, subst, sym, arith}
use Rattle.short_blocks.specs.State.{IsFirstFrom, ShortsState}
use Rattle.short_blocks.specs.Sound.{shorts_view}
use Rattle.short_blocks.proofs.Windows.{first_from}
use Rattle.short_blocks.proofs.shorts.Shorts.first.Goals as goal

pub returns : goal.returns
returns c =
    let s = c.self.inside in
    subst (λ (w : ShortsState). IsFirstFrom w w.start c.block_before.result) c.self.view_is
    (subst (λ (o : Option ℕ). IsFirstFrom (shorts_view s) s.start o) (sym c.block_before.ensures)
    (first_from s.start s.end s.first s.links.items s.start s.first c.self.invariant.linked.width (omega arith) c.self.invariant.linked.first))
