use Rattle.std.proofs.Common.{List, length, ap, ◌∙◌, arith}
use Rattle.std.specs.Prelude.{filter}
use Rattle.mark_book.specs.BookState.{Kept}
use Rattle.mark_book.proofs.Keeping.{front_of}
use Rattle.mark_book.proofs.Lookups.{untold_of_rest, filter_at_most}
use Rattle.mark_book.proofs.watermarks.Watermarks.count_untold.Goals as goal

pub overflow_cast-result : goal.overflow_cast-result
overflow_cast-result c =
    let n = untold_of_rest _ _ _ _ c.deref.ensures.value (front_of _ _ c.self.invariant.done) c.count_untold.ensures in
    let most = filter_at_most (λ (k : Kept). k.untold) c.self.inside.all.items in
    let counted = c.self.invariant.counted in
    omega (arith, n, most, counted)

pub returns : goal.returns
returns c =
    untold_of_rest _ _ _ _ c.deref.ensures.value (front_of _ _ c.self.invariant.done) c.count_untold.ensures
    ∙ ap (λ (ks : List Kept). length (filter (λ (k : Kept). k.untold) ks)) c.self.view_is
