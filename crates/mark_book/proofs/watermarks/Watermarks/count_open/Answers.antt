use Rattle.std.proofs.Common.{◌∙◌, ap, arith}
use Rattle.mark_book.specs.BookMoves.{open_count}
use Rattle.mark_book.proofs.Counts.{count_at_most}
use Rattle.mark_book.proofs.watermarks.Watermarks.count_open.Goals as goal

pub overflow_cast-result : goal.overflow_cast-result
overflow_cast-result c =
    let most = count_at_most c.self.inside.all.items in
    let still = c.self.invariant.still_open in
    let counted = c.self.invariant.counted in
    omega (arith, still, most, counted)

pub returns : goal.returns
returns c = c.self.invariant.still_open ∙ ap open_count c.self.view_is
