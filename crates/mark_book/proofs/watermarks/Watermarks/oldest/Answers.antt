use Rattle.std.proofs.Common.{ap, ◌∙◌}
use Rattle.std.specs.Prelude.{is_none, find}
use Rattle.mark_book.specs.BookState.{Kept}
use Rattle.mark_book.proofs.Keeping.{front_of}
use Rattle.mark_book.proofs.Lookups.{open_of_rest}
use Rattle.mark_book.proofs.watermarks.Watermarks.oldest.Goals as goal

pub returns : goal.returns
returns c =
    open_of_rest _ _ _ _ c.deref.ensures.value (front_of _ _ c.self.invariant.done) c.first_open.ensures
    ∙ ap (find (λ (k : Kept). is_none k.ended)) c.self.view_is
