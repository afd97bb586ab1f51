use Rattle.std.proofs.Common.{sym, subst, ◌∙◌}
use Rattle.mark_book.specs.BookState.{BookState, Stands}
use Rattle.mark_book.proofs.Lookups.{open_in_both}
use Rattle.mark_book.proofs.book.Book.open.Goals as goal

pub returns : goal.returns
returns c = λ p s stands. c.count_open.ensures ∙ open_in_both p _ s (subst (λ (b : BookState). Stands p b s) (sym c.self.view_is) stands)
