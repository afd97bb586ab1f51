use Rattle.std.proofs.Common.{refl, sym, subst}
use Rattle.mark_book.specs.BookState.{BookState, Stands}
use Rattle.mark_book.proofs.Standing.{stands_by, stands_begun}
use Rattle.mark_book.proofs.book.Book.cut_all.Goals as goal

pub returns : goal.returns
returns c = λ p s id stands.
    stands_by p _ _ _ refl c.forget.ensures c.cut.ensures.cut c.clear.ensures.items (stands_begun id p _ s c.cut.ensures.numbered (subst (λ (b : BookState). Stands p b s) (sym c.self.view_is) stands))
