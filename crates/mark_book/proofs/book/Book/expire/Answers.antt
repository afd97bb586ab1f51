use Rattle.std.proofs.Common.{refl, sym, subst}
use Rattle.mark_book.specs.BookState.{BookState, Stands}
use Rattle.mark_book.proofs.Standing.{stands_by, stands_expired}
use Rattle.mark_book.proofs.book.Book.expire.Goals as goal

pub returns : goal.returns
returns c = λ p s stands.
    stands_by p _ _ _ refl refl c.expire.ensures.expired refl (stands_expired c.args.mark p _ s c.expire.ensures.numbered (subst (λ (b : BookState). Stands p b s) (sym c.self.view_is) stands))
