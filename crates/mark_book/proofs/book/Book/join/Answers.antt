use Rattle.std.proofs.Common.{◌+◌, [], ◌∷◌, ◌++◌, map, refl, sym, ap, subst, ◌∙◌, Ok}
use Rattle.mark_book.specs.BookState.{BookState, Stands}
use Rattle.mark_book.specs.BookSound.{AreNumbered}
use Rattle.mark_book.specs.BookMoves.{settled_by, opened}
use Rattle.mark_book.proofs.Lookups.{many_in_both}
use Rattle.mark_book.proofs.Standing.{stands_by, stands_joined}
use Rattle.mark_book.proofs.book.Book.join.Goals as goal

pub returns-clause-stands : goal.returns-clause-stands
returns-clause-stands c = λ p s by stands other.
    let here = (subst (λ (b : BookState). Stands p b s) (sym c.self.view_is) stands) in
    let pushed = c.in-Ok.ensures.pushed in
    let more = pushed.1 ∙ ap (λ n. c.self.inside.watermarks ++ opened n c.args.at c.args.quorum ∷ []) pushed.0 in (
      stands_by p _ _ _ refl refl (c.settle.ensures.settled ∙ ap (map (settled_by c.self.inside.listings)) more) refl
          (stands_joined by c.args.at c.args.quorum p _ s (subst (AreNumbered 1) more c.settle.ensures.numbered) here),
      ap Ok (pushed.0 ∙ ap (λ n. n + 1) (many_in_both p _ s here)),
    )
