use Rattle.std.proofs.Common.{◌≡◌, List, refl, sym, ap, subst, ◌∙◌, Some, Option}
use Rattle.mark_book.specs.BookState.{BookState, Kept, Stands}
use Rattle.norm_send_rules.specs.SenderState.{SenderState}
use Rattle.norm_send_rules.specs.declared.news.News.{News}
use Rattle.norm_send_rules.specs.declared.news.News.TheVariants.{Done}
use Rattle.mark_book.specs.BookSound.{book_view}
use Rattle.mark_book.proofs.Lists.{if_none}
use Rattle.mark_book.proofs.Tellings.{none_untold, first_stays}
use Rattle.mark_book.proofs.Standing.{stands_by, told_nothing, told_mark}
use Rattle.mark_book.proofs.book.Book.tell_outcome.Goals as goal

pub returns-in_err-watermark-clause-stands : goal.returns-in_err-watermark-clause-stands
returns-in_err-watermark-clause-stands c = λ p s stands.
    let none = sym c.tell_first.ensures.first ∙ c.in_err-watermark.was in
    let here = (subst (λ (b : BookState). Stands p b s) (sym c.self.view_is) stands) in
    let told = told_nothing p (book_view c.self.inside) s (ap (λ (b : BookState). b.untold_nodes) c.self.view_is ∙ c.requires) (none_untold c.self.inside.watermarks none) here in
    subst (λ (x : SenderState × Option News). Stands p (record (book_view c.self.inside) { watermarks = c.tell_first.new.self }) x.0 × (c.from_residual.result ≡ x.1)) (sym told)
    (stands_by p _ _ _ refl refl (c.tell_first.ensures.told ∙ first_stays c.self.inside.watermarks none) refl here, c.from_residual.ensures)

pub returns-in_err-watermark-clause-same : goal.returns-in_err-watermark-clause-same
returns-in_err-watermark-clause-same c =
    let none = sym c.tell_first.ensures.first ∙ c.in_err-watermark.was in
    if_none _ _ (
    ap (λ (ks : List Kept). record (book_view c.self.inside) { watermarks = ks }) (c.tell_first.ensures.told ∙ first_stays c.self.inside.watermarks none)
    ∙ c.self.view_is)

pub returns-in_err-watermark-clause-nothing : goal.returns-in_err-watermark-clause-nothing
returns-in_err-watermark-clause-nothing c = λ p s stands.
    let none = sym c.tell_first.ensures.first ∙ c.in_err-watermark.was in
    let told = told_nothing p (book_view c.self.inside) s (ap (λ (b : BookState). b.untold_nodes) c.self.view_is ∙ c.requires) (none_untold c.self.inside.watermarks none) (subst (λ (b : BookState). Stands p b s) (sym c.self.view_is) stands) in
    if_none _ _ (ap (λ (x : SenderState × Option News). x.0) told)

pub returns-clause-stands : goal.returns-clause-stands
returns-clause-stands c = λ p s stands.
    let told = told_mark c.in_ok-watermark.watermark p (book_view c.self.inside) s c.tell_first.ensures.numbered (ap (λ (b : BookState). b.untold_nodes) c.self.view_is ∙ c.requires)
    (sym c.tell_first.ensures.first ∙ c.in_ok-watermark.was) (subst (λ (b : BookState). Stands p b s) (sym c.self.view_is) stands) in (
      stands_by p _ _ _ refl refl c.tell_first.ensures.told refl told.0,
      ap (λ (k : Kept). Some (Done k.mark c.outcome.result)) c.watermark.view_is
          ∙ ap (λ o. Some (Done c.in_ok-watermark.watermark.mark o)) c.outcome.ensures
          ∙ told.1,
    )
