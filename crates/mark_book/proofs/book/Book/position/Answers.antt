use Rattle.std.proofs.Common.{sym, ap, subst, ◌∙◌, Some}
use Rattle.mark_book.specs.BookState.{BookState, Kept, Stands}
use Rattle.std.specs.Prelude.{◌==◌}
use Rattle.mark_book.proofs.Lookups.{found_in_both, read_none, read_some}
use Rattle.mark_book.proofs.book.Book.position.Goals as goal

pub returns-in_err-watermark : goal.returns-in_err-watermark
returns-in_err-watermark c = λ p s stands.
    let both = found_in_both (λ a. a.mark == c.args.mark) p _ s (subst (λ (b : BookState). Stands p b s) (sym c.self.view_is) stands) in
    c.from_residual.ensures ∙ read_none (λ a. a.at) _ _ both (sym c.find.ensures ∙ c.in_err-watermark.was)

pub returns : goal.returns
returns c = λ p s stands.
    let both = found_in_both (λ a. a.mark == c.args.mark) p _ s (subst (λ (b : BookState). Stands p b s) (sym c.self.view_is) stands) in
    ap (λ (k : Kept). Some k.at) c.watermark.view_is ∙ read_some (λ a. a.at) _ _ c.in_ok-watermark.watermark both (sym c.find.ensures ∙ c.in_ok-watermark.was)
