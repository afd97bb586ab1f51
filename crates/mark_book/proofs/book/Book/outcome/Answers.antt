use Rattle.std.proofs.Common.{sym, ap, subst, ◌∙◌, Some}
use Rattle.mark_book.specs.BookState.{BookState, Stands}
use Rattle.std.specs.Prelude.{◌==◌}
use Rattle.mark_book.specs.BookState.{kept_state}
use Rattle.mark_book.proofs.Lookups.{found_in_both, read_none, read_some, outcome_at, outcome_is}
use Rattle.mark_book.proofs.book.Book.outcome.Goals as goal

pub returns-in_err-watermark : goal.returns-in_err-watermark
returns-in_err-watermark c = λ p s stands.
    let both = found_in_both (λ a. a.mark == c.args.mark) p _ s (subst (λ (b : BookState). Stands p b s) (sym c.self.view_is) stands) in
    c.from_residual.ensures ∙ read_none (outcome_at s.listings) _ _ both (sym c.find.ensures ∙ c.in_err-watermark.was)

pub returns : goal.returns
returns c = λ p s stands.
    let here = (subst (λ (b : BookState). Stands p b s) (sym c.self.view_is) stands) in
    let both = found_in_both (λ a. a.mark == c.args.mark) p _ s here in
    ap Some (c.outcome.ensures ∙ outcome_is c.self.inside.listings c.in_ok-watermark.watermark ∙ ap (λ ls. outcome_at ls (kept_state c.in_ok-watermark.watermark)) here.listings)
    ∙ read_some (outcome_at s.listings) _ _ c.in_ok-watermark.watermark both (sym c.find.ensures ∙ c.in_ok-watermark.was)
