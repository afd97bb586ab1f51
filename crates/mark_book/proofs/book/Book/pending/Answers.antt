use Rattle.std.proofs.Common.{sym, ap, subst, ◌∙◌}
use Rattle.mark_book.specs.BookState.{BookState, Kept, Stands}
use Rattle.std.specs.Prelude.{◌==◌, slice_get}
use Rattle.mark_book.specs.BookMoves.{left_of}
use Rattle.mark_book.proofs.Lookups.{found_in_both, then_none, then_some}
use Rattle.mark_book.proofs.book.Book.pending.Goals as goal

pub returns-in_err-watermark : goal.returns-in_err-watermark
returns-in_err-watermark c = λ p s stands.
    let both = found_in_both (λ a. a.mark == c.args.mark) p _ s (subst (λ (b : BookState). Stands p b s) (sym c.self.view_is) stands) in
    c.from_residual.ensures ∙ then_none (λ a. slice_get (left_of s.listings a.at) c.args.i) _ _ both (sym c.find.ensures ∙ c.in_err-watermark.was)

pub returns : goal.returns
returns c = λ p s stands.
    let here = (subst (λ (b : BookState). Stands p b s) (sym c.self.view_is) stands) in
    let both = found_in_both (λ a. a.mark == c.args.mark) p _ s here in
    c.nth_left.ensures
    ∙ ap (λ ls. slice_get (left_of ls c.watermark.inside.at) c.args.i) here.listings
    ∙ ap (λ (k : Kept). slice_get (left_of s.listings k.at) c.args.i) c.watermark.view_is
    ∙ then_some (λ a. slice_get (left_of s.listings a.at) c.args.i) _ _ c.in_ok-watermark.watermark both (sym c.find.ensures ∙ c.in_ok-watermark.was)
