use Rattle.std.proofs.Common.{sym, ap, subst, ◌∙◌, Some}
use Rattle.mark_book.specs.BookState.{BookState, Kept, Stands}
use Rattle.std.specs.Prelude.{is_none}
use Rattle.mark_book.specs.declared.watermark.OpenWatermark.{OpenWatermark}
use Rattle.mark_book.specs.BookState.{MarkState}
use Rattle.mark_book.proofs.Lookups.{found_in_both, read_none, read_some}
use Rattle.mark_book.proofs.book.Book.oldest.Goals as goal

abbrev open_state : MarkState → OpenWatermark
open_state a = record { mark = a.mark; at = a.at }

pub returns-in_err-watermark : goal.returns-in_err-watermark
returns-in_err-watermark c = λ p s stands.
    let both = found_in_both (λ a. is_none a.ended) p _ s (subst (λ (b : BookState). Stands p b s) (sym c.self.view_is) stands) in
    c.from_residual.ensures ∙ read_none open_state _ _ both (sym c.oldest.ensures ∙ c.in_err-watermark.was)

pub returns : goal.returns
returns c = λ p s stands.
    let both = found_in_both (λ a. is_none a.ended) p _ s (subst (λ (b : BookState). Stands p b s) (sym c.self.view_is) stands) in
    ap (λ (k : Kept). Some (record { mark = k.mark; at = k.at })) c.watermark.view_is
    ∙ read_some open_state _ _ c.in_ok-watermark.watermark both (sym c.oldest.ensures ∙ c.in_ok-watermark.was)
