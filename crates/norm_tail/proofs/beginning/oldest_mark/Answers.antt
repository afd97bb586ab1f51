use Rattle.std.proofs.Common.{sym, ap, subst, ◌∙◌}
use Rattle.mark_book.specs.BookState.{BookState}
use Rattle.mark_book.specs.BookState as book
use Rattle.norm_sender.specs.SenderKept.{SenderKept}
use Rattle.norm_tail.proofs.BeginLemmas.{mark_none, mark_some}
use Rattle.norm_tail.proofs.beginning.oldest_mark.Goals as goal

pub returns-in_err-open : goal.returns-in_err-open
returns-in_err-open c w st =
    let k = c.args.world.now in
    let stands = subst (λ (b : BookState). book.Stands k.sender.p b w.sender) (sym (c.book.ensures ∙ ap (λ (s : SenderKept). s.book) c.sender.ensures)) st.sender.agrees.book in
    c.from_residual.ensures ∙ mark_none _ (sym (c.oldest.ensures k.sender.p w.sender stands) ∙ c.in_err-open.was)

pub returns : goal.returns
returns c w st =
    let k = c.args.world.now in
    let stands = subst (λ (b : BookState). book.Stands k.sender.p b w.sender) (sym (c.book.ensures ∙ ap (λ (s : SenderKept). s.book) c.sender.ensures)) st.sender.agrees.book in
    mark_some _ c.in_ok-open.open (sym (c.oldest.ensures k.sender.p w.sender stands) ∙ c.in_ok-open.was)
