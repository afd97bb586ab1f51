use Rattle.std.proofs.Common.{◌∙◌, ap, sym, subst, is_some}
use Rattle.mark_book.specs.BookState.{BookState}
use Rattle.mark_book.specs.BookState as book
use Rattle.norm_send_rules.specs.Watermarks.{oldest}
use Rattle.norm_sender.specs.SenderKept.{SenderKept}
use Rattle.norm_program.proofs.TailLemmas.{asked_some}
use Rattle.norm_program.proofs.tail.has_open.Goals as goal

pub returns : goal.returns
returns c w st =
    let k = c.args.world.now in
    let stands = subst (λ (b : BookState). book.Stands k.sender.p b w.sender) (sym (c.book.ensures ∙ ap (λ (s : SenderKept). s.book) c.sender.ensures)) st.sender.agrees.book in
    c.is_some.ensures ∙ ap is_some (c.oldest.ensures k.sender.p w.sender stands) ∙ asked_some (oldest w.sender)
