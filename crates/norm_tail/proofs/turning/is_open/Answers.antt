use Rattle.std.proofs.Common.{ap, sym, subst, ◌∙◌, false}
use Rattle.std.specs.Option.{option_map_or}
use Rattle.mark_book.specs.BookState.{BookState, Stands}
use Rattle.norm_sender.specs.SenderKept.{SenderKept}
use Rattle.norm_safety.specs.Tail.{says_open}
use Rattle.norm_tail.proofs.turning.is_open.Goals as goal

pub returns : goal.returns
returns c w st =
    let k = c.args.world.now in
    let stands = subst (λ (b : BookState). Stands k.sender.p b w.sender) (sym (c.book.ensures ∙ ap (λ (s : SenderKept). s.book) c.sender.ensures)) st.sender.agrees.book in
    c.says_open.ensures ∙ ap (λ o. option_map_or says_open o false) (c.outcome.ensures k.sender.p w.sender stands)
