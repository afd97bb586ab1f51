use Rattle.std.proofs.Common.{sym, subst, ◌∙◌}
use Rattle.mark_book.specs.BookState.{BookState}
use Rattle.mark_book.specs.BookState as book
use Rattle.norm_relay.proofs.ticking.is_past.Goals as goal

pub returns : goal.returns
returns c s st =
    let k = c.args.sender.now in
    c.reached_by.ensures
    ∙ sym (c.least.ensures k.p s c.args.at (subst (λ (b : BookState). book.Stands k.p b s) (sym c.book.ensures) st.agrees.book))
