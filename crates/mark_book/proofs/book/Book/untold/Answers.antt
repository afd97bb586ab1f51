use Rattle.std.proofs.Common.{length, sym, ap, subst, ◌∙◌, arith}
use Rattle.mark_book.specs.BookState.{BookState, Stands}
use Rattle.mark_book.proofs.Lookups.{untold_in_both}
use Rattle.mark_book.proofs.book.Book.untold.Goals as goal

pub returns : goal.returns
returns c = λ p s stands.
    let here = (subst (λ (b : BookState). Stands p b s) (sym c.self.view_is) stands) in
    let nodes = ap length here.nodes in
    let marks = c.count_untold.ensures ∙ untold_in_both p _ s here in
    let len = c.len.ensures ∙ c.self.inside.untold.ok.0 in
    omega (arith, nodes, marks, len)
