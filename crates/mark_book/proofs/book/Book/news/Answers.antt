use Rattle.std.proofs.Common.{◌≡◌, ◌<◌, length, refl, sym, ap, subst, ◌∙◌, rules}
use Rattle.mark_book.specs.BookState.{BookState, Stands}
use Rattle.norm_send_rules.specs.Telling.{past_news}
use Rattle.mark_book.specs.BookMoves.{past_in}
use Rattle.mark_book.specs.BookSound.{book_view}
use Rattle.mark_book.proofs.Nodes.{first_node}
use Rattle.mark_book.proofs.Standing.{stands_by, told_node}
use Rattle.mark_book.proofs.book.Book.news.Goals as goal

pub returns-clause-stands : goal.returns-clause-stands
returns-clause-stands c = λ p s stands.
    let some : 0 < length c.self.inside.untold.items = search rules in
    let nodes = first_node c.self.inside.untold.items c.remove-node.new.self.items c.remove-node.result some c.remove-node.ensures.value c.remove-node.ensures.items in
    let told = told_node c.remove-node.result c.remove-node.new.self.items p (book_view c.self.inside) s nodes (subst (λ (b : BookState). Stands p b s) (sym c.self.view_is) stands) in
    let same : c.index.result.now ≡ c.remove-node.result = search rules in (
      stands_by p _ _ _ refl refl refl refl told.0,
      ap (past_news c.remove-node.result) (sym c.in_ok-at.was ∙ c.past.ensures ∙ ap (past_in c.self.inside.listings) same) ∙ told.1,
    )
