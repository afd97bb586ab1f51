use Rattle.std.proofs.Common.{◌≡◌, List, sym, ap, ◌∙◌, rules, arith}
use Rattle.std.specs.Prelude.{not}
use Rattle.norm_send_rules.specs.SenderState.{Listing}
use Rattle.norm_send_rules.specs.Watermarks.{is_past}
use Rattle.mark_book.specs.BookMoves.{left_count}
use Rattle.mark_book.proofs.Lookups.{filter_at_most}
use Rattle.mark_book.proofs.Members.{left_counted}
use Rattle.mark_book.proofs.listings.Listings.count_left.Goals as goal

pub overflow_cast-result : goal.overflow_cast-result
overflow_cast-result c =
    let n : c.count_short.result ≡ left_count c.args.self.now c.args.at =
    search rules ∙ sym (left_counted c.args.at c.self.inside.past.entries) ∙ ap (λ (ls : List Listing). left_count ls c.args.at) c.self.view_is in
    let most = filter_at_most (λ l. not (is_past c.args.at l)) c.args.self.now in
    let few = c.requires in
    omega (arith, n, most, few)

pub returns : goal.returns
returns c =
    search rules ∙ sym (left_counted c.args.at c.self.inside.past.entries) ∙ ap (λ (ls : List Listing). left_count ls c.args.at) c.self.view_is
