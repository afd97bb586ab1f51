use Rattle.std.proofs.Common.{◌≡◌, List, sym, ap, ◌∙◌, rules, arith}
use Rattle.norm_send_rules.specs.SenderState.{Listing}
use Rattle.norm_send_rules.specs.Watermarks.{is_past}
use Rattle.mark_book.specs.BookMoves.{past_count}
use Rattle.mark_book.proofs.Lookups.{filter_at_most}
use Rattle.mark_book.proofs.Members.{past_counted}
use Rattle.mark_book.proofs.listings.Listings.count_past.Goals as goal

pub overflow_cast-result : goal.overflow_cast-result
overflow_cast-result c =
    let n : c.count_reached.result ≡ past_count c.args.self.now c.args.at =
    search rules ∙ sym (past_counted c.args.at c.self.inside.past.entries) ∙ ap (λ (ls : List Listing). past_count ls c.args.at) c.self.view_is in
    let most = filter_at_most (is_past c.args.at) c.args.self.now in
    let few = c.requires in
    omega (arith, n, most, few)

pub returns : goal.returns
returns c =
    search rules ∙ sym (past_counted c.args.at c.self.inside.past.entries) ∙ ap (λ (ls : List Listing). past_count ls c.args.at) c.self.view_is
