use Rattle.std.proofs.Common.{◌≡◌, ◌≤◌, [], length, map, sym, ap, subst, ◌∙◌, arith, rules}
use Rattle.mark_book.specs.BookState.{BookState, Kept, Stands}
use Rattle.std.specs.Prelude.{nat_eq}
use Rattle.std.specs.Set.{is_member}
use Rattle.std.proofs.lemmas.List.{length-map}
use Rattle.std.proofs.lemmas.Bool.{false≢true}
use Rattle.norm_order.specs.Sets.{Rises}
use Rattle.norm_send_rules.specs.SenderState.{unlisted}
use Rattle.mark_book.specs.Answers.{once_each}
use Rattle.mark_book.proofs.Members.{at_most_once, once_some, receivers_once, receivers_many}
use Rattle.mark_book.proofs.book.Book.new.Goals as goal

pub len-requires : goal.len-requires
len-requires c =
    let many = ap length c.in_ok-listings.ensures ∙ length-map (once_each c.args.nodes.now) _ in
    let most = at_most_once c.args.nodes.now in
    let few = c.requires.few in
    omega (arith, many, most, few)

pub invariant_of-result : goal.invariant_of-result
invariant_of-result c =
    let many = ap length c.in_ok-listings.ensures ∙ length-map (once_each c.args.nodes.now) _ in
    let most = at_most_once c.args.nodes.now in
    let few = c.requires.few in
    let some = once_some c.args.nodes.now c.requires.some in
    let none = c.in_ok-untold.ensures.items in
    let room : length c.args.nodes.now ≤ c.in_ok-untold.untold.cap = search rules in
    record {
      some = omega (arith, many, some);
      few = omega (arith, many, most, few);
      rise = subst Rises (sym none) tt;
      listed = λ q member. absurd (false≢true (ap (λ ns. is_member nat_eq ns q) (sym none) ∙ member));
      room = omega (arith, many, most, room);
    }

pub returns-clause-stands : goal.returns-clause-stands
returns-clause-stands c = λ p instance nodes.
    let once = c.in_ok-listings.ensures ∙ ap unlisted (receivers_once p c.args.nodes.now nodes) in
    let none : c.new.result ≡ [] = c.new.ensures in
    record {
      receivers = c.len.ensures ∙ ap length once ∙ length-map c.args.nodes.now _ ∙ receivers_many p c.args.nodes.now nodes;
      listings = once ∙ ap unlisted nodes;
      watermarks = ap (map Rattle.mark_book.specs.BookState.kept_state) none;
      nodes = c.in_ok-untold.ensures.items;
      marks = ap Rattle.mark_book.specs.BookState.untold_marks none;
    }
