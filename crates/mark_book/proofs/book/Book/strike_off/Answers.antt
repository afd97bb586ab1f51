use Rattle.std.proofs.Common.{◌≡◌, ◌<◌, ◌≤◌, List, length, map, refl, sym, ap, subst, ◌∙◌, arith}
use Rattle.mark_book.specs.BookState.{BookState, Stands}
use Rattle.std.specs.Prelude.{◌==◌, not, nat_eq, is_some}
use Rattle.std.specs.Set.{is_member}
use Rattle.norm_order.specs.Sets.{Rises}
use Rattle.norm_send_rules.specs.SenderState.{Listing}
use Rattle.mark_book.specs.BookMoves.{settled_by, past_in}
use Rattle.mark_book.proofs.Lookups.{filter_at_most}
use Rattle.mark_book.proofs.Nodes.{rise_left, said_without}
use Rattle.mark_book.proofs.Standing.{stands_by, stands_struck}
use Rattle.mark_book.proofs.book.Book.strike_off.Goals as goal

pub settle-requires : goal.settle-requires
settle-requires c =
    let many = ap length c.strike.ensures.left in
    let most = filter_at_most (λ (l : Listing). not (l.node == c.args.node)) c.self.inside.listings in
    let few = c.self.invariant.few in
    omega (arith, many, most, few)

pub invariant_of-self : goal.invariant_of-self
invariant_of-self c =
    let many = ap length c.strike.ensures.left in
    let most = filter_at_most (λ (l : Listing). not (l.node == c.args.node)) c.self.inside.listings in
    let one = c.strike.ensures.one in
    let two : 1 < length c.self.inside.listings = subst (λ (b : BookState). 1 < length b.listings) (sym c.self.view_is) c.requires in
    let few = c.self.invariant.few in
    let room : length c.self.inside.listings ≤ c.self.inside.untold.cap = c.self.invariant.room in
    let kept : c.take_node.new.nodes.cap ≡ c.self.inside.untold.cap = c.take_node.ensures.capacity in
    record {
      some = omega (arith, one, two);
      few = omega (arith, many, most, few);
      rise = subst Rises (sym c.take_node.ensures.nodes) (rise_left (λ other. not (other == c.args.node)) c.self.inside.untold.items c.self.invariant.rise);
      listed = λ q member.
          ap (λ (ls : List Listing). is_some (past_in ls q)) c.strike.ensures.left
          ∙ said_without c.args.node c.self.inside.untold.items c.self.inside.listings c.self.invariant.listed q
          (ap (λ ns. is_member nat_eq ns q) (sym c.take_node.ensures.nodes) ∙ member);
      room = omega (arith, many, most, room, kept);
    }

pub returns : goal.returns
returns c = λ p s stands.
    stands_by p _ _ _ refl c.strike.ensures.left (c.settle.ensures.settled ∙ ap (λ (ls : List Listing). map (settled_by ls) c.self.inside.watermarks) c.strike.ensures.left) c.take_node.ensures.nodes
    (stands_struck c.args.node p _ s c.settle.ensures.numbered (subst (λ (b : BookState). Stands p b s) (sym c.self.view_is) stands))
