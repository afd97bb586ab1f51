use Rattle.std.proofs.Common.{◌≤◌, List, length, map, refl, sym, ap, subst, ◌∙◌, arith}
use Rattle.mark_book.specs.BookState.{BookState, Stands}
use Rattle.std.specs.Prelude.{nat_lt, nat_eq, is_some}
use Rattle.std.specs.Set.{is_member}
use Rattle.std.proofs.lemmas.List.{length-map}
use Rattle.norm_order.specs.Sets.{with_member, Rises}
use Rattle.norm_send_rules.specs.SenderState.{Listing}
use Rattle.norm_send_rules.specs.Hearing.{listed_past}
use Rattle.mark_book.specs.BookMoves.{settled_by, past_in}
use Rattle.mark_book.proofs.Nodes.{rise_with, said_with, have_room}
use Rattle.mark_book.proofs.Standing.{stands_by, stands_credited}
use Rattle.mark_book.proofs.book.Book.ack.Goals as goal

pub put_node-requires : goal.put_node-requires
put_node-requires c =
    let news = sym c.rises.ensures ∙ c.if-not-rises.false in
    let le = have_room (with_member nat_lt c.args.node c.self.inside.untold.items) (map (listed_past c.args.node c.args.at) c.self.inside.listings)
    (rise_with c.args.node c.self.inside.untold.items c.self.invariant.rise)
    (said_with c.self.inside.untold.items c.self.inside.listings c.args.node c.args.at c.self.invariant.listed news) in
    let many = length-map c.self.inside.listings (listed_past c.args.node c.args.at) in
    let room : length c.self.inside.listings ≤ c.self.inside.untold.cap = c.self.invariant.room in
    omega (arith, le, many, room)

pub invariant_of-self : goal.invariant_of-self
invariant_of-self c =
    let news = sym c.rises.ensures ∙ c.if-not-rises.false in
    let many = ap length c.raise.ensures ∙ length-map c.self.inside.listings (listed_past c.args.node c.args.at) in
    let some = c.self.invariant.some in
    let few = c.self.invariant.few in
    let room : length c.self.inside.listings ≤ c.self.inside.untold.cap = c.self.invariant.room in
    let kept : c.self.inside.untold.cap ≤ c.put_node.new.nodes.cap = c.put_node.ensures.capacity in
    record {
      some = omega (arith, many, some);
      few = omega (arith, many, few);
      rise = subst Rises (sym c.put_node.ensures.nodes) (rise_with c.args.node c.self.inside.untold.items c.self.invariant.rise);
      listed = λ q member.
          ap (λ (ls : List Listing). is_some (past_in ls q)) c.raise.ensures
          ∙ said_with c.self.inside.untold.items c.self.inside.listings c.args.node c.args.at c.self.invariant.listed news q
          (ap (λ ns. is_member nat_eq ns q) (sym c.put_node.ensures.nodes) ∙ member);
      room = omega (arith, many, room, kept);
    }

pub returns : goal.returns
returns c = λ p s stands.
    let news = sym c.rises.ensures ∙ c.if-not-rises.false in
    stands_by p _ _ _ refl c.raise.ensures (c.settle.ensures.settled ∙ ap (λ (ls : List Listing). map (settled_by ls) c.self.inside.watermarks) c.raise.ensures) c.put_node.ensures.nodes
    (stands_credited c.args.node c.args.at p _ s c.settle.ensures.numbered news (subst (λ (b : BookState). Stands p b s) (sym c.self.view_is) stands))
