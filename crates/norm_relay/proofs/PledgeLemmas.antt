-- An acknowledgement gets a watermark: all that it confirms above stands before that below.
use Rattle.std.proofs.Common.{◌≡◌, ℕ, List, [], ◌++◌, Bool, false, Option, None, Some, Ok, sym, ap, ◌∙◌, subst, append_assoc, append-nil}
use Rattle.norm_base.specs.Settings.{Settings}
use Rattle.fec_plan.specs.declared.position.Position.{Position}
use Rattle.norm_ext.specs.Written.{Written}
use Rattle.norm_order.specs.Entries.{Entry}
use Rattle.norm_order.specs.Shapes.{shapes_of, last_source}
use Rattle.norm_order.specs.Upto.{all_parts, upto}
use Rattle.norm_order.specs.declared.up.Up.{Up}
use Rattle.norm_receive_rules.specs.ReceiverState.{ReceiverState}
use Rattle.norm_send_rules.proofs.CutNames.{cut_range}
use Rattle.norm_send_rules.specs.declared.job.Receipt.{Receipt}
use Rattle.norm_safety.specs.Fronts.{IsFront}
use Rattle.norm_safety.specs.LastUpto.{IsAllOf}
use Rattle.norm_safety.specs.OnceEach.{order_of}
use Rattle.norm_safety.specs.World.{World}
use Rattle.norm_safety.proofs.LastLemmas.{last_is_source}
use Rattle.norm_safety.proofs.LastUptoLemmas.{last_upto}
use Rattle.norm_safety.proofs.SenderHolds.{current_sized, some_octets}
use Rattle.norm_relay.specs.Flat.{Item, flat_from, flat, open_behind, order_items}
use Rattle.norm_relay.specs.HandLaws.{handed_in, HandsIn}
use Rattle.norm_relay.specs.Handing.{history_of, IsLawfulSide}
use Rattle.norm_relay.specs.OrderLaws.{Ordered}
use Rattle.norm_relay.specs.Pumping.{mark_position, marks}
use Rattle.norm_relay.specs.RelayState.{Relaying, next_origin}
use Rattle.norm_relay.specs.Sides.{Side}
use Rattle.norm_relay.proofs.BeginLemmas.{front_before}
use Rattle.norm_relay.proofs.ConfirmLemmas.{Confirmed, Pledged}
use Rattle.norm_relay.proofs.EndedOrders.{AreEnded, orders_ended, current_ended}
use Rattle.norm_relay.proofs.FlatLemmas.{flat_append}
use Rattle.norm_relay.proofs.GoesOnLemmas.{now_is, sender_holds, Marked, marked_order}
use Rattle.norm_relay.proofs.HandLemmas.{IsRun, side_run, core_of, Handed}
use Rattle.norm_relay.proofs.OrderLemmas.{marks_ordered}
use Rattle.norm_relay.proofs.StreamItems.{cut_order}

-- ---- prefixes

pub flat_front : (front whole : List Up) → IsFront front whole → IsFront (flat front) (flat whole)
flat_front front whole (rest, is) = (flat_from (open_behind false front) rest, ap flat is ∙ flat_append false front rest)

pub fronts_join : {X : Type 0} (a b c : List X) → IsFront a b → IsFront b c → IsFront a c
fronts_join {X} a b c (first, is) (second, is') =
    (first ++ second, is' ∙ ap (λ (xs : List X). xs ++ second) is ∙ append_assoc a first second)

-- ---- a mark

-- what was enqueued is what the node handed up, if nothing waits
handed_done : (anew : Bool) (handed : ℕ → List Up) (done waiting : List Up) (i : Option ℕ) (id : ℕ) → HandsIn anew handed done waiting i → anew ≡ false
    → waiting ≡ [] → i ≡ Some id → handed id ≡ done
handed_done anew handed done waiting i id at begun empty is =
    subst (λ (o : Option ℕ). HandsIn false handed done [] o) is
    (subst (λ (ups : List Up). HandsIn false handed done ups i) empty (subst (λ a. HandsIn a handed done waiting i) begun at))
    ∙ append-nil done

-- everything that stands before the watermark is, as items, what was enqueued, except for a beginning
record AllBefore (q : Settings) (order : List Entry) (mark : Position) (done : List Up) : Type 0 where
  all : IsAllOf q order mark
  items : flat done ≡ flat (upto q order mark) ++ flat_from (open_behind false (upto q order mark)) all.rest

all_before : (s : Side) (done : List Up) (mark : Position) → IsRun s → IsLawfulSide s → order_items s.world.sender.current.order ≡ flat done
    → Marked s.p s.world.sender.current.order mark → AllBefore s.p s.world.sender.current.order mark done
all_before s done mark is l ordered marked =
    let q : Settings = s.p in
    let order : List Entry = s.world.sender.current.order in
    let now : (history_of s).now ≡ s.world = now_is s is in
    let last : last_source (shapes_of q (history_of s).now.sender.current.order) ≡ Some mark =
    ap (λ (w : World). last_source (shapes_of q w.sender.current.order)) now ∙ marked.last in
    let all : IsAllOf q order mark =
    subst (λ (w : World). IsAllOf q w.sender.current.order mark) now (last_upto q l.range s.events l.lawful l.events mark last) in
    record {
      all = all;
      items =
          sym ordered
          ∙ ap order_items marked.cut.is
          ∙ sym (cut_order q marked.cut.front marked.cut.last (some_octets q l.range) marked.cut.done marked.cut.end)
          ∙ ap (λ (es : List Entry). flat (all_parts q 0 es)) (sym marked.cut.is)
          ∙ ap flat (sym all.whole)
          ∙ flat_append false (upto q order mark) all.rest;
    }

pub pledge_begins : (now : ℕ) (x : Relaying) (datagram : Written) → Handed (core_of x) → Ordered x → IsRun x.lower → x.anew ≡ false → x.waiting ≡ []
    → Confirmed x.upper x.node datagram → IsLawfulSide (marks now x).0.lower → (receipt : Receipt) (mark : Position) → (marks now x).1 ≡ Ok receipt
    → mark_position receipt ≡ Some mark
    → Pledged x.upper x.node x.lower.p (marks now x).0.lower.world.sender.current.order datagram mark
pledge_begins now x datagram h ordered run begun empty c lawful receipt mark ok is =
    let p : Settings = x.upper.p in
    let q : Settings = x.lower.p in
    let s : Side = (marks now x).0.lower in
    let runs : IsRun s = side_run x.lower _ run in
    let order : List Entry = s.world.sender.current.order in
    let above : List Entry = order_of x.upper.world.sender c.ack.instance in
    let handed : handed_in x.upper x.node c.ack.instance ≡ x.done =
    handed_done x.anew (handed_in x.upper x.node) x.done x.waiting h.state.instance c.ack.instance h.handed begun empty
    (sym (ap (λ (o : Option ReceiverState). elim o [ Some r ↦ r.instance | None ↦ None ]) h.found) ∙ c.inside) in
    let enqueued : IsFront (flat (upto p above c.at)) (flat x.done) =
    flat_front (upto p above c.at) x.done (subst (λ (ups : List Up). IsFront (upto p above c.at) ups) handed c.stood.1) in
    let below : AreEnded x.lower.world.sender.current.order =
    subst (λ (w : World). AreEnded w.sender.current.order) (sym run) (current_ended q x.lower.events) in
    let ended : AreEnded above =
    subst (λ (w : World). AreEnded (order_of w.sender c.ack.instance)) (sym h.run) (orders_ended p x.upper.events c.ack.instance) in
    let marked : Marked q order mark = marked_order q x.lower.world.sender (next_origin x) receipt mark below ok is in
    let before : AllBefore q order mark x.done = all_before s x.done mark runs lawful (marks_ordered now x ordered).order marked in
    record {
      confirmed = c;
      marked = last_is_source q (cut_range q lawful.range) order mark (current_sized q s.world.sender (sender_holds s runs lawful)) marked.last;
      front =
          front_before p above c.at (flat (upto q order mark)) (open_behind false (upto q order mark)) before.all.rest ended c.stood.0 before.all.beginning
          (subst (λ (items : List Item). IsFront (flat (upto p above c.at)) items) before.items enqueued);
    }
