-- In an honest run of few objects nothing comes too late: all that nodes know and say has small indices, which lie near each other.
use Rattle.std.proofs.Common.{◌≡◌, ℕ, ◌+◌, ◌<◌, ◌≤◌, cond, List, [], ◌∷◌, ◌++◌, length, Bool, true, false, Option, None, Some, refl, sym, ap, subst, arith, inl, inr}
use Rattle.std.specs.Prelude.{◌⊎◌, ◌==◌, ◌&&◌, map, flat_map, find, slice_get, nat_le, nat_lt, nat_eq, option_and_then, IsTrue, IsSomeAnd, IfSome}
use Rattle.std.specs.List.{list_all, AllByRecursion, IsDistinct}
use Rattle.std.specs.Option.{option_map}
use Rattle.std.proofs.lemmas.Bool.Decides.{leb_tells}
use Rattle.std.proofs.lemmas.List.{length-append}
use Rattle.std.proofs.lemmas.Option.{slice_get_within}
use Rattle.norm_base.specs.Settings.{Settings, InRange}
use Rattle.norm_base.specs.Members.{receivers_of}
use Rattle.norm_base.specs.declared.node.Origin.{Origin}
use Rattle.fec_plan.specs.Points.{Point, point}
use Rattle.fec_plan.proofs.PointLemmas.{behind_point}
use Rattle.norm_ext.specs.Message.{Message, Info, Data, Flush, Eot, Squelch, RepairAdv, AckReq, Opaque, Nack, Ack, Report}
use Rattle.norm_ext.specs.Written.{Written}
use Rattle.norm_order.specs.Entries.{Entry}
use Rattle.norm_order.specs.Shapes.{closed_in}
use Rattle.norm_receive_rules.specs.Leaving.{is_in, goes_to, enters}
use Rattle.norm_receive_rules.specs.ReceiverState.{ReceiverState, receiver_opening}
use Rattle.norm_receive_rules.specs.Receiving.{received}
use Rattle.norm_receive_rules.specs.Taking.{took}
use Rattle.norm_receive_rules.specs.Ticking.{ticked as receiver_ticked}
use Rattle.norm_receive_rules.specs.ReceiverStep as receiver
use Rattle.norm_send_rules.specs.Hearing.{heard}
use Rattle.norm_send_rules.specs.InWindow.{last_index}
use Rattle.norm_send_rules.specs.Restarting.{instances}
use Rattle.norm_send_rules.specs.SenderState.{SenderState, Instance, Watermark}
use Rattle.norm_send_rules.specs.SenderStep as sender
use Rattle.norm_send_rules.specs.Telling.{told}
use Rattle.norm_send_rules.specs.Ticking.{ticked as sender_ticked}
use Rattle.norm_send_rules.proofs.StepLemmas.{step_holds as wants_step}
use Rattle.norm_send_rules.proofs.ShapeLemmas.{blocks_of}
use Rattle.norm_safety.specs.Events.{Event, Commanded, Delivered, Ticked, Offered, UpTaken, NewsAsked}
use Rattle.norm_safety.specs.History.{Happening, happens, last_world}
use Rattle.norm_safety.specs.InOrder.{drop_of}
use Rattle.norm_safety.specs.InTime.{MayComeLate, HonestFrom, Honest, accepted_in, most_objects, FewObjects, TimeLaws}
use Rattle.norm_safety.specs.Jobs.{IsEvent, AreEvents}
use Rattle.norm_safety.specs.Lawful.{knows_with, knows_in, receiver_knows, sender_knows_in, sender_knows, node_knows, most_apart, is_near, are_near, comes_in_time, accepted_with, MayCome, LawfulFrom}
use Rattle.norm_safety.specs.OnceEach.{origins_of, instance_ids, order_of}
use Rattle.norm_safety.specs.Said.{about, first_index}
use Rattle.norm_safety.specs.SaysSymbols.{SaysSymbol, SaysInfo}
use Rattle.norm_safety.specs.World.{World, world_opening, receiver_at, with_receiver, with_given, given_others, is_of, offers}
use Rattle.norm_safety.specs.WorldStep.{world_step, moved, node_move, receiver_move, run_from, run}
use Rattle.norm_safety.proofs.EntryLemmas.{clash}
use Rattle.norm_safety.proofs.LowKnown.{IsLow, low_nothing, received_low, SentLow, tick_low}
use Rattle.norm_safety.proofs.LowNeeds.{AreUpTo}
use Rattle.norm_safety.proofs.OnceRun.{once_in}
use Rattle.norm_safety.proofs.GoesOn.{later_long}
use Rattle.norm_safety.proofs.Onward.{Onward, instance_in, goes_on_itself, go_on_both}
use Rattle.norm_safety.proofs.OrderRun.{event_holds, opening_world, happening, found_holds}
use Rattle.norm_safety.proofs.SenderHolds.{SenderHolds, Steps, OrdersHold, command_steps, keeps_steps, order_later, orders_hold, point_in}
use Rattle.norm_safety.proofs.SenderKeeps.{heard_keeps, ticked_keeps, told_keeps}
use Rattle.norm_safety.proofs.Spoken.{IsTrueOf, IsSpoken, SaysTrue, current_order, entry_with}
use Rattle.norm_safety.proofs.TickTrue.{SentTrue, tick_true}
use Rattle.norm_safety.proofs.WorldHolds.{WorldHolds, all_filter, all_end, all_contains}

-- ---- indices that are small lie near each other

le_test : (a b : ℕ) → a ≤ b → nat_le a b ≡ true
le_test a b le = go (leb_tells a b)
  where
    go : ((nat_le a b ≡ true) × (a ≤ b)) ⊎ ((nat_le a b ≡ false) × (b < a)) → nat_le a b ≡ true
    go (inl tells) = tells.0
    go (inr tells) = absurd (let lt = tells.1 in omega (arith, lt, le))

both_true : (a b : Bool) → a ≡ true → b ≡ true → (a && b) ≡ true
both_true true b e f = f
both_true false b e f = absurd (clash e)

pub near_small : (known : ℕ) (indices : List ℕ) → known ≤ most_apart → AreUpTo most_apart indices → are_near (Some known) indices ≡ true
near_small known [] le all = refl
near_small known (index ∷ indices) le all =
    let few = all.0 in
    both_true (is_near known index) (list_all (is_near known) indices)
    (both_true (nat_le index (known + most_apart)) (nat_le known (index + most_apart)) (le_test index (known + most_apart) (omega (arith, few)))
    (le_test known (index + most_apart) (omega (arith, le))))
    (near_small known indices le all.1)

near_known : (known : Option ℕ) (indices : List ℕ) → IfSome known (λ k. k ≤ most_apart) → AreUpTo most_apart indices → are_near known indices ≡ true
near_known None indices le all = refl
near_known (Some known) indices le all = near_small known indices le all

-- ---- what nodes know

-- what a receiver knows of an instance that it is in, or goes on to
knows_low : (n : ℕ) (r : ReceiverState) (id : ℕ) → IsLow n r.knows → IfSome (knows_with r id) (λ k. k ≤ n)
knows_low n r id h = go (is_in r id) (goes_to r id)
  where
    go : (inside above : Bool) → IfSome (option_map (λ (s : ReceiverState). s.knows.known) (elim inside as (λ _. Option ReceiverState) [
      | true ↦ Some r
      | false ↦ elim above [ true ↦ Some (enters id r) | false ↦ None ]
    ])) (λ k. k ≤ n)
    go true above = h.known
    go false true = omega arith
    go false false = tt

knows_in_low : (n : ℕ) (r : ReceiverState) (id : ℕ) → IsLow n r.knows → IfSome (knows_in r id) (λ k. k ≤ n)
knows_in_low n r id h = go (is_in r id)
  where
    go : (b : Bool) → IfSome (elim b [ true ↦ Some r.knows.known | false ↦ None ]) (λ k. k ≤ n)
    go true = h.known
    go false = tt

receiver_low : (n : ℕ) (r : ReceiverState) (m : Message) → IsLow n r.knows → IfSome (receiver_knows r m) (λ k. k ≤ n)
receiver_low n r (Info m) h = knows_low n r m.head.instance h
receiver_low n r (Data m) h = knows_low n r m.head.instance h
receiver_low n r (Flush m) h = knows_low n r m.head.instance h
receiver_low n r (Squelch m) h = knows_low n r m.head.instance h
receiver_low n r (RepairAdv m) h = knows_in_low n r m.head.instance h
receiver_low n r (Nack m) h = knows_in_low n r m.instance h
receiver_low n r (Ack m) h = knows_in_low n r m.instance h
receiver_low n r (Eot m) h = tt
receiver_low n r (AckReq m) h = tt
receiver_low n r (Opaque m) h = tt
receiver_low n r (Report m) h = tt

sender_in_low : (n : ℕ) (s : SenderState) (id : ℕ) → length s.current.order ≤ n + 1 → IfSome (sender_knows_in s id) (λ k. k ≤ n)
sender_in_low n s id few = go (id == s.current.id)
  where
    go : (b : Bool) → IfSome (elim b [ true ↦ Some (last_index s) | false ↦ None ]) (λ k. k ≤ n)
    go true = omega (arith, few)
    go false = tt

sender_low : (n : ℕ) (s : SenderState) (m : Message) → length s.current.order ≤ n + 1 → IfSome (sender_knows s m) (λ k. k ≤ n)
sender_low n s (Nack m) few = sender_in_low n s m.instance few
sender_low n s (Ack m) few = sender_in_low n s m.instance few
sender_low n s (Info m) few = tt
sender_low n s (Data m) few = tt
sender_low n s (Flush m) few = tt
sender_low n s (Squelch m) few = tt
sender_low n s (RepairAdv m) few = tt
sender_low n s (Eot m) few = tt
sender_low n s (AckReq m) few = tt
sender_low n s (Opaque m) few = tt
sender_low n s (Report m) few = tt

-- ---- what the sender says

-- an entry that is there lies within its order
within_order : (P : Entry → Type 0) (order : List Entry) (index : ℕ) → IsSomeAnd (slice_get order index) P → index < length order
within_order P order index h = go (slice_get order index) refl h
  where
    go : (found : Option Entry) → slice_get order index ≡ found → IsSomeAnd found P → index < length order
    go None e h = absurd h
    go (Some entry) e h = slice_get_within order index entry e

not_above : (a b : Point) → (b.index < a.index) ⊎ ((b.index ≡ a.index) × (b.block ≤ a.block)) → b.index ≤ a.index
not_above a b (inl lt) = omega arith
not_above a b (inr same) = (let e = same.0 in omega arith)

-- what is true of orders of few objects has small indices
pub true_low : (p : Settings) (s : SenderState) (indices : List ℕ) (m : Message) → OrdersHold p s → FewObjects s → IsSpoken m → IsTrueOf p s indices m
    → AreUpTo most_apart indices
true_low p s indices (Data m) orders few spoken (speaks, says) =
    let S : List ℕ → Type 0 = λ xs. AreUpTo most_apart xs in
    let F : List ℕ → Type 0 = λ xs. SaysSymbol p s (about xs m) in
    let lt = within_order _ (order_of s m.head.instance) speaks.index (subst F speaks.alone says) in
    let le = few m.head.instance in
    subst S (sym speaks.alone) (omega (arith, lt, le), tt)
true_low p s indices (Info m) orders few spoken (speaks, says) =
    let S : List ℕ → Type 0 = λ xs. AreUpTo most_apart xs in
    let F : List ℕ → Type 0 = λ xs. SaysInfo p s (about xs m) in
    let lt = within_order _ (order_of s m.head.instance) speaks.index (subst F speaks.alone says) in
    let le = few m.head.instance in
    subst S (sym speaks.alone) (omega (arith, lt, le), tt)
true_low p s indices (Flush m) orders few spoken (speaks, says) =
    let S : List ℕ → Type 0 = λ xs. AreUpTo most_apart xs in
    let found = entry_with p (order_of s m.head.instance) (first_index indices) (λ x. nat_lt m.id.symbol (closed_in x m.id.block)) says in
    let lt = slice_get_within (order_of s m.head.instance) (first_index indices) found.0 found.1 in
    let same = ap first_index speaks.alone in
    let le = few m.head.instance in
    subst S (sym speaks.alone) (omega (arith, lt, le, same), tt)
true_low p s indices (Squelch m) orders few spoken (speaks, says) =
    let i : Instance = says.0 in
    let found = says.1 in
    let before = says.2 in
    let S : List ℕ → Type 0 = λ xs. AreUpTo most_apart xs in
    let is : (drop_of s m.head.instance).index ≡ i.drop.index = ap (λ (found : Option Instance). (point_in found).index) found in
    let le = not_above i.drop (point (first_index indices) m.id.block) (behind_point i.drop (point (first_index indices) m.id.block) before) in
    let same = ap first_index speaks.alone in
    let within = (orders.within m.head.instance).within in
    let most = few m.head.instance in
    subst S (sym speaks.alone) (omega (arith, is, le, same, within, most), tt)
true_low p s indices (Eot m) orders few spoken says = absurd spoken
true_low p s indices (RepairAdv m) orders few spoken says = absurd spoken
true_low p s indices (AckReq m) orders few spoken says = absurd spoken
true_low p s indices (Opaque m) orders few spoken says = absurd spoken
true_low p s indices (Nack m) orders few spoken says = absurd spoken
true_low p s indices (Ack m) orders few spoken says = absurd spoken
true_low p s indices (Report m) orders few spoken says = absurd spoken

sent_low : (p : Settings) (s : SenderState) (sent : Option Written) → OrdersHold p s → FewObjects s → SentTrue p s sent → SentLow most_apart sent
sent_low p s None orders few h = tt
sent_low p s (Some datagram) orders few h = true_low p s datagram.indices datagram.message orders few h.spoken h.says.1

-- ---- one event

-- all that was said has small indices, and so has what receivers know
record LowWorld (w : World) : Type 0 where
  offered : AllByRecursion (λ (o : ℕ × Written). AreUpTo most_apart o.1.indices) w.offered
  given : AllByRecursion (λ (o : ℕ × Written). AreUpTo most_apart o.1.indices) w.given
  receivers : AllByRecursion (λ (r : ReceiverState). IsLow most_apart r.knows) w.receivers

still_low : (w : World) (s : SenderState) → LowWorld w → LowWorld (record w { sender = s })
still_low w s h = record { offered = h.offered; given = h.given; receivers = h.receivers }

put_low : (t : ReceiverState) (rs : List ReceiverState) → IsLow most_apart t.knows → AllByRecursion (λ (r : ReceiverState). IsLow most_apart r.knows) rs
    → AllByRecursion (λ (r : ReceiverState). IsLow most_apart r.knows) (map (λ (x : ReceiverState). elim (x.node == t.node) as (λ _. ReceiverState) [ true ↦ t | false ↦ x ]) rs)
put_low t [] low all = tt
put_low t (x ∷ rs) low all = (go (x.node == t.node), put_low t rs low all.1)
  where
    go : (b : Bool) → IsLow most_apart (elim b as (λ _. ReceiverState) [ true ↦ t | false ↦ x ]).knows
    go true = low
    go false = all.0

moved_low : (w : World) (t : ReceiverState) → IsLow most_apart t.knows → LowWorld w → LowWorld (with_receiver t w)
moved_low w t low h = record { offered = h.offered; given = h.given; receivers = put_low t w.receivers low h.receivers }

given_low : (w : World) (node : ℕ) (sent : Option Written) → SentLow most_apart sent → LowWorld w → LowWorld (with_given node sent w)
given_low w node None low h = record {
  offered = h.offered;
  given = all_filter (λ (o : ℕ × Written). AreUpTo most_apart o.1.indices) _ w.given h.given;
  receivers = h.receivers;
}
given_low w node (Some datagram) low h = record {
  offered = h.offered;
  given = all_end (λ (o : ℕ × Written). AreUpTo most_apart o.1.indices) (given_others node w) (node, datagram)
      (all_filter (λ (o : ℕ × Written). AreUpTo most_apart o.1.indices) _ w.given h.given) low;
  receivers = h.receivers;
}

offer_low : (w : World) (node : ℕ) (octets : List ℕ) → LowWorld w → (found : Option (ℕ × Written)) → find (is_of node octets) w.given ≡ found
    → LowWorld (offers found node w)
offer_low w node octets h None e = h
offer_low w node octets h (Some o) e = record {
  offered = all_end (λ (o : ℕ × Written). AreUpTo most_apart o.1.indices) w.offered o h.offered
      (found_holds (λ (o : ℕ × Written). AreUpTo most_apart o.1.indices) (is_of node octets) w.given o h.given e);
  given = all_filter (λ (o : ℕ × Written). AreUpTo most_apart o.1.indices) _ w.given h.given;
  receivers = h.receivers;
}

receiver_at_low : (w : World) (node : ℕ) (r : ReceiverState) → LowWorld w → receiver_at w node ≡ Some r → IsLow most_apart r.knows
receiver_at_low w node r h e =
    found_holds (λ (x : ReceiverState). IsLow most_apart x.knows) (λ (x : ReceiverState). x.node == node) w.receivers r h.receivers e

-- the current order is that of its id
current_few : (p : Settings) (s : SenderState) → IsDistinct nat_eq (instance_ids s) → FewObjects s → length s.current.order ≤ most_objects
current_few p s differ few =
    let same = ap length (current_order s differ) in let le = few s.current.id in omega (arith, same, le)

-- what was offered comes in time
in_time : (p : Settings) (w : World) (node : ℕ) (o : Written) → length w.sender.current.order ≤ most_objects → LowWorld w → AreUpTo most_apart o.indices
    → IsTrue (comes_in_time p w node o)
in_time p w node o few h low = near_known (node_knows p w node o.message) o.indices (go (node == p.sender) (receiver_at w node) refl) low
  where
    go : (own : Bool) (found : Option ReceiverState) → receiver_at w node ≡ found → IfSome (elim own [
      | true ↦ sender_knows w.sender o.message
      | false ↦ option_and_then (λ r. receiver_knows r o.message) found
    ]) (λ k. k ≤ most_apart)
    go true found e = sender_low most_apart w.sender o.message few
    go false None e = tt
    go false (Some r) e = receiver_low most_apart r o.message (receiver_at_low w node r h e)

event_may : (p : Settings) (w : World) (e : Event) (past : List Happening) (accepted : List Origin) → MayComeLate p w accepted e → FewObjects w.sender
    → WorldHolds p past accepted w → LowWorld w → MayCome p w accepted e
event_may p w (Commanded by job now) past accepted may few holds h = may
event_may p w (Delivered node octets now draw) past accepted may few holds h = record {
  from = may.from;
  datagram = may.datagram;
  other = may.other;
  offered = may.offered;
  same = may.same;
  near = in_time p w node may.datagram (current_few p w.sender holds.once.ids few) h
      (all_contains (λ (o : ℕ × Written). AreUpTo most_apart o.1.indices) w.offered (may.from, may.datagram) h.offered may.offered);
}
event_may p w (Ticked node now) past accepted may few holds h = may
event_may p w (Offered node octets) past accepted may few holds h = may
event_may p w (UpTaken node) past accepted may few holds h = may
event_may p w NewsAsked past accepted may few holds h = may

event_low : (p : Settings) → InRange p → (w : World) (e : Event) (past : List Happening) (accepted : List Origin) → MayCome p w accepted e → FewObjects w.sender
    → WorldHolds p past accepted w → LowWorld w → LowWorld (world_step p w e).0
event_low p range w (Commanded by job now) past accepted may few holds h = still_low w _ h
event_low p range w (Delivered node octets now draw) past accepted may few holds h = go (node == p.sender) (receiver_at w node) refl may.near
  where
    said : SaysTrue p w.sender may.datagram
    said = all_contains (λ (o : ℕ × Written). SaysTrue p w.sender o.1) w.offered (may.from, may.datagram) holds.offered may.offered

    low : AreUpTo most_apart may.datagram.indices
    low = all_contains (λ (o : ℕ × Written). AreUpTo most_apart o.1.indices) w.offered (may.from, may.datagram) h.offered may.offered

    go : (own : Bool) (found : Option ReceiverState) → receiver_at w node ≡ found
        → are_near (elim own [ true ↦ sender_knows w.sender may.datagram.message | false ↦ option_and_then (λ r. receiver_knows r may.datagram.message) found ])
        may.datagram.indices ≡ true
        → LowWorld (moved p w (node_move own found (sender.Delivered octets now) (receiver.Delivered octets now draw))).0
    go true found e near = still_low w _ h
    go false None e near = h
    go false (Some r) e near =
        moved_low w (received p r octets now draw)
        (received_low most_apart p w.sender r may.datagram octets now draw said may.same low near (receiver_at_low w node r h e)) h
event_low p range w (Ticked node now) past accepted may few holds h = go (node == p.sender) (receiver_at w node) refl
  where
    go : (own : Bool) (found : Option ReceiverState) → receiver_at w node ≡ found
        → LowWorld (moved p w (node_move own found (sender.Ticked now) (receiver.Ticked now))).0
    go true found e =
        let t : SenderState = (sender_ticked p w.sender now).0 in
        given_low (record w { sender = t }) p.sender (sender_ticked p w.sender now).1
        (sent_low p w.sender (sender_ticked p w.sender now).1 (orders_hold p w.sender holds.sender) few (tick_true p range w.sender now holds.sender holds.once.ids))
        (still_low w t h)
    go false None e = h
    go false (Some r) e =
        let low = tick_low most_apart p r now (receiver_at_low w node r h e) in
        given_low (with_receiver (receiver_ticked p r now).0 w) r.node (receiver_ticked p r now).1 low.1 (moved_low w (receiver_ticked p r now).0 low.0 h)
event_low p range w (Offered node octets) past accepted may few holds h = offer_low w node octets h (find (is_of node octets) w.given) refl
event_low p range w (UpTaken node) past accepted may few holds h = go (receiver_at w node) refl
  where
    go : (found : Option ReceiverState) → receiver_at w node ≡ found → LowWorld (moved p w (receiver_move found receiver.UpTaken)).0
    go None e = h
    go (Some r) e = moved_low w (took r).0 (receiver_at_low w node r h e) h
event_low p range w NewsAsked past accepted may few holds h = still_low w _ h

-- ---- orders only go on

sender_steps : (p : Settings) → InRange p → (w : World) (e : Event) → IsEvent e → SenderHolds p w.sender
    → Steps p w.sender (world_step p w e).0.sender
sender_steps p range w (Commanded by job now) is h = command_steps p range w.sender by job now is h
sender_steps p range w (Delivered node octets now draw) is h = go (node == p.sender) (receiver_at w node)
  where
    go : (own : Bool) (found : Option ReceiverState)
        → Steps p w.sender (moved p w (node_move own found (sender.Delivered octets now) (receiver.Delivered octets now draw))).0.sender
    go true found =
        keeps_steps p w.sender (heard p w.sender octets now) (heard_keeps p w.sender octets now)
        (wants_step p (blocks_of p range) w.sender (sender.Delivered octets now) h.wants) h
    go false None = record { holds = h; onward = goes_on_itself (instances w.sender) }
    go false (Some r) = record { holds = h; onward = goes_on_itself (instances w.sender) }
sender_steps p range w (Ticked node now) is h = go (node == p.sender) (receiver_at w node)
  where
    given_same : (node : ℕ) (sent : Option Written) (v : World) → Steps p w.sender v.sender → Steps p w.sender (with_given node sent v).sender
    given_same node None v steps = steps
    given_same node (Some datagram) v steps = steps

    go : (own : Bool) (found : Option ReceiverState) → Steps p w.sender (moved p w (node_move own found (sender.Ticked now) (receiver.Ticked now))).0.sender
    go true found =
        let t : SenderState = (sender_ticked p w.sender now).0 in
        given_same p.sender (sender_ticked p w.sender now).1 (record w { sender = t })
        (keeps_steps p w.sender t (ticked_keeps p w.sender now) (wants_step p (blocks_of p range) w.sender (sender.Ticked now) h.wants) h)
    go false None = record { holds = h; onward = goes_on_itself (instances w.sender) }
    go false (Some r) =
        given_same r.node (receiver_ticked p r now).1 (with_receiver (receiver_ticked p r now).0 w) (record { holds = h; onward = goes_on_itself (instances w.sender) })
sender_steps p range w (Offered node octets) is h = go (find (is_of node octets) w.given)
  where
    go : (found : Option (ℕ × Written)) → Steps p w.sender (offers found node w).sender
    go None = record { holds = h; onward = goes_on_itself (instances w.sender) }
    go (Some o) = record { holds = h; onward = goes_on_itself (instances w.sender) }
sender_steps p range w (UpTaken node) is h = go (receiver_at w node)
  where
    go : (found : Option ReceiverState) → Steps p w.sender (moved p w (receiver_move found receiver.UpTaken)).0.sender
    go None = record { holds = h; onward = goes_on_itself (instances w.sender) }
    go (Some r) = record { holds = h; onward = goes_on_itself (instances w.sender) }
sender_steps p range w NewsAsked is h =
    keeps_steps p w.sender (told w.sender).0 (told_keeps w.sender) (wants_step p (blocks_of p range) w.sender sender.NewsAsked h.wants) h

goes_on : (p : Settings) → InRange p → (w : World) (events : List Event) → AreEvents events → SenderHolds p w.sender
    → Onward w.sender (run_from p w events).sender
goes_on p range w [] are h = goes_on_itself (instances w.sender)
goes_on p range w (e ∷ events) are h =
    let steps = sender_steps p range w e are.0 h in
    go_on_both (instances w.sender) (instances (world_step p w e).0.sender) (instances (run_from p w (e ∷ events)).sender) steps.onward
    (goes_on p range (world_step p w e).0 events are.1 steps.holds)

-- an instance has no more objects than later
few_before : (s t : SenderState) → Onward s t → FewObjects t → FewObjects s
few_before s t onward few id =
    let longer = later_long (order_of s id) (order_of t id) (order_later s t onward id).order in
    let most = few id in
    omega (arith, longer, most)

-- ---- a run

lawful_from : (p : Settings) → InRange p → (past : List Happening) (accepted : List Origin) (w : World) (events : List Event) → HonestFrom p w accepted events
    → AreEvents events → FewObjects (run_from p w events).sender → WorldHolds p past accepted w → LowWorld w → LawfulFrom p w accepted events
lawful_from p range past accepted w [] honest are few holds h = tt
lawful_from p range past accepted w (e ∷ events) honest are few holds h =
    let step = world_step p w e in
    let now = few_before w.sender (run_from p w (e ∷ events)).sender (goes_on p range w (e ∷ events) are holds.sender) few in
    let may = event_may p w e past accepted honest.0 now holds h in
    let next = event_holds p range past accepted w e may are.0 holds in (
      may,
      lawful_from p range (past ++ happening w e step ∷ []) (accepted_with accepted e step.1) step.0 events honest.1 are.1 few next
          (event_low p range w e past accepted may now holds h),
    )

low_opening : (p : Settings) → LowWorld (world_opening p)
low_opening p = record { offered = tt; given = tt; receivers = each (receivers_of p p.receivers) }
  where
    each : (nodes : List ℕ) → AllByRecursion (λ (r : ReceiverState). IsLow most_apart r.knows) (map receiver_opening nodes)
    each [] = tt
    each (node ∷ nodes) = (low_nothing most_apart, each nodes)

-- ---- no more objects than commands

-- an order has no more entries than origins
order_few : (order : List Entry) → length order ≤ length (flat_map origins_of order)
order_few [] = omega arith
order_few (entry ∷ order) =
    let more = order_few order in
    let both = length-append (origins_of entry) (flat_map origins_of order) in
    omega (arith, more, both)

instance_few : (all : List Instance) (id : ℕ) → length (elim (instance_in all id) as (λ _. List Entry) [ Some i ↦ i.order | None ↦ [] ])
    ≤ length (flat_map (λ (i : Instance). flat_map origins_of i.order) all)
instance_few [] id = omega arith
instance_few (x ∷ all) id = go (x.id == id) (instance_few all id)
  where
    whole : length (flat_map (λ (i : Instance). flat_map origins_of i.order) (x ∷ all))
        ≡ length (flat_map origins_of x.order) + length (flat_map (λ (i : Instance). flat_map origins_of i.order) all)
    whole = length-append (flat_map origins_of x.order) (flat_map (λ (i : Instance). flat_map origins_of i.order) all)

    go : (b : Bool) → length (elim (instance_in all id) as (λ _. List Entry) [ Some i ↦ i.order | None ↦ [] ])
        ≤ length (flat_map (λ (i : Instance). flat_map origins_of i.order) all)
        → length (elim (cond b (Some x) (instance_in all id)) as (λ _. List Entry) [ Some i ↦ i.order | None ↦ [] ])
        ≤ length (flat_map (λ (i : Instance). flat_map origins_of i.order) (x ∷ all))
    go true more = let own = order_few x.order in let w = whole in omega (arith, own, w)
    go false more = let w = whole in omega (arith, more, w)

last_is_run : (p : Settings) (w : World) (events : List Event) → last_world w (happens p w events) ≡ run_from p w events
unfolding happens last_world
last_is_run p w [] = refl
last_is_run p w (e ∷ events) = last_is_run p (world_step p w e).0 events

few_commands : (p : Settings) (events : List Event) → Honest p events → length (accepted_in p events) ≤ most_objects → FewObjects (run p events).sender
few_commands p events honest most id =
    let once = once_in p events honest in
    let F : World → Type 0 = λ w. length (order_of w.sender id) ≤ most_objects in
    let s : SenderState = (last_world (world_opening p) (happens p (world_opening p) events)).sender in
    let own = instance_few (instances s) id in
    let whole = length-append (flat_map (λ (i : Instance). flat_map origins_of i.order) (instances s)) (map (λ (w : Watermark). w.by) s.watermarks) in
    let few = once.few in
    subst F (last_is_run p (world_opening p) events) (omega (arith, own, whole, few, most))

pub time_laws : TimeLaws
time_laws = record {
  lawful = λ p range events honest are few.
      lawful_from p range [] [] (world_opening p) events honest are few (opening_world p range) (low_opening p);
  few = few_commands;
}
