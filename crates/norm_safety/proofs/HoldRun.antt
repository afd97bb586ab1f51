-- In hold mode only a node that was struck reports a loss: kept by each event of a lawful run, and so at its end.
use Rattle.std.proofs.Common.{◌≡◌, ℕ, zero, suc, ◌+◌, ◌-◌, ◌<◌, cond, List, [], ◌∷◌, ◌++◌, length, Bool, true, false, Option, None, Some, refl, sym, ap, ◌∙◌, subst, append_assoc, arith, ◌⊎◌, inl, inr}
use Rattle.std.specs.Prelude.{slice_get, map, nat_le, is_none, unwrap_or, ◌==◌, ◌||◌, not, nat_eq, ⊤, IsTrue}
use Rattle.std.specs.List.{AllByRecursion, list_any, IsDistinct}
use Rattle.std.proofs.lemmas.Bool.Decides.{Decides-eqb}
use Rattle.std.proofs.lemmas.Grind.{flat_map-append}
use Rattle.std.proofs.lemmas.List.{append-nil, length-append, take-append-le}
use Rattle.norm_base.specs.Settings.{Settings, InRange}
use Rattle.norm_base.specs.Members.{receivers_of}
use Rattle.norm_base.specs.declared.kinds.Mode.{Mode}
use Rattle.norm_base.specs.declared.kinds.Mode.TheVariants as mode
use Rattle.norm_base.specs.declared.node.Origin.{Origin}
use Rattle.fec_plan.specs.Points.{point}
use Rattle.norm_order.specs.Entries.{Part, Cut, Object, Stream, Entry}
use Rattle.norm_order.specs.Segments.{unclosed}
use Rattle.norm_order.specs.Shapes.{shape_of}
use Rattle.norm_order.specs.Upto.{all_parts}
use Rattle.norm_order.specs.declared.up.Up.{Up}
use Rattle.norm_receive_rules.specs.Leaving.{is_in}
use Rattle.norm_receive_rules.specs.ReceiverState.{ReceiverState}
use Rattle.norm_receive_rules.specs.ReceiverStep as receiver
use Rattle.norm_send_rules.specs.SenderState.{SenderState, Instance, Listing, begun, unlisted}
use Rattle.norm_send_rules.specs.SenderStep as sender
use Rattle.norm_send_rules.specs.Restarting.{instances}
use Rattle.norm_send_rules.specs.Room.{size_of, window, has_to_go, can_make_room, drop_after, first_kept, least_kept, block_may_go}
use Rattle.norm_send_rules.specs.InWindow.{last_index}
use Rattle.norm_send_rules.specs.Streaming.{parts_now, used_segments, is_crowded, with_last, with_parts, grown, cut}
use Rattle.norm_send_rules.specs.Enqueuing.{open_stream, joined}
use Rattle.norm_send_rules.specs.Commanding.{commanded}
use Rattle.norm_ext.specs.Written.{Written}
use Rattle.norm_receive_rules.specs.Ticking.{ticked as receiver_ticked}
use Rattle.norm_send_rules.specs.Ticking.{ticked as sender_ticked}
use Rattle.norm_send_rules.specs.Watermarks.{members}
use Rattle.norm_send_rules.specs.declared.job.Job.{Job}
use Rattle.norm_safety.specs.Events.{Event, Commanded, Delivered, Ticked, Offered, UpTaken, NewsAsked, Took}
use Rattle.norm_safety.specs.Fronts.{IsFront}
use Rattle.norm_safety.specs.Hands.{hands, taken_in, is_at}
use Rattle.norm_safety.specs.History.{Happening, History, happens, last_world, history}
use Rattle.norm_safety.specs.InOrder.{drop_of}
use Rattle.norm_safety.specs.Jobs.{IsJob, IsEvent, AreEvents}
use Rattle.norm_safety.specs.Lawful.{accepted_with, LawfulFrom, Lawful}
use Rattle.norm_safety.specs.LosesNothing.{taken_from, is_loss, was_struck, lost_nothing, LosesNothing}
use Rattle.norm_safety.specs.OnceEach.{order_of, instance_ids}
use Rattle.norm_safety.specs.World.{World, world_opening, receiver_at, with_receiver, with_given}
use Rattle.norm_safety.specs.WorldLaws.{nodes_of}
use Rattle.norm_safety.specs.WorldStep.{world_step, moved, node_move, receiver_move}
use Rattle.norm_safety.proofs.CommandSteps.{same_instances, no_parts}
use Rattle.norm_safety.proofs.EntryLemmas.{clash}
use Rattle.norm_safety.proofs.Listed.{ListedDue}
use Rattle.norm_safety.proofs.ListRun.{Confirms, event_confirms, confirms_opening}
use Rattle.norm_safety.proofs.Members.{Strikes, all_stay, strikes_on, same_members, listed_in, struck_in}
use Rattle.norm_safety.proofs.NoLoss.{no_loss}
use Rattle.norm_safety.proofs.DropsLemmas.{drops, dropped_parts, dropped_later, no_blocks}
use Rattle.norm_safety.proofs.EndedLemmas.{OnlyLast, all_finished, drop_grown, room_closed, room_last}
use Rattle.norm_safety.proofs.GoesOn.{OrderLater, HasBlocks, DropWithin}
use Rattle.norm_safety.proofs.Onward.{instance_in, order_joined}
use Rattle.norm_safety.proofs.OrderRun.{happening, taken_by, event_holds, opening_world}
use Rattle.norm_safety.proofs.PlaceLemmas.{current_found}
use Rattle.norm_safety.proofs.ReceiverMoves.{StandingIn}
use Rattle.norm_safety.proofs.Released.{gone_handed, block_handed}
use Rattle.norm_safety.proofs.RunLemmas.{step_nodes, opening_nodes}
use Rattle.norm_safety.proofs.SenderHolds.{SenderHolds, OpenEnds, open_ends, ends_later, ends_found, stream_entry, some_octets, not_below, current_sized, current_within, point_in, entries_in}
use Rattle.norm_safety.proofs.SenderKeeps.{Keeps, heard_keeps, ticked_keeps, told_keeps}
use Rattle.norm_safety.proofs.Spoken.{current_order}
use Rattle.norm_safety.proofs.SizedOrders.{Steady, OrderCase, Rests, Enqueues, Grows, Marks, Begins, roomy, order_case}
use Rattle.norm_safety.proofs.WorldHolds.{AtNode, AtReceiver, WorldHolds, hands_more, all_later}
use Rattle.norm_safety.proofs.WorldLemmas.{world_laws}

-- ---- what was dropped was handed up

-- hand-ups begin with all of an instance that was dropped
abbrev pub Clear : Settings → List Up → Option Instance → Type 0
Clear p ups found = IsFront (dropped_parts p (entries_in found) (point_in found)) ups

-- each member handed up all that was dropped, in each instance
abbrev pub AllClear : Settings → SenderState → (ℕ → ℕ → List Up) → Type 0
AllClear p s handed = (node id : ℕ) → listed_in node s.listings ≡ true → Clear p (handed node id) (instance_in (instances s) id)

-- of an instance that begins nothing was dropped
begun_clear : (p : Settings) (ups : List Up) (all : List Instance) (next id : ℕ) → Clear p ups (instance_in all id)
    → Clear p ups (instance_in (all ++ begun next ∷ []) id)
begun_clear p ups [] next id h = go (next == id)
  where
    go : (b : Bool) → Clear p ups (cond b (Some (begun next)) None)
    go true = (ups, refl)
    go false = (ups, refl)
begun_clear p ups (x ∷ all) next id h = go (x.id == id) (begun_clear p ups all next id) h
  where
    go : (b : Bool) → (Clear p ups (instance_in all id) → Clear p ups (instance_in (all ++ begun next ∷ []) id))
        → Clear p ups (cond b (Some x) (instance_in all id)) → Clear p ups (cond b (Some x) (instance_in (all ++ begun next ∷ []) id))
    go true more h = h
    go false more h = more h

-- the last instance goes on
last_clear : (p : Settings) (ups : List Up) (earlier : List Instance) (was now : Instance) (id : ℕ) → now.id ≡ was.id → (was.id ≡ id → Clear p ups (Some now))
    → Clear p ups (instance_in (earlier ++ was ∷ []) id) → Clear p ups (instance_in (earlier ++ now ∷ []) id)
last_clear p ups [] was now id same clear h = go (was.id == id) (now.id == id) refl (ap (λ (n : ℕ). n == id) same) h
  where
    go : (b c : Bool) → (was.id == id) ≡ b → c ≡ (was.id == id) → Clear p ups (cond b (Some was) None) → Clear p ups (cond c (Some now) None)
    go true true is e h = clear ((Decides-eqb was.id id).0 is)
    go true false is e h = absurd (clash (e ∙ is))
    go false true is e h = absurd (clash (sym is ∙ sym e))
    go false false is e h = h
last_clear p ups (x ∷ earlier) was now id same clear h = go (x.id == id) (last_clear p ups earlier was now id same clear) h
  where
    go : (b : Bool) → (Clear p ups (instance_in (earlier ++ was ∷ []) id) → Clear p ups (instance_in (earlier ++ now ∷ []) id))
        → Clear p ups (cond b (Some x) (instance_in (earlier ++ was ∷ []) id)) → Clear p ups (cond b (Some x) (instance_in (earlier ++ now ∷ []) id))
    go true more h = h
    go false more h = more h

-- how a step of the sender goes on
pub record GoesOn (p : Settings) (handed : ℕ → ℕ → List Up) (s t : SenderState) : Type 0 where
  pub clear : AllClear p t handed
  pub strikes : Strikes s.listings t.listings s.struck t.struck

-- what was dropped of the current instance, by its id
current_clear : (p : Settings) (s : SenderState) (handed : ℕ → ℕ → List Up) (node : ℕ) → IsDistinct nat_eq (instance_ids s) → listed_in node s.listings ≡ true
    → AllClear p s handed → IsFront (dropped_parts p s.current.order s.current.drop) (handed node s.current.id)
current_clear p s handed node differ member clear =
    let C : Option Instance → Type 0 = λ found. Clear p (handed node s.current.id) found in
    subst C (current_found s.earlier s.current s.current refl differ) (clear node s.current.id member)

-- the current instance goes on
goes_clear : (p : Settings) (s : SenderState) (now : Instance) (handed : ℕ → ℕ → List Up) (node id : ℕ) → now.id ≡ s.current.id
    → IsFront (dropped_parts p now.order now.drop) (handed node s.current.id) → Clear p (handed node id) (instance_in (instances s) id)
    → Clear p (handed node id) (instance_in (s.earlier ++ now ∷ []) id)
goes_clear p s now handed node id same front was =
    last_clear p (handed node id) s.earlier s.current now id same
    (λ is. (let I : ℕ → Type 0 = λ i. IsFront (dropped_parts p now.order now.drop) (handed node i) in subst I is front)) was

-- an object that joins: what goes for it was handed up
joined_clear : (p : Settings) → InRange p → (s : SenderState) (by : Origin) (object : Object) (handed : ℕ → ℕ → List Up) → p.mode ≡ mode.Hold → SenderHolds p s
    → IsDistinct nat_eq (instance_ids s) → open_stream s ≡ None → can_make_room p s (size_of p object) ≡ true
    → AllByRecursion (ListedDue p (order_of s s.current.id) (λ node. handed node s.current.id)) s.listings → AllClear p s handed
    → AllClear p (joined p by object s) handed
joined_clear p range s by object handed hold holds differ closed room listed clear node id member =
    goes_clear p s (joined p by object s).current handed node id refl (gone (has_to_go p (size_of p object) (window s)) refl) (clear node id member)
  where
    entry : Entry
    entry = record { by = by; object = object }

    gone : (n : ℕ) → has_to_go p (size_of p object) (window s) ≡ n
        → IsFront (dropped_parts p (s.current.order ++ entry ∷ []) (drop_after s.current.drop n)) (handed node s.current.id)
    gone zero e =
        let F : List Up → Type 0 = λ ups. IsFront ups (handed node s.current.id) in
        subst F (sym (dropped_later p (some_octets p range) s.current.order (s.current.order ++ entry ∷ []) s.current.drop
        (order_joined s.current.order (entry ∷ [])) (current_within p s holds))) (current_clear p s handed node differ member clear)
    gone (suc k) e =
        let L : List Entry → Type 0 = λ order. AllByRecursion (ListedDue p order (λ n. handed n s.current.id)) s.listings in
        let all = gone_handed p range s (size_of p object) k node (λ n. handed n s.current.id) hold (current_sized p s holds)
        (all_finished s.current.order holds.ends closed) holds.within room e member (subst L (current_order s differ) listed) in
        let F : List Up → Type 0 = λ ups. IsFront ups (handed node s.current.id) in
        let n : ℕ = s.current.drop.index + suc k in
        subst F (ap (all_parts p 0) (sym (take-append-le n s.current.order (entry ∷ []) all.0))
        ∙ sym (no_blocks p 0 n (s.current.order ++ entry ∷ []))) all.1

-- the open stream gets a part: blocks of it that go were handed up
grown_clear : (p : Settings) → InRange p → (s : SenderState) (part : Part) (handed : ℕ → ℕ → List Up) → p.mode ≡ mode.Hold → SenderHolds p s
    → IsDistinct nat_eq (instance_ids s) → is_none (open_stream s) ≡ false → is_crowded p s (parts_now s ++ part ∷ []) ≡ false
    → AllByRecursion (ListedDue p (order_of s s.current.id) (λ node. handed node s.current.id)) s.listings → AllClear p s handed
    → AllClear p (grown p s (parts_now s ++ part ∷ [])) handed
grown_clear p range s part handed hold holds differ there crowded listed clear node id member =
    goes_clear p s (grown p s (parts_now s ++ part ∷ [])).current handed node id refl
    (gone (nat_le least (first_kept s (last_index s))) refl) (clear node id member)
  where
    parts : List Part
    parts = parts_now s

    segments : ℕ
    segments = used_segments p (parts_now s ++ part ∷ [])

    least : ℕ
    least = least_kept p (used_segments p (parts_now s ++ part ∷ []))

    later : List Entry
    later = with_last (Stream (parts_now s ++ part ∷ [])) s.current.order

    ends : OpenEnds s
    ends = open_ends s there

    on : OrderLater s.current.order (with_last (Stream (parts_now s ++ part ∷ [])) s.current.order)
    on = ends_later s part ends

    F : List Up → Type 0
    F ups = IsFront ups (handed node s.current.id)

    L : List Entry → Type 0
    L order = AllByRecursion (ListedDue p order (λ n. handed n s.current.id)) s.listings

    gone : (b : Bool) → nat_le (least_kept p (used_segments p (parts_now s ++ part ∷ []))) (first_kept s (last_index s)) ≡ b
        → IsFront (dropped_parts p (with_last (Stream (parts_now s ++ part ∷ [])) s.current.order)
        (elim b [ true ↦ s.current.drop | false ↦ point (last_index s) (least_kept p (used_segments p (parts_now s ++ part ∷ []))) ])) (handed node s.current.id)
    gone true e =
        subst F (sym (dropped_later p (some_octets p range) s.current.order later s.current.drop on (current_within p s holds)))
        (current_clear p s handed node differ member clear)
    gone false e =
        let lt = not_below least (first_kept s (last_index s)) e in
        let size : 0 < p.b = omega (arith, range.b.0) in
        let has = room_closed p size s (last_index s) segments parts (roomy _ crowded) e lt in
        let may = room_last p s (last_index s) segments parts (roomy _ crowded) e lt in
        let found = ends_found s ends in
        let E : List Entry → Type 0 = λ xs. OnlyLast xs in
        let D : List Entry → Type 0 = λ xs. DropWithin p xs (point (last_index s) least) in
        let long = ap (λ (xs : List Entry). length xs) ends.is ∙ length-append ends.front (stream_entry ends.own (parts_now s) ∷ []) in
        let within : DropWithin p s.current.order (point (last_index s) least) = subst D (sym ends.is)
        (drop_grown p ends.front (stream_entry ends.own (parts_now s)) (point (last_index s) least) (omega arith) (subst E ends.is holds.ends) has) in
        subst F (sym (dropped_later p (some_octets p range) s.current.order later (point (last_index s) least) on within))
        (block least lt has may found)
      where
        block : (n : ℕ) → first_kept s (last_index s) < n → HasBlocks p n (Stream (parts_now s))
            → block_may_go p s (last_index s) (shape_of p (Stream (parts_now s))) (n - 1) ≡ true
            → slice_get s.current.order (last_index s) ≡ Some (stream_entry ends.own (parts_now s))
            → IsFront (dropped_parts p s.current.order (point (last_index s) n)) (handed node s.current.id)
        block zero lt has may found = absurd (omega arith)
        block (suc n) lt has may found =
            let M : ℕ → Type 0 = λ m. block_may_go p s (last_index s) (shape_of p (Stream (parts_now s))) m ≡ true in
            block_handed p range s (last_index s) n node (stream_entry ends.own (parts_now s)) (parts_now s) (λ n. handed n s.current.id) hold found refl has
            (subst M (let z : suc n - 1 ≡ n = omega arith in z) may) member (subst L (current_order s differ) listed)

-- the open stream is cut: nothing is dropped
cut_clear : (p : Settings) → InRange p → (s : SenderState) (handed : ℕ → ℕ → List Up) → SenderHolds p s → IsDistinct nat_eq (instance_ids s)
    → AllClear p s handed → GoesOn p handed s (cut p s)
cut_clear p range s handed holds differ clear = go (open_stream s) refl
  where
    cut_where : ℕ → List Part → SenderState
    cut_where n parts = elim n [ zero ↦ s | suc k ↦ with_parts (parts ++ Cut ∷ []) s ]

    stays : GoesOn p handed s s
    stays = record { clear = clear; strikes = all_stay s.listings s.struck }

    cuts : is_none (open_stream s) ≡ false → AllClear p (with_parts (parts_now s ++ Cut ∷ []) s) handed
    cuts there node id member =
        let F : List Up → Type 0 = λ ups. IsFront ups (handed node s.current.id) in
        let later : List Entry = with_last (Stream (parts_now s ++ Cut ∷ [])) s.current.order in
        goes_clear p s (with_parts (parts_now s ++ Cut ∷ []) s).current handed node id refl
        (subst F (sym (dropped_later p (some_octets p range) s.current.order later s.current.drop (ends_later s Cut (open_ends s there)) (current_within p s holds)))
        (current_clear p s handed node differ member clear)) (clear node id member)

    by_number : is_none (open_stream s) ≡ false → (n : ℕ) → GoesOn p handed s (elim n [ zero ↦ s | suc k ↦ with_parts (parts_now s ++ Cut ∷ []) s ])
    by_number there zero = stays
    by_number there (suc n) = record { clear = cuts there; strikes = all_stay s.listings s.struck }

    go : (found : Option (List Part)) → open_stream s ≡ found → GoesOn p handed s (cut p s)
    go None e =
        let none : unclosed p.e (parts_now s) ≡ 0 = ap (λ (o : Option (List Part)). unclosed p.e (unwrap_or o [])) e ∙ no_parts p.e in
        let G : ℕ → Type 0 = λ n. GoesOn p handed s (elim n [ zero ↦ s | suc k ↦ with_parts (parts_now s ++ Cut ∷ []) s ]) in subst G (sym none) stays
    go (Some parts) e = by_number (ap is_none e) (unclosed p.e (parts_now s))

-- ---- what is kept

-- What is kept of a world in hold mode, with what happened: each member handed up all that was dropped; each receiver is a member or was
-- struck; and no member reported a loss.
pub record Kept (p : Settings) (past : List Happening) (w : World) : Type 0 where
  pub clear : AllClear p w.sender (hands past)
  pub members : AllByRecursion (λ node. (listed_in node w.sender.listings ≡ true) ⊎ (struck_in node w.sender.struck ≡ true)) (receivers_of p p.receivers)
  pub losses : (node : ℕ) → listed_in node w.sender.listings ≡ true → list_any is_loss (taken_from past node) ≡ false

same_goes : (p : Settings) (handed : ℕ → ℕ → List Up) (s t : SenderState) → t ≡ s → AllClear p s handed → GoesOn p handed s t
same_goes p handed s t e clear =
    let G : SenderState → Type 0 = λ x. GoesOn p handed s x in subst G (sym e) (record { clear = clear; strikes = all_stay s.listings s.struck })

steady_goes : (p : Settings) (handed : ℕ → ℕ → List Up) (s t : SenderState) → instances t ≡ instances s → Strikes s.listings t.listings s.struck t.struck
    → AllClear p s handed → GoesOn p handed s t
steady_goes p handed s t same strikes clear = record {
  clear = λ node id member. (
      let C : List Instance → Type 0 = λ all. Clear p (handed node id) (instance_in all id) in
      subst C (sym same) (clear node id (strikes.back node member))
      );
  strikes = strikes;
}

command_goes : (p : Settings) → InRange p → (s : SenderState) (by : Origin) (job : Job) (handed : ℕ → ℕ → List Up) → p.mode ≡ mode.Hold → SenderHolds p s
    → IsDistinct nat_eq (instance_ids s) → IsJob job
    → AllByRecursion (ListedDue p (order_of s s.current.id) (λ node. handed node s.current.id)) s.listings → AllClear p s handed
    → GoesOn p handed s (commanded p s by job).0
command_goes p range s by job handed hold holds differ is listed clear = go (commanded p s by job).0 (order_case p s by job is)
  where
    steady : (s t : SenderState) → Steady p s t → AllClear p s handed → GoesOn p handed s t
    steady s t same clear =
        let all : instances t ≡ instances s =
        ap (λ (xs : List Instance). xs ++ t.current ∷ []) same.earlier ∙ ap (λ (x : Instance). s.earlier ++ x ∷ []) same.current in
        steady_goes p handed s t all same.strikes clear

    go : (t : SenderState) → OrderCase p s by t → GoesOn p handed s t
    go t (Rests same) = steady s t same clear
    go t (Enqueues object sized none few room) = record {
      clear = joined_clear p range s by object handed hold holds differ none room listed clear;
      strikes = all_stay s.listings s.struck;
    }
    go t (Grows part octets there spent crowded) = record {
      clear = grown_clear p range s part handed hold holds differ there crowded listed clear;
      strikes = all_stay s.listings s.struck;
    }
    go t (Marks same) =
        let first = cut_clear p range s handed holds differ clear in
        let second = steady (cut p s) t same first.clear in
        record {
          clear = second.clear;
          strikes = strikes_on s.listings (cut p s).listings t.listings s.struck (cut p s).struck t.struck first.strikes second.strikes;
        }
    go t (Begins id unused few) =
        let strikes = same_members s.listings (unlisted (members s)) s.struck (nodes_again (members s)) in
        record {
          clear = λ node at member. begun_clear p (handed node at) (instances s) id at (clear node at (strikes.back node member));
          strikes = strikes;
        }
      where
        nodes_again : (nodes : List ℕ) → map (λ (l : Listing). l.node) (unlisted nodes) ≡ nodes
        nodes_again [] = refl
        nodes_again (node ∷ nodes) = ap (λ (ns : List ℕ). node ∷ ns) (nodes_again nodes)

keeps_goes : (p : Settings) (handed : ℕ → ℕ → List Up) (s t : SenderState) → Keeps s t → AllClear p s handed → GoesOn p handed s t
keeps_goes p handed s t keeps clear = steady_goes p handed s t (same_instances s t keeps) keeps.strikes clear

-- the sender of a tick's world
given_sender : (node : ℕ) (sent : Option Written) (w : World) → (with_given node sent w).sender ≡ w.sender
given_sender node None w = refl
given_sender node (Some datagram) w = refl

event_goes : (p : Settings) → InRange p → (past : List Happening) (accepted : List Origin) (w : World) (e : Event) → p.mode ≡ mode.Hold → IsEvent e
    → WorldHolds p past accepted w → Confirms p past w → AllClear p w.sender (hands past) → GoesOn p (hands past) w.sender (world_step p w e).0.sender
event_goes p range past accepted w (Commanded by job now) hold is holds confirms clear =
    command_goes p range w.sender by job (hands past) hold holds.sender holds.once.ids is confirms.listed clear
event_goes p range past accepted w (Delivered node datagram now draw) hold is holds confirms clear = go (node == p.sender) (receiver_at w node)
  where
    go : (own : Bool) (found : Option ReceiverState)
        → GoesOn p (hands past) w.sender (moved p w (node_move own found (sender.Delivered datagram now) (receiver.Delivered datagram now draw))).0.sender
    go true found = keeps_goes p (hands past) w.sender _ (heard_keeps p w.sender datagram now) clear
    go false None = same_goes p (hands past) w.sender w.sender refl clear
    go false (Some r) = same_goes p (hands past) w.sender w.sender refl clear
event_goes p range past accepted w (Ticked node now) hold is holds confirms clear = go (node == p.sender) (receiver_at w node)
  where
    go : (own : Bool) (found : Option ReceiverState)
        → GoesOn p (hands past) w.sender (moved p w (node_move own found (sender.Ticked now) (receiver.Ticked now))).0.sender
    go true found =
        let G : SenderState → Type 0 = λ t. GoesOn p (hands past) w.sender t in
        subst G (sym (given_sender p.sender (sender_ticked p w.sender now).1 (record w { sender = (sender_ticked p w.sender now).0 })))
        (keeps_goes p (hands past) w.sender _ (ticked_keeps p w.sender now) clear)
    go false None = same_goes p (hands past) w.sender w.sender refl clear
    go false (Some r) = same_goes p (hands past) w.sender _ (given_sender r.node (receiver_ticked p r now).1 (with_receiver (receiver_ticked p r now).0 w)) clear
event_goes p range past accepted w (Offered node datagram) hold is holds confirms clear =
    same_goes p (hands past) w.sender _ (world_laws.sender p w (Offered node datagram) refl) clear
event_goes p range past accepted w (UpTaken node) hold is holds confirms clear =
    same_goes p (hands past) w.sender _ (world_laws.sender p w (UpTaken node) refl) clear
event_goes p range past accepted w NewsAsked hold is holds confirms clear = keeps_goes p (hands past) w.sender _ (told_keeps w.sender) clear

-- ---- what is taken

-- what an event takes of a node joins its hand-ups in an instance
abbrev JoinsHands : List Happening → Happening → ℕ → Type 0
JoinsHands past x node =
    (taken_in node x.event x.answer ≡ [])
    ⊎ ((id : ℕ) × (hands (past ++ x ∷ []) node id ≡ hands past node id ++ taken_in node x.event x.answer))

taken_joins : (p : Settings) (past : List Happening) (accepted : List Origin) (w : World) (e : Event) (node : ℕ) → WorldHolds p past accepted w
    → JoinsHands past (happening w e (world_step p w e)) node
taken_joins p past accepted w (Commanded by job now) node holds = inl refl
taken_joins p past accepted w (Delivered other datagram now draw) node holds = inl refl
taken_joins p past accepted w (Ticked other now) node holds = inl refl
taken_joins p past accepted w (Offered other datagram) node holds = inl refl
taken_joins p past accepted w NewsAsked node holds = inl refl
taken_joins p past accepted w (UpTaken other) node holds = go (receiver_at w other) refl
  where
    taken_if : Bool → Up → List Up
    taken_if b up = elim b [ true ↦ up ∷ [] | false ↦ [] ]

    some_up : (up : Up) (more : List Up) → (up ∷ more) ≡ [] → ⊥
    some_up up more e = cc

    in_one : (r : ReceiverState) (up : Up) (more : List Up) (v : World) → receiver_at w other ≡ Some r → r.holding.ups ≡ up ∷ more → (own : Bool)
        → (other == node) ≡ own → (instance : Option ℕ) → r.instance ≡ instance → JoinsHands past (happening w (UpTaken other) (v, Took (Some up))) node
    in_one r up more v found ups false e instance at = inl (ap (λ (b : Bool). taken_if b up) e)
    in_one r up more v found ups true e None at =
        let A : Option ReceiverState → Type 0 = λ o. AtNode p w.sender past other o in
        let here : AtReceiver p w.sender past other r = subst A found (holds.nodes other) in
        let S : Option ℕ → Type 0 = λ instance. StandingIn p w.sender (hands past other) r instance in
        absurd (some_up up more (sym ups ∙ (subst S at here.stands).0))
    in_one r up more v found ups true e (Some id) at =
        let is : other ≡ node = (Decides-eqb other node).0 e in
        let there : is_at w node id ≡ true =
        ap (λ (n : ℕ). is_at w n id) (sym is)
        ∙ ap (λ (o : Option ReceiverState). elim o [ Some x ↦ is_in x id | None ↦ false ]) found
        ∙ ap (λ (o : Option ℕ). elim o [ Some current ↦ current == id | None ↦ false ]) at ∙ (Decides-eqb id id).1 refl in
        inr (
          id,
          hands_more past (happening w (UpTaken other) (v, Took (Some up))) node id
              ∙ ap (λ (b : Bool). hands past node id ++ elim b [ true ↦ taken_in node (UpTaken other) (Took (Some up)) | false ↦ [] ]) there,
        )

    ups : (r : ReceiverState) → receiver_at w other ≡ Some r → (waiting : List Up) → r.holding.ups ≡ waiting
        → JoinsHands past (happening w (UpTaken other) (taken_by w r (elim waiting [ up ∷ more ↦ (record (r.holding) { ups = more }, Some up) | [] ↦ (r.holding, None) ]))) node
    ups r found [] e = inl refl
    ups r found (up ∷ more) e = in_one r up more _ found e (other == node) refl r.instance refl

    go : (found : Option ReceiverState) → receiver_at w other ≡ found → JoinsHands past (happening w (UpTaken other) (moved p w (receiver_move found receiver.UpTaken))) node
    go None e = inl refl
    go (Some r) e = ups r e r.holding.ups refl

-- ---- an event

pub any_append : {X : Type 0} (test : X → Bool) (xs ys : List X) → list_any test (xs ++ ys) ≡ (list_any test xs || list_any test ys)
any_append test [] ys = refl
any_append test (x ∷ xs) ys = ap (λ (b : Bool). test x || b) (any_append test xs ys) ∙ sym (or_assoc (test x) (list_any test xs) (list_any test ys))
  where
    or_assoc : (a b c : Bool) → ((a || b) || c) ≡ (a || (b || c))
    or_assoc true b c = refl
    or_assoc false b c = refl

second_false : (a b : Bool) → (a || b) ≡ false → b ≡ false
second_false true b e = absurd (clash (sym e))
second_false false b e = e

both_false : (a b : Bool) → a ≡ false → b ≡ false → (a || b) ≡ false
both_false true b e f = e
both_false false b e f = f

event_kept : (p : Settings) → InRange p → (past : List Happening) (accepted after : List Origin) (w : World) (e : Event) → p.mode ≡ mode.Hold → IsEvent e
    → WorldHolds p past accepted w → Confirms p past w → WorldHolds p (past ++ happening w e (world_step p w e) ∷ []) after (world_step p w e).0 → Kept p past w
    → Kept p (past ++ happening w e (world_step p w e) ∷ []) (world_step p w e).0
event_kept p range past accepted after w e hold is holds confirms next h =
    let x : Happening = happening w e (world_step p w e) in
    let v : World = (world_step p w e).0 in
    let goes = event_goes p range past accepted w e hold is holds confirms h.clear in
    let clear : AllClear p v.sender (hands (past ++ x ∷ [])) = λ node id member. (
    let at = goes.clear node id member in
    let more : List Up = elim (is_at x.before node id) [ true ↦ taken_in node x.event x.answer | false ↦ [] ] in
    (at.0 ++ more, hands_more past x node id ∙ ap (λ (ups : List Up). ups ++ more) at.1 ∙ append_assoc _ at.0 more)
    ) in
    record {
      clear = clear;
      members = all_later _ (λ node. (listed_in node v.sender.listings ≡ true) ⊎ (struck_in node v.sender.struck ≡ true)) (receivers_of p p.receivers)
          (λ node. still goes.strikes node) h.members;
      losses = λ node member. no_losses x v clear next goes.strikes node member (taken_joins p past accepted w e node holds);
    }
  where
    still : {ls later : List Listing} {struck now : List ℕ} → Strikes ls later struck now → (node : ℕ) → (listed_in node ls ≡ true) ⊎ (struck_in node struck ≡ true)
        → (listed_in node later ≡ true) ⊎ (struck_in node now ≡ true)
    still strikes node (inl member) = strikes.goes node member
    still strikes node (inr is) = inr (strikes.stays node is)

    no_losses : (x : Happening) (v : World) → AllClear p v.sender (hands (past ++ x ∷ [])) → WorldHolds p (past ++ x ∷ []) after v
        → Strikes w.sender.listings v.sender.listings w.sender.struck v.sender.struck → (node : ℕ)
        → listed_in node v.sender.listings ≡ true → JoinsHands past x node → list_any is_loss (taken_from (past ++ x ∷ []) node) ≡ false
    no_losses x v clear next strikes node member joins =
        ap (list_any is_loss) (flat_map-append (λ (y : Happening). taken_in node y.event y.answer) past (x ∷ []) ∙ ap (λ (ups : List Up). taken_from past node ++ ups) (append-nil (taken_in node x.event x.answer)))
        ∙ any_append is_loss (taken_from past node) (taken_in node x.event x.answer)
        ∙ both_false _ _ (h.losses node (strikes.back node member)) (now joins)
      where
        now : JoinsHands past x node → list_any is_loss (taken_in node x.event x.answer) ≡ false
        now (inl none) = ap (list_any is_loss) none
        now (inr (id, is)) =
            let all : list_any is_loss (hands (past ++ x ∷ []) node id) ≡ false =
            no_loss p (omega (arith, range.b.0)) (drop_of v.sender id) 0 (order_of v.sender id) (hands (past ++ x ∷ []) node id) (next.through node id)
            (λ k e. clear_at k e (clear node id member)) in
            second_false (list_any is_loss (hands past node id)) _ (sym (any_append is_loss (hands past node id) (taken_in node x.event x.answer)) ∙ ap (list_any is_loss) (sym is) ∙ all)
          where
            clear_at : (k : ℕ) → 0 + k ≡ (drop_of v.sender id).index → Clear p (hands (past ++ x ∷ []) node id) (instance_in (instances v.sender) id)
                → IsFront (drops p 0 k (drop_of v.sender id).block (order_of v.sender id)) (hands (past ++ x ∷ []) node id)
            clear_at k e at =
                let N : ℕ → Type 0 = λ n. IsFront (drops p 0 n (drop_of v.sender id).block (order_of v.sender id)) (hands (past ++ x ∷ []) node id) in
                subst N (let z : (drop_of v.sender id).index ≡ k = omega arith in z) at

-- ---- a run

-- what lawful events leave in hold mode, from a world on
pub record RunKept (p : Settings) (past : List Happening) (w : World) (events : List Event) : Type 0 where
  pub kept : Kept p (past ++ happens p w events) (last_world w (happens p w events))
  pub nodes : nodes_of (last_world w (happens p w events)) ≡ nodes_of w

run_kept : (p : Settings) → InRange p → p.mode ≡ mode.Hold → (past : List Happening) (accepted : List Origin) (w : World) (events : List Event)
    → LawfulFrom p w accepted events → AreEvents events → WorldHolds p past accepted w → Confirms p past w → Kept p past w
    → RunKept p past w events
unfolding happens last_world
run_kept p range hold past accepted w [] lawful are holds confirms h =
    let K : List Happening → Type 0 = λ all. Kept p all w in record { kept = subst K (sym (append-nil past)) h; nodes = refl }
run_kept p range hold past accepted w (e ∷ events) lawful are holds confirms h =
    let step = world_step p w e in
    let x : Happening = happening w e step in
    let next = event_holds p range past accepted w e lawful.0 are.0 holds in
    let now = event_confirms p range past accepted w e lawful.0 are.0 holds confirms in
    let kept = event_kept p range past accepted (accepted_with accepted e step.1) w e hold are.0 holds confirms next h in
    let rest = run_kept p range hold (past ++ x ∷ []) (accepted_with accepted e step.1) step.0 events lawful.1 are.1 next now kept in
    let K : List Happening → Type 0 = λ all. Kept p all (last_world step.0 (happens p step.0 events)) in
    record { kept = subst K (append_assoc past (x ∷ []) (happens p step.0 events)) rest.kept; nodes = rest.nodes ∙ step_nodes p w e }

-- as a world begins all receivers are members, and nothing was dropped
all_members : (nodes : List ℕ) → AllByRecursion (λ node. (listed_in node (unlisted nodes) ≡ true) ⊎ (struck_in node [] ≡ true)) nodes
all_members nodes = go nodes (λ node h. h)
  where
    here : (node : ℕ) (rest : Bool) → ((node == node) || rest) ≡ true
    here node rest = ap (λ (b : Bool). b || rest) ((Decides-eqb node node).1 refl)

    behind : (a b : Bool) → b ≡ true → (a || b) ≡ true
    behind true b e = refl
    behind false b e = e

    go : (some : List ℕ) → ((node : ℕ) → listed_in node (unlisted some) ≡ true → listed_in node (unlisted nodes) ≡ true)
        → AllByRecursion (λ node. (listed_in node (unlisted nodes) ≡ true) ⊎ (struck_in node [] ≡ true)) some
    go [] within = tt
    go (node ∷ some) within = (
      inl (within node (here node (listed_in node (unlisted some)))),
      go some (λ other h. within other (behind (node == other) _ h)),
    )

opening_kept : (p : Settings) → Kept p [] (world_opening p)
opening_kept p = record {
  clear = λ node id member. begun_clear p [] [] p.instance id ([], refl);
  members = all_members (receivers_of p p.receivers);
  losses = λ node member. refl;
}

-- what a lawful run in hold mode leaves
pub kept_of : (p : Settings) → InRange p → p.mode ≡ mode.Hold → (events : List Event) → Lawful p events → AreEvents events
    → RunKept p [] (world_opening p) events
kept_of p range hold events lawful are =
    run_kept p range hold [] [] (world_opening p) events lawful are (opening_world p range) (confirms_opening p) (opening_kept p)

-- In hold mode only a node that was struck reports a loss.
pub hold_run : (p : Settings) → InRange p → (events : List Event) → Lawful p events → AreEvents events
    → LosesNothing p (history p events)
hold_run p range events lawful are = go p.mode refl
  where
    h : History
    h = history p events

    by : Mode → Type 0
    by m = elim m as (λ m. Type 0) [ mode.Hold ↦ AllByRecursion (λ (r : ReceiverState). IsTrue (lost_nothing (history p events) r)) (history p events).now.receivers | mode.Drop ↦ ⊤ ]

    one : RunKept p [] (world_opening p) events → (node : ℕ)
        → (listed_in node (history p events).now.sender.listings ≡ true) ⊎ (struck_in node (history p events).now.sender.struck ≡ true)
        → (was_struck (history p events).now.sender node || not (list_any is_loss (taken_from (history p events).happened node))) ≡ true
    one run node (inl member) = right _ _ (ap not (run.kept.losses node member))
      where
        right : (a b : Bool) → b ≡ true → (a || b) ≡ true
        right true b e = refl
        right false b e = e
    one run node (inr struck) = left _ _ struck
      where
        left : (a b : Bool) → a ≡ true → (a || b) ≡ true
        left true b e = refl
        left false b e = absurd (clash e)

    each : RunKept p [] (world_opening p) events → (rs : List ReceiverState)
        → AllByRecursion (λ node. (listed_in node (history p events).now.sender.listings ≡ true) ⊎ (struck_in node (history p events).now.sender.struck ≡ true)) (map (λ (r : ReceiverState). r.node) rs)
        → AllByRecursion (λ (r : ReceiverState). IsTrue (lost_nothing (history p events) r)) rs
    each run [] all = tt
    each run (r ∷ rs) all = (one run r.node all.0, each run rs all.1)

    go : (m : Mode) → p.mode ≡ m → by m
    go mode.Drop e = tt
    go mode.Hold e =
        let run = kept_of p range e events lawful are in
        let A : List ℕ → Type 0 = λ nodes. AllByRecursion (λ node. (listed_in node (history p events).now.sender.listings ≡ true) ⊎ (struck_in node (history p events).now.sender.struck ≡ true)) nodes in
        each run (history p events).now.receivers (subst A (sym (run.nodes ∙ opening_nodes (receivers_of p p.receivers))) run.kept.members)
