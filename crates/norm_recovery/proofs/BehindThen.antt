-- In the turn of the flush some member is behind, if the watermark stays open; and the watermark with a number stays the same.
use Rattle.std.proofs.Common.{◌≡◌, ℕ, ◌+◌, ◌<◌, ◌≤◌, List, [], ◌∷◌, Bool, true, false, Option, None, Some, refl, sym, ap, ◌∙◌, subst, arith, inl, inr}
use Rattle.std.specs.Prelude.{◌==◌, ◌&&◌, ◌||◌, not, find, nat_lt}
use Rattle.std.specs.List.{AllByRecursion, list_any}
use Rattle.std.proofs.lemmas.Bool.Decides.{Decides-eqb, Decides-ltb}
use Rattle.norm_base.specs.Members.{receivers_of}
use Rattle.norm_base.specs.Settings.{Settings}
use Rattle.fec_plan.specs.Points.{position_before}
use Rattle.fec_plan.specs.declared.position.Position.{Position}
use Rattle.norm_receive_rules.specs.Holding.{Holding, holding_nothing}
use Rattle.norm_receive_rules.specs.Leaving.{is_in}
use Rattle.norm_receive_rules.specs.ReceiverState.{ReceiverState}
use Rattle.norm_send_rules.specs.SenderState.{SenderState, Watermark}
use Rattle.norm_send_rules.specs.Watermarks.{oldest, has_member}
use Rattle.norm_safety.specs.Events.{Event}
use Rattle.norm_safety.specs.Tail.{Course, course_from, tail_turn}
use Rattle.norm_safety.specs.World.{World, receiver_at}
use Rattle.norm_safety.specs.WorldStep.{run}
use Rattle.norm_safety.proofs.EntryLemmas.{clash}
use Rattle.norm_safety.proofs.ReceiverMoves.{in_instance_is}
use Rattle.norm_safety.proofs.WorldLemmas.{world_laws}
use Rattle.norm_recovery.specs.Watch.{Phase, each_member, most_held, is_behind, is_spent}
use Rattle.norm_recovery.proofs.AskAfter.{same}
use Rattle.norm_recovery.proofs.BeforeFlush.{and_so, or_left, or_right}
use Rattle.norm_recovery.proofs.ClosingLists.{In}
use Rattle.norm_recovery.proofs.MembersRun.{no_node}
use Rattle.norm_recovery.proofs.PassTurn.{is_other}
use Rattle.norm_recovery.proofs.PhaseTurn.{InPhase}
use Rattle.norm_recovery.proofs.TailCourses.{IsCalm, comes_calm, begins_calm, draw_calm}
use Rattle.norm_recovery.proofs.TailWalk.{turn_keeps}
use Rattle.norm_recovery.proofs.WatchSpent.{stays}
use Rattle.norm_recovery.proofs.WaitsAfter.{of_member, behind_of, false_so, calm, is_then, member_then}
use Rattle.std.specs.Option.{option_map}
use Rattle.norm_safety.specs.Recovery.{IsOldest}
use Rattle.norm_recovery.proofs.FlushKnown.{GivesFlush}
use Rattle.std.proofs.Common.{suc, ◌++◌, length, map, filter}
use Rattle.std.specs.List.{range_with_len}
use Rattle.std.specs.Prelude.{cond, is_none}
use Rattle.norm_base.specs.Settings.{InRange}
use Rattle.fec_plan.specs.Points.{point, point_of, point_before, position}
use Rattle.norm_receive_rules.specs.Acknowledging.{lost_nothing, names_this, has_handed_up, acknowledges}
use Rattle.norm_receive_rules.specs.Receiving.{received}
use Rattle.norm_send_rules.specs.SenderState.{Listing}
use Rattle.norm_send_rules.specs.SenderStep as sender
use Rattle.norm_send_rules.specs.Watermarks.{members, is_open, is_past, pending}
use Rattle.norm_send_rules.specs.declared.news.Outcome.{Outcome}
use Rattle.norm_send_rules.proofs.ReachedLemmas.{reached_laws}
use Rattle.norm_recovery.specs.TailKeeps.{as_made, Stays as TailStays}
use Rattle.norm_recovery.proofs.KeepsSender.{quiet_run_stays}
use Rattle.norm_recovery.proofs.NackAsks.{run_reached}
use Rattle.norm_safety.specs.Acknowledges.{owes}
use Rattle.norm_safety.specs.CreditsMembers.{is_listed_past}
use Rattle.norm_safety.specs.Events.{Commanded, Delivered, Ticked, Offered, UpTaken, NewsAsked}
use Rattle.norm_safety.specs.Tail.{events_of}
use Rattle.norm_safety.specs.World.{world_opening}
use Rattle.norm_safety.specs.WorldStep.{world_step, run_from}
use Rattle.norm_safety.proofs.MetLemmas.{NoneMet, met_by, none_after, sender_steps}
use Rattle.norm_laws.proofs.CountSender.{sender_after, sender_is}
use Rattle.norm_send_rules.specs.Ticking.{ticked as sender_ticked}
use Rattle.norm_send_rules.specs.Hearing.{heard}
use Rattle.norm_recovery.specs.FlushConfirmed.{is_asked as asks_node}
use Rattle.norm_recovery.proofs.AskedMoves.{RisingNodes, past_of, all_listed_met, oldest_unmet}
use Rattle.norm_recovery.proofs.FlushAt.{point_same as point_at, EnteredBy, Inside, Outside, entered_by}
use Rattle.norm_recovery.proofs.FlushConfirmed.{Listed, listed_on, listed_drawn, listed_nodes, is_listed}
use Rattle.norm_recovery.proofs.FlushHeard.{flush_heard}
use Rattle.norm_recovery.proofs.FlushKnown.{flush_of, flush_command, FlushSays, flush_says, HearsIt}
use Rattle.norm_recovery.proofs.LawfulTail.{goes_on}
use Rattle.norm_recovery.proofs.MembersRise.{AreReceivers, members_rise}
use Rattle.norm_recovery.proofs.MembersTail.{stands_in_run}
use Rattle.norm_recovery.proofs.WaitsAfter.{held_is}

-- ---- in every run no open watermark is met

event_unmet : (p : Settings) (v : World) (e : Event) → NoneMet v.sender → NoneMet (world_step p v e).0.sender
event_unmet p v e none = subst NoneMet (sym (sender_is p v e)) (after e)
  where
    steps : (event : sender.SenderEvent) → NoneMet (sender.sender_step p v.sender event).0
    steps event =
        let t = (sender.sender_step p v.sender event).0 in
        none_after (met_by t.listings) v.sender.watermarks t.watermarks (sender_steps p v.sender event none)

    either_so : (b : Bool) (t : SenderState) → NoneMet t → NoneMet (elim b [ true ↦ t | false ↦ v.sender ])
    either_so true t k = k
    either_so false t k = none

    after : (e : Event) → NoneMet (sender_after p v.sender e)
    after (Commanded by job now) = steps (sender.Commanded by job now)
    after (Delivered node datagram now draw) = either_so (node == p.sender) (heard p v.sender datagram now) (steps (sender.Delivered datagram now))
    after (Ticked node now) = either_so (node == p.sender) (sender_ticked p v.sender now).0 (steps (sender.Ticked now))
    after (Offered node octets) = none
    after (UpTaken node) = none
    after NewsAsked = steps sender.NewsAsked

run_unmet : (p : Settings) (v : World) (events : List Event) → NoneMet v.sender → NoneMet (run_from p v events).sender
run_unmet p v [] none = none
run_unmet p v (e ∷ events) none = run_unmet p (world_step p v e).0 events (event_unmet p v e none)

-- ---- listings

-- a member whom a flush does not ask is listed past it
listed_so : (at : Position) (node : ℕ) (ls : List Listing) → list_any (λ (l : Listing). l.node == node) ls ≡ true
    → list_any (λ (other : ℕ). other == node) (map (λ (l : Listing). l.node) (filter (λ l. not (is_past at l)) ls)) ≡ false
    → list_any (λ (l : Listing). l.node == node && is_past at l) ls ≡ true
listed_so at node [] member e = member
listed_so at node (l ∷ ls) member e = go (is_past at l) e (λ m x. listed_so at node ls m x)
  where
    by_past : (c m r : Bool) → (c || m) ≡ true → (m ≡ true → r ≡ true) → (c && true || r) ≡ true
    by_past true m r e more = refl
    by_past false m r e more = more e

    by_not : (c m x r : Bool) → (c || m) ≡ true → (c || x) ≡ false → (m ≡ true → x ≡ false → r ≡ true) → (c && false || r) ≡ true
    by_not true m x r e f more = absurd (clash (sym f))
    by_not false m x r e f more = more e f

    go : (b : Bool) → list_any (λ (other : ℕ). other == node)
        (map (λ (l : Listing). l.node) (cond (not b) (l ∷ filter (λ l. not (is_past at l)) ls) (filter (λ l. not (is_past at l)) ls))) ≡ false
        → (list_any (λ (l : Listing). l.node == node) ls ≡ true
        → list_any (λ (other : ℕ). other == node) (map (λ (l : Listing). l.node) (filter (λ l. not (is_past at l)) ls)) ≡ false
        → list_any (λ (l : Listing). l.node == node && is_past at l) ls ≡ true)
        → (l.node == node && b || list_any (λ (l : Listing). l.node == node && is_past at l) ls) ≡ true
    go true f more =
        by_past (l.node == node) (list_any (λ (l : Listing). l.node == node) ls) (list_any (λ (l : Listing). l.node == node && is_past at l) ls) member
        (λ m. more m f)
    go false f more =
        by_not (l.node == node) (list_any (λ (l : Listing). l.node == node) ls)
        (list_any (λ (other : ℕ). other == node) (map (λ (l : Listing). l.node) (filter (λ l. not (is_past at l)) ls)))
        (list_any (λ (l : Listing). l.node == node && is_past at l) ls) member f more

-- who is listed is a member
any_node : (node : ℕ) (ls : List Listing) → In node (map (λ (l : Listing). l.node) ls) → list_any (λ (l : Listing). l.node == node) ls ≡ true
any_node node [] there = absurd there
any_node node (l ∷ ls) (inl same) =
    or_left (l.node == node) (list_any (λ (l : Listing). l.node == node) ls) ((Decides-eqb l.node node).1 (sym same))
any_node node (l ∷ ls) (inr more) = or_right (l.node == node) (list_any (λ (l : Listing). l.node == node) ls) (any_node node ls more)

each_in : (ns : List ℕ) → AllByRecursion (λ (n : ℕ). In n ns) ns
each_in ns = go ns (λ n e. e)
  where
    go : (xs : List ℕ) → ((n : ℕ) → In n xs → In n ns) → AllByRecursion (λ (n : ℕ). In n ns) xs
    go [] within = tt
    go (x ∷ xs) within = (within x (inl refl), go xs (λ n e. within n (inr e)))

-- nothing is before the first position
none_first : (n : ℕ) → nat_lt n 0 ≡ false
none_first n = false_so (nat_lt n 0) (λ e. let lt = (Decides-ltb n 0).0 e in omega (arith, lt))

and_none : (a b : Bool) → b ≡ false → (a && b) ≡ false
and_none true b e = e
and_none false b e = refl

or_none : (a b : Bool) → a ≡ false → b ≡ false → (a || b) ≡ false
or_none true b e f = absurd (clash (sym e))
or_none false b e f = f

none_before : (at : Position) → position_before at (position 0 0 0) ≡ false
none_before at =
    or_none (point_before (point_of at) (point 0 0)) (at.index == 0 && at.block == 0 && nat_lt at.symbol 0)
    (or_none (nat_lt at.index 0) (at.index == 0 && nat_lt at.block 0) (none_first at.index) (and_none (at.index == 0) (nat_lt at.block 0) (none_first at.block)))
    (and_none (at.index == 0 && at.block == 0) (nat_lt at.symbol 0) (none_first at.symbol))

-- ---- the turn

module _ (p : Settings) (events : List Event) (last : ℕ) (draws : ℕ → ℕ) (ph : Phase) (h : InPhase p events last ph) (spent : is_spent p (run p events) ≡ true)
    (w : Watermark) (old : oldest (run p events).sender ≡ Some w)
    (kept : oldest (tail_turn p draws (last + p.step) (course_from (run p events))).world.sender ≡ Some w)
    (gives : GivesFlush p (last + p.step) (run p events).sender w) (late : most_held p ph ≤ last + p.step) where
  abbrev s : SenderState
  s = (run p events).sender

  abbrev turn : Course
  turn = tail_turn p draws (last + p.step) (course_from (run p events))

  abbrev after : World
  after = (tail_turn p draws (last + p.step) (course_from (run p events))).world

  abbrev u : SenderState
  u = (tail_turn p draws (last + p.step) (course_from (run p events))).world.sender

  -- ---- a member that is not behind

  module _ (node : ℕ) (other : (node == p.sender) ≡ false) (member : has_member node (run p events).sender ≡ true) (r t : ReceiverState)
      (found : receiver_at (run p events) node ≡ Some r) (is : receiver_at (tail_turn p draws (last + p.step) (course_from (run p events))).world node ≡ Some t)
      (past : position_before w.at t.holding.point ≡ true) where
    -- it was in the instance, and past the position
    before : (b : Bool) → is_in r (run p events).sender.current.id ≡ b → (b ≡ true) × (position_before w.at r.holding.point ≡ true)
    before true e = (
      refl,
      ap (λ (x : Holding). position_before w.at x.point) (sym (held_is s r e))
          ∙ sym (ap (λ (at : Position). position_before w.at at) (point_at p events last draws ph h spent w old kept gives late node other member r t found is)) ∙ past,
    )
    before false e =
        absurd (clash (sym (ap (λ (at : Position). position_before w.at at) (point_at p events last draws ph h spent w old kept gives late node other member r t found is)
        ∙ ap (λ (b : Bool). position_before w.at (elim b as (λ _. Holding) [ true ↦ r.holding | false ↦ holding_nothing ]).point) e ∙ none_before w.at) ∙ past))

    inside : is_in r (run p events).sender.current.id ≡ true
    inside = go (is_in r s.current.id) refl
      where
        go : (b : Bool) → is_in r s.current.id ≡ b → is_in r s.current.id ≡ true
        go b e = e ∙ (before b e).0

    past_r : position_before w.at r.holding.point ≡ true
    past_r = (before true inside).1

    says : FlushSays p (run p events).sender (flush_of p (run p events).sender w).octets (flush_command p (run p events).sender w) w.at
    says = flush_says p h.follows.profile events h.may (last + p.step) w gives

    lost : lost_nothing r.holding ≡ true
    lost = ap (λ (xs : List ℕ). elim xs as (λ _. Bool) [ [] ↦ true | x ∷ ys ↦ false ])
        ((stands_in_run p h.follows.profile h.holds events h.may.lawful h.may.jobs node r found member).inside inside).1

    owed : asks_node (run p events).sender w.at node ≡ true → (now draw : ℕ) → HearsIt p r (flush_command p (run p events).sender w) w.at
        → owes (received p r (flush_of p (run p events).sender w).octets now draw) w.at ≡ true
    owed asked now draw it =
        flush_heard.owed p r it.t (flush_of p s w).octets now draw w.at.index (flush_command p s w) says.read says.source it.enters it.named
        (subst (λ (x : ReceiverState). acknowledges x w.at (pending s w.at) ≡ true) (sym same_t)
        (and_so (names_this r (pending s w.at)) (has_handed_up r.holding w.at)
        (ap (λ (n : ℕ). list_any (λ (other : ℕ). other == n) (pending s w.at)) (world_laws.found (run p events) node r found) ∙ asked)
        (and_so (position_before w.at r.holding.point) (lost_nothing r.holding) past_r lost)))
      where
        same_t : it.t ≡ r
        same_t = go (entered_by r it.t s.current.id it.enters)
          where
            go : EnteredBy r it.t s.current.id → it.t ≡ r
            go (Inside e is_it) = is_it
            go (Outside e is_it) = absurd (clash (sym e ∙ inside))

    listed_then : is_listed_past u node w.at ≡ true
    listed_then = go (asks_node s w.at node) refl
      where
        go : (b : Bool) → asks_node s w.at node ≡ b → is_listed_past u node w.at ≡ true
        go true asked = is_listed p h.follows.profile events h.may draws (last + p.step) w gives node r asked found (in_instance_is r s.current.id inside) (owed asked)
        go false not_asked =
            (turn_keeps p draws (Listed p h.follows.profile events h.may node other w.at) (listed_nodes p h.follows.profile events h.may node other w.at)
            (listed_on p h.follows.profile events h.may node other w.at) (listed_drawn p h.follows.profile events h.may node other w.at) (last + p.step)
            (course_from (run p events)) (record { calm = begins_calm p (run p events); listed = listed_so w.at node s.listings member not_asked })).listed

  -- ---- all members

  rises : AreReceivers p (members s)
  rises = members_rise p events

  members_same : members u ≡ members s
  members_same = (stays p events last draws h.follows h.may h.no_less).members

  receiver_of : (node : ℕ) → (find (λ (to : ℕ). to == node) (receivers_of p p.receivers) ≡ None → ⊥) → (r : ReceiverState) × (receiver_at (run p events) node ≡ Some r)
  receiver_of node there = go (receiver_at (run p events) node) refl
    where
      go : (o : Option ReceiverState) → receiver_at (run p events) node ≡ o → (r : ReceiverState) × (receiver_at (run p events) node ≡ Some r)
      go (Some r) e = (r, e)
      go None e = absurd (there (ap (find (λ (n : ℕ). n == node)) (sym (world_laws.nodes p events)) ∙ no_node node (run p events).receivers e))

  unmet : NoneMet u
  unmet =
      subst (λ (v : World). NoneMet v.sender) (goes_on p h.follows.profile events h.may turn (calm p events last draws ph h spent w old kept)).leads
      (run_unmet p (world_opening p) (events ++ events_of turn) tt)

  pub some_behind : each_member (λ x. not (is_behind (tail_turn p draws (last + p.step) (course_from (run p events))).world.sender x))
      (tail_turn p draws (last + p.step) (course_from (run p events))).world ≡ false
  some_behind = false_so (each_member (λ x. not (is_behind u x)) after) (λ all. clash (sym (oldest_unmet u w unmet kept) ∙ met all))
    where
      listed : each_member (λ x. not (is_behind u x)) after ≡ true → (node : ℕ) → In node (members s)
          → (find (λ (to : ℕ). to == node) (receivers_of p p.receivers) ≡ None → ⊥) → list_any (past_of w.at node) u.listings ≡ true
      listed all node member there =
          listed_then node other is_member r.0 t.0 r.1 t.1
          (by (position_before w.at t.0.holding.point) (ap not (sym (behind_of u w t.0 kept))
          ∙ of_member (λ x. not (is_behind u x)) after all node t.0 t.1 (member_then p events last draws ph h spent w old kept node is_member)))
        where
          is_member : has_member node s ≡ true
          is_member = any_node node s.listings member

          r : (r : ReceiverState) × (receiver_at (run p events) node ≡ Some r)
          r = receiver_of node there

          other : (node == p.sender) ≡ false
          other = is_other p (run p events) (world_laws.nodes p events) node r.0 r.1

          t : (t : ReceiverState) × (receiver_at after node ≡ Some t)
          t = is_then p events last draws ph h spent w old kept node r.0 r.1

          by : (b : Bool) → not (not b) ≡ true → b ≡ true
          by true e = refl
          by false e = e

      met : each_member (λ x. not (is_behind u x)) after ≡ true → met_by u.listings w ≡ true
      met all =
          all_listed_met u.listings w (subst RisingNodes (sym members_same) rises.rise)
          (subst (λ (ns : List ℕ). AllByRecursion (λ (n : ℕ). list_any (past_of w.at n) u.listings ≡ true) ns) (sym members_same)
          (both_implied (members s) rises.there (each_in (members s))))
        where
          both_implied : (xs : List ℕ) → AllByRecursion (λ (q : ℕ). find (λ (to : ℕ). to == q) (receivers_of p p.receivers) ≡ None → ⊥) xs
              → AllByRecursion (λ (n : ℕ). In n (members s)) xs → AllByRecursion (λ (n : ℕ). list_any (past_of w.at n) u.listings ≡ true) xs
          both_implied [] there within = tt
          both_implied (x ∷ xs) there within = (listed all x within.0 there.0, both_implied xs there.1 within.1)

-- ---- the watermark with a number

none_some : (w : Watermark) → None ≡ Some w → ⊥
none_some w e = cc

same_mark : (v w : Watermark) → Some v ≡ Some w → v ≡ w
same_mark v w e = cc

head_made : (y v : Watermark) (ws vs : List Watermark) → map as_made (y ∷ ws) ≡ map as_made (v ∷ vs) → as_made y ≡ as_made v
head_made y v ws vs e = cc

tail_made : (y v : Watermark) (ws vs : List Watermark) → map as_made (y ∷ ws) ≡ map as_made (v ∷ vs) → map as_made ws ≡ map as_made vs
tail_made y v ws vs e = cc

head_of : (a b : ℕ) (xs ys : List ℕ) → (a ∷ xs) ≡ (b ∷ ys) → a ≡ b
head_of a b xs ys e = cc

tail_of : (a b : ℕ) (xs ys : List ℕ) → (a ∷ xs) ≡ (b ∷ ys) → xs ≡ ys
tail_of a b xs ys e = cc

head_range : (k : ℕ) (v : Watermark) (vs : List Watermark) → map (λ (x : Watermark). x.mark) (v ∷ vs) ≡ range_with_len (suc k) (length (v ∷ vs)) → v.mark ≡ suc k
head_range k v vs e = head_of v.mark (suc k) (map (λ (x : Watermark). x.mark) vs) (range_with_len (suc k + 1) (length vs)) e

tail_range : (k : ℕ) (v : Watermark) (vs : List Watermark) → map (λ (x : Watermark). x.mark) (v ∷ vs) ≡ range_with_len (suc k) (length (v ∷ vs))
    → map (λ (x : Watermark). x.mark) vs ≡ range_with_len (suc (suc k)) (length vs)
tail_range k v vs e =
    tail_of v.mark (suc k) (map (λ (x : Watermark). x.mark) vs) (range_with_len (suc k + 1) (length vs)) e
    ∙ ap (λ (n : ℕ). range_with_len n (length vs)) (let z : suc k + 1 ≡ suc (suc k) = omega arith in z)

-- an open one is as it was made
made_open : (w : Watermark) → is_open w ≡ true → w ≡ as_made w
made_open w e = go w.ended refl e
  where
    go : (o : Option Outcome) → w.ended ≡ o → is_none o ≡ true → w ≡ as_made w
    go None is f = ap (λ (o : Option Outcome). record w { ended = o }) is
    go (Some x) is f = absurd (clash f)

-- the marks of open watermarks of numbered ones
above : (k : ℕ) (vs : List Watermark) → map (λ (x : Watermark). x.mark) vs ≡ range_with_len (suc k) (length vs) → (ws : List Watermark) → map as_made ws ≡ map as_made vs
    → (w : Watermark) → find is_open ws ≡ Some w → k < w.mark
above k [] e [] same w found = absurd (none_some w found)
above k [] e (y ∷ ws) same w found = absurd (cells y ws same)
  where
    cells : (y : Watermark) (ws : List Watermark) → map as_made (y ∷ ws) ≡ [] → ⊥
    cells y ws e = cc
above k (v ∷ vs) e [] same w found = absurd (none_some w found)
above k (v ∷ vs) e (y ∷ ws) same w found = go (is_open y) found (above (suc k) vs (tail_range k v vs e) ws (tail_made y v ws vs same) w)
  where
    here : y.mark ≡ suc k
    here = ap (λ (x : Watermark). x.mark) (head_made y v ws vs same) ∙ head_range k v vs e

    go : (b : Bool) → cond b (Some y) (find is_open ws) ≡ Some w → (find is_open ws ≡ Some w → suc k < w.mark) → k < w.mark
    go true f more = let is = ap (λ (x : Watermark). x.mark) (same_mark y w f) in let first = here in omega (arith, is, first)
    go false f more = let lt = more f in omega (arith, lt)

-- of numbered ones, and these with other outcomes, the oldest open ones are the same, if they have one number
same_open : (k : ℕ) (vs : List Watermark) → map (λ (x : Watermark). x.mark) vs ≡ range_with_len (suc k) (length vs) → (ws : List Watermark) → map as_made ws ≡ map as_made vs
    → (v w : Watermark) → find is_open vs ≡ Some v → find is_open ws ≡ Some w → w.mark ≡ v.mark → w ≡ v
same_open k [] e ws same v w of_v of_w marks = absurd (none_some v of_v)
same_open k (x ∷ vs) e [] same v w of_v of_w marks = absurd (none_some w of_w)
same_open k (x ∷ vs) e (y ∷ ws) same v w of_v of_w marks =
    go (is_open x) (is_open y) refl refl of_v of_w (above (suc k) vs (tail_range k x vs e) vs refl v) (above (suc k) vs (tail_range k x vs e) ws (tail_made y x ws vs same) w)
    (same_open (suc k) vs (tail_range k x vs e) ws (tail_made y x ws vs same) v w)
  where
    x_mark : x.mark ≡ suc k
    x_mark = head_range k x vs e

    y_mark : y.mark ≡ suc k
    y_mark = ap (λ (z : Watermark). z.mark) (head_made y x ws vs same) ∙ x_mark

    go : (a b : Bool) → is_open x ≡ a → is_open y ≡ b → cond a (Some x) (find is_open vs) ≡ Some v → cond b (Some y) (find is_open ws) ≡ Some w
        → (find is_open vs ≡ Some v → suc k < v.mark) → (find is_open ws ≡ Some w → suc k < w.mark)
        → (find is_open vs ≡ Some v → find is_open ws ≡ Some w → w.mark ≡ v.mark → w ≡ v) → w ≡ v
    go true true p q f g far later more =
        sym (same_mark y w g) ∙ made_open y q ∙ head_made y x ws vs same ∙ sym (made_open x p) ∙ same_mark x v f
    go true false p q f g far later more =
        absurd (let lt = later g in let is = ap (λ (z : Watermark). z.mark) (same_mark x v f) in let first = x_mark in omega (arith, lt, is, first, marks))
    go false true p q f g far later more =
        absurd (let lt = far f in let is = ap (λ (z : Watermark). z.mark) (same_mark y w g) in let first = y_mark in omega (arith, lt, is, first, marks))
    go false false p q f g far later more = more f g marks

pub same_oldest : (p : Settings) → InRange p → (events : List Event) (draws : ℕ → ℕ) (now mark : ℕ) (w : Watermark) → oldest (run p events).sender ≡ Some w
    → IsOldest (run p events).sender mark → IsOldest (tail_turn p draws now (course_from (run p events))).world.sender mark
    → oldest (tail_turn p draws now (course_from (run p events))).world.sender ≡ Some w
same_oldest p range events draws now mark w old before then = go (oldest u) refl then
  where
    s : SenderState
    s = (run p events).sender

    u : SenderState
    u = (tail_turn p draws now (course_from (run p events))).world.sender

    calm_then : IsCalm p (run p events) (tail_turn p draws now (course_from (run p events)))
    calm_then = turn_keeps p draws (IsCalm p (run p events)) (λ c k. k.nodes ∙ world_laws.nodes p events) (comes_calm p (run p events)) (draw_calm p (run p events))
        now (course_from (run p events)) (begins_calm p (run p events))

    made : map as_made u.watermarks ≡ map as_made s.watermarks
    made = (subst (λ (v : World). TailStays s v.sender) calm_then.leads
        (quiet_run_stays p (run p events) (events_of (tail_turn p draws now (course_from (run p events)))) calm_then.quiet)).marks

    numbered : map (λ (x : Watermark). x.mark) s.watermarks ≡ range_with_len 1 (length s.watermarks)
    numbered = (run_reached p range (world_opening p) events (reached_laws.at_first p p.instance range)).book.numbered

    of_mark : (a b : ℕ) → Some a ≡ Some b → a ≡ b
    of_mark a b e = cc

    none_is : None ≡ Some mark → ⊥
    none_is e = cc

    go : (o : Option Watermark) → oldest u ≡ o → option_map (λ (x : Watermark). x.mark) o ≡ Some mark → oldest u ≡ Some w
    go None is e = absurd (none_is e)
    go (Some x) is e =
        is ∙ ap (λ (y : Watermark). Some y) (same_open 0 s.watermarks numbered u.watermarks made w x old is
        (of_mark x.mark mark e ∙ sym (of_mark w.mark mark (sym (ap (λ (o : Option Watermark). option_map (λ (x : Watermark). x.mark) o) old) ∙ before))))
