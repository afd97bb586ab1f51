-- A plan that is taken back: the front stands for the state as it was.
use Rattle.std.proofs.Common.{◌≡◌, ℕ, zero, suc, ◌+◌, ◌-◌, ◌<◌, ◌≤◌, ◌⊎◌, inl, inr, Bool, true, false, cond, refl, sym, ap, ◌∙◌, subst, arith, Option, Some, None, List, [], ◌∷◌, length, map}
use Rattle.std.specs.Prelude.{slice_set, filter, find, MatchOption, not, sum_by, ◌==◌}
use Rattle.std.specs.VecDeque.{deque_capacity}
use Rattle.std.proofs.lemmas.Bool.{cases_order, eq-eqb, eqb-true, ne_eqb}
use Rattle.std.proofs.lemmas.List.{length-map, length-set}
use Rattle.norm_base.specs.Settings.{Settings}
use Rattle.fec_plan.specs.Points.{position}
use Rattle.fec_plan.specs.declared.position.Position.{Position}
use Rattle.norm_ext.specs.declared.fti.Fti.{Fti}
use Rattle.norm_order.specs.Sets.{with_member}
use Rattle.norm_receive_rules.specs.Fitting.{plan_before, with_plan}
use Rattle.norm_receive_rules.specs.Holding.{Holding, Plan, Held, HeldInfo, new_plan}
use Rattle.norm_receive_rules.specs.Laws.{HasPassed, IsAtStart, IsPassed, PassedBy}
use Rattle.norm_receive_rules.specs.Plans.{is_over, plan_of, says_stream}
use Rattle.norm_receive_rules.proofs.PassedLemmas.{new_found}
use Rattle.rx_hold.specs.EntryState.{EntryState, entry_of, infos_in}
use Rattle.rx_hold.specs.EntryHold.{EntryHold, PlacedEntries, StandsFor, at_place, entries_there, entry_at}
use Rattle.rx_hold.proofs.EntryRing.{part_of, same_parts}
use Rattle.rx_hold.proofs.EntryStands.{held_in, held_key, own_held, own_info, view_with}
use Rattle.rx_hold.specs.Fits.{empty_entry}
use Rattle.rx_hold.specs.Seats.{AreSeats, IsSeat, begins_at, octets_at, state_of, states_of, waiting_at}
use Rattle.rx_hold.specs.FrontSound.{IsBlank, IsFront, IsUnused, front_view, object_in, point_of_front}
use Rattle.rx_hold.specs.declared.front.Front.{Front}
use Rattle.rx_hold.specs.declared.ring.Seat.{Seat}
use Rattle.rx_hold.proofs.PutLemmas.{sum_least}
use Rattle.rx_hold.proofs.ReadLemmas.{looked_up}
use Rattle.rx_hold.proofs.SeatLemmas.{placed, set_here, set_other, state_at, state_seat, states_set, sum_set, within}

abbrev keeps : ℕ → Plan → Bool
keeps index y = not (y.index == index)

filter_step : (q : Plan → Bool) (y : Plan) (ys : List Plan) (b : Bool) → q y ≡ b → filter q (y ∷ ys) ≡ cond b (y ∷ filter q ys) (filter q ys)
filter_step q y ys b e = ap (λ c. cond c (y ∷ filter q ys) (filter q ys)) e

filter_swap : (q r : Plan → Bool) (ys : List Plan) → filter q (filter r ys) ≡ filter r (filter q ys)
filter_swap q r [] = refl
filter_swap q r (y ∷ ys) = go (q y) (r y) refl refl (filter_swap q r ys)
  where
    go : (a b : Bool) → q y ≡ a → r y ≡ b → filter q (filter r ys) ≡ filter r (filter q ys) → filter q (filter r (y ∷ ys)) ≡ filter r (filter q (y ∷ ys))
    go true true e d rest =
        ap (filter q) (filter_step r y ys true d) ∙ filter_step q y (filter r ys) true e ∙ ap (λ zs. y ∷ zs) rest
        ∙ sym (ap (filter r) (filter_step q y ys true e) ∙ filter_step r y (filter q ys) true d)
    go true false e d rest =
        ap (filter q) (filter_step r y ys false d) ∙ rest ∙ sym (ap (filter r) (filter_step q y ys true e) ∙ filter_step r y (filter q ys) false d)
    go false true e d rest =
        ap (filter q) (filter_step r y ys true d) ∙ filter_step q y (filter r ys) false e ∙ rest ∙ sym (ap (filter r) (filter_step q y ys false e))
    go false false e d rest = ap (filter q) (filter_step r y ys false d) ∙ rest ∙ sym (ap (filter r) (filter_step q y ys false e))

-- a member that a filter leaves out
filter_drops : (r : Plan → Bool) (x : Plan) (ys : List Plan) → r x ≡ false → filter r (with_member plan_before x ys) ≡ filter r ys
unfolding with_member
filter_drops r x [] e = filter_step r x [] false e
filter_drops r x (y ∷ ys) e = go (plan_before x y) (plan_before y x) (filter_drops r x ys e)
  where
    go : (a b : Bool) → filter r (with_member plan_before x ys) ≡ filter r ys → filter r (elim a as (λ _. List Plan) [
      | true ↦ x ∷ y ∷ ys
      | false ↦ elim b as (λ _. List Plan) [ true ↦ y ∷ with_member plan_before x ys | false ↦ y ∷ ys ]
    ]) ≡ filter r (y ∷ ys)
    go true b rest = filter_step r x (y ∷ ys) false e
    go false true rest = ap (λ zs. cond (r y) (y ∷ zs) zs) rest
    go false false rest = refl

none_such : (index : ℕ) (ys : List Plan) → find (λ (y : Plan). y.index == index) ys ≡ None → filter (keeps index) ys ≡ ys
none_such index [] e = refl
none_such index (y ∷ ys) e = go (y.index == index) refl (none_such index ys)
  where
    go : (b : Bool) → (y.index == index) ≡ b → (find (λ (z : Plan). z.index == index) ys ≡ None → filter (keeps index) ys ≡ ys) → filter (keeps index) (y ∷ ys) ≡ y ∷ ys
    go true same rest = absurd (clash (sym (ap (λ b. cond b (Some y) (find (λ (z : Plan). z.index == index) ys)) same) ∙ e))
      where
        clash : Some y ≡ None → ⊥
        clash d = cc
    go false same rest =
        filter_step (keeps index) y ys true (ap not same)
        ∙ ap (λ zs. y ∷ zs) (rest (sym (ap (λ b. cond b (Some y) (find (λ (z : Plan). z.index == index) ys)) same) ∙ e))

all_kept : (p : Settings) (index m : ℕ) (ring : List (Option EntryState)) → PlacedEntries p m ring → index < m
    → filter (keeps index) (map (λ (o : EntryState). o.plan) (entries_there ring)) ≡ map (λ (o : EntryState). o.plan) (entries_there ring)
all_kept p index m [] placed lt = refl
all_kept p index m (None ∷ ring) placed lt = all_kept p index (suc m) ring placed (omega arith)
all_kept p index m (Some o ∷ ring) placed lt =
    filter_step (keeps index) o.plan (map (λ (x : EntryState). x.plan) (entries_there ring)) true (ap not (ne_eqb o.plan.index index (λ e. let here = placed.0.index in omega arith)))
    ∙ ap (λ zs. o.plan ∷ zs) (all_kept p index (suc m) ring placed.1 (omega arith))

cleared : (p : Settings) (index m i : ℕ) (ring : List (Option EntryState)) (x : EntryState) → PlacedEntries p m ring → m + i ≡ index → entry_at ring i ≡ Some x
    → filter (keeps index) (map (λ (o : EntryState). o.plan) (entries_there ring)) ≡ map (λ (o : EntryState). o.plan) (entries_there (slice_set ring i None))
cleared p index m i [] x placed at e = absurd (cc)
cleared p index m zero (None ∷ ring) x placed at e = absurd (cc)
cleared p index m zero (Some o ∷ ring) x placed at e =
    filter_step (keeps index) o.plan (map (λ (y : EntryState). y.plan) (entries_there ring)) false (ap not (eq-eqb o.plan.index index (let here = placed.0.index in omega arith)))
    ∙ all_kept p index (suc m) ring placed.1 (omega arith)
cleared p index m (suc i) (None ∷ ring) x placed at e = cleared p index (suc m) i ring x placed (omega arith) e
cleared p index m (suc i) (Some o ∷ ring) x placed at e =
    filter_step (keeps index) o.plan (map (λ (y : EntryState). y.plan) (entries_there ring)) true (ap not (ne_eqb o.plan.index index (λ d. let here = placed.0.index in omega arith)))
    ∙ ap (λ zs. o.plan ∷ zs) (cleared p index (suc m) i ring x placed.1 (omega arith) e)

-- ---- what is there by its place

pub record IsThere (f : Front) (index : ℕ) (seat : Seat) : Type 0 where
  pub reached : f.point ≤ index
  pub found : at_place f.ring.items (index - f.point) ≡ Some seat
  pub blank : IsBlank (entry_of seat.entry)

pub unused_there : (f : Front) (index : ℕ) → IsFront f → IsUnused (front_view f) index → (seat : Seat) × IsThere f index seat
unused_there f index front unused = go (object_in (front_view f) index) refl unused
  where
    go : (found : Option EntryState) → object_in (front_view f) index ≡ found → MatchOption found ⊥ (λ (o : EntryState). (f.point ≤ index) × IsBlank o) → (seat : Seat) × IsThere f index seat
    go None e never = absurd never
    go (Some o) e there =
        let i = index - f.point in
        let at : entry_at (states_of f.ring.items) i ≡ Some o = sym (looked_up f index front there.0) ∙ e in
        let seat = state_seat (at_place f.ring.items i) o (sym (state_at f.ring.items i) ∙ at) in
        (seat.0, record { reached = there.0; found = seat.1; blank = subst (λ (x : EntryState). IsBlank x) seat.2 there.1 })

-- what was taken up is unused
empty_blank : (plan : Plan) (room : ℕ) → IsBlank (empty_entry plan room)
empty_blank plan room = go (says_stream plan.flags)
  where
    by : Bool → EntryState
    by b = elim b as (λ _. EntryState) [
      | true ↦ record { plan = plan; info = None; held = []; point = position plan.index 0 0; room = room }
      | false ↦ record { plan = plan; info = None; held = []; point = position 0 0 0; room = 0 }
    ]

    go : (b : Bool) → IsBlank (by b)
    go true = record { held = refl; info = refl; block = refl; symbol = refl }
    go false = record { held = refl; info = refl; block = refl; symbol = refl }

pub taken_unused : (f : Front) (index : ℕ) (seat : Seat) (plan : Plan) (room : ℕ) → IsFront f → f.point ≤ index → at_place f.ring.items (index - f.point) ≡ Some seat
    → entry_of seat.entry ≡ empty_entry plan room → IsUnused (front_view f) index
taken_unused f index seat plan room front reached there is =
    let found : object_in (front_view f) index ≡ Some (entry_of seat.entry) = looked_up f index front reached ∙ state_at f.ring.items (index - f.point) ∙ ap state_of there in
    subst (λ (o : Option EntryState). MatchOption o ⊥ (λ (x : EntryState). (f.point ≤ index) × IsBlank x)) (sym found)
    (reached, subst (λ (x : EntryState). IsBlank x) (sym is) (empty_blank plan room))

-- ---- the front

-- all but the ring and what it counts is as it was
pub record IsCleared (f g : Front) (i : ℕ) : Type 0 where
  pub profile : g.profile ≡ f.profile
  pub point : g.point ≡ f.point
  pub ring : g.ring.items ≡ slice_set f.ring.items i None
  pub ring_room : deque_capacity g.ring ≡ deque_capacity f.ring
  pub taken : g.taken + octets_at f.profile (at_place f.ring.items i) ≡ f.taken
  pub waiting : g.waiting + waiting_at (at_place f.ring.items i) ≡ f.waiting
  pub ups : g.ups ≡ f.ups
  pub lost : g.lost ≡ f.lost

seats_cleared : (p : Settings) (n i : ℕ) (ring : List (Option Seat)) → i < length ring → AreSeats p n ring → AreSeats p n (slice_set ring i None)
seats_cleared p n i ring lt all j seat e = go (cases_order j i)
  where
    nothing : None ≡ Some seat → ⊥
    nothing d = cc d

    go : (j ≡ i) ⊎ ((j < i) ⊎ (i < j)) → IsSeat p j (n + j) seat
    go (inl same) = absurd (nothing (sym (ap (at_place (slice_set ring i None)) same ∙ set_here ring i None lt) ∙ e))
    go (inr (inl less)) = all j seat (sym (set_other ring i j None (λ same. omega (arith, same, less))) ∙ e)
    go (inr (inr more)) = all j seat (sym (set_other ring i j None (λ same. omega (arith, same, more))) ∙ e)

pub cleared_sound : (f g : Front) (i : ℕ) → IsFront f → i < length f.ring.items → IsCleared f g i → IsFront g
cleared_sound f g i front lt is =
    let most : g.profile.octets ≡ f.profile.octets = ap (λ (p : Settings). p.octets) is.profile in
    let octets_is : sum_by (octets_at g.profile) g.ring.items ≡ sum_by (octets_at f.profile) (slice_set f.ring.items i None) =
    ap (λ (p : Settings). sum_by (octets_at p) g.ring.items) is.profile ∙ ap (λ (r : List (Option Seat)). sum_by (octets_at f.profile) r) is.ring in
    let waits_is : sum_by waiting_at g.ring.items ≡ sum_by waiting_at (slice_set f.ring.items i None) = ap (λ (r : List (Option Seat)). sum_by waiting_at r) is.ring in
    let octets = sum_set (octets_at f.profile) f.ring.items i None lt in
    let waits = sum_set waiting_at f.ring.items i None lt in
    let ups_long : length g.ups.items ≡ length f.ups.items = ap (λ u. length u.items) is.ups in
    let ups_room : deque_capacity g.ups ≡ deque_capacity f.ups = ap (λ u. deque_capacity u) is.ups in
    record {
      places = ap (λ (r : List (Option Seat)). length r) is.ring ∙ length-set f.ring.items i None ∙ front.places;
      places_room = omega (arith, front.places_room, is.ring_room);
      seats =
          subst (λ (p : Settings). AreSeats p g.point g.ring.items) (sym is.profile)
          (subst (λ (n : ℕ). AreSeats f.profile n g.ring.items) (sym is.point)
          (subst (λ (r : List (Option Seat)). AreSeats f.profile f.point r) (sym is.ring) (seats_cleared f.profile f.point i f.ring.items lt front.seats)));
      taken = omega (arith, is.taken, front.taken, octets, octets_is);
      within = omega (arith, is.taken, front.within, most);
      most = omega (arith, front.most, most);
      waiting = omega (arith, is.waiting, front.waiting, waits, waits_is);
      room = omega (arith, front.room, is.waiting, ups_long, ups_room);
    }

pub least_octets : (f : Front) (i : ℕ) (seat : Seat) → IsFront f → at_place f.ring.items i ≡ Some seat → octets_at f.profile (at_place f.ring.items i) ≤ f.taken
least_octets f i seat front e =
    let at : octets_at f.profile (at_place f.ring.items i) ≡ octets_at f.profile (Some seat) = ap (octets_at f.profile) e in
    omega (arith, at, sum_least (octets_at f.profile) f.ring.items i seat e, front.taken)

pub least_waiting : (f : Front) (i : ℕ) (seat : Seat) → IsFront f → at_place f.ring.items i ≡ Some seat → waiting_at (at_place f.ring.items i) ≤ f.waiting
least_waiting f i seat front e =
    let at : waiting_at (at_place f.ring.items i) ≡ seat.waiting = ap waiting_at e in
    omega (arith, at, sum_least waiting_at f.ring.items i seat e, front.waiting)

-- ---- what it stands for

-- what was passed was so before the plan came
still_passed : (p : Settings) (s : Holding) (index : ℕ) (f : Fti) (flags : ℕ) → plan_of s index ≡ None → (index ≡ s.point.index → IsAtStart s)
    → HasPassed p (with_plan index f flags s) → HasPassed p s
still_passed p s index f flags none start h = go (new_found s.point.index (new_plan index f flags) s.plans)
  where
    t : Holding
    t = with_plan index f flags s

    back : (found : Option Plan) → PassedBy p t found → PassedBy p s found
    back None k = record { block = k.block; symbol = k.symbol }
    back (Some plan) k = by (says_stream plan.flags) k
      where
        by : (b : Bool) → elim b as (λ _. Type 0) [ true ↦ IsPassed p t plan | false ↦ IsAtStart t ] → elim b as (λ _. Type 0) [ true ↦ IsPassed p s plan | false ↦ IsAtStart s ]
        by true d = record { done = d.done; there = d.there; no_end = d.no_end }
        by false d = record { block = d.block; symbol = d.symbol }

    go : (plan_of t s.point.index ≡ plan_of s s.point.index) ⊎ ((index == s.point.index) ≡ true) → PassedBy p s (plan_of s s.point.index)
    go (inl same) = back (plan_of s s.point.index) (subst (λ (found : Option Plan). PassedBy p t found) same h)
    go (inr here) =
        let is : index ≡ s.point.index = eqb-true index s.point.index here in
        subst (λ (found : Option Plan). PassedBy p s found) (sym (ap (plan_of s) (sym is) ∙ none)) (start is)

module _ (f g : Front) (i index : ℕ) (seat : Seat) (front : IsFront f) (there : IsThere f index seat) (at : f.point + i ≡ index) (is : IsCleared f g i) where
  here : at_place f.ring.items i ≡ Some seat
  here = ap (at_place f.ring.items) (let n : i ≡ index - f.point = omega (arith, at) in n) ∙ there.found

  abbrev states : List (Option EntryState)
  states = states_of f.ring.items

  entry_here : entry_at (states_of f.ring.items) i ≡ Some (entry_of seat.entry)
  entry_here = state_at f.ring.items i ∙ ap state_of here

  long : i < length (states_of f.ring.items)
  long = omega (arith, within f.ring.items i seat here, length-map f.ring.items state_of)

  -- the hand-up point stays where it is
  begins_cleared : (r : List (Option EntryState)) (j : ℕ) → entry_at r j ≡ Some (entry_of seat.entry) → begins_at f.point (entry_at (slice_set r j None) 0) ≡ begins_at f.point (entry_at r 0)
  begins_cleared [] j e = refl
  begins_cleared (x ∷ r) zero e =
      sym (ap (begins_at f.point) e
      ∙ ap (λ n. position f.point n (entry_of seat.entry).point.symbol) there.blank.block
      ∙ ap (λ n. position f.point 0 n) there.blank.symbol)
  begins_cleared (x ∷ r) (suc j) e = refl

  no_infos : infos_in (entry_of seat.entry) ≡ []
  no_infos = ap (λ (info : Option (List ℕ)). infos_in (record (entry_of seat.entry) { info = info })) there.blank.info

  view : front_view g ≡ view_with f.profile (point_of_front f) (slice_set (states_of f.ring.items) i None) f.ups.items f.lost
  view =
      ap (λ (p : Settings). record (front_view g) { p = p }) is.profile
      ∙ ap (λ (n : ℕ). record (front_view g) { p = f.profile; point = begins_at n (entry_at (states_of g.ring.items) 0) }) is.point
      ∙ ap (λ us. record (front_view g) { p = f.profile; point = begins_at f.point (entry_at (states_of g.ring.items) 0); ups = us.items }) is.ups
      ∙ ap (λ (b : Bool). view_with f.profile (begins_at f.point (entry_at (states_of g.ring.items) 0)) (states_of g.ring.items) f.ups.items b) is.lost
      ∙ ap (λ (r : List (Option EntryState)). view_with f.profile (begins_at f.point (entry_at r 0)) r f.ups.items f.lost) (ap states_of is.ring ∙ states_set f.ring.items i None)
      ∙ ap (λ (x : Position). view_with f.profile x (slice_set (states_of f.ring.items) i None) f.ups.items f.lost) (begins_cleared (states_of f.ring.items) i entry_here)

  pub untaken_stands : (s : Holding) (h : Fti) (flags : ℕ) → plan_of s index ≡ None → StandsFor (front_view f) (with_plan index h flags s) → StandsFor (front_view g) s
  untaken_stands s h flags none stands =
      let plan : Plan = new_plan index h flags in
      let open_test : Plan → Bool = λ y. not (is_over s y.index) in
      let at_start : index ≡ s.point.index → IsAtStart s = λ same. start s h flags stands same in
      subst (λ (v : EntryHold). StandsFor v s) (sym view)
      (record {
        point = stands.point;
        plans =
            ap (filter open_test) (sym (none_such index s.plans none) ∙ sym (filter_drops (keeps index) plan s.plans (ap not (eq-eqb index index refl))))
            ∙ filter_swap open_test (keeps index) (with_member plan_before plan s.plans)
            ∙ ap (filter (keeps index)) stands.plans
            ∙ cleared f.profile index f.point i states (entry_of seat.entry) (placed f.profile f.point f.ring.items front.seats) at entry_here;
        held =
            stands.held
            ∙ sym (same_parts Held f.profile held_in held_key (own_held f.profile) states i None long
            (sym (ap (λ (found : Option EntryState). part_of Held held_in found) entry_here ∙ there.blank.held)));
        infos =
            stands.infos
            ∙ sym (same_parts HeldInfo f.profile infos_in (λ y. y.index) (own_info f.profile) states i None long
            (sym (ap (λ (found : Option EntryState). part_of HeldInfo infos_in found) entry_here ∙ no_infos)));
        ups = stands.ups;
        lost = stands.lost;
        passed = still_passed f.profile s index h flags none at_start stands.passed;
      })
    where
      start : (t : Holding) (d : Fti) (n : ℕ) → StandsFor (front_view f) (with_plan index d n t) → index ≡ t.point.index → IsAtStart t
      start t d n stand same =
          let point : t.point ≡ point_of_front f = stand.point in
          let zero_is : i ≡ 0 = omega (arith, same, at, ap (λ (x : Position). x.index) point) in
          let first : begins_at f.point (entry_at states 0) ≡ position f.point 0 0 =
          ap (λ j. begins_at f.point (entry_at states j)) (sym zero_is) ∙ ap (begins_at f.point) entry_here
          ∙ ap (λ m. position f.point m (entry_of seat.entry).point.symbol) there.blank.block
          ∙ ap (λ m. position f.point 0 m) there.blank.symbol in
          record { block = ap (λ (x : Position). x.block) (point ∙ first); symbol = ap (λ (x : Position). x.symbol) (point ∙ first) }
