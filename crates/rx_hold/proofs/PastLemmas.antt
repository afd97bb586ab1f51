-- A front as its first place is left behind: what it keeps, and what it stands for.
use Rattle.std.proofs.Common.{◌≡◌, ℕ, zero, suc, ◌+◌, ◌<◌, ◌≤◌, ◌⊎◌, inl, inr, Bool, true, false, refl, sym, ap, ◌∙◌, subst, arith, Option, Some, None, List, [], ◌∷◌, ◌++◌, length, length-append, map}
use Rattle.std.specs.Prelude.{filter, flat_map, slice_set, sum_by, not, nat_lt, ◌==◌, ◌&&◌, ◌||◌}
use Rattle.std.proofs.lemmas.Bool.{cases_lt, le-ltb, lt-ltb, ne_eqb}
use Rattle.std.proofs.lemmas.List.Sums.{sum_by-cons}
use Rattle.norm_base.specs.Settings.{Settings}
use Rattle.fec_plan.specs.Points.{Point, point, point_of, point_before, position}
use Rattle.fec_plan.specs.declared.position.Position.{Position}
use Rattle.norm_order.specs.declared.up.Up.{Up}
use Rattle.norm_receive_rules.specs.Acknowledging.{lost_nothing}
use Rattle.norm_receive_rules.specs.HandingUp.{after_object}
use Rattle.norm_receive_rules.specs.Holding.{Holding, Plan, Held, HeldInfo}
use Rattle.norm_receive_rules.specs.Laws.{HasPassed}
use Rattle.rx_hold.specs.EntryState.{EntryState, entry_of, infos_in}
use Rattle.rx_hold.specs.EntryHold.{EntryHold, PlacedEntries, StandsFor, at_place, entries_there, entry_at}
use Rattle.rx_hold.proofs.EntryRing.{filter_twice, without_first}
use Rattle.rx_hold.proofs.EntryStands.{held_in, held_key, own_held, own_info, own_plan, plans_in, plans_joined, view_with}
use Rattle.rx_hold.specs.Seats.{AreSeats, IsSeat, begins_at, octets_at, state_of, states_of, waiting_at}
use Rattle.rx_hold.specs.FrontSound.{HasRoom, IsFront, front_view, point_of_front}
use Rattle.rx_hold.specs.Handing.{HasTold, IsPast, left_at, left_in, shifted}
use Rattle.rx_hold.specs.declared.front.Front.{Front}
use Rattle.rx_hold.specs.declared.ring.Seat.{Seat}
use Rattle.rx_hold.proofs.SeatLemmas.{placed}

-- ---- the ring

pub shifted_long : (X : Type 0) (ring : List (Option X)) → 0 < length ring → length (shifted ring) ≡ length ring
shifted_long X [] some = absurd (omega arith)
shifted_long X (first ∷ rest) some = omega (arith, length-append rest (None ∷ []))

-- a free place behind the others has nothing
at_longer : (ring : List (Option Seat)) (i : ℕ) (seat : Seat) → at_place (ring ++ None ∷ []) i ≡ Some seat → at_place ring i ≡ Some seat
at_longer [] zero seat e = absurd (cc e)
at_longer [] (suc i) seat e = absurd (cc e)
at_longer (x ∷ ring) zero seat e = e
at_longer (x ∷ ring) (suc i) seat e = at_longer ring i seat e

pub at_shifted : (ring : List (Option Seat)) (i : ℕ) (seat : Seat) → at_place (shifted ring) i ≡ Some seat → at_place ring (suc i) ≡ Some seat
at_shifted [] zero seat e = absurd (cc e)
at_shifted [] (suc i) seat e = absurd (cc e)
at_shifted (x ∷ ring) i seat e = at_longer ring i seat e

seats_shifted : (p : Settings) (n : ℕ) (ring : List (Option Seat)) → AreSeats p n ring → AreSeats p (n + 1) (shifted ring)
seats_shifted p n ring all i seat e =
    let is : IsSeat p (suc i) (n + suc i) seat = all (suc i) seat (at_shifted ring i seat e) in
    let at : n + suc i ≡ n + 1 + i = omega arith in
    subst (λ (k : ℕ). IsSeat p i k seat) at
    (record { entry = is.entry; kind = is.kind; own = is.own; later = λ lt. is.later (omega arith); room = is.room })

states_longer : (ring : List (Option Seat)) → states_of (ring ++ None ∷ []) ≡ states_of ring ++ None ∷ []
states_longer [] = refl
states_longer (x ∷ ring) = ap (λ (r : List (Option EntryState)). state_of x ∷ r) (states_longer ring)

pub states_shifted : (ring : List (Option Seat)) → states_of (shifted ring) ≡ shifted (states_of ring)
states_shifted [] = refl
states_shifted (x ∷ ring) = states_longer ring

sum_longer : (g : Option Seat → ℕ) (ring : List (Option Seat)) → g None ≡ 0 → sum_by g (ring ++ None ∷ []) ≡ sum_by g ring
sum_longer g [] none = omega (arith, none, sum_by-cons g None [])
sum_longer g (x ∷ ring) none = omega (arith, sum_longer g ring none, sum_by-cons g x ring, sum_by-cons g x (ring ++ None ∷ []))

pub sum_shifted : (g : Option Seat → ℕ) (ring : List (Option Seat)) → g None ≡ 0 → sum_by g (shifted ring) + g (at_place ring 0) ≡ sum_by g ring
sum_shifted g [] none = omega (arith, none, sum_by-cons g None [])
sum_shifted g (x ∷ ring) none = omega (arith, sum_longer g ring none, sum_by-cons g x ring)

-- what was set at the first place is gone with it
pub shifted_set : (ring : List (Option Seat)) (v : Option Seat) → shifted (slice_set ring 0 v) ≡ shifted ring
shifted_set [] v = refl
shifted_set (x ∷ ring) v = refl

-- ---- the front

pub past_sound : (f g : Front) → IsFront f → IsPast f g → HasRoom 0 g → IsFront g
past_sound f g front is room =
    let most : g.profile.octets ≡ f.profile.octets = ap (λ (p : Settings). p.octets) is.profile in
    let octets_is : sum_by (octets_at g.profile) g.ring.items ≡ sum_by (octets_at f.profile) (shifted f.ring.items) =
    ap (λ (p : Settings). sum_by (octets_at p) g.ring.items) is.profile ∙ ap (λ (r : List (Option Seat)). sum_by (octets_at f.profile) r) is.ring in
    let waits_is : sum_by waiting_at g.ring.items ≡ sum_by waiting_at (shifted f.ring.items) = ap (λ (r : List (Option Seat)). sum_by waiting_at r) is.ring in
    record {
      places = ap (λ (r : List (Option Seat)). length r) is.ring ∙ shifted_long Seat f.ring.items (omega (arith, front.places)) ∙ front.places;
      places_room = omega (arith, front.places_room, is.ring_room);
      seats =
          subst (λ (p : Settings). AreSeats p g.point g.ring.items) (sym is.profile)
          (subst (λ (n : ℕ). AreSeats f.profile n g.ring.items) (sym is.point)
          (subst (λ (r : List (Option Seat)). AreSeats f.profile (f.point + 1) r) (sym is.ring) (seats_shifted f.profile f.point f.ring.items front.seats)));
      taken = omega (arith, is.taken, front.taken, sum_shifted (octets_at f.profile) f.ring.items refl, octets_is);
      within = omega (arith, front.within, is.taken, most);
      most = omega (arith, front.most, most);
      waiting = omega (arith, is.waiting, front.waiting, sum_shifted waiting_at f.ring.items refl, waits_is);
      room = room;
    }

told_long : (f g : Front) (more : List Up) → HasTold f g more → length g.ups.items ≡ length f.ups.items + length more
told_long f g more told = ap (λ (us : List Up). length us) told.ups ∙ length-append f.ups.items more

-- so many hand-ups wait then that room was taken for what was at the first place
pub past_room : (f g : Front) (more : List Up) → IsPast f g → HasTold f g more → length more ≤ waiting_at (at_place f.ring.items 0) → (n : ℕ) → HasRoom n f → HasRoom n g
past_room f g more is told few n room = omega (arith, told_long f g more told, told.room, is.waiting, few, room)

-- or there was room for one more
pub lost_room : (f g : Front) (up : Up) → IsPast f g → HasTold f g (up ∷ []) → (n : ℕ) → HasRoom (n + 1) f → HasRoom n g
lost_room f g up is told n room = omega (arith, told_long f g (up ∷ []) told, told.room, is.waiting, room)

pub past_left : (f g : Front) → IsPast f g → left_in g + left_at (at_place f.ring.items 0) ≡ left_in f
past_left f g is = ap (λ (r : List (Option Seat)). sum_by left_at r + left_at (at_place f.ring.items 0)) is.ring ∙ sum_shifted left_at f.ring.items refl

-- ---- what it stands for

-- the object at the hand-up point is over
abbrev pub past : List Up → List ℕ → Holding → Holding
past more lost s = record s { ups = s.ups ++ more; point = after_object s.point.index; lost = lost }

abbrev before_by : Bool → Bool → Bool → Bool
before_by less same block = less || (same && block)

abbrev is_behind : ℕ → Position → Bool
is_behind m at = not (point_before (point_of at) (point m 0))

later_behind : (m : ℕ) (at : Position) → m ≤ at.index → is_behind m at ≡ true
later_behind m at le =
    ap (λ l. not (before_by l (at.index == m) (nat_lt at.block 0))) (le-ltb at.index m le)
    ∙ ap (λ l. not (before_by false (at.index == m) l)) (le-ltb at.block 0 (omega arith)) ∙ go (at.index == m)
  where
    go : (b : Bool) → not (before_by false b false) ≡ true
    go true = refl
    go false = refl

own_not : (m : ℕ) (at : Position) → at.index < m → is_behind m at ≡ false
own_not m at lt = ap (λ l. not (before_by l (at.index == m) (nat_lt at.block 0))) (lt-ltb at.index m lt)

-- what is behind an object is behind each of its blocks
stricter : (m block : ℕ) (at : Position) → is_behind (m + 1) at ≡ true → not (point_before (point_of at) (point m block)) ≡ true
stricter m block at e = go (cases_lt at.index (m + 1))
  where
    go : (at.index < m + 1) ⊎ (m + 1 ≤ at.index) → not (point_before (point_of at) (point m block)) ≡ true
    go (inl lt) = absurd (let wrong : true ≡ false = sym e ∙ own_not (m + 1) at lt in cc wrong)
    go (inr le) =
        ap (λ l. not (before_by l (at.index == m) (nat_lt at.block block))) (le-ltb at.index m (omega (arith, le)))
        ∙ ap (λ l. not (before_by false l (nat_lt at.block block))) (ne_eqb at.index m (λ same. omega (arith, same, le)))

index_kept : (m n : ℕ) → m + 1 ≤ n → not (nat_lt n (m + 1)) ≡ true
index_kept m n le = ap not (le-ltb n (m + 1) le)

index_out : (m n : ℕ) → n < m + 1 → not (nat_lt n (m + 1)) ≡ false
index_out m n lt = ap not (lt-ltb n (m + 1) lt)

index_stricter : (m n : ℕ) → not (nat_lt n (m + 1)) ≡ true → not (nat_lt n m) ≡ true
index_stricter m n e = go (cases_lt n (m + 1))
  where
    go : (n < m + 1) ⊎ (m + 1 ≤ n) → not (nat_lt n m) ≡ true
    go (inl lt) = absurd (let wrong : true ≡ false = sym e ∙ index_out m n lt in cc wrong)
    go (inr le) = ap not (le-ltb n m (omega (arith, le)))

there_longer : (ring : List (Option EntryState)) → entries_there (ring ++ None ∷ []) ≡ entries_there ring
there_longer [] = refl
there_longer (None ∷ ring) = there_longer ring
there_longer (Some o ∷ ring) = ap (λ (os : List EntryState). o ∷ os) (there_longer ring)

module _ (p : Settings) (from : Position) (first : Option EntryState) (rest : List (Option EntryState)) (ups : List Up) (lost later : Bool) (s : Holding)
    (are_placed : PlacedEntries p from.index (first ∷ rest)) (stands : StandsFor (view_with p from (first ∷ rest) ups lost) s) where
  past_by_rest : (more : List Up) (indexes : List ℕ) → lost_nothing (record s { lost = indexes }) ≡ not later → HasPassed p (past more indexes s)
      → StandsFor (view_with p (position (from.index + 1) 0 0) (rest ++ None ∷ []) (ups ++ more) later) (past more indexes s)
  past_by_rest more indexes none passed =
      let at : s.point.index ≡ from.index = ap (λ (x : Position). x.index) stands.point in
      let m = from.index in
      record {
        point = ap after_object at;
        plans =
            ap (λ n. filter (λ (y : Plan). not (nat_lt y.index (n + 1))) s.plans) at
            ∙ sym (filter_twice Plan (λ y. not (nat_lt y.index (m + 1))) (λ y. not (nat_lt y.index s.point.index))
            (λ y e. ap (λ n. not (nat_lt y.index n)) at ∙ index_stricter m y.index e) s.plans)
            ∙ ap (filter (λ (y : Plan). not (nat_lt y.index (m + 1)))) (stands.plans ∙ sym (plans_joined (entries_there (first ∷ rest))))
            ∙ without_first Plan p plans_in (λ y. y.index) (own_plan p) (λ y. not (nat_lt y.index (m + 1))) m first rest are_placed
            (λ y here. index_out m y.index (omega (arith, here))) (λ y behind. index_kept m y.index (omega (arith, behind)))
            ∙ plans_joined (entries_there rest)
            ∙ ap (λ (os : List EntryState). map (λ (o : EntryState). o.plan) os) (sym (there_longer rest));
        held =
            ap (λ n. filter (λ (y : Held). is_behind (n + 1) y.at) s.held) at
            ∙ sym (filter_twice Held (λ y. is_behind (m + 1) y.at) (λ y. not (point_before (point_of y.at) (point_of s.point)))
            (λ y e. ap (λ (x : Point). not (point_before (point_of y.at) x)) (ap point_of stands.point) ∙ stricter m from.block y.at e) s.held)
            ∙ ap (filter (λ (y : Held). is_behind (m + 1) y.at)) stands.held
            ∙ without_first Held p held_in held_key (own_held p) (λ y. is_behind (m + 1) y.at) m first rest are_placed
            (λ y here. own_not (m + 1) y.at (omega (arith, here))) (λ y behind. later_behind (m + 1) y.at (omega (arith, behind)))
            ∙ ap (λ (os : List EntryState). flat_map held_in os) (sym (there_longer rest));
        infos =
            ap (λ n. filter (λ (y : HeldInfo). not (nat_lt y.index (n + 1))) s.infos) at
            ∙ sym (filter_twice HeldInfo (λ y. not (nat_lt y.index (m + 1))) (λ y. not (nat_lt y.index s.point.index))
            (λ y e. ap (λ n. not (nat_lt y.index n)) at ∙ index_stricter m y.index e) s.infos)
            ∙ ap (filter (λ (y : HeldInfo). not (nat_lt y.index (m + 1)))) stands.infos
            ∙ without_first HeldInfo p infos_in (λ y. y.index) (own_info p) (λ y. not (nat_lt y.index (m + 1))) m first rest are_placed
            (λ y here. index_out m y.index (omega (arith, here))) (λ y behind. index_kept m y.index (omega (arith, behind)))
            ∙ ap (λ (os : List EntryState). flat_map infos_in os) (sym (there_longer rest));
        ups = ap (λ (us : List Up). us ++ more) stands.ups;
        lost = none;
        passed = passed;
      }

past_by : (p : Settings) (from : Position) (ring : List (Option EntryState)) (ups : List Up) (lost later : Bool) (s : Holding) → 0 < length ring
    → PlacedEntries p from.index ring → StandsFor (view_with p from ring ups lost) s
    → (more : List Up) (indexes : List ℕ) → lost_nothing (record s { lost = indexes }) ≡ not later → HasPassed p (past more indexes s)
    → StandsFor (view_with p (position (from.index + 1) 0 0) (shifted ring) (ups ++ more) later) (past more indexes s)
past_by p from [] ups lost later s some are_placed stands more indexes none passed = absurd (omega arith)
past_by p from (first ∷ rest) ups lost later s some are_placed stands more indexes none passed =
    past_by_rest p from first rest ups lost later s are_placed stands more indexes none passed

-- the next object is at its beginning
begins_next : (f : Front) → IsFront f → begins_at (f.point + 1) (entry_at (states_of (shifted f.ring.items)) 0) ≡ position (f.point + 1) 0 0
begins_next f front = go f.ring.items front.seats
  where
    by : (n : ℕ) (found : Option Seat) → ((seat : Seat) → found ≡ Some seat → ((entry_of seat.entry).point.block ≡ 0) × ((entry_of seat.entry).point.symbol ≡ 0))
        → begins_at n (state_of found) ≡ position n 0 0
    by n None each = refl
    by n (Some seat) each =
        ap (λ b. position n b (entry_of seat.entry).point.symbol) (each seat refl).0 ∙ ap (λ b. position n 0 b) (each seat refl).1

    first_of : (ring : List (Option Seat)) → entry_at (states_of ring) 0 ≡ state_of (at_place ring 0)
    first_of [] = refl
    first_of (x ∷ ring) = refl

    go : (ring : List (Option Seat)) → AreSeats f.profile f.point ring → begins_at (f.point + 1) (entry_at (states_of (shifted ring)) 0) ≡ position (f.point + 1) 0 0
    go ring all =
        ap (begins_at (f.point + 1)) (first_of (shifted ring))
        ∙ by (f.point + 1) (at_place (shifted ring) 0) (λ seat e. (all 1 seat (at_shifted ring 0 seat e)).later (omega arith))

pub past_stands : (f g : Front) (s : Holding) (more : List Up) (indexes : List ℕ) → IsFront f → IsPast f g → HasTold f g more → StandsFor (front_view f) s
    → lost_nothing (record s { lost = indexes }) ≡ not g.lost → HasPassed f.profile (past more indexes s) → StandsFor (front_view g) (past more indexes s)
past_stands f g s more indexes front is told stands none passed =
    subst (λ (h : EntryHold). StandsFor h (past more indexes s)) (sym view)
    (past_by f.profile (point_of_front f) (states_of f.ring.items) f.ups.items f.lost g.lost s long (placed f.profile f.point f.ring.items front.seats) stands more indexes none passed)
  where
    mapped : (ring : List (Option Seat)) → 0 < length ring → 0 < length (states_of ring)
    mapped [] lt = absurd (omega arith)
    mapped (x ∷ ring) lt = omega arith

    long : 0 < length (states_of f.ring.items)
    long = mapped f.ring.items (omega (arith, front.places))

    now : states_of g.ring.items ≡ shifted (states_of f.ring.items)
    now = ap states_of is.ring ∙ states_shifted f.ring.items

    view : front_view g ≡ view_with f.profile (position (f.point + 1) 0 0) (shifted (states_of f.ring.items)) (f.ups.items ++ more) g.lost
    view =
        ap (λ (p : Settings). record (front_view g) { p = p }) is.profile
        ∙ ap (λ (n : ℕ). record (front_view g) { p = f.profile; point = begins_at n (entry_at (states_of g.ring.items) 0) }) is.point
        ∙ ap (λ (us : List Up). record (front_view g) { p = f.profile; point = begins_at (f.point + 1) (entry_at (states_of g.ring.items) 0); ups = us }) told.ups
        ∙ ap (λ (r : List (Option Seat)). view_with f.profile (begins_at (f.point + 1) (entry_at (states_of r) 0)) (states_of r) (f.ups.items ++ more) g.lost) is.ring
        ∙ ap (λ (at : Position). view_with f.profile at (states_of (shifted f.ring.items)) (f.ups.items ++ more) g.lost) (begins_next f front)
        ∙ ap (λ (r : List (Option EntryState)). view_with f.profile (position (f.point + 1) 0 0) r (f.ups.items ++ more) g.lost) (states_shifted f.ring.items)
