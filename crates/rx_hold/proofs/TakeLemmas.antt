-- An object that is taken up, and a front of which nothing is held.
use Rattle.std.proofs.Common.{◌≡◌, ℕ, zero, suc, ◌+◌, ◌-◌, ◌<◌, ◌≤◌, refl, sym, ap, ◌∙◌, subst, arith, Option, Some, None, List, [], ◌∷◌, length, replicate, Bool, true, false}
use Rattle.std.specs.Prelude.{slice_set, not, nat_lt, sum_by, ◌*◌}
use Rattle.std.specs.VecDeque.{deque_capacity}
use Rattle.std.proofs.lemmas.Bool.{le-ltb, lt-ltb, ltb-true}
use Rattle.std.proofs.lemmas.List.{length-map, length-set, length-replicate}
use Rattle.std.proofs.lemmas.List.Folds.{sum_by-replicate}
use Rattle.norm_base.specs.Settings.{Settings}
use Rattle.fec_plan.specs.Partition.{Cut, IsSound}
use Rattle.fec_plan.specs.Points.{position}
use Rattle.fec_plan.specs.declared.position.Position.{Position}
use Rattle.norm_ext.specs.declared.fti.Fti.{Fti}
use Rattle.norm_order.specs.Sets.{with_member}
use Rattle.norm_receive_rules.specs.Fitting.{fit_of, fitted, plan_before, room_of, with_plan}
use Rattle.norm_receive_rules.specs.Holding.{Holding, Plan, Held, HeldInfo, new_plan}
use Rattle.norm_receive_rules.specs.Plans.{cut_by, is_over, says_stream}
use Rattle.norm_receive_rules.specs.declared.words.Fit.{Fit}
use Rattle.norm_receive_rules.specs.declared.words.Fit.TheVariants as fit
use Rattle.norm_receive_rules.proofs.PassedLemmas.{fitted_passed}
use Rattle.rx_hold.specs.EntryState.{EntryState, IsOfKind, entry_of, infos_in}
use Rattle.rx_hold.specs.EntryHold.{IsEntryAt, PlacedEntries, StandsFor, at_place, entries_there, entry_at}
use Rattle.rx_hold.proofs.EntryRing.{alone_in, filter_joins, part_of, same_parts, with_part}
use Rattle.rx_hold.proofs.EntryStands.{held_in, held_key, not_over, own_held, own_info, own_plan, plans_in, plans_joined}
use Rattle.rx_hold.specs.Fits.{empty_entry}
use Rattle.rx_hold.specs.FrontSound.{HasRoom, IsFront, front_view, view_states}
use Rattle.rx_hold.specs.Seats.{AreSeats, IsSeat, begins_at, octets_at, opening, state_of, states_of, waiting, waiting_at}
use Rattle.rx_hold.specs.declared.front.Front.{Front}
use Rattle.rx_hold.specs.declared.ring.Seat.{Seat}
use Rattle.rx_hold.proofs.SeatLemmas.{placed, seats_set, state_at, sum_set}

-- ---- an object of which nothing is held

abbrev Facts : Settings → ℕ → EntryState → Type 0
Facts p n x =
    (IsEntryAt p n x) × (says_stream x.plan.flags ≡ true → x.point.index ≡ x.plan.index) × ((x.point.block ≡ 0) × (x.point.symbol ≡ 0)) × (waiting x ≤ 2)

abbrev empty_by : Plan → ℕ → Bool → EntryState
empty_by plan room b = elim b as (λ _. EntryState) [
  | true ↦ record { plan = plan; info = None; held = []; point = position plan.index 0 0; room = room }
  | false ↦ record { plan = plan; info = None; held = []; point = position 0 0 0; room = 0 }
]

module _ (p : Settings) (n index : ℕ) (g : Fti) (flags : ℕ) (cut : Cut) (same : index ≡ n) (is : cut ≡ cut_by g flags) (sound : IsSound cut) (e : g.e ≡ p.e) (b : g.b ≡ p.b)
    (last : index < 4294967295) where
  facts : Facts p n (empty_entry (new_plan index g flags) p.blocks)
  facts = go (says_stream flags) refl
    where
      plan : Plan
      plan = new_plan index g flags

      entry : (x : EntryState) → x.plan ≡ new_plan index g flags → x.held ≡ [] → (says_stream flags ≡ true → p.blocks ≡ x.room) → IsEntryAt p n x
      entry x of none room = record {
        index = ap (λ (q : Plan). q.index) of ∙ same;
        own = own x.held none;
        sound = subst IsSound (is ∙ ap (λ (q : Plan). cut_by q.fti q.flags) (sym of)) sound;
        profile = record {
          e = sym e ∙ ap (λ (q : Plan). q.fti.e) (sym of);
          blocks = λ stream. room (ap (λ (q : Plan). says_stream q.flags) (sym of) ∙ stream);
        };
        b = ap (λ (q : Plan). q.fti.b) of ∙ b;
        last = subst (λ k. k < 4294967295) same last;
      }
        where
          own : (held : List Held) → held ≡ [] → Rattle.std.specs.List.AllByRecursion (λ (h : Held). h.at.index ≡ n) held
          own [] none = tt
          own (h ∷ held) none = absurd (cc none)

      go : (k : Bool) → says_stream flags ≡ k → Facts p n (empty_by (new_plan index g flags) p.blocks k)
      go true stream = (
        entry (empty_by (new_plan index g flags) p.blocks true) refl refl (λ h. refl),
        (λ h. refl),
        (refl, refl),
        (let two : waiting (empty_by (new_plan index g flags) p.blocks true) ≡ 2 = ap (λ k. elim k as (λ _. ℕ) [ true ↦ 2 | false ↦ 1 ]) stream in omega (arith, two)),
      )
      go false stream = (
        entry (empty_by (new_plan index g flags) p.blocks false) refl refl (λ h. absurd (let wrong : true ≡ false = sym h ∙ stream in cc wrong)),
        (λ h. absurd (let wrong : true ≡ false = sym h ∙ stream in cc wrong)),
        (refl, refl),
        (let one : waiting (empty_by (new_plan index g flags) p.blocks false) ≡ 1 =
            ap (λ k. elim k as (λ _. ℕ) [ true ↦ 0 - 0 + (1 + opening (position 0 0 0)) | false ↦ 1 ]) stream in omega (arith, one)),
      )

  pub new_seat : (i : ℕ) (seat : Seat) → entry_of seat.entry ≡ empty_entry (new_plan index g flags) p.blocks → IsOfKind seat.entry → seat.waiting ≡ 2 → IsSeat p i n seat
  new_seat i seat new kind two =
      let all : Facts p n (entry_of seat.entry) = subst (λ (x : EntryState). Facts p n x) (sym new) facts in record {
        entry = all.0;
        kind = kind;
        own = all.1;
        later = λ lt. all.2;
        room = (let le = all.3 in omega (arith, le, two));
      }

empty_plan : (plan : Plan) (room : ℕ) → (empty_entry plan room).plan ≡ plan
empty_plan plan room = go (says_stream plan.flags)
  where
    go : (b : Bool) → (empty_by plan room b).plan ≡ plan
    go true = refl
    go false = refl

empty_held : (plan : Plan) (room : ℕ) → (empty_entry plan room).held ≡ []
empty_held plan room = go (says_stream plan.flags)
  where
    go : (b : Bool) → (empty_by plan room b).held ≡ []
    go true = refl
    go false = refl

empty_infos : (plan : Plan) (room : ℕ) → infos_in (empty_entry plan room) ≡ []
empty_infos plan room = go (says_stream plan.flags)
  where
    go : (b : Bool) → infos_in (empty_by plan room b) ≡ []
    go true = refl
    go false = refl

empty_begins : (plan : Plan) (room n : ℕ) → begins_at n (Some (empty_entry plan room)) ≡ position n 0 0
empty_begins plan room n = go (says_stream plan.flags)
  where
    go : (b : Bool) → begins_at n (Some (empty_by plan room b)) ≡ position n 0 0
    go true = refl
    go false = refl

-- ---- the front

pub taken_sound : (f g : Front) (i : ℕ) (seat : Seat) → IsFront f → g.profile ≡ f.profile → g.point ≡ f.point → deque_capacity g.ring ≡ deque_capacity f.ring → at_place f.ring.items i ≡ None
    → i < length f.ring.items → g.ring.items ≡ slice_set f.ring.items i (Some seat) → IsSeat f.profile i (f.point + i) seat → g.taken ≡ f.taken + octets_at f.profile (Some seat)
    → g.taken ≤ f.profile.octets → g.waiting ≡ f.waiting + seat.waiting → HasRoom 0 g → IsFront g
taken_sound f g i seat front profile point capacity none lt ring_is new taken within waits room =
    let most : g.profile.octets ≡ f.profile.octets = ap (λ (p : Settings). p.octets) profile in
    let octets = sum_set (octets_at f.profile) f.ring.items i (Some seat) lt in
    let was : octets_at f.profile (at_place f.ring.items i) ≡ 0 = ap (octets_at f.profile) none in
    let octets_is : sum_by (octets_at g.profile) g.ring.items ≡ sum_by (octets_at f.profile) (slice_set f.ring.items i (Some seat)) =
    ap (λ (p : Settings). sum_by (octets_at p) g.ring.items) profile ∙ ap (λ (r : List (Option Seat)). sum_by (octets_at f.profile) r) ring_is in
    let sums = sum_set waiting_at f.ring.items i (Some seat) lt in
    let waited : waiting_at (at_place f.ring.items i) ≡ 0 = ap waiting_at none in
    let sums_is : sum_by waiting_at g.ring.items ≡ sum_by waiting_at (slice_set f.ring.items i (Some seat)) = ap (λ (r : List (Option Seat)). sum_by waiting_at r) ring_is in
    record {
      places = ap (λ (r : List (Option Seat)). length r) ring_is ∙ length-set f.ring.items i (Some seat) ∙ front.places;
      places_room = omega (arith, front.places_room, capacity);
      seats =
          subst (λ (p : Settings). AreSeats p g.point g.ring.items) (sym profile)
          (subst (λ (n : ℕ). AreSeats f.profile n g.ring.items) (sym point)
          (subst (λ (r : List (Option Seat)). AreSeats f.profile f.point r) (sym ring_is) (seats_set f.profile f.point i f.ring.items seat front.seats new)));
      taken = omega (arith, taken, front.taken, octets, was, octets_is);
      within = omega (arith, within, most);
      most = omega (arith, front.most, most);
      waiting = omega (arith, waits, front.waiting, sums, waited, sums_is);
      room = room;
    }

pub taken_stands : (f : Front) (s : Holding) (index i : ℕ) (g : Fti) (flags : ℕ) (x : EntryState) → IsFront f → StandsFor (front_view f) s → f.point + i ≡ index → i < length f.ring.items
    → at_place f.ring.items i ≡ None → x ≡ empty_entry (new_plan index g flags) f.profile.blocks → fit_of f.profile s index g flags ≡ fit.Taken
    → StandsFor (view_states f (slice_set (states_of f.ring.items) i (Some x))) (with_plan index g flags s)
taken_stands f s index i g flags x front stands at lt none is word = record {
  point = stands.point ∙ sym (begins i (states_of f.ring.items) free);
  plans =
      filter_joins Plan plan_before (λ y. not (is_over s y.index)) plan s.plans (ap not (not_over s f.point index at_point (omega (arith, at))))
      (λ y out. let less = over_less y.index out in (le-ltb index y.index (omega (arith, less)), lt-ltb y.index index less))
      ∙ ap (with_member plan_before plan) (stands.plans ∙ sym (plans_joined (entries_there states)))
      ∙ with_part Plan f.profile plans_in (λ y. y.index) (own_plan f.profile) plan_before by_index plan f.point states i x are_placed long at
      (ap (λ (y : Plan). y ∷ []) (ap (λ (y : EntryState). y.plan) is ∙ empty_plan plan f.profile.blocks)
      ∙ sym (alone_in Plan plan_before plan) ∙ ap (λ (found : Option EntryState). with_member plan_before plan (part_of Plan plans_in found)) (sym free))
      ∙ plans_joined (entries_there (slice_set states i (Some x)));
  held =
      stands.held
      ∙ sym (same_parts Held f.profile held_in held_key (own_held f.profile) states i (Some x) long
      (ap (λ (y : EntryState). y.held) is ∙ empty_held plan f.profile.blocks ∙ sym (ap (λ (found : Option EntryState). part_of Held held_in found) free)));
  infos =
      stands.infos
      ∙ sym (same_parts HeldInfo f.profile infos_in (λ y. y.index) (own_info f.profile) states i (Some x) long
      (ap (λ (y : EntryState). infos_in y) is ∙ empty_infos plan f.profile.blocks ∙ sym (ap (λ (found : Option EntryState). part_of HeldInfo infos_in found) free)));
  ups = stands.ups;
  lost = stands.lost;
  passed = fitted_passed f.profile fit.Taken index g flags s word stands.passed;
}
  where
    plan : Plan
    plan = new_plan index g flags

    states : List (Option EntryState)
    states = states_of f.ring.items

    free : entry_at (states_of f.ring.items) i ≡ None
    free = state_at f.ring.items i ∙ ap state_of none

    long : i < length (states_of f.ring.items)
    long = (let n : length (states_of f.ring.items) ≡ length f.ring.items = length-map f.ring.items state_of in omega (arith, lt, n))

    are_placed : PlacedEntries f.profile f.point (states_of f.ring.items)
    are_placed = placed f.profile f.point f.ring.items front.seats

    at_point : s.point.index ≡ f.point
    at_point = ap (λ (y : Position). y.index) stands.point

    by_index : (y z : Plan) → y.index < z.index → (plan_before y z ≡ true) × (plan_before z y ≡ false)
    by_index y z less = (lt-ltb y.index z.index less, le-ltb z.index y.index (omega (arith, less)))

    over_less : (n : ℕ) → not (is_over s n) ≡ false → n < index
    over_less n out = go (nat_lt n s.point.index) refl out
      where
        go : (b : Bool) → nat_lt n s.point.index ≡ b → not b ≡ false → n < index
        go true d h = (let less = ltb-true n s.point.index d in let here = at_point in omega (arith, less, here, at))
        go false d h = absurd (cc h)

    begins : (j : ℕ) (r : List (Option EntryState)) → entry_at r j ≡ None → begins_at f.point (entry_at (slice_set r j (Some x)) 0) ≡ begins_at f.point (entry_at r 0)
    begins j [] e = refl
    begins zero (y ∷ r) e =
        ap (λ (z : EntryState). begins_at f.point (Some z)) is ∙ empty_begins plan f.profile.blocks f.point ∙ sym (ap (λ (found : Option EntryState). begins_at f.point found) e)
    begins (suc j) (y ∷ r) e = refl

pub not_taken : (w : Fit) (index : ℕ) (g : Fti) (flags : ℕ) (s : Holding) → (w ≡ fit.Taken → ⊥) → fitted w index g flags s ≡ s
not_taken fit.Known index g flags s other = refl
not_taken fit.Away index g flags s other = refl
not_taken fit.Unfit index g flags s other = refl
not_taken fit.Taken index g flags s other = absurd (other refl)

-- ---- nothing is held

pub none_at : (n i : ℕ) (seat : Seat) → at_place {X = Seat} (replicate n None) i ≡ Some seat → ⊥
none_at zero i seat e = cc e
none_at (suc n) zero seat e = cc e
none_at (suc n) (suc i) seat e = none_at n i seat e

pub empty_sound : (f : Front) → f.ring.items ≡ replicate 256 None → 256 ≤ deque_capacity f.ring → f.taken ≡ 0 → f.waiting ≡ 0 → f.profile.octets ≤ 16777216 → f.ups.items ≡ [] → IsFront f
empty_sound f empty room taken waits most ups =
    let octets : sum_by (octets_at f.profile) f.ring.items ≡ 256 * 0 =
    ap (λ (r : List (Option Seat)). sum_by (octets_at f.profile) r) empty ∙ sum_by-replicate (octets_at f.profile) 256 None in
    let sums : sum_by waiting_at f.ring.items ≡ 256 * 0 = ap (λ (r : List (Option Seat)). sum_by waiting_at r) empty ∙ sum_by-replicate waiting_at 256 None in
    let none : length f.ups.items ≡ 0 = ap (λ us. length us) ups in
    record {
      places = ap (λ (r : List (Option Seat)). length r) empty ∙ length-replicate {A = Option Seat} 256 None;
      places_room = room;
      seats = λ i seat e. absurd (none_at 256 i seat (sym (ap (λ (r : List (Option Seat)). at_place r i) empty) ∙ e));
      taken = omega (arith, taken, octets);
      within = omega (arith, taken);
      most = most;
      waiting = omega (arith, waits, sums);
      room = omega (arith, none, waits);
    }

-- its octets are those that its information says
pub empty_room : (p : Settings) (index : ℕ) (g : Fti) (flags : ℕ) (x : EntryState) (room : ℕ) → x ≡ empty_entry (new_plan index g flags) room → room_of p g flags ≡ room_of p x.plan.fti x.plan.flags
empty_room p index g flags x room is =
    sym (ap (λ (plan : Plan). room_of p plan.fti plan.flags) (ap (λ (y : EntryState). y.plan) is ∙ empty_plan (new_plan index g flags) room))
