-- A front as a segment of the stream at its first place is handed up.
use Rattle.std.proofs.Common.{◌≡◌, ℕ, zero, suc, ◌+◌, ◌-◌, ◌<◌, ◌≤◌, Bool, true, false, cond, refl, sym, ap, ◌∙◌, subst, arith, Option, Some, None, List, [], ◌∷◌, ◌++◌, length}
use Rattle.std.specs.Prelude.{filter, slice_set, sum_by, not, nat_lt, ◌==◌, ◌&&◌, MatchOption, IfSome}
use Rattle.std.specs.List.{AllByRecursion}
use Rattle.std.specs.VecDeque.{deque_capacity}
use Rattle.std.proofs.lemmas.Bool.{ne_eqb}
use Rattle.std.proofs.lemmas.List.{length-append, length-map, length-set}
use Rattle.norm_base.specs.Settings.{Settings}
use Rattle.fec_plan.specs.Points.{position}
use Rattle.fec_plan.specs.declared.position.Position.{Position}
use Rattle.norm_ext.specs.Numbers.{number}
use Rattle.norm_order.specs.declared.up.Up.{Up}
use Rattle.norm_order.specs.declared.up.Up.TheVariants as up
use Rattle.norm_receive_rules.specs.HandingUp.{after_object, hands_one}
use Rattle.norm_receive_rules.specs.Holding.{Holding, Plan, Held}
use Rattle.norm_receive_rules.specs.Plans.{says_stream}
use Rattle.rx_hold.specs.EntryState.{EntryState, IsOfKind, entry_of}
use Rattle.rx_hold.specs.EntryHold.{IsEntryAt, StandsFor, at_place, entry_at}
use Rattle.rx_hold.specs.declared.entry.Entry.{Entry}
use Rattle.rx_hold.specs.declared.entry.Entry.TheVariants as kinds
use Rattle.rx_hold.proofs.EntryStands.{view_with}
use Rattle.rx_stream.specs.StreamMoves.{handed_on, left, left_behind, next_up, passed}
use Rattle.rx_stream.specs.StreamState.{StreamState}
use Rattle.rx_hold.specs.Seats.{AreSeats, Becomes, IsSame, IsSeat, begins_at, octets_at, opening, state_of, states_of, waiting, waiting_at}
use Rattle.rx_hold.specs.FrontSound.{HasRoom, IsFront, front_view, point_of_front}
use Rattle.rx_hold.specs.Handing.{HandsOn, HasTold, IsHandedOn, has_stream, is_end_up, left_at, left_in, told_ups, told_with}
use Rattle.rx_hold.specs.declared.front.Front.{Front}
use Rattle.rx_hold.specs.declared.ring.Seat.{Seat}
use Rattle.rx_hold.proofs.HandingLemmas.{found_stream, stream_stuck}
use Rattle.rx_hold.proofs.PutLemmas.{sum_least}
use Rattle.rx_hold.proofs.SeatLemmas.{seats_set, states_set, sum_set}

-- ---- what a call on the ring left

-- the stream at the first place went on by what came
pub record Went (f : Front) (told : ℕ) (news : Option Up) (after : List (Option Seat)) : Type 0 where
  pub seat : Seat
  pub o : StreamState
  pub next : Seat
  pub there : at_place f.ring.items 0 ≡ Some seat
  pub kind : seat.entry ≡ kinds.Stream o
  pub ring : after ≡ slice_set f.ring.items 0 (Some next)
  pub on : IsHandedOn told news o seat next

abbrev pub Came : List (Option Seat) → ℕ → Option Up → List (Option Seat) → Option Seat → Type 0
Came ring told news after place =
    MatchOption place ((news ≡ None) × (after ≡ ring)) (λ (seat : Seat). (next : Seat) × (after ≡ slice_set ring 0 (Some next)) × HandsOn seat.entry told news seat next)

pub went : (f : Front) (told : ℕ) (news : Option Up) (after : List (Option Seat)) → has_stream (at_place f.ring.items 0) ≡ true → Came f.ring.items told news after (at_place f.ring.items 0)
    → Went f told news after
went f told news after stream came =
    let found = found_stream (at_place f.ring.items 0) stream in
    let seat = found.0 in
    let here : Came f.ring.items told news after (Some seat) = subst (Came f.ring.items told news after) found.2 came in
    record {
      seat = seat;
      o = found.1;
      next = here.0;
      there = found.2;
      kind = found.3;
      ring = here.1;
      on = subst (λ (kind : Entry). HandsOn kind told news seat here.0) found.3 here.2;
    }

-- ---- how many hand-ups come

opening_by : (b opens : Bool) → opens ≡ b → told_with opens ≡ 1 + elim b as (λ _. ℕ) [ true ↦ 1 | false ↦ 0 ]
opening_by true true e = refl
opening_by false false e = refl
opening_by true false e = absurd (cc e)
opening_by false true e = absurd (cc e)

module _ (f : Front) (front : IsFront f) (opens : Bool) (start : opens ≡ ((point_of_front f).block == 0 && (point_of_front f).symbol == 0)) where
  -- of a stream at the first place
  module _ (seat : Seat) (e : at_place f.ring.items 0 ≡ Some seat) (o : StreamState) (k : seat.entry ≡ kinds.Stream o) where
    stream_of : says_stream o.plan.flags ≡ true
    stream_of = subst (λ (kind : Entry). IsOfKind kind) k (front.seats 0 seat e).kind

    begins : o.point.block ≡ (point_of_front f).block
    begins = sym (ap (λ (found : Option EntryState). (begins_at f.point found).block) (there_is f seat e o k))
      where
        there_is : (g : Front) (x : Seat) → at_place g.ring.items 0 ≡ Some x → (y : StreamState) → x.entry ≡ kinds.Stream y → entry_at (states_of g.ring.items) 0 ≡ Some (entry_of (kinds.Stream y))
        there_is g x at y is = go g.ring.items at ∙ ap (λ (kind : Entry). Some (entry_of kind)) is
          where
            go : (ring : List (Option Seat)) → at_place ring 0 ≡ Some x → entry_at (states_of ring) 0 ≡ Some (entry_of x.entry)
            go [] h = absurd (cc h)
            go (z ∷ ring) h = ap state_of h

    begins_symbol : o.point.symbol ≡ (point_of_front f).symbol
    begins_symbol = sym (ap (λ (found : Option EntryState). (begins_at f.point found).symbol) (there_is f.ring.items e ∙ ap (λ (kind : Entry). Some (entry_of kind)) k))
      where
        there_is : (ring : List (Option Seat)) → at_place ring 0 ≡ Some seat → entry_at (states_of ring) 0 ≡ Some (entry_of seat.entry)
        there_is [] h = absurd (cc h)
        there_is (z ∷ ring) h = ap state_of h

    pub told_is : told_with opens ≡ 1 + opening o.point
    told_is =
        opening_by (o.point.block == 0 && o.point.symbol == 0) opens
        (start ∙ ap (λ n. (n == 0) && ((point_of_front f).symbol == 0)) (sym begins) ∙ ap (λ n. (o.point.block == 0) && (n == 0)) (sym begins_symbol))

    -- there is room for all of them, and that for its loss
    pub seat_room : left o + (told_with opens) ≤ seat.waiting
    seat_room =
        let room : waiting (entry_of (kinds.Stream o)) ≤ seat.waiting = subst (λ (kind : Entry). waiting (entry_of kind) ≤ seat.waiting) k (front.seats 0 seat e).room in
        let waits : waiting (entry_of (kinds.Stream o)) ≡ length o.held - o.point.symbol + (1 + opening o.point) =
        ap (λ b. elim b as (λ _. ℕ) [ true ↦ length o.held - o.point.symbol + (1 + opening o.point) | false ↦ 1 ]) stream_of in
        omega (arith, room, waits, told_is)

  pub may_tell : has_stream (at_place f.ring.items 0) ≡ true → told_with opens ≤ waiting_at (at_place f.ring.items 0)
  may_tell stream =
      let found = found_stream (at_place f.ring.items 0) stream in
      let waits : waiting_at (at_place f.ring.items 0) ≡ found.0.waiting = ap waiting_at found.2 in
      omega (arith, waits, seat_room found.0 found.2 found.1 found.3)

  -- and so in the front
  pub may_tell_all : has_stream (at_place f.ring.items 0) ≡ true → told_with opens ≤ f.waiting
  may_tell_all stream =
      let found = found_stream (at_place f.ring.items 0) stream in
      let waits : waiting_at (at_place f.ring.items 0) ≡ found.0.waiting = ap waiting_at found.2 in
      omega (arith, may_tell stream, waits, sum_least waiting_at f.ring.items 0 found.0 found.2, front.waiting)

-- ---- nothing came

pub stuck_same : (f : Front) (told : ℕ) (after : List (Option Seat)) → IsFront f → has_stream (at_place f.ring.items 0) ≡ true → Came f.ring.items told None after (at_place f.ring.items 0)
    → Becomes f.ring.items after 0 IsSame
stuck_same f told after front stream came =
    let w = went f told None after stream came in
    subst (λ (place : Option Seat). MatchOption place (after ≡ f.ring.items) (λ (seat : Seat). (next : Seat) × (after ≡ slice_set f.ring.items 0 (Some next)) × IsSame seat next)) (sym w.there) (
      w.next,
      w.ring,
      record {
        entry = ap entry_of (w.on.gone.entry ∙ sym w.kind);
        kind = subst (λ (kind : Entry). IsOfKind kind) (w.kind ∙ sym w.on.gone.entry) (front.seats 0 w.seat w.there).kind;
        waiting = (let n = w.on.waiting in omega (arith, n));
      },
    )

pub stuck_none : (f : Front) (told : ℕ) (after : List (Option Seat)) (s : Holding) → IsFront f → has_stream (at_place f.ring.items 0) ≡ true → Came f.ring.items told None after (at_place f.ring.items 0)
    → StandsFor (front_view f) s → hands_one f.profile s ≡ None
stuck_none f told after s front stream came stands =
    let w = went f told None after stream came in
    stream_stuck f s front stands w.seat w.there w.o w.kind (w.on.gone.up f.profile (same w))
  where
    same : (w : Went f told None after) → f.profile.e ≡ w.o.plan.fti.e
    same w = subst (λ (kind : Entry). f.profile.e ≡ (entry_of kind).plan.fti.e) w.kind (front.seats 0 w.seat w.there).entry.profile.e

-- ---- a segment came

-- the front as the ring went on and its hand-ups were told
pub record IsOn (f g : Front) (told : ℕ) : Type 0 where
  pub profile : g.profile ≡ f.profile
  pub point : g.point ≡ f.point
  pub ring_room : deque_capacity g.ring ≡ deque_capacity f.ring
  pub taken : g.taken ≡ f.taken
  pub waiting : g.waiting + told ≡ f.waiting
  pub lost : g.lost ≡ f.lost

-- what a segment's hand-up says
abbrev pub up_long : ℕ → ℕ → List ℕ → Up
up_long long index symbol = elim long as (λ _. Up) [
  | zero ↦ up.StreamEnd index
  | suc n ↦ up.StreamBytes index (number 4 4 symbol) (Rattle.std.specs.Prelude.take (suc n) (Rattle.std.specs.Prelude.drop 8 symbol))
]

pub ends_long : (long index : ℕ) (symbol : List ℕ) → is_end_up (up_long long index symbol) ≡ true → long ≡ 0
ends_long zero index symbol e = refl
ends_long (suc n) index symbol e = absurd (cc e)

pub goes_long : (long index : ℕ) (symbol : List ℕ) → is_end_up (up_long long index symbol) ≡ false → (n : ℕ) × (long ≡ suc n)
goes_long zero index symbol e = absurd (cc e)
goes_long (suc n) index symbol e = (n, refl)

pub on_long : (long index : ℕ) (symbol : List ℕ) (o : StreamState) → is_end_up (up_long long index symbol) ≡ false → handed_on (Some (up_long long index symbol)) o ≡ passed o
on_long zero index symbol o e = absurd (cc e)
on_long (suc n) index symbol o e = refl

pub behind_long : (long index : ℕ) (symbol : List ℕ) (o x : StreamState) → is_end_up (up_long long index symbol) ≡ false → left_behind (up_long long index symbol) o < left x → left o < left x
behind_long zero index symbol o x e lt = absurd (cc e)
behind_long (suc n) index symbol o x e lt = lt

-- the place behind a segment, by its length and by whether its block goes on
abbrev pub behind : ℕ → Bool → Position → Position
behind long goes_on at = elim long as (λ _. Position) [
  | zero ↦ after_object at.index
  | suc n ↦ elim goes_on as (λ _. Position) [ true ↦ position at.index at.block (at.symbol + 1) | false ↦ position at.index (at.block + 1) 0 ]
]

pub told_are : (opens b : Bool) (index : ℕ) (u : Up) → opens ≡ b → told_ups opens index u ≡ (elim b as (λ _. List Up) [ true ↦ up.StreamOpen index ∷ [] | false ↦ [] ]) ++ u ∷ []
told_are true true index u e = refl
told_are false false index u e = refl
told_are true false index u e = absurd (cc e)
told_are false true index u e = absurd (cc e)

pub told_count : (opens : Bool) (index : ℕ) (u : Up) → length (told_ups opens index u) ≡ told_with opens
told_count true index u = refl
told_count false index u = refl

-- the stream behind a segment, by whether its block goes on
abbrev pub passed_by : Bool → StreamState → StreamState
passed_by goes_on o = elim goes_on as (λ _. StreamState) [
  | true ↦ record o { point = position o.plan.index o.point.block (o.point.symbol + 1) }
  | false ↦ record o {
    point = position o.plan.index (o.point.block + 1) 0;
    held = filter (λ (x : Held). not (nat_lt x.at.block (o.point.block + 1))) o.held;
  }
]

all_kept : (P : Held → Type 0) (q : Held → Bool) (xs : List Held) → AllByRecursion P xs → AllByRecursion P (filter q xs)
all_kept P q [] all = tt
all_kept P q (x ∷ xs) all = go (q x) (all_kept P q xs all.1)
  where
    go : (b : Bool) → AllByRecursion P (filter q xs) → AllByRecursion P (cond b (x ∷ filter q xs) (filter q xs))
    go true rest = (all.0, rest)
    go false rest = rest

no_opening : (b : Bool) (o : StreamState) → opening (passed_by b o).point ≡ 0
no_opening true o = go (o.point.block == 0)
  where
    by : Bool → ℕ
    by b = elim b as (λ _. ℕ) [ true ↦ 1 | false ↦ 0 ]

    go : (b : Bool) → by (b && (o.point.symbol + 1 == 0)) ≡ 0
    go true = ap by (ne_eqb (o.point.symbol + 1) 0 (λ same. omega (arith, same)))
    go false = refl
no_opening false o =
    ap (λ b. elim (b && (0 == 0)) as (λ _. ℕ) [ true ↦ 1 | false ↦ 0 ]) (ne_eqb (o.point.block + 1) 0 (λ same. omega (arith, same)))

entry_passed : (p : Settings) (n : ℕ) (b : Bool) (o : StreamState) → IsEntryAt p n (entry_of (kinds.Stream o)) → IsEntryAt p n (entry_of (kinds.Stream (passed_by b o)))
entry_passed p n true o is = record { index = is.index; own = is.own; sound = is.sound; profile = record { e = is.profile.e; blocks = is.profile.blocks }; b = is.b; last = is.last }
entry_passed p n false o is = record {
  index = is.index;
  own = all_kept (λ (x : Held). x.at.index ≡ n) (λ (x : Held). not (nat_lt x.at.block (o.point.block + 1))) o.held is.own;
  sound = is.sound;
  profile = record { e = is.profile.e; blocks = is.profile.blocks };
  b = is.b;
  last = is.last;
}

plan_passed : (b : Bool) (o : StreamState) → (passed_by b o).plan ≡ o.plan
plan_passed true o = refl
plan_passed false o = refl

index_passed : (b : Bool) (o : StreamState) → (passed_by b o).point.index ≡ (passed_by b o).plan.index
index_passed true o = refl
index_passed false o = refl

module _ (f g : Front) (front : IsFront f) (opens : Bool) (start : opens ≡ ((point_of_front f).block == 0 && (point_of_front f).symbol == 0)) (u : Up)
    (w : Went f (told_with opens) (Some u) g.ring.items) (is : IsOn f g (told_with opens)) (told : HasTold f g (told_ups opens f.point u)) where
  o : StreamState
  o = w.o

  same_e : f.profile.e ≡ w.o.plan.fti.e
  same_e = subst (λ (kind : Entry). f.profile.e ≡ (entry_of kind).plan.fti.e) w.kind (front.seats 0 w.seat w.there).entry.profile.e

  news : Some u ≡ next_up f.profile w.o
  news = w.on.gone.up f.profile same_e

  few : w.next.waiting + told_with opens ≡ w.seat.waiting
  few = w.on.waiting

  here : IsEntryAt f.profile (f.point + 0) (entry_of (kinds.Stream w.o))
  here = subst (λ (kind : Entry). IsEntryAt f.profile (f.point + 0) (entry_of kind)) w.kind (front.seats 0 w.seat w.there).entry

  stream : says_stream w.o.plan.flags ≡ true
  stream = subst (λ (kind : Entry). IsOfKind kind) w.kind (front.seats 0 w.seat w.there).kind

  some : 0 < length f.ring.items
  some = omega (arith, front.places)

  ups_long : length g.ups.items ≡ length f.ups.items + told_with opens
  ups_long =
      ap (λ (us : List Up). length us) told.ups ∙ length-append f.ups.items (told_ups opens f.point u)
      ∙ ap (λ n. length f.ups.items + n) (told_count opens f.point u)

  pub on_room : (n : ℕ) → HasRoom n f → HasRoom n g
  on_room n room = (let waits = is.waiting in let cap = told.room in omega (arith, room, ups_long, waits, cap))

  module _ (goes : is_end_up u ≡ false) (goes_on : Bool) (by : nat_lt (w.o.point.symbol + 1) w.o.plan.fti.b ≡ goes_on) (next_is : w.next.entry ≡ kinds.Stream (passed_by goes_on w.o))
      (fewer : left (passed_by goes_on w.o) < left w.o) where
    next_seat : IsSeat f.profile 0 (f.point + 0) w.next
    next_seat =
        let x = passed_by goes_on w.o in
        let waits : waiting (entry_of (kinds.Stream x)) ≡ length x.held - x.point.symbol + (1 + opening x.point) =
        ap (λ b. elim b as (λ _. ℕ) [ true ↦ length x.held - x.point.symbol + (1 + opening x.point) | false ↦ 1 ]) (ap (λ (plan : Plan). says_stream plan.flags) (plan_passed goes_on w.o) ∙ stream) in
        let room : waiting (entry_of (kinds.Stream x)) ≤ w.next.waiting =
        omega (arith, waits, no_opening goes_on w.o, fewer, seat_room f front opens start w.seat w.there w.o w.kind, few, told_is f front opens start w.seat w.there w.o w.kind) in
        subst (λ (kind : Entry). IsSeat f.profile 0 (f.point + 0) (record { entry = kind; waiting = w.next.waiting })) (sym next_is)
        (record {
          entry = entry_passed f.profile (f.point + 0) goes_on w.o here;
          kind = ap (λ (plan : Plan). says_stream plan.flags) (plan_passed goes_on w.o) ∙ stream;
          own = λ yes. index_passed goes_on w.o;
          later = λ lt. absurd (omega (arith, lt));
          room = room;
        })

    octets_same : octets_at f.profile (Some w.next) ≡ octets_at f.profile (Some w.seat)
    octets_same =
        ap (λ (kind : Entry). octets_at f.profile (Some (record { entry = kind; waiting = 0 }))) next_is
        ∙ ap (λ (plan : Plan). Rattle.norm_receive_rules.specs.Fitting.room_of f.profile plan.fti plan.flags) (plan_passed goes_on w.o)
        ∙ sym (ap (λ (kind : Entry). octets_at f.profile (Some (record { entry = kind; waiting = 0 }))) w.kind)

    pub on_sound : IsFront g
    on_sound =
        let most : g.profile.octets ≡ f.profile.octets = ap (λ (p : Settings). p.octets) is.profile in
        let octets = sum_set (octets_at f.profile) f.ring.items 0 (Some w.next) some in
        let was : octets_at f.profile (at_place f.ring.items 0) ≡ octets_at f.profile (Some w.next) = ap (octets_at f.profile) w.there ∙ sym octets_same in
        let octets_is : sum_by (octets_at g.profile) g.ring.items ≡ sum_by (octets_at f.profile) (slice_set f.ring.items 0 (Some w.next)) =
        ap (λ (p : Settings). sum_by (octets_at p) g.ring.items) is.profile ∙ ap (λ (r : List (Option Seat)). sum_by (octets_at f.profile) r) w.ring in
        let waits = sum_set waiting_at f.ring.items 0 (Some w.next) some in
        let waited : waiting_at (at_place f.ring.items 0) ≡ w.seat.waiting = ap waiting_at w.there in
        let waits_is : sum_by waiting_at g.ring.items ≡ sum_by waiting_at (slice_set f.ring.items 0 (Some w.next)) = ap (λ (r : List (Option Seat)). sum_by waiting_at r) w.ring in
        let count = is.waiting in
        record {
          places = ap (λ (r : List (Option Seat)). length r) w.ring ∙ length-set f.ring.items 0 (Some w.next) ∙ front.places;
          places_room = (let cap = is.ring_room in omega (arith, front.places_room, cap));
          seats =
              subst (λ (p : Settings). AreSeats p g.point g.ring.items) (sym is.profile)
              (subst (λ (n : ℕ). AreSeats f.profile n g.ring.items) (sym is.point)
              (subst (λ (r : List (Option Seat)). AreSeats f.profile f.point r) (sym w.ring) (seats_set f.profile f.point 0 f.ring.items w.next front.seats next_seat)));
          taken = (let taken = is.taken in omega (arith, taken, front.taken, octets, was, octets_is));
          within = (let taken = is.taken in omega (arith, taken, front.within, most));
          most = omega (arith, front.most, most);
          waiting = omega (arith, count, front.waiting, waits, waited, waits_is, few);
          room = on_room 0 front.room;
        }

    pub on_fewer : left_in g < left_in f
    on_fewer =
        let sums = sum_set left_at f.ring.items 0 (Some w.next) some in
        let was : left_at (at_place f.ring.items 0) ≡ left w.o = ap left_at w.there ∙ ap (λ (kind : Entry). length (entry_of kind).held - (entry_of kind).point.symbol) w.kind in
        let now : left_at (Some w.next) ≡ left (passed_by goes_on w.o) = ap (λ (kind : Entry). length (entry_of kind).held - (entry_of kind).point.symbol) next_is in
        let all : left_in g ≡ sum_by left_at (slice_set f.ring.items 0 (Some w.next)) = ap (λ (r : List (Option Seat)). sum_by left_at r) w.ring in
        omega (arith, sums, was, now, all, fewer)

    -- it stands for the state behind the segment
    pub on_view : front_view g ≡ view_with f.profile (begins_at f.point (Some (entry_of (kinds.Stream (passed_by goes_on w.o)))))
        (slice_set (states_of f.ring.items) 0 (Some (entry_of (kinds.Stream (passed_by goes_on w.o))))) (f.ups.items ++ told_ups opens f.point u) f.lost
    on_view =
        ap (λ (p : Settings). record (front_view g) { p = p }) is.profile
        ∙ ap (λ (n : ℕ). record (front_view g) { p = f.profile; point = begins_at n (entry_at (states_of g.ring.items) 0) }) is.point
        ∙ ap (λ (us : List Up). record (front_view g) { p = f.profile; point = begins_at f.point (entry_at (states_of g.ring.items) 0); ups = us }) told.ups
        ∙ ap (λ (b : Bool). view_with f.profile (begins_at f.point (entry_at (states_of g.ring.items) 0)) (states_of g.ring.items) (f.ups.items ++ told_ups opens f.point u) b) is.lost
        ∙ ap (λ (r : List (Option EntryState)). view_with f.profile (begins_at f.point (entry_at r 0)) r (f.ups.items ++ told_ups opens f.point u) f.lost) ring_is
        ∙ ap (λ (found : Option EntryState). view_with f.profile (begins_at f.point found) (slice_set (states_of f.ring.items) 0 (Some x)) (f.ups.items ++ told_ups opens f.point u) f.lost)
        (set_first (states_of f.ring.items) x (omega (arith, some, length-map f.ring.items state_of)))
      where
        x : EntryState
        x = entry_of (kinds.Stream (passed_by goes_on w.o))

        ring_is : states_of g.ring.items ≡ slice_set (states_of f.ring.items) 0 (Some x)
        ring_is =
            ap states_of w.ring ∙ states_set f.ring.items 0 (Some w.next)
            ∙ ap (λ (kind : Entry). slice_set (states_of f.ring.items) 0 (Some (entry_of kind))) next_is

        set_first : (r : List (Option EntryState)) (y : EntryState) → 0 < length r → entry_at (slice_set r 0 (Some y)) 0 ≡ Some y
        set_first [] y lt = absurd (omega arith)
        set_first (z ∷ r) y lt = refl
