-- What is handed up of what is at the first place of a front, in the words of the rules.
use Rattle.std.proofs.Common.{◌≡◌, ℕ, ◌+◌, ◌-◌, ◌<◌, ◌≤◌, Bool, true, false, refl, sym, ap, ◌∙◌, subst, arith, Option, Some, None, List, [], ◌∷◌, length, length-append}
use Rattle.std.specs.Prelude.{flat_map, sum_by, option_map, not}
use Rattle.std.proofs.lemmas.List.Sums.{sum_by-cons}
use Rattle.norm_base.specs.Settings.{Settings}
use Rattle.fec_plan.specs.Points.{position}
use Rattle.fec_plan.specs.declared.position.Position.{Position}
use Rattle.norm_order.specs.declared.up.Up.{Up}
use Rattle.norm_order.specs.declared.up.Up.TheVariants as up
use Rattle.norm_receive_rules.specs.BlockValue.{block_value}
use Rattle.norm_receive_rules.specs.HandingUp.{after_object, handed, handed_up, hands_most, hands_next, hands_object, hands_one, hands_segment, is_whole, kind_of, next_segment, object_octets, segment_up, told_info}
use Rattle.norm_receive_rules.specs.Holding.{Holding, Plan, Held}
use Rattle.norm_receive_rules.specs.Plans.{has_its_info, plan_of, says_stream}
use Rattle.norm_receive_rules.proofs.PassedLemmas.{filter_few}
use Rattle.rx_hold.specs.EntryState.{EntryState, IsOfKind, alone_in, entry_of}
use Rattle.rx_hold.specs.EntryHold.{IsEntryAt, StandsFor, at_place, entries_there, entry_at}
use Rattle.rx_hold.specs.Told.{is_passed}
use Rattle.rx_object.specs.ObjectState.{ObjectState, alone}
use Rattle.rx_hold.specs.declared.entry.Entry.{Entry}
use Rattle.rx_hold.specs.declared.entry.Entry.TheVariants as kinds
use Rattle.rx_hold.proofs.AlikeLemmas.{Alike, octets_alike, told_alike, whole_alike}
use Rattle.rx_hold.proofs.EntryHands.{hands_stream, segment_by, value_at}
use Rattle.rx_hold.proofs.EntryStands.{alike_at, held_in, info_at, plan_found}
use Rattle.rx_hold.proofs.EntryWords.{first_at_place, is_ahead}
use Rattle.rx_hold.proofs.HandLemmas.{Leads, holds_some, leads_on, leads_to_end}
use Rattle.rx_stream.specs.StreamMoves.{next_up}
use Rattle.rx_stream.specs.StreamState.{StreamState, alone as stream_alone}
use Rattle.rx_hold.specs.Seats.{IsSeat, begins_at, state_of, states_of}
use Rattle.rx_hold.specs.FrontSound.{IsFront, front_view, point_of_front}
use Rattle.rx_hold.specs.Handing.{HandsFirst, has_stream, has_whole, is_stream, is_whole_object, left_at, left_in, up_of}
use Rattle.rx_hold.specs.declared.front.Front.{Front}
use Rattle.rx_hold.specs.declared.ring.Seat.{Seat}
use Rattle.rx_hold.proofs.SeatLemmas.{far, placed, state_at}

-- ---- what is at a place

pub found_stream : (place : Option Seat) → has_stream place ≡ true → (seat : Seat) × (o : StreamState) × (place ≡ Some seat) × (seat.entry ≡ kinds.Stream o)
found_stream None e = absurd (cc e)
found_stream (Some seat) e = go seat.entry refl e
  where
    go : (kind : Entry) → seat.entry ≡ kind → is_stream kind ≡ true → (found : Seat) × (o : StreamState) × (Some seat ≡ Some found) × (found.entry ≡ kinds.Stream o)
    go (kinds.Object o) k h = absurd (cc h)
    go (kinds.Stream o) k h = (seat, o, refl, k)

pub found_whole : (place : Option Seat) → has_whole place ≡ true → (seat : Seat) × (o : ObjectState) × (place ≡ Some seat) × (seat.entry ≡ kinds.Object o) × (is_whole (alone o) o.plan ≡ true)
found_whole None e = absurd (cc e)
found_whole (Some seat) e = go seat.entry refl e
  where
    go : (kind : Entry) → seat.entry ≡ kind → is_whole_object kind ≡ true
        → (found : Seat) × (o : ObjectState) × (Some seat ≡ Some found) × (found.entry ≡ kinds.Object o) × (is_whole (alone o) o.plan ≡ true)
    go (kinds.Object o) k h = (seat, o, refl, k, h)
    go (kinds.Stream o) k h = absurd (cc h)

-- ---- by the plan of the object at the hand-up point

abbrev pub by_stream : Settings → Holding → Plan → Bool → Option Holding
by_stream p s plan stream = elim stream as (λ _. Option Holding) [ true ↦ hands_next p s plan | false ↦ hands_object s plan ]

abbrev pub by_plan : Settings → Holding → Option Plan → Option Holding
by_plan p s found = elim found as (λ _. Option Holding) [ Some plan ↦ by_stream p s plan (says_stream plan.flags) | None ↦ None ]

abbrev by_whole : Holding → Plan → Bool → Option Holding
by_whole s plan whole = elim whole as (λ _. Option Holding) [
  | true ↦ Some (handed (up.Object plan.index (kind_of plan.flags) (told_info s plan) (object_octets s plan) ∷ []) (after_object plan.index) s)
  | false ↦ None
]

module _ (f : Front) (s : Holding) (front : IsFront f) (stands : StandsFor (front_view f) s) where
  point_is : s.point.index ≡ f.point
  point_is = ap (λ (at : Position). at.index) stands.point

  pub found_plan : plan_of s s.point.index ≡ option_map (λ (o : EntryState). o.plan) (state_of (at_place f.ring.items 0))
  found_plan =
      plan_found f.profile (point_of_front f) (states_of f.ring.items) f.ups.items f.lost s (placed f.profile f.point f.ring.items front.seats) stands s.point.index 0 (omega (arith, point_is))
      ∙ ap (λ (found : Option EntryState). option_map (λ (o : EntryState). o.plan) found) (state_at f.ring.items 0)

  pub hands_nothing : at_place f.ring.items 0 ≡ None → hands_one f.profile s ≡ None
  hands_nothing e = ap (by_plan f.profile s) (found_plan ∙ ap (λ (found : Option Seat). option_map (λ (o : EntryState). o.plan) (state_of found)) e)

  module _ (seat : Seat) (e : at_place f.ring.items 0 ≡ Some seat) where
    is_seat : IsSeat f.profile 0 (f.point + 0) seat
    is_seat = front.seats 0 seat e

    module _ (o : ObjectState) (k : seat.entry ≡ kinds.Object o) where
      pub object_there : entry_at (states_of f.ring.items) 0 ≡ Some (entry_of (kinds.Object o))
      object_there = state_at f.ring.items 0 ∙ ap state_of e ∙ ap (λ (kind : Entry). Some (entry_of kind)) k

      pub object_here : IsEntryAt f.profile (f.point + 0) (entry_of (kinds.Object o))
      object_here = subst (λ (kind : Entry). IsEntryAt f.profile (f.point + 0) (entry_of kind)) k is_seat.entry

      pub object_kind : says_stream o.plan.flags ≡ false
      object_kind = subst (λ (kind : Entry). IsOfKind kind) k is_seat.kind

      object_at : o.plan.index ≡ f.point
      object_at = object_here.index ∙ (let n : f.point + 0 ≡ f.point = omega arith in n)

      object_begins : (point_of_front f).block ≡ 0
      object_begins = ap (λ (found : Option EntryState). (begins_at f.point found).block) object_there

      alike : Alike s (alone o) o.plan.index
      alike =
          let ring = states_of f.ring.items in
          let from = point_of_front f in
          let are_placed = placed f.profile f.point f.ring.items front.seats in
          let are_far = far f.profile f.point f.ring.items front.seats in
          let at : from.index + 0 ≡ o.plan.index = omega (arith, object_at) in
          record {
            held = λ block.
                (alike_at f.profile from ring f.ups.items f.lost s are_placed stands o.plan.index 0 block (entry_of (kinds.Object o)) at object_there
                (is_ahead s o.plan.index block (omega (arith, point_is, object_at))
                (λ same. let b = ap (λ (x : Position). x.block) stands.point in omega (arith, b, object_begins)))
                (first_at_place f.profile from ring f.ups.items f.lost s are_placed are_far stands o.plan.index 0 (entry_of (kinds.Object o)) at object_there)).held;
            info = info_at f.profile from ring f.ups.items f.lost s are_placed stands o.plan.index 0 (entry_of (kinds.Object o)) at object_there;
          }

      hands_planned : (whole : Bool) → is_whole (alone o) o.plan ≡ whole → hands_one f.profile s ≡ by_whole s o.plan whole
      hands_planned whole w =
          ap (by_plan f.profile s)
          (found_plan ∙ ap (λ (found : Option Seat). option_map (λ (x : EntryState). x.plan) (state_of found)) e ∙ ap (λ (kind : Entry). Some (entry_of kind).plan) k)
          ∙ ap (by_stream f.profile s o.plan) object_kind
          ∙ ap (by_whole s o.plan) (whole_alike s (alone o) o.plan alike ∙ w)

      pub hands_short : is_whole (alone o) o.plan ≡ false → hands_one f.profile s ≡ None
      hands_short w = hands_planned false w

      pub hands_whole : is_whole (alone o) o.plan ≡ true → hands_one f.profile s ≡ Some (handed (up_of o ∷ []) (after_object s.point.index) s)
      hands_whole w =
          hands_planned true w
          ∙ ap (λ (i : Option (List ℕ)). Some (handed (up.Object o.plan.index (kind_of o.plan.flags) i (object_octets s o.plan) ∷ []) (after_object o.plan.index) s))
          (told_alike s (alone o) o.plan alike)
          ∙ ap (λ octets. Some (handed (up.Object o.plan.index (kind_of o.plan.flags) (told_info (alone o) o.plan) octets ∷ []) (after_object o.plan.index) s))
          (octets_alike s (alone o) o.plan alike)
          ∙ ap (λ n. Some (handed (up_of o ∷ []) (after_object n) s)) (object_at ∙ sym point_is)

    module _ (o : StreamState) (k : seat.entry ≡ kinds.Stream o) where
      pub stream_there : entry_at (states_of f.ring.items) 0 ≡ Some (entry_of (kinds.Stream o))
      stream_there = state_at f.ring.items 0 ∙ ap state_of e ∙ ap (λ (kind : Entry). Some (entry_of kind)) k

      pub stream_here : IsEntryAt f.profile (f.point + 0) (entry_of (kinds.Stream o))
      stream_here = subst (λ (kind : Entry). IsEntryAt f.profile (f.point + 0) (entry_of kind)) k is_seat.entry

      pub stream_kind : says_stream o.plan.flags ≡ true
      stream_kind = subst (λ (kind : Entry). IsOfKind kind) k is_seat.kind

      pub stream_index : o.plan.index ≡ f.point
      stream_index = stream_here.index ∙ (let n : f.point + 0 ≡ f.point = omega arith in n)

      pub stream_own : o.point.index ≡ o.plan.index
      stream_own = subst (λ (kind : Entry). says_stream (entry_of kind).plan.flags ≡ true → (entry_of kind).point.index ≡ (entry_of kind).plan.index) k is_seat.own stream_kind

      pub stream_point : o.point ≡ point_of_front f
      stream_point =
          ap (λ n. position n o.point.block o.point.symbol) (stream_own ∙ stream_index)
          ∙ sym (ap (begins_at f.point) stream_there)

      pub stream_hands : hands_one f.profile s ≡ segment_by f.profile s o.plan (has_its_info (stream_alone o) o.plan) (next_segment (stream_alone o) o.plan)
      stream_hands =
          hands_stream f.profile (point_of_front f) (states_of f.ring.items) f.ups.items f.lost s (placed f.profile f.point f.ring.items front.seats)
          (far f.profile f.point f.ring.items front.seats) stands (entry_of (kinds.Stream o)) stream_there stream_kind stream_point

      pub stream_value : next_segment s o.plan ≡ next_segment (stream_alone o) o.plan
      stream_value =
          let ring = states_of f.ring.items in
          let from = point_of_front f in
          let are_placed = placed f.profile f.point f.ring.items front.seats in
          let are_far = far f.profile f.point f.ring.items front.seats in
          let x = entry_of (kinds.Stream o) in
          let at : from.index + 0 ≡ o.plan.index = omega (arith, stream_index) in
          ap (λ (point : Position). block_value s o.plan point.block point.symbol) stands.point
          ∙ value_at s (alone_in x) o.plan from.block from.symbol
          (alike_at f.profile from ring f.ups.items f.lost s are_placed stands o.plan.index 0 from.block x at stream_there
          (is_ahead s o.plan.index from.block (omega (arith, point_is, stream_index)) (λ same. let b = ap (λ (y : Position). y.block) stands.point in omega (arith, b)))
          (first_at_place f.profile from ring f.ups.items f.lost s are_placed are_far stands o.plan.index 0 x at stream_there))
          ∙ ap (λ (point : Position). block_value (alone_in x) o.plan point.block point.symbol) (sym stream_point)

-- ---- the hand-up of a stream by itself, and that by the rules

abbrev up_by : Settings → ℕ → Bool → Option (List ℕ) → Option Up
up_by p index told value = elim told as (λ _. Option Up) [
  | true ↦ elim value as (λ _. Option Up) [ Some symbol ↦ Some (segment_up p index symbol) | None ↦ None ]
  | false ↦ None
]

none_by : (p : Settings) (index : ℕ) (s : Holding) (plan : Plan) (told : Bool) (value : Option (List ℕ)) → None ≡ up_by p index told value → segment_by p s plan told value ≡ None
none_by p index s plan true (Some symbol) e = absurd (cc e)
none_by p index s plan true None e = refl
none_by p index s plan false value e = refl

-- a segment was handed up
pub record IsSegment (p : Settings) (s : Holding) (plan : Plan) (index : ℕ) (u : Up) (one : Option Holding) : Type 0 where
  pub symbol : List ℕ
  pub up : u ≡ segment_up p index symbol
  pub hands : one ≡ Some (hands_segment p s plan symbol)

some_by : (p : Settings) (index : ℕ) (s : Holding) (plan : Plan) (u : Up) (told : Bool) (value : Option (List ℕ)) → Some u ≡ up_by p index told value
    → IsSegment p s plan index u (segment_by p s plan told value)
some_by p index s plan u true (Some symbol) e = record { symbol = symbol; up = (let same : u ≡ segment_up p index symbol = cc e in same); hands = refl }
some_by p index s plan u true None e = absurd (cc e)
some_by p index s plan u false value e = absurd (cc e)

-- what a stream by itself hands up is a segment of it
pub segment_of : (p : Settings) (o : StreamState) (u : Up) → Some u ≡ next_up p o → (symbol : List ℕ) × (u ≡ segment_up p o.point.index symbol)
segment_of p o u some =
    let is = some_by p o.point.index (stream_alone o) o.plan u (has_its_info (stream_alone o) o.plan) (next_segment (stream_alone o) o.plan) some in
    (is.symbol, is.up)

pub stream_stuck : (f : Front) (s : Holding) (front : IsFront f) (stands : StandsFor (front_view f) s) (seat : Seat) (e : at_place f.ring.items 0 ≡ Some seat)
    (o : StreamState) (k : seat.entry ≡ kinds.Stream o) → None ≡ next_up f.profile o → hands_one f.profile s ≡ None
stream_stuck f s front stands seat e o k none =
    stream_hands f s front stands seat e o k
    ∙ none_by f.profile o.point.index s o.plan (has_its_info (stream_alone o) o.plan) (next_segment (stream_alone o) o.plan) none

pub stream_segment : (f : Front) (s : Holding) (front : IsFront f) (stands : StandsFor (front_view f) s) (seat : Seat) (e : at_place f.ring.items 0 ≡ Some seat)
    (o : StreamState) (k : seat.entry ≡ kinds.Stream o) (u : Up) → Some u ≡ next_up f.profile o → IsSegment f.profile s o.plan o.point.index u (hands_one f.profile s)
stream_segment f s front stands seat e o k u some =
    subst (λ (one : Option Holding). IsSegment f.profile s o.plan o.point.index u one) (sym (stream_hands f s front stands seat e o k))
    (some_by f.profile o.point.index s o.plan u (has_its_info (stream_alone o) o.plan) (next_segment (stream_alone o) o.plan) some)

-- ---- an object that is whole holds a symbol at least

pub whole_left : (f : Front) (front : IsFront f) (seat : Seat) (e : at_place f.ring.items 0 ≡ Some seat) (o : ObjectState) (k : seat.entry ≡ kinds.Object o)
    → is_whole (alone o) o.plan ≡ true → 0 < left_at (at_place f.ring.items 0)
whole_left f front seat e o k whole =
    let is : IsSeat f.profile 0 (f.point + 0) seat = front.seats 0 seat e in
    let here : IsEntryAt f.profile (f.point + 0) (entry_of (kinds.Object o)) = subst (λ (kind : Entry). IsEntryAt f.profile (f.point + 0) (entry_of kind)) k is.entry in
    let kind : says_stream o.plan.flags ≡ false = subst (λ (kind : Entry). IsOfKind kind) k is.kind in
    let some : 1 ≤ length o.held = holds_some o kind here.sound whole in
    let same : left_at (at_place f.ring.items 0) ≡ length o.held - 0 = ap left_at e ∙ ap (λ (x : Entry). length (entry_of x).held - (entry_of x).point.symbol) k in
    omega (arith, some, same)

-- ---- hand-ups in a row

left_few : (place : Option Seat) (rest : List (Option Seat)) → left_at place + length (flat_map held_in (entries_there (states_of rest))) ≤ length (flat_map held_in (entries_there (states_of (place ∷ rest))))
left_few None rest = omega arith
left_few (Some seat) rest = omega (arith, length-append (entry_of seat.entry).held (flat_map held_in (entries_there (states_of rest))))

left_held : (ring : List (Option Seat)) → sum_by left_at ring ≤ length (flat_map held_in (entries_there (states_of ring)))
left_held [] = omega arith
left_held (x ∷ ring) = omega (arith, left_held ring, left_few x ring, sum_by-cons left_at x ring)

no_fewer : (f : Front) (s : Holding) → StandsFor (front_view f) s → left_in f ≤ length s.held
no_fewer f s stands =
    let same = ap (λ (xs : List Held). length xs) stands.held in
    omega (arith, left_held f.ring.items, same, filter_few (λ (x : Held). not (is_passed s x.at)) s.held)

-- what a front stands for after some hand-ups
pub record HandsMany (first now : Front) (s : Holding) : Type 0 where
  pub after : Holding
  pub count : ℕ
  pub leads : Leads first.profile s count after
  pub few : count + left_in now ≤ left_in first
  pub stands : StandsFor (front_view now) after

none_yet : (p : Settings) (s : Holding) → Leads p s 0 s
none_yet p s = record { on = λ k. ap (λ n. hands_most n p s) (let n : 0 + k ≡ k = omega arith in n) }

pub hands_none : (f : Front) (s : Holding) → StandsFor (front_view f) s → HandsMany f f s
hands_none f s stands = record { after = s; count = 0; leads = none_yet f.profile s; few = omega arith; stands = stands }

pub hands_more : (first middle now : Front) (s : Holding) → middle.profile ≡ first.profile → HandsMany first middle s
    → ((t : Holding) → StandsFor (front_view middle) t → HandsFirst true (front_view middle) (front_view now) t) → left_in now < left_in middle → HandsMany first now s
hands_more first middle now s same so_far next fewer =
    let step = next so_far.after so_far.stands in
    record {
      after = step.0;
      count = so_far.count + 1;
      leads = leads_on first.profile s so_far.count so_far.after step.0 so_far.leads (ap (λ (p : Settings). hands_one p so_far.after) (sym same) ∙ step.1);
      few = (let few = so_far.few in omega (arith, few, fewer));
      stands = step.2;
    }

pub hands_end : (first middle now : Front) (s : Holding) → middle.profile ≡ first.profile → HandsMany first middle s
    → ((t : Holding) → StandsFor (front_view middle) t → HandsFirst false (front_view middle) (front_view now) t) → StandsFor (front_view first) s
    → StandsFor (front_view now) (handed_up first.profile s)
hands_end first middle now s same so_far last stands =
    let step = last so_far.after so_far.stands in
    subst (λ (t : Holding). StandsFor (front_view now) t)
    (sym (leads_to_end first.profile s so_far.count so_far.after so_far.leads (ap (λ (p : Settings). hands_one p so_far.after) (sym same) ∙ step.0)
    (let few = so_far.few in omega (arith, few, no_fewer first s stands))))
    step.1
