-- What a front stands for as a segment of the stream at its first place is handed up.
use Rattle.std.proofs.Common.{◌≡◌, ℕ, suc, ◌+◌, ◌-◌, ◌<◌, ◌≤◌, Bool, true, false, refl, sym, ap, ◌∙◌, subst, arith, Option, Some, List, [], ◌∷◌, ◌++◌, length}
use Rattle.std.specs.Prelude.{filter, slice_set, not, nat_lt, ◌==◌, ◌&&◌}
use Rattle.std.specs.VecDeque.{deque_capacity}
use Rattle.std.proofs.lemmas.List.{length-map, length-set}
use Rattle.fec_plan.specs.Partition.{source_symbols}
use Rattle.fec_plan.specs.Points.{position}
use Rattle.fec_plan.specs.declared.position.Position.{Position}
use Rattle.norm_order.specs.declared.up.Up.{Up}
use Rattle.norm_order.specs.declared.up.Up.TheVariants as up
use Rattle.norm_receive_rules.specs.HandingUp.{after_object, after_segment, handed, hands_one, hands_segment, open_before, segment_length, segment_up}
use Rattle.norm_receive_rules.specs.Holding.{Holding, Held}
use Rattle.norm_receive_rules.specs.Laws.{HasPassed}
use Rattle.norm_receive_rules.specs.Plans.{cut_of_plan}
use Rattle.norm_receive_rules.proofs.PassedSteps.{one_passed}
use Rattle.rx_hold.specs.EntryState.{entry_of}
use Rattle.rx_hold.specs.EntryHold.{EntryHold, StandsFor, at_place}
use Rattle.rx_hold.specs.declared.entry.Entry.TheVariants as kinds
use Rattle.rx_hold.proofs.EntryBlocks.{moved_on}
use Rattle.rx_hold.proofs.EntryMoves.{moved_within}
use Rattle.rx_hold.proofs.EntryStands.{view_with}
use Rattle.rx_stream.specs.StreamMoves.{handed_on, left, left_behind}
use Rattle.rx_stream.specs.StreamState.{StreamState}
use Rattle.rx_stream.proofs.StreamLemmas.{sources_are}
use Rattle.rx_hold.specs.Seats.{begins_at, octets_at, state_of, states_of, waiting_at}
use Rattle.rx_hold.specs.FrontSound.{HasRoom, IsFront, front_view, point_of_front}
use Rattle.rx_hold.specs.Handing.{HandsFirst, HasTold, IsPast, is_end_up, left_at, left_in, shifted, told_ups, told_with}
use Rattle.rx_hold.specs.declared.front.Front.{Front}
use Rattle.rx_hold.specs.declared.ring.Seat.{Seat}
use Rattle.rx_hold.proofs.HandingLemmas.{IsSegment, segment_of, stream_index, stream_kind, stream_own, stream_point, stream_segment, stream_there}
use Rattle.rx_hold.proofs.PastLemmas.{past, past_left, past_room, past_sound, past_stands, shifted_set}
use Rattle.rx_hold.proofs.SeatLemmas.{placed, set_here}
use Rattle.rx_hold.proofs.PutLemmas.{sum_least}
use Rattle.rx_hold.proofs.SegmentLemmas.{IsOn, Went, behind, behind_long, ends_long, goes_long, on_fewer, on_long, on_room, on_sound, on_view, passed_by, seat_room, told_are, told_count, up_long}

-- the state behind a segment, by how long it is and whether its block goes on
module _ (f : Front) (front : IsFront f) (opens : Bool) (start : opens ≡ ((point_of_front f).block == 0 && (point_of_front f).symbol == 0)) (u : Up)
    (s : Holding) (stands : StandsFor (front_view f) s) (seat : Seat) (e : at_place f.ring.items 0 ≡ Some seat) where
  after_is : (o : _) (k : seat.entry ≡ kinds.Stream o) (symbol : List ℕ) (long : ℕ) (goes_on : Bool) → segment_length f.profile symbol ≡ long → nat_lt (o.point.symbol + 1) o.plan.fti.b ≡ goes_on
      → u ≡ segment_up f.profile o.point.index symbol
      → hands_segment f.profile s o.plan symbol ≡ handed (told_ups opens f.point u) (behind long goes_on (point_of_front f)) s
  after_is o k symbol long goes_on long_is by up_is =
      ap (λ (at : Position). handed (open_before at ++ segment_up f.profile at.index symbol ∷ []) (after_segment f.profile o.plan at symbol) s) stands.point
      ∙ ap (λ (us : List Up). handed us (after_segment f.profile o.plan (point_of_front f) symbol) s) ups_are
      ∙ ap (λ (at : Position). handed (told_ups opens f.point u) at s) point_after
    where
      ups_are : open_before (point_of_front f) ++ segment_up f.profile f.point symbol ∷ [] ≡ told_ups opens f.point u
      ups_are =
          ap (λ n. open_before (point_of_front f) ++ segment_up f.profile n symbol ∷ []) (sym (stream_own f s front stands seat e o k ∙ stream_index f s front stands seat e o k))
          ∙ ap (λ (v : Up). open_before (point_of_front f) ++ v ∷ []) (sym up_is)
          ∙ sym (told_are opens ((point_of_front f).block == 0 && (point_of_front f).symbol == 0) f.point u start)

      point_after : after_segment f.profile o.plan (point_of_front f) symbol ≡ behind long goes_on (point_of_front f)
      point_after =
          ap (λ n. behind n (nat_lt ((point_of_front f).symbol + 1) (source_symbols (cut_of_plan o.plan) (point_of_front f).block)) (point_of_front f)) long_is
          ∙ ap (λ n. behind long (nat_lt ((point_of_front f).symbol + 1) n) (point_of_front f)) (sources_are o.plan (point_of_front f).block (stream_kind f s front stands seat e o k))
          ∙ ap (λ (at : Position). behind long (nat_lt (at.symbol + 1) o.plan.fti.b) (point_of_front f)) (sym (stream_point f s front stands seat e o k))
          ∙ ap (λ b. behind long b (point_of_front f)) by

module _ (f g : Front) (front : IsFront f) (opens : Bool) (start : opens ≡ ((point_of_front f).block == 0 && (point_of_front f).symbol == 0)) (u : Up)
    (w : Went f (told_with opens) (Some u) g.ring.items) (is : IsOn f g (told_with opens)) (told : HasTold f g (told_ups opens f.point u)) (goes : is_end_up u ≡ false) where
  same_e : f.profile.e ≡ w.o.plan.fti.e
  same_e = subst (λ kind. f.profile.e ≡ (entry_of kind).plan.fti.e) w.kind (front.seats 0 w.seat w.there).entry.profile.e

  abbrev more : List Up
  more = told_ups opens f.point u

  -- by whether its block goes on
  stands_by : (s : Holding) (stands : StandsFor (front_view f) s) (goes_on : Bool) → HasPassed f.profile (handed more (behind 1 goes_on (point_of_front f)) s)
      → StandsFor (view_with f.profile (begins_at f.point (Some (entry_of (kinds.Stream (passed_by goes_on w.o)))))
      (slice_set (states_of f.ring.items) 0 (Some (entry_of (kinds.Stream (passed_by goes_on w.o))))) (f.ups.items ++ more) f.lost) (handed more (behind 1 goes_on (point_of_front f)) s)
  stands_by s stands true still =
      let x = entry_of (kinds.Stream (passed_by true w.o)) in
      let here = stream_point f s front stands w.seat w.there w.o w.kind in
      subst (λ (at : Position). StandsFor (view_with f.profile at (slice_set (states_of f.ring.items) 0 (Some x)) (f.ups.items ++ more) f.lost) (handed more (behind 1 true (point_of_front f)) s))
      (ap (λ (at : Position). position f.point at.block (at.symbol + 1)) (sym here))
      (moved_within f.profile (point_of_front f) (states_of f.ring.items) f.ups.items f.lost s (placed f.profile f.point f.ring.items front.seats) stands ((point_of_front f).symbol + 1) more
      (entry_of (kinds.Stream w.o)) x (omega (arith, front.places, length-map f.ring.items state_of)) (stream_there f s front stands w.seat w.there w.o w.kind) refl refl refl still)
  stands_by s stands false still =
      let x = entry_of (kinds.Stream (passed_by false w.o)) in
      let here = stream_point f s front stands w.seat w.there w.o w.kind in
      subst (λ (at : Position). StandsFor (view_with f.profile at (slice_set (states_of f.ring.items) 0 (Some x)) (f.ups.items ++ more) f.lost) (handed more (behind 1 false (point_of_front f)) s))
      (ap (λ (at : Position). position f.point (at.block + 1) 0) (sym here))
      (moved_on f.profile (point_of_front f) (states_of f.ring.items) f.ups.items f.lost s (placed f.profile f.point f.ring.items front.seats) stands more
      (entry_of (kinds.Stream w.o)) x (omega (arith, front.places, length-map f.ring.items state_of)) (stream_there f s front stands w.seat w.there w.o w.kind) refl
      (ap (λ (at : Position). filter (λ (y : Held). not (nat_lt y.at.block (at.block + 1))) w.o.held) here) refl still)

  abbrev goes_on : Bool
  goes_on = nat_lt (w.o.point.symbol + 1) w.o.plan.fti.b

  segment : (symbol : List ℕ) × (u ≡ segment_up f.profile w.o.point.index symbol)
  segment = segment_of f.profile w.o u (w.on.gone.up f.profile same_e)

  kept : w.next.entry ≡ kinds.Stream (passed_by goes_on w.o)
  kept =
      w.on.gone.entry
      ∙ ap (λ (x : StreamState). kinds.Stream x)
      (ap (λ (v : Up). handed_on (Some v) w.o) segment.1
      ∙ on_long (segment_length f.profile segment.0) w.o.point.index segment.0 w.o (ap is_end_up (sym segment.1) ∙ goes))

  fewer : left (passed_by goes_on w.o) < left w.o
  fewer =
      let symbol = segment.0 in
      let long = segment_length f.profile symbol in
      let still : is_end_up (up_long long w.o.point.index symbol) ≡ false = ap is_end_up (sym segment.1) ∙ goes in
      behind_long long w.o.point.index symbol (passed_by goes_on w.o) w.o still
      (subst (λ (v : Up). left_behind v (passed_by goes_on w.o) < left w.o) segment.1
      (subst (λ (x : StreamState). left_behind u x < left w.o)
      (ap (λ (v : Up). handed_on (Some v) w.o) segment.1 ∙ on_long long w.o.point.index symbol w.o still) w.on.gone.fewer))

  pub goes_sound : IsFront g
  goes_sound = on_sound f g front opens start u w is told goes goes_on refl kept fewer

  pub goes_room : (n : ℕ) → HasRoom n f → HasRoom n g
  goes_room = on_room f g front opens start u w is told

  pub goes_fewer : left_in g < left_in f
  goes_fewer = on_fewer f g front opens start u w is told goes goes_on refl kept fewer

  pub goes_hands : (s : Holding) → StandsFor (front_view f) s → HandsFirst true (front_view f) (front_view g) s
  goes_hands s stands =
      let one : IsSegment f.profile s w.o.plan w.o.point.index u (hands_one f.profile s) =
      stream_segment f s front stands w.seat w.there w.o w.kind u (w.on.gone.up f.profile same_e) in
      let long = goes_long (segment_length f.profile one.symbol) w.o.point.index one.symbol (ap is_end_up (sym one.up) ∙ goes) in
      let after = handed more (behind 1 goes_on (point_of_front f)) s in
      let same : hands_segment f.profile s w.o.plan one.symbol ≡ after =
      after_is f front opens start u s stands w.seat w.there w.o w.kind one.symbol (suc long.0) goes_on long.1 refl one.up in
      let hands : hands_one f.profile s ≡ Some after = one.hands ∙ ap (λ (t : Holding). Some t) same in (
        after,
        hands,
        subst (λ (h : EntryHold). StandsFor h after) (sym (on_view f g front opens start u w is told goes goes_on refl kept fewer))
            (stands_by s stands goes_on (one_passed f.profile s after hands stands.passed)),
      )

-- ---- the end came, and the stream is left behind

end_on : (v : Up) (o : StreamState) → is_end_up v ≡ true → handed_on (Some v) o ≡ o
end_on (up.StreamEnd index) o e = refl
end_on (up.StreamBytes index offset bytes) o e = absurd (cc e)
end_on (up.StreamOpen index) o e = absurd (cc e)
end_on (up.Object index kind info bytes) o e = absurd (cc e)
end_on (up.Lost index) o e = absurd (cc e)

end_left : (v : Up) (x o : StreamState) → is_end_up v ≡ true → left_behind v x < left o → 0 < left o
end_left (up.StreamEnd index) x o e lt = lt
end_left (up.StreamBytes index offset bytes) x o e lt = absurd (cc e)
end_left (up.StreamOpen index) x o e lt = absurd (cc e)
end_left (up.Object index kind info bytes) x o e lt = absurd (cc e)
end_left (up.Lost index) x o e lt = absurd (cc e)

module _ (f m : Front) (front : IsFront f) (opens : Bool) (start : opens ≡ ((point_of_front f).block == 0 && (point_of_front f).symbol == 0)) (u : Up)
    (w : Went f (told_with opens) (Some u) m.ring.items) (is : IsOn f m (told_with opens)) (told : HasTold f m (told_ups opens f.point u)) (ends : is_end_up u ≡ true) where
  e_of : f.profile.e ≡ w.o.plan.fti.e
  e_of = subst (λ kind. f.profile.e ≡ (entry_of kind).plan.fti.e) w.kind (front.seats 0 w.seat w.there).entry.profile.e

  stays : w.next.entry ≡ w.seat.entry
  stays = w.on.gone.entry ∙ ap (λ (x : StreamState). kinds.Stream x) (end_on u w.o ends) ∙ sym w.kind

  next_there : at_place m.ring.items 0 ≡ Some w.next
  next_there = ap (λ (r : List (Option Seat)). at_place r 0) w.ring ∙ set_here f.ring.items 0 (Some w.next) (omega (arith, front.places))

  octets_same : octets_at m.profile (at_place m.ring.items 0) ≡ octets_at f.profile (at_place f.ring.items 0)
  octets_same =
      ap (λ p. octets_at p (at_place m.ring.items 0)) is.profile
      ∙ ap (octets_at f.profile) next_there
      ∙ ap (λ kind. octets_at f.profile (Some (record { entry = kind; waiting = w.next.waiting }))) stays
      ∙ sym (ap (octets_at f.profile) w.there)

  waits_next : waiting_at (at_place m.ring.items 0) ≡ w.next.waiting
  waits_next = ap waiting_at next_there

  waits_seat : waiting_at (at_place f.ring.items 0) ≡ w.seat.waiting
  waits_seat = ap waiting_at w.there

  pub end_octets : octets_at m.profile (at_place m.ring.items 0) ≤ m.taken
  end_octets =
      let least = sum_least (octets_at f.profile) f.ring.items 0 w.seat w.there in
      let at : octets_at f.profile (at_place f.ring.items 0) ≡ octets_at f.profile (Some w.seat) = ap (octets_at f.profile) w.there in
      let taken = is.taken in
      omega (arith, least, front.taken, octets_same, at, taken)

  pub end_waiting : waiting_at (at_place m.ring.items 0) ≤ m.waiting
  end_waiting =
      let least = sum_least waiting_at f.ring.items 0 w.seat w.there in
      let few = w.on.waiting in
      let count = is.waiting in
      omega (arith, least, front.waiting, waits_next, few, count)

  pub end_last : m.point < 4294967295
  end_last =
      let last = (front.seats 0 w.seat w.there).entry.last in
      let at = is.point in
      omega (arith, last, at)

  pub end_long : length m.ring.items ≡ length f.ring.items
  end_long = ap (λ (r : List (Option Seat)). length r) w.ring ∙ length-set f.ring.items 0 (Some w.next)

  module _ (g : Front) (went_past : IsPast m g) (ups : g.ups ≡ m.ups) (lost : g.lost ≡ m.lost) where
    is_past : IsPast f g
    is_past = record {
      profile = went_past.profile ∙ is.profile;
      point = went_past.point ∙ ap (λ n. n + 1) is.point;
      ring = went_past.ring ∙ ap (λ (r : List (Option Seat)). shifted r) w.ring ∙ shifted_set f.ring.items (Some w.next);
      ring_room = went_past.ring_room ∙ is.ring_room;
      taken = (let past_taken = went_past.taken in let taken = is.taken in omega (arith, past_taken, taken, octets_same));
      waiting = (let past_waits = went_past.waiting in let count = is.waiting in let few = w.on.waiting in omega (arith, past_waits, count, few, waits_next, waits_seat));
    }

    has_told : HasTold f g (told_ups opens f.point u)
    has_told = record { ups = ap (λ us. us.items) ups ∙ told.ups; room = ap (λ us. deque_capacity us) ups ∙ told.room }

    pub ends_room : (n : ℕ) → HasRoom n f → HasRoom n g
    ends_room =
        past_room f g (told_ups opens f.point u) is_past has_told
        (let few = seat_room f front opens start w.seat w.there w.o w.kind in omega (arith, few, told_count opens f.point u, waits_seat))

    pub ends_sound : IsFront g
    ends_sound = past_sound f g front is_past (ends_room 0 front.room)

    pub ends_fewer : left_in g < left_in f
    ends_fewer =
        let some : 0 < left w.o = end_left u (handed_on (Some u) w.o) w.o ends w.on.gone.fewer in
        let was : left_at (at_place f.ring.items 0) ≡ left w.o = ap left_at w.there ∙ ap (λ kind. length (entry_of kind).held - (entry_of kind).point.symbol) w.kind in
        omega (arith, past_left f g is_past, was, some)

    pub ends_hands : (s : Holding) → StandsFor (front_view f) s → HandsFirst true (front_view f) (front_view g) s
    ends_hands s stands =
        let one : IsSegment f.profile s w.o.plan w.o.point.index u (hands_one f.profile s) =
        stream_segment f s front stands w.seat w.there w.o w.kind u (w.on.gone.up f.profile e_of) in
        let none : segment_length f.profile one.symbol ≡ 0 = ends_long (segment_length f.profile one.symbol) w.o.point.index one.symbol (ap is_end_up (sym one.up) ∙ ends) in
        let at : s.point.index ≡ f.point = ap (λ (x : Position). x.index) stands.point in
        let same : hands_segment f.profile s w.o.plan one.symbol ≡ past (told_ups opens f.point u) s.lost s =
        after_is f front opens start u s stands w.seat w.there w.o w.kind one.symbol 0 (nat_lt (w.o.point.symbol + 1) w.o.plan.fti.b) none refl one.up
        ∙ ap (λ n. handed (told_ups opens f.point u) (after_object n) s) (sym at) in
        let hands : hands_one f.profile s ≡ Some (past (told_ups opens f.point u) s.lost s) = one.hands ∙ ap (λ (t : Holding). Some t) same in (
          past (told_ups opens f.point u) s.lost s,
          hands,
          past_stands f g s (told_ups opens f.point u) s.lost front is_past has_told stands (stands.lost ∙ ap not (sym (lost ∙ is.lost)))
              (one_passed f.profile s (past (told_ups opens f.point u) s.lost s) hands stands.passed),
        )
