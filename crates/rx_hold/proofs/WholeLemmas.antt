-- A front as the object of data or a file at its first place is handed up whole.
use Rattle.std.proofs.Common.{◌≡◌, ℕ, ◌+◌, ◌-◌, ◌<◌, ◌≤◌, Bool, true, false, refl, sym, ap, ◌∙◌, subst, arith, Option, Some, None, [], ◌∷◌, length}
use Rattle.std.specs.Prelude.{not, MatchOption}
use Rattle.norm_order.specs.declared.up.Up.{Up}
use Rattle.norm_receive_rules.specs.HandingUp.{hands_one, is_whole}
use Rattle.norm_receive_rules.specs.Holding.{Holding}
use Rattle.norm_receive_rules.proofs.PassedSteps.{one_passed}
use Rattle.norm_receive_rules.specs.Plans.{says_stream}
use Rattle.rx_hold.specs.EntryState.{EntryState, entry_of}
use Rattle.rx_hold.specs.EntryHold.{StandsFor, at_place}
use Rattle.rx_object.specs.ObjectState.{ObjectState, alone}
use Rattle.rx_hold.specs.declared.entry.Entry.{Entry}
use Rattle.rx_hold.specs.declared.entry.Entry.TheVariants as kinds
use Rattle.rx_hold.specs.Seats.{octets_at, opening, waiting, waiting_at}
use Rattle.rx_hold.specs.FrontSound.{HasRoom, IsFront, front_view}
use Rattle.rx_hold.specs.Handing.{HandsFirst, HasTold, IsPast, has_stream, has_whole, is_stream, is_whole_object, left_in, object_in, object_of, up_of}
use Rattle.rx_hold.specs.declared.front.Front.{Front}
use Rattle.rx_hold.specs.declared.ring.Seat.{Seat}
use Rattle.rx_hold.proofs.HandingLemmas.{found_whole, hands_nothing, hands_short, hands_whole, whole_left}
use Rattle.rx_hold.proofs.PastLemmas.{past, past_left, past_room, past_sound, past_stands}
use Rattle.rx_hold.proofs.PutLemmas.{sum_least}

-- what is at the first place is no more than all
pub first_octets : (f : Front) → IsFront f → octets_at f.profile (at_place f.ring.items 0) ≤ f.taken
first_octets f front = go (at_place f.ring.items 0) refl
  where
    go : (place : Option Seat) → at_place f.ring.items 0 ≡ place → octets_at f.profile place ≤ f.taken
    go None e = omega arith
    go (Some seat) e = omega (arith, sum_least (octets_at f.profile) f.ring.items 0 seat e, front.taken)

pub first_waiting : (f : Front) → IsFront f → waiting_at (at_place f.ring.items 0) ≤ f.waiting
first_waiting f front = go (at_place f.ring.items 0) refl
  where
    go : (place : Option Seat) → at_place f.ring.items 0 ≡ place → waiting_at place ≤ f.waiting
    go None e = omega arith
    go (Some seat) e = omega (arith, sum_least waiting_at f.ring.items 0 seat e, front.waiting)

pub whole_last : (f : Front) → IsFront f → has_whole (at_place f.ring.items 0) ≡ true → f.point < 4294967295
whole_last f front whole =
    let found = found_whole (at_place f.ring.items 0) whole in
    let last = (front.seats 0 found.0 found.2).entry.last in
    omega (arith, last)

-- where it is no stream, and not whole, nothing is handed up
pub short_none : (f : Front) (s : Holding) → IsFront f → has_stream (at_place f.ring.items 0) ≡ false → has_whole (at_place f.ring.items 0) ≡ false → StandsFor (front_view f) s
    → hands_one f.profile s ≡ None
short_none f s front object short stands = go (at_place f.ring.items 0) refl object short
  where
    go : (place : Option Seat) → at_place f.ring.items 0 ≡ place → has_stream place ≡ false → has_whole place ≡ false → hands_one f.profile s ≡ None
    go None e h w = hands_nothing f s front stands e
    go (Some seat) e h w = by seat.entry refl h w
      where
        by : (kind : Entry) → seat.entry ≡ kind → is_stream kind ≡ false → is_whole_object kind ≡ false → hands_one f.profile s ≡ None
        by (kinds.Object o) k h w = hands_short f s front stands seat e o k w
        by (kinds.Stream o) k h w = absurd (cc h)

-- what is handed up is the object's
news_of : (place : Option Seat) (u : Up) (seat : Seat) (o : ObjectState) → place ≡ Some seat → seat.entry ≡ kinds.Object o → MatchOption (object_of place) ⊥ (λ (x : ObjectState). u ≡ up_of x)
    → u ≡ up_of o
news_of place u seat o e k news =
    subst (λ (kind : Entry). MatchOption (object_in kind) ⊥ (λ (x : ObjectState). u ≡ up_of x)) k
    (subst (λ (x : Option Seat). MatchOption (object_of x) ⊥ (λ (y : ObjectState). u ≡ up_of y)) e news)

some_waiting : (o : EntryState) → 1 ≤ waiting o
some_waiting o = go (says_stream o.plan.flags)
  where
    go : (b : Bool) → 1 ≤ elim b as (λ _. ℕ) [ true ↦ length o.held - o.point.symbol + (1 + opening o.point) | false ↦ 1 ]
    go true = omega arith
    go false = omega arith

module _ (f g : Front) (front : IsFront f) (u : Up) (whole : has_whole (at_place f.ring.items 0) ≡ true) (news : MatchOption (object_of (at_place f.ring.items 0)) ⊥ (λ (x : ObjectState). u ≡ up_of x))
    (is : IsPast f g) (told : HasTold f g (u ∷ [])) (lost : g.lost ≡ f.lost) where
  found : (seat : Seat) × (o : ObjectState) × (at_place f.ring.items 0 ≡ Some seat) × (seat.entry ≡ kinds.Object o) × (is_whole (alone o) o.plan ≡ true)
  found = found_whole (at_place f.ring.items 0) whole

  waits : 1 ≤ waiting_at (at_place f.ring.items 0)
  waits =
      let at : waiting_at (at_place f.ring.items 0) ≡ found.0.waiting = ap waiting_at found.2 in
      let room = (front.seats 0 found.0 found.2).room in
      omega (arith, at, room, some_waiting (entry_of found.0.entry))

  pub whole_room : (n : ℕ) → HasRoom n f → HasRoom n g
  whole_room = past_room f g (u ∷ []) is told (omega (arith, waits))

  pub whole_sound : IsFront g
  whole_sound = past_sound f g front is (whole_room 0 front.room)

  pub whole_fewer : left_in g < left_in f
  whole_fewer = omega (arith, past_left f g is, whole_left f front found.0 found.2 found.1 found.3 found.4)

  pub whole_hands : (s : Holding) → StandsFor (front_view f) s → HandsFirst true (front_view f) (front_view g) s
  whole_hands s stands =
      let hands : hands_one f.profile s ≡ Some (past (u ∷ []) s.lost s) =
      hands_whole f s front stands found.0 found.2 found.1 found.3 found.4
      ∙ ap (λ (v : Up). Some (past (v ∷ []) s.lost s)) (sym (news_of (at_place f.ring.items 0) u found.0 found.1 found.2 found.3 news)) in (past (u ∷ []) s.lost s, hands, past_stands f g s (u ∷ []) s.lost front is told stands (stands.lost ∙ ap not (sym lost)) (one_passed f.profile s (past (u ∷ []) s.lost s) hands stands.passed))
