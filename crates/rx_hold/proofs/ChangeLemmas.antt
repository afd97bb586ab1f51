-- A front with something else at a place.
use Rattle.std.proofs.Common.{◌≡◌, ℕ, zero, suc, ◌+◌, ◌≤◌, refl, sym, ap, ◌∙◌, subst, arith, Option, Some, List, [], ◌∷◌, length, Bool}
use Rattle.std.specs.Prelude.{slice_set, OnErr, Result, Ok, Err, sum_by}
use Rattle.std.specs.List.{AllByRecursion}
use Rattle.std.specs.VecDeque.{deque_capacity}
use Rattle.std.proofs.lemmas.List.{length-set}
use Rattle.norm_base.specs.Settings.{Settings}
use Rattle.fec_plan.specs.Partition.{IsSound}
use Rattle.fec_plan.specs.Points.{position}
use Rattle.fec_plan.specs.declared.position.Position.{Position}
use Rattle.norm_ext.specs.declared.fti.Fti.{Fti}
use Rattle.norm_receive_rules.specs.Fitting.{room_of}
use Rattle.norm_receive_rules.specs.Holding.{Held}
use Rattle.norm_receive_rules.specs.Plans.{cut_of_plan, says_stream}
use Rattle.rx_hold.specs.EntryState.{EntryState, IsOfKind, entry_of}
use Rattle.rx_hold.specs.EntryHold.{IsEntryAt, at_place, entries_there, entry_at}
use Rattle.rx_hold.specs.Seats.{AreSeats, IsSeat, begins_at, octets_at, states_of, waiting, waiting_at}
use Rattle.rx_hold.specs.FrontSound.{HasRoom, IsFront, front_view, view_states}
use Rattle.rx_hold.specs.declared.front.Front.{Front}
use Rattle.rx_hold.specs.declared.ring.Seat.{Seat}
use Rattle.rx_hold.proofs.SeatLemmas.{seats_set, sum_set, within}

-- what an object is seen as goes on to be, but for its symbols and its info
pub record GoesOn (o x : EntryState) : Type 0 where
  pub index : x.plan.index ≡ o.plan.index
  pub fti : x.plan.fti ≡ o.plan.fti
  pub flags : x.plan.flags ≡ o.plan.flags
  pub point : x.point ≡ o.point
  pub room : x.room ≡ o.room

cut_on : (o x : EntryState) → GoesOn o x → cut_of_plan x.plan ≡ cut_of_plan o.plan
cut_on o x on = ap (λ (f : Fti). cut_of_plan (record x.plan { fti = f })) on.fti ∙ ap (λ n. cut_of_plan (record o.plan { flags = n })) on.flags

pub entry_on : (p : Settings) (n : ℕ) (o x : EntryState) → GoesOn o x → AllByRecursion (λ (h : Held). h.at.index ≡ n) x.held → IsEntryAt p n o → IsEntryAt p n x
entry_on p n o x on own is = record {
  index = on.index ∙ is.index;
  own = own;
  sound = subst IsSound (sym (cut_on o x on)) is.sound;
  profile = record {
    e = is.profile.e ∙ ap (λ (f : Fti). f.e) (sym on.fti);
    blocks = λ stream. is.profile.blocks (ap (λ k. says_stream k) (sym on.flags) ∙ stream) ∙ sym on.room;
  };
  b = ap (λ (f : Fti). f.b) on.fti ∙ is.b;
  last = is.last;
}

pub seat_on : (p : Settings) (i n : ℕ) (seat next : Seat) → GoesOn (entry_of seat.entry) (entry_of next.entry) → AllByRecursion (λ (h : Held). h.at.index ≡ n) (entry_of next.entry).held
    → IsOfKind next.entry → waiting (entry_of next.entry) ≤ next.waiting → IsSeat p i n seat → IsSeat p i n next
seat_on p i n seat next on own kind room is = record {
  entry = entry_on p n (entry_of seat.entry) (entry_of next.entry) on own is.entry;
  kind = kind;
  own = λ stream. ap (λ (at : Position). at.index) on.point ∙ is.own (ap (λ k. says_stream k) (sym on.flags) ∙ stream) ∙ sym on.index;
  later = λ lt. (ap (λ (at : Position). at.block) on.point ∙ (is.later lt).0, ap (λ (at : Position). at.symbol) on.point ∙ (is.later lt).1);
  room = room;
}

-- ---- the front

-- all but the ring and what waits is as it was
pub record IsChanged (f g : Front) : Type 0 where
  pub profile : g.profile ≡ f.profile
  pub point : g.point ≡ f.point
  pub ring_room : deque_capacity g.ring ≡ deque_capacity f.ring
  pub taken : g.taken ≡ f.taken
  pub ups : g.ups ≡ f.ups
  pub lost : g.lost ≡ f.lost

same_octets : (p : Settings) (seat next : Seat) → GoesOn (entry_of seat.entry) (entry_of next.entry) → octets_at p (Some next) ≡ octets_at p (Some seat)
same_octets p seat next on = ap (λ (f : Fti). room_of p f (entry_of next.entry).plan.flags) on.fti ∙ ap (λ n. room_of p (entry_of seat.entry).plan.fti n) on.flags

pub sound_set : (f g : Front) (i : ℕ) (seat next : Seat) → IsFront f → IsChanged f g → at_place f.ring.items i ≡ Some seat → g.ring.items ≡ slice_set f.ring.items i (Some next)
    → GoesOn (entry_of seat.entry) (entry_of next.entry) → IsSeat f.profile i (f.point + i) next → g.waiting + seat.waiting ≡ f.waiting + next.waiting → HasRoom 0 g → IsFront g
sound_set f g i seat next front is e ring_is on new count room =
    let lt = within f.ring.items i seat e in
    let most : g.profile.octets ≡ f.profile.octets = ap (λ (p : Settings). p.octets) is.profile in
    let octets = sum_set (octets_at f.profile) f.ring.items i (Some next) lt in
    let was : octets_at f.profile (at_place f.ring.items i) ≡ octets_at f.profile (Some next) =
    ap (octets_at f.profile) e ∙ sym (same_octets f.profile seat next on) in
    let octets_is : sum_by (octets_at g.profile) g.ring.items ≡ sum_by (octets_at f.profile) (slice_set f.ring.items i (Some next)) =
    ap (λ (p : Settings). sum_by (octets_at p) g.ring.items) is.profile ∙ ap (λ (r : List (Option Seat)). sum_by (octets_at f.profile) r) ring_is in
    let waits = sum_set waiting_at f.ring.items i (Some next) lt in
    let waited : waiting_at (at_place f.ring.items i) ≡ seat.waiting = ap waiting_at e in
    let waits_is : sum_by waiting_at g.ring.items ≡ sum_by waiting_at (slice_set f.ring.items i (Some next)) = ap (λ (r : List (Option Seat)). sum_by waiting_at r) ring_is in
    record {
      places = ap (λ (r : List (Option Seat)). length r) ring_is ∙ length-set f.ring.items i (Some next) ∙ front.places;
      places_room = omega (arith, front.places_room, is.ring_room);
      seats =
          subst (λ (p : Settings). AreSeats p g.point g.ring.items) (sym is.profile)
          (subst (λ (n : ℕ). AreSeats f.profile n g.ring.items) (sym is.point)
          (subst (λ (r : List (Option Seat)). AreSeats f.profile f.point r) (sym ring_is) (seats_set f.profile f.point i f.ring.items next front.seats new)));
      taken = omega (arith, is.taken, front.taken, octets, was, octets_is);
      within = omega (arith, is.taken, front.within, most);
      most = omega (arith, front.most, most);
      waiting = omega (arith, count, front.waiting, waits, waited, waits_is);
      room = room;
    }

pub sound_same : (f g : Front) → IsFront f → IsChanged f g → g.ring.items ≡ f.ring.items → g.waiting ≡ f.waiting → IsFront g
sound_same f g front is ring_is count =
    let most : g.profile.octets ≡ f.profile.octets = ap (λ (p : Settings). p.octets) is.profile in
    let octets_is : sum_by (octets_at g.profile) g.ring.items ≡ sum_by (octets_at f.profile) f.ring.items =
    ap (λ (p : Settings). sum_by (octets_at p) g.ring.items) is.profile ∙ ap (λ (r : List (Option Seat)). sum_by (octets_at f.profile) r) ring_is in
    let waits_is : sum_by waiting_at g.ring.items ≡ sum_by waiting_at f.ring.items = ap (λ (r : List (Option Seat)). sum_by waiting_at r) ring_is in
    let ups_long : length g.ups.items ≡ length f.ups.items = ap (λ u. length u.items) is.ups in
    let ups_room : deque_capacity g.ups ≡ deque_capacity f.ups = ap (λ u. deque_capacity u) is.ups in
    record {
      places = ap (λ (r : List (Option Seat)). length r) ring_is ∙ front.places;
      places_room = omega (arith, front.places_room, is.ring_room);
      seats =
          subst (λ (p : Settings). AreSeats p g.point g.ring.items) (sym is.profile)
          (subst (λ (n : ℕ). AreSeats f.profile n g.ring.items) (sym is.point)
          (subst (λ (r : List (Option Seat)). AreSeats f.profile f.point r) (sym ring_is) front.seats));
      taken = omega (arith, is.taken, front.taken, octets_is);
      within = omega (arith, is.taken, front.within, most);
      most = omega (arith, front.most, most);
      waiting = omega (arith, count, front.waiting, waits_is);
      room = omega (arith, front.room, count, ups_long, ups_room);
    }

-- ---- what it is seen as

pub view_changed : (f g : Front) → IsChanged f g → (r : List (Option EntryState)) → states_of g.ring.items ≡ r → front_view g ≡ view_states f r
view_changed f g is r e =
    ap (λ (p : Settings). record (front_view g) { p = p }) is.profile
    ∙ ap (λ (n : ℕ). record { p = f.profile; point = begins_at n (entry_at (states_of g.ring.items) 0); objects = entries_there (states_of g.ring.items); ups = g.ups.items; has_lost = g.lost }) is.point
    ∙ ap (λ u. record { p = f.profile; point = begins_at f.point (entry_at (states_of g.ring.items) 0); objects = entries_there (states_of g.ring.items); ups = u.items; has_lost = g.lost }) is.ups
    ∙ ap (λ (b : Bool). record { p = f.profile; point = begins_at f.point (entry_at (states_of g.ring.items) 0); objects = entries_there (states_of g.ring.items); ups = f.ups.items; has_lost = b }) is.lost
    ∙ ap (view_states f) e

-- the hand-up point stays where it is
pub begins_same : (n i : ℕ) (states : List (Option EntryState)) (o x : EntryState) → entry_at states i ≡ Some o → x.point ≡ o.point
    → begins_at n (entry_at (slice_set states i (Some x)) 0) ≡ begins_at n (entry_at states 0)
begins_same n i [] o x e same = refl
begins_same n zero (y ∷ states) o x e same =
    ap (λ (at : Position). position n at.block at.symbol) same ∙ sym (ap (λ (found : Option EntryState). begins_at n found) e)
begins_same n (suc i) (y ∷ states) o x e same = refl

pub on_err : (T E : Type 0) (r : Result T E) (P : Type 0) → P → OnErr r P
on_err T E (Ok x) P h = tt
on_err T E (Err e) P h = h

pub set_there : (ring : List (Option EntryState)) (i : ℕ) (o : EntryState) → entry_at ring i ≡ Some o → slice_set ring i (Some o) ≡ ring
set_there [] i o e = refl
set_there (x ∷ ring) zero o e = ap (λ (y : Option EntryState). y ∷ ring) (sym e)
set_there (x ∷ ring) (suc i) o e = ap (λ (r : List (Option EntryState)). x ∷ r) (set_there ring i o e)
