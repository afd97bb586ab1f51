-- What the front of a hold keeps, and what it is seen as.
use Rattle.std.specs.Prelude.{ℕ, ◌≡◌, ◌==◌, ◌+◌, ◌≤◌, find, List, [], Option, None, MatchOption, length, option_map, sum_by}
use Rattle.std.specs.VecDeque.{deque_capacity}
use Rattle.fec_plan.specs.Partition.{Cut}
use Rattle.fec_plan.specs.declared.position.Position.{Position}
use Rattle.norm_receive_rules.specs.Fitting.{most_ahead}
use Rattle.norm_receive_rules.specs.Plans.{cut_of_plan}
use Rattle.rx_hold.specs.EntryState.{EntryState}
use Rattle.rx_hold.specs.EntryHold.{EntryHold, entries_there, entry_at}
use Rattle.rx_hold.specs.Seats.{AreSeats, begins_at, octets_at, states_of, waiting_at}
use Rattle.rx_hold.specs.declared.front.Front.{Front}

-- the hand-up point
abbrev pub point_of_front : Front → Position
point_of_front f = begins_at f.point (entry_at (states_of f.ring.items) 0)

abbrev pub front_view : Front → EntryHold
front_view f = record {
  p = f.profile;
  point = point_of_front f;
  objects = entries_there (states_of f.ring.items);
  ups = f.ups.items;
  has_lost = f.lost;
}

-- the object with an index, where it has a plan
abbrev pub object_in : EntryHold → ℕ → Option EntryState
object_in h index = find (λ (o : EntryState). o.plan.index == index) h.objects

-- how the object with an index is cut
abbrev pub plan_in : EntryHold → ℕ → Option Cut
plan_in h index = option_map (λ (o : EntryState). cut_of_plan o.plan) (object_in h index)

-- the flags of the object with an index
abbrev pub flags_in : EntryHold → ℕ → Option ℕ
flags_in h index = option_map (λ (o : EntryState). o.plan.flags) (object_in h index)

-- nothing is held of an object, and nothing was handed up of it
pub record IsBlank (o : EntryState) : Type 0 where
  pub held : o.held ≡ []
  pub info : o.info ≡ None
  pub block : o.point.block ≡ 0
  pub symbol : o.point.symbol ≡ 0

-- so it is with the object with an index
abbrev pub IsUnused : EntryHold → ℕ → Type 0
IsUnused h index = MatchOption (object_in h index) ⊥ (λ (o : EntryState). (h.point.index ≤ index) × IsBlank o)

-- the same with this at its places
abbrev pub view_states : Front → List (Option EntryState) → EntryHold
view_states f r = record { p = f.profile; point = begins_at f.point (entry_at r 0); objects = entries_there r; ups = f.ups.items; has_lost = f.lost }

-- there is room for the hand-ups that wait, and for so many further ones
abbrev pub HasRoom : ℕ → Front → Type 0
HasRoom n f = length f.ups.items + f.waiting + n ≤ deque_capacity f.ups

-- There are 256 places, and each object is at its own; no more octets than may be are taken. There is room for all hand-ups.
pub record IsFront (f : Front) : Type 0 where
  pub places : length f.ring.items ≡ most_ahead
  pub places_room : most_ahead ≤ deque_capacity f.ring
  pub seats : AreSeats f.profile f.point f.ring.items
  pub taken : f.taken ≡ sum_by (octets_at f.profile) f.ring.items
  pub within : f.taken ≤ f.profile.octets
  pub most : f.profile.octets ≤ 16777216
  pub waiting : f.waiting ≡ sum_by waiting_at f.ring.items
  pub room : HasRoom 0 f
