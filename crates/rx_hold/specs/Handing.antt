-- What is handed up of what is at the first place, and what becomes of a front as its first place is left behind (RFC 5740
-- section 5.2).
use Rattle.std.specs.Prelude.{ℕ, nat_lt, is_none, ◌≡◌, ◌<◌, ◌+◌, ◌-◌, ◌&&◌, ◌++◌, Bool, true, false, List, [], ◌∷◌, drop, length, sum_by, IfSome, Option, Some, None}
use Rattle.std.specs.VecDeque.{deque_capacity}
use Rattle.norm_base.specs.Settings.{Settings}
use Rattle.norm_order.specs.declared.up.Up.{Up}
use Rattle.norm_order.specs.declared.up.Up.TheVariants as up
use Rattle.norm_receive_rules.specs.HandingUp.{hands_one, next_segment, is_whole, kind_of, object_octets, told_info}
use Rattle.norm_receive_rules.specs.Holding.{Holding}
use Rattle.rx_hold.specs.EntryHold.{EntryHold, StandsFor, at_place}
use Rattle.rx_hold.specs.EntryState.{entry_of}
use Rattle.rx_object.specs.ObjectState.{ObjectState, alone}
use Rattle.rx_hold.specs.declared.entry.Entry.{Entry}
use Rattle.rx_hold.specs.declared.entry.Entry.TheVariants as kinds
use Rattle.rx_stream.specs.StreamMoves.{handed_on, left, left_behind, next_up}
use Rattle.rx_stream.specs.StreamState.{StreamState, alone as stream_alone}
use Rattle.rx_hold.specs.Seats.{octets_at, waiting_at}
use Rattle.rx_hold.specs.declared.front.Front.{Front}
use Rattle.rx_hold.specs.declared.ring.Seat.{Seat}

-- ---- what is at the first place

abbrev pub is_stream : Entry → Bool
is_stream (kinds.Object o) = false
is_stream (kinds.Stream o) = true

-- a stream is there
abbrev pub has_stream : Option Seat → Bool
has_stream place = elim place [ Some seat ↦ is_stream seat.entry | None ↦ false ]

abbrev pub is_whole_object : Entry → Bool
is_whole_object (kinds.Object o) = is_whole (alone o) o.plan
is_whole_object (kinds.Stream o) = false

-- an object of data or a file is there that is whole
abbrev pub has_whole : Option Seat → Bool
has_whole place = elim place [ Some seat ↦ is_whole_object seat.entry | None ↦ false ]

abbrev pub object_in : Entry → Option ObjectState
object_in (kinds.Object o) = Some o
object_in (kinds.Stream o) = None

-- the object of data or a file that is there
abbrev pub object_of : Option Seat → Option ObjectState
object_of place = elim place [ Some seat ↦ object_in seat.entry | None ↦ None ]

-- what is handed up of an object that is whole
abbrev pub up_of : ObjectState → Up
up_of o = up.Object o.plan.index (kind_of o.plan.flags) (told_info (alone o) o.plan) (object_octets (alone o) o.plan)

-- a stream's next segment is in a block before this one, and is not there
abbrev pub cut_by_entry : ℕ → Entry → Bool
cut_by_entry block (kinds.Object o) = false
cut_by_entry block (kinds.Stream o) = nat_lt o.point.block block && is_none (next_segment (stream_alone o) o.plan)

-- what is at a place is cut off before this block; where nothing is, it is a stream of which blocks were dropped
abbrev pub cut_by_place : ℕ → Option Seat → Bool
cut_by_place block place = elim place [ Some seat ↦ cut_by_entry block seat.entry | None ↦ nat_lt 0 block ]

-- ---- a stream goes on

-- how many hand-ups come with a segment, where the stream is opened with it or not
abbrev pub told_with : Bool → ℕ
told_with opens = elim opens [ true ↦ 2 | false ↦ 1 ]

-- the hand-ups that come with a segment
abbrev pub told_ups : Bool → ℕ → Up → List Up
told_ups opens index news = elim opens [ true ↦ up.StreamOpen index ∷ news ∷ [] | false ↦ news ∷ [] ]

-- the hand-up is the end of a stream
abbrev pub is_end_up : Up → Bool
is_end_up (up.StreamEnd index) = true
is_end_up _ = false

-- so many hand-ups came, where any did
abbrev pub told_by : ℕ → Option Up → ℕ
told_by told news = elim news [ Some one ↦ told | None ↦ 0 ]

-- a stream goes on by its next segment, if that is there
pub record IsGoneOn (news : Option Up) (o : StreamState) (next : Entry) : Type 0 where
  pub up : (p : Settings) → p.e ≡ o.plan.fti.e → news ≡ next_up p o
  pub entry : next ≡ kinds.Stream (handed_on news o)
  pub fewer : IfSome news (λ one. left_behind one (handed_on news o) < left o)

-- so does an object of either kind; data and files do not
abbrev pub GoesOn : Entry → Option Up → Entry → Type 0
GoesOn (kinds.Object o) news next = (news ≡ None) × (next ≡ kinds.Object o)
GoesOn (kinds.Stream o) news next = IsGoneOn news o next

-- the stream at a place goes on, and the room for so many hand-ups is no longer its
pub record IsHandedOn (told : ℕ) (news : Option Up) (o : StreamState) (seat next : Seat) : Type 0 where
  pub gone : IsGoneOn news o next.entry
  pub waiting : next.waiting + told_by told news ≡ seat.waiting

-- so does what is at a place; data and files do not
abbrev pub HandsOn : Entry → ℕ → Option Up → Seat → Seat → Type 0
HandsOn (kinds.Object o) told news seat next = (news ≡ None) × (next ≡ seat)
HandsOn (kinds.Stream o) told news seat next = IsHandedOn told news o seat next

-- ---- the first place is left behind

-- the places from the second one on, and a free one behind them
abbrev pub shifted : {X : Type 0} → List (Option X) → List (Option X)
shifted ring = drop 1 ring ++ None ∷ []

-- a front whose first place was left behind
pub record IsPast (f g : Front) : Type 0 where
  pub profile : g.profile ≡ f.profile
  pub point : g.point ≡ f.point + 1
  pub ring : g.ring.items ≡ shifted f.ring.items
  pub ring_room : deque_capacity g.ring ≡ deque_capacity f.ring
  pub taken : g.taken + octets_at f.profile (at_place f.ring.items 0) ≡ f.taken
  pub waiting : g.waiting + waiting_at (at_place f.ring.items 0) ≡ f.waiting

-- these hand-ups joined those that wait to be taken
pub record HasTold (f g : Front) (more : List Up) : Type 0 where
  pub ups : g.ups.items ≡ f.ups.items ++ more
  pub room : deque_capacity g.ups ≡ deque_capacity f.ups

-- ---- what that is by the rules

-- how many hand-ups can come of what is at a place without that more comes to it
abbrev pub left_at : Option Seat → ℕ
left_at place = elim place [ Some seat ↦ length (entry_of seat.entry).held - (entry_of seat.entry).point.symbol | None ↦ 0 ]

abbrev pub left_in : Front → ℕ
left_in f = sum_by left_at f.ring.items

-- There was a hand-up, or nothing is to be handed up.
abbrev pub HandsFirst : Bool → EntryHold → EntryHold → Holding → Type 0
HandsFirst true old new s = (after : Holding) × (hands_one old.p s ≡ Some after) × StandsFor new after
HandsFirst false old new s = (hands_one old.p s ≡ None) × StandsFor new s

-- All that could be was handed up of whatever a hold stands for.
abbrev pub IsSettled : EntryHold → Type 0
IsSettled h = (s : Holding) → StandsFor h s → hands_one h.p s ≡ None
