-- What is kept of a journal, and the events that it stands for.
use Rattle.std.specs.Prelude.{ℕ, ◌<◌, ◌≡◌, List, [], length, map, All, slice_index_or, ⊤}
use Rattle.norm_record.specs.declared.ups.HandUp.{HandUp}
use Rattle.norm_order.specs.declared.up.Up.TheVariants as up
use Rattle.norm_journal.specs.declared.event.Event.{Event}
use Rattle.norm_journal.specs.declared.event.Event.TheVariants as event
use Rattle.norm_record.specs.declared.entry.Entry.{Entry}
use Rattle.norm_record.specs.declared.entry.Entry.TheVariants as entry
use Rattle.norm_record.specs.declared.entry.Rare.{Rare}
use Rattle.norm_record.specs.declared.entry.Turn.{Turn}
use Rattle.norm_record.specs.declared.entry.Rare.TheVariants as rare
use Rattle.norm_record.specs.Offered.{offered, TakesOffered}
use Rattle.norm_record.specs.Once.{UpsKept}

-- the offers, the takes that are no offer, the hand-ups, the rare events and the turns, each kept once
pub record Stores : Type 0 where
  pub offers : List (List ℕ)
  pub apart : List (List ℕ)
  pub ups : List HandUp
  pub rares : List Rare
  pub turns : List Turn

-- these stores
abbrev pub kept_in : List (List ℕ) → List (List ℕ) → List HandUp → List Rare → List Turn → Stores
kept_in offers apart ups rares turns = record { offers = offers; apart = apart; ups = ups; rares = rares; turns = turns }

-- an event that is kept whole
abbrev pub rare_event : Rare → Event
rare_event rare.Start = event.Start
rare_event (rare.Pull by) = event.Pull by
rare_event (rare.Job by job gave) = event.Job by job gave
rare_event (rare.Length by name len fault) = event.Length by name len fault
rare_event (rare.News news) = event.News news
rare_event rare.End = event.End

-- a node's hand-up
abbrev pub up_event : ℕ → HandUp → Event
up_event node h = event.Up node h.instance h.up

-- the beginning of a turn
abbrev pub turn_event : Turn → Event
turn_event turn = event.Turn turn.t turn.now

-- some turn
abbrev pub no_turn : Turn
no_turn = record { t = 0; now = 0 }

-- some hand-up
abbrev pub no_hand_up : HandUp
no_hand_up = record { instance = 0; up = up.Lost 0 }

-- the event of an entry; what stands at a place that is not there is never asked for
abbrev pub event_of : Stores → Entry → Event
event_of s (entry.Turn at) = turn_event (slice_index_or s.turns at no_turn)
event_of s (entry.Tick node sent) = event.Tick node sent
event_of s (entry.Offer from at) = event.Offer from (slice_index_or s.offers at [])
event_of s (entry.Took to at) = event.Took to (slice_index_or s.offers at [])
event_of s (entry.Apart to at) = event.Took to (slice_index_or s.apart at [])
event_of s entry.Empty = event.Empty
event_of s (entry.Up node at) = up_event node (slice_index_or s.ups at no_hand_up)
event_of s (entry.Rare at) = rare_event (slice_index_or s.rares at rare.Start)

-- the events of entries
abbrev pub events_of : Stores → List Entry → List Event
events_of s entries = map (event_of s) entries

-- an entry's place is there
abbrev pub IsThere : Stores → Entry → Type 0
IsThere s (entry.Turn at) = at < length s.turns
IsThere s (entry.Tick node sent) = ⊤
IsThere s (entry.Offer from at) = at < length s.offers
IsThere s (entry.Took to at) = at < length s.offers
IsThere s (entry.Apart to at) = at < length s.apart
IsThere s entry.Empty = ⊤
IsThere s (entry.Up node at) = at < length s.ups
IsThere s (entry.Rare at) = at < length s.rares

-- each entry's place is there, the offers are those of the events, nothing is kept apart where each take is of an offer, and the
-- hand-ups are those of the events
pub record IsKept (s : Stores) (entries : List Entry) : Type 0 where
  pub there : All (IsThere s) entries
  pub offers : s.offers ≡ offered (events_of s entries)
  pub apart : TakesOffered (events_of s entries) → s.apart ≡ []
  pub ups : UpsKept s.ups (events_of s entries)
