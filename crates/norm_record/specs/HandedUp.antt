-- What a journal says was handed up, in order, and what is kept of that.
use Rattle.std.specs.Prelude.{ℕ, ◌<◌, ◌≡◌, List, [], ◌∷◌, length, map, All, slice_index_or}
use Rattle.std.specs.List.{flat_map}
use Rattle.norm_order.specs.declared.up.Up.{Up}
use Rattle.norm_journal.specs.declared.event.Event.{Event}
use Rattle.norm_journal.specs.declared.event.Event.TheVariants as event
use Rattle.norm_record.specs.declared.entry.Hand.{Hand}
use Rattle.norm_record.specs.declared.ups.HandUp.{HandUp}
use Rattle.norm_record.specs.Events.{no_hand_up}

-- what an event hands up, behind its node
abbrev pub handed_by : Event → List (ℕ × Up)
handed_by (event.Up node instance up) = (node, up) ∷ []
handed_by _ = []

-- what all nodes handed up, in the order of the events
abbrev pub handed_up : List Event → List (ℕ × Up)
handed_up events = flat_map handed_by events

-- the hand-up of a node is among those that are kept
abbrev pub IsAmong : List HandUp → Hand → Type 0
IsAmong ups hand = hand.at < length ups

-- and is this one
abbrev pub hand_of : List HandUp → Hand → ℕ × Up
hand_of ups hand = (hand.node, (slice_index_or ups hand.at no_hand_up).up)

-- Kept is each hand-up of the events, in their order.
pub record HandsKept (ups : List HandUp) (hands : List Hand) (events : List Event) : Type 0 where
  pub there : All (IsAmong ups) hands
  pub are : map (hand_of ups) hands ≡ handed_up events
