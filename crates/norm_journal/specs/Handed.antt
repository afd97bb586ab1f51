-- The hand-ups that a journal says are those of its nodes' world.
use Rattle.std.specs.Prelude.{ℕ, ◌≡◌, ◌==◌, ◌&&◌, List, [], ◌∷◌, flat_map, true, false, Some}
use Rattle.norm_order.specs.declared.up.Up.{Up}
use Rattle.norm_script.specs.Commands.{Commands}
use Rattle.norm_safety.specs.Hands.{hands}
use Rattle.norm_safety.specs.History.{history}
use Rattle.norm_journal.specs.declared.event.Event.{Event}
use Rattle.norm_journal.specs.declared.event.Event.TheVariants as event
use Rattle.norm_journal.specs.Jobs.{Told}
use Rattle.norm_journal.specs.Judged.{Judged, judged_opening}
use Rattle.norm_journal.specs.SessionRun.{judged}
use Rattle.norm_journal.specs.WorldEvents.{world_events}

-- what an event hands up of a node in an instance
abbrev pub up_in : ℕ → ℕ → Event → List Up
up_in node id (event.Up other instance up) = elim (other == node && instance == id) [ true ↦ up ∷ [] | false ↦ [] ]
up_in node id _ = []

-- what a journal says that was handed up to a node in an instance, in order
abbrev pub ups_in : List Event → ℕ → ℕ → List Up
ups_in events node id = flat_map (up_in node id) events

-- What the journal of a session says that was handed up to a node in an instance is what was handed up to it there in the nodes' world.
abbrev pub SaysTheHands : Type 0
SaysTheHands = (script : Commands) (files : Told) (nodes : List ℕ) (events : List Event) (last : Judged) → judged script files nodes events ≡ Some last
    → (node id : ℕ) → ups_in events node id ≡ hands (history script.profile (world_events (judged_opening script files nodes) events)).happened node id
