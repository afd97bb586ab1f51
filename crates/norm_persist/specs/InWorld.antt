-- What the journal of a run that persists is in the nodes' world.
use Rattle.std.specs.Prelude.{List, [], ◌∷◌, ◌++◌, None, Some}
use Rattle.std.specs.Option.{option_to_list}
use Rattle.norm_safety.specs.Events.{Event as WorldEvent}
use Rattle.norm_journal.specs.declared.event.Event.{Event}
use Rattle.norm_journal.specs.WorldEvents.{world_event}
use Rattle.norm_persist.specs.Accepting.{accepts_persisting}
use Rattle.norm_persist.specs.Persisted.{Persisted}

-- the world's events of a journal from a state on
unfoldable pub world_events_persisting : Persisted → List Event → List WorldEvent
world_events_persisting x [] = []
world_events_persisting x (e ∷ events) =
    option_to_list (world_event x.judged e) ++ elim (accepts_persisting x e) [ Some next ↦ world_events_persisting next events | None ↦ [] ]
