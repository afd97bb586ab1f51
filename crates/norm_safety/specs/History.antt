-- What happened in a run: each event between two worlds, and its answer.
use Rattle.std.specs.Prelude.{List, [], ◌∷◌}
use Rattle.norm_base.specs.Settings.{Settings}
use Rattle.norm_safety.specs.Events.{Event, Answer}
use Rattle.norm_safety.specs.World.{World, world_opening}
use Rattle.norm_safety.specs.WorldStep.{world_step}

-- an event with its answer, the world in which it came, and the one that it left
pub record Happening : Type 0 where
  pub before : World
  pub event : Event
  pub answer : Answer
  pub after : World

-- what happened, in order, and the world that came of it
pub record History : Type 0 where
  pub happened : List Happening
  pub now : World

-- what happens from a world on
unfoldable pub happens : Settings → World → List Event → List Happening
happens p w [] = []
happens p w (e ∷ events) =
    let step = world_step p w e in
    record { before = w; event = e; answer = step.1; after = step.0 } ∷ happens p step.0 events

-- the last of the worlds
unfoldable pub last_world : World → List Happening → World
last_world w [] = w
last_world w (h ∷ happened) = last_world h.after happened

-- the history of a run
abbrev pub history : Settings → List Event → History
history p events =
    let happened = happens p (world_opening p) events in
    record { happened = happened; now = last_world (world_opening p) happened }
