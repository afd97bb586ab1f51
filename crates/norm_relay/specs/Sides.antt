-- A session on one side of a relay: its world, and the events that led to it.
use Rattle.std.specs.Prelude.{List, [], ◌∷◌, ◌++◌}
use Rattle.norm_base.specs.Settings.{Settings}
use Rattle.norm_safety.specs.Events.{Event, Answer}
use Rattle.norm_safety.specs.World.{World, world_opening}
use Rattle.norm_safety.specs.WorldStep.{world_step}

-- a session's profile, its events, and its world after them
pub record Side : Type 0 where
  pub p : Settings
  pub events : List Event
  pub world : World

-- as a session begins
abbrev pub side_opening : Settings → Side
side_opening p = record { p = p; events = []; world = world_opening p }

-- the session after an event
abbrev pub with_event : Event → World → Side → Side
with_event event world s = record s { events = s.events ++ event ∷ []; world = world }

-- an event happens in a session, and is answered
abbrev pub happens_in : Side → Event → Side × Answer
happens_in s event = let step = world_step s.p s.world event in (with_event event step.0 s, step.1)
