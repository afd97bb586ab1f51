-- With any tail of it a lawful run of few objects is lawful. So every law of lawful runs holds of a tail, and of tail after tail.
use Rattle.std.specs.Prelude.{◌≡◌, ◌++◌, List}
use Rattle.norm_base.specs.Settings.{Settings, InRange}
use Rattle.norm_safety.specs.Events.{Event}
use Rattle.norm_safety.specs.InTime.{FewObjects}
use Rattle.norm_safety.specs.Jobs.{AreEvents}
use Rattle.norm_safety.specs.Lawful.{Lawful}
use Rattle.norm_safety.specs.Tail.{Course, events_of}
use Rattle.norm_safety.specs.WorldStep.{run}
use Rattle.norm_recovery.specs.TailOf.{IsTail}

-- A run that may go on: it is lawful, its commands are such as a program can make, and no instance has more than 32,768 objects.
pub record MayGoOn (p : Settings) (events : List Event) : Type 0 where
  pub lawful : Lawful p events
  pub jobs : AreEvents events
  pub few : FewObjects (run p events).sender

-- A course goes on from a run: with its events the run leads to its world, and may go on again.
pub record GoesOn (p : Settings) (events : List Event) (c : Course) : Type 0 where
  pub leads : run p (events ++ events_of c) ≡ c.world
  pub again : MayGoOn p (events ++ events_of c)

-- Each tail of a run that may go on goes on from it. Mode, pace, draws and moments do not matter, and streams may be there.
abbrev pub TailIsLawful : Type 0
TailIsLawful = (p : Settings) → InRange p → (events : List Event) → MayGoOn p events → (c : Course) → IsTail p (run p events) c → GoesOn p events c
