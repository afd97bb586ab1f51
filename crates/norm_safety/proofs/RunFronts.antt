-- The fronts of a lawful run: each is lawful, and so safe.
use Rattle.std.specs.Prelude.{List, [], ◌∷◌, ◌++◌}
use Rattle.norm_base.specs.Settings.{Settings, InRange}
use Rattle.norm_base.specs.declared.node.Origin.{Origin}
use Rattle.norm_safety.specs.Events.{Event}
use Rattle.norm_safety.specs.Jobs.{AreEvents}
use Rattle.norm_safety.specs.Lawful.{accepted_with, LawfulFrom, Lawful}
use Rattle.norm_safety.specs.Laws.{FrontLaws}
use Rattle.norm_safety.specs.Safe.{Safe}
use Rattle.norm_safety.specs.World.{World, world_opening}
use Rattle.norm_safety.specs.WorldStep.{world_step}
use Rattle.norm_safety.proofs.SafeRun.{safe_run}

lawful_from_front : (p : Settings) (w : World) (accepted : List Origin) (front rest : List Event) → LawfulFrom p w accepted (front ++ rest)
    → LawfulFrom p w accepted front
lawful_from_front p w accepted [] rest lawful = tt
lawful_from_front p w accepted (e ∷ front) rest lawful =
    let step = world_step p w e in (lawful.0, lawful_from_front p step.0 (accepted_with accepted e step.1) front rest lawful.1)

lawful_front : (p : Settings) (front rest : List Event) → Lawful p (front ++ rest) → Lawful p front
lawful_front p front rest lawful = lawful_from_front p (world_opening p) [] front rest lawful

events_front : (front rest : List Event) → AreEvents (front ++ rest) → AreEvents front
events_front [] rest are = tt
events_front (e ∷ front) rest are = (are.0, events_front front rest are.1)

safe_front : (p : Settings) → InRange p → (front rest : List Event) → Lawful p (front ++ rest) → AreEvents (front ++ rest) → Safe p front
safe_front p range front rest lawful are = safe_run.safe p range front (lawful_front p front rest lawful) (events_front front rest are)

pub front_laws : FrontLaws
front_laws = record { lawful = lawful_front; events = events_front; safe = safe_front }
