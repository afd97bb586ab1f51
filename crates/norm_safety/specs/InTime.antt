-- Runs over honest networks, however late a datagram comes; and which of them are lawful.
use Rattle.std.specs.Prelude.{ℕ, ◌+◌, ◌≡◌, ◌≢◌, ◌≤◌, List, [], ◌∷◌, length, Contains, ⊤}
use Rattle.norm_base.specs.Settings.{Settings, InRange}
use Rattle.norm_base.specs.declared.node.Origin.{Origin}
use Rattle.norm_ext.specs.Written.{Written}
use Rattle.norm_send_rules.specs.SenderState.{SenderState}
use Rattle.norm_safety.specs.Events.{Event, Delivered}
use Rattle.norm_safety.specs.Jobs.{AreEvents}
use Rattle.norm_safety.specs.Lawful.{accepted_with, most_apart, MayCome, Lawful}
use Rattle.norm_safety.specs.OnceEach.{order_of}
use Rattle.norm_safety.specs.World.{World, world_opening}
use Rattle.norm_safety.specs.WorldStep.{world_step, run}

-- another node offered a datagram of these octets before
pub record WasOffered (w : World) (node : ℕ) (octets : List ℕ) : Type 0 where
  pub from : ℕ
  pub datagram : Written
  pub other : from ≢ node
  pub offered : Contains w.offered (from, datagram)
  pub same : datagram.octets ≡ octets

-- an event may come, a delivery however late
abbrev pub MayComeLate : Settings → World → List Origin → Event → Type 0
MayComeLate p w accepted (Delivered node datagram now draw) = WasOffered w node datagram
MayComeLate p w accepted event = MayCome p w accepted event

-- each event may come, deliveries however late
abbrev pub HonestFrom : Settings → World → List Origin → List Event → Type 0
HonestFrom p w accepted [] = ⊤
HonestFrom p w accepted (e ∷ events) =
    let step = world_step p w e in MayComeLate p w accepted e × HonestFrom p step.0 (accepted_with accepted e step.1) events

-- A run is honest where each of its events may come: the network gives only what was offered, however late.
abbrev pub Honest : Settings → List Event → Type 0
Honest p events = HonestFrom p (world_opening p) [] events

-- the origins of the commands that were accepted, these first
abbrev pub accepted_from : Settings → World → List Origin → List Event → List Origin
accepted_from p w accepted [] = accepted
accepted_from p w accepted (e ∷ events) =
    let step = world_step p w e in accepted_from p step.0 (accepted_with accepted e step.1) events

-- the origins of the commands that a run accepted
abbrev pub accepted_in : Settings → List Event → List Origin
accepted_in p events = accepted_from p (world_opening p) [] events

-- as many objects as have indices of which no two lie too far apart
abbrev pub most_objects : ℕ
most_objects = most_apart + 1

-- no instance has more objects than that
abbrev pub FewObjects : SenderState → Type 0
FewObjects s = (id : ℕ) → length (order_of s id) ≤ most_objects

-- Nothing comes too late in a run of few objects: an honest run in which no instance has more than 32,768 objects is
-- lawful. And an instance has no more objects than commands were accepted.
pub record TimeLaws : Type 0 where
  pub lawful : (p : Settings) → InRange p → (events : List Event) → Honest p events → AreEvents events
      → FewObjects (run p events).sender → Lawful p events
  pub few : (p : Settings) (events : List Event) → Honest p events → length (accepted_in p events) ≤ most_objects
      → FewObjects (run p events).sender
