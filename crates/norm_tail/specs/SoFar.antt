-- A tail so far: a course of the rules, and the nodes, steps and generator that stand for it.
use Rattle.std.specs.Prelude.{◌≡◌, ◌==◌, ℕ, not, List, map, ◌++◌, true, false}
use Rattle.std.specs.Option.{option_map}
use Rattle.rand_pcg.specs.Lcg.{Lcg}
use Rattle.norm_base.specs.Datagrams.{datagram_of}
use Rattle.norm_base.specs.Settings.{Settings}
use Rattle.norm_base.specs.declared.kinds.Sent.{Sent}
use Rattle.norm_ext.specs.Written.{Written}
use Rattle.norm_safety.specs.Events.{Event}
use Rattle.norm_safety.specs.History.{Happening}
use Rattle.norm_safety.specs.Tail.{Course, events_of, copy_comes, given_by}
use Rattle.norm_safety.specs.World.{World}
use Rattle.norm_safety.specs.WorldStep.{run_from}
use Rattle.norm_tail.specs.Steps.{steps_of, generator_after}
use Rattle.norm_tail.specs.declared.step.TailStep.{TailStep}
use Rattle.norm_world.specs.WorldKept.{WorldKept, StandsFor}

-- what a tail is over: the profile, the world that it began in, and the generator of its draws
pub record Context : Type 0 where
  pub p : Settings
  pub world : World
  pub draws : Lcg

-- A tail came to a course: its events lead there from the first world, and the nodes stand for its world; the steps are what its events
-- handed up and told; and the generator is the one after the draws that it used.
pub record At (x : Context) (c : Course) (k : WorldKept) (steps : List TailStep) (g : Lcg) : Type 0 where
  pub profile : k.p ≡ x.p
  pub led : run_from x.p x.world (events_of c) ≡ c.world
  pub stands : StandsFor k c.world
  pub answered : steps ≡ steps_of c.happened
  pub drawn : g ≡ generator_after x.draws c.used

-- the event of what happened
abbrev pub event_of : Happening → Event
event_of h = h.event

-- A tail stopped on its way to a course: the nodes stand for the world after the first of its events.
pub record Stopped (x : Context) (c : Course) (k : WorldKept) : Type 0 where
  pub past : List Happening
  pub left : List Happening
  pub all : past ++ left ≡ c.happened
  pub stands : StandsFor k (run_from x.p x.world (map event_of past))

-- from wherever a tail was, a call led it on
abbrev pub Goes : (Context → Course → Course) → (old new : WorldKept) → (before after : List TailStep) → (g h : Lcg) → Type 0
Goes on old new before after g h = (x : Context) (c : Course) → At x c old before g → At x (on x c) new after h

-- or it stopped on the way there
abbrev pub Stops : (Context → Course → Course) → (old new : WorldKept) → List TailStep → Lcg → Type 0
Stops on old new before g = (x : Context) (c : Course) → At x c old before g → Stopped x (on x c) new

-- a node's last tick gave this datagram, or none, and it was not offered yet
abbrev pub HasGiven : World → ℕ → Sent → List ℕ → Type 0
HasGiven w node said octets = datagram_of said octets ≡ option_map (λ (d : Written). d.octets) (given_by w node)

-- a tail came to a course in which a node has ticked
pub record AtSent (x : Context) (c : Course) (node : ℕ) (said : Sent) (octets : List ℕ) (k : WorldKept) (steps : List TailStep) (g : Lcg) : Type 0 where
  pub here : At x c k steps g
  pub given : HasGiven c.world node said octets

-- a copy comes to a member, if that is not the node whose datagram it is
abbrev pub copy_unless : Settings → (ℕ → ℕ) → ℕ → List ℕ → ℕ → Course → ℕ → Course
copy_unless p draws now octets from c node = elim (not (node == from)) [ true ↦ copy_comes p draws now octets c node | false ↦ c ]
