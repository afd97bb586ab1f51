-- What is promised of tails.
use Rattle.std.specs.Prelude.{ℕ, ◌≡◌, ◌+◌, ◌*◌, ◌≤◌, ◌↔◌, Option, None}
use Rattle.norm_base.specs.Settings.{Settings}
use Rattle.norm_base.specs.declared.kinds.Mode.TheVariants.{Hold}
use Rattle.norm_ext.specs.Written.{Written}
use Rattle.norm_safety.specs.Events.{Ticked, Sent}
use Rattle.norm_safety.specs.History.{happens}
use Rattle.norm_send_rules.specs.Repairable.{streams}
use Rattle.norm_send_rules.specs.SenderState.{SenderState}
use Rattle.norm_safety.specs.Recovery.{IsOldest, IsPaced}
use Rattle.norm_safety.specs.Tail.{Course, course_from, events_of, given_by, tail_turns, tail_bound, tail_of, tail_fault}
use Rattle.norm_safety.specs.World.{World}
use Rattle.norm_safety.specs.WorldStep.{world_step, run_from}

-- A course is a run from a world: its events lead to its world, and that is what happened.
pub record IsCourse (p : Settings) (w : World) (c : Course) : Type 0 where
  pub world : run_from p w (events_of c) ≡ c.world
  pub happened : happens p w (events_of c) ≡ c.happened

-- What bounded recovery presupposes of a profile and a sender, beside the run that led there.
pub record IsAccepted (p : Settings) (s : SenderState) : Type 0 where
  pub mark : ℕ
  pub oldest : IsOldest s mark
  pub holds : p.mode ≡ Hold
  pub streams : streams s ≡ 0
  pub paced : IsPaced p s

-- A tail is a run from its world, and so are any turns. It has no more turns than its bound, and they are a step apart. What a tick answers
-- is what the node gave. No tail is refused exactly where profile and sender are as bounded recovery presupposes.
pub record TailLaws : Type 0 where
  pub tail : (p : Settings) (draws : ℕ → ℕ) (last : ℕ) (w : World) (mark : ℕ) → IsCourse p w (tail_of p draws last w mark).course
  pub turns : (n : ℕ) (p : Settings) (draws : ℕ → ℕ) (last : ℕ) (w : World) → IsCourse p w (tail_turns n p draws last (course_from w))
  pub within : (p : Settings) (draws : ℕ → ℕ) (last : ℕ) (w : World) (mark : ℕ) → (tail_of p draws last w mark).turns ≤ tail_bound p w.sender
  pub apart : (p : Settings) (draws : ℕ → ℕ) (last : ℕ) (w : World) (mark : ℕ)
      → (tail_of p draws last w mark).last ≡ last + (tail_of p draws last w mark).turns * p.step
  pub given : (p : Settings) (w : World) (node now : ℕ) (datagram : Option Written) → (world_step p w (Ticked node now)).1 ≡ Sent datagram
      → given_by (world_step p w (Ticked node now)).0 node ≡ datagram
  pub accepted : (p : Settings) (s : SenderState) → tail_fault p s ≡ None ↔ IsAccepted p s
