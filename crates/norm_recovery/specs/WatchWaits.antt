-- That a turn keeps of a phase of a tail that its flush is not too late, and that whoever is behind is waited for after it.
use Rattle.std.specs.Prelude.{◌≡◌, ◌+◌, ◌*◌, ◌≤◌, ℕ, List, Option, None, true}
use Rattle.norm_base.specs.Settings.{Settings}
use Rattle.norm_base.specs.declared.kinds.Mode.TheVariants.{Hold}
use Rattle.norm_send_rules.specs.Repairable.{streams}
use Rattle.norm_safety.specs.Events.{Event}
use Rattle.norm_safety.specs.Recovery.{IsOldest}
use Rattle.norm_safety.specs.WorldStep.{run}
use Rattle.norm_recovery.specs.RunsOut.{RunsOut}
use Rattle.norm_recovery.specs.TailLawful.{MayGoOn}
use Rattle.norm_recovery.specs.Timely.{WorldTimely}
use Rattle.norm_recovery.specs.Watch.{Phase, is_waiting, Watch}
use Rattle.norm_recovery.specs.WatchCleans.{LeavesNoLess}
use Rattle.norm_recovery.specs.WatchKeeps.{Follows, turn_after, goes_to}
use Rattle.norm_safety.specs.World.{World}

-- A turn of a tail follows a run of which this is the oldest open watermark: the run may go on, the mode is `hold`, no stream is in the window, and turns
-- do not stand still, and are no further apart than datagrams.
pub record InTail (p : Settings) (events : List Event) (last mark : ℕ) : Type 0 where
  pub follows : Follows p events last
  pub may : MayGoOn p events
  pub holds : p.mode ≡ Hold
  pub streams : streams (run p events).sender ≡ 0
  pub oldest : IsOldest (run p events).sender mark
  pub goes_on : 1 ≤ p.step
  pub often : p.step ≤ p.gap

-- At the end of a turn that began the phase nothing of it was waited for yet.
pub record Begins (p : Settings) (ph : Phase) (now : ℕ) (w : World) : Type 0 where
  pub goes_on : 1 ≤ p.step
  pub often : p.step ≤ p.gap
  pub twice : 2 * (p.gap + p.step) ≤ p.grtt
  pub first : ph.first ≡ None
  pub since : (ph.began ≤ ph.since) × (ph.since ≤ now)
  pub soon : now ≤ ph.began + p.step
  pub timely : WorldTimely p now w
  pub runs_out : RunsOut p (ph.since + p.grtt) now w.sender

-- The phase goes on as the turn leaves it, with some first flush or none.
pub record WaitsOn (p : Settings) (ph : Phase) (now : ℕ) (w : World) : Type 0 where
  pub first : Option ℕ
  pub waits : is_waiting p (record ph { first = first }) now w ≡ true

pub record WatchWaits : Type 0 where
  -- the turn in which a phase begins comes in time
  pub begins : (p : Settings) (ph : Phase) (now : ℕ) (w : World) → Begins p ph now w → is_waiting p ph now w ≡ true
  -- And so does each turn after it, whatever the draws, if its closing leaves no less, the watermark is the oldest open one still, and enough flushes were
  -- left as the phase began.
  pub keeps : (p : Settings) (events : List Event) (last mark : ℕ) (draws : ℕ → ℕ) → InTail p events last mark
      → LeavesNoLess p (last + p.step) (run p events) → IsOldest (turn_after p draws events last).world.sender mark
      → (ph : Phase) → ph.counted + 2 * p.k ≤ 15 → Watch p ph last (run p events)
      → WaitsOn p (goes_to ph (turn_after p draws events last)) (last + p.step) (turn_after p draws events last).world
