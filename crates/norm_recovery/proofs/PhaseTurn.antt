-- What is presupposed of a turn of a phase that leaves no less.
use Rattle.std.specs.Prelude.{◌≡◌, ◌+◌, ◌*◌, ◌≤◌, ℕ, List}
use Rattle.norm_base.specs.Settings.{Settings}
use Rattle.norm_base.specs.declared.kinds.Mode.TheVariants.{Hold}
use Rattle.norm_send_rules.specs.Repairable.{streams}
use Rattle.norm_safety.specs.Events.{Event}
use Rattle.norm_safety.specs.WorldStep.{run}
use Rattle.norm_recovery.specs.TailLawful.{MayGoOn}
use Rattle.norm_recovery.specs.Watch.{Phase, Watch}
use Rattle.norm_recovery.specs.WatchCleans.{LeavesNoLess}
use Rattle.norm_recovery.specs.WatchKeeps.{Follows}

-- A turn of a phase follows a run that may go on: in `hold` mode, with no stream in the window, at this pace, with enough flushes left as the phase began;
-- and its closing leaves no less.
pub record InPhase (p : Settings) (events : List Event) (last : ℕ) (ph : Phase) : Type 0 where
  pub follows : Follows p events last
  pub may : MayGoOn p events
  pub holds : p.mode ≡ Hold
  pub none : streams (run p events).sender ≡ 0
  pub goes_on : 1 ≤ p.step
  pub often : p.step ≤ p.gap
  pub few : ph.counted + 2 * p.k ≤ 15
  pub no_less : LeavesNoLess p (last + p.step) (run p events)
  pub watch : Watch p ph last (run p events)
