-- What a turn keeps of a phase of a tail, if its closing leaves no less: nothing new is left, all is had that is wanted, and members are clean.
use Rattle.std.specs.Prelude.{◌≡◌, ◌+◌, ◌*◌, ◌||◌, ℕ, List, not, nat_lt, nat_le, true}
use Rattle.norm_base.specs.Settings.{Settings}
use Rattle.norm_send_rules.specs.Ticking.{closed_where_due}
use Rattle.norm_safety.specs.Events.{Event}
use Rattle.norm_safety.specs.World.{World}
use Rattle.norm_safety.specs.WorldStep.{run}
use Rattle.norm_recovery.specs.Clean.{is_clean_from}
use Rattle.norm_recovery.specs.Left.{left}
use Rattle.norm_recovery.specs.TailLawful.{MayGoOn}
use Rattle.norm_recovery.specs.Watch.{Phase, each_member, is_spent, Watch}
use Rattle.norm_recovery.specs.WatchKeeps.{Follows, turn_after, goes_to}

-- a closing that is due leaves no less
abbrev pub LeavesNoLess : Settings → ℕ → World → Type 0
LeavesNoLess p now w = left p (record w { sender = closed_where_due p now w.sender }) ≡ left p w

-- Of a turn after a run that may go on, whatever the draws, if its closing leaves no less:
pub record WatchCleans : Type 0 where
  pub spent : (p : Settings) (events : List Event) (last : ℕ) (draws : ℕ → ℕ) → Follows p events last → MayGoOn p events
      → LeavesNoLess p (last + p.step) (run p events) → (ph : Phase) → Watch p ph last (run p events)
      → (not (nat_lt (ph.began + p.grtt) (goes_to ph (turn_after p draws events last)).since || nat_le (ph.began + 2 * p.grtt) (last + p.step))
      || is_spent p (turn_after p draws events last).world) ≡ true
  pub clean : (p : Settings) (events : List Event) (last : ℕ) (draws : ℕ → ℕ) → Follows p events last → MayGoOn p events
      → LeavesNoLess p (last + p.step) (run p events) → (ph : Phase) → Watch p ph last (run p events)
      → each_member (is_clean_from (ph.began + (p.k + 2) * p.grtt + 1) p (turn_after p draws events last).world.sender) (turn_after p draws events last).world ≡ true
