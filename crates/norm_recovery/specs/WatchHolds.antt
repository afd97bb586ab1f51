-- What a turn keeps of a phase of a tail, if its closing leaves no less: whoever is held off for long is asked for.
use Rattle.std.specs.Prelude.{◌≡◌, ◌+◌, ◌*◌, ◌≤◌, ◌||◌, ℕ, List, nat_le, true}
use Rattle.norm_base.specs.Settings.{Settings}
use Rattle.norm_base.specs.declared.kinds.Mode.TheVariants.{Hold}
use Rattle.norm_send_rules.specs.Repairable.{streams}
use Rattle.norm_safety.specs.Events.{Event}
use Rattle.norm_safety.specs.WorldStep.{run}
use Rattle.norm_recovery.specs.TailLawful.{MayGoOn}
use Rattle.norm_recovery.specs.Watch.{Phase, each_member, is_asked, most_held, Watch}
use Rattle.norm_recovery.specs.WatchCleans.{LeavesNoLess}
use Rattle.norm_recovery.specs.WatchKeeps.{Follows, turn_after}

-- In `hold` mode, with no stream in the window, of a turn after a run that may go on, whatever the draws, at the pace of a tail, if enough flushes were left
-- as the phase began, and the turn's closing leaves no less.
abbrev pub WatchHolds : Type 0
WatchHolds = (p : Settings) (events : List Event) (last : ℕ) (draws : ℕ → ℕ) → Follows p events last → MayGoOn p events → p.mode ≡ Hold
    → streams (run p events).sender ≡ 0 → 1 ≤ p.step → p.step ≤ p.gap → LeavesNoLess p (last + p.step) (run p events)
    → (ph : Phase) → ph.counted + 2 * p.k ≤ 15 → Watch p ph last (run p events)
    → each_member (λ r. nat_le r.knows.holdoff (most_held p ph) || is_asked p (turn_after p draws events last).world.sender r) (turn_after p draws events last).world
    ≡ true
