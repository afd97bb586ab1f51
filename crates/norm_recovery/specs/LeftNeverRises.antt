-- Over a turn no more is left of the window.
use Rattle.std.specs.Prelude.{◌≡◌, ◌≤◌, ℕ, List}
use Rattle.norm_base.specs.Settings.{Settings, InRange}
use Rattle.norm_base.specs.declared.kinds.Mode.TheVariants.{Hold}
use Rattle.norm_send_rules.specs.Repairable.{streams}
use Rattle.norm_safety.specs.Events.{Event}
use Rattle.norm_safety.specs.Tail.{course_from, tail_turn}
use Rattle.norm_safety.specs.WorldStep.{run}
use Rattle.norm_recovery.specs.Left.{left}
use Rattle.norm_recovery.specs.TailLawful.{MayGoOn}

-- In `hold` mode, with no stream in the window, a turn after a run that may go on leaves no more than was left before it, whatever the draws.
abbrev pub LeftNeverRises : Type 0
LeftNeverRises = (p : Settings) → InRange p → p.mode ≡ Hold → (events : List Event) → MayGoOn p events → streams (run p events).sender ≡ 0
    → (draws : ℕ → ℕ) (now : ℕ) → left p (tail_turn p draws now (course_from (run p events))).world ≤ left p (run p events)
