-- What receivers did in each turn of a phase of a tail.
use Rattle.std.specs.Prelude.{◌≡◌, ◌+◌, ◌*◌, ◌≤◌, ◌||◌, ℕ, List, nat_lt, true}
use Rattle.std.specs.List.{list_all}
use Rattle.norm_base.specs.Settings.{Settings}
use Rattle.norm_safety.specs.Events.{Event}
use Rattle.norm_safety.specs.WorldStep.{run}
use Rattle.norm_recovery.specs.TailLawful.{MayGoOn}
use Rattle.norm_recovery.specs.Watch.{Phase, owes_nothing, has_waited, has_ticked, Watch}
use Rattle.norm_recovery.specs.WatchKeeps.{Follows, turn_after}

-- Of a turn after a run that may go on, whatever the draws, if turns do not stand still:
pub record WatchTicks : Type 0 where
  pub acked : (p : Settings) (events : List Event) (last : ℕ) (draws : ℕ → ℕ) → Follows p events last → MayGoOn p events → 1 ≤ p.step
      → list_all owes_nothing (turn_after p draws events last).world.receivers ≡ true
  pub waited : (p : Settings) (events : List Event) (last : ℕ) (draws : ℕ → ℕ) → Follows p events last → MayGoOn p events → 1 ≤ p.step → (ph : Phase)
      → Watch p ph last (run p events)
      → (nat_lt (last + p.step) (ph.began + 2 * p.step)
      || list_all (has_waited (last + p.step) (turn_after p draws events last).world.sender) (turn_after p draws events last).world.receivers) ≡ true
  pub ticked : (p : Settings) (events : List Event) (last : ℕ) (draws : ℕ → ℕ) → Follows p events last → MayGoOn p events → 1 ≤ p.step → (ph : Phase)
      → Watch p ph last (run p events)
      → (nat_lt (last + p.step) (ph.began + 3 * p.step)
      || list_all (has_ticked p (last + p.step) (turn_after p draws events last).world.sender) (turn_after p draws events last).world.receivers) ≡ true
