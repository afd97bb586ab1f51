-- What a turn of a tail comes to: its watermark is satisfied, or the phase lasts, or the next one begins with less left.
use Rattle.std.specs.Prelude.{◌≡◌, ◌+◌, ◌*◌, ◌<◌, ◌≤◌, ℕ, List, Option, None, true}
use Rattle.norm_base.specs.Settings.{Settings}
use Rattle.norm_safety.specs.Events.{Event}
use Rattle.norm_safety.specs.Recovery.{IsOldest, is_satisfied_mark}
use Rattle.norm_safety.specs.World.{World}
use Rattle.norm_safety.specs.WorldStep.{run}
use Rattle.norm_recovery.specs.Left.{left}
use Rattle.norm_recovery.specs.Watch.{Phase, Watch}
use Rattle.norm_recovery.specs.WatchKeeps.{turn_after}
use Rattle.norm_recovery.specs.WatchWaits.{InTail}

-- a phase begins with a closing that leaves less: that set the count of flushes to 0
abbrev pub phase_from : ℕ → Phase
phase_from now = record { counted = 0; began = now; since = now; first = None }

-- from a world before a turn at a moment to the one after it, in a phase
pub data ComesTo (p : Settings) (mark : ℕ) (ph : Phase) (now : ℕ) (before after : World) : Type 0 where
  Satisfied : is_satisfied_mark after mark ≡ true → ComesTo p mark ph now before after
  Lasts : IsOldest after.sender mark → left p after ≤ left p before → (since : ℕ) (first : Option ℕ)
      → Watch p (record ph { since = since; first = first }) now after → ComesTo p mark ph now before after
  Begins : IsOldest after.sender mark → left p after < left p before → Watch p (phase_from now) now after → ComesTo p mark ph now before after

-- So it is of each turn of a tail, whatever the draws, if enough flushes were left as the phase began.
abbrev pub WatchGoesOn : Type 0
WatchGoesOn = (p : Settings) (events : List Event) (last mark : ℕ) (draws : ℕ → ℕ) → InTail p events last mark → (ph : Phase) → ph.counted + 2 * p.k ≤ 15
    → Watch p ph last (run p events) → ComesTo p mark ph (last + p.step) (run p events) (turn_after p draws events last).world
