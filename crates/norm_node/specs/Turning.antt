-- A turn of a receiver's run, and all its turns.
use Rattle.std.specs.Prelude.{ℕ, ◌≡◌, ◌+◌}
use Rattle.norm_turns.specs.declared.fault.SessionFault.{SessionFault}
use Rattle.norm_node.specs.Lone.{Place, Between}
use Rattle.norm_node.specs.Shown.{Outside}
use Rattle.norm_node.specs.RunKept.{RunKept, Begun, At}
use Rattle.norm_node.specs.Stopping.{Stopped}

-- A run is in the next turn, under the same profile.
pub record IsNextTurn (old new : RunKept) : Type 0 where
  pub turn : new.turn ≡ old.turn + 1
  pub profile : new.p ≡ old.p

-- A turn is made.
abbrev pub TakesTurn : (old new : RunKept) → (before after : Outside) → Type 0
TakesTurn old new before after = (x : Begun) → At x old Between before → At x new Between after

-- A fault stops a turn.
abbrev pub StopsTurn : RunKept → SessionFault → (before after : Outside) → Type 0
StopsTurn old failed before after = (x : Begun) → At x old Between before → Stopped x failed after

-- All turns are made, where none was.
abbrev pub TakesTurns : (old new : RunKept) → (before after : Outside) → Type 0
TakesTurns old new before after = (new.turn ≡ old.p.turns) × ((x : Begun) → At x old Between before → At x new Between after)

-- A fault stops one of them.
abbrev pub StopsTurns : RunKept → SessionFault → (before after : Outside) → Type 0
StopsTurns old failed before after = (x : Begun) → At x old Between before → Stopped x failed after
