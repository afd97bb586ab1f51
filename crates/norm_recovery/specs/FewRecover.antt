-- Bounded recovery of runs of few objects (RFC 5740 section 5): a tail satisfies its watermark.
use Rattle.std.specs.Prelude.{◌≡◌, ◌<◌, ◌≤◌, ℕ, List, true}
use Rattle.norm_base.specs.Settings.{Settings}
use Rattle.norm_safety.specs.Events.{Event}
use Rattle.norm_safety.specs.InTime.{FewObjects}
use Rattle.norm_safety.specs.Recovery.{MayRecover, is_satisfied_mark}
use Rattle.norm_safety.specs.Tail.{Course, course_from, tail_turns, tail_bound, is_open_mark}
use Rattle.norm_safety.specs.WorldStep.{run}

-- so many turns after a run
abbrev pub turns_after : Settings → (ℕ → ℕ) → List Event → ℕ → ℕ → Course
turns_after p draws events last n = tail_turns n p draws last (course_from (run p events))

-- After some number of turns that is within the bound the watermark is satisfied. Until then it is open: no tick expires it.
pub record Recovers (p : Settings) (events : List Event) (last mark : ℕ) (draws : ℕ → ℕ) : Type 0 where
  pub turns : ℕ
  pub within : turns ≤ tail_bound p (run p events).sender
  pub satisfied : is_satisfied_mark (turns_after p draws events last turns).world mark ≡ true
  pub open_before : (n : ℕ) → n < turns → is_open_mark (turns_after p draws events last n).world mark ≡ true

-- So it is of each tail that `MayRecover` describes, whatever the draws, if no instance has more than 32,768 objects.
abbrev pub FewRecover : Type 0
FewRecover = (p : Settings) (events : List Event) (last mark : ℕ) (draws : ℕ → ℕ) → MayRecover p events last mark → FewObjects (run p events).sender
    → Recovers p events last mark draws
