-- A whole tail satisfies its watermark (RFC 5740 section 5): turns until it is done, of which the last one may be cut.
use Rattle.std.specs.Prelude.{◌≡◌, ℕ, List, true}
use Rattle.norm_base.specs.Settings.{Settings}
use Rattle.norm_safety.specs.Events.{Event}
use Rattle.norm_safety.specs.InTime.{FewObjects}
use Rattle.norm_safety.specs.Recovery.{MayRecover, is_satisfied_mark}
use Rattle.norm_safety.specs.Tail.{Tail, tail_of}
use Rattle.norm_safety.specs.WorldStep.{run}
use Rattle.norm_recovery.specs.TailLawful.{GoesOn}

-- the tail of a run
abbrev pub tail_after : Settings → (ℕ → ℕ) → List Event → ℕ → ℕ → Tail
tail_after p draws events last mark = tail_of p draws last (run p events) mark

-- It leaves the watermark satisfied; and with its events the run is lawful, and may go on.
pub record HasRecovered (p : Settings) (events : List Event) (last mark : ℕ) (draws : ℕ → ℕ) : Type 0 where
  pub satisfied : is_satisfied_mark (tail_after p draws events last mark).course.world mark ≡ true
  pub goes_on : GoesOn p events (tail_after p draws events last mark).course

-- So it is of each tail that `MayRecover` describes, whatever the draws, if no instance has more than 32,768 objects.
abbrev pub TailRecovers : Type 0
TailRecovers = (p : Settings) (events : List Event) (last mark : ℕ) (draws : ℕ → ℕ) → MayRecover p events last mark → FewObjects (run p events).sender
    → HasRecovered p events last mark draws
