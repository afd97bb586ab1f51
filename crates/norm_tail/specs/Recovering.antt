-- What a tail leaves of a run that bounded recovery speaks of.
use Rattle.std.specs.Prelude.{◌≡◌, ◌++◌, ℕ, List, true}
use Rattle.rand_pcg.specs.Lcg.{Lcg}
use Rattle.norm_base.specs.Settings.{Settings}
use Rattle.norm_safety.specs.Events.{Event}
use Rattle.norm_safety.specs.InTime.{FewObjects}
use Rattle.norm_safety.specs.Recovery.{MayRecover, is_satisfied_mark}
use Rattle.norm_safety.specs.Tail.{events_of}
use Rattle.norm_safety.specs.WorldStep.{run}
use Rattle.norm_recovery.specs.TailLawful.{MayGoOn}
use Rattle.norm_tail.specs.Ending.{tail_in}
use Rattle.norm_world.specs.WorldKept.{WorldKept, StandsFor}

-- a run with the events of its tail
abbrev pub with_tail : Settings → Lcg → ℕ → List Event → ℕ → List Event
with_tail p g last events mark = events ++ events_of (tail_in p g last (run p events) mark).course

-- After the tail the nodes stand for that run. It is lawful and may go on, and its watermark is satisfied.
pub record TailRecovered (p : Settings) (g : Lcg) (last : ℕ) (events : List Event) (mark : ℕ) (new : WorldKept) : Type 0 where
  pub stands : StandsFor new (run p (with_tail p g last events mark))
  pub again : MayGoOn p (with_tail p g last events mark)
  pub satisfied : is_satisfied_mark (run p (with_tail p g last events mark)) mark ≡ true

-- So it is of each run that was stood for and that `MayRecover` describes, if no instance has more than 32,768 objects.
abbrev pub RecoversRuns : Settings → Lcg → ℕ → (old new : WorldKept) → Type 0
RecoversRuns p g last old new = (events : List Event) (mark : ℕ) → StandsFor old (run p events) → MayRecover p events last mark → FewObjects (run p events).sender
    → TailRecovered p g last events mark new
