-- In a steady session over a direct network each watermark is asked for once or twice, and is satisfied then (RFC 5740 section 5.5.3).
use Rattle.std.specs.Prelude.{◌≡◌, ◌≤◌, ◌⊎◌, List, None, Some}
use Rattle.std.specs.List.{AllByRecursion}
use Rattle.norm_send_rules.specs.SenderState.{SenderState, Watermark}
use Rattle.norm_send_rules.specs.declared.news.Outcome.TheVariants.{Satisfied}
use Rattle.norm_script.specs.Commands.{Commands}
use Rattle.norm_journal.specs.declared.event.Event.{Event}
use Rattle.norm_journal.specs.Jobs.{Told}
use Rattle.norm_journal.specs.Judged.{Judged}
use Rattle.norm_recovery.specs.Steady.{Steady}
use Rattle.norm_recovery.specs.SteadyPasses.{RunsDirectly}

-- a watermark is open or satisfied
abbrev pub IsOpenOrSatisfied : Watermark → Type 0
IsOpenOrSatisfied w = (w.ended ≡ Some Satisfied) ⊎ (w.ended ≡ None)

-- The oldest watermark was flushed twice at most, and no watermark ended without being satisfied.
pub record AskedOnceOrTwice (s : SenderState) : Type 0 where
  pub flushes : s.flushes ≤ 2
  pub ended : AllByRecursion IsOpenOrSatisfied s.watermarks

-- So it is at each moment of a steady session over a direct network.
abbrev pub IsAskedOnceOrTwice : Type 0
IsAskedOnceOrTwice = (script : Commands) (files : Told) (events : List Event) (last : Judged) → RunsDirectly script files events last
    → Steady script files events → AskedOnceOrTwice last.world.sender
