-- A tail that was made recovers each run of which that may be said.
use Rattle.std.proofs.Common.{ℕ, List, sym, ap, ◌∙◌, subst}
use Rattle.rand_pcg.specs.Lcg.{Lcg}
use Rattle.norm_base.specs.Settings.{Settings}
use Rattle.norm_safety.specs.Recovery.{is_satisfied_mark}
use Rattle.norm_safety.specs.World.{World}
use Rattle.norm_recovery.specs.TailRecovers.{HasRecovered}
use Rattle.norm_recovery.proofs.UntilDone.{tail_recovers}
use Rattle.norm_tail.specs.Ending.{MakesTail}
use Rattle.norm_tail.specs.Recovering.{RecoversRuns}
use Rattle.norm_tail.specs.Steps.{words_of}
use Rattle.norm_tail.specs.declared.step.TailStep.{TailStep}
use Rattle.norm_world.specs.WorldKept.{WorldKept, StandsFor}

pub made_recovers : (p : Settings) (g h : Lcg) (last : ℕ) (old new : WorldKept) (turns bound : ℕ) (steps : List TailStep)
    → MakesTail p g h last old new turns bound steps → RecoversRuns p g last old new
made_recovers p g h last old new turns bound steps made events mark st may few = record {
  stands = subst (StandsFor new) (sym r.goes_on.leads) (made _ mark st may.oldest).world;
  again = r.goes_on.again;
  satisfied = ap (λ (w : World). is_satisfied_mark w mark) r.goes_on.leads ∙ r.satisfied;
}
  where
    r : HasRecovered p events last mark (words_of g)
    r = tail_recovers p events last mark (words_of g) may few
