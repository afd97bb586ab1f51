use Rattle.std.proofs.Common.{sym, subst, ℕ, List}
use Rattle.norm_base.specs.Settings.{Settings}
use Rattle.driven_nodes.specs.Gathered.{opening}
use Rattle.driven_nodes.specs.Hearing.{StandsFor}
use Rattle.driven_nodes.proofs.gather_run.GatherRun.begin.Goals as goal

pub invariant_of-result : goal.invariant_of-result
invariant_of-result c =
    subst (λ (list : List (Settings × ℕ)). StandsFor list c.in_ok-gathering.gathering (opening list)) c.deref.ensures.value c.in_ok-gathering.ensures.stands
