use Rattle.norm_safety.proofs.SatisfiedRun.{satisfied_run}
use Rattle.norm_safety.proofs.laws.satisfied_run.Goals as goal

-- src/laws.rt:45:1
pub returns : goal.returns
returns c = satisfied_run
