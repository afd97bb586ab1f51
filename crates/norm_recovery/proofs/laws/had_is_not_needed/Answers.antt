use Rattle.norm_recovery.proofs.SteadyNeeds.{had_is_not_needed}
use Rattle.norm_recovery.proofs.laws.had_is_not_needed.Goals as goal

pub returns : goal.returns
returns c = had_is_not_needed
