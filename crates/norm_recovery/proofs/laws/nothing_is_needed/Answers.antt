use Rattle.norm_recovery.proofs.SteadyNothing.{nothing_is_needed}
use Rattle.norm_recovery.proofs.laws.nothing_is_needed.Goals as goal

pub returns : goal.returns
returns c = nothing_is_needed
