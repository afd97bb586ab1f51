use Rattle.norm_recovery.proofs.DirectHands.{direct_passes}
use Rattle.norm_recovery.proofs.laws.direct_passes.Goals as goal

pub returns : goal.returns
returns c = direct_passes
