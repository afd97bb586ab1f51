use Rattle.norm_recovery.proofs.FlushNeeds.{flush_needs as proved}
use Rattle.norm_recovery.proofs.laws.flush_needs.Goals as goal

pub returns : goal.returns
returns c = proved
