use Rattle.norm_recovery.proofs.FlushReaches.{flush_reaches as proved}
use Rattle.norm_recovery.proofs.laws.flush_reaches.Goals as goal

pub returns : goal.returns
returns c = proved
