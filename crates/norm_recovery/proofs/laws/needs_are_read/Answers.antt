use Rattle.norm_recovery.proofs.NeedsRead.{needs_are_read as proved}
use Rattle.norm_recovery.proofs.laws.needs_are_read.Goals as goal

pub returns : goal.returns
returns c = proved
