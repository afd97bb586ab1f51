use Rattle.norm_recovery.proofs.NackAsks.{nack_asks as proved}
use Rattle.norm_recovery.proofs.laws.nack_asks.Goals as goal

pub returns : goal.returns
returns c = proved
