use Rattle.norm_recovery.proofs.UntilDone.{tail_recovers as proved}
use Rattle.norm_recovery.proofs.laws.tail_recovers.Goals as goal

pub returns : goal.returns
returns c = proved
