use Rattle.norm_recovery.proofs.LeftNever.{left_never_rises as proved}
use Rattle.norm_recovery.proofs.laws.left_never_rises.Goals as goal

pub returns : goal.returns
returns c = proved
