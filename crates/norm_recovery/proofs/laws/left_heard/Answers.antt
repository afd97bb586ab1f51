use Rattle.norm_recovery.proofs.LeftComes.{left_heard as proved}
use Rattle.norm_recovery.proofs.laws.left_heard.Goals as goal

pub returns : goal.returns
returns c = proved
