use Rattle.norm_recovery.proofs.BackOffTurn.{back_off_ends as proved}
use Rattle.norm_recovery.proofs.laws.back_off_ends.Goals as goal

pub returns : goal.returns
returns c = proved
