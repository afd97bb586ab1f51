use Rattle.norm_recovery.proofs.CleanTurn.{clean_stays as proved}
use Rattle.norm_recovery.proofs.laws.clean_stays.Goals as goal

pub returns : goal.returns
returns c = proved
