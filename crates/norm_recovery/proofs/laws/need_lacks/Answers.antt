use Rattle.norm_recovery.proofs.NeedLacks.{need_lacks as proved}
use Rattle.norm_recovery.proofs.laws.need_lacks.Goals as goal

pub returns : goal.returns
returns c = proved
