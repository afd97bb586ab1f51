use Rattle.norm_recovery.proofs.HadNothing.{had_brings_nothing as proved}
use Rattle.norm_recovery.proofs.laws.had_brings_nothing.Goals as goal

pub returns : goal.returns
returns c = proved
