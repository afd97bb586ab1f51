use Rattle.norm_recovery.proofs.WatchClean.{watch_cleans as proved}
use Rattle.norm_recovery.proofs.laws.watch_cleans.Goals as goal

pub returns : goal.returns
returns c = proved
