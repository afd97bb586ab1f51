use Rattle.norm_recovery.proofs.WatchHeld.{watch_holds as proved}
use Rattle.norm_recovery.proofs.laws.watch_holds.Goals as goal

pub returns : goal.returns
returns c = proved
