use Rattle.norm_recovery.proofs.WatchFlushes.{watch_keeps as proved}
use Rattle.norm_recovery.proofs.laws.watch_keeps.Goals as goal

pub returns : goal.returns
returns c = proved
