use Rattle.norm_recovery.proofs.WatchTicked.{watch_ticks as proved}
use Rattle.norm_recovery.proofs.laws.watch_ticks.Goals as goal

pub returns : goal.returns
returns c = proved
