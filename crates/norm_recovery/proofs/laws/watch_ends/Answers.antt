use Rattle.norm_recovery.proofs.WatchEnds.{watch_ends as proved}
use Rattle.norm_recovery.proofs.laws.watch_ends.Goals as goal

pub returns : goal.returns
returns c = proved
