use Rattle.norm_recovery.proofs.WaitsTurn.{watch_waits}
use Rattle.norm_recovery.proofs.WatchedTail.{watched_recover as proved}
use Rattle.norm_recovery.proofs.laws.bounded_recovery.Goals as goal

pub returns : goal.returns
returns c = proved watch_waits
