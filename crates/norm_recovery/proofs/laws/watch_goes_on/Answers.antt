use Rattle.norm_recovery.proofs.WaitsTurn.{watch_waits}
use Rattle.norm_recovery.proofs.WatchNext.{watch_goes_on as proved}
use Rattle.norm_recovery.proofs.laws.watch_goes_on.Goals as goal

pub returns : goal.returns
returns c = proved watch_waits
