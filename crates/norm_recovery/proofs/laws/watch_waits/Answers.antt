use Rattle.norm_recovery.proofs.WaitsTurn.{watch_waits as proved}
use Rattle.norm_recovery.proofs.laws.watch_waits.Goals as goal

pub returns : goal.returns
returns c = proved
