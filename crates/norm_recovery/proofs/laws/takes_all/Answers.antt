use Rattle.norm_recovery.proofs.DirectTakes.{takes_all}
use Rattle.norm_recovery.proofs.laws.takes_all.Goals as goal

pub returns : goal.returns
returns c = takes_all
