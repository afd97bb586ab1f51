use Rattle.norm_recovery.proofs.KeepsTail.{tail_keeps}
use Rattle.norm_recovery.proofs.laws.tail_keeps.Goals as goal

pub returns : goal.returns
returns c = tail_keeps
