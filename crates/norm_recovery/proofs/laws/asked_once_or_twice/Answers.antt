use Rattle.norm_recovery.proofs.AskedLaw.{asked_once_or_twice}
use Rattle.norm_recovery.proofs.laws.asked_once_or_twice.Goals as goal

pub returns : goal.returns
returns c = asked_once_or_twice
