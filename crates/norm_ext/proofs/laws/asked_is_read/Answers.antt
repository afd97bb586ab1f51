use Rattle.norm_ext.proofs.AskedAgain.{asked_is_read_law}
use Rattle.norm_ext.proofs.laws.asked_is_read.Goals as goal

pub returns : goal.returns
returns c = asked_is_read_law
