use Rattle.norm_ext.proofs.LawsHold.{spelled_is_read_law}
use Rattle.norm_ext.proofs.laws.spelled_is_read.Goals as goal

pub returns : goal.returns
returns c = spelled_is_read_law
