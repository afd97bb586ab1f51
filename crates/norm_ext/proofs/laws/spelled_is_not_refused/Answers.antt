use Rattle.norm_ext.proofs.FirstRefusal.{spelled_is_not_refused_law}
use Rattle.norm_ext.proofs.laws.spelled_is_not_refused.Goals as goal

pub returns : goal.returns
returns c = spelled_is_not_refused_law
