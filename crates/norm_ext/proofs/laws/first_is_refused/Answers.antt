use Rattle.norm_ext.proofs.FirstRefusal.{first_is_refused_law}
use Rattle.norm_ext.proofs.laws.first_is_refused.Goals as goal

pub returns : goal.returns
returns c = first_is_refused_law
