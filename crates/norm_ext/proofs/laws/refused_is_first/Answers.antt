use Rattle.norm_ext.proofs.FirstRefusal.{refused_is_first_law}
use Rattle.norm_ext.proofs.laws.refused_is_first.Goals as goal

pub returns : goal.returns
returns c = refused_is_first_law
