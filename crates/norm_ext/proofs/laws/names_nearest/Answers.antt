use Rattle.norm_ext.proofs.IdLemmas.{names_nearest_law}
use Rattle.norm_ext.proofs.laws.names_nearest.Goals as goal

pub returns : goal.returns
returns c = names_nearest_law
