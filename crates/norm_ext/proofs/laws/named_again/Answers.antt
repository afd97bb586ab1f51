use Rattle.norm_ext.proofs.IdLemmas.{named_again_law}
use Rattle.norm_ext.proofs.laws.named_again.Goals as goal

pub returns : goal.returns
returns c = named_again_law
