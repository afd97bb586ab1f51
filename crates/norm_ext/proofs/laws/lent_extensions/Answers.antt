use Rattle.norm_ext.proofs.Lent.{lent_extensions_law}
use Rattle.norm_ext.proofs.laws.lent_extensions.Goals as goal

pub returns : goal.returns
returns c = lent_extensions_law
