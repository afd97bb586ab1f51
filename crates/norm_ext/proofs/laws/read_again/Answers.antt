use Rattle.norm_ext.proofs.LawsHold.{read_again_law}
use Rattle.norm_ext.proofs.laws.read_again.Goals as goal

pub returns : goal.returns
returns c = read_again_law
