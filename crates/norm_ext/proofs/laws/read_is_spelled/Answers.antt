use Rattle.norm_ext.proofs.LawsHold.{read_is_spelled_law}
use Rattle.norm_ext.proofs.laws.read_is_spelled.Goals as goal

pub returns : goal.returns
returns c = read_is_spelled_law
