use Rattle.norm_ext.proofs.LawsHold.{spells_one_law}
use Rattle.norm_ext.proofs.laws.spells_one.Goals as goal

pub returns : goal.returns
returns c = spells_one_law
