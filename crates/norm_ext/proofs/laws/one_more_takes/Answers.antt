use Rattle.norm_ext.proofs.AskedSize.{one_more_takes_law}
use Rattle.norm_ext.proofs.laws.one_more_takes.Goals as goal

pub returns : goal.returns
returns c = one_more_takes_law
