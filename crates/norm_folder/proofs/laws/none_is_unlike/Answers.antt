use Rattle.norm_folder.proofs.MirroredLemmas.{none_is_unlike}
use Rattle.norm_folder.proofs.laws.none_is_unlike.Goals as goal

pub returns : goal.returns
returns c = none_is_unlike
