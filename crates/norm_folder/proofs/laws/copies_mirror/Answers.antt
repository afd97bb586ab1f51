use Rattle.norm_folder.proofs.MirroredLemmas.{copies_mirror}
use Rattle.norm_folder.proofs.laws.copies_mirror.Goals as goal

pub returns : goal.returns
returns c = copies_mirror
