use Rattle.norm_arrival.proofs.FolderLemmas.{folder_hands_up}
use Rattle.norm_arrival.proofs.laws.folder_hands_up.Goals as goal

pub returns : goal.returns
returns c = folder_hands_up
