use Rattle.norm_arrival.proofs.FolderLemmas.{folder_arrives}
use Rattle.norm_arrival.proofs.laws.folder_arrives.Goals as goal

pub returns : goal.returns
returns c = folder_arrives
