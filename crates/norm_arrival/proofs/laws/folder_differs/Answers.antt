use Rattle.norm_arrival.proofs.DifferLemmas.{folder_differs}
use Rattle.norm_arrival.proofs.laws.folder_differs.Goals as goal

pub returns : goal.returns
returns c = folder_differs
