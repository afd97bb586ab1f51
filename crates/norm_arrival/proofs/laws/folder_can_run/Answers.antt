use Rattle.norm_arrival.proofs.CanRunLemmas.{folder_can_run}
use Rattle.norm_arrival.proofs.laws.folder_can_run.Goals as goal

pub returns : goal.returns
returns c = folder_can_run
