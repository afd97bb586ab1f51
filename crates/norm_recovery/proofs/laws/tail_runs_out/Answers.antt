use Rattle.norm_recovery.proofs.RunsOutTail.{tail_runs_out as proved}
use Rattle.norm_recovery.proofs.laws.tail_runs_out.Goals as goal

pub returns : goal.returns
returns c = proved
