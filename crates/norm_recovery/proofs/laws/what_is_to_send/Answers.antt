use Rattle.norm_recovery.proofs.RunsOutLaws.{runs_out_laws}
use Rattle.norm_recovery.proofs.laws.what_is_to_send.Goals as goal

pub returns : goal.returns
returns c = runs_out_laws
