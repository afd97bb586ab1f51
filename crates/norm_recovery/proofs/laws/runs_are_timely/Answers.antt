use Rattle.norm_recovery.proofs.TimelyWorld.{runs_are_timely as proved}
use Rattle.norm_recovery.proofs.laws.runs_are_timely.Goals as goal

pub returns : goal.returns
returns c = proved
