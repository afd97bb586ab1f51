use Rattle.norm_recovery.proofs.ClosingHelps.{closings_help as proved}
use Rattle.norm_recovery.proofs.laws.closings_help.Goals as goal

pub returns : goal.returns
returns c = proved
