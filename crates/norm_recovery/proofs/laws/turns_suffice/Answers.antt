use Rattle.norm_recovery.proofs.CountTurns.{turns_suffice}
use Rattle.norm_recovery.proofs.laws.turns_suffice.Goals as goal

pub returns : goal.returns
returns c = turns_suffice
