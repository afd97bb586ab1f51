use Rattle.norm_recovery.proofs.RoundAsks.{round_asks as proved}
use Rattle.norm_recovery.proofs.laws.round_asks.Goals as goal

pub returns : goal.returns
returns c = proved
