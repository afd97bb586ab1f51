use Rattle.norm_relay.proofs.TakeLemmas.{takes_once_confirmed}
use Rattle.norm_relay.proofs.laws.takes_once_confirmed.Goals as goal

pub returns : goal.returns
returns c = takes_once_confirmed
