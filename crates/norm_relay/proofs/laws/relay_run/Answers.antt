use Rattle.norm_relay.proofs.RelayLemmas.{relay_law}
use Rattle.norm_relay.proofs.laws.relay_run.Goals as goal

pub returns : goal.returns
returns c = relay_law
