use Rattle.norm_relay.proofs.HandingLemmas.{hands_on}
use Rattle.norm_relay.proofs.laws.hands_on.Goals as goal

pub returns : goal.returns
returns c = hands_on
