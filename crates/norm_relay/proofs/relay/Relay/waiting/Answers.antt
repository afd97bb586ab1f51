use Rattle.std.proofs.Common.{ap}
use Rattle.norm_relay.specs.RelayKept.{RelayKept}
use Rattle.norm_relay.proofs.relay.Relay.waiting.Goals as goal

pub returns : goal.returns
returns c = ap (λ (k : RelayKept). k.waiting) c.self.view_is
