use Rattle.std.proofs.Common.{arith}
use Rattle.producer_gate.proofs.WordCalls.{looks}
use Rattle.producer_gate.proofs.steps.look.Goals as goal

pub load-requires : goal.load-requires
load-requires c =
    let p = c.requires.place in
    (p.0.0, omega (arith, p.0.1), looks _ _ _ p.0.2 p.1)
