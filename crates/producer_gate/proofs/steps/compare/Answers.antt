use Rattle.std.proofs.Common.{arith}
use Rattle.producer_gate.proofs.WordCalls.{compares}
use Rattle.producer_gate.proofs.steps.compare.Goals as goal

pub load-requires : goal.load-requires
load-requires c = (c.requires.0.0, omega (arith, c.requires.0.1), compares _ _ _ _ c.requires.0.2 c.requires.1)
