use Rattle.std.proofs.Common.{arith}
use Rattle.producer_gate.proofs.WordSteps.{hear_at}
use Rattle.producer_gate.proofs.steps.hear.Goals as goal

pub join_seat-requires : goal.join_seat-requires
join_seat-requires c = (c.requires.0.0, c.requires.1.0, c.requires.1.2, omega (arith, c.requires.0.1), hear_at _ _ _ _)
