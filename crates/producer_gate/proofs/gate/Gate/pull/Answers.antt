use Rattle.producer_gate.proofs.RingCalls.{pops}
use Rattle.producer_gate.proofs.RingSteps.{was_so}
use Rattle.producer_gate.proofs.gate.Gate.pull.Goals as goal

pub pop_as-requires-clause-rule : goal.pop_as-requires-clause-rule
pop_as-requires-clause-rule g c = (pops _ _ _ _ _ _ c.seat.invariant.1, was_so _ _)
