use Rattle.producer_gate.proofs.RingCalls.{forks}
use Rattle.producer_gate.proofs.settle.seats_of.Goals as goal

pub another-pass-requires-clause-rule : goal.another-pass-requires-clause-rule
another-pass-requires-clause-rule c = forks _ _ _ _ c.loop-made.invariant.1
