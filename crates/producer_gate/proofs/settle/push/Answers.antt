use Rattle.std.proofs.Common.{refl}
use Rattle.producer_gate.proofs.RingCalls.{pushes}
use Rattle.producer_gate.proofs.RingSteps.{was_so}
use Rattle.producer_gate.proofs.settle.push.Goals as goal

pub push_as-requires-clause-rule : goal.push_as-requires-clause-rule
push_as-requires-clause-rule g c = (pushes _ _ _ _ _ _ c.requires.pass.1 c.requires.next.0 refl c.requires.next.1, was_so _ _)
