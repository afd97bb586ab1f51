use Rattle.producer_gate.proofs.RingSteps.{begins}
use Rattle.producer_gate.proofs.gate.Gate.new.Goals as goal

pub ruled-requires-clause-rule : goal.ruled-requires-clause-rule
ruled-requires-clause-rule c = begins
