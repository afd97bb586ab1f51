use Rattle.std.proofs.Common.{arith}
use Rattle.std.proofs.lemmas.Nat.{mul-lt}
use Rattle.fec_plan.proofs.plan.count_before.Goals as goal

pub overflow_mul-in_first : goal.overflow_mul-in_first
overflow_mul-in_first c = omega (arith, mul-lt c.min-first.result c.from-3.result 4294967296 256 (omega arith) (omega arith))
