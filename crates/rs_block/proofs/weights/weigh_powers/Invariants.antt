use Rattle.std.proofs.Common.{ℕ, ◌<◌, get_or, length}
use Rattle.gf_field.specs.Power.{power, powers}
use Rattle.rs_block.specs.Points.{IsWeight}
use Rattle.rs_block.proofs.weights.weigh_powers.Given as goal

abbrev pub invariant-loop-i : goal.invariant-loop-i
invariant-loop-i l = (k : ℕ) → k < l.i → IsWeight (powers (length l.fn.weights)) (power k) (get_or l.weights k 0)
