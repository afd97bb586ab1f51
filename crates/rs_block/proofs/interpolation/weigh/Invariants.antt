use Rattle.std.proofs.Common.{◌≡◌, ℕ, ◌<◌, get_or}
use Rattle.gf_field.specs.Power.{power}
use Rattle.rs_block.specs.Points.{weight_at}
use Rattle.rs_block.proofs.interpolation.weigh.Given as goal

abbrev pub invariant-loop-i : goal.invariant-loop-i
invariant-loop-i l = (k : ℕ) → k < l.i → power (get_or l.weights k 0) ≡ weight_at l.places (get_or l.places k 0)
