use Rattle.std.proofs.Common.{◌≡◌, ℕ, ◌<◌, get_or}
use Rattle.gf_field.specs.Interpolation.{coefficient}
use Rattle.rs_block.proofs.interpolation.put_coefficients.Given as goal

abbrev pub invariant-loop-i : goal.invariant-loop-i
invariant-loop-i l = (k : ℕ) → k < l.i → get_or l.row k 0 ≡ coefficient l.places (get_or l.places k 0) l.x
