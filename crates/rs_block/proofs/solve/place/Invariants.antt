use Rattle.std.proofs.Common.{◌≡◌, ℕ, ◌<◌, get_or}
use Rattle.gf_field.specs.Power.{power}
use Rattle.rs_block.proofs.solve.place.Given as goal

abbrev pub invariant-loop-i : goal.invariant-loop-i
invariant-loop-i l = (k : ℕ) → k < l.i → get_or l.places k 0 ≡ power (get_or l.ids k 0)
