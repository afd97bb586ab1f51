use Rattle.std.proofs.Common.{◌≡◌, ℕ, ◌<◌, ◌+◌, ◌*◌, get_or}
use Rattle.gf_field.specs.Power.{power, powers}
use Rattle.gf_field.specs.Interpolation.{coefficient}
use Rattle.rs_block.proofs.encode.put_rows.Given as goal

abbrev pub invariant-loop-m : goal.invariant-loop-m
invariant-loop-m l =
    (m i : ℕ) → m < l.m → i < l.width → get_or l.rows (m * l.width + i) 0 ≡ coefficient (powers l.k) (power i) (power (l.k + m))
