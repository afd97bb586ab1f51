-- The numbers of the partition.
use Rattle.std.proofs.Common.{◌≡◌, ℕ, ◌+◌, ◌*◌, ◌<◌, ◌≤◌, ap, arith, inl, inr}
use Rattle.std.proofs.lemmas.Bool.{cases_lt}
use Rattle.std.proofs.lemmas.Grind.{div_ceil_times}
use Rattle.std.proofs.Math.Nat.{lt_of_mul-lt-mul_right, add-mul, mul_comm}
use Rattle.fec_plan.specs.Partition.{blocks_in, large_block}

-- there is a block
pub some_blocks : (t b : ℕ) → 0 < t → 0 < b → 0 < blocks_in t b
some_blocks t b ht hb =
    elim (cases_lt 0 (blocks_in t b)) [
      | inl some ↦ some
      | inr none ↦
          let zero-is : blocks_in t b ≡ 0 = omega arith in
          let up : t ≤ blocks_in t b * b = (div_ceil_times t b hb).0 in
          let no : blocks_in t b * b ≡ 0 * b = ap (λ (n : ℕ). n * b) zero-is in
          absurd (omega (arith, up, no))
    ]

-- no block is larger than it may be
pub large_most : (t b : ℕ) → 0 < t → 0 < b → large_block t (blocks_in t b) ≤ b
large_most t b ht hb =
    let n : ℕ = blocks_in t b in
    let hn = some_blocks t b ht hb in
    let up : t ≤ n * b = (div_ceil_times t b hb).0 in
    let down : large_block t n * n < t + n = (div_ceil_times t n hn).1 in
    let flip : n * b ≡ b * n = mul_comm n b in
    let more : (b + 1) * n ≡ b * n + 1 * n = add-mul b 1 n in
    let below : large_block t n * n < (b + 1) * n = omega (arith, up, down, flip, more) in
    let less = lt_of_mul-lt-mul_right n below in
    omega (arith, less)
