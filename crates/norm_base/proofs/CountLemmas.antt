use Rattle.std.proofs.Common.{◌<◌, ℕ, true, false, refl, arith}
use Rattle.norm_base.specs.Faults.{Counts, one_more}

-- a count of 64 bits that goes up by one
pub counts_one_more : (n : ℕ) → n < 18446744073709551616 → Counts n (one_more n) true
counts_one_more n fits = record { later = omega arith; exact = refl }

-- a count that stays
pub counts_same : (n : ℕ) → Counts n n false
counts_same n = record { later = omega arith; exact = refl }
