use Rattle.std.proofs.Common.{subst, ◌∙◌, zero-add, arith, ◌≡◌, ℕ, ◌<◌, refl, Bool, true, ◌*◌, ◌/◌, ◌%◌}
use Rattle.std.specs.Prelude.{◌==◌, bit_xor}
use Rattle.std.specs.List.{list_all, range_with_len}
use Rattle.std.proofs.lemmas.Bool.{eqb-true}
use Rattle.std.proofs.lemmas.List.Sums.{AllPass-from_list_all}
use Rattle.std.proofs.lemmas.List.FromFn.{get_or-range_with_len, length-range_with_len}
use Rattle.gf_field.specs.Product.{shift, sum_at_bits}

-- a test that each octet passes
abbrev pub passes_at_octets : (ℕ → Bool) → Bool
passes_at_octets test = list_all test (range_with_len 0 256)

pub below_passes : (n : ℕ) (test : ℕ → Bool) → list_all test (range_with_len 0 n) ≡ true → (a : ℕ) → a < n → test a ≡ true
below_passes n test h a small =
    subst (λ (m : ℕ). test m ≡ true) (get_or-range_with_len 0 n a 0 small ∙ zero-add a)
    (AllPass-from_list_all test (range_with_len 0 n) h a 0 (omega (arith, length-range_with_len 0 n)))

pub octet_passes : (test : ℕ → Bool) → passes_at_octets test ≡ true → (a : ℕ) → a < 256 → test a ≡ true
octet_passes = below_passes 256

shift_rows : passes_at_octets (λ a. bit_xor (a % 128 * 2) (a / 128 * 29) == shift a) ≡ true
unfolding shift sum_at_bits
shift_rows = refl

-- the shift, as the program computes it
pub shift_parts : (a : ℕ) → a < 256 → bit_xor (a % 128 * 2) (a / 128 * 29) ≡ shift a
shift_parts a small = eqb-true _ _ (octet_passes (λ a. bit_xor (a % 128 * 2) (a / 128 * 29) == shift a) shift_rows a small)
