-- Each octet but 0 has an inverse, its power 254.
use Rattle.std.proofs.Common.{◌≡◌, ℕ, zero, suc, ◌%◌, ◌<◌, refl, Bool, true, false, sym, ap, ◌∙◌, arith}
use Rattle.std.specs.Prelude.{◌==◌, ◌||◌}
use Rattle.std.proofs.Math.Nat.{mod-eq_of_lt}
use Rattle.std.proofs.Math.Dec.{eqb-suc-zero}
use Rattle.std.proofs.lemmas.Bool.{eqb-true}
use Rattle.gf_field.specs.Product.{product, shift, shifts, sum_at_bits}
use Rattle.gf_field.specs.Inverse.{inverse, ones_power}
use Rattle.gf_field.proofs.Octets.{octet_passes, passes_at_octets}
use Rattle.gf_field.proofs.Products.{product-lt, product-zero, zero-product, product_comm, product_assoc, one-product, product-one_octet}

inverse_test : ℕ → Bool
inverse_test a = (a == 0) || (product a (inverse a) == 1)

inverse_rows : passes_at_octets inverse_test ≡ true
unfolding inverse_test inverse ones_power product shift shifts sum_at_bits
inverse_rows = refl

pub other_true : (a b : Bool) → a ≡ false → (a || b) ≡ true → b ≡ true
other_true true b p h = absurd (cc p)
other_true false b p h = h

pub zero_differs : (a : ℕ) → 0 < a → (a == 0) ≡ false
zero_differs zero h = absurd (omega arith)
zero_differs (suc a) h = eqb-suc-zero a

pub product-inverse : (a : ℕ) → 0 < a → a < 256 → product a (inverse a) ≡ 1
unfolding inverse_test
product-inverse a h small =
    eqb-true _ _ (other_true (a == 0) (product a (inverse a) == 1) (zero_differs a h) (octet_passes inverse_test inverse_rows a small))

pub inverse-lt : (a : ℕ) → inverse a < 256
unfolding inverse
inverse-lt a = product-lt (ones_power 6 a) (ones_power 6 a)

-- a factor that is not 0 cancels
pub cancel : (a b : ℕ) → 0 < a → a < 256 → product (inverse a) (product a b) ≡ b % 256
cancel a b h small =
    sym (product_assoc (inverse a) a b)
    ∙ ap (λ n. product n b) (product_comm (inverse a) a ∙ product-inverse a h small)
    ∙ one-product b

pub zero_from_product : (a b : ℕ) → 0 < a → a < 256 → b < 256 → product a b ≡ 0 → b ≡ 0
zero_from_product a b h small low z =
    sym (mod-eq_of_lt low) ∙ sym (cancel a b h small) ∙ ap (product (inverse a)) z ∙ product-zero (inverse a)

-- there is one inverse
pub same_inverse : (a b : ℕ) → 0 < a → a < 256 → b < 256 → product a b ≡ 1 → b ≡ inverse a
same_inverse a b h small low e =
    sym (mod-eq_of_lt low) ∙ sym (cancel a b h small) ∙ ap (product (inverse a)) e
    ∙ product-one_octet (inverse a) (inverse-lt a)

-- 0 has none
pub positive_from_product : (a b : ℕ) → product a b ≡ 1 → 0 < a
positive_from_product zero b h = absurd (omega (arith, zero-product b))
positive_from_product (suc a) b h = omega arith
