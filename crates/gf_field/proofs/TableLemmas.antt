-- The tables of powers and logarithms have what their names say.
use Rattle.std.proofs.Common.{◌≡◌, ℕ, zero, suc, ◌+◌, ◌-◌, ◌<◌, refl, Bool, true, sym, ap, ◌∙◌, arith, List, [], ◌∷◌, length, get_or, zero-add, ltb}
use Rattle.std.specs.Prelude.{◌==◌, ◌&&◌, ◌||◌}
use Rattle.std.proofs.lemmas.Bool.{eqb-true}
use borrow.Author.Tests.{ltb-true}
use Rattle.gf_field.specs.Product.{product, shift, sum_at_bits}
use Rattle.gf_field.specs.Power.{power}
use Rattle.gf_field.specs.declared.tables.TheConstants.{POWERS, LOGARITHMS}
use Rattle.gf_field.proofs.Octets.{octet_passes, passes_at_octets}
use Rattle.gf_field.proofs.Products.{both_true, product-zero, zero-product, two-product}
use Rattle.gf_field.proofs.Powers.{power-suc, power-add, power_255, power_mod}
use Rattle.gf_field.proofs.Inverses.{other_true, zero_differs}

-- each number is the shift of the one before it, and p is the first
rise : ℕ → List ℕ → Bool
rise p [] = true
rise p (x ∷ xs) = (x == p) && rise (shift p) xs

risen : (xs : List ℕ) (s i : ℕ) → rise (power s) xs ≡ true → i < length xs → get_or xs i 0 ≡ power (s + i)
unfolding rise
risen [] s i h lt = absurd (omega arith)
risen (x ∷ xs) s zero h lt =
    eqb-true _ _ (both_true (x == power s) (rise (shift (power s)) xs) h).0 ∙ ap power (let e : s ≡ s + 0 = omega arith in e)
risen (x ∷ xs) s (suc i) h lt =
    risen xs (suc s) i
    (ap (λ p. rise p xs) (power-suc s ∙ two-product (power s)) ∙ (both_true (x == power s) (rise (shift (power s)) xs) h).1)
    (omega arith)
    ∙ ap power (let e : suc s + i ≡ s + suc i = omega arith in e)

powers_rise : rise (power 0) POWERS ≡ true
unfolding rise power shift sum_at_bits
powers_rise = refl

pub power_in_table : (i : ℕ) → i < 510 → get_or POWERS i 0 ≡ power i
power_in_table i h = risen POWERS 0 i powers_rise h ∙ ap power (zero-add i)

logarithm_test : ℕ → Bool
logarithm_test a = (a == 0) || (ltb (get_or LOGARITHMS a 0) 255 && (get_or POWERS (get_or LOGARITHMS a 0) 0 == a))

logarithm_rows : passes_at_octets logarithm_test ≡ true
unfolding logarithm_test
logarithm_rows = refl

logarithm_parts : (a : ℕ) → (a ≡ 0 → ⊥) → a < 256 → (ltb (get_or LOGARITHMS a 0) 255 ≡ true) × ((get_or POWERS (get_or LOGARITHMS a 0) 0 == a) ≡ true)
unfolding logarithm_test
logarithm_parts a pos low =
    both_true (ltb (get_or LOGARITHMS a 0) 255) (get_or POWERS (get_or LOGARITHMS a 0) 0 == a)
    (other_true (a == 0) (ltb (get_or LOGARITHMS a 0) 255 && (get_or POWERS (get_or LOGARITHMS a 0) 0 == a)) (zero_differs a (omega arith)) (octet_passes logarithm_test logarithm_rows a low))

pub logarithm_below : (a : ℕ) → (a ≡ 0 → ⊥) → a < 256 → get_or LOGARITHMS a 0 < 255
logarithm_below a pos low = ltb-true _ _ (logarithm_parts a pos low).0

pub logarithm_is : (a : ℕ) → (a ≡ 0 → ⊥) → a < 256 → power (get_or LOGARITHMS a 0) ≡ a
logarithm_is a pos low =
    sym (power_in_table (get_or LOGARITHMS a 0) (let h : get_or LOGARITHMS a 0 < 255 = logarithm_below a pos low in omega arith))
    ∙ eqb-true _ _ (logarithm_parts a pos low).1

-- ---- what the functions compute

pub product_from_logarithms : (a b i j : ℕ) → power i ≡ a → power j ≡ b → power (i + j) ≡ product a b
product_from_logarithms a b i j p q = power-add i j ∙ ap (λ n. product n (power j)) p ∙ ap (product a) q

pub inverse_from_logarithm : (a i : ℕ) → i < 255 → power i ≡ a → product a (power (255 - i)) ≡ 1
inverse_from_logarithm a i lt p =
    ap (λ n. product n (power (255 - i))) (sym p) ∙ sym (power-add i (255 - i))
    ∙ ap power (let e : i + (255 - i) ≡ 255 = omega arith in e) ∙ power_255

pub ruleset logarithm_steps = (product_from_logarithms, inverse_from_logarithm, zero-product, product-zero, power_mod)
