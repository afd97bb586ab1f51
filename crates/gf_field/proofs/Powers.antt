-- The powers of alpha: their order is 255.
use Rattle.std.proofs.Common.{◌≡◌, ℕ, zero, suc, ◌+◌, ◌-◌, ◌*◌, ◌/◌, ◌%◌, ◌<◌, ◌⊎◌, refl, Bool, true, false, sym, ap, ◌∙◌, arith, zero-add, inl, inr}
use Rattle.std.specs.Prelude.{◌==◌, ◌&&◌, not}
use Rattle.std.proofs.Math.Nat.{div-add-mod, suc-add}
use Rattle.std.proofs.lemmas.Bool.{eq-eqb, cases_order}
use Rattle.gf_field.specs.Product.{product, shift, shifts, sum_at_bits}
use Rattle.gf_field.specs.Power.{power}
use Rattle.gf_field.proofs.Products.{product-lt, product_assoc, one-product_octet, both_true}

pub power-lt : (n : ℕ) → power n < 256
unfolding power
power-lt zero = omega arith
power-lt (suc n) = product-lt 2 (power n)

pub power-suc : (n : ℕ) → power (suc n) ≡ product 2 (power n)
unfolding power
power-suc n = refl

pub power-add : (m n : ℕ) → power (m + n) ≡ product (power m) (power n)
unfolding power
power-add zero n = ap power (zero-add n) ∙ sym (one-product_octet (power n) (power-lt n))
power-add (suc m) n =
    ap power (suc-add m n) ∙ ap (product 2) (power-add m n) ∙ sym (product_assoc 2 (power m) (power n))

pub power_255 : power 255 ≡ 1
unfolding power product shift shifts sum_at_bits
power_255 = refl

power_whole : (q : ℕ) → power (255 * q) ≡ 1
unfolding power
power_whole zero = refl
power_whole (suc q) = ap power (let e : 255 * suc q ≡ 255 + 255 * q = omega arith in e)
    ∙ power-add 255 (255 * q) ∙ ap (λ n. product n (power (255 * q))) power_255
    ∙ one-product_octet (power (255 * q)) (power-lt (255 * q)) ∙ power_whole q

-- an exponent counts up to 255
pub power_mod : (n : ℕ) → power (n % 255) ≡ power n
power_mod n =
    sym (one-product_octet (power (n % 255)) (power-lt (n % 255)))
    ∙ ap (λ p. product p (power (n % 255))) (sym (power_whole (n / 255)))
    ∙ sym (power-add (255 * (n / 255)) (n % 255))
    ∙ ap power (div-add-mod n 255)

-- none of the n octets p, 2 p, 4 p and so on is 1
none_is_one : ℕ → ℕ → Bool
none_is_one zero p = true
none_is_one (suc n) p = not (p == 1) && none_is_one n (product 2 p)

none_rows : none_is_one 254 2 ≡ true
unfolding none_is_one product shift shifts sum_at_bits
none_rows = refl

not_true : (b : Bool) → not b ≡ true → b ≡ true → ⊥
not_true true h t = cc h
not_true false h t = cc t

not_one_at : (n s i : ℕ) → none_is_one n (power s) ≡ true → i < n → power (s + i) ≡ 1 → ⊥
unfolding none_is_one
not_one_at zero s i h lt e = absurd (omega arith)
not_one_at (suc n) s zero h lt e =
    not_true (power s == 1) (both_true (not (power s == 1)) (none_is_one n (product 2 (power s))) h).0
    (eq-eqb (power s) 1 (ap power (let same : s ≡ s + 0 = omega arith in same) ∙ e))
not_one_at (suc n) s (suc i) h lt e =
    not_one_at n (suc s) i
    (ap (none_is_one n) (power-suc s) ∙ (both_true (not (power s == 1)) (none_is_one n (product 2 (power s))) h).1)
    (omega arith)
    (ap power (let same : suc s + i ≡ s + suc i = omega arith in same) ∙ e)

two : power 1 ≡ 2
unfolding power product shift shifts sum_at_bits
two = refl

-- no power before 255 is 1
pub power_not_one : (n : ℕ) → 0 < n → n < 255 → power n ≡ 1 → ⊥
power_not_one n h lt e =
    not_one_at 254 1 (n - 1) (ap (none_is_one 254) two ∙ none_rows) (omega arith)
    (ap power (let same : 1 + (n - 1) ≡ n = omega arith in same) ∙ e)

-- the first 255 powers are different
powers_apart : (i d : ℕ) → 0 < d → i + d < 255 → power i ≡ power (i + d) → ⊥
powers_apart i d h lt e =
    power_not_one d h (omega arith)
    (sym (one-product_octet (power d) (power-lt d))
    ∙ ap (λ n. product n (power d)) (sym power_255 ∙ ap power (let same : 255 ≡ 255 - i + i = omega arith in same) ∙ power-add (255 - i) i)
    ∙ product_assoc (power (255 - i)) (power i) (power d)
    ∙ ap (product (power (255 - i))) (sym (power-add i d) ∙ sym e)
    ∙ sym (power-add (255 - i) i)
    ∙ ap power (let same : 255 - i + i ≡ 255 = omega arith in same)
    ∙ power_255)

pub same_from_power : (i j : ℕ) → i < 255 → j < 255 → power i ≡ power j → i ≡ j
same_from_power i j p q e =
    go (cases_order i j)
  where
    go : (i ≡ j) ⊎ ((i < j) ⊎ (j < i)) → i ≡ j
    go (inl h) = h
    go (inr (inl h)) = absurd (powers_apart i (j - i) (omega arith) (omega arith) (e ∙ ap power (let same : j ≡ i + (j - i) = omega arith in same)))
    go (inr (inr h)) = absurd (powers_apart j (i - j) (omega arith) (omega arith) (sym e ∙ ap power (let same : i ≡ j + (i - j) = omega arith in same)))
