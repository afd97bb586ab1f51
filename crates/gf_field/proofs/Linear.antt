-- A sum over the bits of a number is linear in the number, and so is the product in each factor.
use Rattle.std.proofs.Common.{◌≡◌, ℕ, zero, suc, ◌+◌, ◌*◌, ◌/◌, ◌%◌, ◌^◌, ◌<◌, refl, true, sym, ap, ◌∙◌, arith, List, [], ◌∷◌, map, length, zero-mul}
use Rattle.std.specs.Prelude.{bit_xor, ◌==◌}
use Rattle.std.specs.Int.Bits.{xor_self, xor_zero_l, xor_zero_r}
use Rattle.std.proofs.lemmas.Nat.{xor_shr, xor_mod, field_of}
use Rattle.std.proofs.Math.Nat.{one-mul, mod-mod, mod-lt}
use Rattle.std.proofs.Math.Pow.{mod-mod-pow}
use Rattle.std.proofs.lemmas.Bool.{eqb-true}
use Rattle.gf_field.specs.Product.{product, shift, shifts, shifted_bits, sum_at_bits}
use Rattle.gf_field.proofs.Octets.{octet_passes, passes_at_octets}
use Rattle.gf_field.proofs.Sums.{xor_four, xor_twice}

-- a digit goes into a sum as it goes into a product
digit-xor : (x y v : ℕ) → x < 2 → y < 2 → bit_xor x y * v ≡ bit_xor (x * v) (y * v)
digit-xor zero y v p q = sym (ap (λ s. bit_xor s (y * v)) (zero-mul v) ∙ xor_zero_l (y * v))
digit-xor (suc zero) zero v p q = sym (ap (bit_xor (1 * v)) (zero-mul v) ∙ xor_zero_r (1 * v))
digit-xor (suc zero) (suc zero) v p q = zero-mul v ∙ sym (xor_self (1 * v))
digit-xor (suc zero) (suc (suc y)) v p q = absurd (omega arith)
digit-xor (suc (suc x)) y v p q = absurd (omega arith)

digit-over : (d a b : ℕ) → d < 2 → d * bit_xor a b ≡ bit_xor (d * a) (d * b)
digit-over zero a b p = zero-mul (bit_xor a b) ∙ sym (ap (λ s. bit_xor s (0 * b)) (zero-mul a) ∙ xor_zero_l (0 * b) ∙ zero-mul b)
digit-over (suc zero) a b p =
    one-mul (bit_xor a b) ∙ sym (ap (λ s. bit_xor s (1 * b)) (one-mul a) ∙ ap (bit_xor a) (one-mul b))
digit-over (suc (suc d)) a b p = absurd (omega arith)

pub sum_at_bits-xor : (vs : List ℕ) (a b : ℕ) → sum_at_bits vs (bit_xor a b) ≡ bit_xor (sum_at_bits vs a) (sum_at_bits vs b)
unfolding sum_at_bits
sum_at_bits-xor [] a b = refl
sum_at_bits-xor (v ∷ vs) a b =
    ap (λ d. bit_xor (d * v) (sum_at_bits vs (bit_xor a b / 2))) (xor_mod a b 1)
    ∙ ap (λ s. bit_xor s (sum_at_bits vs (bit_xor a b / 2))) (digit-xor (a % 2) (b % 2) v (mod-lt a (omega arith)) (mod-lt b (omega arith)))
    ∙ ap (bit_xor (bit_xor (a % 2 * v) (b % 2 * v))) (ap (sum_at_bits vs) (xor_shr a b 1) ∙ sum_at_bits-xor vs (a / 2) (b / 2))
    ∙ xor_four (a % 2 * v) (b % 2 * v) (sum_at_bits vs (a / 2)) (sum_at_bits vs (b / 2))

-- only as many bits count as there are values
pub sum_at_bits-low : (vs : List ℕ) (a : ℕ) → sum_at_bits vs (a % 2 ^ length vs) ≡ sum_at_bits vs a
unfolding sum_at_bits
sum_at_bits-low [] a = refl
sum_at_bits-low (v ∷ vs) a =
    let more : length (v ∷ vs) ≡ length vs + 1 = omega arith in
    ap (λ n. sum_at_bits (v ∷ vs) (a % 2 ^ n)) more
    ∙ ap (λ d. bit_xor (d * v) (sum_at_bits vs (a % 2 ^ (length vs + 1) / 2))) (mod-mod-pow a (length vs) 1)
    ∙ ap (λ m. bit_xor (a % 2 * v) (sum_at_bits vs m)) (field_of a (length vs) 1)
    ∙ ap (bit_xor (a % 2 * v)) (sum_at_bits-low vs (a / 2))

-- the numbers with one bit, of the eight
abbrev pub units : List ℕ
units = 1 ∷ 2 ∷ 4 ∷ 8 ∷ 16 ∷ 32 ∷ 64 ∷ 128 ∷ []

unit_rows : passes_at_octets (λ a. a == sum_at_bits units a) ≡ true
unfolding sum_at_bits
unit_rows = refl

-- an octet is the sum of its bits
pub octet_by_bits : (a : ℕ) → a % 256 ≡ sum_at_bits units a
octet_by_bits a =
    eqb-true _ _ (octet_passes (λ n. n == sum_at_bits units n) unit_rows (a % 256) (mod-lt a (omega arith)))
    ∙ sum_at_bits-low units a

-- a function of octets that takes sums to sums
pub record IsLinear (f : ℕ → ℕ) : Type 0 where
  pub sums : (a b : ℕ) → f (bit_xor a b) ≡ bit_xor (f a) (f b)
  pub low : (a : ℕ) → f (a % 256) ≡ f a

pub linear-zero : (f : ℕ → ℕ) → IsLinear f → f 0 ≡ 0
linear-zero f l =
    sym (xor_twice (f 0) (f 0)) ∙ ap (bit_xor (f 0)) (sym (l.sums 0 0)) ∙ xor_self (f 0)

linear-digit : (f : ℕ → ℕ) → IsLinear f → (d v : ℕ) → d < 2 → f (d * v) ≡ d * f v
linear-digit f l zero v p = ap f (zero-mul v) ∙ linear-zero f l ∙ sym (zero-mul (f v))
linear-digit f l (suc zero) v p = ap f (one-mul v) ∙ sym (one-mul (f v))
linear-digit f l (suc (suc d)) v p = absurd (omega arith)

linear-sum_at_bits : (f : ℕ → ℕ) → IsLinear f → (vs : List ℕ) (n : ℕ) → f (sum_at_bits vs n) ≡ sum_at_bits (map f vs) n
unfolding sum_at_bits
linear-sum_at_bits f l [] n = linear-zero f l
linear-sum_at_bits f l (v ∷ vs) n =
    l.sums (n % 2 * v) (sum_at_bits vs (n / 2))
    ∙ ap (λ s. bit_xor s (f (sum_at_bits vs (n / 2)))) (linear-digit f l (n % 2) v (mod-lt n (omega arith)))
    ∙ ap (bit_xor (n % 2 * f v)) (linear-sum_at_bits f l vs (n / 2))

-- a linear function is known by its values at the eight bits
linear_by_bits : (f : ℕ → ℕ) → IsLinear f → (a : ℕ) → f a ≡ sum_at_bits (map f units) a
linear_by_bits f l a = sym (l.low a) ∙ ap f (octet_by_bits a) ∙ linear-sum_at_bits f l units a

pub same_from_units : (f g : ℕ → ℕ) → IsLinear f → IsLinear g → map f units ≡ map g units → (a : ℕ) → f a ≡ g a
same_from_units f g lf lg h a =
    linear_by_bits f lf a ∙ ap (λ vs. sum_at_bits vs a) h ∙ sym (linear_by_bits g lg a)

pub shift-xor : (a b : ℕ) → shift (bit_xor a b) ≡ bit_xor (shift a) (shift b)
unfolding shift
shift-xor a b = sum_at_bits-xor shifted_bits a b

-- the sums at each bit, of two lists of shifts
sum_at_bits-shifts : (k a b n : ℕ) → sum_at_bits (shifts k (bit_xor a b)) n ≡ bit_xor (sum_at_bits (shifts k a) n) (sum_at_bits (shifts k b) n)
unfolding sum_at_bits shifts
sum_at_bits-shifts zero a b n = refl
sum_at_bits-shifts (suc k) a b n =
    ap (λ s. bit_xor s (sum_at_bits (shifts k (shift (bit_xor a b))) (n / 2))) (digit-over (n % 2) a b (mod-lt n (omega arith)))
    ∙ ap (λ s. bit_xor (bit_xor (n % 2 * a) (n % 2 * b)) (sum_at_bits (shifts k s) (n / 2))) (shift-xor a b)
    ∙ ap (bit_xor (bit_xor (n % 2 * a) (n % 2 * b))) (sum_at_bits-shifts k (shift a) (shift b) (n / 2))
    ∙ xor_four (n % 2 * a) (n % 2 * b) (sum_at_bits (shifts k (shift a)) (n / 2)) (sum_at_bits (shifts k (shift b)) (n / 2))

pub product-xor_r : (a b c : ℕ) → product a (bit_xor b c) ≡ bit_xor (product a b) (product a c)
unfolding product
product-xor_r a b c = sum_at_bits-xor (shifts 8 (a % 256)) b c

pub product-xor_l : (a b c : ℕ) → product (bit_xor a b) c ≡ bit_xor (product a c) (product b c)
unfolding product
product-xor_l a b c =
    ap (λ n. sum_at_bits (shifts 8 n) c) (xor_mod a b 8) ∙ sum_at_bits-shifts 8 (a % 256) (b % 256) c

pub product-low_l : (a b : ℕ) → product (a % 256) b ≡ product a b
unfolding product
product-low_l a b = ap (λ n. sum_at_bits (shifts 8 n) b) (mod-mod a 256)

pub product-low_r : (a b : ℕ) → product a (b % 256) ≡ product a b
unfolding product shifts
product-low_r a b = sum_at_bits-low (shifts 8 (a % 256)) b
