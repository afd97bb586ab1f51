-- The laws of the product, over all numbers: it reads the low eight bits of each factor.
use Rattle.std.proofs.Common.{◌≡◌, ℕ, zero, suc, ◌*◌, ◌/◌, ◌%◌, ◌<◌, refl, Bool, true, false, sym, ap, ◌∙◌, arith, List, [], ◌∷◌, map}
use Rattle.std.specs.Prelude.{◌==◌, ◌&&◌}
use Rattle.std.specs.List.{AllByRecursion, list_all}
use Rattle.std.proofs.lemmas.Nat.{xor_mod, xor_lt}
use Rattle.std.proofs.Math.Nat.{mod-mod, mod-lt, mod-eq_of_lt}
use Rattle.std.proofs.lemmas.Bool.{eqb-true}
use Rattle.gf_field.specs.Product.{product, shift, shifts, shifted_bits, sum_at_bits}
use Rattle.gf_field.proofs.Linear.{IsLinear, linear-zero, units, same_from_units, product-xor_l, product-xor_r, product-low_l, product-low_r, sum_at_bits-xor, sum_at_bits-low}

pub both_true : (a b : Bool) → (a && b) ≡ true → (a ≡ true) × (b ≡ true)
both_true true b h = (refl, h)
both_true false b h = absurd (cc h)

same_maps : (f g : ℕ → ℕ) (test : ℕ → Bool) → ((x : ℕ) → test x ≡ true → f x ≡ g x) → (xs : List ℕ) → list_all test xs ≡ true → map f xs ≡ map g xs
same_maps f g test h [] t = refl
same_maps f g test h (x ∷ xs) t =
    let parts = both_true (test x) (list_all test xs) t in
    ap (λ y. y ∷ map f xs) (h x parts.0) ∙ ap (λ ys. g x ∷ ys) (same_maps f g test h xs parts.1)

-- functions of two octets, linear in each, are one if they agree at the bits
pub record IsBilinear (f : ℕ → ℕ → ℕ) : Type 0 where
  pub first : (b : ℕ) → IsLinear (λ a. f a b)
  pub second : (a : ℕ) → IsLinear (f a)

same_from_pairs : (f g : ℕ → ℕ → ℕ) → IsBilinear f → IsBilinear g → list_all (λ u. list_all (λ v. f u v == g u v) units) units ≡ true → (a b : ℕ) → f a b ≡ g a b
same_from_pairs f g lf lg t a b =
    same_from_units (λ n. f n b) (λ n. g n b) (lf.first b) (lg.first b)
    (same_maps (λ n. f n b) (λ n. g n b) (λ u. list_all (λ v. f u v == g u v) units)
    (λ u h. same_from_units (f u) (g u) (lf.second u) (lg.second u)
    (same_maps (f u) (g u) (λ v. f u v == g u v) (λ v e. eqb-true (f u v) (g u v) e) units h) b)
    units t)
    a

product-linear_l : (b : ℕ) → IsLinear (λ a. product a b)
product-linear_l b = record { sums = λ x y. product-xor_l x y b; low = λ x. product-low_l x b }

product-linear_r : (a : ℕ) → IsLinear (product a)
product-linear_r a = record { sums = λ x y. product-xor_r a x y; low = λ x. product-low_r a x }

comm_rows : list_all (λ u. list_all (λ v. product u v == product v u) units) units ≡ true
unfolding product shift shifts sum_at_bits
comm_rows = refl

pub product_comm : (a b : ℕ) → product a b ≡ product b a
product_comm =
    same_from_pairs product (λ a b. product b a)
    (record { first = product-linear_l; second = product-linear_r })
    (record { first = product-linear_r; second = product-linear_l })
    comm_rows

after : (f g : ℕ → ℕ) → IsLinear f → IsLinear g → IsLinear (λ n. f (g n))
after f g lf lg = record {
  sums = λ a b. ap f (lg.sums a b) ∙ lf.sums (g a) (g b);
  low = λ a. ap f (lg.low a);
}

assoc_rows : list_all (λ u. list_all (λ v. list_all (λ w. product (product u v) w == product u (product v w)) units) units) units ≡ true
unfolding product shift shifts sum_at_bits
assoc_rows = refl

pub product_assoc : (a b c : ℕ) → product (product a b) c ≡ product a (product b c)
product_assoc a b c =
    same_from_units (λ n. product (product n b) c) (λ n. product n (product b c))
    (after (λ n. product n c) (λ n. product n b) (product-linear_l c) (product-linear_l b))
    (product-linear_l (product b c))
    (same_maps (λ n. product (product n b) c) (λ n. product n (product b c))
    (λ u. list_all (λ v. list_all (λ w. product (product u v) w == product u (product v w)) units) units)
    (λ u t. same_from_pairs (λ x y. product (product u x) y) (λ x y. product u (product x y))
    (record {
      first = λ y. after (λ n. product n y) (product u) (product-linear_l y) (product-linear_r u);
      second = λ x. product-linear_r (product u x);
    })
    (record {
      first = λ y. after (product u) (λ n. product n y) (product-linear_r u) (product-linear_l y);
      second = λ x. after (product u) (product x) (product-linear_r u) (product-linear_r x);
    })
    t b c)
    units assoc_rows)
    a

low-linear : IsLinear (λ a. a % 256)
low-linear = record { sums = λ a b. xor_mod a b 8; low = λ a. mod-mod a 256 }

one_rows : map (product 1) units ≡ map (λ a. a % 256) units
unfolding product shift shifts sum_at_bits
one_rows = refl

pub one-product : (a : ℕ) → product 1 a ≡ a % 256
one-product = same_from_units (product 1) (λ a. a % 256) (product-linear_r 1) low-linear one_rows

pub product-one : (a : ℕ) → product a 1 ≡ a % 256
product-one a = product_comm a 1 ∙ one-product a

pub one-product_octet : (a : ℕ) → a < 256 → product 1 a ≡ a
one-product_octet a small = one-product a ∙ mod-eq_of_lt small

pub product-one_octet : (a : ℕ) → a < 256 → product a 1 ≡ a
product-one_octet a small = product-one a ∙ mod-eq_of_lt small

pub product-zero : (a : ℕ) → product a 0 ≡ 0
product-zero a = linear-zero (product a) (product-linear_r a)

pub zero-product : (a : ℕ) → product 0 a ≡ 0
zero-product a = product_comm 0 a ∙ product-zero a

-- the product is an octet
digit-lt : (d v : ℕ) → d < 2 → v < 256 → d * v < 256
digit-lt zero v p q = omega arith
digit-lt (suc zero) v p q = omega arith
digit-lt (suc (suc d)) v p q = absurd (omega arith)

sum_at_bits-lt : (vs : List ℕ) (n : ℕ) → AllByRecursion (λ v. v < 256) vs → sum_at_bits vs n < 256
unfolding sum_at_bits
sum_at_bits-lt [] n h = omega arith
sum_at_bits-lt (v ∷ vs) n h =
    xor_lt 8 (n % 2 * v) (sum_at_bits vs (n / 2)) (digit-lt (n % 2) v (mod-lt n (omega arith)) h.0) (sum_at_bits-lt vs (n / 2) h.1)

shift-lt : (a : ℕ) → shift a < 256
unfolding shift
shift-lt a = sum_at_bits-lt shifted_bits a (omega arith, (omega arith, (omega arith, (omega arith, (omega arith, (omega arith, (omega arith, (omega arith, tt))))))))

shifts-lt : (k a : ℕ) → a < 256 → AllByRecursion (λ v. v < 256) (shifts k a)
unfolding shifts
shifts-lt zero a h = tt
shifts-lt (suc k) a h = (h, shifts-lt k (shift a) (shift-lt a))

pub product-lt : (a b : ℕ) → product a b < 256
unfolding product
product-lt a b = sum_at_bits-lt (shifts 8 (a % 256)) b (shifts-lt 8 (a % 256) (mod-lt a (omega arith)))

-- a factor 02 is a shift
two_rows : map (product 2) units ≡ map shift units
unfolding product shift shifts sum_at_bits
two_rows = refl

shift-linear : IsLinear shift
unfolding shift
shift-linear = record { sums = sum_at_bits-xor shifted_bits; low = sum_at_bits-low shifted_bits }

pub two-product : (a : ℕ) → product 2 a ≡ shift a
two-product = same_from_units (product 2) shift (product-linear_r 2) shift-linear two_rows

-- the second factor may change its place with the first of two others
pub product_left : (a b c : ℕ) → product a (product b c) ≡ product b (product a c)
product_left a b c =
    sym (product_assoc a b c) ∙ ap (λ n. product n c) (product_comm a b) ∙ product_assoc b a c
