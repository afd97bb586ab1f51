-- Lagrange's formula gives the values of a polynomial of degree below k, and at the places those that it was given.
use Rattle.std.proofs.Common.{◌≡◌, ℕ, zero, suc, ◌<◌, ◌⊎◌, inl, inr, refl, Bool, true, false, cond, sym, ap, subst, ◌∙◌, arith, List, [], ◌∷◌, map, length}
use Rattle.std.specs.Prelude.{bit_xor, nat_eq, ◌==◌, not}
use Rattle.std.specs.List.{AllByRecursion, IsDistinct}
use Rattle.std.specs.Int.Bits.{xor_self, xor_zero_l, xor_zero_r}
use Rattle.std.proofs.lemmas.Nat.{xor_lt}
use Rattle.std.proofs.lemmas.Bool.{eqb-false, ne_eqb, eq-eqb}
use Rattle.std.proofs.lemmas.List.{length-map}
use Rattle.std.proofs.lemmas.Map.Keys.{IsDistinct-head, IsDistinct-tail}
use Rattle.gf_field.specs.Element.{AreElements}
use Rattle.gf_field.specs.Product.{product}
use Rattle.gf_field.specs.Inverse.{inverse}
use Rattle.gf_field.specs.Polynomial.{value_at, GoesThrough}
use Rattle.gf_field.specs.Interpolation.{differences, others, coefficient, weighted_sum, interpolated}
use Rattle.gf_field.proofs.Linear.{product-xor_l, product-xor_r}
use Rattle.gf_field.proofs.Products.{product-lt, product-zero, zero-product, product_comm, product_assoc, product_left, one-product_octet}
use Rattle.gf_field.proofs.Inverses.{product-inverse, zero_from_product}
use Rattle.gf_field.proofs.Polynomials.{AreZero, value_at_zero, added, value_at-added, added-octets, length-added, same_polynomial, difference-pos}

-- ---- places

-- x is one of the numbers
pub Among : ℕ → List ℕ → Type 0
Among x [] = ⊥
Among x (y ∷ ys) = (x ≡ y) ⊎ Among x ys

pub among-apart : (p x : ℕ) (ps : List ℕ) → AllByRecursion (λ y. nat_eq p y ≡ false) ps → Among x ps → p ≡ x → ⊥
unfolding Among
among-apart p x [] h m e = m
among-apart p x (y ∷ ys) h (inl same) e = eqb-false p y h.0 (e ∙ same)
among-apart p x (y ∷ ys) h (inr m) e = among-apart p x ys h.1 m e

pub others-same : (m p : ℕ) (ps : List ℕ) → m ≡ p → others m (p ∷ ps) ≡ others m ps
others-same m p ps e = ap (λ b. cond (not b) (p ∷ others m ps) (others m ps)) (eq-eqb p m (sym e))

pub others-other : (m p : ℕ) (ps : List ℕ) → (p ≡ m → ⊥) → others m (p ∷ ps) ≡ p ∷ others m ps
others-other m p ps h = ap (λ b. cond (not b) (p ∷ others m ps) (others m ps)) (ne_eqb p m h)

others-absent : (m : ℕ) (ps : List ℕ) → AllByRecursion (λ y. nat_eq m y ≡ false) ps → others m ps ≡ ps
others-absent m [] h = refl
others-absent m (p ∷ ps) h =
    others-other m p ps (λ e. eqb-false m p h.0 (sym e)) ∙ ap (λ qs. p ∷ qs) (others-absent m ps h.1)

others-first : (m p : ℕ) (ps : List ℕ) → m ≡ p → AllByRecursion (λ y. nat_eq p y ≡ false) ps → others m (p ∷ ps) ≡ ps
others-first m p ps e h =
    others-same m p ps e ∙ ap (λ n. others n ps) e ∙ others-absent p ps h

-- all but one of the places are other ones
pub length-others : (m : ℕ) (ps : List ℕ) → IsDistinct nat_eq ps → Among m ps → suc (length (others m ps)) ≡ length ps
unfolding Among
length-others m [] d h = absurd h
length-others m (p ∷ ps) d (inl e) =
    ap (λ qs. suc (length qs)) (others-first m p ps e (IsDistinct-head nat_eq p ps d))
length-others m (p ∷ ps) d (inr h) =
    ap (λ qs. suc (length qs)) (others-other m p ps (among-apart p m ps (IsDistinct-head nat_eq p ps d) h))
    ∙ ap suc (length-others m ps (IsDistinct-tail nat_eq p ps d) h)

pub others-octets : (m : ℕ) (ps : List ℕ) → AreElements ps → AreElements (others m ps)
others-octets m [] h = tt
others-octets m (p ∷ ps) h =
    elim (p == m) as (λ b. AreElements (cond (not b) (p ∷ others m ps) (others m ps)))
    [ true ↦ others-octets m ps h.1 | false ↦ (h.0, others-octets m ps h.1) ]

pub others-apart : (m : ℕ) (ps : List ℕ) → AllByRecursion (λ p. p ≡ m → ⊥) (others m ps)
others-apart m [] = tt
others-apart m (p ∷ ps) = go (p == m) refl (others-apart m ps)
  where
    go : (b : Bool) → (p == m) ≡ b → AllByRecursion (λ q. q ≡ m → ⊥) (others m ps) → AllByRecursion (λ q. q ≡ m → ⊥) (cond (not b) (p ∷ others m ps) (others m ps))
    go true e rest = rest
    go false e rest = (eqb-false p m e, rest)

others-among : (q m : ℕ) (ps : List ℕ) → Among q ps → (q ≡ m → ⊥) → Among q (others m ps)
unfolding Among
others-among q m [] h differ = h
others-among q m (p ∷ ps) (inl e) differ =
    subst (Among q) (sym (others-other m p ps (λ same. differ (e ∙ same)))) (inl e)
others-among q m (p ∷ ps) (inr h) differ =
    elim (p == m) as (λ b. Among q (cond (not b) (p ∷ others m ps) (others m ps)))
    [ true ↦ others-among q m ps h differ | false ↦ inr (others-among q m ps h differ) ]

-- ---- products of differences

pub differences-lt : (ps : List ℕ) (x : ℕ) → differences ps x < 256
unfolding differences
differences-lt [] x = omega arith
differences-lt (p ∷ ps) x = product-lt (bit_xor x p) (differences ps x)

positive : (n : ℕ) → (n ≡ 0 → ⊥) → 0 < n
positive zero h = absurd (h refl)
positive (suc n) h = omega arith

-- at an octet that is no place the product is not 0
pub differences-pos : (ps : List ℕ) (x : ℕ) → AreElements ps → x < 256 → AllByRecursion (λ p. p ≡ x → ⊥) ps → 0 < differences ps x
unfolding differences
differences-pos [] x o low h = omega arith
differences-pos (p ∷ ps) x o low h =
    positive (differences (p ∷ ps) x) (λ z.
    let rest : 0 < differences ps x = differences-pos ps x o.1 low h.1 in
    let none : differences ps x ≡ 0 =
    zero_from_product (bit_xor x p) (differences ps x) (difference-pos x p h.0) (xor_lt 8 x p low o.0) (differences-lt ps x) z in
    absurd (omega arith))

-- at a place it is 0
differences_at : (ps : List ℕ) (q : ℕ) → Among q ps → differences ps q ≡ 0
unfolding differences Among
differences_at [] q h = absurd h
differences_at (p ∷ ps) q (inl e) =
    ap (λ n. product (bit_xor q n) (differences ps q)) (sym e)
    ∙ ap (λ n. product n (differences ps q)) (xor_self q) ∙ zero-product (differences ps q)
differences_at (p ∷ ps) q (inr h) =
    ap (product (bit_xor q p)) (differences_at ps q h) ∙ product-zero (bit_xor q p)

-- one difference apart from the others
pub differences-others : (m x : ℕ) (ps : List ℕ) → IsDistinct nat_eq ps → Among m ps → differences ps x ≡ product (bit_xor x m) (differences (others m ps) x)
unfolding differences Among
differences-others m x [] d h = absurd h
differences-others m x (p ∷ ps) d (inl e) =
    ap (λ n. product (bit_xor x n) (differences ps x)) (sym e)
    ∙ ap (λ qs. product (bit_xor x m) (differences qs x)) (sym (others-first m p ps e (IsDistinct-head nat_eq p ps d)))
differences-others m x (p ∷ ps) d (inr h) =
    ap (product (bit_xor x p)) (differences-others m x ps (IsDistinct-tail nat_eq p ps d) h)
    ∙ product_left (bit_xor x p) (bit_xor x m) (differences (others m ps) x)
    ∙ ap (λ qs. product (bit_xor x m) (differences qs x)) (sym (others-other m p ps (among-apart p m ps (IsDistinct-head nat_eq p ps d) h)))

-- ---- coefficients at the places

coefficient-lt : (ps : List ℕ) (m x : ℕ) → coefficient ps m x < 256
unfolding coefficient
coefficient-lt ps m x = product-lt (differences (others m ps) x) (inverse (differences (others m ps) m))

coefficient-own : (ps : List ℕ) (m : ℕ) → AreElements ps → m < 256 → coefficient ps m m ≡ 1
unfolding coefficient
coefficient-own ps m o low =
    product-inverse (differences (others m ps) m)
    (differences-pos (others m ps) m (others-octets m ps o) low (others-apart m ps))
    (differences-lt (others m ps) m)

coefficient-other : (ps : List ℕ) (m q : ℕ) → Among q ps → (q ≡ m → ⊥) → coefficient ps m q ≡ 0
unfolding coefficient
coefficient-other ps m q h differ =
    ap (λ n. product n (inverse (differences (others m ps) m))) (differences_at (others m ps) q (others-among q m ps h differ))
    ∙ zero-product (inverse (differences (others m ps) m))

weighted_sum-absent : (ps ms vs : List ℕ) (q : ℕ) → Among q ps → AllByRecursion (λ m. nat_eq q m ≡ false) ms → weighted_sum ps ms vs q ≡ 0
unfolding weighted_sum
weighted_sum-absent ps [] vs q h apart = refl
weighted_sum-absent ps (m ∷ ms) [] q h apart = refl
weighted_sum-absent ps (m ∷ ms) (v ∷ vs) q h apart =
    ap (λ n. bit_xor (product n v) (weighted_sum ps ms vs q)) (coefficient-other ps m q h (eqb-false q m apart.0))
    ∙ ap (λ n. bit_xor n (weighted_sum ps ms vs q)) (zero-product v)
    ∙ xor_zero_l (weighted_sum ps ms vs q)
    ∙ weighted_sum-absent ps ms vs q h apart.1

-- a further point leaves the values at the other places
weighted_sum-further : (ps ms vs qs : List ℕ) (m v : ℕ) → AllByRecursion (λ q. Among q ps) qs → AllByRecursion (λ q. nat_eq m q ≡ false) qs → map (weighted_sum ps (m ∷ ms) (v ∷ vs)) qs ≡ map (weighted_sum ps ms vs) qs
unfolding weighted_sum
weighted_sum-further ps ms vs [] m v h apart = refl
weighted_sum-further ps ms vs (q ∷ qs) m v h apart =
    ap (λ n. bit_xor (product n v) (weighted_sum ps ms vs q) ∷ map (weighted_sum ps (m ∷ ms) (v ∷ vs)) qs)
    (coefficient-other ps m q h.0 (λ e. eqb-false m q apart.0 (sym e)))
    ∙ ap (λ n. bit_xor n (weighted_sum ps ms vs q) ∷ map (weighted_sum ps (m ∷ ms) (v ∷ vs)) qs) (zero-product v)
    ∙ ap (λ n. n ∷ map (weighted_sum ps (m ∷ ms) (v ∷ vs)) qs) (xor_zero_l (weighted_sum ps ms vs q))
    ∙ ap (λ ns. weighted_sum ps ms vs q ∷ ns) (weighted_sum-further ps ms vs qs m v h.1 apart.1)

weighted_sum-meets : (ps ms vs : List ℕ) → AreElements ps → AreElements ms → AreElements vs → AllByRecursion (λ q. Among q ps) ms → IsDistinct nat_eq ms → length vs ≡ length ms → map (weighted_sum ps ms vs) ms ≡ vs
unfolding weighted_sum
weighted_sum-meets ps [] [] o lows small h d e = refl
weighted_sum-meets ps [] (v ∷ vs) o lows small h d e = absurd (omega arith)
weighted_sum-meets ps (m ∷ ms) [] o lows small h d e = absurd (omega arith)
weighted_sum-meets ps (m ∷ ms) (v ∷ vs) o lows small h d e =
    ap (λ n. bit_xor (product n v) (weighted_sum ps ms vs m) ∷ map (weighted_sum ps (m ∷ ms) (v ∷ vs)) ms)
    (coefficient-own ps m o lows.0)
    ∙ ap (λ n. bit_xor n (weighted_sum ps ms vs m) ∷ map (weighted_sum ps (m ∷ ms) (v ∷ vs)) ms) (one-product_octet v small.0)
    ∙ ap (λ n. bit_xor v n ∷ map (weighted_sum ps (m ∷ ms) (v ∷ vs)) ms)
    (weighted_sum-absent ps ms vs m h.0 (IsDistinct-head nat_eq m ms d))
    ∙ ap (λ n. n ∷ map (weighted_sum ps (m ∷ ms) (v ∷ vs)) ms) (xor_zero_r v)
    ∙ ap (λ ns. v ∷ ns)
    (weighted_sum-further ps ms vs ms m v h.1 (IsDistinct-head nat_eq m ms d)
    ∙ weighted_sum-meets ps ms vs o lows.1 small.1 h.1 (IsDistinct-tail nat_eq m ms d) (omega arith))

among-more : (p : ℕ) (ps qs : List ℕ) → AllByRecursion (λ q. Among q ps) qs → AllByRecursion (λ q. Among q (p ∷ ps)) qs
unfolding Among
among-more p ps [] h = tt
among-more p ps (q ∷ qs) h = (inr h.0, among-more p ps qs h.1)

pub all_among : (ps : List ℕ) → AllByRecursion (λ q. Among q ps) ps
unfolding Among
all_among [] = tt
all_among (p ∷ ps) = (inl refl, among-more p ps ps (all_among ps))

pub interpolated-meets : (ps vs : List ℕ) → AreElements ps → AreElements vs → IsDistinct nat_eq ps → length vs ≡ length ps → map (interpolated ps vs) ps ≡ vs
unfolding interpolated
interpolated-meets ps vs o small d e = weighted_sum-meets ps ps vs o o small (all_among ps) d e

-- ---- the formula is a polynomial

-- the function is that of a polynomial of degree below k
record IsPolynomial (k : ℕ) (f : ℕ → ℕ) : Type 0 where
  coefficients : List ℕ
  octets : AreElements coefficients
  few : length coefficients ≡ k
  agrees : (x : ℕ) → f x ≡ value_at coefficients x

zeros : List ℕ → List ℕ
zeros [] = []
zeros (p ∷ ps) = 0 ∷ zeros ps

zeros-zero : (ps : List ℕ) → AreZero (zeros ps)
unfolding zeros
zeros-zero [] = tt
zeros-zero (p ∷ ps) = (refl, zeros-zero ps)

zeros-octets : (ps : List ℕ) → AreElements (zeros ps)
unfolding zeros
zeros-octets [] = tt
zeros-octets (p ∷ ps) = (omega arith, zeros-octets ps)

length-zeros : (ps : List ℕ) → length (zeros ps) ≡ length ps
unfolding zeros
length-zeros [] = refl
length-zeros (p ∷ ps) = ap suc (length-zeros ps)

polynomial_zero : (ps : List ℕ) → IsPolynomial (length ps) (λ x. 0)
polynomial_zero ps = record {
  coefficients = zeros ps;
  octets = zeros-octets ps;
  few = length-zeros ps;
  agrees = λ x. sym (value_at_zero (zeros ps) x (zeros-zero ps));
}

polynomial_one : IsPolynomial 1 (λ x. 1)
unfolding value_at
polynomial_one = record {
  coefficients = 1 ∷ [];
  octets = (omega arith, tt);
  few = refl;
  agrees = λ x. sym (ap (bit_xor 1) (product-zero x));
}

polynomial_sum : (k : ℕ) (f g : ℕ → ℕ) → IsPolynomial k f → IsPolynomial k g → IsPolynomial k (λ x. bit_xor (f x) (g x))
polynomial_sum k f g p q =
    let alike : length p.coefficients ≡ length q.coefficients = p.few ∙ sym q.few in
    record {
      coefficients = added p.coefficients q.coefficients;
      octets = added-octets p.coefficients q.coefficients p.octets q.octets;
      few = length-added p.coefficients q.coefficients alike ∙ p.few;
      agrees = λ x. ap (λ n. bit_xor n (g x)) (p.agrees x) ∙ ap (bit_xor (value_at p.coefficients x)) (q.agrees x)
          ∙ sym (value_at-added p.coefficients q.coefficients x);
    }

scaled-octets : (n : ℕ) (cs : List ℕ) → AreElements (map (product n) cs)
scaled-octets n [] = tt
scaled-octets n (c ∷ cs) = (product-lt n c, scaled-octets n cs)

value_at-scaled : (n : ℕ) (cs : List ℕ) (x : ℕ) → value_at (map (product n) cs) x ≡ product n (value_at cs x)
unfolding value_at
value_at-scaled n [] x = sym (product-zero n)
value_at-scaled n (c ∷ cs) x =
    ap (λ s. bit_xor (product n c) (product x s)) (value_at-scaled n cs x)
    ∙ ap (bit_xor (product n c)) (product_left x n (value_at cs x))
    ∙ sym (product-xor_r n c (product x (value_at cs x)))

polynomial_scaled : (k n : ℕ) (f : ℕ → ℕ) → IsPolynomial k f → IsPolynomial k (λ x. product n (f x))
polynomial_scaled k n f p = record {
  coefficients = map (product n) p.coefficients;
  octets = scaled-octets n p.coefficients;
  few = length-map p.coefficients (product n) ∙ p.few;
  agrees = λ x. ap (product n) (p.agrees x) ∙ sym (value_at-scaled n p.coefficients x);
}

-- one coefficient more, which is 0, on either side
lengthened : List ℕ → List ℕ
lengthened [] = 0 ∷ []
lengthened (c ∷ cs) = c ∷ lengthened cs

lengthened-octets : (cs : List ℕ) → AreElements cs → AreElements (lengthened cs)
unfolding lengthened
lengthened-octets [] h = (omega arith, tt)
lengthened-octets (c ∷ cs) h = (h.0, lengthened-octets cs h.1)

length-lengthened : (cs : List ℕ) → length (lengthened cs) ≡ suc (length cs)
unfolding lengthened
length-lengthened [] = refl
length-lengthened (c ∷ cs) = ap suc (length-lengthened cs)

value_at-lengthened : (cs : List ℕ) (x : ℕ) → value_at (lengthened cs) x ≡ value_at cs x
unfolding lengthened value_at
value_at-lengthened [] x = ap (bit_xor 0) (product-zero x)
value_at-lengthened (c ∷ cs) x = ap (λ n. bit_xor c (product x n)) (value_at-lengthened cs x)

polynomial_longer : (k : ℕ) (f : ℕ → ℕ) → IsPolynomial k f → IsPolynomial (suc k) f
polynomial_longer k f p = record {
  coefficients = lengthened p.coefficients;
  octets = lengthened-octets p.coefficients p.octets;
  few = length-lengthened p.coefficients ∙ ap suc p.few;
  agrees = λ x. p.agrees x ∙ sym (value_at-lengthened p.coefficients x);
}

polynomial_times_x : (k : ℕ) (f : ℕ → ℕ) → IsPolynomial k f → IsPolynomial (suc k) (λ x. product x (f x))
unfolding value_at
polynomial_times_x k f p = record {
  coefficients = 0 ∷ p.coefficients;
  octets = (omega arith, p.octets);
  few = ap suc p.few;
  agrees = λ x. ap (product x) (p.agrees x) ∙ sym (xor_zero_l (product x (value_at p.coefficients x)));
}

same_function : (k : ℕ) (f g : ℕ → ℕ) → IsPolynomial k f → ((x : ℕ) → g x ≡ f x) → IsPolynomial k g
same_function k f g p e = record {
  coefficients = p.coefficients;
  octets = p.octets;
  few = p.few;
  agrees = λ x. e x ∙ p.agrees x;
}

polynomial_factor : (k m : ℕ) (f : ℕ → ℕ) → IsPolynomial k f → IsPolynomial (suc k) (λ x. product (bit_xor x m) (f x))
polynomial_factor k m f p =
    same_function (suc k) (λ x. bit_xor (product x (f x)) (product m (f x))) (λ x. product (bit_xor x m) (f x))
    (polynomial_sum (suc k) (λ x. product x (f x)) (λ x. product m (f x))
    (polynomial_times_x k f p) (polynomial_longer k (λ x. product m (f x)) (polynomial_scaled k m f p)))
    (λ x. product-xor_l x m (f x))

polynomial_differences : (ps : List ℕ) → IsPolynomial (suc (length ps)) (differences ps)
unfolding differences
polynomial_differences [] = polynomial_one
polynomial_differences (p ∷ ps) = polynomial_factor (suc (length ps)) p (differences ps) (polynomial_differences ps)

polynomial_coefficient : (ps : List ℕ) (m v : ℕ) → IsDistinct nat_eq ps → Among m ps → IsPolynomial (length ps) (λ x. product (coefficient ps m x) v)
unfolding coefficient
polynomial_coefficient ps m v d h =
    let below : ℕ = inverse (differences (others m ps) m) in
    same_function (length ps) (λ x. product (product below v) (differences (others m ps) x)) (λ x. product (coefficient ps m x) v)
    (subst (λ k. IsPolynomial k (λ x. product (product below v) (differences (others m ps) x))) (length-others m ps d h)
    (polynomial_scaled (suc (length (others m ps))) (product below v) (differences (others m ps)) (polynomial_differences (others m ps))))
    (λ x. product_assoc (differences (others m ps) x) below v ∙ product_comm (differences (others m ps) x) (product below v))

polynomial_weighted_sum : (ps ms vs : List ℕ) → IsDistinct nat_eq ps → AllByRecursion (λ q. Among q ps) ms → IsPolynomial (length ps) (weighted_sum ps ms vs)
unfolding weighted_sum
polynomial_weighted_sum ps [] vs d h = polynomial_zero ps
polynomial_weighted_sum ps (m ∷ ms) [] d h = polynomial_zero ps
polynomial_weighted_sum ps (m ∷ ms) (v ∷ vs) d h =
    polynomial_sum (length ps) (λ x. product (coefficient ps m x) v) (weighted_sum ps ms vs)
    (polynomial_coefficient ps m v d h.0) (polynomial_weighted_sum ps ms vs d h.1)

same_values : (f : ℕ → ℕ) (cs places : List ℕ) → ((x : ℕ) → f x ≡ value_at cs x) → map f places ≡ map (value_at cs) places
same_values f cs [] e = refl
same_values f cs (x ∷ xs) e = ap (λ n. n ∷ map f xs) (e x) ∙ ap (λ ns. value_at cs x ∷ ns) (same_values f cs xs e)

-- through points with different places goes a polynomial, and its values are those of the formula
pub record FormulaHolds (places values : List ℕ) : Type 0 where
  pub coefficients : List ℕ
  pub through : GoesThrough coefficients places values
  pub formula : (x : ℕ) → interpolated places values x ≡ value_at coefficients x

pub formula_holds : (places values : List ℕ) → AreElements places → AreElements values → IsDistinct nat_eq places → length values ≡ length places → FormulaHolds places values
unfolding interpolated
formula_holds ps vs o small d e =
    let p : IsPolynomial (length ps) (weighted_sum ps ps vs) = polynomial_weighted_sum ps ps vs d (all_among ps) in
    record {
      coefficients = p.coefficients;
      through = record {
        octets = p.octets;
        few = p.few;
        meets = sym (same_values (weighted_sum ps ps vs) p.coefficients ps p.agrees) ∙ interpolated-meets ps vs o small d e;
      };
      formula = p.agrees;
    }

-- each polynomial through the points has the values of the formula
pub value_from_formula : (cs places values : List ℕ) → AreElements places → AreElements values → IsDistinct nat_eq places → length values ≡ length places → GoesThrough cs places values → (x : ℕ) → value_at cs x ≡ interpolated places values x
value_from_formula cs ps vs o small d e through x =
    let f : FormulaHolds ps vs = formula_holds ps vs o small d e in
    ap (λ ks. value_at ks x) (same_polynomial cs f.coefficients ps vs o d through f.through) ∙ sym (f.formula x)
