-- A polynomial with as many zeros as coefficients is zero, so that two through the same points are one.
use Rattle.std.proofs.Common.{◌≡◌, ℕ, zero, suc, ◌<◌, ◌≤◌, refl, false, sym, ap, ◌∙◌, arith, List, [], ◌∷◌, map, length}
use Rattle.std.specs.Prelude.{bit_xor, nat_eq}
use Rattle.std.specs.List.{AllByRecursion, IsDistinct}
use Rattle.std.specs.Int.Bits.{xor_self, xor_zero_l, xor_zero_r, xor_assoc}
use Rattle.std.proofs.lemmas.Nat.{xor_lt}
use Rattle.std.proofs.lemmas.Bool.{eqb-false}
use Rattle.gf_field.specs.Element.{AreElements}
use Rattle.gf_field.specs.Product.{product}
use Rattle.gf_field.specs.Polynomial.{value_at, GoesThrough}
use Rattle.gf_field.proofs.Sums.{xor_left, xor_four, xor_twice, same_from_xor}
use Rattle.gf_field.proofs.Products.{product-lt, product-zero, product_left}
use Rattle.gf_field.proofs.Linear.{product-xor_l, product-xor_r}
use Rattle.std.proofs.lemmas.Map.Keys.{IsDistinct-head, IsDistinct-tail}
use Rattle.gf_field.proofs.Inverses.{zero_from_product}

abbrev pub AreZero : List ℕ → Type 0
AreZero cs = AllByRecursion (λ c. c ≡ 0) cs

pub value_at-lt : (cs : List ℕ) (x : ℕ) → AreElements cs → value_at cs x < 256
unfolding value_at
value_at-lt [] x h = omega arith
value_at-lt (c ∷ cs) x h = xor_lt 8 c (product x (value_at cs x)) h.0 (product-lt x (value_at cs x))

pub value_at_zero : (cs : List ℕ) (x : ℕ) → AreZero cs → value_at cs x ≡ 0
unfolding value_at
value_at_zero [] x h = refl
value_at_zero (c ∷ cs) x h =
    ap (λ n. bit_xor n (product x (value_at cs x))) h.0
    ∙ xor_zero_l (product x (value_at cs x))
    ∙ ap (product x) (value_at_zero cs x h.1) ∙ product-zero x

-- the quotient by x - p of the polynomial with a first coefficient and then these
quotient : ℕ → List ℕ → List ℕ
quotient p [] = []
quotient p (d ∷ ds) = value_at (d ∷ ds) p ∷ quotient p ds

length-quotient : (p : ℕ) (cs : List ℕ) → length (quotient p cs) ≡ length cs
unfolding quotient
length-quotient p [] = refl
length-quotient p (d ∷ ds) = ap suc (length-quotient p ds)

quotient-octets : (p : ℕ) (cs : List ℕ) → AreElements cs → AreElements (quotient p cs)
unfolding quotient
quotient-octets p [] h = tt
quotient-octets p (d ∷ ds) h = (value_at-lt (d ∷ ds) p h, quotient-octets p ds h.1)

xor_drop : (c a b r : ℕ) → bit_xor (bit_xor c a) (bit_xor (bit_xor b a) r) ≡ bit_xor c (bit_xor b r)
xor_drop c a b r =
    xor_assoc c a (bit_xor (bit_xor b a) r)
    ∙ ap (λ n. bit_xor c (bit_xor a n)) (xor_assoc b a r)
    ∙ ap (bit_xor c) (xor_left a b (bit_xor a r) ∙ ap (bit_xor b) (xor_twice a r))

-- the division: the remainder is the value at p
divides : (p x c : ℕ) (cs : List ℕ) → value_at (c ∷ cs) x ≡ bit_xor (value_at (c ∷ cs) p) (product (bit_xor x p) (value_at (quotient p cs) x))
unfolding value_at quotient
divides p x c [] =
    ap (bit_xor c) (product-zero x)
    ∙ sym (xor_zero_r (bit_xor c 0))
    ∙ ap (λ n. bit_xor (bit_xor c n) 0) (sym (product-zero p))
    ∙ ap (bit_xor (bit_xor c (product p 0))) (sym (product-zero (bit_xor x p)))
divides p x c (d ∷ ds) =
    let at_p : ℕ = value_at (d ∷ ds) p in
    let rest : ℕ = value_at (quotient p ds) x in
    ap (λ n. bit_xor c (product x n)) (divides p x d ds)
    ∙ ap (bit_xor c) (product-xor_r x at_p (product (bit_xor x p) rest))
    ∙ ap (λ n. bit_xor c (bit_xor (product x at_p) n)) (product_left x (bit_xor x p) rest)
    ∙ sym (xor_drop c (product p at_p) (product x at_p) (product (bit_xor x p) (product x rest)))
    ∙ ap (λ n. bit_xor (bit_xor c (product p at_p)) (bit_xor n (product (bit_xor x p) (product x rest)))) (sym (product-xor_l x p at_p))
    ∙ ap (bit_xor (bit_xor c (product p at_p))) (sym (product-xor_r (bit_xor x p) at_p (product x rest)))

-- two octets that differ have a difference
pub difference-pos : (x p : ℕ) → (p ≡ x → ⊥) → 0 < bit_xor x p
difference-pos x p h = go (bit_xor x p) refl
  where
    go : (n : ℕ) → bit_xor x p ≡ n → 0 < n
    go zero e = absurd (h (sym (same_from_xor x p e)))
    go (suc n) e = omega arith

-- where the polynomial is zero at p and at x, its quotient by x - p is zero at x
quotient-zero_at : (p x c : ℕ) (cs : List ℕ) → AreElements (c ∷ cs) → p < 256 → x < 256 → (p ≡ x → ⊥) → value_at (c ∷ cs) p ≡ 0 → value_at (c ∷ cs) x ≡ 0 → value_at (quotient p cs) x ≡ 0
quotient-zero_at p x c cs o p_low x_low differ zero_p zero_x =
    zero_from_product (bit_xor x p) (value_at (quotient p cs) x) (difference-pos x p differ)
    (xor_lt 8 x p x_low p_low) (value_at-lt (quotient p cs) x (quotient-octets p cs o.1))
    (sym (xor_zero_l (product (bit_xor x p) (value_at (quotient p cs) x)))
    ∙ ap (λ n. bit_xor n (product (bit_xor x p) (value_at (quotient p cs) x))) (sym zero_p)
    ∙ sym (divides p x c cs) ∙ zero_x)

quotient-zeros : (p c : ℕ) (cs places : List ℕ) → AreElements (c ∷ cs) → p < 256 → AreElements places → AllByRecursion (λ y. nat_eq p y ≡ false) places → value_at (c ∷ cs) p ≡ 0 → AllByRecursion (λ x. value_at (c ∷ cs) x ≡ 0) places → AllByRecursion (λ x. value_at (quotient p cs) x ≡ 0) places
quotient-zeros p c cs [] o p_low lows differ zero_p zeros = tt
quotient-zeros p c cs (x ∷ xs) o p_low lows differ zero_p zeros = (
  quotient-zero_at p x c cs o p_low lows.0 (eqb-false p x differ.0) zero_p zeros.0,
  quotient-zeros p c cs xs o p_low lows.1 differ.1 zero_p zeros.1,
)

-- a polynomial whose quotient is zero is a number
zero_from_quotient : (p : ℕ) (cs : List ℕ) → AreZero (quotient p cs) → AreZero cs
unfolding quotient value_at
zero_from_quotient p [] h = tt
zero_from_quotient p (d ∷ ds) h =
    let rest = zero_from_quotient p ds h.1 in
    (sym (xor_zero_r d) ∙ ap (bit_xor d) (sym (ap (product p) (value_at_zero ds p rest) ∙ product-zero p)) ∙ h.0, rest)

-- a polynomial of degree below k with k different zeros is zero
pub zero_polynomial : (places cs : List ℕ) → AreElements cs → AreElements places → IsDistinct nat_eq places → length cs ≤ length places → AllByRecursion (λ x. value_at cs x ≡ 0) places → AreZero cs
unfolding value_at
zero_polynomial places [] o lows apart few zeros = tt
zero_polynomial [] (c ∷ cs) o lows apart few zeros = absurd (omega arith)
zero_polynomial (p ∷ ps) (c ∷ cs) o lows apart few zeros =
    let rest = zero_from_quotient p cs
    (zero_polynomial ps (quotient p cs) (quotient-octets p cs o.1) lows.1 (IsDistinct-tail nat_eq p ps apart)
    (omega (arith, length-quotient p cs))
    (quotient-zeros p c cs ps o lows.0 lows.1 (IsDistinct-head nat_eq p ps apart) zeros.0 zeros.1)) in
    (sym (xor_zero_r c) ∙ ap (bit_xor c) (sym (ap (product p) (value_at_zero cs p rest) ∙ product-zero p)) ∙ zeros.0, rest)

-- the sum of two polynomials
pub added : List ℕ → List ℕ → List ℕ
added [] ds = ds
added (c ∷ cs) [] = c ∷ cs
added (c ∷ cs) (d ∷ ds) = bit_xor c d ∷ added cs ds

pub value_at-added : (cs ds : List ℕ) (x : ℕ) → value_at (added cs ds) x ≡ bit_xor (value_at cs x) (value_at ds x)
unfolding value_at added
value_at-added [] ds x = sym (xor_zero_l (value_at ds x))
value_at-added (c ∷ cs) [] x = sym (xor_zero_r (value_at (c ∷ cs) x))
value_at-added (c ∷ cs) (d ∷ ds) x =
    ap (λ n. bit_xor (bit_xor c d) (product x n)) (value_at-added cs ds x)
    ∙ ap (bit_xor (bit_xor c d)) (product-xor_r x (value_at cs x) (value_at ds x))
    ∙ xor_four c d (product x (value_at cs x)) (product x (value_at ds x))

pub added-octets : (cs ds : List ℕ) → AreElements cs → AreElements ds → AreElements (added cs ds)
unfolding added
added-octets [] ds p q = q
added-octets (c ∷ cs) [] p q = p
added-octets (c ∷ cs) (d ∷ ds) p q = (xor_lt 8 c d p.0 q.0, added-octets cs ds p.1 q.1)

pub length-added : (cs ds : List ℕ) → length cs ≡ length ds → length (added cs ds) ≡ length cs
unfolding added
length-added [] ds h = sym h
length-added (c ∷ cs) [] h = refl
length-added (c ∷ cs) (d ∷ ds) h = ap suc (length-added cs ds (omega arith))

same_from_added : (cs ds : List ℕ) → length cs ≡ length ds → AreZero (added cs ds) → cs ≡ ds
unfolding added
same_from_added [] [] e h = refl
same_from_added [] (d ∷ ds) e h = absurd (omega arith)
same_from_added (c ∷ cs) [] e h = absurd (omega arith)
same_from_added (c ∷ cs) (d ∷ ds) e h =
    ap (λ n. n ∷ cs) (same_from_xor c d h.0) ∙ ap (λ ns. d ∷ ns) (same_from_added cs ds (omega arith) h.1)

added-zeros : (cs ds places : List ℕ) → map (value_at cs) places ≡ map (value_at ds) places → AllByRecursion (λ x. value_at (added cs ds) x ≡ 0) places
added-zeros cs ds [] e = tt
added-zeros cs ds (x ∷ xs) e =
    let same : value_at cs x ≡ value_at ds x = cc in
    let rest : map (value_at cs) xs ≡ map (value_at ds) xs = cc in
    (value_at-added cs ds x ∙ ap (λ n. bit_xor n (value_at ds x)) same ∙ xor_self (value_at ds x), added-zeros cs ds xs rest)

-- through points with different places goes at most one polynomial
pub same_polynomial : (cs ds places values : List ℕ) → AreElements places → IsDistinct nat_eq places → GoesThrough cs places values → GoesThrough ds places values → cs ≡ ds
same_polynomial cs ds places values lows apart p q =
    let alike : length cs ≡ length ds = p.few ∙ sym q.few in
    same_from_added cs ds alike
    (zero_polynomial places (added cs ds) (added-octets cs ds p.octets q.octets) lows apart
    (omega (arith, length-added cs ds alike, p.few))
    (added-zeros cs ds places (p.meets ∙ sym q.meets)))
