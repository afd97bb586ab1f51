-- Steps of the loops over places.
use Rattle.std.proofs.Common.{◌≡◌, ℕ, suc, ◌+◌, ◌-◌, ◌*◌, ◌%◌, ◌<◌, ◌≤◌, refl, sym, ap, ◌∙◌, ◌⊎◌, inl, inr, arith, List, [], ◌∷◌, ◌++◌, map, set, length, get_or, drop, zero-add}
use Rattle.std.specs.Prelude.{bit_xor, nat_eq}
use Rattle.std.specs.List.{IsDistinct}
use Rattle.std.specs.Int.Bits.{xor_assoc, xor_zero_l, xor_zero_r}
use Rattle.std.proofs.Math.Seq.{drop-cons}
use Rattle.std.proofs.Math.Nat.{mod-eq_of_lt, mod-lt, mul-le-mul_right}
use Rattle.std.proofs.lemmas.Nat.{xor_lt}
use Rattle.std.proofs.lemmas.Bool.{cases_lt}
use Rattle.std.proofs.lemmas.List.{drop_all, ext_get_or, get_or-map, get_or-set_other, get_or-set_same, length-map}
use Rattle.std.proofs.lemmas.List.Elements.{All-from_recursion}
use Rattle.norm_base.specs.Octets.{AreOctets}
use Rattle.gf_field.specs.Element.{AreElements}
use Rattle.gf_field.specs.Product.{product, four_products}
use Rattle.gf_field.specs.Power.{power}
use Rattle.gf_field.specs.Inverse.{inverse}
use Rattle.gf_field.specs.Interpolation.{differences, others, coefficient, weighted_sum, interpolated}
use Rattle.rs_block.specs.Column.{column}
use Rattle.rs_block.specs.Points.{AreWeights, weight_at}
use Rattle.rs_block.specs.Row.{coefficients, combined}
use Rattle.gf_field.proofs.Powers.{power-lt, power-add, power_255, power_mod}
use Rattle.std.proofs.lemmas.List.FromFn.{length-map-range_with_len, get_or-map-range_with_len}
use Rattle.gf_field.proofs.Products.{product_assoc, product_comm, one-product_octet, product-one_octet}
use Rattle.gf_field.proofs.Inverses.{cancel, same_inverse, positive_from_product}
use Rattle.gf_field.proofs.Places.{elements_of_octets}
use Rattle.gf_field.proofs.Polynomials.{difference-pos}
use Rattle.gf_field.proofs.Interpolations.{Among, all_among, differences-lt, differences-others, others-same, others-other}

pub drop_next : (xs : List ℕ) (i : ℕ) → i < length xs → drop i xs ≡ get_or xs i 0 ∷ drop (i + 1) xs
drop_next xs i h = drop-cons xs i 0 h ∙ ap (λ n. get_or xs i 0 ∷ drop n xs) (let e : suc i ≡ i + 1 = omega arith in e)

-- ---- the logarithm of the product of all differences

pub differences_begin : (ps : List ℕ) (x : ℕ) → product (power 0) (differences (drop 0 ps) x) ≡ differences ps x
unfolding power
differences_begin ps x = one-product_octet (differences ps x) (differences-lt ps x)

pub differences_go_on : (ps : List ℕ) (i total log x : ℕ) → i < length ps → power log ≡ bit_xor x (get_or ps i 0)
    → product (power (total + log)) (differences (drop (i + 1) ps) x) ≡ product (power total) (differences (drop i ps) x)
unfolding differences
differences_go_on ps i total log x h is =
    ap (λ n. product n (differences (drop (i + 1) ps) x)) (power-add total log)
    ∙ product_assoc (power total) (power log) (differences (drop (i + 1) ps) x)
    ∙ ap (λ d. product (power total) (product d (differences (drop (i + 1) ps) x))) is
    ∙ ap (λ qs. product (power total) (differences qs x)) (sym (drop_next ps i h))

pub differences_end : (ps : List ℕ) (i total x : ℕ) → length ps ≤ i → product (power total) (differences (drop i ps) x) ≡ power total
unfolding differences
differences_end ps i total x h =
    ap (λ qs. product (power total) (differences qs x)) (drop_all i ps h) ∙ product-one_octet (power total) (power-lt total)

-- ---- the logarithm of the product of the other differences

pub others_begin : (ps : List ℕ) (m : ℕ) → product (power 0) (differences (others m (drop 0 ps)) m) ≡ differences (others m ps) m
unfolding power
others_begin ps m = one-product_octet (differences (others m ps) m) (differences-lt (others m ps) m)

pub others_go_on : (ps : List ℕ) (i total log m : ℕ) → i < length ps → (get_or ps i 0 ≡ m → ⊥) → power log ≡ bit_xor m (get_or ps i 0)
    → product (power (total + log)) (differences (others m (drop (i + 1) ps)) m) ≡ product (power total) (differences (others m (drop i ps)) m)
unfolding differences
others_go_on ps i total log m h differ is =
    ap (λ n. product n (differences (others m (drop (i + 1) ps)) m)) (power-add total log)
    ∙ product_assoc (power total) (power log) (differences (others m (drop (i + 1) ps)) m)
    ∙ ap (λ d. product (power total) (product d (differences (others m (drop (i + 1) ps)) m))) is
    ∙ ap (λ qs. product (power total) (differences qs m)) (sym (ap (others m) (drop_next ps i h) ∙ others-other m (get_or ps i 0) (drop (i + 1) ps) differ))

pub others_pass : (ps : List ℕ) (i total m : ℕ) → i < length ps → get_or ps i 0 ≡ m
    → product (power total) (differences (others m (drop (i + 1) ps)) m) ≡ product (power total) (differences (others m (drop i ps)) m)
others_pass ps i total m h same =
    ap (λ qs. product (power total) (differences qs m)) (sym (ap (others m) (drop_next ps i h) ∙ others-same m (get_or ps i 0) (drop (i + 1) ps) (sym same)))

pub others_end : (ps : List ℕ) (i total m : ℕ) → length ps ≤ i → product (power total) (differences (others m (drop i ps)) m) ≡ power total
unfolding differences
others_end ps i total m h =
    ap (λ qs. product (power total) (differences (others m qs) m)) (drop_all i ps h) ∙ product-one_octet (power total) (power-lt total)

-- an exponent and the one that fills it up to the order give inverses
pub inverse_power : (a i : ℕ) → a < 256 → i ≤ 255 → power i ≡ a → power (255 - i) ≡ inverse a
inverse_power a i low most is =
    let one : product a (power (255 - i)) ≡ 1 =
    ap (λ n. product n (power (255 - i))) (sym is) ∙ sym (power-add i (255 - i)) ∙ ap power (let e : i + (255 - i) ≡ 255 = omega arith in e) ∙ power_255 in
    same_inverse a (power (255 - i)) (positive_from_product a (power (255 - i)) one) low (power-lt (255 - i)) one

-- octets that differ have a difference
pub differ : (x m : ℕ) → (m ≡ x → ⊥) → bit_xor x m ≡ 0 → ⊥
differ x m h z = let above : 0 < bit_xor x m = difference-pos x m h in absurd (omega arith)

pub ruleset others_steps = (others_go_on, others_pass, differ)

pub weight_is : (ps : List ℕ) (m log : ℕ) → power log ≡ differences (others m ps) m → power (255 - log % 255) ≡ weight_at ps m
unfolding weight_at
weight_is ps m log is =
    inverse_power (differences (others m ps) m) (log % 255) (differences-lt (others m ps) m) (let h : log % 255 < 255 = mod-lt log (omega arith) in omega arith) (power_mod log ∙ is)

-- ---- a coefficient from the product of all differences and a weight

pub coefficient_from_all : (ps : List ℕ) (m x : ℕ) → AreElements ps → IsDistinct nat_eq ps → Among m ps → m < 256 → x < 256 → (m ≡ x → ⊥)
    → product (product (differences ps x) (inverse (bit_xor x m))) (inverse (differences (others m ps) m)) ≡ coefficient ps m x
unfolding coefficient
coefficient_from_all ps m x o d h m_low x_low differ =
    ap (λ n. product n (inverse (differences (others m ps) m)))
    (ap (λ n. product n (inverse (bit_xor x m))) (differences-others m x ps d h)
    ∙ product_comm (product (bit_xor x m) (differences (others m ps) x)) (inverse (bit_xor x m))
    ∙ cancel (bit_xor x m) (differences (others m ps) x) (difference-pos x m differ) (xor_lt 8 x m x_low m_low)
    ∙ mod-eq_of_lt (differences-lt (others m ps) x))

-- the same by logarithms
pub coefficient_by_logs : (all log weight x m : ℕ) → x < 256 → m < 256 → log ≤ 255 → power log ≡ bit_xor x m
    → power (all + (255 - log) + weight) ≡ product (product (power all) (inverse (bit_xor x m))) (power weight)
coefficient_by_logs all log weight x m x_low m_low most is =
    power-add (all + (255 - log)) weight
    ∙ ap (λ n. product n (power weight)) (power-add all (255 - log))
    ∙ ap (λ n. product (product (power all) n) (power weight)) (inverse_power (bit_xor x m) log (xor_lt 8 x m x_low m_low) most is)

-- ---- columns

pub length-column : (k size : ℕ) (symbols : List ℕ) (t : ℕ) → length (column k size symbols t) ≡ k
unfolding column
length-column k size symbols t = length-map-range_with_len (λ i. get_or symbols (i * size + t) 0) 0 k

pub get_or-column : (k size : ℕ) (symbols : List ℕ) (t i : ℕ) → i < k → get_or (column k size symbols t) i 0 ≡ get_or symbols (i * size + t) 0
unfolding column
get_or-column k size symbols t i h =
    get_or-map-range_with_len (λ j. get_or symbols (j * size + t) 0) 0 k i i 0 h (zero-add i)

pub entry_is : (ps ws : List ℕ) (i x all entry : ℕ) → AreOctets ps → IsDistinct nat_eq ps → AreWeights ps ws → i < length ps → x < 256 → (get_or ps i 0 ≡ x → ⊥) → power all ≡ differences ps x
    → entry ≡ product (product (power all) (inverse (bit_xor x (get_or ps i 0)))) (power (get_or ws i 0)) → entry ≡ coefficient ps (get_or ps i 0) x
unfolding weight_at
entry_is ps ws i x all entry o d w h low away e entry_e =
    entry_e
    ∙ ap (λ n. product (product (power all) (inverse (bit_xor x (get_or ps i 0)))) n) (w.each i h)
    ∙ ap (λ n. product (product n (inverse (bit_xor x (get_or ps i 0)))) (inverse (differences (others (get_or ps i 0) ps) (get_or ps i 0)))) e
    ∙ coefficient_from_all ps (get_or ps i 0) x (elements_of_octets ps o) d
    (All-from_recursion (λ q. Among q ps) ps (all_among ps) i 0 h) (o i) low away

-- a row that has each coefficient is the row
pub row_is : (ps row : List ℕ) (x : ℕ) → length row ≡ length ps → ((i : ℕ) → i < length ps → get_or row i 0 ≡ coefficient ps (get_or ps i 0) x) → row ≡ coefficients ps x
row_is ps row x count each =
    ext_get_or 0 row (coefficients ps x) (count ∙ sym (length-map ps (λ m. coefficient ps m x)))
    (λ i h. each i (omega arith) ∙ sym (get_or-map (λ m. coefficient ps m x) ps i 0 0 (omega arith)))

-- ---- sums by a row

combined_goes_on : (row vs : List ℕ) (i sum : ℕ) → i < length row → i < length vs
    → bit_xor (bit_xor sum (product (get_or row i 0) (get_or vs i 0))) (combined (drop (i + 1) row) (drop (i + 1) vs)) ≡ bit_xor sum (combined (drop i row) (drop i vs))
unfolding combined
combined_goes_on row vs i sum h l =
    xor_assoc sum (product (get_or row i 0) (get_or vs i 0)) (combined (drop (i + 1) row) (drop (i + 1) vs))
    ∙ sym (ap (λ cs. bit_xor sum (combined cs (drop i vs))) (drop_next row i h)
    ∙ ap (λ ws. bit_xor sum (combined (get_or row i 0 ∷ drop (i + 1) row) ws)) (drop_next vs i l))

combined_ends : (row vs : List ℕ) (i sum : ℕ) → length row ≤ i → bit_xor sum (combined (drop i row) (drop i vs)) ≡ sum
unfolding combined
combined_ends row vs i sum h =
    ap (λ cs. bit_xor sum (combined cs (drop i vs))) (drop_all i row h) ∙ xor_zero_r sum

-- the rest of the sum, from place i on, added to what stands in `out`, is the whole sum added to what stood there
abbrev pub IsSummed : List ℕ → List ℕ → List ℕ → ℕ → ℕ → List ℕ → Type 0
IsSummed row symbols old size i out =
    (t : ℕ) → t < size → bit_xor (get_or out t 0) (combined (drop i row) (drop i (column (length row) size symbols t)))
    ≡ bit_xor (get_or old t 0) (combined row (column (length row) size symbols t))

pub summed_end : (row symbols old : List ℕ) (size i : ℕ) (out : List ℕ) → length row ≤ i → IsSummed row symbols old size i out
    → (t : ℕ) → t < size → get_or out t 0 ≡ bit_xor (get_or old t 0) (combined row (column (length row) size symbols t))
summed_end row symbols old size i out end h t lt =
    sym (combined_ends row (column (length row) size symbols t) i (get_or out t 0) end) ∙ h t lt

pub summed_go_on : (row symbols old : List ℕ) (size i : ℕ) (out next symbol : List ℕ) → i < length row
    → ((t : ℕ) → t < size → get_or next t 0 ≡ bit_xor (get_or out t 0) (product (get_or row i 0) (get_or symbol t 0)))
    → ((t : ℕ) → t < size → get_or symbol t 0 ≡ get_or symbols (i * size + t) 0)
    → IsSummed row symbols old size i out → IsSummed row symbols old size (i + 1) next
summed_go_on row symbols old size i out next symbol h next_e symbol_e before t lt =
    let values : List ℕ = column (length row) size symbols t in
    let rest : ℕ = combined (drop (i + 1) row) (drop (i + 1) values) in
    let fits : i < length values = omega (arith, length-column (length row) size symbols t) in
    ap (λ n. bit_xor n rest) (next_e t lt)
    ∙ ap (λ n. bit_xor (bit_xor (get_or out t 0) (product (get_or row i 0) n)) rest) (symbol_e t lt ∙ sym (get_or-column (length row) size symbols t i h))
    ∙ combined_goes_on row values i (get_or out t 0) h fits
    ∙ before t lt

combined_next : (row vs : List ℕ) (i j sum : ℕ) → j ≡ i + 1 → i < length row → i < length vs
    → bit_xor (bit_xor sum (product (get_or row i 0) (get_or vs i 0))) (combined (drop j row) (drop j vs)) ≡ bit_xor sum (combined (drop i row) (drop i vs))
combined_next row vs i j sum e h l =
    ap (λ n. bit_xor (bit_xor sum (product (get_or row i 0) (get_or vs i 0))) (combined (drop n row) (drop n vs))) e
    ∙ combined_goes_on row vs i sum h l

-- four summands at once
four_apart : (sum p q r s : ℕ) → bit_xor sum (bit_xor (bit_xor (bit_xor p q) r) s) ≡ bit_xor (bit_xor (bit_xor (bit_xor sum p) q) r) s
four_apart sum p q r s =
    sym (xor_assoc sum (bit_xor (bit_xor p q) r) s)
    ∙ ap (λ n. bit_xor n s)
    (sym (xor_assoc sum (bit_xor p q) r) ∙ ap (λ n. bit_xor n r) (sym (xor_assoc sum p q)))

combined_four : (row vs : List ℕ) (i sum : ℕ) → i + 4 ≤ length row → length row ≡ length vs
    → bit_xor (bit_xor sum (bit_xor (bit_xor (bit_xor (product (get_or row i 0) (get_or vs i 0)) (product (get_or row (i + 1) 0) (get_or vs (i + 1) 0)))
    (product (get_or row (i + 2) 0) (get_or vs (i + 2) 0))) (product (get_or row (i + 3) 0) (get_or vs (i + 3) 0)))) (combined (drop (i + 4) row) (drop (i + 4) vs))
    ≡ bit_xor sum (combined (drop i row) (drop i vs))
combined_four row vs i sum h same =
    let p : ℕ = product (get_or row i 0) (get_or vs i 0) in
    let q : ℕ = product (get_or row (i + 1) 0) (get_or vs (i + 1) 0) in
    let r : ℕ = product (get_or row (i + 2) 0) (get_or vs (i + 2) 0) in
    let s : ℕ = product (get_or row (i + 3) 0) (get_or vs (i + 3) 0) in
    ap (λ n. bit_xor n (combined (drop (i + 4) row) (drop (i + 4) vs))) (four_apart sum p q r s)
    ∙ combined_next row vs (i + 3) (i + 4) (bit_xor (bit_xor (bit_xor sum p) q) r) (omega arith) (omega arith) (omega arith)
    ∙ combined_next row vs (i + 2) (i + 3) (bit_xor (bit_xor sum p) q) (omega arith) (omega arith) (omega arith)
    ∙ combined_next row vs (i + 1) (i + 2) (bit_xor sum p) (omega arith) (omega arith) (omega arith)
    ∙ combined_next row vs i (i + 1) sum (omega arith) (omega arith) (omega arith)

alike : (p q r s p' q' r' s' : ℕ) → p ≡ p' → q ≡ q' → r ≡ r' → s ≡ s' → bit_xor (bit_xor (bit_xor p q) r) s ≡ bit_xor (bit_xor (bit_xor p' q') r') s'
alike p q r s p' q' r' s' a b c d = cc

-- a symbol lies within k symbols
pub within_symbols : (k j size len : ℕ) → j < k → k * size ≤ len → j * size + size ≤ len
within_symbols k j size len lt fits =
    let m : (j + 1) * size ≤ k * size = mul-le-mul_right size (omega arith) in
    omega (arith, fits, m)

-- the octets of symbol i
abbrev pub IsAt : List ℕ → ℕ → ℕ → List ℕ → Type 0
IsAt symbols size i symbol = (t : ℕ) → t < size → get_or symbol t 0 ≡ get_or symbols (i * size + t) 0

pub summed_four : (row symbols old : List ℕ) (size i : ℕ) (out next a b c d : List ℕ) → i + 4 ≤ length row
    → ((t : ℕ) → t < size → get_or next t 0 ≡ bit_xor (get_or out t 0)
    (four_products (get_or row i 0 ∷ get_or row (i + 1) 0 ∷ get_or row (i + 2) 0 ∷ get_or row (i + 3) 0 ∷ []) a b c d t))
    → IsAt symbols size i a → IsAt symbols size (i + 1) b → IsAt symbols size (i + 2) c → IsAt symbols size (i + 3) d
    → IsSummed row symbols old size i out → IsSummed row symbols old size (i + 4) next
summed_four row symbols old size i out next a b c d h next_e a_e b_e c_e d_e before t lt =
    let vs : List ℕ = column (length row) size symbols t in
    let rest : ℕ = combined (drop (i + 4) row) (drop (i + 4) vs) in
    let sum : ℕ = get_or out t 0 in
    let same : length row ≡ length vs = sym (length-column (length row) size symbols t) in
    let v : ℕ → ℕ = λ m. product (get_or row m 0) (get_or vs m 0) in
    let at : (m : ℕ) (xs : List ℕ) → m < length row → IsAt symbols size m xs → product (get_or row m 0) (get_or xs t 0) ≡ v m =
    (λ m xs l e. ap (product (get_or row m 0)) (e t lt ∙ sym (get_or-column (length row) size symbols t m l))) in
    ap (λ n. bit_xor n rest) (next_e t lt)
    ∙ ap (λ n. bit_xor (bit_xor sum n) rest)
    (alike (product (get_or row i 0) (get_or a t 0)) (product (get_or row (i + 1) 0) (get_or b t 0)) (product (get_or row (i + 2) 0) (get_or c t 0))
    (product (get_or row (i + 3) 0) (get_or d t 0)) (v i) (v (i + 1)) (v (i + 2)) (v (i + 3))
    (at i a (omega arith) a_e) (at (i + 1) b (omega arith) b_e) (at (i + 2) c (omega arith) c_e) (at (i + 3) d (omega arith) d_e))
    ∙ combined_four row vs i sum h same
    ∙ before t lt

-- the sum by the row of coefficients is the formula's value
pub combined_is : (places ms vs : List ℕ) (x : ℕ) → combined (map (λ m. coefficient places m x) ms) vs ≡ weighted_sum places ms vs x
unfolding combined weighted_sum
combined_is places [] vs x = refl
combined_is places (m ∷ ms) [] x = refl
combined_is places (m ∷ ms) (v ∷ vs) x = ap (bit_xor (product (coefficient places m x) v)) (combined_is places ms vs x)

pub interpolated_by_row : (places vs : List ℕ) (x : ℕ) → combined (coefficients places x) vs ≡ interpolated places vs x
unfolding interpolated
interpolated_by_row places vs x = combined_is places places vs x

-- two sums one after the other
pub combined-append : (cs ds vs ws : List ℕ) → length cs ≡ length vs → combined (cs ++ ds) (vs ++ ws) ≡ bit_xor (combined cs vs) (combined ds ws)
unfolding combined
combined-append [] ds [] ws e = sym (xor_zero_l (combined ds ws))
combined-append [] ds (v ∷ vs) ws e = absurd (omega arith)
combined-append (c ∷ cs) ds [] ws e = absurd (omega arith)
combined-append (c ∷ cs) ds (v ∷ vs) ws e =
    ap (bit_xor (product c v)) (combined-append cs ds vs ws (omega arith)) ∙ sym (xor_assoc (product c v) (combined cs vs) (combined ds ws))

-- what the loops and calls leave

pub entry_set : (ps : List ℕ) (x : ℕ) (row : List ℕ) (i entry : ℕ) → i < length row
    → ((k : ℕ) → k < i → get_or row k 0 ≡ coefficient ps (get_or ps k 0) x) → entry ≡ coefficient ps (get_or ps i 0) x
    → (k : ℕ) → k < i + 1 → get_or (set row i entry) k 0 ≡ coefficient ps (get_or ps k 0) x
entry_set ps x row i entry h before is k lt = go (cases_lt k i)
  where
    go : (k < i) ⊎ (i ≤ k) → get_or (set row i entry) k 0 ≡ coefficient ps (get_or ps k 0) x
    go (inl l) = get_or-set_other row i k entry 0 (λ e. absurd (omega (arith, e))) ∙ before k l
    go (inr g) =
        let e : k ≡ i = omega arith in
        ap (λ n. get_or (set row i entry) n 0) e ∙ get_or-set_same row i entry 0 h ∙ is ∙ ap (λ n. coefficient ps (get_or ps n 0) x) (sym e)

pub recovered_octet : (ids places row symbols : List ℕ) (filled width size j t x v : ℕ) → row ≡ coefficients places x → places ≡ map power ids → x ≡ power j → filled ≡ 0 → width ≡ size
    → v ≡ bit_xor filled (combined row (column (length row) width symbols t)) → v ≡ interpolated (map power ids) (column (length ids) size symbols t) (power j)
recovered_octet ids places row symbols filled width size j t x v row_e places_e at zero wide is =
    let row_at : row ≡ coefficients (map power ids) (power j) = row_e ∙ ap (λ ps. coefficients ps x) places_e ∙ ap (coefficients (map power ids)) at in
    let count : length row ≡ length ids = ap (λ r. length r) row_at ∙ length-map (map power ids) (λ m. coefficient (map power ids) m (power j)) ∙ length-map ids power in
    is
    ∙ ap (λ n. bit_xor n (combined row (column (length row) width symbols t))) zero
    ∙ xor_zero_l (combined row (column (length row) width symbols t))
    ∙ ap (λ n. combined row (column n width symbols t)) count
    ∙ ap (λ n. combined row (column (length ids) n symbols t)) wide
    ∙ ap (λ r. combined r (column (length ids) size symbols t)) row_at
    ∙ interpolated_by_row (map power ids) (column (length ids) size symbols t) (power j)
