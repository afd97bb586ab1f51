-- Weights of a block's places from those of the first powers: one place after the other gives way to that of the symbol that lies there.
use Rattle.std.proofs.Common.{◌≡◌, ℕ, zero, suc, ◌+◌, ◌-◌, ◌%◌, ◌<◌, ◌≤◌, ◌⊎◌, inl, inr, refl, sym, ap, ◌∙◌, subst, arith, List, [], ◌∷◌, ◌++◌, map, set, length, get_or, take, drop, append_assoc}
use Rattle.std.specs.Prelude.{bit_xor, nat_eq, not, ◌==◌}
use Rattle.std.specs.List.{IsDistinct, range_with_len}
use Rattle.std.proofs.Math.Seq.{take-suc}
use Rattle.std.proofs.lemmas.Bool.{cases_eq, cases_lt, cases_order}
use Rattle.std.proofs.Math.Nat.{mod-eq_of_lt, mod-lt}
use Rattle.std.proofs.lemmas.List.{append-nil, drop_all, ext_get_or, get_or-map, get_or-set_other, get_or-set_same, length-map, take_all}
use Rattle.std.proofs.lemmas.List.Elements.{All-from_recursion, filter-append}
use Rattle.gf_field.specs.Element.{AreElements}
use Rattle.gf_field.specs.Product.{product}
use Rattle.gf_field.specs.Power.{power, powers}
use Rattle.gf_field.specs.Inverse.{inverse}
use Rattle.gf_field.specs.Interpolation.{differences, others}
use Rattle.gf_field.specs.Symbol.{AreIds}
use Rattle.gf_field.proofs.Powers.{power-lt, power-add, power_255, power_mod, same_from_power}
use Rattle.gf_field.proofs.Linear.{product-xor_r}
use Rattle.gf_field.proofs.Products.{product_assoc, product_comm, product_left, one-product_octet, product-one_octet}
use Rattle.gf_field.proofs.Inverses.{cancel, same_inverse, positive_from_product}
use Rattle.gf_field.proofs.Places.{distinct_from_pairs, length-powers, powers_differ, powers_octets, range_below, range_differs}
use Rattle.gf_field.proofs.Interpolations.{Among, all_among, differences-lt, length-others, others-other, others-same}
use Rattle.rs_block.specs.Points.{IsWeight, weight_at}
use Rattle.rs_block.proofs.Formula.{differ, drop_next}
use Rattle.rs_block.proofs.Rows.{power_at}
use Rattle.rs_block.proofs.Words.{powers_more}

-- ---- one logarithm

-- the logarithm of a weight, after a difference with the logarithm b took the place of one with the logarithm a
pub exchanged_by_logs : (log a b u v : ℕ) → b ≤ 255 → power a ≡ u → power b ≡ v
    → product (power ((log + a + (255 - b)) % 255)) v ≡ product (power log) u
exchanged_by_logs log a b u v most u_is v_is =
    ap (product (power ((log + a + (255 - b)) % 255))) (sym v_is)
    ∙ ap (λ n. product n (power b)) (power_mod (log + a + (255 - b)))
    ∙ sym (power-add (log + a + (255 - b)) b)
    ∙ ap power (let e : log + a + (255 - b) + b ≡ log + a + 255 = omega arith in e)
    ∙ power-add (log + a) 255
    ∙ ap (product (power (log + a))) power_255
    ∙ product-one_octet (power (log + a)) (power-lt (log + a))
    ∙ power-add log a
    ∙ ap (product (power log)) u_is

-- ---- products of differences

differences-append : (xs ys : List ℕ) (x : ℕ) → differences (xs ++ ys) x ≡ product (differences xs x) (differences ys x)
unfolding differences
differences-append [] ys x = sym (one-product_octet (differences ys x) (differences-lt ys x))
differences-append (p ∷ xs) ys x =
    ap (product (bit_xor x p)) (differences-append xs ys x)
    ∙ sym (product_assoc (bit_xor x p) (differences xs x) (differences ys x))

-- the differences to all others, of which one is a
with_place : (m a : ℕ) (xs ys : List ℕ) → (a ≡ m → ⊥)
    → differences (others m (xs ++ (a ∷ ys))) m ≡ product (bit_xor m a) (product (differences (others m xs) m) (differences (others m ys) m))
unfolding differences
with_place m a xs ys other =
    ap (λ l. differences l m) (filter-append (λ p. not (p == m)) xs (a ∷ ys) ∙ ap (λ l. others m xs ++ l) (others-other m a ys other))
    ∙ differences-append (others m xs) (a ∷ others m ys) m
    ∙ product_left (differences (others m xs) m) (bit_xor m a) (differences (others m ys) m)

exchange_place : (m a b w w' : ℕ) (xs ys : List ℕ) → (a ≡ m → ⊥) → (b ≡ m → ⊥) → product w' (bit_xor m b) ≡ product w (bit_xor m a)
    → product w (differences (others m (xs ++ (a ∷ ys))) m) ≡ 1 → product w' (differences (others m (xs ++ (b ∷ ys))) m) ≡ 1
exchange_place m a b w w' xs ys a_other b_other is one =
    let rest : ℕ = product (differences (others m xs) m) (differences (others m ys) m) in
    ap (product w') (with_place m b xs ys b_other)
    ∙ sym (product_assoc w' (bit_xor m b) rest)
    ∙ ap (λ n. product n rest) is
    ∙ product_assoc w (bit_xor m a) rest
    ∙ ap (product w) (sym (with_place m a xs ys a_other))
    ∙ one

-- ---- places of which the first d are those of the symbols that lie there

abbrev pub mixed : ℕ → List ℕ → List ℕ → List ℕ
mixed d ps ss = take d ps ++ drop d ss

mixed_here : (d : ℕ) (ps ss : List ℕ) → d < length ss → mixed d ps ss ≡ take d ps ++ (get_or ss d 0 ∷ drop (d + 1) ss)
mixed_here d ps ss h = ap (λ l. take d ps ++ l) (drop_next ss d h)

take_next : (xs : List ℕ) (i : ℕ) → i < length xs → take (i + 1) xs ≡ take i xs ++ (get_or xs i 0 ∷ [])
take_next xs i h = ap (λ n. take n xs) (let e : i + 1 ≡ suc i = omega arith in e) ∙ take-suc xs i 0 h

mixed_next : (d : ℕ) (ps ss : List ℕ) → d < length ps → mixed (d + 1) ps ss ≡ take d ps ++ (get_or ps d 0 ∷ drop (d + 1) ss)
mixed_next d ps ss h =
    ap (λ l. l ++ drop (d + 1) ss) (take_next ps d h) ∙ append_assoc (take d ps) (get_or ps d 0 ∷ []) (drop (d + 1) ss)

-- the weights of the places whose symbol is their own, among the mixed places
abbrev pub AreMixed : List ℕ → List ℕ → List ℕ → ℕ → Type 0
AreMixed ids ps ws d =
    (i : ℕ) → i < length ids → get_or ids i 0 ≡ i
    → IsWeight (mixed d ps (powers (length ids))) (get_or ps i 0) (get_or ws i 0)

own_place : (ids ps : List ℕ) (i : ℕ) → ps ≡ map power ids → i < length ids → get_or ids i 0 ≡ i → get_or ps i 0 ≡ power i
own_place ids ps i e h own = ap (λ qs. get_or qs i 0) e ∙ get_or-map power ids i 0 0 h ∙ ap power own

pub mixed_begins : (ids ps ws : List ℕ) → ps ≡ map power ids → ((i : ℕ) → i < length ids → IsWeight (powers (length ids)) (power i) (get_or ws i 0)) → AreMixed ids ps ws 0
mixed_begins ids ps ws e each i h is =
    ap (λ m. product (power (get_or ws i 0)) (differences (others m (powers (length ids))) m)) (own_place ids ps i e h is) ∙ each i h

-- a place whose symbol is its own stays as it is
pub mixed_same : (ids ps ws : List ℕ) (d : ℕ) → ps ≡ map power ids → d < length ids → get_or ids d 0 ≡ d → AreMixed ids ps ws d → AreMixed ids ps ws (d + 1)
mixed_same ids ps ws d e h own before i i_lt is =
    let ss : List ℕ = powers (length ids) in
    let long : d < length ps = omega (arith, ap length e, length-map ids power) in
    let same : mixed (d + 1) ps ss ≡ mixed d ps ss =
    mixed_next d ps ss long
    ∙ ap (λ a. take d ps ++ (a ∷ drop (d + 1) ss)) (own_place ids ps d e h own ∙ sym (power_at (length ids) d h))
    ∙ sym (mixed_here d ps ss (omega (arith, length-powers (length ids)))) in
    ap (λ qs. product (power (get_or ws i 0)) (differences (others (get_or ps i 0) qs) (get_or ps i 0))) same ∙ before i i_lt is

-- no other place is that of an own symbol
pub away_old : (ids ps : List ℕ) (d i : ℕ) → ps ≡ map power ids → length ids ≤ 255 → d < length ids → (get_or ids d 0 ≡ d → ⊥) → i < length ids → get_or ids i 0 ≡ i
    → get_or ps i 0 ≡ power d → ⊥
away_old ids ps d i e few h other i_lt is same =
    let at : i ≡ d = same_from_power i d (omega arith) (omega arith) (sym (own_place ids ps i e i_lt is) ∙ same) in
    other (ap (λ n. get_or ids n 0) (sym at) ∙ is ∙ at)

pub away_new : (ids ps : List ℕ) (d i : ℕ) → ps ≡ map power ids → AreIds (length ids) 255 ids → length ids ≤ 255 → d < length ids → (get_or ids d 0 ≡ d → ⊥) → i < length ids → get_or ids i 0 ≡ i
    → get_or ps i 0 ≡ power (get_or ids d 0) → ⊥
away_new ids ps d i e are few h other i_lt is same = go (cases_order i d)
  where
    equal : get_or ids i 0 ≡ get_or ids d 0
    equal = same_from_power (get_or ids i 0) (get_or ids d 0) (are.below i 0 i_lt) (are.below d 0 h) (ap power is ∙ sym (own_place ids ps i e i_lt is) ∙ same)

    go : (i ≡ d) ⊎ ((i < d) ⊎ (d < i)) → ⊥
    go (inl at) = other (ap (λ n. get_or ids n 0) (sym at) ∙ is ∙ at)
    go (inr (inl less)) = are.different i d 0 less h equal
    go (inr (inr more)) = are.different d i 0 more i_lt (sym equal)

-- a place gives way to another one
pub mixed_more : (ids ps ws next : List ℕ) (d old new : ℕ) → ps ≡ map power ids → AreIds (length ids) 255 ids → length ids ≤ 255 → d < length ids → (get_or ids d 0 ≡ d → ⊥)
    → old ≡ power d → new ≡ power (get_or ids d 0)
    → ((i : ℕ) → i < length ids → get_or ids i 0 ≡ i
    → product (power (get_or next i 0)) (bit_xor (get_or ps i 0) new) ≡ product (power (get_or ws i 0)) (bit_xor (get_or ps i 0) old))
    → AreMixed ids ps ws d → AreMixed ids ps next (d + 1)
mixed_more ids ps ws next d old new e are few h other old_is new_is each before i i_lt is =
    let ss : List ℕ = powers (length ids) in
    let m : ℕ = get_or ps i 0 in
    let long : d < length ps = omega (arith, ap length e, length-map ids power) in
    let place : get_or ps d 0 ≡ power (get_or ids d 0) = ap (λ qs. get_or qs d 0) e ∙ get_or-map power ids d 0 0 h in
    let here : get_or ss d 0 ≡ power d = power_at (length ids) d h in
    ap (λ qs. product (power (get_or next i 0)) (differences (others m qs) m)) (mixed_next d ps ss long)
    ∙ exchange_place m (get_or ss d 0) (get_or ps d 0) (power (get_or ws i 0)) (power (get_or next i 0)) (take d ps) (drop (d + 1) ss)
    (λ same. away_old ids ps d i e few h other i_lt is (sym same ∙ here))
    (λ same. away_new ids ps d i e are few h other i_lt is (sym same ∙ place))
    (ap (λ n. product (power (get_or next i 0)) (bit_xor m n)) (place ∙ sym new_is)
    ∙ each i i_lt is
    ∙ ap (λ n. product (power (get_or ws i 0)) (bit_xor m n)) (old_is ∙ sym here))
    (ap (λ qs. product (power (get_or ws i 0)) (differences (others m qs) m)) (sym (mixed_here d ps ss (omega (arith, length-powers (length ids))))) ∙ before i i_lt is)

-- at the end the places are the block's
pub mixed_ends : (ids ps ws : List ℕ) (d i : ℕ) → ps ≡ map power ids → length ids ≤ d → AreMixed ids ps ws d → i < length ids → get_or ids i 0 ≡ i
    → IsWeight ps (get_or ps i 0) (get_or ws i 0)
mixed_ends ids ps ws d i e h before lt is =
    let ss : List ℕ = powers (length ids) in
    let m : ℕ = get_or ps i 0 in
    let whole : mixed d ps ss ≡ ps =
    ap (λ l. take d ps ++ l) (drop_all d ss (omega (arith, length-powers (length ids)))) ∙ append-nil (take d ps) ∙ take_all d ps (omega (arith, ap length e, length-map ids power)) in
    ap (λ qs. product (power (get_or ws i 0)) (differences (others m qs) m)) (sym whole) ∙ before i lt is

-- what makes 1 with the product is its inverse
pub weight_from_one : (ps : List ℕ) (m log : ℕ) → IsWeight ps m log → power log ≡ weight_at ps m
unfolding weight_at
weight_from_one ps m log one =
    let all : ℕ = differences (others m ps) m in
    let turned : product all (power log) ≡ 1 = product_comm all (power log) ∙ one in
    same_inverse all (power log) (positive_from_product all (power log) turned) (differences-lt (others m ps) m) (power-lt log) turned

-- ---- the weights of the first powers, each from the one before

pub next_by_logs : (log a b c u v : ℕ) → b + c ≤ 510 → power a ≡ u → power b ≡ v
    → product (power ((log + a + 510 - (b + c)) % 255)) (product v (power c)) ≡ product (power log) u
next_by_logs log a b c u v most u_is v_is =
    let all : ℕ = log + a + 510 - (b + c) in
    ap (λ n. product (power (all % 255)) (product n (power c))) (sym v_is)
    ∙ ap (product (power (all % 255))) (sym (power-add b c))
    ∙ ap (λ n. product n (power (b + c))) (power_mod all)
    ∙ sym (power-add all (b + c))
    ∙ ap power (let e : all + (b + c) ≡ log + a + (255 + 255) = omega arith in e)
    ∙ power-add (log + a) (255 + 255)
    ∙ ap (product (power (log + a))) (power-add 255 255 ∙ ap (λ n. product n n) power_255 ∙ one-product_octet 1 (omega arith))
    ∙ product-one_octet (power (log + a)) (power-lt (log + a))
    ∙ power-add log a
    ∙ ap (product (power log)) u_is

double_same : (p m : ℕ) → p < 256 → m < 256 → product 2 p ≡ product 2 m → p ≡ m
double_same p m p_low m_low e =
    sym (mod-eq_of_lt p_low) ∙ sym (cancel 2 p (omega arith) (omega arith)) ∙ ap (product (inverse 2)) e ∙ cancel 2 m (omega arith) (omega arith) ∙ mod-eq_of_lt m_low

doubled : (u f y : ℕ) → product (product 2 u) (product f y) ≡ product (product 2 f) (product u y)
doubled u f y =
    product_assoc 2 u (product f y) ∙ ap (product 2) (product_left u f y) ∙ sym (product_assoc 2 f (product u y))

-- the differences of doubled places
scaled : (m : ℕ) (ps : List ℕ) → m < 256 → AreElements ps
    → differences (others (product 2 m) (map (product 2) ps)) (product 2 m) ≡ product (power (length (others m ps))) (differences (others m ps) m)
unfolding differences power
scaled m [] low octets = sym (one-product_octet 1 (omega arith))
scaled m (p ∷ ps) low octets = go (scaled m ps low octets.1) (cases_eq p m)
  where
    go : differences (others (product 2 m) (map (product 2) ps)) (product 2 m) ≡ product (power (length (others m ps))) (differences (others m ps) m)
        → (p ≡ m) ⊎ (p ≡ m → ⊥)
        → differences (others (product 2 m) (product 2 p ∷ map (product 2) ps)) (product 2 m) ≡ product (power (length (others m (p ∷ ps)))) (differences (others m (p ∷ ps)) m)
    go before (inl same) =
        ap (λ l. differences l (product 2 m)) (others-same (product 2 m) (product 2 p) (map (product 2) ps) (ap (product 2) (sym same)))
        ∙ before
        ∙ ap (λ l. product (power (length l)) (differences l m)) (sym (others-same m p ps (sym same)))
    go before (inr other) =
        ap (λ l. differences l (product 2 m)) (others-other (product 2 m) (product 2 p) (map (product 2) ps) (λ e. other (double_same p m octets.0 low e)))
        ∙ ap (λ n. product n (differences (others (product 2 m) (map (product 2) ps)) (product 2 m))) (sym (product-xor_r 2 m p))
        ∙ ap (product (product 2 (bit_xor m p))) before
        ∙ doubled (bit_xor m p) (power (length (others m ps))) (differences (others m ps) m)
        ∙ ap (λ l. product (power (length l)) (differences l m)) (sym (others-other m p ps other))

shifted : (n : ℕ) → powers (n + 1) ≡ power 0 ∷ map (product 2) (powers n)
unfolding power
shifted n =
    ext_get_or 0 (powers (n + 1)) (power 0 ∷ map (product 2) (powers n))
    (length-powers (n + 1) ∙ (let e : n + 1 ≡ suc n = omega arith in e) ∙ ap suc (sym (length-map (powers n) (product 2) ∙ length-powers n)))
    (λ i h. go i (omega (arith, length-powers (n + 1))))
  where
    go : (i : ℕ) → i < n + 1 → get_or (powers (n + 1)) i 0 ≡ get_or (power 0 ∷ map (product 2) (powers n)) i 0
    go zero h = power_at (n + 1) 0 h
    go (suc i) h =
        power_at (n + 1) (suc i) h
        ∙ ap (product 2) (sym (power_at n i (omega arith)))
        ∙ sym (get_or-map (product 2) (powers n) i 0 0 (omega (arith, length-powers n)))

-- the differences of a power to the others, one more after them
one_more_after : (n i : ℕ) → i < n → n < 255
    → differences (others (power i) (powers (n + 1))) (power i) ≡ product (bit_xor (power i) (power n)) (differences (others (power i) (powers n)) (power i))
unfolding differences
one_more_after n i lt most =
    let rest : ℕ = differences (others (power i) (powers n)) (power i) in
    ap (λ l. differences (others (power i) l) (power i)) (powers_more n)
    ∙ with_place (power i) (power n) (powers n) [] (λ e. absurd (omega (arith, same_from_power n i most (omega arith) e)))
    ∙ ap (product (bit_xor (power i) (power n))) (product-one_octet rest (differences-lt (others (power i) (powers n)) (power i)))

count_others : (n i : ℕ) → i < n → n ≤ 255 → length (others (power i) (powers n)) ≡ n - 1
count_others n i lt most =
    let differ : IsDistinct nat_eq (powers n) = distinct_from_pairs (powers n) (powers_differ (range_with_len 0 n) (range_differs n) (range_below n 255 most)) in
    let among : Among (get_or (powers n) i 0) (powers n) = All-from_recursion (λ q. Among q (powers n)) (powers n) (all_among (powers n)) i 0 (omega (arith, length-powers n)) in
    let count : suc (length (others (get_or (powers n) i 0) (powers n))) ≡ length (powers n) = length-others (get_or (powers n) i 0) (powers n) differ among in
    omega (arith, ap (λ m. length (others m (powers n))) (power_at n i lt), count, length-powers n)

-- one more before them
one_more_before : (n i : ℕ) → i < n → n < 255
    → differences (others (power (suc i)) (powers (n + 1))) (power (suc i))
    ≡ product (bit_xor (power (suc i)) (power 0)) (product (power (n - 1)) (differences (others (power i) (powers n)) (power i)))
unfolding differences power
one_more_before n i lt most =
    ap (λ l. differences (others (power (suc i)) l) (power (suc i))) (shifted n)
    ∙ ap (λ l. differences l (power (suc i))) (others-other (power (suc i)) (power 0) (map (product 2) (powers n))
    (λ e. absurd (omega (arith, same_from_power 0 (suc i) (omega arith) (omega arith) e))))
    ∙ ap (product (bit_xor (power (suc i)) (power 0)))
    (scaled (power i) (powers n) (power-lt i) (powers_octets (range_with_len 0 n))
    ∙ ap (λ c. product (power c) (differences (others (power i) (powers n)) (power i))) (count_others n i lt (omega arith)))

pub next_weight_is : (n i w w' : ℕ) → i < n → n < 255
    → product (power w') (product (bit_xor (power (suc i)) (power 0)) (power (n - 1))) ≡ product (power w) (bit_xor (power i) (power n))
    → IsWeight (powers (n + 1)) (power i) w → IsWeight (powers (n + 1)) (power (suc i)) w'
next_weight_is n i w w' lt most is one =
    let rest : ℕ = differences (others (power i) (powers n)) (power i) in
    let first : ℕ = bit_xor (power (suc i)) (power 0) in
    ap (product (power w')) (one_more_before n i lt most ∙ sym (product_assoc first (power (n - 1)) rest))
    ∙ sym (product_assoc (power w') (product first (power (n - 1))) rest)
    ∙ ap (λ x. product x rest) is
    ∙ product_assoc (power w) (bit_xor (power i) (power n)) rest
    ∙ ap (product (power w)) (sym (one_more_after n i lt most))
    ∙ one

-- the first power's differences, and its weight

pub first_begins : power 0 ≡ differences (others (power 0) (powers 1)) (power 0)
unfolding differences power
first_begins = sym (ap (λ l. differences l (power 0)) (others-same (power 0) (power 0) [] refl))

pub first_goes_on : (j total log : ℕ) → 1 ≤ j → j < 255 → power log ≡ bit_xor (power 0) (power j) → power total ≡ differences (others (power 0) (powers j)) (power 0)
    → power (total + log) ≡ differences (others (power 0) (powers (j + 1))) (power 0)
first_goes_on j total log some most is before =
    power-add total log ∙ product_comm (power total) (power log)
    ∙ ap (λ n. product n (power total)) is ∙ ap (product (bit_xor (power 0) (power j))) before
    ∙ sym (one_more_after j 0 (omega arith) most)

pub first_ends : (ps : List ℕ) (m total : ℕ) → power total ≡ differences (others m ps) m → IsWeight ps m (255 - total % 255)
first_ends ps m total is =
    let low : total % 255 < 255 = mod-lt total (omega arith) in
    ap (product (power (255 - total % 255))) (sym is ∙ sym (power_mod total))
    ∙ sym (power-add (255 - total % 255) (total % 255))
    ∙ ap power (let e : 255 - total % 255 + total % 255 ≡ 255 = omega arith in e)
    ∙ power_255

-- ---- what the loops and calls leave

pub powers_differ_at : (i j x y : ℕ) → i < 255 → j < 255 → (i ≡ j → ⊥) → x ≡ power i → y ≡ power j → bit_xor x y ≡ 0 → ⊥
powers_differ_at i j x y i_low j_low other x_is y_is =
    differ x y (λ e. other (sym (same_from_power j i j_low i_low (sym y_is ∙ e ∙ x_is))))

pub next_weight_at : (count i w w' : ℕ) → 1 ≤ i → i < count → count ≤ 255
    → product (power w') (product (bit_xor (power i) (power 0)) (power (count - 1 - 1))) ≡ product (power w) (bit_xor (power (i - 1)) (power (count - 1)))
    → IsWeight (powers count) (power (i - 1)) w → IsWeight (powers count) (power i) w'
next_weight_at count i w w' some lt most is one =
    let n : ℕ = count - 1 in
    let count_is : n + 1 ≡ count = omega arith in
    let i_is : suc (i - 1) ≡ i = omega arith in
    subst (λ c. IsWeight (powers c) (power i) w') count_is
    (subst (λ j. IsWeight (powers (n + 1)) (power j) w') i_is
    (next_weight_is n (i - 1) w w' (omega arith) (omega arith)
    (subst (λ j. product (power w') (product (bit_xor (power j) (power 0)) (power (n - 1))) ≡ product (power w) (bit_xor (power (i - 1)) (power n))) (sym i_is) is)
    (subst (λ c. IsWeight (powers c) (power (i - 1)) w) (sym count_is) one)))

pub weight_set : (n : ℕ) (ws : List ℕ) (i place entry : ℕ) → place ≡ i → i < length ws → IsWeight (powers n) (power i) entry
    → ((k : ℕ) → k < i → IsWeight (powers n) (power k) (get_or ws k 0))
    → (k : ℕ) → k < i + 1 → IsWeight (powers n) (power k) (get_or (set ws place entry) k 0)
weight_set n ws i place entry at within here before k lt = go (cases_lt k i)
  where
    go : (k < i) ⊎ (i ≤ k) → IsWeight (powers n) (power k) (get_or (set ws place entry) k 0)
    go (inl less) =
        subst (IsWeight (powers n) (power k)) (sym (get_or-set_other ws place k entry 0 (λ e. absurd (omega (arith, e, at))))) (before k less)
    go (inr more) =
        let same : place ≡ k = omega arith in
        let is : get_or (set ws place entry) k 0 ≡ entry =
        ap (λ m. get_or (set ws place entry) m 0) (sym same) ∙ get_or-set_same ws place entry 0 (omega arith) in
        subst (IsWeight (powers n) (power k)) (sym is) (subst (λ m. IsWeight (powers n) (power m) entry) (let e : i ≡ k = omega arith in e) here)

-- the places below i have their weights, and the others what was there at first
pub record Weighed (ps first : List ℕ) (i : ℕ) (ws : List ℕ) : Type 0 where
  pub done : (k : ℕ) → k < i → power (get_or ws k 0) ≡ weight_at ps (get_or ps k 0)
  pub rest : (k : ℕ) → i ≤ k → get_or ws k 0 ≡ get_or first k 0

pub weighed_other : (ps first : List ℕ) (i : ℕ) (ws : List ℕ) (entry : ℕ) → i < length ws → power entry ≡ weight_at ps (get_or ps i 0)
    → Weighed ps first i ws → Weighed ps first (i + 1) (set ws i entry)
weighed_other ps first i ws entry within is before = record {
  done = λ k lt. go k lt (cases_lt k i);
  rest = λ k le. get_or-set_other ws i k entry 0 (λ e. absurd (omega (arith, e))) ∙ before.rest k (omega arith);
}
  where
    go : (k : ℕ) → k < i + 1 → (k < i) ⊎ (i ≤ k) → power (get_or (set ws i entry) k 0) ≡ weight_at ps (get_or ps k 0)
    go k lt (inl less) = ap power (get_or-set_other ws i k entry 0 (λ e. absurd (omega (arith, e)))) ∙ before.done k less
    go k lt (inr more) =
        let same : k ≡ i = omega arith in
        ap (λ n. power (get_or (set ws i entry) n 0)) same ∙ ap power (get_or-set_same ws i entry 0 within) ∙ is
        ∙ ap (λ n. weight_at ps (get_or ps n 0)) (sym same)
