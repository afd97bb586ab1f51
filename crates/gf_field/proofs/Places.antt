-- Places are different powers of alpha, and a polynomial goes through the symbols at the places of ids.
use Rattle.std.proofs.Common.{◌≡◌, ◌≢◌, ℕ, ◌<◌, ◌≤◌, sym, ap, ◌∙◌, arith, List, map, length, get_or, zero-add}
use Rattle.std.specs.Prelude.{nat_eq}
use Rattle.std.specs.List.{All, AllPairs, IsDistinct, range_with_len}
use Rattle.std.proofs.lemmas.Bool.Decides.{Decides-eqb}
use Rattle.std.proofs.lemmas.Map.Made.{IsDistinct-from_AllPairs}
use Rattle.std.proofs.lemmas.List.{get_or-map, length-map}
use Rattle.std.proofs.lemmas.List.FromFn.{length-range_with_len, get_or-range_with_len, length-map-range_with_len}
use Rattle.std.proofs.lemmas.List.Elements.{recursion_from_All, All-map, All-from_get_or}
use Rattle.gf_field.specs.Element.{AreElements}
use Rattle.gf_field.specs.Power.{power, powers}
use Rattle.gf_field.specs.Polynomial.{value_at, GoesThrough}
use Rattle.gf_field.specs.Symbol.{AreIds}
use Rattle.gf_field.proofs.Powers.{power-lt, same_from_power}
use Rattle.gf_field.proofs.Interpolations.{FormulaHolds, formula_holds}

-- octets are elements of the field
pub elements_of_octets : (xs : List ℕ) → ((i : ℕ) → get_or xs i 0 < 256) → AreElements xs
elements_of_octets xs h = recursion_from_All (λ a. a < 256) xs (All-from_get_or (λ a. a < 256) xs 0 (λ i l. h i))

pub distinct_from_pairs : (xs : List ℕ) → AllPairs (λ x y. x ≢ y) xs → IsDistinct nat_eq xs
distinct_from_pairs xs h = IsDistinct-from_AllPairs Decides-eqb xs h

-- the powers of different exponents are different
pub powers_differ : (ids : List ℕ) → AllPairs (λ x y. x ≢ y) ids → All (λ j. j < 255) ids → AllPairs (λ x y. x ≢ y) (map power ids)
powers_differ ids h low i j d lt in_list same =
    let within : j < length ids = omega (arith, length-map ids power) in
    let before : i < length ids = omega arith in
    h i j 0 lt within
    (same_from_power (get_or ids i 0) (get_or ids j 0) (low i 0 before) (low j 0 within)
    (sym (get_or-map power ids i 0 d before) ∙ same ∙ get_or-map power ids j 0 d within))

pub powers_octets : (ids : List ℕ) → AreElements (map power ids)
powers_octets ids = recursion_from_All (λ a. a < 256) (map power ids) (All-map (λ a. a < 256) power ids (λ k d h. power-lt (get_or ids k d)))

pub range_differs : (n : ℕ) → AllPairs (λ x y. x ≢ y) (range_with_len 0 n)
range_differs n i j d lt in_list same =
    let within : j < n = omega (arith, length-range_with_len 0 n) in
    absurd (omega (arith, get_or-range_with_len 0 n i d (omega arith), get_or-range_with_len 0 n j d within, same))

pub range_below : (n m : ℕ) → n ≤ m → All (λ j. j < m) (range_with_len 0 n)
range_below n m h k d in_list =
    let within : k < n = omega (arith, length-range_with_len 0 n) in
    omega (arith, get_or-range_with_len 0 n k d within)

pub length-powers : (n : ℕ) → length (powers n) ≡ n
length-powers n = length-map-range_with_len power 0 n

-- what a polynomial through points has at the place of an id
pub value_at_id : (cs ids vs : List ℕ) (i : ℕ) → GoesThrough cs (map power ids) vs → i < length ids → value_at cs (power (get_or ids i 0)) ≡ get_or vs i 0
value_at_id cs ids vs i h lt =
    ap (value_at cs) (sym (get_or-map power ids i 0 0 lt))
    ∙ sym (get_or-map (value_at cs) (map power ids) i 0 0 (omega (arith, length-map ids power)))
    ∙ ap (λ ws. get_or ws i 0) h.meets

-- the formula for the points at ids
pub formula_at_ids : (k n : ℕ) (ids vs : List ℕ) → n ≤ 255 → AreIds k n ids → length vs ≡ k → AreElements vs → FormulaHolds (map power ids) vs
formula_at_ids k n ids vs fits are count octets =
    formula_holds (map power ids) vs (powers_octets ids) octets
    (distinct_from_pairs (map power ids) (powers_differ ids are.different (λ i d h. below i d h)))
    (count ∙ sym are.count ∙ sym (length-map ids power))
  where
    below : All (λ j. j < 255) ids
    below i d h = let low : get_or ids i d < n = are.below i d h in omega arith

pub range_ids : (k n : ℕ) → k ≤ n → AreIds k n (range_with_len 0 k)
range_ids k n h = record { count = length-range_with_len 0 k; different = range_differs k; below = range_below k n h }

pub starts_at_range : (k j : ℕ) (cs vs : List ℕ) → GoesThrough cs (powers k) vs → j < k → value_at cs (power j) ≡ get_or vs j 0
starts_at_range k j cs vs h lt =
    ap (λ i. value_at cs (power i)) (sym (get_or-range_with_len 0 k j 0 lt ∙ zero-add j))
    ∙ value_at_id cs (range_with_len 0 k) vs j h (omega (arith, length-range_with_len 0 k))

pub value_at_place : (cs ids : List ℕ) (i : ℕ) → i < length ids → get_or (map (value_at cs) (map power ids)) i 0 ≡ value_at cs (power (get_or ids i 0))
value_at_place cs ids i h =
    get_or-map (value_at cs) (map power ids) i 0 0 (omega (arith, length-map ids power))
    ∙ ap (value_at cs) (get_or-map power ids i 0 0 h)
