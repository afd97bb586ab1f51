-- A symbol that is solved from as many encoded ones as there are sources, or more, has the octets of the codeword.
-- The symbols may be shorter than the coded size: past their end they count as zeros.
use Rattle.std.proofs.Common.{◌≡◌, ℕ, zero, suc, ◌-◌, ◌<◌, ◌≤◌, refl, sym, ap, ◌∙◌, arith, List, [], ◌∷◌, ◌++◌, map, length, get_or, replicate}
use Rattle.std.specs.Prelude.{bit_xor, nat_eq}
use Rattle.std.specs.List.{AllByRecursion, IsDistinct, range_with_len}
use Rattle.std.proofs.lemmas.List.{get_or-map, length-map, length-append, length-replicate}
use Rattle.gf_field.specs.Element.{AreElements}
use Rattle.gf_field.specs.Product.{product}
use Rattle.gf_field.specs.Power.{power, powers}
use Rattle.gf_field.specs.Polynomial.{value_at, GoesThrough}
use Rattle.gf_field.specs.Symbol.{octets_at, symbol_at, encoded_symbol}
use Rattle.gf_field.proofs.Interpolations.{FormulaHolds, value_from_formula}
use Rattle.gf_field.proofs.Places.{powers_octets, range_ids, formula_at_ids, starts_at_range, length-powers}
use Rattle.gf_field.proofs.Polynomials.{AreZero, value_at_zero}
use Rattle.gf_field.proofs.Symbols.{symbol_at-at, octets_at-octets, length-octets_at, zeros-octets}

-- ---- coefficients that are zero change no value

zeros-zero : (n : ℕ) → AreZero (replicate n 0)
zeros-zero zero = tt
zeros-zero (suc n) = (refl, zeros-zero n)

value_at-zeros : (cs : List ℕ) (n x : ℕ) → value_at (cs ++ replicate n 0) x ≡ value_at cs x
unfolding value_at
value_at-zeros [] n x = value_at_zero (replicate n 0) x (zeros-zero n)
value_at-zeros (c ∷ cs) n x = ap (λ v. bit_xor c (product x v)) (value_at-zeros cs n x)

padded-octets : (cs : List ℕ) (n : ℕ) → AreElements cs → AreElements (cs ++ replicate n 0)
padded-octets [] n h = zeros-octets n
padded-octets (c ∷ cs) n h = (h.0, padded-octets cs n h.1)

-- ---- the encoded symbols are values of the polynomial through the sources

-- the octet of an encoded symbol at a place
abbrev pub coded_at : ℕ → List (List ℕ) → ℕ → ℕ → ℕ
coded_at size sources t j = get_or (encoded_symbol size sources j) t 0

through : (t : ℕ) (sources : List (List ℕ)) → length sources ≤ 255 → AllByRecursion AreElements sources
    → FormulaHolds (powers (length sources)) (octets_at t sources)
through t sources most are =
    formula_at_ids (length sources) 255 (range_with_len 0 (length sources)) (octets_at t sources) (omega arith)
    (range_ids (length sources) 255 most) (length-octets_at t sources) (octets_at-octets t sources are)

coded_value : (size t j : ℕ) (sources : List (List ℕ)) → t < size → (f : FormulaHolds (powers (length sources)) (octets_at t sources))
    → coded_at size sources t j ≡ value_at f.coefficients (power j)
unfolding encoded_symbol
coded_value size t j sources lt f = symbol_at-at size t (powers (length sources)) sources (power j) lt ∙ f.formula (power j)

-- a source symbol's own octets, up to its end
pub own_octet : (size t j : ℕ) (sources : List (List ℕ)) → length sources ≤ 255 → AllByRecursion AreElements sources → t < size → j < length sources
    → coded_at size sources t j ≡ get_or (get_or sources j []) t 0
own_octet size t j sources most are lt within =
    let f = through t sources most are in
    coded_value size t j sources lt f
    ∙ starts_at_range (length sources) j f.coefficients (octets_at t sources) f.through within
    ∙ get_or-map (λ s. get_or s t 0) sources j [] 0 within

-- ---- the polynomial through enough encoded symbols is that of the sources

meets_at : (size t : ℕ) (sources : List (List ℕ)) (cs : List ℕ) → ((j : ℕ) → coded_at size sources t j ≡ value_at cs (power j)) → (ids : List ℕ)
    → map (value_at cs) (map power ids) ≡ map (coded_at size sources t) ids
meets_at size t sources cs h [] = refl
meets_at size t sources cs h (i ∷ is) =
    ap (λ v. v ∷ map (value_at cs) (map power is)) (sym (h i)) ∙ ap (λ vs. coded_at size sources t i ∷ vs) (meets_at size t sources cs h is)

pub solved_octet : (size t j : ℕ) (sources : List (List ℕ)) (ids : List ℕ) (symbols : List (List ℕ))
    → length sources ≤ 255 → AllByRecursion AreElements sources → t < size
    → IsDistinct nat_eq (map power ids) → AllByRecursion AreElements symbols → length sources ≤ length ids
    → map (coded_at size sources t) ids ≡ octets_at t symbols
    → get_or (symbol_at size (map power ids) symbols (power j)) t 0 ≡ coded_at size sources t j
solved_octet size t j sources ids symbols most are lt distinct octets enough same =
    let f = through t sources most are in
    let k : ℕ = length sources in
    let cs : List ℕ = f.coefficients ++ replicate (length ids - k) 0 in
    let has : length f.coefficients ≡ k = f.through.few ∙ length-powers k in
    let long : length cs ≡ length (map power ids) =
    length-append f.coefficients (replicate (length ids - k) 0)
    ∙ omega (arith, has, length-replicate {A = ℕ} (length ids - k) 0, length-map ids power, enough) in
    let value : (i : ℕ) → coded_at size sources t i ≡ value_at cs (power i) =
    λ i. coded_value size t i sources lt f ∙ sym (value_at-zeros f.coefficients (length ids - k) (power i)) in
    let goes : GoesThrough cs (map power ids) (octets_at t symbols) = record {
      octets = padded-octets f.coefficients (length ids - k) f.through.octets;
      few = long;
      meets = meets_at size t sources cs value ids ∙ same;
    } in
    let paired : length (octets_at t symbols) ≡ length (map power ids) =
    ap (λ (vs : List ℕ). length vs) (sym same) ∙ length-map ids (coded_at size sources t) ∙ sym (length-map ids power) in
    symbol_at-at size t (map power ids) symbols (power j) lt
    ∙ sym (value_from_formula cs (map power ids) (octets_at t symbols) (powers_octets ids) (octets_at-octets t symbols octets) distinct paired goes (power j))
    ∙ sym (value j)
