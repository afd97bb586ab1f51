-- Symbols are computed over the one polynomial, and any k encoded ones give the sources again.
use Rattle.std.proofs.Common.{◌≡◌, ℕ, zero, suc, ◌%◌, ◌<◌, ◌≤◌, refl, true, false, Bool, sym, ap, ◌∙◌, arith, Option, Some, None, List, [], ◌∷◌, map, length, get_or, replicate, zero-add}
use Rattle.std.specs.Prelude.{bit_xor, ◌==◌}
use Rattle.std.specs.List.{AllByRecursion, range_with_len}
use Rattle.std.specs.Int.Bits.{xor_zero_l}
use Rattle.std.proofs.lemmas.Bool.{eqb-true}
use Rattle.std.proofs.lemmas.Nat.{xor_lt}
use Rattle.std.proofs.lemmas.List.{get_or-map, get_or-replicate, length-map, length-replicate, ext_get_or}
use Rattle.std.proofs.lemmas.List.FromFn.{length-map-range_with_len, get_or-map-range_with_len}
use Rattle.std.proofs.lemmas.List.Elements.{All-from_recursion}
use Rattle.gf_field.specs.Element.{AreElements}
use Rattle.gf_field.specs.Product.{product, shifts}
use Rattle.gf_field.specs.Power.{power, powers}
use Rattle.gf_field.specs.Polynomial.{value_at, GoesThrough}
use Rattle.gf_field.specs.Interpolation.{coefficient, weighted_sum, interpolated}
use Rattle.gf_field.specs.Symbol.{AreSymbols, AreIds, octets_at, scaled_onto, weighted_symbols, symbol_at, encoded_symbol, given, solved_symbol, solved_sources}
use Rattle.gf_field.specs.Laws.{SymbolValues, SymbolLaws}
use Rattle.gf_field.proofs.Products.{product-lt, product-zero}
use Rattle.gf_field.proofs.Interpolations.{FormulaHolds, value_from_formula}
use Rattle.gf_field.proofs.Places.{distinct_from_pairs, powers_differ, powers_octets, range_ids, value_at_id, formula_at_ids, starts_at_range, length-powers}

-- ---- octets

pub each_octet : (xs : List ℕ) → AreElements xs → (i : ℕ) → get_or xs i 0 < 256
each_octet [] h i = omega arith
each_octet (x ∷ xs) h zero = h.0
each_octet (x ∷ xs) h (suc i) = each_octet xs h.1 i

pub octets_at-octets : (t : ℕ) (symbols : List (List ℕ)) → AllByRecursion AreElements symbols → AreElements (octets_at t symbols)
octets_at-octets t [] h = tt
octets_at-octets t (s ∷ ss) h = (each_octet s h.0 t, octets_at-octets t ss h.1)

pub length-octets_at : (t : ℕ) (symbols : List (List ℕ)) → length (octets_at t symbols) ≡ length symbols
length-octets_at t symbols = length-map symbols (λ s. get_or s t 0)

-- ---- the sum of the symbols, octet by octet

scaled_onto-at : (c : ℕ) (xs ys : List ℕ) (t : ℕ) → t < length ys → get_or (scaled_onto (shifts 8 (c % 256)) xs ys) t 0 ≡ bit_xor (product c (get_or xs t 0)) (get_or ys t 0)
unfolding scaled_onto product
scaled_onto-at c xs [] t h = absurd (omega arith)
scaled_onto-at c [] (y ∷ ys) t h = sym (ap (λ n. bit_xor n (get_or (y ∷ ys) t 0)) (product-zero c) ∙ xor_zero_l (get_or (y ∷ ys) t 0))
scaled_onto-at c (x ∷ xs) (y ∷ ys) zero h = refl
scaled_onto-at c (x ∷ xs) (y ∷ ys) (suc t) h = scaled_onto-at c xs ys t (omega arith)

pub length-scaled_onto : (vs xs ys : List ℕ) → length (scaled_onto vs xs ys) ≡ length ys
unfolding scaled_onto
length-scaled_onto vs xs [] = refl
length-scaled_onto vs [] (y ∷ ys) = refl
length-scaled_onto vs (x ∷ xs) (y ∷ ys) = ap suc (length-scaled_onto vs xs ys)

scaled_onto-octets : (c : ℕ) (xs ys : List ℕ) → AreElements ys → AreElements (scaled_onto (shifts 8 (c % 256)) xs ys)
unfolding scaled_onto product
scaled_onto-octets c xs [] h = tt
scaled_onto-octets c [] (y ∷ ys) h = h
scaled_onto-octets c (x ∷ xs) (y ∷ ys) h = (xor_lt 8 (product c x) y (product-lt c x) h.0, scaled_onto-octets c xs ys h.1)

pub length-weighted_symbols : (size : ℕ) (places ms : List ℕ) (symbols : List (List ℕ)) (x : ℕ) → length (weighted_symbols size places ms symbols x) ≡ size
unfolding weighted_symbols
length-weighted_symbols size places [] symbols x = length-replicate size 0
length-weighted_symbols size places (m ∷ ms) [] x = length-replicate size 0
length-weighted_symbols size places (m ∷ ms) (s ∷ ss) x =
    length-scaled_onto (shifts 8 (coefficient places m x % 256)) s (weighted_symbols size places ms ss x)
    ∙ length-weighted_symbols size places ms ss x

pub zeros-octets : (size : ℕ) → AreElements (replicate size 0)
zeros-octets zero = tt
zeros-octets (suc size) = (omega arith, zeros-octets size)

weighted_symbols-octets : (size : ℕ) (places ms : List ℕ) (symbols : List (List ℕ)) (x : ℕ) → AreElements (weighted_symbols size places ms symbols x)
unfolding weighted_symbols
weighted_symbols-octets size places [] symbols x = zeros-octets size
weighted_symbols-octets size places (m ∷ ms) [] x = zeros-octets size
weighted_symbols-octets size places (m ∷ ms) (s ∷ ss) x =
    scaled_onto-octets (coefficient places m x) s (weighted_symbols size places ms ss x) (weighted_symbols-octets size places ms ss x)

weighted_symbols-at : (size t : ℕ) (places ms : List ℕ) (symbols : List (List ℕ)) (x : ℕ) → t < size → get_or (weighted_symbols size places ms symbols x) t 0 ≡ weighted_sum places ms (octets_at t symbols) x
unfolding weighted_symbols weighted_sum
weighted_symbols-at size t places [] symbols x h = get_or-replicate size t 0 0 h
weighted_symbols-at size t places (m ∷ ms) [] x h = get_or-replicate size t 0 0 h
weighted_symbols-at size t places (m ∷ ms) (s ∷ ss) x h =
    scaled_onto-at (coefficient places m x) s (weighted_symbols size places ms ss x) t (omega (arith, length-weighted_symbols size places ms ss x))
    ∙ ap (bit_xor (product (coefficient places m x) (get_or s t 0))) (weighted_symbols-at size t places ms ss x h)

pub symbol_at-at : (size t : ℕ) (places : List ℕ) (symbols : List (List ℕ)) (x : ℕ) → t < size → get_or (symbol_at size places symbols x) t 0 ≡ interpolated places (octets_at t symbols) x
unfolding symbol_at interpolated
symbol_at-at size t places symbols x h = weighted_symbols-at size t places places symbols x h

pub length-symbol_at : (size : ℕ) (places : List ℕ) (symbols : List (List ℕ)) (x : ℕ) → length (symbol_at size places symbols x) ≡ size
unfolding symbol_at
length-symbol_at size places symbols x = length-weighted_symbols size places places symbols x

-- ---- the values

-- the formula over the symbols at ids
value_at_ids : (k size t x : ℕ) (ids : List ℕ) (symbols : List (List ℕ)) (cs : List ℕ) → t < size → AreSymbols k size symbols → AreIds k 255 ids
    → GoesThrough cs (map power ids) (octets_at t symbols) → get_or (symbol_at size (map power ids) symbols x) t 0 ≡ value_at cs x
value_at_ids k size t x ids symbols cs lt are ids_are through =
    symbol_at-at size t (map power ids) symbols x lt
    ∙ sym (value_from_formula cs (map power ids) (octets_at t symbols) (powers_octets ids) (octets_at-octets t symbols are.octets)
    (distinct_from_pairs (map power ids) (powers_differ ids ids_are.different ids_are.below))
    (length-octets_at t symbols ∙ are.count ∙ sym ids_are.count ∙ sym (length-map ids power)) through x)

encoded_value : (k size j t : ℕ) (sources : List (List ℕ)) (cs : List ℕ) → k ≤ 255 → t < size → AreSymbols k size sources
    → GoesThrough cs (powers k) (octets_at t sources) → get_or (encoded_symbol size sources j) t 0 ≡ value_at cs (power j)
unfolding encoded_symbol
encoded_value k size j t sources cs most lt are through =
    ap (λ n. get_or (symbol_at size (powers n) sources (power j)) t 0) are.count
    ∙ value_at_ids k size t (power j) (range_with_len 0 k) sources cs lt are (range_ids k 255 most) through

-- where a symbol was given
record WasGiven (ids : List ℕ) (symbols : List (List ℕ)) (j : ℕ) (s : List ℕ) : Type 0 where
  at : ℕ
  id_there : at < length ids
  there : at < length symbols
  id : get_or ids at 0 ≡ j
  is : get_or symbols at [] ≡ s

was_given : (ids : List ℕ) (symbols : List (List ℕ)) (j : ℕ) (s : List ℕ) → given ids symbols j ≡ Some s → WasGiven ids symbols j s
unfolding given
was_given [] symbols j s e = absurd (cc e)
was_given (i ∷ is) [] j s e = absurd (cc e)
was_given (i ∷ is) (x ∷ xs) j s e = go (i == j) refl e (was_given is xs j s)
  where
    go : (b : Bool) → (i == j) ≡ b → ◌≡◌ {A = Option (List ℕ)} (elim b [ true ↦ Some x | false ↦ given is xs j ]) (Some s)
        → (given is xs j ≡ Some s → WasGiven is xs j s) → WasGiven (i ∷ is) (x ∷ xs) j s
    go true same h rest = record { at = 0; id_there = omega arith; there = omega arith; id = eqb-true i j same; is = cc h }
    go false same h rest =
        let w : WasGiven is xs j s = rest h in
        record { at = suc w.at; id_there = omega arith; there = omega arith; id = w.id; is = w.is }

solved_value : (k size j t : ℕ) (ids : List ℕ) (symbols : List (List ℕ)) (cs : List ℕ) → t < size → AreSymbols k size symbols → AreIds k 255 ids
    → GoesThrough cs (map power ids) (octets_at t symbols) → get_or (solved_symbol size ids symbols j) t 0 ≡ value_at cs (power j)
unfolding solved_symbol
solved_value k size j t ids symbols cs lt are ids_are through = go (given ids symbols j) refl
  where
    go : (o : Option (List ℕ)) → given ids symbols j ≡ o → get_or (elim o [ Some s ↦ s | None ↦ symbol_at size (map power ids) symbols (power j) ]) t 0 ≡ value_at cs (power j)
    go (Some s) e =
        let w : WasGiven ids symbols j s = was_given ids symbols j s e in
        ap (λ r. get_or r t 0) (sym w.is)
        ∙ sym (get_or-map (λ r. get_or r t 0) symbols w.at [] 0 w.there)
        ∙ sym (value_at_id cs ids (octets_at t symbols) w.at through w.id_there)
        ∙ ap (λ i. value_at cs (power i)) w.id
    go None e = value_at_ids k size t (power j) ids symbols cs lt are ids_are through

pub symbol_values : SymbolValues
symbol_values = record { encoded = encoded_value; solved = solved_value }

-- ---- the laws

pub length-encoded_symbol : (size j : ℕ) (sources : List (List ℕ)) → length (encoded_symbol size sources j) ≡ size
unfolding encoded_symbol
length-encoded_symbol size j sources = length-symbol_at size (powers (length sources)) sources (power j)

encoded_symbol-octets : (size j : ℕ) (sources : List (List ℕ)) → AreElements (encoded_symbol size sources j)
unfolding encoded_symbol symbol_at
encoded_symbol-octets size j sources = weighted_symbols-octets size (powers (length sources)) (powers (length sources)) sources (power j)

pub size_at : (k size i : ℕ) (symbols : List (List ℕ)) → AreSymbols k size symbols → i < k → length (get_or symbols i []) ≡ size
size_at k size i symbols are lt = All-from_recursion (λ s. length s ≡ size) symbols are.sizes i [] (omega (arith, are.count))

-- the polynomial through the sources at place t
pub through_sources : (k size t : ℕ) (sources : List (List ℕ)) → k ≤ 255 → AreSymbols k size sources → FormulaHolds (powers k) (octets_at t sources)
through_sources k size t sources most are =
    formula_at_ids k 255 (range_with_len 0 k) (octets_at t sources) (omega arith) (range_ids k 255 most)
    (length-octets_at t sources ∙ are.count) (octets_at-octets t sources are.octets)

own_value : (k size j t : ℕ) (sources : List (List ℕ)) (cs : List ℕ) → j < k → AreSymbols k size sources
    → GoesThrough cs (powers k) (octets_at t sources) → value_at cs (power j) ≡ get_or (get_or sources j []) t 0
own_value k size j t sources cs lt are through =
    starts_at_range k j cs (octets_at t sources) through lt
    ∙ get_or-map (λ s. get_or s t 0) sources j [] 0 (omega (arith, are.count))

own_symbol : (k size j : ℕ) (sources : List (List ℕ)) → k ≤ 255 → j < k → AreSymbols k size sources → encoded_symbol size sources j ≡ get_or sources j []
own_symbol k size j sources most lt are =
    ext_get_or 0 (encoded_symbol size sources j) (get_or sources j [])
    (length-encoded_symbol size j sources ∙ sym (size_at k size j sources are lt))
    (λ t h.
    let within : t < size = omega (arith, length-encoded_symbol size j sources) in
    let f : FormulaHolds (powers k) (octets_at t sources) = through_sources k size t sources most are in
    encoded_value k size j t sources f.coefficients most within are f.through
    ∙ own_value k size j t sources f.coefficients lt are f.through)

length-solved_symbol : (k size j : ℕ) (ids : List ℕ) (symbols : List (List ℕ)) → AreSymbols k size symbols → length (solved_symbol size ids symbols j) ≡ size
unfolding solved_symbol
length-solved_symbol k size j ids symbols are = go (given ids symbols j) refl
  where
    go : (o : Option (List ℕ)) → given ids symbols j ≡ o → length {A = ℕ} (elim o [ Some s ↦ s | None ↦ symbol_at size (map power ids) symbols (power j) ]) ≡ size
    go (Some s) e =
        let w : WasGiven ids symbols j s = was_given ids symbols j s e in
        ap (λ r. length r) (sym w.is) ∙ size_at k size w.at symbols are (omega (arith, w.there, are.count))
    go None e = length-symbol_at size (map power ids) symbols (power j)

pub length-solved_sources : (size : ℕ) (ids : List ℕ) (symbols : List (List ℕ)) → length (solved_sources size ids symbols) ≡ length ids
unfolding solved_sources
length-solved_sources size ids symbols = length-map-range_with_len (solved_symbol size ids symbols) 0 (length ids)

pub solved_sources-at : (size j : ℕ) (ids : List ℕ) (symbols : List (List ℕ)) → j < length ids → get_or (solved_sources size ids symbols) j [] ≡ solved_symbol size ids symbols j
unfolding solved_sources
solved_sources-at size j ids symbols lt =
    get_or-map-range_with_len (solved_symbol size ids symbols) 0 (length ids) j j [] lt (zero-add j)

pub solved_sources-sizes : (k size : ℕ) (ids : List ℕ) (symbols : List (List ℕ)) → AreSymbols k size symbols → AllByRecursion (λ s. length s ≡ size) (solved_sources size ids symbols)
unfolding solved_sources
solved_sources-sizes k size ids symbols are = sizes (range_with_len 0 (length ids))
  where
    sizes : (js : List ℕ) → AllByRecursion (λ s. length s ≡ size) (map (solved_symbol size ids symbols) js)
    sizes [] = tt
    sizes (j ∷ js) = (length-solved_symbol k size j ids symbols are, sizes js)

encoded_symbols : (k size : ℕ) (ids : List ℕ) (sources : List (List ℕ)) → length ids ≡ k → AreSymbols k size (map (encoded_symbol size sources) ids)
encoded_symbols k size ids sources count = record {
  count = length-map ids (encoded_symbol size sources) ∙ count;
  sizes = sizes ids;
  octets = octets ids;
}
  where
    sizes : (is : List ℕ) → AllByRecursion (λ s. length s ≡ size) (map (encoded_symbol size sources) is)
    sizes [] = tt
    sizes (i ∷ is) = (length-encoded_symbol size i sources, sizes is)

    octets : (is : List ℕ) → AllByRecursion AreElements (map (encoded_symbol size sources) is)
    octets [] = tt
    octets (i ∷ is) = (encoded_symbol-octets size i sources, octets is)

-- the polynomial through the sources goes through the encoded symbols
through_encoded : (cs : List ℕ) (t : ℕ) (f : ℕ → List ℕ) → ((j : ℕ) → get_or (f j) t 0 ≡ value_at cs (power j)) → (ids : List ℕ) → map (value_at cs) (map power ids) ≡ octets_at t (map f ids)
through_encoded cs t f h [] = refl
through_encoded cs t f h (i ∷ is) =
    ap (λ v. v ∷ map (value_at cs) (map power is)) (sym (h i)) ∙ ap (λ vs. get_or (f i) t 0 ∷ vs) (through_encoded cs t f h is)

solved_source : (k size j : ℕ) (ids : List ℕ) (sources : List (List ℕ)) → k ≤ 255 → j < k → AreSymbols k size sources → AreIds k 255 ids
    → solved_symbol size ids (map (encoded_symbol size sources) ids) j ≡ get_or sources j []
solved_source k size j ids sources most lt are ids_are =
    let symbols : List (List ℕ) = map (encoded_symbol size sources) ids in
    let symbols_are : AreSymbols k size symbols = encoded_symbols k size ids sources ids_are.count in
    ext_get_or 0 (solved_symbol size ids symbols j) (get_or sources j [])
    (length-solved_symbol k size j ids symbols symbols_are ∙ sym (size_at k size j sources are lt))
    (λ t h.
    let within : t < size = omega (arith, length-solved_symbol k size j ids symbols symbols_are) in
    let f : FormulaHolds (powers k) (octets_at t sources) = through_sources k size t sources most are in
    solved_value k size j t ids symbols f.coefficients within symbols_are ids_are
    (record {
      octets = f.through.octets;
      few = f.through.few ∙ length-powers k ∙ sym ids_are.count ∙ sym (length-map ids power);
      meets = through_encoded f.coefficients t (encoded_symbol size sources)
          (λ i. encoded_value k size i t sources f.coefficients most within are f.through) ids;
    })
    ∙ own_value k size j t sources f.coefficients lt are f.through)

solved_again : (k size : ℕ) (ids : List ℕ) (sources : List (List ℕ)) → k ≤ 255 → AreSymbols k size sources → AreIds k 255 ids
    → solved_sources size ids (map (encoded_symbol size sources) ids) ≡ sources
solved_again k size ids sources most are ids_are =
    let solved : List (List ℕ) = solved_sources size ids (map (encoded_symbol size sources) ids) in
    let long : length solved ≡ k = length-solved_sources size ids (map (encoded_symbol size sources) ids) ∙ ids_are.count in
    ext_get_or [] solved sources (long ∙ sym are.count)
    (λ j h.
    let within : j < k = omega (arith, long) in
    solved_sources-at size j ids (map (encoded_symbol size sources) ids) (omega (arith, ids_are.count))
    ∙ solved_source k size j ids sources most within are ids_are)

pub symbol_laws : SymbolLaws
symbol_laws = record { size = length-encoded_symbol; octets = encoded_symbol-octets; own = own_symbol; solved = solved_again }
