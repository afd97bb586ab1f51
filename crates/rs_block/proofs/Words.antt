-- Codewords from polynomials, and what determines them.
use Rattle.std.proofs.Common.{◌≡◌, ◌≢◌, ℕ, ◌+◌, ◌*◌, ◌<◌, ◌≤◌, refl, sym, ap, subst, ◌∙◌, arith, List, [], ◌∷◌, ◌++◌, map, length, get_or, zero-add}
use Rattle.std.specs.List.{All, AllPairs, range_with_len}
use Rattle.std.proofs.lemmas.List.{get_or-map, length-map, ext_get_or}
use Rattle.std.proofs.lemmas.List.FromFn.{length-range_with_len, get_or-range_with_len, length-map-range_with_len, get_or-map-range_with_len, map-range_with_len_more}
use Rattle.std.proofs.lemmas.List.Elements.{recursion_from_All, All-map}
use Rattle.norm_base.specs.Octets.{AreOctets}
use Rattle.gf_field.specs.Element.{AreElements}
use Rattle.gf_field.specs.Power.{power}
use Rattle.gf_field.specs.Polynomial.{value_at}
use Rattle.gf_field.specs.Interpolation.{interpolated}
use Rattle.gf_field.proofs.Powers.{same_from_power}
use Rattle.gf_field.proofs.Polynomials.{same_polynomial}
use Rattle.gf_field.proofs.Interpolations.{FormulaHolds, interpolated-meets}
use Rattle.rs_block.specs.Column.{column}
use Rattle.rs_block.specs.Points.{powers}
use Rattle.rs_block.specs.Codeword.{Codeword, HasSymbolAt, GoesThroughAt, AreIds}
use Rattle.rs_block.specs.Laws.{CodewordLaws}
use Rattle.rs_block.proofs.Formula.{length-column, get_or-column}
use Rattle.gf_field.proofs.Places.{distinct_from_pairs, powers_differ, powers_octets, range_differs, range_below, range_ids, length-powers, value_at_id, formula_at_ids, starts_at_range, value_at_place}

-- the first n values of a polynomial
pub word_of : List ℕ → ℕ → List ℕ
word_of cs n = map (λ j. value_at cs (power j)) (range_with_len 0 n)

get_or-word_of : (cs : List ℕ) (n j : ℕ) → j < n → get_or (word_of cs n) j 0 ≡ value_at cs (power j)
unfolding word_of
get_or-word_of cs n j h = get_or-map-range_with_len (λ i. value_at cs (power i)) 0 n j j 0 h (zero-add j)

pub codeword_of : (k n : ℕ) (s cs : List ℕ) → k ≤ n → length s ≡ k → AreElements cs → length cs ≡ k → ((j : ℕ) → j < k → value_at cs (power j) ≡ get_or s j 0) → Codeword k n s (word_of cs n)
unfolding word_of
codeword_of k n s cs fits count octets few starts = record {
  sources = count;
  symbols = length-map-range_with_len (λ j. value_at cs (power j)) 0 n;
  coefficients = cs;
  octets = octets;
  few = few;
  values = λ j h. sym (get_or-word_of cs n j h);
  starts = λ j h. get_or-word_of cs n j (omega arith) ∙ starts j h;
}

pub column-octets : (k size : ℕ) (symbols : List ℕ) (t : ℕ) → AreOctets symbols → AreElements (column k size symbols t)
unfolding column
column-octets k size symbols t h =
    recursion_from_All (λ a. a < 256) (column k size symbols t)
    (All-map (λ a. a < 256) (λ i. get_or symbols (i * size + t) 0) (range_with_len 0 k) (λ i d lt. h (get_or (range_with_len 0 k) i d * size + t)))

-- ---- what the loops keep

pub powers_more : (n : ℕ) → powers (n + 1) ≡ powers n ++ power n ∷ []
powers_more n = map-range_with_len_more power 0 n n (zero-add n)

pub places_differ : (k : ℕ) (ids ps : List ℕ) → AreIds k 255 ids → ps ≡ map power ids → AllPairs (λ x y. x ≢ y) ps
places_differ k ids ps are e = subst (AllPairs (λ x y. x ≢ y)) (sym e) (powers_differ ids are.different are.below)

pub sources_differ : (ps : List ℕ) (k : ℕ) → ps ≡ powers k → k ≤ 255 → AllPairs (λ x y. x ≢ y) ps
sources_differ ps k e h =
    subst (AllPairs (λ x y. x ≢ y)) (sym e) (powers_differ (range_with_len 0 k) (range_differs k) (range_below k 255 h))

-- the place of an id that is not given is none of the places
pub away_from_ids : (ids ps : List ℕ) (j x : ℕ) → ps ≡ map power ids → x ≡ power j → All (λ i. i < 255) ids → j < 255
    → ((i : ℕ) → i < length ids → get_or ids i 0 ≡ j → ⊥) → (i : ℕ) → i < length ps → get_or ps i 0 ≡ x → ⊥
away_from_ids ids ps j x e at low small absent i lt same =
    let within : i < length ids = omega (arith, ap length e, length-map ids power) in
    absent i within (same_from_power (get_or ids i 0) j (low i 0 within) small
    (sym (get_or-map power ids i 0 0 within) ∙ ap (λ qs. get_or qs i 0) (sym e) ∙ same ∙ at))

pub away_from_sources : (ps : List ℕ) (k j x : ℕ) → ps ≡ powers k → x ≡ power j → k ≤ j → j < 255 → (i : ℕ) → i < length ps → get_or ps i 0 ≡ x → ⊥
away_from_sources ps k j x e at h small =
    away_from_ids (range_with_len 0 k) ps j x e at (range_below k 255 (omega arith)) small
    (λ i lt same. absurd (omega (arith, get_or-range_with_len 0 k i 0 (omega (arith, length-range_with_len 0 k)), length-range_with_len 0 k, same)))

-- at the place of a given symbol the formula gives its octet
pub formula_at_given : (ids vs : List ℕ) (i j : ℕ) → AllPairs (λ x y. x ≢ y) ids → All (λ n. n < 255) ids → AreElements vs → length vs ≡ length ids → i < length ids → get_or ids i 0 ≡ j
    → interpolated (map power ids) vs (power j) ≡ get_or vs i 0
formula_at_given ids vs i j differ low octets count h e =
    ap (λ n. interpolated (map power ids) vs (power n)) (sym e)
    ∙ ap (interpolated (map power ids) vs) (sym (get_or-map power ids i 0 0 h))
    ∙ sym (get_or-map (interpolated (map power ids) vs) (map power ids) i 0 0 (omega (arith, length-map ids power)))
    ∙ ap (λ ws. get_or ws i 0)
    (interpolated-meets (map power ids) vs (powers_octets ids) octets (distinct_from_pairs (map power ids) (powers_differ ids differ low))
    (count ∙ sym (length-map ids power)))

-- the octets of a given symbol are those of the formula at its place
pub given_octet : (ids symbols : List ℕ) (size i j t : ℕ) → AreIds (length ids) 255 ids → AreOctets symbols → i < length ids → get_or ids i 0 ≡ j
    → get_or symbols (i * size + t) 0 ≡ interpolated (map power ids) (column (length ids) size symbols t) (power j)
given_octet ids symbols size i j t are octets h e =
    sym (get_or-column (length ids) size symbols t i h)
    ∙ sym (formula_at_given ids (column (length ids) size symbols t) i j are.different are.below
    (column-octets (length ids) size symbols t octets) (length-column (length ids) size symbols t) h e)

-- ---- what the encoder and the solver compute

-- the value of the formula is a symbol of the codeword
pub symbol_from_formula : (k n size j t : ℕ) (source out : List ℕ) → k ≤ n → n ≤ 255 → j < n → AreOctets source
    → get_or out t 0 ≡ interpolated (powers k) (column k size source t) (power j) → HasSymbolAt k n size source j out t
symbol_from_formula k n size j t source out fits most lt octets e =
    let f : FormulaHolds (powers k) (column k size source t) =
    formula_at_ids k n (range_with_len 0 k) (column k size source t) most (range_ids k n fits) (length-column k size source t) (column-octets k size source t octets) in
    record {
      word = word_of f.coefficients n;
      is = codeword_of k n (column k size source t) f.coefficients fits (length-column k size source t) f.through.octets
          (f.through.few ∙ length-powers k)
          (λ i h. starts_at_range k i f.coefficients (column k size source t) f.through h);
      octet = e ∙ f.formula (power j) ∙ sym (get_or-word_of f.coefficients n j lt);
    }

-- the same, with what the program has in the places of these words
pub symbol_from_program : (ps source out : List ℕ) (k n size width j t x : ℕ) → ps ≡ powers k → width ≡ size → x ≡ power j → k ≤ n → n ≤ 255 → j < n → AreOctets source
    → get_or out t 0 ≡ interpolated ps (column (length ps) width source t) x → HasSymbolAt k n size source j out t
symbol_from_program ps source out k n size width j t x places wide at fits most lt octets e =
    symbol_from_formula k n size j t source out fits most lt octets
    (e
    ∙ ap (λ w. interpolated ps (column (length ps) w source t) x) wide
    ∙ ap (interpolated ps (column (length ps) size source t)) at
    ∙ ap (λ qs. interpolated qs (column (length qs) size source t) (power j)) places
    ∙ ap (λ m. interpolated (powers k) (column m size source t) (power j)) (length-powers k))

-- where each source is the value of the formula, they are the sources of the codeword through the symbols
pub sources_from_formula : (k size t : ℕ) (ids symbols out : List ℕ) → k ≤ 255 → AreIds k 255 ids → AreOctets symbols
    → ((j : ℕ) → j < k → get_or out (j * size + t) 0 ≡ interpolated (map power ids) (column k size symbols t) (power j))
    → GoesThroughAt k size ids symbols out t
sources_from_formula k size t ids symbols out most are octets h =
    let f : FormulaHolds (map power ids) (column k size symbols t) =
    formula_at_ids k 255 ids (column k size symbols t) (omega arith) are (length-column k size symbols t) (column-octets k size symbols t octets) in
    record {
      word = word_of f.coefficients 255;
      is = codeword_of k 255 (column k size out t) f.coefficients most (length-column k size out t) f.through.octets
          (f.through.few ∙ length-map ids power ∙ are.count)
          (λ j lt. sym (f.formula (power j)) ∙ sym (h j lt) ∙ sym (get_or-column k size out t j lt));
      meets = λ i lt.
          get_or-word_of f.coefficients 255 (get_or ids i 0) (are.below i 0 (omega (arith, are.count)))
          ∙ value_at_id f.coefficients ids (column k size symbols t) i f.through (omega (arith, are.count))
          ∙ get_or-column k size symbols t i lt;
    }

-- ---- the laws

pub codeword_exists : (k n : ℕ) (s : List ℕ) → k ≤ n → n ≤ 255 → length s ≡ k → AreElements s → (word : List ℕ) × Codeword k n s word
codeword_exists k n s fits most count octets =
    let f : FormulaHolds (powers k) s = formula_at_ids k n (range_with_len 0 k) s most (range_ids k n fits) count octets in (
      word_of f.coefficients n,
      codeword_of k n s f.coefficients fits count f.through.octets (f.through.few ∙ length-powers k)
          (λ j h. starts_at_range k j f.coefficients s f.through h),
    )

-- words that agree at the ids come from polynomials that agree at the places
alike_at_ids : (k n : ℕ) (ids s w s' w' : List ℕ) → AreIds k n ids → (p : Codeword k n s w) → (q : Codeword k n s' w')
    → All (λ j. get_or w j 0 ≡ get_or w' j 0) ids → map (value_at q.coefficients) (map power ids) ≡ map (value_at p.coefficients) (map power ids)
alike_at_ids k n ids s w s' w' are p q same =
    ext_get_or 0 (map (value_at q.coefficients) (map power ids)) (map (value_at p.coefficients) (map power ids))
    (length-map (map power ids) (value_at q.coefficients) ∙ sym (length-map (map power ids) (value_at p.coefficients)))
    (λ i lt.
    let within : i < length ids = omega (arith, length-map (map power ids) (value_at q.coefficients), length-map ids power) in
    value_at_place q.coefficients ids i within
    ∙ q.values (get_or ids i 0) (are.below i 0 within) ∙ sym (same i 0 within)
    ∙ sym (p.values (get_or ids i 0) (are.below i 0 within))
    ∙ sym (value_at_place p.coefficients ids i within))

pub any_k_determine : (k n : ℕ) (ids s w s' w' : List ℕ) → n ≤ 255 → AreIds k n ids → Codeword k n s w → Codeword k n s' w' → All (λ j. get_or w j 0 ≡ get_or w' j 0) ids → w ≡ w'
any_k_determine k n ids s w s' w' most are p q same =
    let count : k ≡ length (map power ids) = sym (length-map ids power ∙ are.count) in
    let below : All (λ j. j < 255) ids = λ i d h. (let low : get_or ids i d < n = are.below i d h in omega arith) in
    let e : q.coefficients ≡ p.coefficients =
    same_polynomial q.coefficients p.coefficients (map power ids) (map (value_at p.coefficients) (map power ids))
    (powers_octets ids) (distinct_from_pairs (map power ids) (powers_differ ids are.different below))
    (record { octets = q.octets; few = q.few ∙ count; meets = alike_at_ids k n ids s w s' w' are p q same })
    (record { octets = p.octets; few = p.few ∙ count; meets = refl }) in
    ext_get_or 0 w w' (p.symbols ∙ sym q.symbols)
    (λ j lt.
    let within : j < n = omega (arith, p.symbols) in
    sym (p.values j within) ∙ ap (λ cs. value_at cs (power j)) (sym e) ∙ q.values j within)

pub one_word : (k n : ℕ) (s w w' : List ℕ) → k ≤ n → n ≤ 255 → Codeword k n s w → Codeword k n s w' → w ≡ w'
one_word k n s w w' fits most p q =
    any_k_determine k n (range_with_len 0 k) s w s w' most (range_ids k n fits) p q
    (λ i d h.
    let below : get_or (range_with_len 0 k) i d < k = range_below k k (omega arith) i d h in
    p.starts (get_or (range_with_len 0 k) i d) below ∙ sym (q.starts (get_or (range_with_len 0 k) i d) below))

pub codeword_laws : CodewordLaws
codeword_laws = record { exists = codeword_exists; only = one_word; determined = any_k_determine }
