-- The functions of a list of symbols are the code.
use Rattle.std.proofs.Common.{◌≡◌, ℕ, zero, suc, ◌+◌, ◌-◌, ◌*◌, ◌/◌, ◌%◌, ◌<◌, ◌≤◌, sym, ap, ◌∙◌, arith, List, [], ◌∷◌, ◌++◌, map, length, length-append, get_or}
use Rattle.std.specs.List.{AllByRecursion, concat}
use Rattle.std.proofs.Math.ListN.{get_or-append}
use Rattle.std.proofs.Math.Nat.{div-add-mod, div-lt_iff_lt-mul, mod-lt, suc-mul}
use Rattle.std.proofs.lemmas.List.{get_or-map, get_or-append_right, ext_get_or}
use Rattle.std.proofs.lemmas.List.Elements.{All-from_get_or}
use Rattle.gf_field.specs.Element.{AreElements}
use Rattle.gf_field.specs.Power.{power, powers}
use Rattle.gf_field.specs.Interpolation.{interpolated}
use Rattle.gf_field.specs.Symbol.{AreSymbols, AreIds, octets_at, encoded_symbol, solved_sources}
use Rattle.gf_field.proofs.Interpolations.{FormulaHolds}
use Rattle.gf_field.proofs.Places.{formula_at_ids}
use Rattle.gf_field.proofs.Symbols.{each_octet, octets_at-octets, length-octets_at, through_sources, symbol_values, length-encoded_symbol, length-solved_sources, solved_sources-at, solved_sources-sizes}
use Rattle.rs_block.specs.Column.{column}
use Rattle.rs_block.specs.Codeword.{HasSymbolAt, IsSymbol, GoesThroughAt, AreSources}
use Rattle.rs_block.specs.Laws.{FunctionLaws}
use Rattle.rs_block.proofs.Formula.{length-column, get_or-column}
use Rattle.rs_block.proofs.Words.{any_k_determine, one_word, symbol_from_formula, sources_from_formula}

-- ---- symbols in a row

pub length-concat : (size : ℕ) (symbols : List (List ℕ)) → AllByRecursion (λ s. length s ≡ size) symbols → length (concat symbols) ≡ length symbols * size
length-concat size [] h = omega arith
length-concat size (s ∷ ss) h = omega (arith, length-append s (concat ss), h.0, length-concat size ss h.1, suc-mul (length ss) size)

pub concat-at : (size i t : ℕ) (symbols : List (List ℕ)) → AllByRecursion (λ s. length s ≡ size) symbols → i < length symbols → t < size → get_or (concat symbols) (i * size + t) 0 ≡ get_or (get_or symbols i []) t 0
concat-at size i t [] h lt t_lt = absurd (omega arith)
concat-at size zero t (s ∷ ss) h lt t_lt =
    ap (λ n. get_or (s ++ concat ss) n 0) (let e : 0 * size + t ≡ t = omega arith in e)
    ∙ get_or-append s (concat ss) 0 t (omega (arith, h.0))
concat-at size (suc i) t (s ∷ ss) h lt t_lt =
    get_or-append_right s (concat ss) size (suc i * size + t) 0 h.0 (omega (arith, suc-mul i size))
    ∙ ap (λ n. get_or (concat ss) n 0) (let e : suc i * size + t - size ≡ i * size + t = omega (arith, suc-mul i size) in e)
    ∙ concat-at size i t ss h.1 (omega arith) t_lt

pub concat-octets : (symbols : List (List ℕ)) → AllByRecursion AreElements symbols → (i : ℕ) → get_or (concat symbols) i 0 < 256
concat-octets symbols h = each_octet (concat symbols) (octets symbols h)
  where
    joined : (xs ys : List ℕ) → AreElements xs → AreElements ys → AreElements (xs ++ ys)
    joined [] ys p q = q
    joined (x ∷ xs) ys p q = (p.0, joined xs ys p.1 q)

    octets : (ss : List (List ℕ)) → AllByRecursion AreElements ss → AreElements (concat ss)
    octets [] p = tt
    octets (s ∷ ss) p = joined s (concat ss) p.0 (octets ss p.1)

column-concat : (k size t : ℕ) (symbols : List (List ℕ)) → AreSymbols k size symbols → t < size → column k size (concat symbols) t ≡ octets_at t symbols
column-concat k size t symbols are lt =
    ext_get_or 0 (column k size (concat symbols) t) (octets_at t symbols)
    (length-column k size (concat symbols) t ∙ sym are.count ∙ sym (length-octets_at t symbols))
    (λ i h.
    let within : i < k = omega (arith, length-column k size (concat symbols) t) in
    get_or-column k size (concat symbols) t i within
    ∙ concat-at size i t symbols are.sizes (omega (arith, are.count)) lt
    ∙ sym (get_or-map (λ s. get_or s t 0) symbols i [] 0 (omega (arith, are.count))))

-- ---- encoding

encoded_is : (k n size j : ℕ) (sources : List (List ℕ)) → k ≤ n → n ≤ 255 → j < n → AreSymbols k size sources → IsSymbol k n size (concat sources) j (encoded_symbol size sources j)
encoded_is k n size j sources fits most lt are t t_lt =
    let small : k ≤ 255 = omega arith in
    let f : FormulaHolds (powers k) (octets_at t sources) = through_sources k size t sources small are in
    symbol_from_formula k n size j t (concat sources) (encoded_symbol size sources j) fits most lt (concat-octets sources are.octets)
    (symbol_values.encoded k size j t sources f.coefficients small t_lt are f.through
    ∙ sym (f.formula (power j))
    ∙ ap (λ vs. interpolated (powers k) vs (power j)) (sym (column-concat k size t sources are t_lt)))

encoded_only : (k n size j : ℕ) (sources : List (List ℕ)) (symbol : List ℕ) → k ≤ n → n ≤ 255 → j < n → AreSymbols k size sources
    → length symbol ≡ size → IsSymbol k n size (concat sources) j symbol → symbol ≡ encoded_symbol size sources j
encoded_only k n size j sources symbol fits most lt are long is =
    ext_get_or 0 symbol (encoded_symbol size sources j) (long ∙ sym (length-encoded_symbol size j sources))
    (λ t h.
    let within : t < size = omega (arith, long) in
    let a : HasSymbolAt k n size (concat sources) j symbol t = is t within in
    let b : HasSymbolAt k n size (concat sources) j (encoded_symbol size sources j) t = encoded_is k n size j sources fits most lt are t within in
    a.octet
    ∙ ap (λ w. get_or w j 0) (one_word k n (column k size (concat sources) t) a.word b.word fits most a.is b.is)
    ∙ sym b.octet)

-- ---- solving

solved_is : (k size : ℕ) (ids : List ℕ) (symbols : List (List ℕ)) → k ≤ 255 → AreSymbols k size symbols → AreIds k 255 ids
    → AreSources k size ids (concat symbols) (concat (solved_sources size ids symbols))
solved_is k size ids symbols small are ids_are t t_lt =
    let f : FormulaHolds (map power ids) (octets_at t symbols) =
    formula_at_ids k 255 ids (octets_at t symbols) (omega arith) ids_are (length-octets_at t symbols ∙ are.count) (octets_at-octets t symbols are.octets) in
    sources_from_formula k size t ids (concat symbols) (concat (solved_sources size ids symbols)) small ids_are (concat-octets symbols are.octets)
    (λ j lt.
    concat-at size j t (solved_sources size ids symbols) (solved_sources-sizes k size ids symbols are) (omega (arith, length-solved_sources size ids symbols, ids_are.count)) t_lt
    ∙ ap (λ s. get_or s t 0) (solved_sources-at size j ids symbols (omega (arith, ids_are.count)))
    ∙ symbol_values.solved k size j t ids symbols f.coefficients t_lt are ids_are f.through
    ∙ sym (f.formula (power j))
    ∙ ap (λ vs. interpolated (map power ids) vs (power j)) (sym (column-concat k size t symbols are t_lt)))

-- the sources are determined
same_sources : (k size : ℕ) (ids symbols out other : List ℕ) → k ≤ 255 → AreIds k 255 ids → AreSources k size ids symbols out → AreSources k size ids symbols other
    → (j t : ℕ) → j < k → t < size → get_or out (j * size + t) 0 ≡ get_or other (j * size + t) 0
same_sources k size ids symbols out other small are a b j t lt t_lt =
    let p : GoesThroughAt k size ids symbols out t = a t t_lt in
    let q : GoesThroughAt k size ids symbols other t = b t t_lt in
    sym (get_or-column k size out t j lt)
    ∙ sym (p.is.starts j lt)
    ∙ ap (λ w. get_or w j 0)
    (any_k_determine k 255 ids (column k size out t) p.word (column k size other t) q.word (omega arith) are p.is q.is
    (All-from_get_or (λ m. get_or p.word m 0 ≡ get_or q.word m 0) ids 0
    (λ i h. p.meets i (omega (arith, are.count)) ∙ sym (q.meets i (omega (arith, are.count))))))
    ∙ q.is.starts j lt
    ∙ get_or-column k size other t j lt

-- rows of `size` octets that agree row by row
same_rows : (k size : ℕ) (xs ys : List ℕ) → length xs ≡ k * size → length ys ≡ k * size
    → ((j t : ℕ) → j < k → t < size → get_or xs (j * size + t) 0 ≡ get_or ys (j * size + t) 0) → xs ≡ ys
same_rows k zero xs ys p q h = ext_get_or 0 xs ys (p ∙ sym q) (λ i lt. absurd (omega arith))
same_rows k (suc size) xs ys p q h =
    ext_get_or 0 xs ys (p ∙ sym q)
    (λ i lt.
    let width : ℕ = suc size in
    let is : i / width * width + i % width ≡ i = omega (arith, div-add-mod i width) in
    let within : i % width < width = mod-lt i (omega arith) in
    let row : i / width < k = (div-lt_iff_lt-mul {k = width} {x = i} {y = k} (omega arith)).1 (omega arith) in
    ap (λ n. get_or xs n 0) (sym is) ∙ h (i / width) (i % width) row within ∙ ap (λ n. get_or ys n 0) is)

solved_only : (k size : ℕ) (ids : List ℕ) (symbols : List (List ℕ)) (out : List ℕ) → k ≤ 255 → AreSymbols k size symbols → AreIds k 255 ids
    → length out ≡ k * size → AreSources k size ids (concat symbols) out → out ≡ concat (solved_sources size ids symbols)
solved_only k size ids symbols out small are ids_are long is =
    same_rows k size out (concat (solved_sources size ids symbols)) long
    (length-concat size (solved_sources size ids symbols) (solved_sources-sizes k size ids symbols are)
    ∙ ap (λ n. n * size) (length-solved_sources size ids symbols ∙ ids_are.count))
    (same_sources k size ids (concat symbols) out (concat (solved_sources size ids symbols)) small ids_are is (solved_is k size ids symbols small are ids_are))

pub function_laws : FunctionLaws
function_laws = record { encoded = encoded_is; encoded_only = encoded_only; solved = solved_is; solved_only = solved_only }
