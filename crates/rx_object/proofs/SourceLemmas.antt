-- The sources that lie in a block's row are those that the held symbols give.
use Rattle.std.proofs.Common.{◌≡◌, ◌-◌, ℕ, zero, suc, ◌+◌, ◌*◌, ◌%◌, ◌<◌, ◌≤◌, List, [], ◌∷◌, ◌++◌, length, map, replicate, get_or, Option, Some, None, Bool, true, false, refl, sym, ap, ◌∙◌, subst, arith}
use Rattle.std.specs.Prelude.{◌==◌, bit_xor}
use Rattle.std.specs.List.{AllByRecursion, concat, range_with_len}
use Rattle.std.specs.Int.Bits.{xor_zero_l}
use Rattle.std.proofs.Math.Nat.{suc-mul}
use Rattle.std.proofs.Math.ListN.{get_or-append}
use Rattle.std.proofs.lemmas.List.{get_or-append_right, length-map, append-nil}
use Rattle.gf_field.specs.Element.{AreElements}
use Rattle.gf_field.specs.Product.{product, shifts, sum_at_bits}
use Rattle.gf_field.specs.Power.{power}
use Rattle.gf_field.specs.Interpolation.{coefficient}
use Rattle.gf_field.specs.Symbol.{AreSymbols, AreIds, scaled_onto, weighted_symbols, symbol_at, given, encoded_symbol, solved_symbol, solved_sources}
use Rattle.gf_field.proofs.Products.{product-zero}
use Rattle.gf_field.proofs.Symbols.{length-weighted_symbols}
use Rattle.norm_base.specs.Octets.{AreOctets}
use Rattle.rs_block.specs.Column.{column}
use Rattle.rs_block.specs.Codeword.{Codeword, AreSources, HasSymbolAt}
use Rattle.rs_block.proofs.Formula.{length-column}
use Rattle.rs_block.proofs.Words.{column-octets, codeword_exists, codeword_laws}
use Rattle.rs_block.proofs.Functions.{function_laws}
use Rattle.norm_order.specs.Symbols.{padded}
use Rattle.norm_receive_rules.specs.Holding.{Held}
use Rattle.norm_receive_rules.specs.BlockValue.{ids_of, octets_of_held}
use Rattle.rx_object.specs.Places.{pieces}
use Rattle.rx_object.proofs.FreePlaces.{length-padded, concat_pieces}
use Rattle.rx_object.proofs.SolvedLemmas.{symbols_are}

-- ---- zeros behind a symbol change nothing

padded_onto : (c n : ℕ) (xs ys : List ℕ) → scaled_onto (shifts 8 (c % 256)) (xs ++ replicate n 0) ys ≡ scaled_onto (shifts 8 (c % 256)) xs ys
unfolding scaled_onto product
padded_onto c n xs [] = refl
padded_onto c zero [] (y ∷ ys) = refl
padded_onto c (suc n) [] (y ∷ ys) =
    ap (λ v. bit_xor v y ∷ scaled_onto (shifts 8 (c % 256)) (replicate n 0) ys) (product-zero c)
    ∙ ap (λ v. v ∷ scaled_onto (shifts 8 (c % 256)) (replicate n 0) ys) (xor_zero_l y)
    ∙ ap (λ vs. y ∷ vs) (padded_onto c n [] ys ∙ onto_nil ys)
  where
    onto_nil : (ys : List ℕ) → scaled_onto (shifts 8 (c % 256)) [] ys ≡ ys
    onto_nil [] = refl
    onto_nil (y ∷ ys) = refl
padded_onto c n (x ∷ xs) (y ∷ ys) = ap (λ vs. bit_xor (sum_at_bits (shifts 8 (c % 256)) x) y ∷ vs) (padded_onto c n xs ys)

padded_weighted : (size : ℕ) (places ms : List ℕ) (symbols : List (List ℕ)) (x : ℕ) → weighted_symbols size places ms (map (padded size) symbols) x ≡ weighted_symbols size places ms symbols x
unfolding weighted_symbols
padded_weighted size places [] symbols x = refl
padded_weighted size places (m ∷ ms) [] x = refl
padded_weighted size places (m ∷ ms) (s ∷ ss) x =
    padded_onto (coefficient places m x) (size - length s) s (weighted_symbols size places ms (map (padded size) ss) x)
    ∙ ap (scaled_onto (shifts 8 (coefficient places m x % 256)) s) (padded_weighted size places ms ss x)

whole_padded : (size : ℕ) (xs : List ℕ) → length xs ≡ size → padded size xs ≡ xs
whole_padded size xs long = ap (λ n. xs ++ replicate n 0) (let none : size - length xs ≡ 0 = omega (arith, long) in none) ∙ append-nil xs

-- a symbol that was given, padded
abbrev option_padded : ℕ → Option (List ℕ) → Option (List ℕ)
option_padded size o = elim o [ Some s ↦ Some (padded size s) | None ↦ None ]

padded_given : (size : ℕ) (ids : List ℕ) (symbols : List (List ℕ)) (j : ℕ) → given ids (map (padded size) symbols) j ≡ option_padded size (given ids symbols j)
unfolding given
padded_given size [] symbols j = refl
padded_given size (i ∷ is) [] j = refl
padded_given size (i ∷ is) (s ∷ ss) j = go (i == j) (padded_given size is ss j)
  where
    go : (b : Bool) → given is (map (padded size) ss) j ≡ option_padded size (given is ss j)
        → ◌≡◌ {A = Option (List ℕ)} (elim b [ true ↦ Some (padded size s) | false ↦ given is (map (padded size) ss) j ])
        (option_padded size (elim b [ true ↦ Some s | false ↦ given is ss j ]))
    go true rest = refl
    go false rest = rest

padded_symbol : (size : ℕ) (ids : List ℕ) (symbols : List (List ℕ)) (j : ℕ) → padded size (solved_symbol size ids symbols j) ≡ solved_symbol size ids (map (padded size) symbols) j
unfolding solved_symbol symbol_at
padded_symbol size ids symbols j = go (given ids symbols j) (given ids (map (padded size) symbols) j) (padded_given size ids symbols j)
  where
    go : (o p : Option (List ℕ)) → p ≡ option_padded size o
        → padded size (elim o [ Some s ↦ s | None ↦ symbol_at size (map power ids) symbols (power j) ])
        ≡ elim p [ Some s ↦ s | None ↦ symbol_at size (map power ids) (map (padded size) symbols) (power j) ]
    go (Some s) (Some t) e = cc e
    go (Some s) None e = absurd (cc e)
    go None (Some t) e = absurd (cc e)
    go None None e =
        whole_padded size _ (length-weighted_symbols size (map power ids) (map power ids) symbols (power j))
        ∙ sym (padded_weighted size (map power ids) (map power ids) symbols (power j))

mapped_twice : (f : List ℕ → List ℕ) (g h : ℕ → List ℕ) → ((j : ℕ) → f (g j) ≡ h j) → (js : List ℕ) → map f (map g js) ≡ map h js
mapped_twice f g h same [] = refl
mapped_twice f g h same (j ∷ js) = ap (λ s. s ∷ map f (map g js)) (same j) ∙ ap (λ ss. h j ∷ ss) (mapped_twice f g h same js)

pub padded_sources : (size : ℕ) (ids : List ℕ) (symbols : List (List ℕ)) → map (padded size) (solved_sources size ids symbols) ≡ solved_sources size ids (map (padded size) symbols)
unfolding solved_sources
padded_sources size ids symbols =
    mapped_twice (padded size) (solved_symbol size ids symbols) (solved_symbol size ids (map (padded size) symbols)) (padded_symbol size ids symbols) (range_with_len 0 (length ids))

-- ---- symbols in a row

-- held symbols in a row, each padded
abbrev pub padded_row : ℕ → List Held → List ℕ
padded_row size held = concat (map (λ (h : Held). padded size h.octets) held)

-- at place t, a symbol has the octet of a word at its id
abbrev Meets : ℕ → ℕ → List ℕ → Held → Type 0
Meets size t word h = get_or word h.at.symbol 0 ≡ get_or (padded size h.octets) t 0

-- symbols that are no longer than this
abbrev pub AreShort : ℕ → List Held → Type 0
AreShort size hs = AllByRecursion (λ (h : Held). length h.octets ≤ size) hs

row_first : (size t : ℕ) (h : Held) (hs : List Held) → length h.octets ≤ size → t < size → get_or (padded_row size (h ∷ hs)) (0 * size + t) 0 ≡ get_or (padded size h.octets) t 0
row_first size t h hs le lt =
    ap (λ n. get_or (padded_row size (h ∷ hs)) n 0) (let e : 0 * size + t ≡ t = omega arith in e)
    ∙ get_or-append (padded size h.octets) (padded_row size hs) 0 t (omega (arith, length-padded size h.octets le))

row_later : (size i t : ℕ) (h : Held) (hs : List Held) → length h.octets ≤ size → get_or (padded_row size (h ∷ hs)) (suc i * size + t) 0 ≡ get_or (padded_row size hs) (i * size + t) 0
row_later size i t h hs le =
    get_or-append_right (padded size h.octets) (padded_row size hs) size (suc i * size + t) 0 (length-padded size h.octets le) (omega (arith, suc-mul i size))
    ∙ ap (λ n. get_or (padded_row size hs) n 0) (let e : suc i * size + t - size ≡ i * size + t = omega (arith, suc-mul i size) in e)

meets_at : (size t : ℕ) (word : List ℕ) (hs : List Held) → AreShort size hs → t < size → AllByRecursion (Meets size t word) hs
    → (i : ℕ) → i < length hs → get_or word (get_or (ids_of hs) i 0) 0 ≡ get_or (padded_row size hs) (i * size + t) 0
meets_at size t word [] short lt all i less = absurd (omega arith)
meets_at size t word (x ∷ xs) short lt all zero less = all.0 ∙ sym (row_first size t x xs short.0 lt)
meets_at size t word (x ∷ xs) short lt all (suc i) less = meets_at size t word xs short.1 lt all.1 i (omega arith) ∙ sym (row_later size i t x xs short.0)

row_again : (size : ℕ) (hs : List Held) → padded_row size hs ≡ concat (map (padded size) (octets_of_held hs))
row_again size [] = refl
row_again size (h ∷ hs) = ap (λ r. padded size h.octets ++ r) (row_again size hs)

-- ---- a block that is done

-- what is held is the encoded symbol of these sources, and padded as it is coded
pub record IsEncoded (size : ℕ) (sources : List (List ℕ)) (h : Held) : Type 0 where
  pub small : h.at.symbol < 255
  pub short : length h.octets ≤ size
  pub octets : AreElements (padded size h.octets)
  pub is : padded size h.octets ≡ encoded_symbol size sources h.at.symbol

shorts : (size : ℕ) (sources : List (List ℕ)) (hs : List Held) → AllByRecursion (IsEncoded size sources) hs → AreShort size hs
shorts size sources [] all = tt
shorts size sources (h ∷ hs) all = (all.0.short, shorts size sources hs all.1)

sizes_of : (size : ℕ) (sources : List (List ℕ)) (hs : List Held) → AllByRecursion (IsEncoded size sources) hs → AllByRecursion (λ s. length s ≡ size) (map (padded size) (octets_of_held hs))
sizes_of size sources [] all = tt
sizes_of size sources (h ∷ hs) all = (length-padded size h.octets all.0.short, sizes_of size sources hs all.1)

octets_are : (size : ℕ) (sources : List (List ℕ)) (hs : List Held) → AllByRecursion (IsEncoded size sources) hs → AllByRecursion AreElements (map (padded size) (octets_of_held hs))
octets_are size sources [] all = tt
octets_are size sources (h ∷ hs) all = (all.0.octets, octets_are size sources hs all.1)

all_meet : (k size t : ℕ) (row word : List ℕ) (hs : List Held) → k ≤ 255 → t < size → length row ≡ k * size → AreOctets row → Codeword k 255 (column k size row t) word
    → AllByRecursion (IsEncoded size (pieces size k row)) hs → AllByRecursion (Meets size t word) hs
all_meet k size t row word [] most lt long bytes is all = tt
all_meet k size t row word (h ∷ hs) most lt long bytes is all =
    let e : IsEncoded size (pieces size k row) h = all.0 in
    let s : HasSymbolAt k 255 size (concat (pieces size k row)) h.at.symbol (encoded_symbol size (pieces size k row) h.at.symbol) t =
    function_laws.encoded k 255 size h.at.symbol (pieces size k row) most (omega arith) e.small (symbols_are size k row long bytes) t lt in
    let same : word ≡ s.word =
    codeword_laws.only k 255 (column k size row t) word s.word most (omega arith) is (subst (λ xs. Codeword k 255 (column k size xs t) s.word) (concat_pieces size k row long) s.is) in
    (ap (λ w. get_or w h.at.symbol 0) same ∙ sym s.octet ∙ ap (λ xs. get_or xs t 0) (sym e.is), all_meet k size t row word hs most lt long bytes is all.1)

-- the sources that lie in the row are those that the held symbols give
pub row_is : (k size : ℕ) (row : List ℕ) (hs : List Held) → k ≤ 255 → length row ≡ k * size → AreOctets row → length hs ≡ k → AreIds k 255 (ids_of hs)
    → AllByRecursion (IsEncoded size (pieces size k row)) hs
    → row ≡ concat (map (padded size) (solved_sources size (ids_of hs) (octets_of_held hs)))
row_is k size row hs most long bytes count ids all =
    function_laws.solved_only k size (ids_of hs) (map (padded size) (octets_of_held hs)) row most symbols ids long
    (subst (λ xs. AreSources k size (ids_of hs) xs row) (row_again size hs) sources)
    ∙ ap concat (sym (padded_sources size (ids_of hs) (octets_of_held hs)))
  where
    symbols : AreSymbols k size (map (padded size) (octets_of_held hs))
    symbols = record {
      count = length-map (octets_of_held hs) (padded size) ∙ length-map hs (λ (h : Held). h.octets) ∙ count;
      sizes = sizes_of size (pieces size k row) hs all;
      octets = octets_are size (pieces size k row) hs all;
    }

    sources : AreSources k size (ids_of hs) (padded_row size hs) row
    sources t lt =
        let w : (word : List ℕ) × Codeword k 255 (column k size row t) word =
        codeword_exists k 255 (column k size row t) most (omega arith) (length-column k size row t) (column-octets k size row t bytes) in
        record {
          word = w.0;
          is = w.1;
          meets = λ i less. meets_at size t w.0 hs (shorts size (pieces size k row) hs all) lt (all_meet k size t row w.0 hs most lt long bytes w.1 all) i (omega (arith, less, count));
        }

pub length-symbol_at : (size : ℕ) (ids : List ℕ) (symbols : List (List ℕ)) (j : ℕ) → length (symbol_at size ids symbols j) ≡ size
unfolding symbol_at
length-symbol_at size ids symbols j = length-weighted_symbols size ids ids symbols j
