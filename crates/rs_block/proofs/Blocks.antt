-- Any k symbols of a block have its sources.
use Rattle.std.proofs.Common.{◌≡◌, ℕ, ◌+◌, ◌*◌, ◌<◌, ◌≤◌, sym, ap, ◌∙◌, arith, List, get_or, take}
use Rattle.std.specs.List.{slice_range}
use Rattle.std.proofs.lemmas.List.{get_or-take, length-take-le}
use Rattle.std.proofs.lemmas.List.Edits.{get_or-between}
use Rattle.std.proofs.lemmas.List.Elements.{All-from_get_or}
use Rattle.gf_field.specs.Element.{AreElements}
use Rattle.gf_field.proofs.Symbols.{each_octet}
use Rattle.rs_block.specs.Column.{column}
use Rattle.rs_block.specs.Codeword.{Codeword, HasSymbolAt, IsSymbol, GoesThroughAt, AreSources, AreIds}
use Rattle.rs_block.specs.Laws.{SymbolLaws}
use Rattle.rs_block.proofs.Formula.{length-column, get_or-column}
use Rattle.rs_block.proofs.Words.{codeword_exists, any_k_determine, one_word, column-octets}

-- the start of a codeword is a codeword
codeword-take : (k n m : ℕ) (s w : List ℕ) → k ≤ n → n ≤ m → Codeword k m s w → Codeword k n s (take n w)
codeword-take k n m s w fits most p = record {
  sources = p.sources;
  symbols = length-take-le n w (omega (arith, p.symbols));
  coefficients = p.coefficients;
  octets = p.octets;
  few = p.few;
  values = λ j h. p.values j (omega arith) ∙ sym (get_or-take n w j 0 h);
  starts = λ j h. get_or-take n w j 0 (omega arith) ∙ p.starts j h;
}

symbol-octet : (symbols : List ℕ) (size i t : ℕ) → t < size → get_or (slice_range symbols (i * size) (i * size + size)) t 0 ≡ get_or symbols (i * size + t) 0
symbol-octet symbols size i t h = get_or-between symbols (i * size) (i * size + size) t 0 (omega arith)

own_symbol : (k n size j : ℕ) (source : List ℕ) → k ≤ n → n ≤ 255 → j < k → AreElements source → IsSymbol k n size source j (slice_range source (j * size) (j * size + size))
own_symbol k n size j source fits most lt octets t t_lt =
    let e : (word : List ℕ) × Codeword k n (column k size source t) word =
    codeword_exists k n (column k size source t) fits most (length-column k size source t) (column-octets k size source t (each_octet source octets)) in
    record {
      word = e.0;
      is = e.1;
      octet = symbol-octet source size j t t_lt ∙ sym (get_or-column k size source t j lt) ∙ sym (e.1.starts j lt);
    }

-- the octets of the given symbols, as the word of the sources has them
given_of_word : (k n size i t : ℕ) (ids symbols source w : List ℕ) → k ≤ n → n ≤ 255 → i < k → t < size → Codeword k n (column k size source t) w
    → HasSymbolAt k n size source (get_or ids i 0) (slice_range symbols (i * size) (i * size + size)) t
    → get_or symbols (i * size + t) 0 ≡ get_or w (get_or ids i 0) 0
given_of_word k n size i t ids symbols source w fits most lt t_lt p h =
    sym (symbol-octet symbols size i t t_lt) ∙ h.octet
    ∙ ap (λ v. get_or v (get_or ids i 0) 0) (one_word k n (column k size source t) h.word w fits most h.is p)

sources_again : (k n size : ℕ) (ids symbols source solved : List ℕ) → k ≤ n → n ≤ 255 → AreIds k n ids
    → ((i : ℕ) → i < k → IsSymbol k n size source (get_or ids i 0) (slice_range symbols (i * size) (i * size + size)))
    → AreSources k size ids symbols solved
    → (j t : ℕ) → j < k → t < size → get_or solved (j * size + t) 0 ≡ get_or source (j * size + t) 0
sources_again k n size ids symbols source solved fits most are given out j t lt t_lt =
    let g : GoesThroughAt k size ids symbols solved t = out t t_lt in
    let first : HasSymbolAt k n size source (get_or ids j 0) (slice_range symbols (j * size) (j * size + size)) t = given j lt t t_lt in
    let start : Codeword k n (column k size solved t) (take n g.word) = codeword-take k n 255 (column k size solved t) g.word fits most g.is in
    let same : take n g.word ≡ first.word =
    any_k_determine k n ids (column k size solved t) (take n g.word) (column k size source t) first.word most are start first.is
    (All-from_get_or (λ m. get_or (take n g.word) m 0 ≡ get_or first.word m 0) ids 0
    (λ i h.
    let within : i < k = omega (arith, are.count) in
    get_or-take n g.word (get_or ids i 0) 0 (are.below i 0 h)
    ∙ g.meets i within
    ∙ given_of_word k n size i t ids symbols source first.word fits most within t_lt first.is (given i within t t_lt))) in
    sym (get_or-column k size solved t j lt)
    ∙ sym (start.starts j lt)
    ∙ ap (λ w. get_or w j 0) same
    ∙ first.is.starts j lt
    ∙ get_or-column k size source t j lt

pub symbol_laws : SymbolLaws
symbol_laws = record { own = own_symbol; sources = sources_again }
