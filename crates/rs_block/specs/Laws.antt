-- The laws of codewords.
use Rattle.std.specs.Prelude.{ℕ, List, ◌≡◌, ◌<◌, ◌≤◌, ◌+◌, ◌*◌, length, slice_index}
use Rattle.std.specs.List.{All, concat, slice_range}
use Rattle.gf_field.specs.Element.{AreElements}
use Rattle.gf_field.specs.Symbol.{AreSymbols, encoded_symbol, solved_sources}
use Rattle.rs_block.specs.Codeword.{Codeword, IsSymbol, AreSources, AreIds}

-- any k octets have a codeword, and no other one; and codewords with the same octets at k different ids are one
pub record CodewordLaws : Type 0 where
  pub exists : (k n : ℕ) (source : List ℕ) → k ≤ n → n ≤ 255 → length source ≡ k → AreElements source
      → (word : List ℕ) × Codeword k n source word
  pub only : (k n : ℕ) (source word other : List ℕ) → k ≤ n → n ≤ 255
      → Codeword k n source word → Codeword k n source other → word ≡ other
  pub determined : (k n : ℕ) (ids source word other_source other : List ℕ) → n ≤ 255 → AreIds k n ids
      → Codeword k n source word → Codeword k n other_source other
      → All (λ j. slice_index word j ≡ slice_index other j) ids → word ≡ other

-- each source symbol is a symbol of the codeword, and solving any k symbols of a block gives its sources
pub record SymbolLaws : Type 0 where
  pub own : (k n size j : ℕ) (source : List ℕ) → k ≤ n → n ≤ 255 → j < k → AreElements source
      → IsSymbol k n size source j (slice_range source (j * size) (j * size + size))
  pub sources : (k n size : ℕ) (ids symbols source solved : List ℕ) → k ≤ n → n ≤ 255 → AreIds k n ids
      → ((i : ℕ) → i < k → IsSymbol k n size source (slice_index ids i) (slice_range symbols (i * size) (i * size + size)))
      → AreSources k size ids symbols solved
      → (j t : ℕ) → j < k → t < size → slice_index solved (j * size + t) ≡ slice_index source (j * size + t)

-- the functions of a list of symbols give the codeword's symbol and the sources, and nothing else is these
pub record FunctionLaws : Type 0 where
  pub encoded : (k n size j : ℕ) (sources : List (List ℕ)) → k ≤ n → n ≤ 255 → j < n → AreSymbols k size sources
      → IsSymbol k n size (concat sources) j (encoded_symbol size sources j)
  pub encoded_only : (k n size j : ℕ) (sources : List (List ℕ)) (symbol : List ℕ) → k ≤ n → n ≤ 255 → j < n → AreSymbols k size sources
      → length symbol ≡ size → IsSymbol k n size (concat sources) j symbol → symbol ≡ encoded_symbol size sources j
  pub solved : (k size : ℕ) (ids : List ℕ) (symbols : List (List ℕ)) → k ≤ 255 → AreSymbols k size symbols → AreIds k 255 ids
      → AreSources k size ids (concat symbols) (concat (solved_sources size ids symbols))
  pub solved_only : (k size : ℕ) (ids : List ℕ) (symbols : List (List ℕ)) (out : List ℕ) → k ≤ 255 → AreSymbols k size symbols → AreIds k 255 ids
      → length out ≡ k * size → AreSources k size ids (concat symbols) out → out ≡ concat (solved_sources size ids symbols)
