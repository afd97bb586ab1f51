-- The codewords of RFC 5510 section 8.2: symbol j is the value at the power j of alpha of a polynomial of
-- degree below k, and the first k symbols are the source symbols.
use Rattle.std.specs.Prelude.{ℕ, List, ◌≡◌, ◌<◌, ◌+◌, ◌*◌, length, slice_index}
use Rattle.gf_field.specs.Element.{AreElements}
pub use Rattle.gf_field.specs.Symbol.{AreIds}
use Rattle.gf_field.specs.Power.{power}
use Rattle.gf_field.specs.Polynomial.{value_at}
use Rattle.rs_block.specs.Column.{column}

-- the n octets `word` are the codeword of the k octets `source`
pub record Codeword (k n : ℕ) (source word : List ℕ) : Type 0 where
  pub sources : length source ≡ k
  pub symbols : length word ≡ n
  pub coefficients : List ℕ
  pub octets : AreElements coefficients
  pub few : length coefficients ≡ k
  pub values : (j : ℕ) → j < n → value_at coefficients (power j) ≡ slice_index word j
  pub starts : (j : ℕ) → j < k → slice_index word j ≡ slice_index source j

-- at place t, symbol j of the codeword of the k source symbols is the octet of `symbol`
pub record HasSymbolAt (k n size : ℕ) (source : List ℕ) (j : ℕ) (symbol : List ℕ) (t : ℕ) : Type 0 where
  pub word : List ℕ
  pub is : Codeword k n (column k size source t) word
  pub octet : slice_index symbol t ≡ slice_index word j

-- `symbol` is symbol j of the codeword of the k source symbols of `size` octets
abbrev pub IsSymbol : ℕ → ℕ → ℕ → List ℕ → ℕ → List ℕ → Type 0
IsSymbol k n size source j symbol = (t : ℕ) → t < size → HasSymbolAt k n size source j symbol t

-- at place t, the codeword of the k source symbols has the octets of the given symbols at their ids
pub record GoesThroughAt (k size : ℕ) (ids symbols source : List ℕ) (t : ℕ) : Type 0 where
  pub word : List ℕ
  pub is : Codeword k 255 (column k size source t) word
  pub meets : (i : ℕ) → i < k → slice_index word (slice_index ids i) ≡ slice_index symbols (i * size + t)

-- `source` are the source symbols of the codeword that has the given symbols at their ids
abbrev pub AreSources : ℕ → ℕ → List ℕ → List ℕ → List ℕ → Type 0
AreSources k size ids symbols source = (t : ℕ) → t < size → GoesThroughAt k size ids symbols source t
