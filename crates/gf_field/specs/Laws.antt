-- The laws of the field, stated for octets: numbers below 256.
use Rattle.std.specs.Prelude.{ℕ, List, [], ◌≡◌, ◌<◌, ◌≤◌, length, map, slice_index, slice_index_or, bit_xor, nat_eq}
use Rattle.std.specs.List.{AllByRecursion, IsDistinct}
use Rattle.gf_field.specs.Element.{AreElements}
use Rattle.gf_field.specs.Product.{product}
use Rattle.gf_field.specs.Power.{power, powers}
use Rattle.gf_field.specs.Polynomial.{value_at, GoesThrough}
use Rattle.gf_field.specs.Interpolation.{interpolated}
use Rattle.gf_field.specs.Symbol.{AreSymbols, AreIds, octets_at, encoded_symbol, solved_symbol, solved_sources}

-- the sum makes the octets a commutative group, in which each octet is its own opposite
pub record SumLaws : Type 0 where
  pub closed : (a b : ℕ) → a < 256 → b < 256 → bit_xor a b < 256
  pub commutes : (a b : ℕ) → a < 256 → b < 256 → bit_xor a b ≡ bit_xor b a
  pub associates : (a b c : ℕ) → a < 256 → b < 256 → c < 256 → bit_xor (bit_xor a b) c ≡ bit_xor a (bit_xor b c)
  pub zero_adds_nothing : (a : ℕ) → a < 256 → bit_xor a 0 ≡ a
  pub opposite : (a : ℕ) → a < 256 → bit_xor a a ≡ 0

-- the product is commutative and associative, has the neutral 1, and is linear
pub record ProductLaws : Type 0 where
  pub closed : (a b : ℕ) → a < 256 → b < 256 → product a b < 256
  pub commutes : (a b : ℕ) → a < 256 → b < 256 → product a b ≡ product b a
  pub associates : (a b c : ℕ) → a < 256 → b < 256 → c < 256 → product (product a b) c ≡ product a (product b c)
  pub one : (a : ℕ) → a < 256 → product 1 a ≡ a
  pub distributes : (a b c : ℕ) → a < 256 → b < 256 → c < 256
      → product a (bit_xor b c) ≡ bit_xor (product a b) (product a c)

-- each octet but 0 has one inverse, and no product of two others is 0
pub record InverseLaws : Type 0 where
  pub exists : (a : ℕ) → 0 < a → a < 256 → (b : ℕ) × (b < 256) × (product a b ≡ 1)
  pub only : (a b c : ℕ) → a < 256 → b < 256 → c < 256 → product a b ≡ 1 → product a c ≡ 1 → b ≡ c
  pub no_divisors : (a b : ℕ) → 0 < a → a < 256 → b < 256 → product a b ≡ 0 → b ≡ 0

-- alpha has order 255, and its first 255 powers are different
pub record PowerLaws : Type 0 where
  pub whole : power 255 ≡ 1
  pub none_before : (n : ℕ) → 0 < n → n < 255 → power n ≡ 1 → ⊥
  pub different : (i j : ℕ) → i < 255 → j < 255 → power i ≡ power j → i ≡ j

-- a polynomial of degree below k with k different zeros is zero
abbrev pub ZerosLaw : Type 0
ZerosLaw =
    (coefficients zeros : List ℕ) → AreElements coefficients → AreElements zeros → IsDistinct nat_eq zeros
    → length coefficients ≤ length zeros → AllByRecursion (λ x. value_at coefficients x ≡ 0) zeros
    → AllByRecursion (λ c. c ≡ 0) coefficients

-- places that are different octets, and an octet for each
pub record ArePoints (places values : List ℕ) : Type 0 where
  pub places_octets : AreElements places
  pub values_octets : AreElements values
  pub different : IsDistinct nat_eq places
  pub paired : length values ≡ length places

-- through k points with different places goes exactly one polynomial of degree below k
pub record PointsLaw : Type 0 where
  pub exists : (places values : List ℕ) → ArePoints places values
      → (coefficients : List ℕ) × GoesThrough coefficients places values
  pub only : (places values cs ds : List ℕ) → ArePoints places values
      → GoesThrough cs places values → GoesThrough ds places values → cs ≡ ds

-- and its value at each x is that of Lagrange's formula
abbrev pub FormulaLaw : Type 0
FormulaLaw =
    (places values coefficients : List ℕ) (x : ℕ) → ArePoints places values
    → GoesThrough coefficients places values
    → value_at coefficients x ≡ interpolated places values x

-- at each octet's place, the symbols that are computed are values of the polynomial through those that they come from
pub record SymbolValues : Type 0 where
  pub encoded : (k size j t : ℕ) (sources : List (List ℕ)) (coefficients : List ℕ) → k ≤ 255 → t < size → AreSymbols k size sources
      → GoesThrough coefficients (powers k) (octets_at t sources)
      → slice_index (encoded_symbol size sources j) t ≡ value_at coefficients (power j)
  pub solved : (k size j t : ℕ) (ids : List ℕ) (symbols : List (List ℕ)) (coefficients : List ℕ) → t < size → AreSymbols k size symbols
      → AreIds k 255 ids → GoesThrough coefficients (map power ids) (octets_at t symbols)
      → slice_index (solved_symbol size ids symbols j) t ≡ value_at coefficients (power j)

-- any k encoded symbols of a block with different ids give its source symbols, each of which is an encoded symbol
pub record SymbolLaws : Type 0 where
  pub size : (size j : ℕ) (sources : List (List ℕ)) → length (encoded_symbol size sources j) ≡ size
  pub octets : (size j : ℕ) (sources : List (List ℕ)) → AreElements (encoded_symbol size sources j)
  pub own : (k size j : ℕ) (sources : List (List ℕ)) → k ≤ 255 → j < k → AreSymbols k size sources
      → encoded_symbol size sources j ≡ slice_index_or sources j []
  pub solved : (k size : ℕ) (ids : List ℕ) (sources : List (List ℕ)) → k ≤ 255 → AreSymbols k size sources → AreIds k 255 ids
      → solved_sources size ids (map (encoded_symbol size sources) ids) ≡ sources
