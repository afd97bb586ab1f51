-- The symbols of a block, RFC 5510 sections 8.2 and 8.3. A symbol is a list of octets. At each octet's place one
-- polynomial goes through the symbols of a block: its value at the power j of alpha is the octet of symbol j.
use Rattle.std.specs.Prelude.{ℕ, ◌%◌, ◌==◌, ◌≡◌, ◌≢◌, ◌<◌, true, false, Option, Some, None, List, [], ◌∷◌, length, map, replicate, slice_index, bit_xor}
use Rattle.std.specs.List.{All, AllPairs, AllByRecursion, range_with_len}
use Rattle.gf_field.specs.Element.{AreElements}
use Rattle.gf_field.specs.Product.{shifts, sum_at_bits}
use Rattle.gf_field.specs.Power.{power, powers}
use Rattle.gf_field.specs.Interpolation.{coefficient}

-- k symbols of `size` octets each
pub record AreSymbols (k size : ℕ) (symbols : List (List ℕ)) : Type 0 where
  pub count : length symbols ≡ k
  pub sizes : AllByRecursion (λ s. length s ≡ size) symbols
  pub octets : AllByRecursion AreElements symbols

-- k different ids of symbols among the first n
pub record AreIds (k n : ℕ) (ids : List ℕ) : Type 0 where
  pub count : length ids ≡ k
  pub different : AllPairs (λ x y. x ≢ y) ids
  pub below : All (λ j. j < n) ids

-- the octets at place t of the symbols, 0 where a symbol is shorter
abbrev pub octets_at : ℕ → List (List ℕ) → List ℕ
octets_at t symbols = map (λ s. slice_index s t) symbols

-- the octets ys, to each of which the octet at the same place of xs is added times the octet whose shifts these are;
-- past their end the xs count as zeros
unfoldable pub scaled_onto : List ℕ → List ℕ → List ℕ → List ℕ
scaled_onto multiples xs [] = []
scaled_onto multiples [] (y ∷ ys) = y ∷ ys
scaled_onto multiples (x ∷ xs) (y ∷ ys) = bit_xor (sum_at_bits multiples x) y ∷ scaled_onto multiples xs ys

-- `size` octets: the sum of the symbols with the places ms, each by its coefficient at x among all places
unfoldable pub weighted_symbols : ℕ → List ℕ → List ℕ → List (List ℕ) → ℕ → List ℕ
weighted_symbols size places [] symbols x = replicate size 0
weighted_symbols size places (m ∷ ms) [] x = replicate size 0
weighted_symbols size places (m ∷ ms) (s ∷ ss) x =
    scaled_onto (shifts 8 (coefficient places m x % 256)) s (weighted_symbols size places ms ss x)

-- the symbol at x of the one polynomial through the symbols at the places
unfoldable pub symbol_at : ℕ → List ℕ → List (List ℕ) → ℕ → List ℕ
symbol_at size places symbols x = weighted_symbols size places places symbols x

-- encoded symbol j of the block that has these source symbols, of at most `size` octets each
unfoldable pub encoded_symbol : ℕ → List (List ℕ) → ℕ → List ℕ
encoded_symbol size sources j = symbol_at size (powers (length sources)) sources (power j)

-- the symbol that was given with the id j
unfoldable pub given : List ℕ → List (List ℕ) → ℕ → Option (List ℕ)
given [] symbols j = None
given (i ∷ is) [] j = None
given (i ∷ is) (s ∷ ss) j = elim (i == j) [ true ↦ Some s | false ↦ given is ss j ]

-- symbol j of the block that has these symbols at their ids
unfoldable pub solved_symbol : ℕ → List ℕ → List (List ℕ) → ℕ → List ℕ
solved_symbol size ids symbols j = elim (given ids symbols j)
    [ Some s ↦ s | None ↦ symbol_at size (map power ids) symbols (power j) ]

-- the k source symbols of the block that has these k symbols at their ids
unfoldable pub solved_sources : ℕ → List ℕ → List (List ℕ) → List (List ℕ)
solved_sources size ids symbols = map (solved_symbol size ids symbols) (range_with_len 0 (length ids))
