-- Lagrange's formula: the value at x of the one polynomial of degree below k through k points.
use Rattle.std.specs.Prelude.{ℕ, List, [], ◌∷◌, ◌==◌, not, bit_xor, filter}
use Rattle.gf_field.specs.Product.{product}
use Rattle.gf_field.specs.Inverse.{inverse}

-- the product of the differences of x and each place
unfoldable pub differences : List ℕ → ℕ → ℕ
differences [] x = 1
differences (p ∷ ps) x = product (bit_xor x p) (differences ps x)

-- the places that are not m
abbrev pub others : ℕ → List ℕ → List ℕ
others m places = filter (λ p. not (p == m)) places

-- the coefficient at x of the point at m: the product of (x - p) / (m - p) over the other places p
unfoldable pub coefficient : List ℕ → ℕ → ℕ → ℕ
coefficient places m x = product (differences (others m places) x) (inverse (differences (others m places) m))

-- the sum of the values at the places ms, each by its coefficient
unfoldable pub weighted_sum : List ℕ → List ℕ → List ℕ → ℕ → ℕ
weighted_sum places [] values x = 0
weighted_sum places (m ∷ ms) [] x = 0
weighted_sum places (m ∷ ms) (v ∷ vs) x = bit_xor (product (coefficient places m x) v) (weighted_sum places ms vs x)

-- the value at x of the polynomial that has these values at these places
unfoldable pub interpolated : List ℕ → List ℕ → ℕ → ℕ
interpolated places values x = weighted_sum places places values x
