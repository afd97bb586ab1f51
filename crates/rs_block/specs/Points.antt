-- What Lagrange's formula keeps of its places.
use Rattle.std.specs.Prelude.{ℕ, List, ◌≡◌, ◌<◌, length, slice_index}
use Rattle.gf_field.specs.Power.{power}
pub use Rattle.gf_field.specs.Power.{powers}
use Rattle.gf_field.specs.Product.{product}
use Rattle.gf_field.specs.Inverse.{inverse}
use Rattle.gf_field.specs.Interpolation.{differences, others}

-- the weight of the place m: the inverse of the product of its differences to the others
unfoldable pub weight_at : List ℕ → ℕ → ℕ
weight_at places m = inverse (differences (others m places) m)

-- what makes 1 with the product of the differences of m and the other places has this logarithm
abbrev pub IsWeight : List ℕ → ℕ → ℕ → Type 0
IsWeight places m log = product (power log) (differences (others m places) m) ≡ 1

-- the logarithms of the places' weights, in their order
pub record AreWeights (places weights : List ℕ) : Type 0 where
  pub count : length weights ≡ length places
  pub each : (i : ℕ) → i < length places → power (slice_index weights i) ≡ weight_at places (slice_index places i)
