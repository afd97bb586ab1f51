-- A row of the code's matrix: the coefficients by which symbols are summed up to another symbol.
use Rattle.std.specs.Prelude.{ℕ, List, [], ◌∷◌, map, bit_xor}
use Rattle.gf_field.specs.Product.{product}
use Rattle.gf_field.specs.Interpolation.{coefficient}

-- the coefficient at x of each place
abbrev pub coefficients : List ℕ → ℕ → List ℕ
coefficients places x = map (λ m. coefficient places m x) places

-- the sum of the octets, each times its entry of the row
unfoldable pub combined : List ℕ → List ℕ → ℕ
combined [] octets = 0
combined (c ∷ cs) [] = 0
combined (c ∷ cs) (v ∷ vs) = bit_xor (product c v) (combined cs vs)
