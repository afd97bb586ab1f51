-- Polynomials over the field. One of degree below k is the list of its k coefficients, from that of x^0 on.
use Rattle.std.specs.Prelude.{ℕ, List, [], ◌∷◌, ◌≡◌, length, map, bit_xor}
use Rattle.gf_field.specs.Element.{AreElements}
use Rattle.gf_field.specs.Product.{product}

-- the value of the polynomial at x
unfoldable pub value_at : List ℕ → ℕ → ℕ
value_at [] x = 0
value_at (c ∷ cs) x = bit_xor c (product x (value_at cs x))

-- the polynomial has as many coefficients as there are places, and at each place it has the value given for it
pub record GoesThrough (coefficients places values : List ℕ) : Type 0 where
  pub octets : AreElements coefficients
  pub few : length coefficients ≡ length places
  pub meets : map (value_at coefficients) places ≡ values
