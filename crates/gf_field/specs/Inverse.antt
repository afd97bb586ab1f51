-- The inverse of an octet.
use Rattle.std.specs.Prelude.{ℕ, zero, suc}
use Rattle.gf_field.specs.Product.{product}

-- the power of a whose exponent is n + 1 ones in binary
unfoldable pub ones_power : ℕ → ℕ → ℕ
ones_power zero a = a
ones_power (suc n) a = product (product (ones_power n a) (ones_power n a)) a

-- the power 254, which is the inverse, since the power 255 of each octet but 0 is 1
unfoldable pub inverse : ℕ → ℕ
inverse a = product (ones_power 6 a) (ones_power 6 a)
