-- The powers of alpha, RFC 5510 section 8.1: alpha is the octet 02, which stands for x.
use Rattle.std.specs.Prelude.{ℕ, zero, suc, List, map}
use Rattle.std.specs.List.{range_with_len}
use Rattle.gf_field.specs.Product.{product}

-- the product of n factors 02
unfoldable pub power : ℕ → ℕ
power zero = 1
power (suc n) = product 2 (power n)

-- the powers with exponents below n
abbrev pub powers : ℕ → List ℕ
powers n = map power (range_with_len 0 n)
