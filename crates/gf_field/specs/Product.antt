-- The product of the field GF(2^8), RFC 5510 section 8.1.
-- An octet is the number of its eight bits, where bit i stands for x^i. The sum of octets is their exclusive or.
use Rattle.std.specs.Prelude.{ℕ, zero, suc, ◌/◌, ◌%◌, ◌*◌, List, [], ◌∷◌, bit_xor, slice_index}

-- the sum of the values whose bit is set in n, where the first value goes with the lowest bit
unfoldable pub sum_at_bits : List ℕ → ℕ → ℕ
sum_at_bits [] n = 0
sum_at_bits (v ∷ vs) n = bit_xor (n % 2 * v) (sum_at_bits vs (n / 2))

-- what each bit of an octet becomes where it is shifted by one place: x^8 is x^4 + x^3 + x^2 + 1
abbrev pub shifted_bits : List ℕ
shifted_bits = 2 ∷ 4 ∷ 8 ∷ 16 ∷ 32 ∷ 64 ∷ 128 ∷ 29 ∷ []

-- an octet shifted by one place, and reduced by x^8 + x^4 + x^3 + x^2 + 1
unfoldable pub shift : ℕ → ℕ
shift a = sum_at_bits shifted_bits a

-- an octet shifted by 0, 1, 2 places and so on, n of them, each shift reduced
unfoldable pub shifts : ℕ → ℕ → List ℕ
shifts zero a = []
shifts (suc n) a = a ∷ shifts n (shift a)

-- the product of two octets: the sum of a shifted i places, for each set bit i of b
unfoldable pub product : ℕ → ℕ → ℕ
product a b = sum_at_bits (shifts 8 (a % 256)) b

-- c times the octet at index i
abbrev pub scaled : ℕ → List ℕ → ℕ → ℕ
scaled c octets i = product c (slice_index octets i)

-- the sum of four octets at index i, each times its factor
abbrev pub four_products : List ℕ → List ℕ → List ℕ → List ℕ → List ℕ → ℕ → ℕ
four_products factors a b c d i =
    bit_xor
    (bit_xor (bit_xor (scaled (slice_index factors 0) a i) (scaled (slice_index factors 1) b i)) (scaled (slice_index factors 2) c i))
    (scaled (slice_index factors 3) d i)
