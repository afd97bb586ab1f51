-- Lists of numbers: node ids of 32 bits, object transport ids of 16.
use Rattle.std.specs.Prelude.{ℕ, List, [], ◌∷◌}
use Rattle.byteorder.specs.Endian.{big_number}

-- the numbers in each four octets
abbrev pub nodes_of : List ℕ → List ℕ
nodes_of (a ∷ b ∷ c ∷ d ∷ rest) = big_number 4 (a ∷ b ∷ c ∷ d ∷ []) ∷ nodes_of rest
nodes_of _ = []

-- the numbers in each two octets
abbrev pub objects_of : List ℕ → List ℕ
objects_of (a ∷ b ∷ rest) = big_number 2 (a ∷ b ∷ []) ∷ objects_of rest
objects_of _ = []
