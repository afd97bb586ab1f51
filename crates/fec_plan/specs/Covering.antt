-- What is promised of the partition (RFC 5052 section 9.1): its blocks and symbols are the object's, each once.
use Rattle.std.specs.Prelude.{ℕ, suc, ◌+◌, ◌≡◌, ◌<◌, ◌≤◌}
use Rattle.std.specs.List.{sum_by, range_with_len}
use Rattle.fec_plan.specs.Partition.{Cut, IsSound, cut_of, blocks, source_symbols, all_symbols, symbol_number, sent_octets}

-- the sum of a function over the numbers below n
abbrev pub sum_below : ℕ → (ℕ → ℕ) → ℕ
sum_below n f = sum_by f (range_with_len 0 n)

-- the octets that a block's source symbols have as they are sent
abbrev pub block_octets : Cut → ℕ → ℕ
block_octets c block = sum_below (source_symbols c block) (sent_octets c block)

-- what is promised of each object's cut of which nothing is wrong
abbrev pub OfObjects : (ℕ → Cut → Type 0) → Type 0
OfObjects Promise = (l e b max_n : ℕ) → IsSound (cut_of l e b max_n) → Promise l (cut_of l e b max_n)

-- the source symbols of all blocks are those of the object
abbrev pub BlocksCover : Type 0
BlocksCover = OfObjects (λ l c. sum_below (blocks c) (source_symbols c) ≡ all_symbols c)

-- the octets of all source symbols are those of the object
abbrev pub SymbolsCover : Type 0
SymbolsCover = OfObjects (λ l c. sum_below (blocks c) (block_octets c) ≡ l)

-- every source symbol but the last has e octets
abbrev pub AllButLastAreFull : Type 0
AllButLastAreFull = OfObjects (λ l c. (block symbol : ℕ) → symbol < source_symbols c block → symbol_number c block symbol + 1 < all_symbols c → sent_octets c block symbol ≡ c.e)

-- Every block has a source symbol, and at most b. Blocks differ by one at most, and none is larger than the one before.
abbrev pub BlocksAreEven : Type 0
BlocksAreEven =
    OfObjects (λ l c.
    (block : ℕ)
    → (1 ≤ source_symbols c block) × (source_symbols c block ≤ c.b)
    × (source_symbols c (suc block) ≤ source_symbols c block) × (source_symbols c block ≤ source_symbols c (suc block) + 1))
