-- How an object is cut into blocks of symbols (RFC 5052 section 9.1), and the blocks of a stream.
use Rattle.std.specs.Prelude.{ℕ, ◌+◌, ◌-◌, ◌*◌, ◌/◌, ◌<◌, ◌≤◌, ◌==◌, Bool, ◌||◌, nat_lt, min, false, Option, None, Some, if◌then◌else◌}
use Rattle.std.specs.Int.{div_ceil}
use Rattle.fec_plan.specs.declared.plan.PlanFault.{PlanFault}
use Rattle.fec_plan.specs.declared.plan.PlanFault.TheVariants.{ZeroLength, BadSymbol, BadBlock, BadMaxN, TooManyBlocks}

-- an object of l octets, or a stream (where l is None), cut into symbols of e octets and blocks of at most b
-- source symbols, with max_n encoding symbols for a block of b
pub record Cut : Type 0 where
  pub l : Option ℕ
  pub e : ℕ
  pub b : ℕ
  pub max_n : ℕ

-- an object's cut
abbrev pub cut_of : ℕ → ℕ → ℕ → ℕ → Cut
cut_of l e b max_n = record { l = Some l; e = e; b = b; max_n = max_n }

-- a stream's cut
abbrev pub stream_cut : ℕ → ℕ → ℕ → Cut
stream_cut e b max_n = record { l = None; e = e; b = b; max_n = max_n }

-- the most blocks that 24 bits name
abbrev pub most_blocks : ℕ
most_blocks = 16777216

-- the least and the most octets of a symbol
abbrev pub least_symbol : ℕ
least_symbol = 64

abbrev pub most_symbol : ℕ
most_symbol = 1400

-- the most source symbols of a block
abbrev pub most_sources : ℕ
most_sources = 200

-- the octets of a segment's place, which stand before its own
abbrev pub place_octets : ℕ
place_octets = 8

-- T: the source symbols of an object
abbrev pub symbols_in : ℕ → ℕ → ℕ
symbols_in l e = div_ceil l e

-- N: the blocks of so many source symbols
abbrev pub blocks_in : ℕ → ℕ → ℕ
blocks_in t b = div_ceil t b

-- A_large: the source symbols of a larger block
abbrev pub large_block : ℕ → ℕ → ℕ
large_block t n = div_ceil t n

-- A_small: the source symbols of a smaller block
abbrev pub small_block : ℕ → ℕ → ℕ
small_block t n = t / n

-- I: how many blocks are larger; they are the first ones
abbrev pub larger_blocks : ℕ → ℕ → ℕ
larger_blocks t n = t - small_block t n * n

-- the source symbols of a block of an object of t source symbols in n blocks
abbrev pub block_size : ℕ → ℕ → ℕ → ℕ
block_size t n block = if nat_lt block (larger_blocks t n) then large_block t n else small_block t n

-- the source symbols of all blocks before a block
abbrev pub symbols_before : ℕ → ℕ → ℕ → ℕ
symbols_before t n block =
    min block (larger_blocks t n) * large_block t n + (block - larger_blocks t n) * small_block t n

-- the blocks of a cut; a stream has all that 24 bits name
abbrev pub blocks : Cut → ℕ
blocks c = elim c.l [ Some l ↦ blocks_in (symbols_in l c.e) c.b | None ↦ most_blocks ]

-- k: the source symbols of a block; every block of a stream has b
abbrev pub source_symbols : Cut → ℕ → ℕ
source_symbols c block =
    elim c.l [ Some l ↦ block_size (symbols_in l c.e) (blocks_in (symbols_in l c.e) c.b) block | None ↦ c.b ]

-- n: the encoding symbols of a block; every block of a stream has max_n
abbrev pub encoding_symbols : Cut → ℕ → ℕ
encoding_symbols c block = source_symbols c block * c.max_n / c.b

-- the source symbols of an object; a stream has as many as its blocks can hold
abbrev pub all_symbols : Cut → ℕ
all_symbols c = elim c.l [ Some l ↦ symbols_in l c.e | None ↦ most_blocks * c.b ]

-- a source symbol's number in the whole object or stream
abbrev pub symbol_number : Cut → ℕ → ℕ → ℕ
symbol_number c block symbol =
    elim c.l [
      | Some l ↦ symbols_before (symbols_in l c.e) (blocks_in (symbols_in l c.e) c.b) block + symbol
      | None ↦ block * c.b + symbol
    ]

-- the octets of a symbol as it is coded: e, and for a stream the eight octets of a segment's place before them
abbrev pub coded_octets : Cut → ℕ
coded_octets c = elim c.l [ Some l ↦ c.e | None ↦ c.e + place_octets ]

-- The octets of a symbol as it is sent. An object's last source symbol is sent at its own length. Of a stream
-- this is the most: a segment is sent with the octets that it has.
abbrev pub sent_octets : Cut → ℕ → ℕ → ℕ
sent_octets c block symbol =
    elim c.l [
      | Some l ↦ if nat_lt symbol (source_symbols c block) then min c.e (l - symbol_number c block symbol * c.e) else c.e
      | None ↦ c.e + place_octets
    ]

abbrev pub outside : ℕ → ℕ → ℕ → Bool
outside low high n = nat_lt n low || nat_lt high n

-- the first thing that is wrong with symbols of e octets, blocks of b and max_n
abbrev pub first_shape_fault : ℕ → ℕ → ℕ → Option PlanFault
first_shape_fault e b max_n =
    if outside least_symbol most_symbol e then Some (BadSymbol e) else
    (if outside 1 most_sources b then Some (BadBlock b) else
    (if nat_lt max_n b then Some (BadMaxN b max_n) else None))

-- the first thing that is wrong with a cut
abbrev pub first_fault : Cut → Option PlanFault
first_fault c =
    if elim c.l [ Some l ↦ l == 0 | None ↦ false ] then Some ZeroLength else
    (elim (first_shape_fault c.e c.b c.max_n) [
      | Some fault ↦ Some fault
      | None ↦ if nat_lt most_blocks (blocks c) then Some (TooManyBlocks (blocks c)) else None
    ])

-- a cut of which nothing is wrong
pub record IsSound (c : Cut) : Type 0 where
  pub some : 0 < all_symbols c
  pub least_e : least_symbol ≤ c.e
  pub most_e : c.e ≤ most_symbol
  pub least_b : 1 ≤ c.b
  pub most_b : c.b ≤ most_sources
  pub max_n : c.b ≤ c.max_n
  pub few : blocks c ≤ most_blocks
