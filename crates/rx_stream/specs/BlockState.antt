-- What is held of one block of a stream (RFC 5740 section 4.2.1, RFC 5510 section 8.3).
use Rattle.std.specs.Prelude.{ℕ, ◌-◌, ◌==◌, Bool, true, false, List, [], map, find, length, min, nat_lt, Option, Some, None}
use Rattle.std.specs.List.{list_any, range_with_len}
use Rattle.gf_field.specs.Symbol.{solved_symbol}
use Rattle.norm_ext.specs.Numbers.{number}

-- a symbol that came: its id, and its octets as they were sent
pub record Came : Type 0 where
  pub id : ℕ
  pub octets : List ℕ

-- symbols are ordered by id
abbrev pub came_before : Came → Came → Bool
came_before a b = nat_lt a.id b.id

-- how many source symbols a block has, how many octets a symbol as it is coded, and what came of the block, in order
pub record BlockState : Type 0 where
  pub k : ℕ
  pub size : ℕ
  pub came : List Came

-- a block of which nothing came
abbrev pub empty_block : ℕ → ℕ → BlockState
empty_block k size = record { k = k; size = size; came = [] }

-- the symbol with an id came
abbrev pub has_id : BlockState → ℕ → Bool
has_id b id = list_any (λ (c : Came). c.id == id) b.came

-- how many symbols are lacking to as many as there are source symbols
abbrev pub lacks : BlockState → ℕ
lacks b = b.k - length b.came

-- the octets that came under an id
abbrev pub came_under : List Came → ℕ → Option (List ℕ)
came_under came id = elim (find (λ (c : Came). c.id == id) came) [ Some c ↦ Some c.octets | None ↦ None ]

-- A source symbol: where nothing is lacking, that of the one codeword through what came; else the symbol itself, where it came.
abbrev pub source_of : BlockState → ℕ → Option (List ℕ)
source_of b symbol = elim (lacks b == 0) [
  | true ↦ Some (solved_symbol b.size (map (λ (c : Came). c.id) b.came) (map (λ (c : Came). c.octets) b.came) symbol)
  | false ↦ came_under b.came symbol
]

-- a source symbol is there, and is a segment of no octets, where a segment has at most e
abbrev pub is_end_at : ℕ → BlockState → ℕ → Bool
is_end_at e b symbol = elim (source_of b symbol) [ Some octets ↦ min (number 2 0 octets) e == 0 | None ↦ false ]

-- the first source symbol that is there and is such a segment
abbrev pub end_in_block : ℕ → BlockState → Option ℕ
end_in_block e b = find (is_end_at e b) (range_with_len 0 b.k)
