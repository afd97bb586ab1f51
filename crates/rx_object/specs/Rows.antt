-- What is held of an object whose blocks lie in a row: the ids of their places, and the octets of these.
use Rattle.std.specs.Prelude.{ℕ, ◌+◌, ◌*◌, ◌==◌, List, [], ◌∷◌, take, flat_map, true, false, Option, Some, None}
use Rattle.std.specs.List.{range_with_len, slice_range}
use Rattle.fec_plan.specs.Partition.{Cut, blocks, source_symbols, symbol_number, sent_octets}
use Rattle.norm_receive_rules.specs.Holding.{Held}
use Rattle.rx_object.specs.BlockState.{held_at}
use Rattle.rx_object.specs.Places.{symbol_in, with_one}

-- the first place of a block, and the one behind it
abbrev pub start_of : Cut → ℕ → ℕ
start_of c block = symbol_number c block 0

abbrev pub end_of : Cut → ℕ → ℕ
end_of c block = start_of c block + source_symbols c block

-- the ids of a block's places
abbrev pub block_ids : Cut → List ℕ → ℕ → List ℕ
block_ids c ids block = slice_range ids (start_of c block) (end_of c block)

-- the octets of a block's places
abbrev pub block_row : Cut → List ℕ → ℕ → List ℕ
block_row c octets block = slice_range octets (start_of c block * c.e) (end_of c block * c.e)

-- the symbol that is held under an id of a block, as it is coded
abbrev pub coded_symbol : Cut → List ℕ → List ℕ → ℕ → ℕ → Option (List ℕ)
coded_symbol c ids octets block id = symbol_in c.e (block_ids c ids block) (block_row c octets block) id

-- with one symbol of a block more
abbrev pub with_coded : ℕ → ℕ → List ℕ → (ℕ → ℕ → Option (List ℕ)) → ℕ → ℕ → Option (List ℕ)
with_coded block symbol octets before other id = elim (other == block) [
  | true ↦ with_one symbol octets (before other) id
  | false ↦ before other id
]

-- a symbol as it is held: with the octets that are sent of it
abbrev pub held_under : ℕ → Cut → ℕ → (ℕ → Option (List ℕ)) → ℕ → List Held
held_under index c block symbols id = elim (symbols id) [
  | Some octets ↦ held_at index block id (take (sent_octets c block id) octets) ∷ []
  | None ↦ []
]

-- the ids of symbols
unfoldable pub all_ids : List ℕ
all_ids = range_with_len 0 255

-- what is held of a block, by ids
abbrev pub held_in : ℕ → Cut → (ℕ → ℕ → Option (List ℕ)) → ℕ → List Held
held_in index c symbols block = flat_map (held_under index c block (symbols block)) all_ids

-- what is held of an object, by blocks
abbrev pub all_held : ℕ → Cut → (ℕ → ℕ → Option (List ℕ)) → List Held
all_held index c symbols = flat_map (held_in index c symbols) (range_with_len 0 (blocks c))
