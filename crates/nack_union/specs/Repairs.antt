-- What the count of a block asks an object for, as slots (RFC 5740 section 5.4).
use Rattle.std.specs.Prelude.{ℕ, suc, ◌-◌, List, [], ◌∷◌, ◌++◌, length, map, filter, min, take, not, nat_lt, nat_le, true, false}
use Rattle.std.specs.List.{range_with_len}
use Rattle.fec_plan.specs.Partition.{Cut, source_symbols}
use Rattle.norm_order.specs.Sets.{is_member}
use Rattle.norm_order.specs.Shapes.{Shape, closed_in, encoded_in}
use Rattle.nack_union.specs.Slots.{symbol_slot}

-- an object's shape, by its cut and by how many of its source symbols are closed
abbrev pub shape_closed : Cut → ℕ → Shape
shape_closed cut closed = record { cut = cut; closed = closed; info = false }

-- of so many symbols of a block from one on those that were never sent
abbrev pub fresh_symbols : List ℕ → ℕ → ℕ → ℕ → List ℕ
fresh_symbols sent block from count = filter (λ symbol. not (is_member nat_lt (symbol_slot block symbol) sent)) (range_with_len from count)

-- the parity symbols of a block that were never sent: none where not all its source symbols are closed
abbrev pub fresh_parities : Shape → List ℕ → ℕ → List ℕ
fresh_parities s sent block =
    fresh_symbols sent block (source_symbols s.cut block) (encoded_in s block - source_symbols s.cut block)

-- so many symbols of a block: the lowest fresh parity symbols, or all closed source symbols where fewer are left
abbrev pub repair_slots : Shape → List ℕ → ℕ → ℕ → List ℕ
repair_slots s sent block count = map (symbol_slot block) (elim (nat_le count (length (fresh_parities s sent block))) [
  | true ↦ take count (fresh_parities s sent block)
  | false ↦ range_with_len 0 (closed_in s block)
])

-- what the counts of the blocks from one on ask for, each at most all source symbols of its block
abbrev pub counted_slots : Shape → List ℕ → ℕ → List ℕ → List ℕ
counted_slots s sent block [] = []
counted_slots s sent block (c ∷ counts) =
    repair_slots s sent block (min c (source_symbols s.cut block)) ++ counted_slots s sent (suc block) counts
