-- Which symbols an object has: its partition (RFC 5052 section 9.1), and how far it is closed.
use Rattle.std.specs.Prelude.{ℕ, ◌+◌, ◌-◌, ◌==◌, List, [], ◌∷◌, length, map, min, nat_lt, Bool, true, false, Option, None, Some, is_some, flat_map, slice_get}
use Rattle.std.specs.Int.{div_ceil}
use Rattle.std.specs.List.{range_with_len}
use Rattle.norm_base.specs.Settings.{Settings}
use Rattle.fec_plan.specs.Partition.{Cut, cut_of, stream_cut, blocks, source_symbols, encoding_symbols, symbol_number, all_symbols}
use Rattle.fec_plan.specs.declared.position.Position.{Position}
use Rattle.fec_plan.specs.Points.{position}
use Rattle.norm_order.specs.Entries.{Object, Whole, Stream, Entry}
use Rattle.norm_order.specs.Segments.{closed_from}

-- An object's partition, how many of its source symbols are closed, and whether it has info. All of an object's are
-- closed; of a stream those of its closed segments.
pub record Shape : Type 0 where
  pub cut : Cut
  pub closed : ℕ
  pub info : Bool

-- the shape of an object under a profile
abbrev pub shape_of : Settings → Object → Shape
shape_of p (Whole kind info octets) = record {
  cut = cut_of (length octets) p.e p.b p.max_n;
  closed = all_symbols (cut_of (length octets) p.e p.b p.max_n);
  info = is_some info;
}
shape_of p (Stream parts) = record {
  cut = stream_cut p.e p.b p.max_n;
  closed = length (closed_from p.e [] parts);
  info = false;
}

-- the object is a stream
abbrev pub is_stream : Shape → Bool
is_stream s = elim s.cut.l [ Some l ↦ false | None ↦ true ]

-- how many source symbols of a block are closed: none behind the last closed one
abbrev pub closed_in : Shape → ℕ → ℕ
closed_in s block = min (source_symbols s.cut block) (s.closed - symbol_number s.cut block 0)

-- all source symbols of the block are closed
abbrev pub is_full : Shape → ℕ → Bool
is_full s block = closed_in s block == source_symbols s.cut block

-- how many encoded symbols a block has: parity only where all its source symbols are closed
abbrev pub encoded_in : Shape → ℕ → ℕ
encoded_in s block = elim (is_full s block) [ true ↦ encoding_symbols s.cut block | false ↦ closed_in s block ]

-- how many blocks have a closed source symbol
abbrev pub closed_blocks : Shape → ℕ
closed_blocks s = elim s.cut.l [ Some l ↦ blocks s.cut | None ↦ div_ceil s.closed s.cut.b ]

-- the last closed source symbol of the object with this index
abbrev pub last_in : ℕ → Shape → Option Position
last_in index s = elim (s.closed == 0) [
  | true ↦ None
  | false ↦ let block = closed_blocks s - 1 in Some (position index block (closed_in s block - 1))
]

-- the first n symbols of a block
abbrev pub symbols_of : ℕ → ℕ → ℕ → List Position
symbols_of index n block = map (λ symbol. position index block symbol) (range_with_len 0 n)

-- the closed source symbols of the object with this index, in order
abbrev pub sources_in : ℕ → Shape → List Position
sources_in index s = flat_map (λ block. symbols_of index (closed_in s block) block) (range_with_len 0 (closed_blocks s))

-- the shapes of an order
abbrev pub shapes_of : Settings → List Entry → List Shape
shapes_of p order = map (λ (entry : Entry). shape_of p entry.object) order

-- of the object with an index, where there is one, this
abbrev pub at_index : {X : Type 0} → List X → ℕ → Bool → (X → Bool) → Bool
at_index order index otherwise test = elim (slice_get order index) [ Some x ↦ test x | None ↦ otherwise ]

-- the position is a closed source symbol of the order
abbrev pub is_source : List Shape → Position → Bool
is_source shapes at = at_index shapes at.index false (λ s. nat_lt at.symbol (closed_in s at.block))

-- the position is an encoded symbol of the order
abbrev pub is_encoded : List Shape → Position → Bool
is_encoded shapes at = at_index shapes at.index false (λ s. nat_lt at.symbol (encoded_in s at.block))

-- the object with this index has info
abbrev pub has_info : List Shape → ℕ → Bool
has_info shapes index = at_index shapes index false (λ s. s.info)

-- the last closed source symbol from this object on, or else the one found before
unfoldable pub last_from : ℕ → Option Position → List Shape → Option Position
last_from index found [] = found
last_from index found (s ∷ shapes) =
    last_from (index + 1) (elim (last_in index s) [ Some at ↦ Some at | None ↦ found ]) shapes

-- the last closed source symbol of the order
abbrev pub last_source : List Shape → Option Position
last_source shapes = last_from 0 None shapes
