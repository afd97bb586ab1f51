-- The octets of the symbols of a block (RFC 5740 section 4.2.1, RFC 5510 section 8).
use Rattle.std.specs.Prelude.{ℕ, ◌-◌, ◌*◌, List, [], ◌++◌, length, replicate, map, take, drop, nat_lt, true, false, slice_get, None, Some}
use Rattle.std.specs.Int.{to_be_bytes, w16, w32}
use Rattle.std.specs.List.{range_with_len}
use Rattle.norm_base.specs.Settings.{Settings}
use Rattle.fec_plan.specs.Partition.{source_symbols, symbol_number, coded_octets}
use Rattle.gf_field.specs.Symbol.{encoded_symbol}
use Rattle.norm_order.specs.Entries.{Object, Whole, Stream}
use Rattle.norm_order.specs.Segments.{Segment, segments}
use Rattle.norm_order.specs.Shapes.{shape_of}

-- octets, and zeros behind them up to this length
abbrev pub padded : ℕ → List ℕ → List ℕ
padded size octets = octets ++ replicate (size - length octets) 0

-- a segment as it is sent: its length, 0 for the start of a message, its offset, and its octets
abbrev pub segment_octets : Segment → List ℕ
segment_octets s = to_be_bytes w16 (length s.octets) ++ to_be_bytes w16 0 ++ to_be_bytes w32 s.offset ++ s.octets

-- the segment at a place, as it is sent
abbrev pub segment_at : List Segment → ℕ → List ℕ
segment_at all number = elim (slice_get all number) [ Some s ↦ segment_octets s | None ↦ [] ]

-- the source symbol with this number in its object: e octets of it, and the last at its own length; or a segment
abbrev pub source_octets : Settings → Object → ℕ → List ℕ
source_octets p (Whole kind info octets) number = take p.e (drop (number * p.e) octets)
source_octets p (Stream parts) number = segment_at (segments p.e parts) number

-- the source symbols of a block
abbrev pub block_sources : Settings → Object → ℕ → List (List ℕ)
block_sources p object block =
    let cut = (shape_of p object).cut in
    map (λ symbol. source_octets p object (symbol_number cut block symbol)) (range_with_len 0 (source_symbols cut block))

-- The octets of an encoded symbol: a source symbol's own, and of a parity symbol those of the codeword of the block's
-- source symbols, each padded with zeros to the length of a coded symbol.
abbrev pub symbol_octets : Settings → Object → ℕ → ℕ → List ℕ
symbol_octets p object block symbol =
    let cut = (shape_of p object).cut in
    elim (nat_lt symbol (source_symbols cut block)) [
      | true ↦ source_octets p object (symbol_number cut block symbol)
      | false ↦ encoded_symbol (coded_octets cut) (block_sources p object block) symbol
    ]
