-- What is handed up of an order, and what of it stands before a watermark (RFC 5740 section 5.5.3).
use Rattle.std.specs.Prelude.{ℕ, ◌+◌, List, [], ◌∷◌, ◌++◌, map, take, slice_get, None, Some, Bool, true, false}
use Rattle.norm_base.specs.Settings.{Settings}
use Rattle.fec_plan.specs.Partition.{symbol_number}
use Rattle.fec_plan.specs.declared.position.Position.{Position}
use Rattle.norm_order.specs.declared.up.Up.{Up}
use Rattle.norm_order.specs.declared.up.Up.TheVariants as up
use Rattle.fec_plan.specs.Points.{reaches}
use Rattle.norm_order.specs.Entries.{Object, Whole, Stream, Entry}
use Rattle.norm_order.specs.Segments.{Segment, segments}
use Rattle.norm_order.specs.Shapes.{shape_of, last_in}

-- a segment's hand-up; the one of no octets is the end
abbrev pub segment_up : ℕ → Segment → Up
segment_up index s = elim s.octets [ [] ↦ up.StreamEnd index | octet ∷ octets ↦ up.StreamBytes index s.offset (octet ∷ octets) ]

-- all that is handed up of the object with this index: itself; or a stream's beginning, and its closed segments
abbrev pub parts_of : Settings → ℕ → Object → List Up
parts_of p index (Whole kind info octets) = up.Object index kind info octets ∷ []
parts_of p index (Stream parts) = up.StreamOpen index ∷ map (segment_up index) (segments p.e parts)

-- the parts of the objects from this index on
unfoldable pub all_parts : Settings → ℕ → List Entry → List Up
all_parts p index [] = []
all_parts p index (entry ∷ order) = parts_of p index entry.object ++ all_parts p (index + 1) order

-- the position is the last source symbol of the object, or behind it
abbrev pub ends_at : Settings → Object → Position → Bool
ends_at p object at = elim (last_in at.index (shape_of p object)) [ Some last ↦ reaches at last | None ↦ false ]

-- the parts of the object at a position's index that end there: an object's where the position is its last source
-- symbol, and of a stream those through the position's segment
abbrev pub parts_through : Settings → Position → Object → List Up
parts_through p at (Whole kind info octets) =
    elim (ends_at p (Whole kind info octets) at) [ true ↦ parts_of p at.index (Whole kind info octets) | false ↦ [] ]
parts_through p at (Stream parts) =
    take (2 + symbol_number (shape_of p (Stream parts)).cut at.block at.symbol) (parts_of p at.index (Stream parts))

-- Everything before a watermark, the object or segment that ends there included.
abbrev pub upto : Settings → List Entry → Position → List Up
upto p order at =
    all_parts p 0 (take at.index order)
    ++ elim (slice_get order at.index) [ Some entry ↦ parts_through p at entry.object | None ↦ [] ]
