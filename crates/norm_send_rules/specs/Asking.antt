-- What a repair request asks a sender for (RFC 5740 section 5.4), by the order as it stood when the request came.
use Rattle.std.specs.Prelude.{ℕ, ◌+◌, ◌==◌, ◌&&◌, not, List, [], ◌∷◌, ◌++◌, length, map, filter, min, take, Bool, true, false, nat_lt, Option, None, Some}
use Rattle.std.specs.List.{range_with_len}
use Rattle.fec_plan.specs.Partition.{symbol_number}
use Rattle.fec_plan.specs.Points.{Point, point_before}
use Rattle.fec_plan.specs.declared.position.Position.{Position}
use Rattle.norm_ext.specs.Asking.{Named, asks_source, asks_info, asked_symbols, Count, asked_counts}
use Rattle.norm_order.specs.Shapes.{Shape, sources_in, is_encoded, has_info, closed_in, at_index}
use Rattle.norm_send_rules.specs.SenderState.{Asked}
use Rattle.norm_send_rules.specs.declared.want.Want.{Want}
use Rattle.norm_send_rules.specs.declared.want.Want.TheVariants.{Info, Symbol}

-- the closed source symbols of an order from this index on
unfoldable pub all_sources : ℕ → List Shape → List Position
all_sources index [] = []
all_sources index (s ∷ shapes) = sources_in index s ++ all_sources (index + 1) shapes

-- The infos and symbols of an order that a request asks for by name. What is not enqueued, is no symbol or info of its
-- object, or is not closed, is asked for in vain.
abbrev pub asks_for : List Shape → Named → List Want
asks_for shapes r =
    map Symbol (filter (asks_source r) (all_sources 0 shapes))
    ++ map Symbol (filter (is_encoded shapes) (asked_symbols r))
    ++ map Info (filter (λ index. has_info shapes index && asks_info r index) (range_with_len 0 (length shapes)))

-- how many of an object's source symbols are closed at a last closed source symbol of the order
abbrev pub closed_at : Option Position → ℕ → Shape → ℕ
closed_at None index s = 0
closed_at (Some last) index s = elim (last.index == index) [
  | true ↦ min s.closed (symbol_number s.cut last.block last.symbol + 1)
  | false ↦ elim (nat_lt last.index index) [ true ↦ 0 | false ↦ s.closed ]
]

-- the shapes from this index on as they stood when the last closed source symbol was this one
unfoldable pub shapes_at : Option Position → ℕ → List Shape → List Shape
shapes_at last index [] = []
shapes_at last index (s ∷ shapes) = record s { closed = closed_at last index s } ∷ shapes_at last (index + 1) shapes

-- the order as it stood when a request came
abbrev pub as_it_came : Asked → List Shape → List Shape
as_it_came a shapes = shapes_at a.last 0 (take a.next shapes)

-- the wants that a request came to ask for
abbrev pub wants_of : List Shape → Asked → List Want
wants_of shapes a = asks_for (as_it_came a shapes) a.request

-- the block had a closed source symbol, and was in the window
abbrev pub is_kept : List Shape → Point → Point → Bool
is_kept shapes first at = not (point_before at first) && at_index shapes at.index false (λ s. nat_lt 0 (closed_in s at.block))

-- the counts that a request came to have kept
abbrev pub counts_of : List Shape → Asked → List Count
counts_of shapes a = filter (λ (c : Count). is_kept (as_it_came a shapes) a.first c.of) (asked_counts a.request)
