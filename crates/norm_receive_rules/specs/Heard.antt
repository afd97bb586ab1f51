-- What a receiver heard others ask for (RFC 5401 section 3.2.2), kept merged and in order.
use Rattle.std.specs.Prelude.{List, [], ◌∷◌, map, max, fold, true, false}
use Rattle.fec_plan.specs.Points.{same_point, point_before, position_before, nearer}
use Rattle.fec_plan.specs.declared.position.Position.{Position}
use Rattle.norm_ext.specs.Asking.{Named, Span, span, Count, object_span, info_flag, where_flag, named_spans, is_proper, asked_spans, asked_counts}

-- the source symbols and the infos that were asked for by name, as spans of which no two share a position; and of each
-- block the greatest count
pub record Heard : Type 0 where
  pub symbols : List Span
  pub infos : List Span
  pub counts : List Count

-- nothing was heard
abbrev pub heard_nothing : Heard
heard_nothing = record { symbols = []; infos = []; counts = [] }

-- the further of two positions that are there
abbrev pub later : Position → Position → Position
later a b = elim (position_before a b) [ true ↦ b | false ↦ a ]

-- two spans that share a position as one
abbrev pub joined : Span → Span → Span
joined a b = span (nearer a.first b.first) (later a.last b.last)

-- One span more: what lies before it stays before it, what lies behind it behind, and it takes in all that it meets.
unfoldable pub with_span : Span → List Span → List Span
with_span x [] = x ∷ []
with_span x (y ∷ spans) = elim (position_before y.last x.first) [
  | true ↦ y ∷ with_span x spans
  | false ↦ elim (position_before x.last y.first) [ true ↦ x ∷ y ∷ spans | false ↦ with_span (joined x y) spans ]
]

-- one span more, where its first end is not after its last
abbrev pub with_proper : List Span → Span → List Span
with_proper spans x = elim (is_proper x) [ true ↦ with_span x spans | false ↦ spans ]

-- one count more: of each block the greatest is kept
unfoldable pub with_count : Count → List Count → List Count
with_count c [] = c ∷ []
with_count c (x ∷ counts) = elim (same_point c.of x.of) [
  | true ↦ record x { lacking = max x.lacking c.lacking } ∷ counts
  | false ↦ elim (point_before c.of x.of) [ true ↦ c ∷ x ∷ counts | false ↦ x ∷ with_count c counts ]
]

-- the infos that a request asks for: those of the objects of these spans
abbrev pub asked_infos : Named → List Span
asked_infos r = where_flag r.flags info_flag (map object_span (named_spans r))

-- a request more
abbrev pub heard_also : Heard → Named → Heard
heard_also heard r = record {
  symbols = fold with_proper heard.symbols (asked_spans r);
  infos = fold with_proper heard.infos (asked_infos r);
  counts = fold (λ counts c. with_count c counts) heard.counts (asked_counts r);
}

-- all of these requests
abbrev pub heard_all : List Named → Heard
heard_all requests = fold heard_also heard_nothing requests
