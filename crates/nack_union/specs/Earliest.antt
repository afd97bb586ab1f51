-- The first point from which repair requests count (RFC 5740 section 5.4): what was asked for before the window makes a squelch
-- due.
use Rattle.std.specs.Prelude.{ℕ, List, fold, map, flat_map, Bool, true, false, Option, None, Some}
use Rattle.norm_base.specs.Settings.{Settings}
use Rattle.fec_plan.specs.Points.{Point, point_before}
use Rattle.norm_ext.specs.Asking.{Span, Named, is_proper, item_named, item_span, pairs}
use Rattle.norm_ext.specs.declared.head.Item.{Item}
use Rattle.norm_send_rules.specs.Closing.{gives_something, begins_at, counts_from}

-- the nearer of two points, where there are any
abbrev pub lesser : Option Point → Option Point → Option Point
lesser None b = b
lesser (Some a) None = Some a
lesser (Some a) (Some b) = Some (elim (point_before b a) [ true ↦ b | false ↦ a ])

-- the first of points, and of one that was found before
abbrev pub least_with : Option Point → List Point → Option Point
least_with found points = fold (λ least at. lesser least (Some at)) found points

-- the first point from which a request counts, where it gives something
abbrev pub earliest : Named → Option Point
earliest r = elim (gives_something r) [ true ↦ least_with None (map (counts_from r.flags) (begins_at r)) | false ↦ None ]

-- the first from which some requests count, and of one that was found before
abbrev pub earliest_with : Option Point → List Named → Option Point
earliest_with found requests = fold (λ least r. lesser least (earliest r)) found requests

-- there is a point, and it is before this one
abbrev pub is_before_window : Option Point → Point → Bool
is_before_window None drop = false
is_before_window (Some at) drop = point_before at drop

-- the points from which spans count, by flags
abbrev pub firsts : ℕ → List Span → List Point
firsts flags spans = map (λ (s : Span). counts_from flags s.first) spans

-- what items name, each by itself, and pair by pair
abbrev pub items_spans : Settings → ℕ → List Item → List Span
items_spans p known items = flat_map item_span (map (item_named p known) items)

abbrev pub pairs_spans : Settings → ℕ → List Item → List Span
pairs_spans p known items = pairs (map (item_named p known) items)

-- a point, where something is given
abbrev pub least_where : Bool → Option Point → Option Point
least_where gives least = elim gives [ true ↦ least | false ↦ None ]

-- the nearer of a point and that from which a range counts that is not empty
abbrev pub lesser_span : ℕ → Option Point → Span → Option Point
lesser_span flags least s = elim (is_proper s) [ true ↦ lesser least (Some (counts_from flags s.first)) | false ↦ least ]
