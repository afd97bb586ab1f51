-- What requests ask for, in the words of the code.
use Rattle.std.specs.Prelude.{ℕ, List, ◌++◌, map, flat_map}
use Rattle.norm_base.specs.Settings.{Settings}
use Rattle.norm_ext.specs.Asking.{Span, Named, Count, item_named, item_span, pairs, block_span, object_span, asked_spans}
use Rattle.norm_ext.specs.declared.head.Item.{Item}
use Rattle.norm_ext.specs.declared.kinds.Form.TheVariants as form
use Rattle.norm_receive_rules.specs.Heard.{Heard, asked_infos}
use Rattle.fec_plan.specs.Points.{point_of}
use Rattle.rx_heard.specs.declared.overhearing.Width.{Width}
use Rattle.rx_heard.specs.declared.overhearing.Width.TheVariants as width

-- a span as wide as it counts
abbrev pub widened : Width → Span → Span
widened width.Symbols s = s
widened width.Blocks s = block_span s
widened width.Objects s = object_span s

-- these spans behind others, each so wide
abbrev pub with_spans : Width → List Span → List Span → List Span
with_spans w old spans = old ++ map (widened w) spans

-- what items name, each by itself, and pair by pair
abbrev pub items_spans : Settings → ℕ → List Item → List Span
items_spans p known items = flat_map item_span (map (item_named p known) items)

abbrev pub pairs_spans : Settings → ℕ → List Item → List Span
pairs_spans p known items = pairs (map (item_named p known) items)

-- the count that an item's place says
abbrev pub count_at : Span → Count
count_at s = record { of = point_of s.first; lacking = s.first.symbol }

-- these counts behind others
abbrev pub with_counts : List Count → List Span → List Count
with_counts old spans = old ++ map count_at spans

-- items that name these spans, with these flags
abbrev pub naming : ℕ → List Span → Named
naming flags spans = record { form = form.Items; flags = flags; spans = spans }

-- the spans that a request asks for, behind others, but not its counts
abbrev pub with_named : Heard → Named → Heard
with_named asked r = record asked { symbols = asked.symbols ++ asked_spans r; infos = asked.infos ++ asked_infos r }
