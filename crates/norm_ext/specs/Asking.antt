-- What a repair request asks for (RFC 5740 section 4.3.1), by what its items name to the node that hears it: source symbols
-- as spans of positions, infos, and counts.
use Rattle.std.specs.Prelude.{ℕ, ◌/◌, ◌%◌, ◌==◌, ◌&&◌, ◌||◌, not, List, [], ◌∷◌, ◌++◌, map, filter, flat_map, Bool, true, false, Option, None, Some}
use Rattle.std.specs.List.{list_any}
use Rattle.norm_base.specs.Settings.{Settings}
use Rattle.fec_plan.specs.Points.{Point, position, point_of, position_before}
use Rattle.fec_plan.specs.declared.position.Position.{Position}
use Rattle.norm_ext.specs.ObjectIds.{index_named}
use Rattle.norm_ext.specs.Requests.{Request, RequestItem}
use Rattle.norm_ext.specs.declared.head.Item.{Item}
use Rattle.norm_ext.specs.declared.kinds.Form.{Form}
use Rattle.norm_ext.specs.declared.kinds.Form.TheVariants as form

-- the flags of a request: what of each item it asks for
abbrev pub segment_flag : ℕ
segment_flag = 1

-- BLOCK
abbrev pub block_flag : ℕ
block_flag = 2

-- INFO
abbrev pub info_flag : ℕ
info_flag = 4

-- OBJECT
abbrev pub object_flag : ℕ
object_flag = 8

-- the flags have this one
abbrev pub has_flag : ℕ → ℕ → Bool
has_flag flags flag = flags / flag % 2 == 1

-- from one position to another, both included
pub record Span : Type 0 where
  pub first : Position
  pub last : Position

-- a span by its ends
abbrev pub span : Position → Position → Span
span first last = record { first = first; last = last }

-- what an item names to a node that knows indices up to one, or nothing
abbrev pub item_named : Settings → ℕ → Item → Option Position
item_named p known item = elim (index_named p known item.object) [
  | Some index ↦ Some (position index item.id.block item.id.symbol)
  | None ↦ None
]

-- what an item of a request names
abbrev pub named_by : Settings → ℕ → RequestItem → Option Position
named_by p known x = item_named p known x.item

-- an item by itself, where it names something
abbrev pub item_span : Option Position → List Span
item_span (Some at) = span at at ∷ []
item_span None = []

-- a pair, where both of its ends name something
abbrev pub pair_span : Option Position → Option Position → List Span
pair_span (Some first) (Some last) = span first last ∷ []
pair_span _ _ = []

-- the pairs of a list of items
unfoldable pub pairs : List (Option Position) → List Span
pairs [] = []
pairs (a ∷ []) = []
pairs (a ∷ b ∷ items) = pair_span a b ++ pairs items

-- A request as its hearer takes it: what its items name, each by itself, and of ranges pair by pair.
pub record Named : Type 0 where
  pub form : Form
  pub flags : ℕ
  pub spans : List Span

-- what a form's items name
abbrev pub spans_of : Form → List (Option Position) → List Span
spans_of form.Items items = flat_map item_span items
spans_of form.Ranges items = pairs items
spans_of form.Erasures items = flat_map item_span items

-- a request, to a node that knows indices up to one: what names no index asks for nothing, nor does the pair that it is in
abbrev pub named : Settings → ℕ → Request → Named
named p known r = record { form = r.form; flags = r.flags; spans = spans_of r.form (map (named_by p known) r.items) }

-- the first end is not after the second; ends are compared as whole positions, whatever the flags
abbrev pub is_proper : Span → Bool
is_proper s = not (position_before s.last s.first)

-- the source symbols that a request names: of ranges where the pair is not empty, and of erasures none
abbrev pub named_spans : Named → List Span
named_spans r = elim r.form [
  | form.Items ↦ r.spans
  | form.Ranges ↦ filter is_proper r.spans
  | form.Erasures ↦ []
]

-- the greatest numbers of a block and of a symbol that a message names
abbrev pub last_block : ℕ
last_block = 16777215

abbrev pub last_symbol : ℕ
last_symbol = 255

-- a span widened to whole blocks, which have at most 256 symbols
abbrev pub block_span : Span → Span
block_span s = span (position s.first.index s.first.block 0) (position s.last.index s.last.block last_symbol)

-- a span widened to whole objects, which have at most 2^24 blocks
abbrev pub object_span : Span → Span
object_span s = span (position s.first.index 0 0) (position s.last.index last_block last_symbol)

-- these, where the flags have this one
abbrev pub where_flag : {X : Type 0} → ℕ → ℕ → List X → List X
where_flag flags flag xs = elim (has_flag flags flag) [ true ↦ xs | false ↦ [] ]

-- The source symbols that a request asks for by name lie in these spans: those named where the flags have SEGMENT, with
-- their blocks where they have BLOCK, and with their objects where they have OBJECT.
abbrev pub asked_spans : Named → List Span
asked_spans r =
    where_flag r.flags segment_flag (named_spans r)
    ++ where_flag r.flags block_flag (map block_span (named_spans r))
    ++ where_flag r.flags object_flag (map object_span (named_spans r))

-- the position lies in the span
abbrev pub lies_in : Position → Span → Bool
lies_in at s = not (position_before at s.first) && not (position_before s.last at)

-- a request asks by name for a source symbol
abbrev pub asks_source : Named → Position → Bool
asks_source r at = list_any (lies_in at) (asked_spans r)

-- a request asks for an object's info, where the flags have INFO
abbrev pub asks_info : Named → ℕ → Bool
asks_info r index =
    has_flag r.flags info_flag && list_any (λ s. lies_in (position index 0 0) (object_span s)) (named_spans r)

-- the encoded symbols, parity too, that a request asks for by name: items with SEGMENT
abbrev pub asked_symbols : Named → List Position
asked_symbols r = elim r.form [
  | form.Items ↦ where_flag r.flags segment_flag (map (λ (s : Span). s.first) r.spans)
  | form.Ranges ↦ []
  | form.Erasures ↦ []
]

-- how many symbols are lacking in a block
pub record Count : Type 0 where
  pub of : Point
  pub lacking : ℕ

-- with SEGMENT or BLOCK, erasures ask for as many symbols of each block as the symbol id says
abbrev pub asked_counts : Named → List Count
asked_counts r = elim r.form [
  | form.Items ↦ []
  | form.Ranges ↦ []
  | form.Erasures ↦ elim (has_flag r.flags segment_flag || has_flag r.flags block_flag) [
    | true ↦ map (λ (s : Span). record { of = point_of s.first; lacking = s.first.symbol }) r.spans
    | false ↦ []
  ]
]
