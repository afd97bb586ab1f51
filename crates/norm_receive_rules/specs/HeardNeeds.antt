-- Whether others asked for all that a need says (RFC 5401 section 3.2.2): then it need not be asked for again.
use Rattle.std.specs.Prelude.{ℕ, ◌+◌, ◌-◌, ◌&&◌, ◌||◌, List, [], ◌∷◌, Bool, true, false, nat_lt, nat_le, None, Some}
use Rattle.std.specs.List.{list_any}
use Rattle.fec_plan.specs.Partition.{source_symbols}
use Rattle.fec_plan.specs.Points.{Point, point, same_point, position, position_before}
use Rattle.fec_plan.specs.declared.position.Position.{Position}
use Rattle.norm_ext.specs.Asking.{Span, lies_in, Count}
use Rattle.norm_receive_rules.specs.Heard.{Heard}
use Rattle.norm_receive_rules.specs.Holding.{Holding}
use Rattle.norm_receive_rules.specs.Plans.{cut_of_plan, plan_of}
use Rattle.norm_receive_rules.specs.Needs.{Need, Object, ObjectInfo, Symbols, Source, Rest}
use Rattle.norm_receive_rules.specs.StreamNeeds.{last_block}

-- a position lies in one of these spans
abbrev pub is_asked : List Span → Position → Bool
is_asked spans at = list_any (lies_in at) spans

-- the source symbol behind a position, where blocks have so many
abbrev pub symbol_behind : ℕ → Position → Position
symbol_behind width at = elim (nat_lt (at.symbol + 1) width) [
  | true ↦ position at.index at.block (at.symbol + 1)
  | false ↦ position at.index (at.block + 1) 0
]

-- All source symbols from one to another were asked for: along the spans, which are in order, the first that is not
-- known to be asked for lies in the next span that does not end before it, and then it is the one behind that span.
unfoldable pub covers : ℕ → Position → Position → List Span → Bool
covers width first last [] = false
covers width first last (x ∷ spans) = elim (position_before x.last first) [
  | true ↦ covers width first last spans
  | false ↦ elim (position_before first x.first) [
    | true ↦ false
    | false ↦ elim (position_before x.last last) [ true ↦ covers width (symbol_behind width x.last) last spans | false ↦ true ]
  ]
]

-- the source symbols of an object's blocks: one that is not known may have 256
abbrev pub width_of : Holding → Point → ℕ
width_of s at = elim (plan_of s at.index) [ Some plan ↦ source_symbols (cut_of_plan plan) at.block | None ↦ 256 ]

-- all source symbols from a block of an object to another were asked for, where the blocks have so many
abbrev pub blocks_heard : Heard → ℕ → ℕ → ℕ → ℕ → Bool
blocks_heard heard width index first last = covers width (position index first 0) (position index last (width - 1)) heard.symbols

-- as many symbols of a block were asked for
abbrev pub asks_as_many : List Count → Point → ℕ → Bool
asks_as_many counts at wanted = list_any (λ (c : Count). same_point c.of at && nat_le wanted c.lacking) counts

-- an info was asked for
abbrev pub info_heard : Heard → ℕ → Bool
info_heard heard index = is_asked heard.infos (position index 0 0)

-- What was heard asks for all of a need: of a count for as many symbols of the block, or for all of its source symbols.
-- Blocks of a stream are all as wide as the first of them.
abbrev pub is_heard : Heard → Holding → Need → Bool
is_heard heard s (Object index) = blocks_heard heard (width_of s (point index 0)) index 0 last_block && info_heard heard index
is_heard heard s (ObjectInfo index) = info_heard heard index
is_heard heard s (Symbols index block wanted) =
    asks_as_many heard.counts (point index block) wanted
    || blocks_heard heard (width_of s (point index block)) index block block
is_heard heard s (Source at) = is_asked heard.symbols at
is_heard heard s (Rest index block) = blocks_heard heard (width_of s (point index block)) index block last_block
