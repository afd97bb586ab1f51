-- What a receiver needs of a stream (RFC 5740 section 5.3), whose end it may not know.
use Rattle.std.specs.Prelude.{ℕ, ◌+◌, ◌-◌, ◌==◌, ◌&&◌, ◌||◌, not, List, [], ◌∷◌, ◌++◌, map, filter, find, max, min, Bool, true, false, nat_lt, nat_le, Option, None, Some, is_none}
use Rattle.std.specs.List.{range_with_len}
use Rattle.norm_base.specs.Settings.{Settings}
use Rattle.fec_plan.specs.Partition.{source_symbols}
use Rattle.fec_plan.specs.Points.{Point, position}
use Rattle.fec_plan.specs.declared.position.Position.{Position}
use Rattle.norm_receive_rules.specs.Holding.{Holding, Plan, Held}
use Rattle.norm_receive_rules.specs.Lazy.{Lazy, followed_by, lazily}
use Rattle.norm_receive_rules.specs.Plans.{cut_of_plan, holds, is_done, first_block}
use Rattle.norm_receive_rules.specs.BlockValue.{block_value}
use Rattle.norm_receive_rules.specs.HandingUp.{segment_length}
use Rattle.norm_receive_rules.specs.Needs.{Need, Source, Rest, farthest_index, is_covered, counts_from}

-- the last block that 24 bits name
abbrev pub last_block : ℕ
last_block = 16777215

-- the flush position, where it is in this object
abbrev pub flush_in : Option Position → ℕ → Option Position
flush_in flush index = elim flush [
  | Some at ↦ elim (at.index == index) [ true ↦ Some at | false ↦ None ]
  | None ↦ None
]

-- the blocks of a stream before the greatest one that was seen, and before the flush's
abbrev pub stream_due : ℕ → Option Position → ℕ
stream_due seen within = max seen (elim within [ Some at ↦ at.block | None ↦ 0 ])

-- the counts of these blocks that lack symbols, from the first one that was not handed up whole
abbrev pub earlier_needs : Option Position → Holding → Plan → Lazy Need
earlier_needs flush s plan =
    let first = first_block s plan.index in
    counts_from s plan (stream_due plan.seen (flush_in flush plan.index) - first) first

-- the source symbols of a block from one to before another that are not held, where the block is not done
abbrev pub missing_symbols : Holding → Plan → ℕ → ℕ → ℕ → List Position
missing_symbols s plan block first behind = elim (is_done s plan block) [
  | true ↦ []
  | false ↦ filter (λ at. not (holds s at)) (map (λ symbol. position plan.index block symbol) (range_with_len first (behind - first)))
]

-- how many source symbols of a block a flush names: of its own block those up to it, and of another none; a flush symbol that
-- is no source symbol counts as the last one
abbrev pub symbols_flushed : Plan → Option Position → ℕ → ℕ
symbols_flushed plan within block = elim within [
  | Some at ↦ elim (at.block == block) [ true ↦ min (at.symbol + 1) (source_symbols (cut_of_plan plan) block) | false ↦ 0 ]
  | None ↦ 0
]

-- in the flush's block each missing symbol up to it
abbrev pub flush_symbols : Option Position → Holding → Plan → List Position
flush_symbols flush s plan = elim (flush_in flush plan.index) [
  | Some at ↦ missing_symbols s plan at.block 0 (min (at.symbol + 1) (source_symbols (cut_of_plan plan) at.block))
  | None ↦ []
]

-- a source symbol is there, and is the end: a segment of no octets
abbrev pub is_end : Settings → Holding → Plan → Position → Bool
is_end p s plan at = elim (block_value s plan at.block at.symbol) [ Some octets ↦ segment_length p octets == 0 | None ↦ false ]

-- the end among the source symbols of a block
abbrev pub end_in : Settings → Holding → Plan → ℕ → Option Position
end_in p s plan block = find (is_end p s plan)
    (map (λ symbol. position plan.index block symbol) (range_with_len 0 (source_symbols (cut_of_plan plan) block)))

-- the end among the blocks of these symbols
unfoldable pub end_among : Settings → Holding → Plan → List Held → Option Position
end_among p s plan [] = None
end_among p s plan (h ∷ held) = elim (end_in p s plan h.at.block) [ Some at ↦ Some at | None ↦ end_among p s plan held ]

-- a stream's end that is held, or given by what is held of its block
abbrev pub end_of : Settings → Holding → Plan → Option Position
end_of p s plan = end_among p s plan
    (filter (λ (h : Held). h.at.index == plan.index && nat_le (first_block s plan.index) h.at.block) s.held)

-- in the block of the end of a covered stream each missing symbol before it, behind those that the flush names
abbrev pub end_symbols : Bool → Option Position → Holding → Plan → Option Position → List Position
end_symbols covered flush s plan end = elim covered [
  | true ↦ elim end [
    | Some at ↦ missing_symbols s plan at.block (symbols_flushed plan (flush_in flush plan.index) at.block) at.symbol
    | None ↦ []
  ]
  | false ↦ []
]

-- the symbols of the flush's block, and behind them those of the end's block
abbrev pub last_symbols : Bool → Option Position → Holding → Plan → Option Position → List Position
last_symbols covered flush s plan end = flush_symbols flush s plan ++ end_symbols covered flush s plan end

-- the sender was seen or heard to be past the stream
abbrev pub is_behind : Option Point → Option Position → ℕ → Bool
is_behind farthest flush index = nat_lt index (farthest_index farthest) || elim flush [ Some at ↦ nat_lt index at.index | None ↦ false ]

-- the first block from which on all is needed: the greatest seen, and the one behind it where that is done
abbrev pub open_block : Holding → Plan → ℕ
open_block s plan = elim (is_done s plan plan.seen) [ true ↦ plan.seen + 1 | false ↦ plan.seen ]

-- the rest of a stream whose end is not held, where the sender is past it
abbrev pub rest_needs : Bool → Holding → Plan → Option Position → List Need
rest_needs behind s plan end = elim (is_none end && behind && nat_le (open_block s plan) last_block) [
  | true ↦ Rest plan.index (open_block s plan) ∷ []
  | false ↦ []
]

-- what is needed of a stream behind its counts
abbrev pub stream_end_needs : Settings → Option Point → Option Position → Holding → Plan → List Need
stream_end_needs p farthest flush s plan =
    let end = end_of p s plan in
    map Source (last_symbols (is_covered farthest flush plan.index) flush s plan end)
    ++ rest_needs (is_behind farthest flush plan.index) s plan end

-- what is needed of a stream
abbrev pub stream_needs : Settings → Option Point → Option Position → Holding → Plan → Lazy Need
stream_needs p farthest flush s plan =
    followed_by (earlier_needs flush s plan) (λ u. lazily (stream_end_needs p farthest flush s plan))
