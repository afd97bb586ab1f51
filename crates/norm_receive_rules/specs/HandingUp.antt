-- Handing up in transport order (RFC 5740 section 5.2): as far as it can, from the hand-up point on.
use Rattle.std.specs.Prelude.{ℕ, zero, suc, ◌+◌, ◌==◌, ◌&&◌, List, [], ◌∷◌, ◌++◌, length, take, drop, min, Bool, true, false, nat_lt, Option, None, Some, flat_map, if◌then◌else◌}
use Rattle.std.specs.List.{list_all, range_with_len}
use Rattle.norm_base.specs.Settings.{Settings}
use Rattle.norm_base.specs.declared.kinds.Kind.{Kind}
use Rattle.norm_base.specs.declared.kinds.Kind.TheVariants as kind
use Rattle.fec_plan.specs.Partition.{blocks, source_symbols}
use Rattle.fec_plan.specs.Points.{position}
use Rattle.fec_plan.specs.declared.position.Position.{Position}
use Rattle.norm_ext.specs.Numbers.{number}
use Rattle.norm_order.specs.declared.up.Up.{Up}
use Rattle.norm_order.specs.declared.up.Up.TheVariants as up
use Rattle.norm_receive_rules.specs.Holding.{Holding, Plan}
use Rattle.norm_receive_rules.specs.Plans.{cut_of_plan, says_stream, says_file, says_info, plan_of, is_done, has_its_info, info_of}
use Rattle.norm_receive_rules.specs.BlockValue.{block_value}

-- the place behind an object
abbrev pub after_object : ℕ → Position
after_object index = position (index + 1) 0 0

-- these are handed up, and the hand-up point is there
abbrev pub handed : List Up → Position → Holding → Holding
handed ups point s = record s { ups = s.ups ++ ups; point = point }

-- an object is whole: its info is there where it has one, and all its blocks are done
abbrev pub is_whole : Holding → Plan → Bool
is_whole s plan = has_its_info s plan && list_all (is_done s plan) (range_with_len 0 (blocks (cut_of_plan plan)))

-- the octets of a block's source symbols in a row
abbrev pub block_octets : Holding → Plan → ℕ → List ℕ
block_octets s plan block = flat_map
    (λ symbol. elim (block_value s plan block symbol) [ Some octets ↦ octets | None ↦ [] ])
    (range_with_len 0 (source_symbols (cut_of_plan plan) block))

-- an object's octets: those of its blocks, without the padding of the last symbol
abbrev pub object_octets : Holding → Plan → List ℕ
object_octets s plan = take plan.fti.l (flat_map (block_octets s plan) (range_with_len 0 (blocks (cut_of_plan plan))))

-- the kind that flags say
abbrev pub kind_of : ℕ → Kind
kind_of flags = if says_file flags then kind.File else kind.Data

-- the info of an object that has one
abbrev pub told_info : Holding → Plan → Option (List ℕ)
told_info s plan = elim (says_info plan.flags) [ true ↦ info_of s plan.index | false ↦ None ]

-- an object that is whole is handed up
abbrev pub hands_object : Holding → Plan → Option Holding
hands_object s plan = elim (is_whole s plan) [
  | true ↦ Some (handed (up.Object plan.index (kind_of plan.flags) (told_info s plan) (object_octets s plan) ∷ []) (after_object plan.index) s)
  | false ↦ None
]

-- the octets of a segment that a source symbol has: as many as it says, and at most e
abbrev pub segment_length : Settings → List ℕ → ℕ
segment_length p symbol = min (number 2 0 symbol) p.e

-- a segment's hand-up; the one of no octets is the end
abbrev pub segment_up : Settings → ℕ → List ℕ → Up
segment_up p index symbol = elim (segment_length p symbol) [
  | zero ↦ up.StreamEnd index
  | suc n ↦ up.StreamBytes index (number 4 4 symbol) (take (suc n) (drop 8 symbol))
]

-- the source symbol behind this one in a stream, and behind its end the next object
abbrev pub after_segment : Settings → Plan → Position → List ℕ → Position
after_segment p plan at symbol = elim (segment_length p symbol) [
  | zero ↦ after_object at.index
  | suc n ↦ elim (nat_lt (at.symbol + 1) (source_symbols (cut_of_plan plan) at.block)) [
    | true ↦ position at.index at.block (at.symbol + 1)
    | false ↦ position at.index (at.block + 1) 0
  ]
]

-- a stream's open is handed up directly before its first segment
abbrev pub open_before : Position → List Up
open_before at = elim (at.block == 0 && at.symbol == 0) [ true ↦ up.StreamOpen at.index ∷ [] | false ↦ [] ]

-- the next segment of a stream, where it is there
abbrev pub next_segment : Holding → Plan → Option (List ℕ)
next_segment s plan = block_value s plan s.point.block s.point.symbol

-- a segment is handed up
abbrev pub hands_segment : Settings → Holding → Plan → List ℕ → Holding
hands_segment p s plan symbol =
    handed (open_before s.point ++ segment_up p s.point.index symbol ∷ []) (after_segment p plan s.point symbol) s

-- the next segment of a stream is handed up, where it and the stream's info are there
abbrev pub hands_next : Settings → Holding → Plan → Option Holding
hands_next p s plan = elim (has_its_info s plan) [
  | true ↦ elim (next_segment s plan) [ Some symbol ↦ Some (hands_segment p s plan symbol) | None ↦ None ]
  | false ↦ None
]

-- one hand-up at the hand-up point, where there is one
abbrev pub hands_one : Settings → Holding → Option Holding
hands_one p s = elim (plan_of s s.point.index) [
  | Some plan ↦ elim (says_stream plan.flags) [ true ↦ hands_next p s plan | false ↦ hands_object s plan ]
  | None ↦ None
]

-- at most so many hand-ups
unfoldable pub hands_most : ℕ → Settings → Holding → Holding
hands_most zero p s = s
hands_most (suc n) p s = elim (hands_one p s) [ Some after ↦ hands_most n p after | None ↦ s ]

-- All that can be is handed up. Each hand-up takes a held symbol at least.
abbrev pub handed_up : Settings → Holding → Holding
handed_up p s = hands_most (length s.held) p s
