-- What may be needed of a stream behind its info, in the words of the code: how many blocks are due, which source symbols of
-- the flush's block and of the end's, and from which block on all.
use Rattle.std.specs.Prelude.{ℕ, ◌≡◌, ◌+◌, ◌≤◌, ◌==◌, ◌&&◌, not, min, map, filter, Bool, true, false, nat_le, List, [], ◌∷◌, ◌++◌, Option, Some, None, IfSome, is_none}
use Rattle.std.specs.List.{range_with_len}
use Rattle.norm_base.specs.Settings.{Settings}
use Rattle.fec_plan.specs.Partition.{Cut, source_symbols}
use Rattle.fec_plan.specs.Points.{IsBlock, Point, position}
use Rattle.fec_plan.specs.declared.position.Position.{Position}
use Rattle.norm_receive_rules.specs.Holding.{Holding, Plan}
use Rattle.norm_receive_rules.specs.Lazy.{Lazy, lazily}
use Rattle.norm_receive_rules.specs.Needs.{Need, Source, Rest, counts_from, is_covered}
use Rattle.norm_receive_rules.specs.Plans.{cut_of_plan, holds}
use Rattle.norm_receive_rules.specs.StreamNeeds.{end_of, flush_in, is_behind, last_block, missing_symbols, open_block, stream_due}
use Rattle.rx_hold.specs.EntryHold.{EntryHold}
use Rattle.norm_receiver.specs.PlanOf.{IsPlanOf}
use Rattle.norm_receiver.specs.Quiet.{is_nil}
use Rattle.norm_receiver.specs.declared.stream_needs.Run.{Run}
use Rattle.norm_receiver.specs.declared.stream_needs.StreamWants.{StreamWants}

-- The plan is that of a stream with this index, which was not handed up.
pub record IsStreamOf (hold : EntryHold) (index : ℕ) (plan : Cut) : Type 0 where
  pub known : IsPlanOf hold index plan
  pub stream : plan.l ≡ None
  pub reached : hold.point.index ≤ index

-- source symbols are asked for one by one
abbrev pub sources : List Position → Lazy Need
sources symbols = lazily (map Source symbols)

-- n symbols of a block that are not held, from this one on
abbrev pub unheld : Holding → ℕ → ℕ → ℕ → ℕ → List Position
unheld s index block first n = filter (λ at. not (holds s at)) (map (λ symbol. position index block symbol) (range_with_len first n))

-- those of a run that are missing
abbrev pub missing_in : Holding → Plan → Run → List Position
missing_in s plan run = missing_symbols s plan run.block run.first run.behind

abbrev pub missing_of : Holding → Plan → Option Run → List Position
missing_of s plan run = elim run [ Some some ↦ missing_in s plan some | None ↦ [] ]

-- how many source symbols of a block a flush names, where blocks are cut so
abbrev pub symbols_named : Cut → Option Position → ℕ → ℕ
symbols_named cut within block = elim within [
  | Some at ↦ elim (at.block == block) [ true ↦ min (at.symbol + 1) (source_symbols cut block) | false ↦ 0 ]
  | None ↦ 0
]

-- the source symbols up to a flush
abbrev pub flush_run : Cut → Option Position → Option Run
flush_run cut within = elim within [
  | Some at ↦ Some (record { block = at.block; first = 0; behind = min (at.symbol + 1) (source_symbols cut at.block) })
  | None ↦ None
]

-- those before the end of a covered stream, behind those that a flush names
abbrev pub end_run : Bool → Cut → Option Position → Option Position → Option Run
end_run covered cut within end = elim covered [
  | true ↦ elim end [
    | Some at ↦ Some (record { block = at.block; first = symbols_named cut within at.block; behind = at.symbol })
    | None ↦ None
  ]
  | false ↦ None
]

-- the block from which on all is needed, where the rest is, and there is such a block
abbrev pub rest_at : Bool → ℕ → Option ℕ
rest_at needed least = elim (needed && nat_le least last_block) [ true ↦ Some least | false ↦ None ]

abbrev pub rest_of : ℕ → Option ℕ → List Need
rest_of index rest = elim rest [ Some block ↦ Rest index block ∷ [] | None ↦ [] ]

-- what may be needed, by what is known of the stream
abbrev pub wants_by : Cut → Bool → Bool → ℕ → Option Position → Option Position → ℕ → StreamWants
wants_by cut covered behind seen within end least = record {
  due = stream_due seen within;
  flushed = flush_run cut within;
  ended = end_run covered cut within end;
  rest = rest_at (is_none end && behind) least;
}

-- the same by what is held, the farthest point and the flush
abbrev pub wants_of : Settings → Option Point → Option Position → Holding → Plan → StreamWants
wants_of p farthest flush s plan =
    wants_by (cut_of_plan plan) (is_covered farthest flush plan.index) (is_behind farthest flush plan.index) plan.seen (flush_in flush plan.index) (end_of p s plan) (open_block s plan)

-- what of that is needed of these source symbols and of the rest
abbrev pub wanted_of : Holding → Plan → StreamWants → List Need
wanted_of s plan w = map Source (missing_of s plan w.flushed ++ missing_of s plan w.ended) ++ rest_of plan.index w.rest

-- nothing of that is needed of the blocks that are due, nor of the source symbols up to a flush
abbrev pub is_quiet_to_flush : Holding → Plan → StreamWants → Bool
is_quiet_to_flush s plan w = is_nil (counts_from s plan w.due 0) && is_nil (sources (missing_of s plan w.flushed))

-- Each block of it has 24 bits.
pub record AreBlocks (w : StreamWants) : Type 0 where
  pub due : IsBlock w.due
  pub flushed : IfSome w.flushed (λ (run : Run). IsBlock run.block)
  pub ended : IfSome w.ended (λ (run : Run). IsBlock run.block)
  pub rest : IfSome w.rest (λ (block : ℕ). IsBlock block)
