-- When a symbol may be kept of a stream (RFC 5740 section 4.2.1), and what its next segment is handed up as (section 5.2).
use Rattle.std.specs.Prelude.{ℕ, ◌≡◌, ◌==◌, ◌&&◌, ◌<◌, ◌+◌, ◌-◌, Bool, List, length, filter, not, nat_lt, true, false, Option, Some, None}
use Rattle.norm_base.specs.Settings.{Settings}
use Rattle.fec_plan.specs.Partition.{Cut, blocks, source_symbols, encoding_symbols, coded_octets}
use Rattle.fec_plan.specs.Points.{position}
use Rattle.norm_order.specs.declared.up.Up.{Up}
use Rattle.norm_order.specs.declared.up.Up.TheVariants as up
use Rattle.norm_receive_rules.specs.HandingUp.{next_segment, segment_up}
use Rattle.norm_receive_rules.specs.Holding.{Held}
use Rattle.norm_receive_rules.specs.Plans.{has_its_info, holds, is_done}
use Rattle.norm_receive_rules.specs.Putting.{is_segment}
use Rattle.rs_block.specs.Solver.{SolverState}
use Rattle.rx_stream.specs.BlockState.{BlockState}
use Rattle.rx_stream.specs.BlockMoves.{IsSent}
use Rattle.rx_stream.specs.StreamState.{StreamState, alone}

-- the symbol is an encoded symbol of a stream that is cut so, and the payload is its
abbrev pub fits_cut : Settings → Cut → ℕ → ℕ → List ℕ → Bool
fits_cut p c block symbol payload = nat_lt block (blocks c) && nat_lt symbol (encoding_symbols c block)
    && (elim (nat_lt symbol (source_symbols c block)) [ true ↦ is_segment p payload | false ↦ length payload == coded_octets c ])

-- the room that solving a block takes
abbrev pub shape_of : BlockState → SolverState
shape_of b = record { k = b.k; size = b.size }

-- A symbol may be kept that is not held, of a block that is not done and for which there is room, where the payload is its.
pub record MayKeep (o : StreamState) (block symbol : ℕ) (payload : List ℕ) : Type 0 where
  pub small : symbol < 255
  pub named : block < 16777216
  pub near : block < o.point.block + o.room
  pub new : holds (alone o) (position o.plan.index block symbol) ≡ false
  pub lacks : is_done (alone o) o.plan block ≡ false
  pub sent : IsSent o.plan.fti.b (o.plan.fti.e + 8) symbol payload

-- the next segment was passed; of a block that ends by it nothing is kept
abbrev pub passed : StreamState → StreamState
passed o = elim (nat_lt (o.point.symbol + 1) o.plan.fti.b) [
  | true ↦ record o { point = position o.plan.index o.point.block (o.point.symbol + 1) }
  | false ↦ record o {
    point = position o.plan.index (o.point.block + 1) 0;
    held = filter (λ (x : Held). not (nat_lt x.at.block (o.point.block + 1))) o.held;
  }
]

-- the hand-up of the next segment, where it and the stream's info are there
abbrev pub next_up : Settings → StreamState → Option Up
next_up p o = elim (has_its_info (alone o) o.plan) [
  | true ↦ elim (next_segment (alone o) o.plan) [ Some symbol ↦ Some (segment_up p o.point.index symbol) | None ↦ None ]
  | false ↦ None
]

-- the stream after a hand-up: a segment of some octets was passed, and the end leaves it as it is
abbrev pub handed_on : Option Up → StreamState → StreamState
handed_on (Some (up.StreamBytes index offset bytes)) o = passed o
handed_on _ o = o

-- At most so many segments can be handed up of what is held: each is of a symbol that came, and those before the next segment in
-- its block were handed up already.
abbrev pub left : StreamState → ℕ
left o = length o.held - o.point.symbol

-- the same behind a hand-up, where this is the stream then: behind an end nothing is left
abbrev pub left_behind : Up → StreamState → ℕ
left_behind (up.StreamBytes index offset bytes) o = left o
left_behind _ o = 0
