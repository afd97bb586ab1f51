-- When nothing is missing of what a receiver should have (RFC 5740 section 5.3), said without the list of its needs.
use Rattle.std.specs.Prelude.{ℕ, ◌≡◌, ◌<◌, ◌≤◌, ◌⊎◌, true, false, Option, None, Some, is_some}
use Rattle.norm_base.specs.Settings.{Settings}
use Rattle.fec_plan.specs.Partition.{blocks, source_symbols}
use Rattle.fec_plan.specs.Points.{Point, point, position, point_of, point_before}
use Rattle.fec_plan.specs.declared.position.Position.{Position}
use Rattle.norm_receive_rules.specs.Holding.{Holding, Plan}
use Rattle.norm_receive_rules.specs.ReceiverState.{ReceiverState}
use Rattle.norm_receive_rules.specs.Plans.{cut_of_plan, says_stream, plan_of, holds, is_done, has_its_info, first_block}
use Rattle.norm_receive_rules.specs.Needs.{is_covered}
use Rattle.norm_receive_rules.specs.StreamNeeds.{last_block, end_of, is_behind, open_block}
use Rattle.norm_receive_rules.specs.AllNeeds.{last_known}

-- a block lies before the farthest point seen
abbrev pub IsBeforeFarthest : Option Point → Point → Type 0
IsBeforeFarthest farthest block = (at : Point) × (farthest ≡ Some at) × (point_before block at ≡ true)

-- a block is the flush's, or lies before it
abbrev pub IsFlushed : Option Position → Point → Type 0
IsFlushed flush block = (at : Position) × (flush ≡ Some at) × (point_before (point_of at) block ≡ false)

-- of data or a file: each block that the sender is past has as many symbols as source symbols
abbrev pub BlocksAreThere : Option Point → Option Position → Holding → Plan → Type 0
BlocksAreThere farthest flush s plan = (block : ℕ) → block < blocks (cut_of_plan plan)
    → IsBeforeFarthest farthest (point plan.index block) ⊎ IsFlushed flush (point plan.index block) → is_done s plan block ≡ true

-- a block of an object lies before the flush's block in it
abbrev pub IsBeforeFlush : Option Position → ℕ → ℕ → Type 0
IsBeforeFlush flush index block = (at : Position) × (flush ≡ Some at) × (at.index ≡ index) × (block < at.block)

-- a source symbol is held, or given by what is held of its block
abbrev pub IsThere : Holding → Plan → Position → Type 0
IsThere s plan at = (is_done s plan at.block ≡ true) ⊎ (holds s at ≡ true)

-- Of a stream: each block, from the first that was not handed up whole, before one that was seen or the flush's; in the
-- flush's block each source symbol up to the flush; where the stream is covered and its end known, each before the end
-- in the end's block; and where the sender is past the stream its end, while a block is left that could hold it.
pub record StreamIsThere (p : Settings) (farthest : Option Point) (flush : Option Position) (s : Holding) (plan : Plan) : Type 0 where
  pub earlier : (block : ℕ) → first_block s plan.index ≤ block
      → (block < plan.seen) ⊎ IsBeforeFlush flush plan.index block → is_done s plan block ≡ true
  pub to_flush : (at : Position) → flush ≡ Some at → at.index ≡ plan.index
      → (symbol : ℕ) → symbol ≤ at.symbol → symbol < source_symbols (cut_of_plan plan) at.block
      → IsThere s plan (position plan.index at.block symbol)
  pub to_end : is_covered farthest flush plan.index ≡ true → (end : Position) → end_of p s plan ≡ Some end
      → (symbol : ℕ) → symbol < end.symbol → IsThere s plan (position plan.index end.block symbol)
  pub has_end : is_behind farthest flush plan.index ≡ true → open_block s plan ≤ last_block → is_some (end_of p s plan) ≡ true

-- of an object with a plan: its info, where it is covered and has one; and what it is made of
pub record IsThereByPlan (p : Settings) (farthest : Option Point) (flush : Option Position) (s : Holding) (plan : Plan) : Type 0 where
  pub info : is_covered farthest flush plan.index ≡ true → has_its_info s plan ≡ true
  pub octets : says_stream plan.flags ≡ false → BlocksAreThere farthest flush s plan
  pub stream : says_stream plan.flags ≡ true → StreamIsThere p farthest flush s plan

-- an object without a plan is not covered: of a covered one the plan is there
abbrev pub ObjectIsThere : Settings → Option Point → Option Position → Holding → ℕ → Option Plan → Type 0
ObjectIsThere p farthest flush s index None = is_covered farthest flush index ≡ false
ObjectIsThere p farthest flush s index (Some plan) = IsThereByPlan p farthest flush s plan

-- Nothing is missing of any object from the hand-up point on up to the last one that was seen or flushed.
abbrev pub NothingIsMissing : Settings → ReceiverState → Type 0
NothingIsMissing p s = let farthest = s.knows.farthest in let flush = s.knows.flush in
    (index : ℕ) → s.holding.point.index ≤ index → index < last_known farthest flush
    → ObjectIsThere p farthest flush s.holding index (plan_of s.holding index)
