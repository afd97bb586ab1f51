-- What is told of what a receiver holds, in the words of the rules (RFC 5740 section 5.2).
use Rattle.std.specs.Prelude.{ℕ, zero, suc, ◌≡◌, not, List, filter, slice_get, Bool, true, false, Option, Some, None, option_map, unwrap_or, IfSome, ◌<◌}
use Rattle.std.specs.List.{range_with_len}
use Rattle.fec_plan.specs.Partition.{Cut, blocks}
use Rattle.fec_plan.specs.Points.{point_of, point_before}
use Rattle.fec_plan.specs.declared.position.Position.{Position}
use Rattle.norm_receive_rules.specs.Holding.{Holding, Plan}
use Rattle.norm_receive_rules.specs.Plans.{cut_of_plan, plan_of, lacking, is_done}
use Rattle.norm_receive_rules.specs.declared.words.Missing.{Missing}
use Rattle.norm_receive_rules.specs.declared.words.Missing.TheVariants as missing

-- the position lies before the hand-up point's block
abbrev pub is_passed : Holding → Position → Bool
is_passed s at = point_before (point_of at) (point_of s.point)

-- an object's partition
abbrev pub plan_at : Holding → ℕ → Option Cut
plan_at s index = option_map cut_of_plan (plan_of s index)

-- the flags that an object's plan has
abbrev pub flags_at : Holding → ℕ → Option ℕ
flags_at s index = option_map (λ (plan : Plan). plan.flags) (plan_of s index)

-- what is lacking of a block that is so many symbols short
abbrev pub missing_by : ℕ → Missing
missing_by zero = missing.Done
missing_by (suc less) = missing.Short (suc less)

-- what is lacking of a block
abbrev pub missing_at : Holding → ℕ → ℕ → Missing
missing_at s index block = elim (plan_of s index) [ Some plan ↦ missing_by (lacking s plan block) | None ↦ missing.Unseen ]

-- the blocks that are not done, of an object with this plan
abbrev pub short_of : Holding → Plan → List ℕ
short_of s plan = filter (λ block. not (is_done s plan block)) (range_with_len 0 (blocks (cut_of_plan plan)))

-- the first block of an object that is not done
abbrev pub first_short_at : Holding → ℕ → Option ℕ
first_short_at s index = elim (plan_of s index) [ Some plan ↦ slice_get (short_of s plan) 0 | None ↦ None ]

-- What an answer of the first block that is not done says: each block before it is done, and it is not; or no block is
-- lacking, where there is none.
pub record IsFirstShort (s : Holding) (plan : Plan) (first : Option ℕ) : Type 0 where
  pub before : (block : ℕ) → block < unwrap_or first (blocks (cut_of_plan plan)) → is_done s plan block ≡ true
  pub short : IfSome first (λ block. (block < blocks (cut_of_plan plan)) × (is_done s plan block ≡ false))
