-- Which block is the next one that lacks symbols (RFC 5740 section 5.3).
use Rattle.std.specs.Prelude.{ℕ, ◌≡◌, ◌<◌, ◌≤◌, Option, IfSome, true, false, unwrap_or}
use Rattle.fec_plan.specs.Partition.{blocks}
use Rattle.norm_receive_rules.specs.Holding.{Holding, Plan}
use Rattle.norm_receive_rules.specs.Plans.{cut_of_plan, is_done}

-- What an answer of the first block from one on that is not done says: each one before it is done, and it is not; or none is
-- lacking, where there is none.
pub record IsShortFrom (s : Holding) (plan : Plan) (from : ℕ) (first : Option ℕ) : Type 0 where
  pub before : (block : ℕ) → from ≤ block → block < unwrap_or first (blocks (cut_of_plan plan)) → is_done s plan block ≡ true
  pub short : IfSome first (λ block. (from ≤ block) × (block < blocks (cut_of_plan plan)) × (is_done s plan block ≡ false))
