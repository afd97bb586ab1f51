-- How far the sender was seen to be (RFC 5740 section 5.2): the farthest point, and of each stream its greatest block.
use Rattle.std.specs.Prelude.{◌==◌, ◌&&◌, map, max, true, false}
use Rattle.fec_plan.specs.Points.{Point, further_point}
use Rattle.norm_receive_rules.specs.Holding.{Holding, Plan}
use Rattle.norm_receive_rules.specs.Plans.{says_stream}
use Rattle.norm_receive_rules.specs.ReceiverState.{Knowledge}

-- the plan of a stream of which this block was seen; any other plan stays
abbrev pub plan_seen : Point → Plan → Plan
plan_seen at plan = elim (plan.index == at.index && says_stream plan.flags) [
  | true ↦ record plan { seen = max plan.seen at.block }
  | false ↦ plan
]

-- a block is seen, whether what came with it is kept or not
abbrev pub sees_block : Point → Holding → Holding
sees_block at s = record s { plans = map (plan_seen at) s.plans }

-- a point is seen
abbrev pub sees : Point → Knowledge → Knowledge
sees at k = record k { farthest = further_point at k.farthest }
