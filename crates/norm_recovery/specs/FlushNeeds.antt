-- Who knows a flush and is not past it needs something at its hand-up point (RFC 5740 section 5.3).
use Rattle.std.specs.Prelude.{◌≡◌, ◌+◌, ◌≤◌, true, false, None, IfSome}
use Rattle.norm_base.specs.Settings.{Settings}
use Rattle.fec_plan.specs.Partition.{blocks}
use Rattle.fec_plan.specs.Points.{reached_by}
use Rattle.fec_plan.specs.declared.position.Position.{Position}
use Rattle.norm_receive_rules.specs.HandingUp.{hands_one}
use Rattle.norm_receive_rules.specs.Holding.{Plan}
use Rattle.norm_receive_rules.specs.Laws.{needs_nothing_first}
use Rattle.norm_receive_rules.specs.Plans.{plan_of, says_stream, cut_of_plan}
use Rattle.norm_receive_rules.specs.ReceiverState.{ReceiverState}

-- A receiver knows a flush of this position or of a further one. Its hand-up point is of the position's object or of an earlier one, and it can
-- hand up nothing more. If it knows a plan there, that is of no stream; and of the position's object no block is behind the position.
pub record StandsBefore (p : Settings) (r : ReceiverState) (at : Position) : Type 0 where
  pub flush : reached_by r.knows.flush at ≡ true
  pub before : r.holding.point.index ≤ at.index
  pub stuck : hands_one p r.holding ≡ None
  pub no_stream : IfSome (plan_of r.holding r.holding.point.index) (λ (plan : Plan). says_stream plan.flags ≡ false)
  pub last : IfSome (plan_of r.holding r.holding.point.index) (λ (plan : Plan). plan.index ≡ at.index → blocks (cut_of_plan plan) ≤ at.block + 1)

-- It needs something of the object at its hand-up point.
abbrev pub FlushNeeds : Type 0
FlushNeeds = (p : Settings) (r : ReceiverState) (at : Position) → StandsBefore p r at → needs_nothing_first p r ≡ false
