-- What a receiver acknowledges was handed up (RFC 5740 section 5.5.3).
use Rattle.std.specs.Prelude.{◌≡◌, ◌≤◌, ℕ, true, IfSome}
use Rattle.std.specs.List.{AllByRecursion}
use Rattle.norm_base.specs.Settings.{Settings}
use Rattle.fec_plan.specs.Points.{position_before}
use Rattle.fec_plan.specs.declared.position.Position.{Position}
use Rattle.norm_receive_rules.specs.Holding.{Holding}
use Rattle.norm_receive_rules.specs.ReceiverState.{ReceiverState, receiver_opening}
use Rattle.norm_receive_rules.specs.ReceiverStep.{ReceiverEvent, receiver_step}

-- All through a position was handed up: the hand-up point is behind it, and no object before its own was lost. Of its own
-- object what is behind the position may have been lost since.
pub record WasHandedUp (s : Holding) (at : Position) : Type 0 where
  pub behind : position_before at s.point ≡ true
  pub kept : AllByRecursion (λ index. at.index ≤ index) s.lost

-- an acknowledgement that is due is of what was handed up
abbrev pub DueWasHandedUp : ReceiverState → Type 0
DueWasHandedUp s = IfSome s.knows.due (λ at. WasHandedUp s.holding at)

-- So it is at first, and after each step.
pub record DueLaws : Type 0 where
  pub begins : (node : ℕ) → DueWasHandedUp (receiver_opening node)
  pub goes_on : (p : Settings) (s : ReceiverState) (event : ReceiverEvent) → DueWasHandedUp s → DueWasHandedUp (receiver_step p s event).0
