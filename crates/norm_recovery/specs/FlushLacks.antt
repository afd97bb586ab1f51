-- After the turn of a flush a member that is not past its position needs something of the window (RFC 5740 sections 5.3 and 5.5.3).
use Rattle.std.specs.Prelude.{◌≡◌, ℕ, List, true, false, Some}
use Rattle.norm_base.specs.Settings.{Settings, InRange}
use Rattle.norm_base.specs.declared.kinds.Mode.TheVariants.{Hold}
use Rattle.fec_plan.specs.Points.{point_of, point_before, position_before}
use Rattle.norm_receive_rules.specs.Laws.{needs_nothing_first}
use Rattle.norm_receive_rules.specs.ReceiverState.{ReceiverState}
use Rattle.norm_send_rules.specs.Repairable.{streams}
use Rattle.norm_send_rules.specs.SenderState.{SenderState, Watermark}
use Rattle.norm_send_rules.specs.Watermarks.{has_member}
use Rattle.norm_safety.specs.Events.{Event}
use Rattle.norm_safety.specs.Tail.{course_from, tail_turn}
use Rattle.norm_safety.specs.World.{receiver_at}
use Rattle.norm_safety.specs.WorldStep.{run}
use Rattle.norm_recovery.specs.Flush.{MayFlush}
use Rattle.norm_recovery.specs.TailLawful.{MayGoOn}

-- The receiver needs something of the object at its hand-up point, which is not dropped.
pub record Lacks (p : Settings) (s : SenderState) (r : ReceiverState) : Type 0 where
  pub needs : needs_nothing_first p r ≡ false
  pub in_window : point_before (point_of r.holding.point) s.current.drop ≡ false

-- In `hold` mode, with no stream in the window, comes a turn in which the sender flushes for a watermark, after a run that may go on, whatever the
-- draws. A member whose hand-up point is then not behind the watermark's position lacks something.
abbrev pub FlushLacks : Type 0
FlushLacks = (p : Settings) → InRange p → p.mode ≡ Hold → (events : List Event) → MayGoOn p events → streams (run p events).sender ≡ 0
    → (draws : ℕ → ℕ) (now : ℕ) (w : Watermark) → MayFlush p now (run p events).sender w
    → (node : ℕ) (r : ReceiverState) → receiver_at (tail_turn p draws now (course_from (run p events))).world node ≡ Some r
    → has_member node (tail_turn p draws now (course_from (run p events))).world.sender ≡ true → position_before w.at r.holding.point ≡ false
    → Lacks p (tail_turn p draws now (course_from (run p events))).world.sender r
