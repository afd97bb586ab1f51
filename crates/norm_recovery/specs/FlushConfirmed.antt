-- In the turn of a flush every member that it asks and that handed up all through its position is listed (RFC 5740 section 5.5.3).
use Rattle.std.specs.Prelude.{◌≡◌, ◌==◌, ℕ, List, [], Some, Bool, true}
use Rattle.std.specs.List.{list_any}
use Rattle.norm_base.specs.Settings.{Settings, InRange}
use Rattle.fec_plan.specs.declared.position.Position.{Position}
use Rattle.norm_order.specs.Upto.{upto}
use Rattle.norm_receive_rules.specs.ReceiverState.{ReceiverState}
use Rattle.norm_send_rules.specs.SenderState.{SenderState, Watermark}
use Rattle.norm_send_rules.specs.Watermarks.{pending}
use Rattle.norm_safety.specs.CreditsMembers.{is_listed_past}
use Rattle.norm_safety.specs.Events.{Event}
use Rattle.norm_safety.specs.Fronts.{IsFront}
use Rattle.norm_safety.specs.History.{History, history}
use Rattle.norm_safety.specs.HoldsSaid.{handed_by}
use Rattle.norm_safety.specs.OnceEach.{order_of}
use Rattle.norm_safety.specs.Tail.{course_from, tail_turn}
use Rattle.norm_safety.specs.World.{receiver_at}
use Rattle.norm_safety.specs.WorldStep.{run}
use Rattle.norm_recovery.specs.Flush.{MayFlush}
use Rattle.norm_recovery.specs.TailLawful.{MayGoOn}

-- a flush of this position asks the node: it is a member, and not listed past it
abbrev pub is_asked : SenderState → Position → ℕ → Bool
is_asked s at node = list_any (λ other. other == node) (pending s at)

-- A receiver is in an instance, lost nothing there, and handed up everything before a position of its order, taken or not.
pub record HandedThrough (p : Settings) (h : History) (node id : ℕ) (r : ReceiverState) (at : Position) : Type 0 where
  pub there : receiver_at h.now node ≡ Some r
  pub inside : r.instance ≡ Some id
  pub lost : r.holding.lost ≡ []
  pub front : IsFront (upto p (order_of h.now.sender id) at) (handed_by h r id)

-- After a run that may go on comes a turn in which the sender flushes for a watermark, whatever the draws. If the flush asks a member that is in
-- the current instance, lost nothing there, and handed up all through that position, the member is listed past it at the turn's end.
abbrev pub FlushConfirmed : Type 0
FlushConfirmed = (p : Settings) → InRange p → (events : List Event) → MayGoOn p events → (draws : ℕ → ℕ) (now : ℕ) (w : Watermark)
    → MayFlush p now (run p events).sender w → (node : ℕ) (r : ReceiverState) → is_asked (run p events).sender w.at node ≡ true
    → HandedThrough p (history p events) node (run p events).sender.current.id r w.at
    → is_listed_past (tail_turn p draws now (course_from (run p events))).world.sender node w.at ≡ true
