-- What a sender may send of its objects, and when.
use Rattle.std.specs.Prelude.{ℕ, ◌≡◌, ◌+◌, ◌%◌, true}
use Rattle.norm_base.specs.Settings.{Settings}
use Rattle.norm_order.specs.Moments.{moment_after}
use Rattle.norm_send_rules.specs.SenderState.{SenderState}
use Rattle.norm_send_rules.specs.InWindow.{stands_behind, current_shapes}
use Rattle.norm_send_rules.specs.Laws.{is_of_order, WantsHold}
use Rattle.norm_send_rules.specs.declared.want.Want.{Want}
use Rattle.norm_sender.specs.SenderKept.{SenderKept, Agrees}
use Rattle.norm_sender.specs.declared.pace.Pace.{Pace}

-- an info or an encoded symbol of an object of the window
pub record IsValid (p : Settings) (s : SenderState) (w : Want) : Type 0 where
  pub of_order : is_of_order (current_shapes p s) w ≡ true
  pub behind : stands_behind s.current.drop w ≡ true

-- a sender stands for some state, whose wants hold
pub record IsStanding (k : SenderKept) : Type 0 where
  pub state : SenderState
  pub stands : Agrees k state
  pub wants : WantsHold k.p state

-- a sender stands for some state in which this can be sent
pub record CanSend (k : SenderKept) (w : Want) : Type 0 where
  pub state : SenderState
  pub stands : Agrees k state
  pub valid : IsValid k.p state w

-- after a datagram, the next may be sent a gap later, under the next sequence number
abbrev pub spent : Settings → ℕ → Pace → Pace
spent p now pace = record pace { next_send = moment_after now p.gap; sequence = (pace.sequence + 1) % 65536 }
