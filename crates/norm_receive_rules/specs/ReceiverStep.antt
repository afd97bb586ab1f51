-- A step of a receiver: what happens to it, and what it answers.
use Rattle.std.specs.Prelude.{ℕ, List, Option}
use Rattle.norm_base.specs.Settings.{Settings}
use Rattle.norm_order.specs.declared.up.Up.{Up}
use Rattle.norm_ext.specs.Written.{Written}
use Rattle.norm_receive_rules.specs.ReceiverState.{ReceiverState}
use Rattle.norm_receive_rules.specs.Receiving.{received}
use Rattle.norm_receive_rules.specs.Taking.{took}
use Rattle.norm_receive_rules.specs.Ticking.{ticked}

-- what happens to a receiver: a datagram comes, with a draw; it ticks; its next hand-up is taken
pub data ReceiverEvent : Type 0 where
  Delivered : (datagram : List ℕ) (now draw : ℕ) → ReceiverEvent
  Ticked : (now : ℕ) → ReceiverEvent
  UpTaken : ReceiverEvent

-- what it answers: nothing, a datagram or none, a hand-up or none
pub data ReceiverAnswer : Type 0 where
  Silent : ReceiverAnswer
  Sent : (datagram : Option Written) → ReceiverAnswer
  Gave : (up : Option Up) → ReceiverAnswer

-- a step's state and answer, the answer under its word
abbrev pub answer_as : {A : Type 0} → (A → ReceiverAnswer) → ReceiverState × A → ReceiverState × ReceiverAnswer
answer_as word step = (step.0, word step.1)

-- A step of the receiver is a function of its state and of what happens (RFC 5740 sections 5.2 and 5.3).
abbrev pub receiver_step : Settings → ReceiverState → ReceiverEvent → ReceiverState × ReceiverAnswer
receiver_step p s (Delivered datagram now draw) = (received p s datagram now draw, Silent)
receiver_step p s (Ticked now) = answer_as Sent (ticked p s now)
receiver_step p s UpTaken = answer_as Gave (took s)
