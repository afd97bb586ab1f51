-- Which states of the rules a receiver stands for as a whole.
use Rattle.std.specs.Prelude.{ℕ, ◌≡◌, List, Option, Some, IfSome}
use Rattle.std.specs.Option.{option_map}
use Rattle.norm_base.specs.Datagrams.{datagram_of}
use Rattle.norm_base.specs.Settings.{Settings}
use Rattle.norm_base.specs.declared.kinds.Sent.{Sent}
use Rattle.norm_ext.specs.Octets.{octets_of}
use Rattle.norm_ext.specs.Written.{Written}
use Rattle.norm_receive_rules.specs.Laws.{HoldsNothingOutside}
use Rattle.norm_receive_rules.specs.Nack.{ack_message}
use Rattle.norm_receive_rules.specs.ReceiverState.{ReceiverState}
use Rattle.norm_receiver.specs.ReceiverKept.{ReceiverKept, Stands}

-- A receiver stands for a state with which it agrees, and which holds nothing while it is in no instance.
pub record StandsFor (k : ReceiverKept) (s : ReceiverState) : Type 0 where
  pub agrees : Stands k s
  pub outside : HoldsNothingOutside s

-- What holds of each receiver: it stands for some state.
pub record ReceiverSound (k : ReceiverKept) : Type 0 where
  pub state : ReceiverState
  pub stands : StandsFor k state

-- A tick: the receiver stands for the step's state, and what it sent are the octets of the step's datagram, or nothing where
-- the step sends none.
pub record IsTick (k : ReceiverKept) (out : List ℕ) (answer : Sent) (step : ReceiverState × Option Written) : Type 0 where
  pub stands : StandsFor k step.0
  pub octets : datagram_of answer out ≡ option_map (λ (w : Written). w.octets) step.1

-- If an acknowledgement was due, a datagram was sent, and it is that acknowledgement.
abbrev pub IsAcknowledged : Settings → ReceiverState → List ℕ → Sent → Type 0
IsAcknowledged p s out answer = IfSome s.knows.due (λ at. datagram_of answer out ≡ Some (octets_of (ack_message p s at)))
