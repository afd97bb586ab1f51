-- What a call of a receiver leaves and answers.
use Rattle.std.specs.Prelude.{ℕ, ◌≡◌, List, Option}
use Rattle.std.specs.Option.{option_map}
use Rattle.norm_base.specs.Datagrams.{datagram_of}
use Rattle.norm_base.specs.declared.kinds.Sent.{Sent}
use Rattle.norm_ext.specs.Written.{Written}
use Rattle.norm_receive_rules.specs.ReceiverState.{ReceiverState}
use Rattle.norm_receiver.specs.ReceiverKept.{ReceiverKept, Stands}

-- The receiver stands for the step's state, and what it sent are the octets of the step's datagram, or nothing where the
-- step sends none.
pub record IsSent (k : ReceiverKept) (out : List ℕ) (answer : Sent) (step : ReceiverState × Option Written) : Type 0 where
  pub stands : Stands k step.0
  pub octets : datagram_of answer out ≡ option_map (λ (w : Written). w.octets) step.1
