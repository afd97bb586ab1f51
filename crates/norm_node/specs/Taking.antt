-- What a delivery, a take, a hand-up and a tick do to a receiver's run.
use Rattle.std.specs.Prelude.{ℕ, ◌≡◌, ◌+◌, List, [], Bool, true, false}
use Rattle.norm_base.specs.declared.kinds.Sent.{Sent}
use Rattle.norm_base.specs.declared.kinds.Sent.TheVariants as sent
use Rattle.norm_receive_rules.specs.ReceiverState.{ReceiverState}
use Rattle.norm_receiver.specs.ReceiverSound.{StandsFor}
use Rattle.norm_node.specs.Lone.{Place, Between, Taking, Handing, Offering, delivered, after_take}
use Rattle.norm_node.specs.Shown.{Outside}
use Rattle.norm_node.specs.RunKept.{RunKept, Begun, At, lone_of}

-- The run stands for the state after a delivery.
pub record IsDelivered (k new : RunKept) (before : ReceiverState) (to : ℕ) (octets : List ℕ) : Type 0 where
  pub receiver : ReceiverState
  pub stands : StandsFor new.receiver receiver
  pub same : new.receiver.p ≡ new.p
  pub state : (place : Place) → lone_of new receiver place ≡ delivered to octets (lone_of k before place)

-- a datagram that was taken is delivered
abbrev pub Delivers : (k new : RunKept) → ℕ → List ℕ → Type 0
Delivers k new to octets = (before : ReceiverState) → StandsFor k.receiver before → k.receiver.p ≡ k.p → IsDelivered k new before to octets

-- after a take: where it gave a datagram, the next take follows or the hand-ups, and else the hand-ups
abbrev pub HasTaken : Bool → Begun → RunKept → ℕ → Outside → Type 0
HasTaken true x k count now = At x k (after_take (Taking count)) now
HasTaken false x k count now = At x k Handing now

-- after a tick what it wrote is offered
abbrev pub after_sent : Sent → List ℕ → Place
after_sent sent.Nothing octets = Between
after_sent sent.Datagram octets = Offering octets
