-- What a relay holds back of what its receiver says.
use Rattle.std.specs.Prelude.{ℕ, ◌≡◌, List, Bool, true, false, Option, None, Some}
use Rattle.fec_plan.specs.declared.position.Position.{Position}
use Rattle.norm_base.specs.Datagrams.{datagram_of}
use Rattle.norm_base.specs.declared.kinds.Sent.{Sent}
use Rattle.norm_ext.specs.Written.{Written}
use Rattle.norm_receive_rules.specs.ReceiverState.{ReceiverState}
use Rattle.norm_receiver.specs.ReceiverKept.{ReceiverKept}
use Rattle.norm_receiver.specs.ReceiverSound.{StandsFor as ReceiverStands}
use Rattle.norm_relay.specs.RelayStep.{is_ack}
use Rattle.norm_relay.specs.declared.ticking.Held.{Held}
use Rattle.norm_relay.specs.declared.ticking.Promise.{Promise}

-- nothing is held back
abbrev pub nothing_held : Held
nothing_held = record { anew = false; unmarked = None; promise = None }

-- nothing of a former instance is held back
abbrev pub left : Bool → Held → Held
left true h = record { anew = true; unmarked = None; promise = None }
left false h = h

-- an acknowledgement is held back that has no watermark
abbrev pub with_unmarked : List ℕ → Held → Held
with_unmarked ack h = record { anew = h.anew; unmarked = Some ack; promise = h.promise }

-- an acknowledgement has a watermark now, if one was made
abbrev pub with_promise : List ℕ → Option Position → Held → Held
with_promise ack None h = h
with_promise ack (Some at) h = record { anew = h.anew; unmarked = None; promise = Some (record { ack = ack; at = at }) }

-- the acknowledgement that had a watermark is held back no more
abbrev pub without_promise : Held → Held
without_promise h = record { anew = h.anew; unmarked = h.unmarked; promise = None }

-- the acknowledgement whose position is past, by a test of positions
abbrev pub met_by : (Position → Bool) → Option Promise → Option (List ℕ)
met_by past None = None
met_by past (Some promise) = elim (past promise.at) [ true ↦ Some promise.ack | false ↦ None ]

-- an acknowledgement of the receiver is held back, and any other datagram was sent
abbrev pub HoldsIf : Bool → Held → Held → Option (List ℕ) → List ℕ → Type 0
HoldsIf true old new said octets = (new ≡ with_unmarked octets old) × (said ≡ None)
HoldsIf false old new said octets = (new ≡ old) × (said ≡ Some octets)

abbrev pub HoldsBack : Held → Held → Option (List ℕ) → Option Written → Type 0
HoldsBack old new said None = (new ≡ old) × (said ≡ None)
HoldsBack old new said (Some datagram) = HoldsIf (is_ack datagram.message) old new said datagram.octets

-- A tick: the receiver stands for the step's state, and of what the step gives an acknowledgement is held back.
pub record IsHeldTick (k : ReceiverKept) (old new : Held) (out : List ℕ) (answer : Sent) (step : ReceiverState × Option Written) : Type 0 where
  pub stands : ReceiverStands k step.0
  pub says : HoldsBack old new (datagram_of answer out) step.1
