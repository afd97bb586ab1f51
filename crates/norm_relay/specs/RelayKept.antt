-- What a relay keeps, and for which states of the rules it stands.
use Rattle.std.specs.Prelude.{ℕ, ◌≡◌, List, [], ◌∷◌, map, Bool, true, false, Option, None, Some}
use Rattle.std.specs.Option.{option_map}
use Rattle.norm_base.specs.Members.{is_receiver}
use Rattle.norm_ext.specs.Written.{Written}
use Rattle.norm_order.specs.declared.up.Up.{Up}
use Rattle.norm_receive_rules.specs.ReceiverState.{ReceiverState}
use Rattle.norm_receiver.specs.ReceiverKept.{ReceiverKept}
use Rattle.norm_receiver.specs.ReceiverSound.{StandsFor as ReceiverStands}
use Rattle.norm_safety.specs.World.{receiver_at}
use Rattle.norm_sender.specs.SenderKept.{Stands as SenderStands}
use Rattle.norm_relay.specs.Sides.{Side}
use Rattle.norm_relay.specs.RelayState.{Relaying, Pledge}
use Rattle.norm_relay.specs.Waiting.{waiting_of}
use Rattle.norm_relay.specs.declared.pumping.Lower.{Lower}
use Rattle.norm_relay.specs.declared.ticking.Held.{Held}
use Rattle.norm_relay.specs.declared.ticking.Promise.{Promise}
use Rattle.norm_relay.specs.declared.waiting.Waiting.{Waiting}

-- a relay: its receiver above, its sender below with what was enqueued there, what waits, and what is held back
pub record RelayKept : Type 0 where
  pub receiver : ReceiverKept
  pub lower : Lower
  pub waiting : List Waiting
  pub held : Held

-- with another part
abbrev pub hearing : ReceiverKept → RelayKept → RelayKept
hearing receiver k = record { receiver = receiver; lower = k.lower; waiting = k.waiting; held = k.held }

abbrev pub below : Lower → RelayKept → RelayKept
below lower k = record { receiver = k.receiver; lower = lower; waiting = k.waiting; held = k.held }

abbrev pub having : List Waiting → RelayKept → RelayKept
having waiting k = record { receiver = k.receiver; lower = k.lower; waiting = waiting; held = k.held }

abbrev pub holding : Held → RelayKept → RelayKept
holding held k = record { receiver = k.receiver; lower = k.lower; waiting = k.waiting; held = held }

-- a receiver's state with other hand-ups that were not taken
abbrev pub with_ups : List Up → ReceiverState → ReceiverState
with_ups ups r = record r { holding = record (r.holding) { ups = ups } }

-- a receiver stands for that of the rules, of which all hand-ups were taken
abbrev pub IsReceiver : ReceiverKept → Option ReceiverState → Type 0
IsReceiver k None = ⊥
IsReceiver k (Some r) = ReceiverStands k r × (r.holding.ups ≡ [])

-- the receiver of a node above
pub record Hears (k : ReceiverKept) (node : ℕ) (s : Side) : Type 0 where
  pub profile : k.p ≡ s.p
  pub member : is_receiver s.p node ≡ true
  pub receiver : IsReceiver k (receiver_at s.world node)

-- the sender below, and what was enqueued there
pub record Enqueues (l : Lower) (x : Relaying) : Type 0 where
  pub profile : l.sender.p ≡ x.lower.p
  pub sender : SenderStands l.sender x.lower.world.sender
  pub opened : l.opened ≡ x.opened
  pub jobs : l.jobs ≡ x.jobs

-- an acknowledgement with a watermark, as it is kept
abbrev pub promise_of : Pledge → Promise
promise_of pledge = record { ack = pledge.datagram.octets; at = pledge.at }

-- what is held back, as it is kept
abbrev pub held_of : Relaying → Held
held_of x = record {
  anew = x.anew;
  unmarked = option_map (λ (w : Written). w.octets) x.unmarked;
  promise = option_map promise_of x.pledge;
}

-- A relay agrees with a state of the rules in all but what waits.
pub record Agrees (k : RelayKept) (x : Relaying) : Type 0 where
  pub upper : Hears k.receiver x.node x.upper
  pub lower : Enqueues k.lower x
  pub held : k.held ≡ held_of x

-- A relay stands for a state of the rules.
pub record StandsFor (k : RelayKept) (x : Relaying) : Type 0 where
  pub agrees : Agrees k x
  pub waiting : k.waiting ≡ map waiting_of x.waiting

-- no file is begun below of which octets are missing: a relay enqueues files whole
abbrev pub IsReady : Lower → Type 0
IsReady l = l.sender.window.filling ≡ None

-- a hand-up waits
abbrev pub waits : Relaying → Bool
waits x = elim x.waiting [ u ∷ ups ↦ true | [] ↦ false ]
