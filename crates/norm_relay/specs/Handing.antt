-- What a relay promises: what it acknowledges above, every member below handed up; and below it hands on what it was handed up.
use Rattle.std.specs.Prelude.{ℕ, ◌≡◌, List, ◌++◌, true, false, Option, None, Some, IfSome}
use Rattle.norm_base.specs.Settings.{Settings, InRange}
use Rattle.fec_plan.specs.declared.position.Position.{Position}
use Rattle.norm_ext.specs.Message.{Ack, AckMessage}
use Rattle.norm_ext.specs.Written.{Written}
use Rattle.norm_order.specs.declared.up.Up.{Up}
use Rattle.norm_send_rules.specs.Watermarks.{has_member}
use Rattle.norm_safety.specs.AcknowledgesHanded.{acknowledged, upto_in}
use Rattle.norm_safety.specs.Fronts.{IsFront}
use Rattle.norm_safety.specs.Hands.{hands}
use Rattle.norm_safety.specs.History.{History, history}
use Rattle.norm_safety.specs.Jobs.{AreEvents}
use Rattle.norm_safety.specs.Lawful.{Lawful}
use Rattle.norm_safety.specs.Said.{About, about}
use Rattle.norm_relay.specs.Flat.{flat, order_items}
use Rattle.norm_relay.specs.Sides.{Side}
use Rattle.norm_relay.specs.RelayState.{Relaying, can_relay, upper_instance, lower_instance}
use Rattle.norm_relay.specs.RelayStep.{RelayEvent, UpTicked, Sent, relay_step, relay_run}

-- a session's events, between the worlds that they led through
abbrev pub history_of : Side → History
history_of s = history s.p s.events

-- what a session presupposes: its events are lawful ones of a program
pub record IsLawfulSide (s : Side) : Type 0 where
  pub range : InRange s.p
  pub lawful : Lawful s.p s.events
  pub events : AreEvents s.events

-- both sessions are lawful
pub record AreLawful (x : Relaying) : Type 0 where
  pub upper : IsLawfulSide x.upper
  pub lower : IsLawfulSide x.lower

-- the acknowledgement of a datagram, with its position
abbrev pub ack_of : Written → Option (About AckMessage)
ack_of datagram = elim datagram.message [ Ack m ↦ Some (about datagram.indices m) | _ ↦ None ]

-- what a receiver below handed up in the lower instance
abbrev pub handed_below : Relaying → ℕ → List Up
handed_below x node = hands (history_of x.lower).happened node (lower_instance x)

-- everything before a position of an upper instance was handed up by a receiver below, however it was cut
abbrev pub IsHandedBelow : Relaying → ℕ → Position → ℕ → Type 0
IsHandedBelow x instance at node = IsFront (flat (upto_in x.upper.p (history_of x.upper) instance at)) (flat (handed_below x node))

-- What is acknowledged above, every member below handed up: each receiver that was not struck.
abbrev pub AcksHanded : Relaying → Type 0
AcksHanded x = (now : ℕ) (datagram : Written) (ack : About AckMessage) (at : Position)
    → (relay_step x (UpTicked now)).1 ≡ Sent (Some datagram) → ack_of datagram ≡ Some ack → acknowledged ack ≡ Some at
    → (node : ℕ) → has_member node x.lower.world.sender ≡ true → IsHandedBelow x ack.message.instance at node

-- The hand-ups of the upper instance that the lower one carries on, without those that wait. Until a restart below that waits is made,
-- those that wait are of the next upper instance.
pub record HandsOn (x : Relaying) : Type 0 where
  -- as items the lower order is what was enqueued
  pub order : order_items x.lower.world.sender.current.order ≡ flat x.done
  -- which are, with those that wait, the hand-ups of the upper instance
  pub whole : x.anew ≡ false → IfSome (upper_instance x) (λ id. hands (history_of x.upper).happened x.node id ≡ x.done ++ x.waiting)

-- A relay between two sessions, in each list of calls that leaves both lawful.
abbrev pub RelayLaw : Type 0
RelayLaw = (up : Settings) (node : ℕ) (down : Settings) (events : List RelayEvent) → can_relay up node down ≡ true
    → AreLawful (relay_run up node down events) → AcksHanded (relay_run up node down events) × HandsOn (relay_run up node down events)
