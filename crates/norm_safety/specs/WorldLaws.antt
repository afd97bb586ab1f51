-- What is promised of a step of a world.
use Rattle.std.specs.Prelude.{ℕ, ◌≡◌, ◌==◌, List, map, Bool, true, false, Option, None, Some}
use Rattle.norm_base.specs.Settings.{Settings}
use Rattle.norm_base.specs.Members.{receivers_of}
use Rattle.norm_receive_rules.specs.ReceiverState.{ReceiverState}
use Rattle.norm_receive_rules.specs.ReceiverStep.{ReceiverEvent, receiver_step}
use Rattle.norm_receive_rules.specs.ReceiverStep as receiver
use Rattle.norm_receive_rules.specs.Taking.{took}
use Rattle.norm_safety.specs.Events.{Event, Commanded, Delivered, Ticked, Offered, UpTaken, NewsAsked, Took}
use Rattle.norm_safety.specs.World.{World, receiver_at}
use Rattle.norm_safety.specs.WorldStep.{world_step, run}

-- the event is the sender's: a command, news that are asked for, or what comes to its node
abbrev pub is_senders : Settings → Event → Bool
is_senders p (Commanded by job now) = true
is_senders p (Delivered node datagram now draw) = node == p.sender
is_senders p (Ticked node now) = node == p.sender
is_senders p (Offered node datagram) = false
is_senders p (UpTaken node) = false
is_senders p NewsAsked = true

-- a datagram is offered
abbrev pub is_offer : Event → Bool
is_offer (Commanded by job now) = false
is_offer (Delivered node datagram now draw) = false
is_offer (Ticked node now) = false
is_offer (Offered node datagram) = true
is_offer (UpTaken node) = false
is_offer NewsAsked = false

-- what an event is to the receiver of a node, where it is something
abbrev pub to_receiver : Event → Option (ℕ × ReceiverEvent)
to_receiver (Commanded by job now) = None
to_receiver (Delivered node datagram now draw) = Some (node, receiver.Delivered datagram now draw)
to_receiver (Ticked node now) = Some (node, receiver.Ticked now)
to_receiver (Offered node datagram) = None
to_receiver (UpTaken node) = Some (node, receiver.UpTaken)
to_receiver NewsAsked = None

-- the event comes to this node's receiver, if it is not the sender's
abbrev pub comes_to : ℕ → Event → Bool
comes_to node event = elim (to_receiver event) [ Some to ↦ to.0 == node | None ↦ false ]

-- the nodes of a world's receivers, in order
abbrev pub nodes_of : World → List ℕ
nodes_of w = map (λ (r : ReceiverState). r.node) w.receivers

-- What an event leaves of a world, and what it changes.
pub record WorldLaws : Type 0 where
  -- only an offer changes what was offered
  pub offered : (p : Settings) (w : World) (event : Event) → is_offer event ≡ false → (world_step p w event).0.offered ≡ w.offered
  -- only the sender's events change the sender, and they leave each receiver
  pub sender : (p : Settings) (w : World) (event : Event) → is_senders p event ≡ false → (world_step p w event).0.sender ≡ w.sender
  pub receivers : (p : Settings) (w : World) (event : Event) → is_senders p event ≡ true → (world_step p w event).0.receivers ≡ w.receivers
  -- each other event moves the receiver of its node, and no other
  pub moves : (p : Settings) (w : World) (event : Event) (node : ℕ) (own : ReceiverEvent) (r : ReceiverState) → is_senders p event ≡ false
      → to_receiver event ≡ Some (node, own) → receiver_at w node ≡ Some r → receiver_at (world_step p w event).0 node ≡ Some (receiver_step p r own).0
  pub others : (p : Settings) (w : World) (event : Event) (node : ℕ) → comes_to node event ≡ false
      → receiver_at (world_step p w event).0 node ≡ receiver_at w node
  -- a receiver that is found is its node's, and each event leaves which nodes there are: after any events the profile's, in order
  pub found : (w : World) (node : ℕ) (r : ReceiverState) → receiver_at w node ≡ Some r → r.node ≡ node
  pub stays : (p : Settings) (w : World) (event : Event) → nodes_of (world_step p w event).0 ≡ nodes_of w
  pub nodes : (p : Settings) (events : List Event) → nodes_of (run p events) ≡ receivers_of p p.receivers
  -- a take gives the next hand-up of the node's receiver, or none where none is left
  pub takes : (p : Settings) (w : World) (node : ℕ) (r : ReceiverState) → receiver_at w node ≡ Some r
      → (world_step p w (UpTaken node)).1 ≡ Took (took r).1
