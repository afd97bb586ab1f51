-- A step of a world, and a run: a list of events from the opening on.
use Rattle.std.specs.Prelude.{ℕ, ◌==◌, List, fold, Bool, true, false, Option, None, Some}
use Rattle.norm_base.specs.Settings.{Settings}
use Rattle.norm_send_rules.specs.SenderState.{SenderState}
use Rattle.norm_send_rules.specs.SenderStep.{SenderEvent, SenderAnswer, sender_step}
use Rattle.norm_send_rules.specs.SenderStep as sender
use Rattle.norm_receive_rules.specs.ReceiverState.{ReceiverState}
use Rattle.norm_receive_rules.specs.ReceiverStep.{ReceiverEvent, ReceiverAnswer, receiver_step}
use Rattle.norm_receive_rules.specs.ReceiverStep as receiver
use Rattle.norm_safety.specs.Events.{Event, Commanded, Delivered, Ticked, Offered, UpTaken, NewsAsked, Answer, Gave, Sent, Took, Told, Silent}
use Rattle.norm_safety.specs.World.{World, world_opening, receiver_at, with_receiver, with_given, with_offer}

-- what an event makes of a world: the sender moves, a receiver does, a node offers a datagram, or nothing happens
pub data Move : Type 0 where
  OfSender : (event : SenderEvent) → Move
  OfReceiver : (state : ReceiverState) (event : ReceiverEvent) → Move
  OfNetwork : (node : ℕ) (octets : List ℕ) → Move
  OfNobody : Move

-- the move of a node's receiver, where it has one
abbrev pub receiver_move : Option ReceiverState → ReceiverEvent → Move
receiver_move found event = elim found [ Some r ↦ OfReceiver r event | None ↦ OfNobody ]

-- the move of the sender, or of a node's receiver
abbrev pub node_move : Bool → Option ReceiverState → SenderEvent → ReceiverEvent → Move
node_move is_own found own event = elim is_own [ true ↦ OfSender own | false ↦ receiver_move found event ]

-- the move of an event: that of the node which it is for
abbrev pub move_of : Settings → World → Event → Move
move_of p w (Commanded by job now) = OfSender (sender.Commanded by job now)
move_of p w (Delivered node datagram now draw) =
    node_move (node == p.sender) (receiver_at w node) (sender.Delivered datagram now) (receiver.Delivered datagram now draw)
move_of p w (Ticked node now) = node_move (node == p.sender) (receiver_at w node) (sender.Ticked now) (receiver.Ticked now)
move_of p w (Offered node octets) = OfNetwork node octets
move_of p w (UpTaken node) = receiver_move (receiver_at w node) receiver.UpTaken
move_of p w NewsAsked = OfSender sender.NewsAsked

-- what the sender answers
abbrev pub of_sender : SenderAnswer → Answer
of_sender (sender.Answered gave) = Gave gave
of_sender sender.Silent = Silent
of_sender (sender.Sent datagram) = Sent datagram
of_sender (sender.Told news) = Told news

-- what a receiver answers
abbrev pub of_receiver : ReceiverAnswer → Answer
of_receiver receiver.Silent = Silent
of_receiver (receiver.Sent datagram) = Sent datagram
of_receiver (receiver.Gave up) = Took up

-- a world after an answer of a node: a datagram that it gave is its to offer
abbrev pub answered : ℕ → Answer → World → World × Answer
answered node (Sent datagram) w = (with_given node datagram w, Sent datagram)
answered node answer w = (w, answer)

-- the world after the sender's step
abbrev pub after_sender : Settings → World → SenderState × SenderAnswer → World × Answer
after_sender p w step = answered p.sender (of_sender step.1) (record w { sender = step.0 })

-- the world after a receiver's step
abbrev pub after_receiver : ℕ → World → ReceiverState × ReceiverAnswer → World × Answer
after_receiver node w step = answered node (of_receiver step.1) (with_receiver step.0 w)

-- the world after a move, and what is answered
abbrev pub moved : Settings → World → Move → World × Answer
moved p w (OfSender event) = after_sender p w (sender_step p w.sender event)
moved p w (OfReceiver r event) = after_receiver r.node w (receiver_step p r event)
moved p w (OfNetwork node octets) = (with_offer node octets w, Silent)
moved p w OfNobody = (w, Silent)

-- A step of the world is the step of the node that the event is for; an offer joins what was offered.
abbrev pub world_step : Settings → World → Event → World × Answer
world_step p w event = moved p w (move_of p w event)

-- the world after these events
abbrev pub run_from : Settings → World → List Event → World
run_from p w events = fold (λ w e. (world_step p w e).0) w events

-- the world after a run
abbrev pub run : Settings → List Event → World
run p events = run_from p (world_opening p) events
