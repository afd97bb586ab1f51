-- Each event leaves all nodes timely, and so each run does.
use Rattle.std.proofs.Common.{◌≡◌, ℕ, List, [], ◌∷◌, Bool, true, false, Option, None, Some, refl, arith}
use Rattle.std.specs.Prelude.{◌==◌, find, map}
use Rattle.std.specs.List.{AllByRecursion}
use Rattle.norm_base.specs.Members.{receivers_of}
use Rattle.norm_base.specs.Settings.{Settings}
use Rattle.norm_ext.specs.Written.{Written}
use Rattle.norm_receive_rules.specs.ReceiverState.{ReceiverState, receiver_opening}
use Rattle.norm_receive_rules.specs.ReceiverStep as receiver
use Rattle.norm_receive_rules.specs.ReceiverStep.{ReceiverEvent, receiver_step}
use Rattle.norm_send_rules.specs.SenderStep as sender
use Rattle.norm_send_rules.specs.SenderStep.{SenderEvent, sender_step}
use Rattle.norm_safety.specs.Events.{Event, Commanded, Delivered, Ticked, Offered, UpTaken, NewsAsked, Answer, Gave, Sent, Took, Told, Silent}
use Rattle.norm_safety.specs.Recovery.{ComesBy}
use Rattle.norm_safety.specs.World.{World, world_opening, receiver_at, with_receiver, is_of, offers}
use Rattle.norm_safety.specs.WorldStep.{OfSender, receiver_move, node_move, moved, answered, of_sender, of_receiver, world_step, run_from}
use Rattle.norm_safety.proofs.OrderRun.{found_holds}
use Rattle.norm_safety.proofs.WorldMoves.{put_in}
use Rattle.norm_recovery.specs.Timely.{ReceiverTimely, WorldTimely, RunsAreTimely}
use Rattle.norm_recovery.proofs.TimelySender.{SenderComesBy, sender_timely}
use Rattle.norm_recovery.proofs.TimelyReceiver.{ReceiverComesBy, receiver_timely}

abbrev W : Settings → ℕ → World → Type 0
W p last w = WorldTimely p last w

-- a timely receiver takes its node's place
put_timely : (p : Settings) (last : ℕ) (t : ReceiverState) (rs : List ReceiverState) → ReceiverTimely p last t → AllByRecursion (ReceiverTimely p last) rs
    → AllByRecursion (ReceiverTimely p last) (map (put_in t) rs)
put_timely p last t [] own all = tt
put_timely p last t (x ∷ rs) own all = (go (x.node == t.node), put_timely p last t rs own all.1)
  where
    go : (b : Bool) → ReceiverTimely p last (elim b as (λ _. ReceiverState) [ true ↦ t | false ↦ x ])
    go true = own
    go false = all.0

-- what is given to the network has no moment
answered_timely : (p : Settings) (last node : ℕ) (answer : Answer) (w : World) → W p last w → W p last (answered node answer w).0
answered_timely p last node (Sent None) w h = record { sender = h.sender; receivers = h.receivers }
answered_timely p last node (Sent (Some datagram)) w h = record { sender = h.sender; receivers = h.receivers }
answered_timely p last node (Gave result) w h = h
answered_timely p last node (Took up) w h = h
answered_timely p last node (Told news) w h = h
answered_timely p last node Silent w h = h

offers_timely : (p : Settings) (last node : ℕ) (found : Option (ℕ × Written)) (w : World) → W p last w → W p last (offers found node w)
offers_timely p last node None w h = h
offers_timely p last node (Some datagram) w h = record { sender = h.sender; receivers = h.receivers }

sender_moves : (p : Settings) (last : ℕ) (w : World) (event : SenderEvent) → SenderComesBy last event → W p last w → W p last (moved p w (OfSender event)).0
sender_moves p last w event by h =
    let step = sender_step p w.sender event in
    answered_timely p last p.sender (of_sender step.1) (record w { sender = step.0 })
    (record { sender = sender_timely p last w.sender event by h.sender; receivers = h.receivers })

receiver_moves : (p : Settings) (last node : ℕ) (w : World) (event : ReceiverEvent) → ReceiverComesBy last event → W p last w
    → (found : Option ReceiverState) → receiver_at w node ≡ found → W p last (moved p w (receiver_move found event)).0
receiver_moves p last node w event by h None e = h
receiver_moves p last node w event by h (Some r) e =
    let own = found_holds (ReceiverTimely p last) (λ (x : ReceiverState). x.node == node) w.receivers r h.receivers e in
    let step = receiver_step p r event in
    answered_timely p last r.node (of_receiver step.1) (with_receiver step.0 w)
    (record { sender = h.sender; receivers = put_timely p last step.0 w.receivers (receiver_timely p last r event by own) h.receivers })

node_moves : (p : Settings) (last node : ℕ) (w : World) (own : SenderEvent) (event : ReceiverEvent) → SenderComesBy last own → ReceiverComesBy last event
    → W p last w → (b : Bool) → W p last (moved p w (node_move b (receiver_at w node) own event)).0
node_moves p last node w own event by by' h true = sender_moves p last w own by h
node_moves p last node w own event by by' h false = receiver_moves p last node w event by' h (receiver_at w node) refl

pub event_timely : (p : Settings) (last : ℕ) (w : World) (e : Event) → ComesBy last e → W p last w → W p last (world_step p w e).0
event_timely p last w (Commanded by job now) le h = sender_moves p last w (sender.Commanded by job now) le h
event_timely p last w (Delivered node datagram now draw) le h =
    node_moves p last node w (sender.Delivered datagram now) (receiver.Delivered datagram now draw) le le h (node == p.sender)
event_timely p last w (Ticked node now) le h = node_moves p last node w (sender.Ticked now) (receiver.Ticked now) le le h (node == p.sender)
event_timely p last w (Offered node datagram) le h = offers_timely p last node (find (is_of node datagram) w.given) w h
event_timely p last w (UpTaken node) le h = receiver_moves p last node w receiver.UpTaken tt h (receiver_at w node) refl
event_timely p last w NewsAsked le h = sender_moves p last w sender.NewsAsked tt h

pub timely_from : (p : Settings) (last : ℕ) (w : World) (events : List Event) → AllByRecursion (ComesBy last) events → WorldTimely p last w
    → WorldTimely p last (run_from p w events)
timely_from p last w [] all h = h
timely_from p last w (e ∷ events) all h = timely_from p last (world_step p w e).0 events all.1 (event_timely p last w e all.0 h)

opening_timely : (p : Settings) (last : ℕ) → WorldTimely p last (world_opening p)
opening_timely p last = record { sender = record { send = omega arith; flush = tt; round = tt }; receivers = each (receivers_of p p.receivers) }
  where
    each : (nodes : List ℕ) → AllByRecursion (ReceiverTimely p last) (map receiver_opening nodes)
    each [] = tt
    each (node ∷ nodes) = (record { backoff = tt; holdoff = omega arith }, each nodes)

pub runs_are_timely : RunsAreTimely
runs_are_timely p events last all = timely_from p last (world_opening p) events all (opening_timely p last)
