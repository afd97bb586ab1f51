-- In each run an idle sender has sent all that it sends once by itself, but for what was dropped.
use Rattle.std.proofs.Common.{ℕ, List, [], ◌∷◌, Bool, true, false, Option, None, Some, refl, inl, inr}
use Rattle.std.specs.Prelude.{◌==◌, find}
use Rattle.norm_base.specs.Settings.{Settings, InRange}
use Rattle.norm_ext.specs.Written.{Written}
use Rattle.norm_receive_rules.specs.ReceiverState.{ReceiverState}
use Rattle.norm_receive_rules.specs.ReceiverStep as receiver
use Rattle.norm_receive_rules.specs.Ticking.{ticked as receiver_ticked}
use Rattle.norm_send_rules.specs.SenderState.{SenderState, sender_opening}
use Rattle.norm_send_rules.specs.SenderStep as sender
use Rattle.norm_send_rules.specs.Sending.{new_from}
use Rattle.norm_send_rules.specs.Ticking.{ticked as sender_ticked}
use Rattle.norm_send_rules.specs.DropLaws.{DropHolds}
use Rattle.norm_send_rules.proofs.DropLemmas.{drop_laws}
use Rattle.norm_safety.specs.Events.{Event, Commanded, Delivered, Ticked, Offered, UpTaken, NewsAsked}
use Rattle.norm_safety.specs.World.{World, world_opening, receiver_at, with_receiver, with_given, is_of, offers}
use Rattle.norm_safety.specs.WorldStep.{world_step, moved, node_move, receiver_move, run_from}
use Rattle.norm_laws.specs.SentOnce.{IdleHasSent, IdleHasSources}
use Rattle.norm_laws.proofs.GoneSent.{gone_none}
use Rattle.norm_laws.proofs.SentLemmas.{SentSoFar, heard_so_far, told_so_far, command_so_far}
use Rattle.norm_laws.proofs.SentTicks.{tick_so_far, idle_so_far, sources_sent}

-- what is kept of a sender
pub record Kept (p : Settings) (s : SenderState) : Type 0 where
  pub drops : DropHolds s
  pub sent : SentSoFar p s

given_keeps : (p : Settings) (node : ℕ) (sent : Option Written) (w : World) → Kept p w.sender → Kept p (with_given node sent w).sender
given_keeps p node None w h = h
given_keeps p node (Some datagram) w h = h

pub event_keeps : (p : Settings) → InRange p → (w : World) (e : Event) → Kept p w.sender → Kept p (world_step p w e).0.sender
event_keeps p range w (Commanded by job now) h = record {
  drops = drop_laws.always p w.sender (sender.Commanded by job now) h.drops;
  sent = command_so_far p range w.sender by job h.drops h.sent;
}
event_keeps p range w (Delivered node octets now draw) h = go (node == p.sender) (receiver_at w node)
  where
    go : (own : Bool) (found : Option ReceiverState)
        → Kept p (moved p w (node_move own found (sender.Delivered octets now) (receiver.Delivered octets now draw))).0.sender
    go true found = record {
      drops = drop_laws.always p w.sender (sender.Delivered octets now) h.drops;
      sent = heard_so_far p w.sender octets now h.sent;
    }
    go false None = h
    go false (Some r) = h
event_keeps p range w (Ticked node now) h = go (node == p.sender) (receiver_at w node)
  where
    go : (own : Bool) (found : Option ReceiverState) → Kept p (moved p w (node_move own found (sender.Ticked now) (receiver.Ticked now))).0.sender
    go true found =
        given_keeps p p.sender (sender_ticked p w.sender now).1 (record w { sender = (sender_ticked p w.sender now).0 })
        (record { drops = drop_laws.always p w.sender (sender.Ticked now) h.drops; sent = tick_so_far p w.sender now h.sent })
    go false None = h
    go false (Some r) = given_keeps p r.node (receiver_ticked p r now).1 (with_receiver (receiver_ticked p r now).0 w) h
event_keeps p range w (Offered node octets) h = go (find (is_of node octets) w.given)
  where
    go : (found : Option (ℕ × Written)) → Kept p (offers found node w).sender
    go None = h
    go (Some o) = h
event_keeps p range w (UpTaken node) h = go (receiver_at w node)
  where
    go : (found : Option ReceiverState) → Kept p (moved p w (receiver_move found receiver.UpTaken)).0.sender
    go None = h
    go (Some r) = h
event_keeps p range w NewsAsked h =
    record { drops = drop_laws.always p w.sender sender.NewsAsked h.drops; sent = told_so_far p w.sender h.sent }

run_keeps : (p : Settings) → InRange p → (w : World) (events : List Event) → Kept p w.sender → Kept p (run_from p w events).sender
run_keeps p range w [] h = h
run_keeps p range w (e ∷ events) h = run_keeps p range (world_step p w e).0 events (event_keeps p range w e h)

opening_sent : (p : Settings) → SentSoFar p (sender_opening p p.instance)
unfolding new_from
opening_sent p = record { sent = tt; next = inr refl; place = inl refl; gone = gone_none p [] }

pub opening_kept : (p : Settings) → Kept p (sender_opening p p.instance)
opening_kept p = record { drops = drop_laws.begins p p.instance; sent = opening_sent p }

-- what was sent at each moment of a run
pub run_sent : (p : Settings) → InRange p → (events : List Event) → SentSoFar p (run_from p (world_opening p) events).sender
run_sent p range events =
    (run_keeps p range (world_opening p) events (opening_kept p)).sent

pub idle_has_sent : IdleHasSent
idle_has_sent p range events idle = idle_so_far p (run_from p (world_opening p) events).sender idle (run_sent p range events)

pub idle_has_sources : IdleHasSources
idle_has_sources p range events idle =
    let so = run_sent p range events in
    let s = (run_from p (world_opening p) events).sender in sources_sent p range s so (idle_so_far p s idle so)
