-- What an event of the world makes of its sender.
use Rattle.std.proofs.Common.{◌≡◌, ℕ, Bool, true, false, Option, None, Some, refl}
use Rattle.std.specs.Prelude.{find, ◌==◌}
use Rattle.norm_base.specs.Settings.{Settings}
use Rattle.norm_ext.specs.Written.{Written}
use Rattle.norm_receive_rules.specs.ReceiverState.{ReceiverState}
use Rattle.norm_receive_rules.specs.ReceiverStep as receiver
use Rattle.norm_receive_rules.specs.Ticking.{ticked as receiver_ticked}
use Rattle.norm_send_rules.specs.Commanding.{commanded}
use Rattle.norm_send_rules.specs.Hearing.{heard}
use Rattle.norm_send_rules.specs.SenderState.{SenderState}
use Rattle.norm_send_rules.specs.SenderStep as sender
use Rattle.norm_send_rules.specs.Telling.{told}
use Rattle.norm_send_rules.specs.Ticking.{ticked}
use Rattle.norm_safety.specs.Events.{Event, Commanded, Delivered, Ticked, Offered, UpTaken, NewsAsked}
use Rattle.norm_safety.specs.World.{World, receiver_at, with_receiver, with_given, is_of, offers}
use Rattle.norm_safety.specs.WorldStep.{world_step, moved, node_move, receiver_move}

-- the sender after an event: a command, what comes to its node, its tick, or news that are asked for; all else leaves it
abbrev pub sender_after : Settings → SenderState → Event → SenderState
sender_after p s (Commanded by job now) = (commanded p s by job).0
sender_after p s (Delivered node datagram now draw) = elim (node == p.sender) [ true ↦ heard p s datagram now | false ↦ s ]
sender_after p s (Ticked node now) = elim (node == p.sender) [ true ↦ (ticked p s now).0 | false ↦ s ]
sender_after p s (Offered node octets) = s
sender_after p s (UpTaken node) = s
sender_after p s NewsAsked = (told s).0

given_leaves : (node : ℕ) (sent : Option Written) (w : World) → (with_given node sent w).sender ≡ w.sender
given_leaves node None w = refl
given_leaves node (Some datagram) w = refl

offer_leaves : (found : Option (ℕ × Written)) (node : ℕ) (w : World) → (offers found node w).sender ≡ w.sender
offer_leaves None node w = refl
offer_leaves (Some datagram) node w = refl

pub sender_is : (p : Settings) (w : World) (e : Event) → (world_step p w e).0.sender ≡ sender_after p w.sender e
sender_is p w (Commanded by job now) = refl
sender_is p w (Delivered node datagram now draw) = go (node == p.sender) (receiver_at w node)
  where
    go : (own : Bool) (found : Option ReceiverState)
        → (moved p w (node_move own found (sender.Delivered datagram now) (receiver.Delivered datagram now draw))).0.sender
        ≡ (elim own as (λ _. SenderState) [ true ↦ heard p w.sender datagram now | false ↦ w.sender ])
    go true found = refl
    go false None = refl
    go false (Some r) = refl
sender_is p w (Ticked node now) = go (node == p.sender) (receiver_at w node)
  where
    go : (own : Bool) (found : Option ReceiverState)
        → (moved p w (node_move own found (sender.Ticked now) (receiver.Ticked now))).0.sender
        ≡ (elim own as (λ _. SenderState) [ true ↦ (ticked p w.sender now).0 | false ↦ w.sender ])
    go true found = let step = ticked p w.sender now in given_leaves p.sender step.1 (record w { sender = step.0 })
    go false None = refl
    go false (Some r) = let step = receiver_ticked p r now in given_leaves r.node step.1 (with_receiver step.0 w)
sender_is p w (Offered node octets) = offer_leaves (find (is_of node octets) w.given) node w
sender_is p w (UpTaken node) = go (receiver_at w node)
  where
    go : (found : Option ReceiverState) → (moved p w (receiver_move found receiver.UpTaken)).0.sender ≡ w.sender
    go None = refl
    go (Some r) = refl
sender_is p w NewsAsked = refl
