-- A world: the states of a sender and its receivers, and what they gave to the network.
use Rattle.std.specs.Prelude.{ℕ, ◌==◌, ◌&&◌, not, List, [], ◌∷◌, ◌++◌, map, filter, find, nat_eq, Bool, true, false, Option, None, Some}
use Rattle.std.specs.Cmp.Lexicographic.{pointwise}
use Rattle.norm_base.specs.Settings.{Settings}
use Rattle.norm_base.specs.Members.{receivers_of}
use Rattle.norm_ext.specs.Written.{Written}
use Rattle.norm_send_rules.specs.SenderState.{SenderState, sender_opening}
use Rattle.norm_receive_rules.specs.ReceiverState.{ReceiverState, receiver_opening}

-- The two kinds of nodes; all that was offered, with who offered it; and for each node the datagram that its last tick
-- gave, until it is offered or the node ticks again.
pub record World : Type 0 where
  pub sender : SenderState
  pub receivers : List ReceiverState
  pub offered : List (ℕ × Written)
  pub given : List (ℕ × Written)

-- as a world begins: nothing was enqueued, offered, asked for or heard
abbrev pub world_opening : Settings → World
world_opening p = record {
  sender = sender_opening p p.instance;
  receivers = map receiver_opening (receivers_of p p.receivers);
  offered = [];
  given = [];
}

-- a node's receiver
abbrev pub receiver_at : World → ℕ → Option ReceiverState
receiver_at w node = find (λ (r : ReceiverState). r.node == node) w.receivers

-- the world where this is the state of its node
abbrev pub with_receiver : ReceiverState → World → World
with_receiver r w = record w { receivers = map (λ (x : ReceiverState). elim (x.node == r.node) [ true ↦ r | false ↦ x ]) w.receivers }

-- what others were given
abbrev pub given_others : ℕ → World → List (ℕ × Written)
given_others node w = filter (λ (g : ℕ × Written). not (g.0 == node)) w.given

-- what a node's tick gave
abbrev pub with_given : ℕ → Option Written → World → World
with_given node None w = record w { given = given_others node w }
with_given node (Some datagram) w = record w { given = given_others node w ++ (node, datagram) ∷ [] }

-- two lists of octets are equal
abbrev pub same_octets : List ℕ → List ℕ → Bool
same_octets a b = pointwise nat_eq a b

-- it is a datagram of this node, with these octets
abbrev pub is_of : ℕ → List ℕ → ℕ × Written → Bool
is_of node octets g = g.0 == node && same_octets g.1.octets octets

-- a datagram that was given is offered
abbrev pub offers : Option (ℕ × Written) → ℕ → World → World
offers None node w = w
offers (Some datagram) node w = record w { offered = w.offered ++ datagram ∷ []; given = given_others node w }

-- A node's datagram is offered, where its last tick gave one of these octets.
abbrev pub with_offer : ℕ → List ℕ → World → World
with_offer node octets w = offers (find (is_of node octets) w.given) node w
