-- What an event leaves of a world, and what it changes.
use Rattle.std.proofs.Common.{◌≡◌, ℕ, cond, List, [], ◌∷◌, map, Bool, true, false, Option, None, Some, refl, sym, ap, ◌∙◌}
use Rattle.std.specs.Prelude.{◌==◌, find}
use Rattle.std.proofs.lemmas.Bool.Decides.{Decides-eqb}
use Rattle.norm_base.specs.Settings.{Settings}
use Rattle.norm_base.specs.Members.{receivers_of}
use Rattle.norm_ext.specs.Written.{Written}
use Rattle.norm_receive_rules.specs.ReceiverState.{ReceiverState}
use Rattle.norm_receive_rules.specs.ReceiverStep.{ReceiverEvent, receiver_step}
use Rattle.norm_receive_rules.specs.ReceiverStep as receiver
use Rattle.norm_receive_rules.proofs.StepLemmas.{step_laws}
use Rattle.norm_send_rules.specs.SenderStep.{SenderEvent, sender_step}
use Rattle.norm_send_rules.specs.SenderStep as sender
use Rattle.norm_safety.specs.Events.{Event, Commanded, Delivered, Ticked, Offered, UpTaken, NewsAsked, Answer, Gave, Sent, Took, Told, Silent}
use Rattle.norm_safety.specs.World.{World, world_opening, receiver_at, with_receiver, is_of, offers}
use Rattle.norm_safety.specs.WorldStep.{OfReceiver, receiver_move, node_move, moved, answered, of_sender, of_receiver, world_step, run_from}
use Rattle.norm_safety.specs.WorldLaws.{is_senders, is_offer, to_receiver, comes_to, nodes_of, WorldLaws}
use Rattle.norm_safety.proofs.EntryLemmas.{clash}
use Rattle.norm_safety.proofs.RunLemmas.{step_nodes, opening_nodes}
use Rattle.norm_safety.proofs.WorldMoves.{at_node, put_in, found_put, found_other}

-- ---- an answer gives only a datagram

-- all but what was given is the same
record SameBut (v w : World) : Type 0 where
  sender : v.sender ≡ w.sender
  receivers : v.receivers ≡ w.receivers
  offered : v.offered ≡ w.offered

answered_same : (node : ℕ) (answer : Answer) (w : World) → SameBut (answered node answer w).0 w
answered_same node (Sent None) w = record { sender = refl; receivers = refl; offered = refl }
answered_same node (Sent (Some datagram)) w = record { sender = refl; receivers = refl; offered = refl }
answered_same node (Gave result) w = record { sender = refl; receivers = refl; offered = refl }
answered_same node (Took up) w = record { sender = refl; receivers = refl; offered = refl }
answered_same node (Told news) w = record { sender = refl; receivers = refl; offered = refl }
answered_same node Silent w = record { sender = refl; receivers = refl; offered = refl }

-- ---- the sender's moves and those of receivers

-- receivers and what was offered are the same
record SenderMoved (v w : World) : Type 0 where
  receivers : v.receivers ≡ w.receivers
  offered : v.offered ≡ w.offered

sender_moved : (p : Settings) (w : World) (event : SenderEvent) → SenderMoved (answered p.sender (of_sender (sender_step p w.sender event).1) (record w { sender = (sender_step p w.sender event).0 })).0 w
sender_moved p w event =
    let step = sender_step p w.sender event in
    let same = answered_same p.sender (of_sender step.1) (record w { sender = step.0 }) in
    record { receivers = same.receivers; offered = same.offered }

-- the sender and what was offered are the same, and so are the receivers of other nodes
record ReceiverMoved (node : ℕ) (v w : World) : Type 0 where
  sender : v.sender ≡ w.sender
  offered : v.offered ≡ w.offered
  others : (other : ℕ) → (node == other) ≡ false → receiver_at v other ≡ receiver_at w other

found_is : (rs : List ReceiverState) (node : ℕ) (r : ReceiverState) → at_node rs node ≡ Some r → r.node ≡ node
found_is [] node r e = absurd (none_some e)
  where
    none_some : None ≡ Some r → ⊥
    none_some e = cc
found_is (x ∷ rs) node r e = go (x.node == node) refl (found_is rs node r) e
  where
    same : (x y : ReceiverState) → Some x ≡ Some y → x ≡ y
    same x y e = cc

    go : (b : Bool) → (x.node == node) ≡ b → (at_node rs node ≡ Some r → r.node ≡ node) → cond b (Some x) (at_node rs node) ≡ Some r → r.node ≡ node
    go true is more e = ap (λ (y : ReceiverState). y.node) (sym (same x r e)) ∙ (Decides-eqb x.node node).0 is
    go false is more e = more e

differs : (a b : ℕ) → (a == b) ≡ false → a ≡ b → ⊥
differs a b e same = clash (sym e ∙ (Decides-eqb a b).1 same)

receiver_moved : (p : Settings) (w : World) (node : ℕ) (r : ReceiverState) (event : ReceiverEvent) → r.node ≡ node → ReceiverMoved node (moved p w (OfReceiver r event)).0 w
receiver_moved p w node r event is =
    let step = receiver_step p r event in
    let same = answered_same r.node (of_receiver step.1) (with_receiver step.0 w) in
    let own = step_laws.node p r event ∙ is in
    record {
      sender = same.sender;
      offered = same.offered;
      others = λ other no. ap (λ (rs : List ReceiverState). at_node rs other) same.receivers
          ∙ found_other step.0 w.receivers other (λ e. differs node other no (sym own ∙ e));
    }

-- the receiver of the node moved
own_moved : (p : Settings) (w : World) (node : ℕ) (r : ReceiverState) (event : ReceiverEvent) → receiver_at w node ≡ Some r
    → receiver_at (moved p w (OfReceiver r event)).0 node ≡ Some (receiver_step p r event).0
own_moved p w node r event found =
    let step = receiver_step p r event in
    let same = answered_same r.node (of_receiver step.1) (with_receiver step.0 w) in
    let own : step.0.node ≡ node = step_laws.node p r event ∙ found_is w.receivers node r found in
    ap (λ (rs : List ReceiverState). at_node rs node) same.receivers
    ∙ ap (λ (n : ℕ). at_node (map (put_in step.0) w.receivers) n) (sym own)
    ∙ found_put step.0 r w.receivers (ap (at_node w.receivers) own ∙ found)

-- a receiver's move, where its node has one
some_moved : (p : Settings) (w : World) (node : ℕ) (found : Option ReceiverState) (event : ReceiverEvent) → receiver_at w node ≡ found
    → ReceiverMoved node (moved p w (receiver_move found event)).0 w
some_moved p w node None event e = record { sender = refl; offered = refl; others = λ other no. refl }
some_moved p w node (Some r) event e = receiver_moved p w node r event (found_is w.receivers node r e)

-- what every event but an offer leaves: what was offered, and the receivers of other nodes
record NodeMoved (node : ℕ) (v w : World) : Type 0 where
  offered : v.offered ≡ w.offered
  others : (other : ℕ) → (node == other) ≡ false → receiver_at v other ≡ receiver_at w other

node_moved : (p : Settings) (w : World) (node : ℕ) (b : Bool) (own : SenderEvent) (event : ReceiverEvent)
    → NodeMoved node (moved p w (node_move b (receiver_at w node) own event)).0 w
node_moved p w node true own event =
    let m = sender_moved p w own in
    record { offered = m.offered; others = λ other no. ap (λ (rs : List ReceiverState). at_node rs other) m.receivers }
node_moved p w node false own event =
    let m = some_moved p w node (receiver_at w node) event refl in record { offered = m.offered; others = m.others }

offers_same : (found : Option (ℕ × Written)) (node : ℕ) (w : World) → (offers found node w).sender ≡ w.sender
offers_same None node w = refl
offers_same (Some datagram) node w = refl

offers_receivers : (found : Option (ℕ × Written)) (node : ℕ) (w : World) → (offers found node w).receivers ≡ w.receivers
offers_receivers None node w = refl
offers_receivers (Some datagram) node w = refl

-- ---- an event by what it is

offered_kept : (p : Settings) (w : World) (event : Event) → is_offer event ≡ false → (world_step p w event).0.offered ≡ w.offered
offered_kept p w (Commanded by job now) e = (sender_moved p w (sender.Commanded by job now)).offered
offered_kept p w (Delivered node datagram now draw) e =
    (node_moved p w node (node == p.sender) (sender.Delivered datagram now) (receiver.Delivered datagram now draw)).offered
offered_kept p w (Ticked node now) e = (node_moved p w node (node == p.sender) (sender.Ticked now) (receiver.Ticked now)).offered
offered_kept p w (Offered node datagram) e = absurd (clash (sym e))
offered_kept p w (UpTaken node) e = (some_moved p w node (receiver_at w node) receiver.UpTaken refl).offered
offered_kept p w NewsAsked e = (sender_moved p w sender.NewsAsked).offered

sender_kept : (p : Settings) (w : World) (event : Event) → is_senders p event ≡ false → (world_step p w event).0.sender ≡ w.sender
sender_kept p w (Commanded by job now) e = absurd (clash (sym e))
sender_kept p w (Delivered node datagram now draw) e =
    ap (λ b. (moved p w (node_move b (receiver_at w node) (sender.Delivered datagram now) (receiver.Delivered datagram now draw))).0.sender) e
    ∙ (some_moved p w node (receiver_at w node) (receiver.Delivered datagram now draw) refl).sender
sender_kept p w (Ticked node now) e =
    ap (λ b. (moved p w (node_move b (receiver_at w node) (sender.Ticked now) (receiver.Ticked now))).0.sender) e
    ∙ (some_moved p w node (receiver_at w node) (receiver.Ticked now) refl).sender
sender_kept p w (Offered node datagram) e = offers_same (find (is_of node datagram) w.given) node w
sender_kept p w (UpTaken node) e = (some_moved p w node (receiver_at w node) receiver.UpTaken refl).sender
sender_kept p w NewsAsked e = absurd (clash (sym e))

receivers_kept : (p : Settings) (w : World) (event : Event) → is_senders p event ≡ true → (world_step p w event).0.receivers ≡ w.receivers
receivers_kept p w (Commanded by job now) e = (sender_moved p w (sender.Commanded by job now)).receivers
receivers_kept p w (Delivered node datagram now draw) e =
    ap (λ b. (moved p w (node_move b (receiver_at w node) (sender.Delivered datagram now) (receiver.Delivered datagram now draw))).0.receivers) e
    ∙ (sender_moved p w (sender.Delivered datagram now)).receivers
receivers_kept p w (Ticked node now) e =
    ap (λ b. (moved p w (node_move b (receiver_at w node) (sender.Ticked now) (receiver.Ticked now))).0.receivers) e
    ∙ (sender_moved p w (sender.Ticked now)).receivers
receivers_kept p w (Offered node datagram) e = absurd (clash e)
receivers_kept p w (UpTaken node) e = absurd (clash e)
receivers_kept p w NewsAsked e = (sender_moved p w sender.NewsAsked).receivers

others_kept : (p : Settings) (w : World) (event : Event) (node : ℕ) → comes_to node event ≡ false
    → receiver_at (world_step p w event).0 node ≡ receiver_at w node
others_kept p w (Commanded by job now) node e = ap (λ (rs : List ReceiverState). at_node rs node) (sender_moved p w (sender.Commanded by job now)).receivers
others_kept p w (Delivered at datagram now draw) node e =
    (node_moved p w at (at == p.sender) (sender.Delivered datagram now) (receiver.Delivered datagram now draw)).others node e
others_kept p w (Ticked at now) node e = (node_moved p w at (at == p.sender) (sender.Ticked now) (receiver.Ticked now)).others node e
others_kept p w (Offered at datagram) node e =
    ap (λ (rs : List ReceiverState). at_node rs node) (offers_receivers (find (is_of at datagram) w.given) at w)
others_kept p w (UpTaken at) node e = (some_moved p w at (receiver_at w at) receiver.UpTaken refl).others node e
others_kept p w NewsAsked node e = ap (λ (rs : List ReceiverState). at_node rs node) (sender_moved p w sender.NewsAsked).receivers

-- the receiver of the event's node
abbrev now_at : Settings → World → ℕ → Option ReceiverState → ReceiverEvent → Option ReceiverState
now_at p w node found event = receiver_at (moved p w (receiver_move found event)).0 node

found_moved : (p : Settings) (w : World) (node : ℕ) (r : ReceiverState) (event : ReceiverEvent) → receiver_at w node ≡ Some r
    → now_at p w node (receiver_at w node) event ≡ Some (receiver_step p r event).0
found_moved p w node r event found = ap (λ x. now_at p w node x event) found ∙ own_moved p w node r event found

-- this is for the receiver of the node
abbrev IsFor : ℕ → ReceiverEvent → Option (ℕ × ReceiverEvent) → Type 0
IsFor node own to = to ≡ Some (node, own)

for_node : (node at : ℕ) (own event : ReceiverEvent) → IsFor node own (Some (at, event)) → at ≡ node
for_node node at own event e = ap (λ (to : Option (ℕ × ReceiverEvent)). elim to [ Some x ↦ x.0 | None ↦ node ]) e

for_own : (node at : ℕ) (own event : ReceiverEvent) → IsFor node own (Some (at, event)) → event ≡ own
for_own node at own event e = ap (λ (to : Option (ℕ × ReceiverEvent)). elim to [ Some x ↦ x.1 | None ↦ own ]) e

for_nobody : (node : ℕ) (own : ReceiverEvent) → IsFor node own None → ⊥
for_nobody node own e = cc

moves_to : (p : Settings) (w : World) (at node : ℕ) (event own : ReceiverEvent) (r : ReceiverState) → IsFor node own (Some (at, event))
    → receiver_at w node ≡ Some r → now_at p w node (receiver_at w at) event ≡ Some (receiver_step p r own).0
moves_to p w at node event own r to found =
    ap (λ (n : ℕ). now_at p w node (receiver_at w n) event) (for_node node at own event to)
    ∙ ap (λ x. now_at p w node (receiver_at w node) x) (for_own node at own event to) ∙ found_moved p w node r own found

receiver_moves : (p : Settings) (w : World) (event : Event) (node : ℕ) (own : ReceiverEvent) (r : ReceiverState) → is_senders p event ≡ false
    → to_receiver event ≡ Some (node, own) → receiver_at w node ≡ Some r → receiver_at (world_step p w event).0 node ≡ Some (receiver_step p r own).0
receiver_moves p w (Commanded by job now) node own r e to found = absurd (for_nobody node own to)
receiver_moves p w (Delivered at datagram now draw) node own r e to found =
    ap (λ b. receiver_at (moved p w (node_move b (receiver_at w at) (sender.Delivered datagram now) (receiver.Delivered datagram now draw))).0 node) e
    ∙ moves_to p w at node (receiver.Delivered datagram now draw) own r to found
receiver_moves p w (Ticked at now) node own r e to found =
    ap (λ b. receiver_at (moved p w (node_move b (receiver_at w at) (sender.Ticked now) (receiver.Ticked now))).0 node) e
    ∙ moves_to p w at node (receiver.Ticked now) own r to found
receiver_moves p w (Offered at datagram) node own r e to found = absurd (for_nobody node own to)
receiver_moves p w (UpTaken at) node own r e to found =
    moves_to p w at node receiver.UpTaken own r to found
receiver_moves p w NewsAsked node own r e to found = absurd (for_nobody node own to)

run_nodes : (p : Settings) (w : World) (events : List Event) → nodes_of (run_from p w events) ≡ nodes_of w
run_nodes p w [] = refl
run_nodes p w (e ∷ events) = run_nodes p (world_step p w e).0 events ∙ step_nodes p w e

pub world_laws : WorldLaws
world_laws = record {
  offered = offered_kept;
  sender = sender_kept;
  receivers = receivers_kept;
  moves = receiver_moves;
  others = others_kept;
  found = λ w node r e. found_is w.receivers node r e;
  stays = step_nodes;
  nodes = λ p events. run_nodes p (world_opening p) events ∙ opening_nodes (receivers_of p p.receivers);
  takes = λ p w node r e. ap (λ found. (moved p w (receiver_move found receiver.UpTaken)).1) e;
}
