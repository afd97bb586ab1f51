-- What is held back: each acknowledgement names a position above, everything before which the node handed up. If it has a watermark, all of that
-- stands before the watermark below.
use Rattle.std.proofs.Common.{◌≡◌, ℕ, ◌<◌, List, [], ◌∷◌, ◌++◌, Bool, true, false, Option, None, Some, Ok, refl, sym, ap, ◌∙◌, subst, append-nil}
use Rattle.std.specs.Prelude.{IfSome, unwrap_or}
use Rattle.norm_base.specs.Settings.{Settings}
use Rattle.norm_base.specs.declared.node.Origin.{Origin}
use Rattle.fec_plan.specs.Points.{position}
use Rattle.fec_plan.specs.declared.position.Position.{Position}
use Rattle.norm_ext.specs.Message.{Message, Ack, AckMessage, AckContent, Mark, Unread}
use Rattle.norm_ext.specs.Octets.{octets_of}
use Rattle.norm_ext.specs.Reading.{decoded}
use Rattle.norm_ext.specs.Written.{Written, writes}
use Rattle.norm_order.specs.Entries.{Entry}
use Rattle.norm_order.specs.Shapes.{shapes_of, is_source}
use Rattle.norm_order.specs.Upto.{upto}
use Rattle.norm_order.specs.declared.up.Up.{Up}
use Rattle.norm_receive_rules.specs.Nack.{item_of, instance_id, ack_message}
use Rattle.norm_receive_rules.specs.ReceiverState.{ReceiverState}
use Rattle.norm_receive_rules.specs.Ticking.{sends, ends_back_off, ticked}
use Rattle.norm_safety.specs.AcknowledgesHanded.{acknowledged}
use Rattle.norm_safety.specs.Events.{Event, Ticked}
use Rattle.norm_safety.specs.Fronts.{IsFront}
use Rattle.norm_safety.specs.Hands.{hands, instance_at}
use Rattle.norm_safety.specs.History.{Happening}
use Rattle.norm_safety.specs.InOrder.{came_to}
use Rattle.norm_safety.specs.Lawful.{MayCome, LawfulFrom, AllTaken, accepted_with}
use Rattle.norm_safety.specs.OnceEach.{order_of}
use Rattle.norm_safety.specs.Said.{About, about}
use Rattle.norm_safety.specs.World.{World, world_opening, receiver_at}
use Rattle.norm_safety.specs.WorldStep.{world_step, run_from}
use Rattle.norm_safety.proofs.GoesOn.{OrderLater, source_later, upto_later}
use Rattle.norm_safety.proofs.OrderRun.{run_of}
use Rattle.norm_safety.proofs.Acknowledged.{AckTrue, SentAck, tick_acks}
use Rattle.norm_safety.proofs.ReceiverMoves.{StandingIn, Standing}
use Rattle.norm_safety.proofs.SenderHolds.{some_octets, orders_hold}
use Rattle.norm_safety.proofs.Stood.{Stood, Due, stood_more, stood_grown}
use Rattle.norm_safety.proofs.WorldHolds.{AtReceiver, AtNode, CameTo}
use Rattle.norm_relay.specs.Flat.{flat}
use Rattle.norm_relay.specs.HandLaws.{handed_in}
use Rattle.norm_relay.specs.Handing.{history_of, IsLawfulSide, ack_of}
use Rattle.norm_relay.specs.RelayState.{Relaying, Pledge}
use Rattle.norm_relay.specs.RelayStep.{is_ack}
use Rattle.norm_relay.specs.Sides.{Side, happens_in}
use Rattle.norm_relay.proofs.FreshLemmas.{side_lawful}
use Rattle.norm_relay.proofs.GoesOnLemmas.{now_is, side_later, sender_holds}
use Rattle.norm_relay.proofs.HandLemmas.{IsRun, brings, side_hands}
use Rattle.norm_relay.proofs.UpperLemmas.{IsNoAck, no_ack}

-- ---- one acknowledgement

-- a datagram acknowledges a position of the instance that its node is in, everything before which the node handed up
pub record Confirmed (s : Side) (node : ℕ) (datagram : Written) : Type 0 where
  pub at : Position
  pub ack : AckMessage
  pub message : datagram.message ≡ Ack ack
  pub alone : datagram.indices ≡ at.index ∷ []
  pub read : (m : AckMessage) → decoded datagram.octets ≡ Ok (Ack m) → datagram.message ≡ Ack m
  pub content : ack.content ≡ Mark (item_of s.p at)
  pub inside : instance_at s.world node ≡ Some ack.instance
  pub stood : Stood s.p (order_of s.world.sender ack.instance) (handed_in s node ack.instance) at

-- it is an acknowledgement, with the index of the position's object
pub says : (s : Side) (node : ℕ) (datagram : Written) (c : Confirmed s node datagram) → ack_of datagram ≡ Some (about (c.at.index ∷ []) c.ack)
says s node datagram c = ap by c.message ∙ ap (λ (indices : List ℕ). Some (about indices c.ack)) c.alone
  where
    by : Message → Option (About AckMessage)
    by message = elim message [ Ack m ↦ Some (about datagram.indices m) | _ ↦ None ]

-- and names that position
pub names : (s : Side) (node : ℕ) (datagram : Written) (c : Confirmed s node datagram) → acknowledged (about (c.at.index ∷ []) c.ack) ≡ Some c.at
names s node datagram c = ap by c.content
  where
    by : AckContent → Option Position
    by content = elim content [ Mark item ↦ Some (position c.at.index item.id.block item.id.symbol) | Unread octets ↦ None ]

-- it has a watermark, and everything before its position is, as items, a front of what stands before the watermark
pub record Pledged (s : Side) (node : ℕ) (q : Settings) (below : List Entry) (datagram : Written) (mark : Position) : Type 0 where
  pub confirmed : Confirmed s node datagram
  pub marked : is_source (shapes_of q below) mark ≡ true
  pub front : IsFront (flat (upto s.p (order_of s.world.sender confirmed.ack.instance) confirmed.at)) (flat (upto q below mark))

-- the node stays in its instance
abbrev pub StaysIn : Side → Side → ℕ → Type 0
StaysIn s t node = (id : ℕ) → instance_at s.world node ≡ Some id → instance_at t.world node ≡ Some id

pub confirmed_later : (s : Side) (e : Event) (node : ℕ) (datagram : Written) → IsRun s → IsLawfulSide (happens_in s e).0 → StaysIn s (happens_in s e).0 node
    → Confirmed s node datagram → Confirmed (happens_in s e).0 node datagram
confirmed_later s e node datagram is lawful stays c =
    let t : Side = (happens_in s e).0 in
    let id : ℕ = c.ack.instance in
    let order : List Entry = order_of s.world.sender id in
    let later : List Entry = order_of t.world.sender id in
    record {
      at = c.at;
      ack = c.ack;
      message = c.message;
      alone = c.alone;
      read = c.read;
      content = c.content;
      inside = stays id c.inside;
      stood =
          subst (λ (ups : List Up). Stood s.p later ups c.at) (sym (side_hands s e node id is))
          (stood_more s.p later (handed_in s node id) (brings s.p node id e s.world) c.at
          (stood_grown s.p (some_octets s.p lawful.range) order later (handed_in s node id) c.at (side_later s e id is lawful) c.stood));
    }

pub pledged_later : (s : Side) (e : Event) (node : ℕ) (q : Settings) (below : List Entry) (datagram : Written) (mark : Position) → IsRun s
    → IsLawfulSide (happens_in s e).0 → StaysIn s (happens_in s e).0 node → Pledged s node q below datagram mark
    → Pledged (happens_in s e).0 node q below datagram mark
unfolding confirmed_later
pledged_later s e node q below datagram mark is lawful stays h =
    let c : Confirmed s node datagram = h.confirmed in
    let order : List Entry = order_of s.world.sender c.ack.instance in
    let later : List Entry = order_of (happens_in s e).0.world.sender c.ack.instance in
    record {
      confirmed = confirmed_later s e node datagram is lawful stays c;
      marked = h.marked;
      front =
          subst (λ (ups : List Up). IsFront (flat ups) (flat (upto q below mark)))
          (sym (upto_later s.p order later c.at (some_octets s.p lawful.range) (side_later s e c.ack.instance is lawful) c.stood.0)) h.front;
    }

-- the order below grows
pub pledged_below : (s : Side) (node : ℕ) (q : Settings) (below later : List Entry) (datagram : Written) (mark : Position) → 0 < q.e → OrderLater below later
    → Pledged s node q below datagram mark → Pledged s node q later datagram mark
pledged_below s node q below later datagram mark some on h = record {
  confirmed = h.confirmed;
  marked = source_later q below later mark some on h.marked;
  front =
      subst (λ (ups : List Up). IsFront (flat (upto s.p (order_of s.world.sender h.confirmed.ack.instance) h.confirmed.at)) (flat ups))
      (sym (upto_later q below later mark some on h.marked)) h.front;
}

-- ---- all that is held back

pub record Promises (s : Side) (node : ℕ) (anew : Bool) (given : Option Written) (pledge : Option Pledge) (q : Settings) (below : List Entry) : Type 0 where
  pub unmarked : IfSome given (λ datagram. Confirmed s node datagram)
  pub pledged : IfSome pledge (λ held. Pledged s node q below held.datagram held.at)
  pub begun : IfSome pledge (λ held. anew ≡ false)

abbrev pub PromisesOf : Relaying → Type 0
PromisesOf x = Promises x.upper x.node x.anew x.unmarked x.pledge x.lower.p x.lower.world.sender.current.order

pub if_some : {X : Type 0} (P Q : X → Type 0) → ((x : X) → P x → Q x) → (o : Option X) → IfSome o P → IfSome o Q
if_some P Q f None h = tt
if_some P Q f (Some x) h = f x h

pub promises_below : (s : Side) (node : ℕ) (anew : Bool) (unmarked : Option Written) (pledge : Option Pledge) (q : Settings) (below later : List Entry) → 0 < q.e
    → OrderLater below later → Promises s node anew unmarked pledge q below → Promises s node anew unmarked pledge q later
promises_below s node anew unmarked pledge q below later some on h = record {
  unmarked = h.unmarked;
  pledged =
      if_some (λ (held : Pledge). Pledged s node q below held.datagram held.at) (λ (held : Pledge). Pledged s node q later held.datagram held.at)
      (λ held g. pledged_below s node q below later held.datagram held.at some on g) pledge h.pledged;
  begun = h.begun;
}

pub promises_above : (s : Side) (e : Event) (node : ℕ) (anew : Bool) (unmarked : Option Written) (pledge : Option Pledge) (q : Settings) (below : List Entry)
    → IsRun s → IsLawfulSide (happens_in s e).0 → StaysIn s (happens_in s e).0 node → Promises s node anew unmarked pledge q below
    → Promises (happens_in s e).0 node anew unmarked pledge q below
promises_above s e node anew unmarked pledge q below is lawful stays h = record {
  unmarked =
      if_some (λ (datagram : Written). Confirmed s node datagram) (λ (datagram : Written). Confirmed (happens_in s e).0 node datagram)
      (λ datagram g. confirmed_later s e node datagram is lawful stays g) unmarked h.unmarked;
  pledged =
      if_some (λ (held : Pledge). Pledged s node q below held.datagram held.at) (λ (held : Pledge). Pledged (happens_in s e).0 node q below held.datagram held.at)
      (λ held g. pledged_later s e node q below held.datagram held.at is lawful stays g) pledge h.pledged;
  begun = h.begun;
}

-- ---- an acknowledgement that a tick gives

-- the last of some lawful events was lawful
last_lawful : (p : Settings) (w : World) (accepted : List Origin) (events : List Event) (e : Event) → LawfulFrom p w accepted (events ++ e ∷ [])
    → (past : List Origin) × MayCome p (run_from p w events) past e
last_lawful p w accepted [] e l = (accepted, l.0)
last_lawful p w accepted (x ∷ events) e l = last_lawful p (world_step p w x).0 (accepted_with accepted x (world_step p w x).1) events e l.1

-- all hand-ups of a node that ticks were taken
taken_at : (s : Side) (node now : ℕ) (r : ReceiverState) → IsRun s → IsLawfulSide (happens_in s (Ticked node now)).0 → receiver_at s.world node ≡ Some r
    → r.holding.ups ≡ []
taken_at s node now r is l found =
    let last = last_lawful s.p (world_opening s.p) [] s.events (Ticked node now) l.lawful in
    subst AllTaken (ap (λ (w : World). receiver_at w node) (sym is) ∙ found) last.1

-- what the rules say of a node's receiver in a lawful session
at_receiver : (s : Side) (node : ℕ) (r : ReceiverState) → IsRun s → IsLawfulSide s → receiver_at s.world node ≡ Some r
    → AtReceiver s.p s.world.sender (history_of s).happened node r
at_receiver s node r is l found =
    let At : World → Type 0 = λ w. AtNode s.p w.sender (history_of s).happened node (receiver_at w node) in
    let N : Option ReceiverState → Type 0 = λ o. AtNode s.p s.world.sender (history_of s).happened node o in
    subst N found (subst At (now_is s is) ((run_of s.p l.range s.events l.lawful l.events).holds.nodes node))

-- the id of an instance has 16 bits
few_instances : (p : Settings) (ids : List ℕ) (instance : Option ℕ) → CameTo p ids instance → (id : ℕ) → instance ≡ Some id → id < 65536
few_instances p ids None came id e = absurd (none e)
  where
    none : None ≡ Some id → ⊥
    none e = cc
few_instances p ids (Some current) came id e = subst (λ n. n < 65536) (same e) came.begun.small
  where
    same : Some current ≡ Some id → current ≡ id
    same e = cc

-- what a tick gives is read as an acknowledgement only if it is that one
pub tick_told : (s : Side) (node now : ℕ) (r : ReceiverState) → IsRun s → IsLawfulSide s → receiver_at s.world node ≡ Some r → r.holding.ups ≡ []
    → SentAck s.p s.world.sender (hands (history_of s).happened) (ticked s.p r now).1
tick_told s node now r is l found none =
    let past : List Happening = (history_of s).happened in
    let here = at_receiver s node r is l found in
    tick_acks s.p l.range s.world.sender (hands past) r now (orders_hold s.p s.world.sender (sender_holds s is l)) here.member here.sequence
    (few_instances s.p (came_to node None past) r.instance here.came) none
    (subst (λ n. Standing s.p s.world.sender (hands past n) r) (sym here.here) here.stands)

-- a receiver acknowledges what is due
due_confirmed : (s : Side) (node : ℕ) (r : ReceiverState) (at : Position) → receiver_at s.world node ≡ Some r → r.holding.ups ≡ [] → r.knows.due ≡ Some at
    → ((m : AckMessage) → decoded (octets_of (ack_message s.p r at)) ≡ Ok (Ack m) → ack_message s.p r at ≡ Ack m)
    → (instance : Option ℕ) → r.instance ≡ instance → StandingIn s.p s.world.sender (handed_in s node) r instance
    → Confirmed s node (writes (ack_message s.p r at) (at.index ∷ []))
due_confirmed s node r at found none due read None is h = absurd (subst (λ (o : Option Position). IfSome o (λ _. ⊥)) due h.1)
due_confirmed s node r at found none due read (Some id) is h =
    let order : List Entry = order_of s.world.sender id in
    let same : instance_id r ≡ id = ap (λ (o : Option ℕ). unwrap_or o 0) is in
    let all : Stood s.p order (handed_in s node id ++ r.holding.ups) at =
    subst (λ (o : Option Position). Due s.p order (handed_in s node id ++ r.holding.ups) o) due h.confirms in
    let taken : Stood s.p order (handed_in s node id) at =
    subst (λ (ups : List Up). Stood s.p order ups at) (ap (λ (ups : List Up). handed_in s node id ++ ups) none ∙ append-nil (handed_in s node id)) all in
    record {
      at = at;
      ack = _;
      message = refl;
      alone = refl;
      read = read;
      content = refl;
      inside =
          ap (λ (o : Option ReceiverState). elim o [ Some r ↦ r.instance | None ↦ None ]) found ∙ is ∙ ap Some (sym same);
      stood = subst (λ n. Stood s.p (order_of s.world.sender n) (handed_in s node n) at) (sym same) taken;
    }

no_clash : true ≡ false → ⊥
no_clash e = cc

pub tick_confirmed : (s : Side) (node now : ℕ) (r : ReceiverState) (datagram : Written) → IsRun s → receiver_at s.world node ≡ Some r
    → IsLawfulSide (happens_in s (Ticked node now)).0 → (ticked s.p r now).1 ≡ Some datagram → is_ack datagram.message ≡ true → Confirmed s node datagram
tick_confirmed s node now r datagram is found l gave ack = go r.knows.due refl gave
  where
    by : Option Position → ReceiverState × Option Written
    by due = elim due [
      | Some at ↦ sends (writes (ack_message s.p r at) (at.index ∷ [])) (record r { knows = record (r.knows) { due = None } })
      | None ↦ ends_back_off s.p now r
    ]

    inside : (a b : Written) → Some a ≡ Some b → a ≡ b
    inside a b e = cc

    go : (due : Option Position) → r.knows.due ≡ due → (by due).1 ≡ Some datagram → Confirmed s node datagram
    go None e gave = absurd (no_clash (sym ack ∙ subst (λ (o : Option Written). IsNoAck o) gave (subst (λ (o : Option Position). IsNoAck (by o).1) e (no_ack s.p r now e))))
    go (Some at) e gave =
        let before = side_lawful s (Ticked node now) l in
        let here = at_receiver s node r is before found in
        let none = taken_at s node now r is l found in
        let told : AckTrue s.p s.world.sender (hands (history_of s).happened) (writes (ack_message s.p r at) (at.index ∷ [])) =
        subst (λ (o : Option Position). SentAck s.p s.world.sender (hands (history_of s).happened) (by o).1) e (tick_told s node now r is before found none) in
        subst (λ (d : Written). Confirmed s node d) (inside (writes (ack_message s.p r at) (at.index ∷ [])) datagram gave)
        (due_confirmed s node r at found none e told.read r.instance refl here.stands)
