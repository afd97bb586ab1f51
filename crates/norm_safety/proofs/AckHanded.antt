-- What a receiver acknowledges, or is to acknowledge, it handed up with everything before.
use Rattle.std.proofs.Common.{◌≡◌, ℕ, List, [], ◌∷◌, ◌++◌, Option, None, Some, refl, sym, ap, ◌∙◌, subst}
use Rattle.std.specs.Prelude.{flat_map, IfSome}
use Rattle.std.specs.List.{AllByRecursion}
use Rattle.norm_base.specs.Settings.{Settings, InRange}
use Rattle.norm_base.specs.Members.{receivers_of}
use Rattle.fec_plan.specs.Points.{position}
use Rattle.fec_plan.specs.declared.position.Position.{Position}
use Rattle.norm_ext.specs.Message.{Message, Info, Data, Flush, Eot, Squelch, RepairAdv, AckReq, Opaque, Nack, Ack, Report, AckMessage, AckContent, Mark, Unread}
use Rattle.norm_ext.specs.Written.{Written}
use Rattle.norm_order.specs.Upto.{upto}
use Rattle.norm_receive_rules.specs.ReceiverState.{ReceiverState}
use Rattle.norm_safety.specs.AcknowledgesHanded.{DueIsHanded, SaidIsHanded, AcknowledgesHanded}
use Rattle.norm_safety.specs.Events.{Event}
use Rattle.norm_safety.specs.Fronts.{IsFront}
use Rattle.norm_safety.specs.Hands.{hands}
use Rattle.norm_safety.specs.History.{History, happens, last_world, history}
use Rattle.norm_safety.specs.Jobs.{AreEvents}
use Rattle.norm_safety.specs.Lawful.{Lawful}
use Rattle.norm_safety.specs.OnceEach.{order_of}
use Rattle.norm_safety.specs.Said.{about, first_index, ack_said}
use Rattle.norm_safety.specs.World.{World, world_opening, receiver_at}
use Rattle.norm_safety.specs.WorldLaws.{nodes_of}
use Rattle.norm_safety.specs.WorldStep.{world_step}
use Rattle.norm_safety.proofs.Acknowledged.{AckIs, AckTold, AckTrue}
use Rattle.norm_safety.proofs.FreshRun.{Differ, each_found, receivers_rise}
use Rattle.norm_safety.proofs.ListRun.{confirms_of}
use Rattle.norm_safety.proofs.ReceiverMoves.{StandingIn}
use Rattle.norm_safety.proofs.RunLemmas.{step_nodes, opening_nodes}
use Rattle.norm_safety.proofs.Stood.{Due}
use Rattle.norm_safety.proofs.WorldHolds.{AtNode, AtReceiver, all_later}

-- ---- what was said

one_handed : (p : Settings) (h : History) (indices : List ℕ) (m : AckMessage) → AckIs p h.now.sender (hands h.happened) indices m
    → SaidIsHanded p h (about indices m)
one_handed p h indices m told =
    let Front : Position → Type 0 = λ at. IsFront (upto p (order_of h.now.sender m.instance) at) (hands h.happened m.source m.instance) in
    let C : AckContent → Type 0 = λ content. IfSome (elim content [
      | Mark item ↦ Some (position (first_index indices) item.id.block item.id.symbol)
      | Unread octets ↦ None
    ]) Front in
    let I : ℕ → Type 0 = λ index. Front (position index told.at.block told.at.symbol) in
    subst C (sym told.content) (subst I (sym (ap first_index told.alone)) told.stood.1)

said_handed : (p : Settings) (h : History) (said : List (ℕ × Written)) → AllByRecursion (λ (o : ℕ × Written). AckTrue p h.now.sender (hands h.happened) o.1) said
    → AllByRecursion (SaidIsHanded p h) (flat_map (λ (o : ℕ × Written). ack_said o.1.indices o.1.message) said)
said_handed p h [] all = tt
said_handed p h (o ∷ said) all = go o.1.message all.0.told (said_handed p h said all.1)
  where
    Rest : Type 0
    Rest = AllByRecursion (SaidIsHanded p h) (flat_map (λ (x : ℕ × Written). ack_said x.1.indices x.1.message) said)

    go : (m : Message) → AckTold p h.now.sender (hands h.happened) o.1.indices m → Rest
        → AllByRecursion (SaidIsHanded p h) (ack_said o.1.indices m ++ flat_map (λ (x : ℕ × Written). ack_said x.1.indices x.1.message) said)
    go (Ack m) told rest = (one_handed p h o.1.indices m told, rest)
    go (Info m) told rest = rest
    go (Data m) told rest = rest
    go (Flush m) told rest = rest
    go (Eot m) told rest = rest
    go (Squelch m) told rest = rest
    go (RepairAdv m) told rest = rest
    go (AckReq m) told rest = rest
    go (Opaque m) told rest = rest
    go (Nack m) told rest = rest
    go (Report m) told rest = rest

all_joined : {X : Type 0} (P : X → Type 0) (xs ys : List X) → AllByRecursion P xs → AllByRecursion P ys → AllByRecursion P (xs ++ ys)
all_joined P [] ys h g = g
all_joined P (x ∷ xs) ys h g = (h.0, all_joined P xs ys h.1 g)

-- ---- what is due

last_nodes : (p : Settings) (w : World) (events : List Event) → nodes_of (last_world w (happens p w events)) ≡ nodes_of w
unfolding happens last_world
last_nodes p w [] = refl
last_nodes p w (e ∷ events) = last_nodes p (world_step p w e).0 events ∙ step_nodes p w e

pub handed_run : (p : Settings) → InRange p → (events : List Event) → Lawful p events → AreEvents events
    → AcknowledgesHanded p (history p events)
handed_run p range events lawful are =
    let run = confirms_of p range events lawful are in
    let h : History = history p events in
    let w : World = h.now in
    let D : List ℕ → Type 0 = λ nodes. Differ nodes in
    let differ : Differ (nodes_of w) =
    subst D (sym (last_nodes p (world_opening p) events ∙ opening_nodes (receivers_of p p.receivers))) (receivers_rise p p.receivers).1 in
    record {
      due = all_later (λ (r : ReceiverState). receiver_at w r.node ≡ Some r) (DueIsHanded p h) w.receivers
          (λ r found. (
          let N : Option ReceiverState → Type 0 = λ o. AtNode p w.sender h.happened r.node o in
          at_one (history p events) r (subst N found (run.holds.nodes r.node))
          )) (each_found w.receivers differ);
      said = said_handed p h (w.offered ++ w.given)
          (all_joined (λ (o : ℕ × Written). AckTrue p w.sender (hands h.happened) o.1) w.offered w.given run.confirms.offered run.confirms.given);
    }
  where
    at_one : (h : History) (r : ReceiverState) → AtReceiver p h.now.sender h.happened r.node r → DueIsHanded p h r
    at_one h r at = by_instance r.instance at.stands
      where
        by_due : (id : ℕ) (due : Option Position) → Due p (order_of h.now.sender id) (hands h.happened r.node id ++ r.holding.ups) due
            → IfSome due (λ at. IsFront (upto p (order_of h.now.sender id) at) (hands h.happened r.node id ++ r.holding.ups))
        by_due id None due = tt
        by_due id (Some at) due = due.1

        by_instance : (instance : Option ℕ) → StandingIn p h.now.sender (hands h.happened r.node) r instance
            → IfSome instance (λ id. IfSome r.knows.due (λ at. IsFront (upto p (order_of h.now.sender id) at) (hands h.happened r.node id ++ r.holding.ups)))
        by_instance None stands = tt
        by_instance (Some id) stands = by_due id r.knows.due stands.confirms
