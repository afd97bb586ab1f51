-- The law of a relay: what it acknowledges above, every member below handed up; and below it hands on what it was handed up.
use Rattle.std.proofs.Common.{◌≡◌, ℕ, List, [], ◌∷◌, Bool, true, false, Option, None, Some, refl, sym, ap, ◌∙◌, subst}
use Rattle.std.specs.Prelude.{◌==◌, ◌||◌, IfSome}
use Rattle.std.specs.List.{list_all, list_any, AllByRecursion}
use Rattle.std.proofs.lemmas.Bool.Decides.{Decides-eqb}
use Rattle.norm_base.specs.Members.{is_receiver}
use Rattle.norm_base.specs.Settings.{Settings}
use Rattle.fec_plan.specs.Points.{reaches}
use Rattle.fec_plan.specs.declared.position.Position.{Position}
use Rattle.norm_ext.specs.Message.{Message, Ack, AckMessage}
use Rattle.norm_ext.specs.Written.{Written}
use Rattle.norm_order.specs.Entries.{Entry}
use Rattle.norm_order.specs.Shapes.{shapes_of, is_source}
use Rattle.norm_order.specs.Upto.{upto}
use Rattle.norm_order.specs.declared.up.Up.{Up}
use Rattle.norm_order.proofs.UptoLemmas.{grows_with_position}
use Rattle.norm_safety.proofs.EntryLemmas.{clash}
use Rattle.norm_safety.proofs.FrontLemmas.{both}
use Rattle.norm_safety.proofs.ListRun.{listed_run}
use Rattle.norm_safety.specs.AcknowledgesHanded.{acknowledged}
use Rattle.norm_safety.specs.Events.{Ticked}
use Rattle.norm_safety.specs.Events as world
use Rattle.norm_safety.specs.Fronts.{IsFront}
use Rattle.norm_safety.specs.Hands.{hands}
use Rattle.norm_safety.specs.OnceEach.{order_of}
use Rattle.norm_safety.specs.Said.{About, about}
use Rattle.norm_safety.specs.World.{World}
use Rattle.norm_send_rules.specs.SenderState.{Listing}
use Rattle.norm_send_rules.specs.Watermarks.{all_past, has_member, is_past}
use Rattle.norm_relay.specs.Flat.{flat_from, flat, open_behind}
use Rattle.norm_relay.specs.HandLaws.{handed_in, AreFresh}
use Rattle.norm_relay.specs.Handing.{history_of, IsLawfulSide, AreLawful, ack_of, handed_below, IsHandedBelow, AcksHanded, RelayLaw}
use Rattle.norm_relay.specs.OrderLaws.{AreNamed}
use Rattle.norm_relay.specs.Pumping.{is_met}
use Rattle.norm_relay.specs.RelayState.{Relaying, Pledge, relay_opening, can_relay}
use Rattle.norm_relay.specs.RelayStep.{RelayEvent, RelayAnswer, Sent, relay_step, is_ack, says_up, given_by, receiver_ticks, relay_from, relay_run}
use Rattle.norm_relay.specs.Sides.{Side, happens_in}
use Rattle.norm_relay.proofs.ConfirmLemmas.{Pledged, says, names}
use Rattle.norm_relay.proofs.FreshLemmas.{back_from, fresh_run}
use Rattle.norm_relay.proofs.GoesOnLemmas.{Goes, goes_itself, goes_both, now_is}
use Rattle.norm_relay.proofs.HandLemmas.{IsRun, begins_handed}
use Rattle.norm_relay.proofs.HandingLemmas.{waiting_named, hands_on}
use Rattle.norm_relay.proofs.NamedLemmas.{hands_named}
use Rattle.norm_relay.proofs.NewLemmas.{relays_member}
use Rattle.norm_relay.proofs.PledgeLemmas.{flat_front, fronts_join}
use Rattle.norm_relay.proofs.PromiseLemmas.{Good, step_goes, step_good}

-- ---- a run

goes_from : (x : Relaying) (events : List RelayEvent) → Goes x.lower (relay_from x events).lower
goes_from x [] = goes_itself x.lower
goes_from x (e ∷ events) = goes_both x.lower (relay_step x e).0.lower _ (step_goes x e) (goes_from (relay_step x e).0 events)

good_from : (x : Relaying) (events : List RelayEvent) → AreFresh x events → AreLawful (relay_from x events) → Good x → Good (relay_from x events)
good_from x [] fresh lawful g = g
good_from x (e ∷ events) fresh lawful g =
    let y : Relaying = (relay_step x e).0 in
    let named : AreNamed x.waiting =
    waiting_named x.anew (handed_in x.upper x.node) x.done x.waiting g.handed.state.instance
    (λ id. hands_named x.upper x.node id ((back_from x (e ∷ events)).lawful lawful.upper)) g.handed.handed in
    good_from y events fresh.1 lawful
    (step_good x e fresh.0 named (record { upper = (back_from y events).lawful lawful.upper; lower = (goes_from y events).lawful lawful.lower }) g)

begins_good : (up : Settings) (node : ℕ) (down : Settings) → is_receiver up node ≡ true → Good (relay_opening up node down)
unfolding flat_from open_behind
begins_good up node down member = record {
  handed = begins_handed up node down member;
  ordered = record { order = refl; opened = refl };
  below = refl;
  promises = record { unmarked = tt; pledged = tt; begun = tt };
}

-- ---- the members below

-- a listing past a position that reaches the watermark
past_is : (mark : Position) (l : Listing) (P : Position → Type 0) → is_past mark l ≡ true → IfSome l.past P → (past : Position) × (reaches past mark ≡ true) × P past
past_is mark l P e h = go l.past e h
  where
    go : (o : Option Position) → (elim o [ Some past ↦ reaches past mark | None ↦ false ]) ≡ true → IfSome o P → (past : Position) × (reaches past mark ≡ true) × P past
    go None e h = absurd (clash e)
    go (Some past) e h = (past, e, h)

-- each member that is listed past the watermark handed up everything before that
past_handed : (q : Settings) (order : List Entry) (mark : Position) (handed : ℕ → List Up) (listings : List Listing) (node : ℕ)
    → is_source (shapes_of q order) mark ≡ true → list_all (is_past mark) listings ≡ true
    → AllByRecursion (λ (l : Listing). IfSome l.past (λ past. IsFront (upto q order past) (handed l.node))) listings
    → list_any (λ (l : Listing). l.node == node) listings ≡ true → IsFront (upto q order mark) (handed node)
past_handed q order mark handed [] node source all each is = absurd (clash is)
past_handed q order mark handed (l ∷ listings) node source all each is =
    let parts = both (is_past mark l) (list_all (is_past mark) listings) all in
    go (l.node == node) refl is parts.0 (λ more. past_handed q order mark handed listings node source parts.1 each.1 more)
  where
    go : (b : Bool) → (l.node == node) ≡ b → (b || list_any (λ (l : Listing). l.node == node) listings) ≡ true → is_past mark l ≡ true
        → (list_any (λ (l : Listing). l.node == node) listings ≡ true → IsFront (upto q order mark) (handed node)) → IsFront (upto q order mark) (handed node)
    go true same is past later =
        let found = past_is mark l (λ past. IsFront (upto q order past) (handed l.node)) past each.0 in
        let grows = grows_with_position q order mark found.0 source found.1 in
        subst (λ n. IsFront (upto q order mark) (handed n)) ((Decides-eqb l.node node).0 same)
        (fronts_join (upto q order mark) (upto q order found.0) (handed l.node) (grows.0, sym grows.1) found.2)
    go false same is past later = later is

members_handed : (s : Side) (mark : Position) (node : ℕ) → IsRun s → IsLawfulSide s → is_source (shapes_of s.p s.world.sender.current.order) mark ≡ true
    → all_past s.world.sender mark ≡ true → has_member node s.world.sender ≡ true
    → IsFront (upto s.p s.world.sender.current.order mark) (handed_in s node s.world.sender.current.id)
members_handed s mark node is l source past member =
    let Listed : World → Type 0 = λ w. AllByRecursion
    (λ (x : Listing). IfSome x.past (λ at. IsFront (upto s.p w.sender.current.order at) (hands (history_of s).happened x.node w.sender.current.id))) w.sender.listings in
    past_handed s.p s.world.sender.current.order mark (λ n. handed_in s n s.world.sender.current.id) s.world.sender.listings node source past
    (subst Listed (now_is s is) (listed_run s.p l.range s.events l.lawful l.events).each) member

-- ---- what is acknowledged

ack_is : (m : Message) (indices : List ℕ) (ack : About AckMessage) → (elim m [ Ack n ↦ Some (about indices n) | _ ↦ None ]) ≡ Some ack → is_ack m ≡ true
ack_is (Ack m) indices ack e = refl
ack_is _ indices ack e = absurd (cc)

-- no acknowledgement is sent as the receiver gives it
says_none : (given : Option Written) (y : Relaying) (datagram : Written) (ack : About AckMessage) → (says_up given y).1 ≡ Sent (Some datagram)
    → ack_of datagram ≡ Some ack → ⊥
says_none None y datagram ack e is = nothing e
  where
    nothing : Sent None ≡ Sent (Some datagram) → ⊥
    nothing e = cc
says_none (Some given) y datagram ack e is = go (is_ack given.message) refl e
  where
    nothing : Sent None ≡ Sent (Some datagram) → ⊥
    nothing e = cc

    same : Sent (Some given) ≡ Sent (Some datagram) → given ≡ datagram
    same e = cc

    answer_of : Relaying × RelayAnswer → RelayAnswer
    answer_of step = step.1

    go : (b : Bool) → is_ack given.message ≡ b → answer_of (elim b [
      | true ↦ (record y { upper = (happens_in y.upper (world.Offered y.node given.octets)).0; unmarked = Some given }, Sent None)
      | false ↦ (y, Sent (Some given))
    ]) ≡ Sent (Some datagram) → ⊥
    go true a e = nothing e
    go false a e = clash (sym a ∙ ap (λ (w : Written). is_ack w.message) (same e) ∙ ack_is datagram.message datagram.indices ack is)

same_about : (a b : About AckMessage) → Some a ≡ Some b → a ≡ b
same_about a b e = cc

same_position : (a b : Position) → Some a ≡ Some b → a ≡ b
same_position a b e = cc

pub met_handed : (x : Relaying) → Good x → AreLawful x → (held : Pledge) → Pledged x.upper x.node x.lower.p x.lower.world.sender.current.order held.datagram held.at
    → is_met x held ≡ true → (ack : About AckMessage) (at : Position) → ack_of held.datagram ≡ Some ack → acknowledged ack ≡ Some at → (node : ℕ)
    → has_member node x.lower.world.sender ≡ true → IsHandedBelow x ack.message.instance at node
met_handed x g l held h met ack at is named node member =
    let c = h.confirmed in
    let q : Settings = x.lower.p in
    let order : List Entry = x.lower.world.sender.current.order in
    let says : about (c.at.index ∷ []) c.ack ≡ ack = same_about (about (c.at.index ∷ []) c.ack) ack (sym (says x.upper x.node held.datagram c) ∙ is) in
    let here : c.at ≡ at = same_position c.at at (sym (names x.upper x.node held.datagram c) ∙ ap acknowledged says ∙ named) in
    let handed = members_handed x.lower held.at node g.below l.lower h.marked met member in
    let front : IsFront (flat (upto x.upper.p (order_of x.upper.world.sender c.ack.instance) c.at)) (flat (handed_below x node)) =
    fronts_join _ (flat (upto q order held.at)) (flat (handed_below x node)) h.front (flat_front (upto q order held.at) (handed_below x node) handed) in
    subst (λ (a : Position). IsHandedBelow x ack.message.instance a node) here
    (subst (λ (a : About AckMessage). IsHandedBelow x a.message.instance c.at node) says
    (subst (λ (w : World). IsFront (flat (upto x.upper.p (order_of w.sender c.ack.instance) c.at)) (flat (handed_below x node))) (sym (now_is x.upper g.handed.run)) front))

pub acks_handed : (x : Relaying) → Good x → AreLawful x → AcksHanded x
acks_handed x g l now datagram ack at sent is named node member = go x.pledge g.promises.pledged sent
  where
    answer_of : Relaying × RelayAnswer → RelayAnswer
    answer_of step = step.1

    receiver : (receiver_ticks now x).1 ≡ Sent (Some datagram) → IsHandedBelow x ack.message.instance at node
    receiver e =
        let step = happens_in x.upper (Ticked x.node now) in absurd (says_none (given_by step.1) (record x { upper = step.0 }) datagram ack e is)

    same : (a b : Written) → Sent (Some a) ≡ Sent (Some b) → a ≡ b
    same a b e = cc

    met : (held : Pledge) → Pledged x.upper x.node x.lower.p x.lower.world.sender.current.order held.datagram held.at → (b : Bool) → is_met x held ≡ b
        → answer_of (elim b [ true ↦ (record x { pledge = None }, Sent (Some held.datagram)) | false ↦ receiver_ticks now x ]) ≡ Sent (Some datagram)
        → IsHandedBelow x ack.message.instance at node
    met held h true past e =
        met_handed x g l held h past ack at (ap ack_of (same held.datagram datagram e) ∙ is) named node member
    met held h false past e = receiver e

    go : (o : Option Pledge) → IfSome o (λ held. Pledged x.upper x.node x.lower.p x.lower.world.sender.current.order held.datagram held.at)
        → answer_of (elim o [
          | Some held ↦ elim (is_met x held) [ true ↦ (record x { pledge = None }, Sent (Some held.datagram)) | false ↦ receiver_ticks now x ]
          | None ↦ receiver_ticks now x
        ]) ≡ Sent (Some datagram) → IsHandedBelow x ack.message.instance at node
    go None h e = receiver e
    go (Some held) h e = met held h (is_met x held) refl e

pub good_run : (up : Settings) (node : ℕ) (down : Settings) (events : List RelayEvent) → can_relay up node down ≡ true
    → AreLawful (relay_run up node down events) → Good (relay_run up node down events)
good_run up node down events fits lawful =
    good_from (relay_opening up node down) events (fresh_run up node down events fits lawful.upper) lawful (begins_good up node down (relays_member up node down fits))

pub relay_law : RelayLaw
relay_law up node down events fits lawful =
    (acks_handed (relay_run up node down events) (good_run up node down events fits lawful) lawful, hands_on up node down events fits lawful.upper)
