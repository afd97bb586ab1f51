-- In a lawful session the node never comes back to an instance.
use Rattle.std.proofs.Common.{◌≡◌, ℕ, List, [], ◌∷◌, ◌++◌, Bool, true, false, Option, None, Some, refl, sym, ap, ◌∙◌, subst}
use Rattle.std.specs.Prelude.{◌==◌, ◌||◌, nat_eq}
use Rattle.std.specs.List.{AllByRecursion, IsDistinct, list_any}
use Rattle.std.proofs.lemmas.Bool.Decides.{Decides-eqb}
use Rattle.norm_base.specs.Settings.{Settings}
use Rattle.norm_base.specs.declared.node.Origin.{Origin}
use Rattle.norm_ext.specs.Written.{Written}
use Rattle.norm_order.specs.declared.up.Up.{Up}
use Rattle.norm_receive_rules.specs.ReceiverState.{ReceiverState}
use Rattle.norm_safety.proofs.OrderRun.{in_order_run}
use Rattle.norm_safety.proofs.RunLemmas.{hands_begin}
use Rattle.norm_safety.proofs.WorldHolds.{came_more, last_in}
use Rattle.norm_safety.specs.Events.{Event, Delivered, Ticked, Offered, UpTaken}
use Rattle.norm_safety.specs.Events as world
use Rattle.norm_safety.specs.Hands.{instance_at}
use Rattle.norm_safety.specs.History.{Happening, happens}
use Rattle.norm_safety.specs.InOrder.{came_to, newly}
use Rattle.norm_safety.specs.Jobs.{AreEvents}
use Rattle.norm_safety.specs.Lawful.{LawfulFrom, accepted_with}
use Rattle.norm_safety.specs.World.{World, world_opening}
use Rattle.norm_safety.specs.WorldLaws.{is_senders, comes_to}
use Rattle.norm_safety.specs.WorldStep.{world_step, run_from}
use Rattle.norm_relay.specs.HandLaws.{handed_in, IsFresh, AreFresh, HandsWhole}
use Rattle.norm_relay.specs.Handing.{history_of, IsLawfulSide}
use Rattle.norm_relay.specs.Pumping.{Pumped, begins_anew, enqueues_first, is_met, pumped}
use Rattle.norm_relay.specs.RelayState.{Relaying, Pledge, relay_opening, can_relay, upper_instance}
use Rattle.norm_relay.specs.RelayStep.{RelayEvent, UpDelivered, DownDelivered, PumpAsked, UpTicked, DownTicked, DownNews, DownStruck, Above, Below, RelayAnswer, Took, Sent, Other, relay_step, ups_of, takes, goes_on, leaves, takes_all, receiver_hears, hears_up, delivers_up, is_ack, says_up, given_by, receiver_ticks, ticks_up, below, above, relay_from, relay_run}
use Rattle.norm_relay.specs.Sides.{Side, happens_in}
use Rattle.norm_safety.specs.World.{receiver_at}
use Rattle.norm_relay.proofs.NewLemmas.{begins_at, relays_member}
use Rattle.norm_relay.proofs.UpperLemmas.{takes_profile}
use Rattle.norm_relay.proofs.HandLemmas.{hands_fresh, Core, core_of, IsRun, happens_more, happening, side_run, takes_run, first_moves, begins_moves, asks_core}

-- ---- lists that differ

all_front : (P : ℕ → Type 0) (xs ys : List ℕ) → AllByRecursion P (xs ++ ys) → AllByRecursion P xs
all_front P [] ys all = tt
all_front P (x ∷ xs) ys all = (all.0, all_front P xs ys all.1)

all_last : (P : ℕ → Type 0) (xs : List ℕ) (id : ℕ) → AllByRecursion P (xs ++ id ∷ []) → P id
all_last P [] id all = all.0
all_last P (x ∷ xs) id all = all_last P xs id all.1

distinct_front : (xs ys : List ℕ) → IsDistinct nat_eq (xs ++ ys) → IsDistinct nat_eq xs
unfolding IsDistinct
distinct_front [] ys d = tt
distinct_front (x ∷ xs) ys d = (all_front (λ y. nat_eq x y ≡ false) xs ys d.0, distinct_front xs ys d.1)

not_in : (xs : List ℕ) (id : ℕ) → IsDistinct nat_eq (xs ++ id ∷ []) → list_any (λ other. other == id) xs ≡ false
unfolding IsDistinct
not_in [] id d = refl
not_in (x ∷ xs) id d =
    ap (λ b. b || list_any (λ other. other == id) xs) (all_last (λ y. nat_eq x y ≡ false) xs id d.0) ∙ not_in xs id d.1

-- ---- what a node came to

last_from : (p : Settings) (w : World) (events : List Event) (node : ℕ) (was : Option ℕ) → was ≡ instance_at w node
    → last_in node was (happens p w events) ≡ instance_at (run_from p w events) node
unfolding happens
last_from p w [] node was is = is
last_from p w (e ∷ events) node was is = last_from p (world_step p w e).0 events node (instance_at (world_step p w e).0 node) refl

-- the node came to differing instances
abbrev pub Differ : Side → ℕ → Type 0
Differ s node = IsDistinct nat_eq (came_to node None (history_of s).happened)

came_side : (s : Side) (e : Event) (node : ℕ) → IsRun s → came_to node None (history_of (happens_in s e).0).happened
    ≡ came_to node None (history_of s).happened ++ newly (last_in node None (history_of s).happened) (instance_at (world_step s.p s.world e).0 node)
came_side s e node is =
    let w : World = world_opening s.p in
    ap (λ (past : List Happening). came_to node None past) (happens_more s.p w s.events e)
    ∙ came_more node None (happens s.p w s.events) (happening s.p (run_from s.p w s.events) e)
    ∙ ap (λ (v : World). came_to node None (happens s.p w s.events) ++ newly (last_in node None (happens s.p w s.events)) (instance_at (world_step s.p v e).0 node)) (sym is)

side_back : (s : Side) (e : Event) (node : ℕ) → IsRun s → Differ (happens_in s e).0 node → Differ s node
side_back s e node is d = distinct_front _ _ (subst (λ (ids : List ℕ). IsDistinct nat_eq ids) (came_side s e node is) d)

takes_back : (node : ℕ) (ups : List Up) (s : Side) → IsRun s → Differ (takes node ups s) node → Differ s node
unfolding takes
takes_back node [] s is d = d
takes_back node (u ∷ ups) s is d =
    side_back s (UpTaken node) node is (takes_back node ups (happens_in s (UpTaken node)).0 (side_run s (UpTaken node) is) d)

-- an instance that the node comes to is one of which it handed up nothing
side_fresh : (s : Side) (e : Event) (node id : ℕ) → IsRun s → instance_at (world_opening s.p) node ≡ None → Differ (happens_in s e).0 node
    → instance_at (happens_in s e).0.world node ≡ Some id → (instance_at s.world node ≡ Some id → ⊥) → handed_in s node id ≡ []
side_fresh s e node id is begun d to other = hands_begin s.p s.events node id (not_in past id (subst (λ (ids : List ℕ). IsDistinct nat_eq ids) came d))
  where
    past : List ℕ
    past = came_to node None (history_of s).happened

    last : last_in node None (history_of s).happened ≡ instance_at s.world node
    last = last_from s.p (world_opening s.p) s.events node None (sym begun) ∙ ap (λ (w : World). instance_at w node) (sym is)

    new : (i : Option ℕ) → (i ≡ Some id → ⊥) → newly i (Some id) ≡ id ∷ []
    new None differs = refl
    new (Some a) differs = by (a == id) refl
      where
        by : (t : Bool) → (a == id) ≡ t → (elim t [ true ↦ [] | false ↦ id ∷ [] ]) ≡ id ∷ []
        by true e = absurd (differs (ap Some ((Decides-eqb a id).0 e)))
        by false e = refl

    came : came_to node None (history_of (happens_in s e).0).happened ≡ came_to node None (history_of s).happened ++ id ∷ []
    came =
        came_side s e node is
        ∙ ap (λ (i : Option ℕ). came_to node None (history_of s).happened ++ newly i (instance_at (world_step s.p s.world e).0 node)) last
        ∙ ap (λ (i : Option ℕ). came_to node None (history_of s).happened ++ newly (instance_at s.world node) i) to
        ∙ ap (λ (ids : List ℕ). came_to node None (history_of s).happened ++ ids) (new (instance_at s.world node) other)

-- ---- of a relay

-- the world above is the run of its events, of a session in which the node begins in no instance
pub record Runs (c : Core) : Type 0 where
  pub run : IsRun c.upper
  pub begun : instance_at (world_opening c.upper.p) c.node ≡ None

abbrev pub DifferIn : Core → Type 0
DifferIn c = Differ c.upper c.node

lawful_front : (p : Settings) (w : World) (accepted : List Origin) (events : List Event) (e : Event) → LawfulFrom p w accepted (events ++ e ∷ [])
    → LawfulFrom p w accepted events
lawful_front p w accepted [] e l = tt
lawful_front p w accepted (x ∷ events) e l =
    (l.0, lawful_front p (world_step p w x).0 (accepted_with accepted x (world_step p w x).1) events e l.1)

events_front : (events : List Event) (e : Event) → AreEvents (events ++ e ∷ []) → AreEvents events
events_front [] e all = tt
events_front (x ∷ events) e all = (all.0, events_front events e all.1)

pub side_lawful : (s : Side) (e : Event) → IsLawfulSide (happens_in s e).0 → IsLawfulSide s
side_lawful s e l = record {
  range = l.range;
  lawful = lawful_front s.p (world_opening s.p) [] s.events e l.lawful;
  events = events_front s.events e l.events;
}

pub takes_lawful : (node : ℕ) (ups : List Up) (s : Side) → IsLawfulSide (takes node ups s) → IsLawfulSide s
unfolding takes
takes_lawful node [] s l = l
takes_lawful node (u ∷ ups) s l = side_lawful s (UpTaken node) (takes_lawful node ups (happens_in s (UpTaken node)).0 l)

-- what a step keeps, and what it tells of the state before
pub record Back (c after : Core) : Type 0 where
  pub runs : Runs c → Runs after
  pub back : Runs c → DifferIn after → DifferIn c
  pub lawful : IsLawfulSide after.upper → IsLawfulSide c.upper

abbrev BackStep : Core → Relaying × RelayAnswer → Type 0
BackStep c step = Back c (core_of step.0)

back_same : (c after : Core) → after.upper ≡ c.upper → after.node ≡ c.node → Back c after
back_same c after upper node = record {
  runs = λ r. record {
    run = subst (λ (s : Side). IsRun s) (sym upper) r.run;
    begun = ap (λ (s : Side). instance_at (world_opening s.p) after.node) upper ∙ ap (instance_at (world_opening c.upper.p)) node ∙ r.begun;
  };
  back = λ r d. subst (λ (s : Side). Differ s c.node) upper (subst (λ n. Differ after.upper n) node d);
  lawful = λ l. subst (λ (s : Side). IsLawfulSide s) upper l;
}

back_both : (a b c : Core) → Back a b → Back b c → Back a c
back_both a b c f g = record { runs = λ r. g.runs (f.runs r); back = λ r d. f.back r (g.back (f.runs r) d); lawful = λ l. f.lawful (g.lawful l) }

-- an event above
back_event : (c : Core) (e : Event) (anew : Bool) (done waiting : List Up)
    → Back c (record { upper = (happens_in c.upper e).0; node = c.node; anew = anew; done = done; waiting = waiting })
back_event c e anew done waiting = record {
  runs = λ r. record { run = side_run c.upper e r.run; begun = r.begun };
  back = λ r d. side_back c.upper e c.node r.run d;
  lawful = side_lawful c.upper e;
}

back_takes : (s : Side) (node : ℕ) (ups : List Up) (anew anew' : Bool) (done waiting waiting' : List Up)
    → Back (record { upper = s; node = node; anew = anew; done = done; waiting = waiting })
    (record { upper = takes node ups s; node = node; anew = anew'; done = done; waiting = waiting' })
back_takes s node ups anew anew' done waiting waiting' = record {
  runs = λ r. record {
    run = takes_run node ups s r.run;
    begun = ap (λ (p : Settings). instance_at (world_opening p) node) (takes_profile node ups s) ∙ r.begun;
  };
  back = λ r d. takes_back node ups s r.run d;
  lawful = takes_lawful node ups s;
}

-- ---- each event

heard_back : (x : Relaying) (s : Side) (b : Bool)
    → Back (record { upper = s; node = x.node; anew = x.anew; done = x.done; waiting = x.waiting }) (core_of (takes_all (leaves b (record x { upper = s }))))
heard_back x s true = back_takes s x.node (ups_of (receiver_at s.world x.node)) x.anew true x.done x.waiting _
heard_back x s false = back_takes s x.node (ups_of (receiver_at s.world x.node)) x.anew x.anew x.done x.waiting _

delivers_back : (datagram : List ℕ) (now draw : ℕ) (x : Relaying) → BackStep (core_of x) (delivers_up datagram now draw x)
delivers_back datagram now draw x = go x.waiting
  where
    go : (waiting : List Up) → BackStep (core_of x) (elim waiting [
      | u ∷ ups ↦ (x, Took false)
      | [] ↦ (takes_all (hears_up datagram now draw x), Took true)
    ])
    go [] =
        back_both (core_of x) _ _ (back_event (core_of x) (Delivered x.node datagram now draw) x.anew x.done x.waiting)
        (heard_back x (happens_in x.upper (Delivered x.node datagram now draw)).0
        (goes_on (upper_instance x) (upper_instance (receiver_hears datagram now draw x))))
    go (u ∷ ups) = back_same (core_of x) (core_of x) refl refl

says_back : (given : Option Written) (x : Relaying) → BackStep (core_of x) (says_up given x)
says_back None x = back_same (core_of x) (core_of x) refl refl
says_back (Some datagram) x = go (is_ack datagram.message)
  where
    go : (b : Bool) → BackStep (core_of x) (elim b [
      | true ↦ (record x { upper = (happens_in x.upper (Offered x.node datagram.octets)).0; unmarked = Some datagram }, Sent None)
      | false ↦ (x, Sent (Some datagram))
    ])
    go true = back_event (core_of x) (Offered x.node datagram.octets) x.anew x.done x.waiting
    go false = back_same (core_of x) (core_of x) refl refl

receiver_back : (now : ℕ) (x : Relaying) → BackStep (core_of x) (receiver_ticks now x)
receiver_back now x =
    let step = happens_in x.upper (Ticked x.node now) in
    back_both (core_of x) (core_of (record x { upper = step.0 })) (core_of (receiver_ticks now x).0)
    (back_event (core_of x) (Ticked x.node now) x.anew x.done x.waiting) (says_back (given_by step.1) (record x { upper = step.0 }))

ticks_back : (now : ℕ) (x : Relaying) → BackStep (core_of x) (ticks_up now x)
ticks_back now x = go x.pledge
  where
    met : (pledge : Pledge) (b : Bool)
        → BackStep (core_of x) (elim b [ true ↦ (record x { pledge = None }, Sent (Some pledge.datagram)) | false ↦ receiver_ticks now x ])
    met pledge true = back_same (core_of x) (core_of x) refl refl
    met pledge false = receiver_back now x

    go : (o : Option Pledge) → BackStep (core_of x) (elim o [
      | Some pledge ↦ elim (is_met x pledge) [ true ↦ (record x { pledge = None }, Sent (Some pledge.datagram)) | false ↦ receiver_ticks now x ]
      | None ↦ receiver_ticks now x
    ])
    go None = receiver_back now x
    go (Some pledge) = met pledge (is_met x pledge)

pumps_back : (now : ℕ) (x : Relaying) → Back (core_of x) (core_of (pumped now x).0)
pumps_back now x =
    let d : Pumped = enqueues_first now (begins_anew now x) in
    let m = first_moves now x (begins_anew now x) (begins_moves now x) in
    let c = asks_core now d.stop d.state in
    back_same (core_of x) (core_of (pumped now x).0) (ap (λ (k : Core). k.upper) c ∙ m.upper) (ap (λ (k : Core). k.node) c ∙ m.node)

step_back : (x : Relaying) (e : RelayEvent) → BackStep (core_of x) (relay_step x e)
step_back x (UpDelivered datagram now draw) = delivers_back datagram now draw x
step_back x (DownDelivered datagram now) = back_same (core_of x) (core_of x) refl refl
step_back x (PumpAsked now) = pumps_back now x
step_back x (UpTicked now) = ticks_back now x
step_back x (DownTicked now) = back_same (core_of x) (core_of x) refl refl
step_back x DownNews = back_same (core_of x) (core_of x) refl refl
step_back x (DownStruck node now) = back_same (core_of x) (core_of x) refl refl
step_back x (Above event) = go (comes_to x.node event)
  where
    go : (b : Bool) → BackStep (core_of x) (elim b [ true ↦ (x, Other world.Silent) | false ↦ above event x ])
    go true = back_same (core_of x) (core_of x) refl refl
    go false = back_event (core_of x) event x.anew x.done x.waiting
step_back x (Below event) = go (is_senders x.lower.p event)
  where
    go : (b : Bool) → BackStep (core_of x) (elim b [ true ↦ (x, Other world.Silent) | false ↦ below Other event x ])
    go true = back_same (core_of x) (core_of x) refl refl
    go false = back_same (core_of x) (core_of x) refl refl

pub back_from : (x : Relaying) (events : List RelayEvent) → Back (core_of x) (core_of (relay_from x events))
back_from x [] = back_same (core_of x) (core_of x) refl refl
back_from x (e ∷ events) = back_both (core_of x) (core_of (relay_step x e).0) _ (step_back x e) (back_from (relay_step x e).0 events)

-- ---- so it never comes back

fresh_at : (x : Relaying) (e : RelayEvent) → Runs (core_of x) → DifferIn (core_of (relay_step x e).0) → IsFresh x e
fresh_at x (UpDelivered datagram now draw) r d = λ empty id to other.
    side_fresh x.upper (Delivered x.node datagram now draw) x.node id r.run r.begun
    ((heard_back x s (goes_on (upper_instance x) (upper_instance (receiver_hears datagram now draw x)))).back
    (record { run = side_run x.upper (Delivered x.node datagram now draw) r.run; begun = r.begun }) (led x.waiting empty d)) to other
  where
    s : Side
    s = (happens_in x.upper (Delivered x.node datagram now draw)).0

    by : List Up → Relaying × RelayAnswer
    by waiting = elim waiting [ u ∷ ups ↦ (x, Took false) | [] ↦ (takes_all (hears_up datagram now draw x), Took true) ]

    led : (waiting : List Up) → waiting ≡ [] → DifferIn (core_of (by waiting).0) → DifferIn (core_of (takes_all (hears_up datagram now draw x)))
    led [] e d = d
    led (u ∷ ups) e d = absurd (cc)
fresh_at x (DownDelivered datagram now) r d = tt
fresh_at x (PumpAsked now) r d = tt
fresh_at x (UpTicked now) r d = tt
fresh_at x (DownTicked now) r d = tt
fresh_at x DownNews r d = tt
fresh_at x (DownStruck node now) r d = tt
fresh_at x (Above event) r d = tt
fresh_at x (Below event) r d = tt

pub all_fresh : (x : Relaying) (events : List RelayEvent) → Runs (core_of x) → DifferIn (core_of (relay_from x events)) → AreFresh x events
all_fresh x [] r d = tt
all_fresh x (e ∷ events) r d =
    let next = (step_back x e).runs r in
    (fresh_at x e r ((back_from (relay_step x e).0 events).back next d), all_fresh (relay_step x e).0 events next d)

pub fresh_run : (up : Settings) (node : ℕ) (down : Settings) (events : List RelayEvent) → can_relay up node down ≡ true
    → IsLawfulSide (relay_run up node down events).upper → AreFresh (relay_opening up node down) events
fresh_run up node down events fits lawful =
    let x : Relaying = relay_from (relay_opening up node down) events in
    let order = in_order_run x.upper.p lawful.range x.upper.events lawful.lawful lawful.events in
    let member = relays_member up node down fits in
    all_fresh (relay_opening up node down) events
    (record { run = refl; begun = ap (λ (o : Option ReceiverState). elim o [ Some r ↦ r.instance | None ↦ None ]) (begins_at up node member) }) (order.once x.node)

pub hands_whole : HandsWhole
hands_whole up node down events fits lawful = hands_fresh up node down events fits (fresh_run up node down events fits lawful)
