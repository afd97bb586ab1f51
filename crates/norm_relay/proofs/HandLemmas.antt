-- What was enqueued and what waits is what the node handed up: each event of a relay and its sessions keeps that.
use Rattle.std.proofs.Common.{◌≡◌, ℕ, inl, inr, List, [], ◌∷◌, ◌++◌, Bool, true, false, Option, None, Some, Result, Ok, Err, refl, sym, ap, ◌∙◌, subst, append_assoc, append-nil}
use Rattle.std.specs.Prelude.{◌==◌, not}
use Rattle.std.proofs.lemmas.Bool.Decides.{Decides-eqb}
use Rattle.norm_base.specs.Members.{is_receiver}
use Rattle.norm_base.specs.Settings.{Settings}
use Rattle.fec_plan.specs.declared.position.Position.{Position}
use Rattle.norm_ext.specs.Written.{Written}
use Rattle.norm_order.specs.declared.up.Up.{Up}
use Rattle.norm_receive_rules.specs.Holding.{Holding}
use Rattle.norm_receive_rules.specs.Laws.{HoldsNothingOutside, GoesOnTo}
use Rattle.norm_receive_rules.specs.Leaving.{is_in}
use Rattle.norm_receive_rules.specs.ReceiverState.{ReceiverState, receiver_opening}
use Rattle.norm_receive_rules.specs.ReceiverStep as heard_by
use Rattle.norm_receive_rules.specs.Receiving.{received}
use Rattle.norm_receive_rules.specs.Taking.{took}
use Rattle.norm_receive_rules.specs.Ticking.{ticked}
use Rattle.norm_receive_rules.proofs.StepLemmas.{step_laws}
use Rattle.norm_safety.proofs.ReceiverMoves.{tick_same}
use Rattle.norm_safety.proofs.WorldHolds.{hands_more}
use Rattle.norm_safety.proofs.WorldLemmas.{world_laws}
use Rattle.norm_safety.specs.Events.{Event, Commanded, Delivered, Ticked, Offered, UpTaken, NewsAsked, Answer}
use Rattle.norm_safety.specs.Events as world
use Rattle.norm_safety.specs.Hands.{hands, is_at, taken_in}
use Rattle.norm_safety.specs.History.{Happening, happens}
use Rattle.norm_safety.specs.World.{World, receiver_at, world_opening}
use Rattle.norm_safety.specs.WorldLaws.{is_senders, comes_to}
use Rattle.norm_safety.specs.WorldStep.{world_step, run_from}
use Rattle.norm_send_rules.specs.declared.fault.SendFault.{SendFault}
use Rattle.norm_send_rules.specs.declared.job.Job.{Job}
use Rattle.norm_send_rules.specs.declared.job.Receipt.{Receipt}
use Rattle.norm_relay.specs.HandLaws.{handed_in, HandsAs, HandsIn, IsFresh, AreFresh, HandsFresh}
use Rattle.norm_relay.specs.Pumping.{Stop, Emptied, Crowded, Refused, Pumped, job_of, commands, passes, enqueues, stops, stop_by, one_more, begins_anew, anew_is_done, restart_job, enqueues_first, mark_position, pledges, with_pledge, marks, marks_for, marks_again, is_met, asks_nothing, asks_for, asks, pumped}
use Rattle.norm_relay.specs.RelayKept.{with_ups}
use Rattle.norm_relay.specs.RelayState.{Relaying, Pledge, relay_opening, upper_instance}
use Rattle.norm_relay.specs.RelayStep.{RelayEvent, UpDelivered, DownDelivered, PumpAsked, UpTicked, DownTicked, DownNews, DownStruck, Above, Below, RelayAnswer, Took, Sent, Other, relay_step, ups_of, takes, goes_on, leaves, takes_all, receiver_hears, hears_up, delivers_up, is_ack, says_up, given_by, receiver_ticks, ticks_up, below, above, relay_from}
use Rattle.norm_relay.specs.Sides.{Side, happens_in}
use Rattle.norm_relay.proofs.NewLemmas.{begins_at, relays_member}
use Rattle.norm_relay.proofs.UpperLemmas.{delivered_at, takes_profile, takes_at, after_take, ticked_at, offered_at}

-- ---- a side is the run of its events

abbrev pub IsRun : Side → Type 0
IsRun s = s.world ≡ run_from s.p (world_opening s.p) s.events

run_more : (p : Settings) (w : World) (events : List Event) (e : Event) → run_from p w (events ++ e ∷ []) ≡ (world_step p (run_from p w events) e).0
run_more p w [] e = refl
run_more p w (x ∷ events) e = run_more p (world_step p w x).0 events e

abbrev pub happening : Settings → World → Event → Happening
happening p w e = record { before = w; event = e; answer = (world_step p w e).1; after = (world_step p w e).0 }

pub happens_more : (p : Settings) (w : World) (events : List Event) (e : Event)
    → happens p w (events ++ e ∷ []) ≡ happens p w events ++ happening p (run_from p w events) e ∷ []
unfolding happens
happens_more p w [] e = refl
happens_more p w (x ∷ events) e = ap (λ (more : List Happening). happening p w x ∷ more) (happens_more p (world_step p w x).0 events e)

pub side_run : (s : Side) (e : Event) → IsRun s → IsRun (happens_in s e).0
side_run s e is = ap (λ (w : World). (world_step s.p w e).0) is ∙ sym (run_more s.p (world_opening s.p) s.events e)

-- what an event brings of hand-ups
abbrev pub brings : Settings → ℕ → ℕ → Event → World → List Up
brings p node id e w = elim (is_at w node id) [ true ↦ taken_in node e (world_step p w e).1 | false ↦ [] ]

pub side_hands : (s : Side) (e : Event) (node id : ℕ) → IsRun s → handed_in (happens_in s e).0 node id ≡ handed_in s node id ++ brings s.p node id e s.world
side_hands s e node id is =
    let w : World = world_opening s.p in
    ap (λ (past : List Happening). hands past node id) (happens_more s.p w s.events e)
    ∙ hands_more (happens s.p w s.events) (happening s.p (run_from s.p w s.events) e) node id
    ∙ ap (λ (v : World). handed_in s node id ++ brings s.p node id e v) (sym is)

quiet : (s : Side) (e : Event) (node id : ℕ) → IsRun s → taken_in node e (world_step s.p s.world e).1 ≡ [] → handed_in (happens_in s e).0 node id ≡ handed_in s node id
quiet s e node id is none =
    side_hands s e node id is ∙ ap (λ (ups : List Up). handed_in s node id ++ ups) (go (is_at s.world node id)) ∙ append-nil (handed_in s node id)
  where
    by : Bool → List Up
    by b = elim b [ true ↦ taken_in node e (world_step s.p s.world e).1 | false ↦ [] ]

    go : (b : Bool) → by b ≡ []
    go true = none
    go false = refl

same_self : (n : ℕ) → (n == n) ≡ true
same_self n = (Decides-eqb n n).1 refl

-- ---- all hand-ups are taken

pub takes_run : (node : ℕ) (ups : List Up) (s : Side) → IsRun s → IsRun (takes node ups s)
unfolding takes
takes_run node [] s is = is
takes_run node (u ∷ ups) s is = takes_run node ups (happens_in s (UpTaken node)).0 (side_run s (UpTaken node) is)

first_up : (r : ReceiverState) (u : Up) (ups : List Up) → r.holding.ups ≡ u ∷ ups → (took r).1 ≡ Some u
first_up r u ups e = go r.holding.ups e
  where
    by : List Up → Option Up
    by us = (left us).1
      where
        left : List Up → Holding × Option Up
        left us = elim us [ up ∷ rest ↦ (record (r.holding) { ups = rest }, Some up) | [] ↦ (r.holding, None) ]

    go : (us : List Up) → us ≡ u ∷ ups → by us ≡ Some u
    go [] e = absurd (cc)
    go (up ∷ rest) e = cc

abbrev taken_if : ℕ → Bool → Answer → List Up
taken_if node b answer = elim b [ true ↦ taken_in node (UpTaken node) answer | false ↦ [] ]

brings_first : (s : Side) (node id : ℕ) (r : ReceiverState) (u : Up) (ups : List Up) → receiver_at s.world node ≡ Some r → r.instance ≡ Some id
    → r.holding.ups ≡ u ∷ ups → brings s.p node id (UpTaken node) s.world ≡ u ∷ []
brings_first s node id r u ups found in_it e =
    let inside : is_at s.world node id ≡ true =
    ap (λ (o : Option ReceiverState). elim o [ Some r ↦ is_in r id | None ↦ false ]) found
    ∙ ap (λ (i : Option ℕ). elim i [ Some current ↦ current == id | None ↦ false ]) in_it ∙ same_self id in
    let answer : (world_step s.p s.world (UpTaken node)).1 ≡ world.Took (Some u) = world_laws.takes s.p s.world node r found ∙ ap world.Took (first_up r u ups e) in
    ap (λ b. taken_if node b (world_step s.p s.world (UpTaken node)).1) inside ∙ ap (taken_in node (UpTaken node)) answer
    ∙ ap (λ b. elim b [ true ↦ u ∷ [] | false ↦ [] ]) (same_self node)

takes_hands : (node id : ℕ) (ups : List Up) (s : Side) (r : ReceiverState) → IsRun s → receiver_at s.world node ≡ Some r → r.instance ≡ Some id
    → r.holding.ups ≡ ups → handed_in (takes node ups s) node id ≡ handed_in s node id ++ ups
unfolding takes
takes_hands node id [] s r is found in_it e = sym (append-nil (handed_in s node id))
takes_hands node id (u ∷ ups) s r is found in_it e =
    takes_hands node id ups (happens_in s (UpTaken node)).0 (with_ups ups r) (side_run s (UpTaken node) is)
    (world_laws.moves s.p s.world (UpTaken node) node heard_by.UpTaken r refl refl found ∙ ap Some (after_take r u ups e)) in_it refl
    ∙ ap (λ (xs : List Up). xs ++ ups) (side_hands s (UpTaken node) node id is ∙ ap (λ (xs : List Up). handed_in s node id ++ xs) (brings_first s node id r u ups found in_it e))
    ∙ append_assoc (handed_in s node id) (u ∷ []) ups

-- ---- what is kept

-- the part of a relay's state that this speaks of
pub record Core : Type 0 where
  pub upper : Side
  pub node : ℕ
  pub anew : Bool
  pub done : List Up
  pub waiting : List Up

abbrev pub core_of : Relaying → Core
core_of x = record { upper = x.upper; node = x.node; anew = x.anew; done = x.done; waiting = x.waiting }

pub record Handed (c : Core) : Type 0 where
  pub run : IsRun c.upper
  pub member : is_receiver c.upper.p c.node ≡ true
  pub state : ReceiverState
  pub found : receiver_at c.upper.world c.node ≡ Some state
  pub outside : HoldsNothingOutside state
  pub handed : HandsIn c.anew (handed_in c.upper c.node) c.done c.waiting state.instance

-- ---- a datagram from above

abbrev anew_if : Bool → Bool → Bool
anew_if true anew = true
anew_if false anew = anew

hands_after : (anew b : Bool) (H H' : ℕ → List Up) (done ups : List Up) (i i' : Option ℕ) → b ≡ goes_on i i' → GoesOnTo i i' → HandsIn anew H done [] i
    → ((id : ℕ) → i' ≡ Some id → (i ≡ Some id → ⊥) → H id ≡ []) → (i' ≡ None → ups ≡ []) → ((id : ℕ) → i' ≡ Some id → H' id ≡ H id ++ ups)
    → HandsIn (anew_if b anew) H' done ups i'
hands_after anew b H H' done ups None None is goes at fresh none grows = (at.0, none refl)
hands_after anew b H H' done ups (Some a) None is goes at fresh none grows = absurd (never goes)
  where
    never : GoesOnTo (Some a) None → ⊥
    never (inl same) = cc
    never (inr (id, to, above)) = cc
hands_after anew b H H' done ups None (Some id) is goes at fresh none grows =
    subst (λ c. HandsAs (anew_if c anew) (H' id) done ups) (sym is) (go anew)
  where
    all : H' id ≡ ups
    all = grows id refl ∙ ap (λ (xs : List Up). xs ++ ups) (fresh id refl (λ e. cc))

    go : (c : Bool) → HandsAs c (H' id) done ups
    go false = all ∙ ap (λ (xs : List Up). xs ++ ups) (sym at.0)
    go true = all
hands_after anew b H H' done ups (Some a) (Some id) is goes at fresh none grows = by (a == id) refl
  where
    same : a ≡ id → (c : Bool) → HandsAs c (H a) done [] → HandsAs c (H' id) done ups
    same e false at =
        grows id refl ∙ ap (λ (xs : List Up). xs ++ ups) (ap H (sym e) ∙ at ∙ append-nil done)
    same e true at = grows id refl ∙ ap (λ (xs : List Up). xs ++ ups) (ap H (sym e) ∙ at)

    inside : (x y : ℕ) → Some x ≡ Some y → x ≡ y
    inside x y e = cc

    clash : true ≡ false → ⊥
    clash e = cc

    by : (t : Bool) → (a == id) ≡ t → HandsAs (anew_if b anew) (H' id) done ups
    by true e =
        subst (λ c. HandsAs (anew_if c anew) (H' id) done ups) (sym (is ∙ ap not e)) (same ((Decides-eqb a id).0 e) anew at)
    by false e =
        subst (λ c. HandsAs (anew_if c anew) (H' id) done ups) (sym (is ∙ ap not e))
        (grows id refl ∙ ap (λ (xs : List Up). xs ++ ups) (fresh id refl (λ s. clash (sym ((Decides-eqb a id).1 (inside a id s)) ∙ e))))

heard_core : (datagram : List ℕ) (now draw : ℕ) (x : Relaying) → x.waiting ≡ [] → IsFresh x (UpDelivered datagram now draw) → Handed (core_of x)
    → Handed (core_of (takes_all (hears_up datagram now draw x)))
heard_core datagram now draw x empty fresh h = go (goes_on (upper_instance x) (upper_instance (receiver_hears datagram now draw x))) refl
  where
    p : Settings
    p = x.upper.p

    event : Event
    event = Delivered x.node datagram now draw

    s : Side
    s = (happens_in x.upper (Delivered x.node datagram now draw)).0

    r : ReceiverState
    r = received x.upper.p h.state datagram now draw

    found : receiver_at (happens_in x.upper (Delivered x.node datagram now draw)).0.world x.node ≡ Some r
    found = delivered_at x.upper x.node now draw datagram h.state h.member h.found

    was : upper_instance x ≡ h.state.instance
    was = ap (λ (o : Option ReceiverState). elim o [ Some r ↦ r.instance | None ↦ None ]) h.found

    is : upper_instance (receiver_hears datagram now draw x) ≡ r.instance
    is = ap (λ (o : Option ReceiverState). elim o [ Some r ↦ r.instance | None ↦ None ]) found

    ups : List Up
    ups = ups_of (receiver_at (happens_in x.upper (Delivered x.node datagram now draw)).0.world x.node)

    ups_are : r.holding.ups ≡ ups_of (receiver_at (happens_in x.upper (Delivered x.node datagram now draw)).0.world x.node)
    ups_are = sym (ap ups_of found)

    outside : HoldsNothingOutside r
    outside = step_laws.goes_on x.upper.p h.state (heard_by.Delivered datagram now draw) h.outside

    all_in : (b : Bool) → b ≡ goes_on h.state.instance r.instance
        → HandsIn (anew_if b x.anew) (handed_in (takes x.node ups s) x.node) x.done ups r.instance
    all_in b e =
        hands_after x.anew b (handed_in x.upper x.node) (handed_in (takes x.node ups s) x.node) x.done ups h.state.instance r.instance e
        (step_laws.instance x.upper.p h.state (heard_by.Delivered datagram now draw))
        (subst (λ (ws : List Up). HandsIn x.anew (handed_in x.upper x.node) x.done ws h.state.instance) empty h.handed)
        (λ id to other. fresh empty id (is ∙ to) (λ e. other (sym was ∙ e)))
        (λ none. sym ups_are ∙ ap (λ (g : Holding). g.ups) (outside none))
        (λ id to.
        takes_hands x.node id ups s r (side_run x.upper event h.run) found to ups_are
        ∙ ap (λ (xs : List Up). xs ++ ups) (quiet x.upper event x.node id h.run refl))

    made : (anew : Bool) → HandsIn anew (handed_in (takes x.node ups s) x.node) x.done ups r.instance
        → Handed (record { upper = takes x.node ups s; node = x.node; anew = anew; done = x.done; waiting = x.waiting ++ ups })
    made anew at = record {
      run = takes_run x.node ups s (side_run x.upper event h.run);
      member = ap (λ (q : Settings). is_receiver q x.node) (takes_profile x.node ups s) ∙ h.member;
      state = with_ups [] r;
      found = takes_at x.node ups s r found ups_are;
      outside = λ none. ap (λ (g : Holding). record g { ups = [] }) (outside none);
      handed =
          subst (λ (ws : List Up). HandsIn anew (handed_in (takes x.node ups s) x.node) x.done (ws ++ ups) r.instance) (sym empty) at;
    }

    go : (b : Bool) → b ≡ goes_on (upper_instance x) (upper_instance (receiver_hears datagram now draw x))
        → Handed (core_of (takes_all (leaves b (receiver_hears datagram now draw x))))
    go true e = made true (all_in true (e ∙ ap (λ i. goes_on i (upper_instance (receiver_hears datagram now draw x))) was ∙ ap (goes_on h.state.instance) is))
    go false e = made x.anew (all_in false (e ∙ ap (λ i. goes_on i (upper_instance (receiver_hears datagram now draw x))) was ∙ ap (goes_on h.state.instance) is))

abbrev HandedStep : Relaying × RelayAnswer → Type 0
HandedStep step = Handed (core_of step.0)

delivers_handed : (datagram : List ℕ) (now draw : ℕ) (x : Relaying) → IsFresh x (UpDelivered datagram now draw) → Handed (core_of x)
    → HandedStep (delivers_up datagram now draw x)
delivers_handed datagram now draw x fresh h = go x.waiting refl
  where
    go : (waiting : List Up) → x.waiting ≡ waiting → HandedStep (elim waiting [
      | u ∷ ups ↦ (x, Took false)
      | [] ↦ (takes_all (hears_up datagram now draw x), Took true)
    ])
    go [] empty = heard_core datagram now draw x empty fresh h
    go (u ∷ ups) some = h

-- the same hand-ups
still : (anew : Bool) (H H' : ℕ → List Up) (done waiting : List Up) (i : Option ℕ) → ((id : ℕ) → H' id ≡ H id) → HandsIn anew H done waiting i
    → HandsIn anew H' done waiting i
still anew H H' done waiting None same at = at
still anew H H' done waiting (Some id) same at = subst (λ (ups : List Up). HandsAs anew ups done waiting) (sym (same id)) at

-- ---- other events above

-- an event after which the node's receiver is in the same instance, and that brings no hand-up
passed_by : (c : Core) (e : Event) (r : ReceiverState) → Handed c → receiver_at (happens_in c.upper e).0.world c.node ≡ Some r → HoldsNothingOutside r
    → (h : Handed c) → r.instance ≡ h.state.instance → ((id : ℕ) → handed_in (happens_in c.upper e).0 c.node id ≡ handed_in c.upper c.node id)
    → Handed (record { upper = (happens_in c.upper e).0; node = c.node; anew = c.anew; done = c.done; waiting = c.waiting })
passed_by c e r k found outside h same none = record {
  run = side_run c.upper e h.run;
  member = h.member;
  state = r;
  found = found;
  outside = outside;
  handed =
      subst (HandsIn c.anew (handed_in (happens_in c.upper e).0 c.node) c.done c.waiting) (sym same)
      (still c.anew (handed_in c.upper c.node) (handed_in (happens_in c.upper e).0 c.node) c.done c.waiting h.state.instance none h.handed);
}

ticked_handed : (x : Relaying) (now : ℕ) → Handed (core_of x) → Handed (core_of (record x { upper = (happens_in x.upper (Ticked x.node now)).0 }))
ticked_handed x now h =
    passed_by (core_of x) (Ticked x.node now) (ticked x.upper.p h.state now).0 h (ticked_at x.upper x.node now h.state h.member h.found)
    (step_laws.goes_on x.upper.p h.state (heard_by.Ticked now) h.outside) h (tick_same x.upper.p h.state now).instance
    (λ id. quiet x.upper (Ticked x.node now) x.node id h.run refl)

offered_handed : (c : Core) (octets : List ℕ) → Handed c
    → Handed (record { upper = (happens_in c.upper (Offered c.node octets)).0; node = c.node; anew = c.anew; done = c.done; waiting = c.waiting })
offered_handed c octets h =
    passed_by c (Offered c.node octets) h.state h (offered_at c.upper c.node octets ∙ h.found) h.outside h refl
    (λ id. quiet c.upper (Offered c.node octets) c.node id h.run refl)

says_handed : (given : Option Written) (x : Relaying) → Handed (core_of x) → HandedStep (says_up given x)
says_handed None x h = h
says_handed (Some datagram) x h = go (is_ack datagram.message)
  where
    go : (b : Bool) → HandedStep (elim b [
      | true ↦ (record x { upper = (happens_in x.upper (Offered x.node datagram.octets)).0; unmarked = Some datagram }, Sent None)
      | false ↦ (x, Sent (Some datagram))
    ])
    go true = offered_handed (core_of x) datagram.octets h
    go false = h

receiver_handed : (now : ℕ) (x : Relaying) → Handed (core_of x) → HandedStep (receiver_ticks now x)
receiver_handed now x h =
    let step = happens_in x.upper (Ticked x.node now) in says_handed (given_by step.1) (record x { upper = step.0 }) (ticked_handed x now h)

ticks_handed : (now : ℕ) (x : Relaying) → Handed (core_of x) → HandedStep (ticks_up now x)
ticks_handed now x h = go x.pledge
  where
    met : (pledge : Pledge) (b : Bool) → HandedStep (elim b [ true ↦ (record x { pledge = None }, Sent (Some pledge.datagram)) | false ↦ receiver_ticks now x ])
    met pledge true = h
    met pledge false = receiver_handed now x h

    go : (o : Option Pledge) → HandedStep (elim o [
      | Some pledge ↦ elim (is_met x pledge) [ true ↦ (record x { pledge = None }, Sent (Some pledge.datagram)) | false ↦ receiver_ticks now x ]
      | None ↦ receiver_ticks now x
    ])
    go None = receiver_handed now x h
    go (Some pledge) = met pledge (is_met x pledge)

-- what comes to others brings no hand-up of the node
taken_none : (node : ℕ) (event : Event) (answer : Answer) → comes_to node event ≡ false → taken_in node event answer ≡ []
taken_none node (Commanded by job now) answer e = refl
taken_none node (Delivered other datagram now draw) answer e = refl
taken_none node (Ticked other now) answer e = refl
taken_none node (Offered other datagram) answer e = refl
taken_none node NewsAsked answer e = refl
taken_none node (UpTaken other) (world.Took (Some up)) e = ap (λ b. elim b [ true ↦ up ∷ [] | false ↦ [] ]) e
taken_none node (UpTaken other) (world.Took None) e = refl
taken_none node (UpTaken other) (world.Gave result) e = refl
taken_none node (UpTaken other) (world.Sent datagram) e = refl
taken_none node (UpTaken other) (world.Told news) e = refl
taken_none node (UpTaken other) world.Silent e = refl

above_handed : (event : Event) (x : Relaying) → comes_to x.node event ≡ false → Handed (core_of x) → HandedStep (above event x)
above_handed event x e h =
    passed_by (core_of x) event h.state h (world_laws.others x.upper.p x.upper.world event x.node e ∙ h.found) h.outside h refl
    (λ id. quiet x.upper event x.node id h.run (taken_none x.node event (world_step x.upper.p x.upper.world event).1 e))

-- ---- a pump

-- what was enqueued and what waits are together the same
pub record Moves (x y : Relaying) : Type 0 where
  pub upper : y.upper ≡ x.upper
  pub node : y.node ≡ x.node
  pub handed : (H : ℕ → List Up) (i : Option ℕ) → HandsIn x.anew H x.done x.waiting i → HandsIn y.anew H y.done y.waiting i

pub moves_handed : (x y : Relaying) → Moves x y → Handed (core_of x) → Handed (core_of y)
moves_handed x y m h =
    subst (λ (s : Side). Handed (record { upper = s; node = y.node; anew = y.anew; done = y.done; waiting = y.waiting })) (sym m.upper)
    (subst (λ n. Handed (record { upper = x.upper; node = n; anew = y.anew; done = y.done; waiting = y.waiting })) (sym m.node) (record {
      run = h.run;
      member = h.member;
      state = h.state;
      found = h.found;
      outside = h.outside;
      handed = m.handed (handed_in x.upper x.node) h.state.instance h.handed;
    }))

moves_both : (x y z : Relaying) → Moves x y → Moves y z → Moves x z
moves_both x y z a b = record {
  upper = b.upper ∙ a.upper;
  node = b.node ∙ a.node;
  handed = λ H i at. b.handed H i (a.handed H i at);
}

nothing_both : (xs ys : List Up) → xs ++ ys ≡ [] → (xs ≡ []) × (ys ≡ [])
nothing_both [] ys e = (refl, e)
nothing_both (x ∷ xs) ys e = absurd (cc)

-- what enqueuing leaves
record Enqueued (x : Relaying) (ups : List Up) (y : Relaying) : Type 0 where
  upper : y.upper ≡ x.upper
  node : y.node ≡ x.node
  anew : y.anew ≡ x.anew
  all : y.done ++ y.waiting ≡ x.done ++ ups

abbrev EnqueuedBy : Relaying → List Up → Pumped → Type 0
EnqueuedBy x ups d = Enqueued x ups d.state

enqueues_all : (now : ℕ) (ups : List Up) (x : Relaying) → Enqueued x ups (enqueues now ups x).state
unfolding enqueues
enqueues_all now [] x = record { upper = refl; node = refl; anew = refl; all = refl }
enqueues_all now (u ∷ ups) x = go (job_of x.opened u) (λ y. enqueues_all now ups y)
  where
    later : (y : Relaying) → y.upper ≡ x.upper → y.node ≡ x.node → y.anew ≡ x.anew → y.done ≡ x.done
        → Enqueued (passes u y) ups (enqueues now ups (passes u y)).state → Enqueued x (u ∷ ups) (enqueues now ups (passes u y)).state
    later y upper node anew done e = record {
      upper = e.upper ∙ upper;
      node = e.node ∙ node;
      anew = e.anew ∙ anew;
      all = e.all ∙ ap (λ (xs : List Up). xs ++ u ∷ [] ++ ups) done ∙ append_assoc x.done (u ∷ []) ups;
    }

    answered : (y : Relaying) (r : Result Receipt SendFault) → y.upper ≡ x.upper → y.node ≡ x.node → y.anew ≡ x.anew → y.done ≡ x.done
        → ((z : Relaying) → Enqueued z ups (enqueues now ups z).state)
        → EnqueuedBy x (u ∷ ups) (elim r [ Ok receipt ↦ one_more (enqueues now ups (passes u y)) | Err fault ↦ stops (stop_by fault) (u ∷ ups) y ])
    answered y (Ok receipt) upper node anew done more = later y upper node anew done (more (passes u y))
    answered y (Err fault) upper node anew done more =
        record { upper = upper; node = node; anew = anew; all = ap (λ (xs : List Up). xs ++ u ∷ ups) done }

    go : (o : Option Job) → ((z : Relaying) → Enqueued z ups (enqueues now ups z).state) → EnqueuedBy x (u ∷ ups) (elim o [
      | None ↦ enqueues now ups (passes u x)
      | Some job ↦ let step = commands now job x in elim step.1 [
        | Ok receipt ↦ one_more (enqueues now ups (passes u step.0))
        | Err fault ↦ stops (stop_by fault) (u ∷ ups) step.0
      ]
    ])
    go None more = later x refl refl refl refl (more (passes u x))
    go (Some job) more = answered (commands now job x).0 (commands now job x).1 refl refl refl refl more

enqueued_moves : (x y : Relaying) → x.anew ≡ false → Enqueued x x.waiting y → Moves x y
enqueued_moves x y begun e = record {
  upper = e.upper;
  node = e.node;
  handed = λ H i at. subst (λ a. HandsIn a H y.done y.waiting i) (sym (e.anew ∙ begun)) (go H i (subst (λ a. HandsIn a H x.done x.waiting i) begun at));
}
  where
    go : (H : ℕ → List Up) (i : Option ℕ) → HandsIn false H x.done x.waiting i → HandsIn false H y.done y.waiting i
    go H None at = nothing_both y.done y.waiting (e.all ∙ ap (λ (xs : List Up). xs ++ x.waiting) at.0 ∙ at.1)
    go H (Some id) at = at ∙ sym e.all

-- the same state in all that counts
same_moves : (x y : Relaying) → core_of y ≡ core_of x → Moves x y
same_moves x y e = record {
  upper = ap (λ (c : Core). c.upper) e;
  node = ap (λ (c : Core). c.node) e;
  handed = λ H i at. subst (λ (c : Core). HandsIn c.anew H c.done c.waiting i) (sym e) at;
}

-- after a restart that was not refused, none waits any more
abbrev pub Begun : Relaying → Relaying × Option SendFault → Type 0
Begun x step = Moves x step.0 × (step.1 ≡ None → step.0.anew ≡ false)

pub begins_moves : (now : ℕ) (x : Relaying) → Begun x (begins_anew now x)
begins_moves now x = go x.anew refl
  where
    emptied : (H : ℕ → List Up) (i : Option ℕ) → HandsIn true H x.done x.waiting i → HandsIn false H [] x.waiting i
    emptied H None at = (refl, at.1)
    emptied H (Some id) at = at

    never : (fault : SendFault) → Some fault ≡ None → ⊥
    never fault e = cc

    answered : x.anew ≡ true → (r : Result Receipt SendFault) → Begun x (elim r [
      | Ok receipt ↦ (anew_is_done (commands now (restart_job x) x).0, None)
      | Err fault ↦ ((commands now (restart_job x) x).0, Some fault)
    ])
    answered e (Ok receipt) = (
      record { upper = refl; node = refl; handed = λ H i at. emptied H i (subst (λ a. HandsIn a H x.done x.waiting i) e at) },
      λ none. refl,
    )
    answered e (Err fault) = (same_moves x (commands now (restart_job x) x).0 refl, λ none. absurd (never fault none))

    go : (b : Bool) → x.anew ≡ b → Begun x (elim b [
      | false ↦ (x, None)
      | true ↦ let step = commands now (restart_job x) x in elim step.1 [
        | Ok receipt ↦ (anew_is_done step.0, None)
        | Err fault ↦ (step.0, Some fault)
      ]
    ])
    go false e = (same_moves x x refl, λ none. e)
    go true e = answered e (commands now (restart_job x) x).1

abbrev MovesTo : Relaying → Pumped → Type 0
MovesTo x d = Moves x d.state

pub first_moves : (now : ℕ) (x : Relaying) (step : Relaying × Option SendFault) → Begun x step → Moves x (enqueues_first now step).state
first_moves now x step begun = moves_both x step.0 (enqueues_first now step).state begun.0 (go step.1 begun.1)
  where
    go : (o : Option SendFault) → (o ≡ None → step.0.anew ≡ false) → MovesTo step.0 (elim o [
      | None ↦ enqueues now (step.0).waiting step.0
      | Some fault ↦ stops (Refused fault) (step.0).waiting step.0
    ])
    go None anew = enqueued_moves step.0 (enqueues now (step.0).waiting step.0).state (anew refl) (enqueues_all now (step.0).waiting step.0)
    go (Some fault) anew = same_moves step.0 (record (step.0) { waiting = (step.0).waiting }) refl

-- asking changes nothing of it
abbrev pub SameCore : Relaying → Relaying × Option SendFault → Type 0
SameCore x step = core_of step.0 ≡ core_of x

pub asks_core : (now : ℕ) (stop : Stop) (x : Relaying) → SameCore x (asks now stop x)
asks_core now stop x = go (asks_nothing x)
  where
    pledged : (datagram : Written) (r : Result Receipt SendFault) → core_of (with_pledge datagram r (marks now x).0) ≡ core_of x
    pledged datagram (Err fault) = refl
    pledged datagram (Ok receipt) = at (mark_position receipt)
      where
        by : Option Position → Relaying
        by o = elim o [ Some at ↦ pledges datagram at (marks now x).0 | None ↦ (marks now x).0 ]

        at : (o : Option Position) → core_of (by o) ≡ core_of x
        at None = refl
        at (Some position) = refl

    met : (datagram : Written) (b : Bool) → SameCore x (elim b [ true ↦ (x, None) | false ↦ marks_for now datagram x ])
    met datagram true = refl
    met datagram false = pledged datagram (marks now x).1

    again : (o : Option Pledge) → SameCore x (elim o [
      | Some pledge ↦ elim (is_met x pledge) [ true ↦ (x, None) | false ↦ marks_for now pledge.datagram x ]
      | None ↦ (x, None)
    ])
    again None = refl
    again (Some pledge) = met pledge.datagram (is_met x pledge)

    emptied : (o : Option Written) → SameCore x (elim o [ Some datagram ↦ marks_for now datagram x | None ↦ marks_again now x ])
    emptied None = again x.pledge
    emptied (Some datagram) = pledged datagram (marks now x).1

    by : (stop : Stop) → SameCore x (asks_for now stop x)
    by Emptied = emptied x.unmarked
    by Crowded = refl
    by (Refused fault) = refl

    go : (b : Bool) → SameCore x (elim b [ true ↦ asks_for now stop x | false ↦ (x, None) ])
    go true = by stop
    go false = refl

pumped_handed : (now : ℕ) (x : Relaying) → Handed (core_of x) → Handed (core_of (pumped now x).0)
pumped_handed now x h =
    let d : Pumped = enqueues_first now (begins_anew now x) in
    subst (λ (c : Core). Handed c) (sym (asks_core now d.stop d.state))
    (moves_handed x d.state (first_moves now x (begins_anew now x) (begins_moves now x)) h)

-- ---- each event

pub step_handed : (x : Relaying) (e : RelayEvent) → IsFresh x e → Handed (core_of x) → Handed (core_of (relay_step x e).0)
step_handed x (UpDelivered datagram now draw) fresh h = delivers_handed datagram now draw x fresh h
step_handed x (DownDelivered datagram now) fresh h = h
step_handed x (PumpAsked now) fresh h = pumped_handed now x h
step_handed x (UpTicked now) fresh h = ticks_handed now x h
step_handed x (DownTicked now) fresh h = h
step_handed x DownNews fresh h = h
step_handed x (DownStruck node now) fresh h = h
step_handed x (Above event) fresh h = go (comes_to x.node event) refl
  where
    go : (b : Bool) → comes_to x.node event ≡ b → HandedStep (elim b [ true ↦ (x, Other world.Silent) | false ↦ above event x ])
    go true e = h
    go false e = above_handed event x e h
step_handed x (Below event) fresh h = go (is_senders x.lower.p event)
  where
    go : (b : Bool) → HandedStep (elim b [ true ↦ (x, Other world.Silent) | false ↦ below Other event x ])
    go true = h
    go false = h

handed_from : (x : Relaying) (events : List RelayEvent) → AreFresh x events → Handed (core_of x) → Handed (core_of (relay_from x events))
handed_from x [] fresh h = h
handed_from x (e ∷ events) fresh h = handed_from (relay_step x e).0 events fresh.1 (step_handed x e fresh.0 h)

pub begins_handed : (up : Settings) (node : ℕ) (down : Settings) → is_receiver up node ≡ true → Handed (core_of (relay_opening up node down))
begins_handed up node down member = record {
  run = refl;
  member = member;
  state = receiver_opening node;
  found = begins_at up node member;
  outside = step_laws.begins node;
  handed = (refl, refl);
}

pub hands_fresh : HandsFresh
hands_fresh up node down events fits fresh =
    let x : Relaying = relay_from (relay_opening up node down) events in
    let h : Handed (core_of x) = handed_from (relay_opening up node down) events fresh (begins_handed up node down (relays_member up node down fits)) in
    subst (HandsIn x.anew (handed_in x.upper x.node) x.done x.waiting)
    (sym (ap (λ (o : Option ReceiverState). elim o [ Some r ↦ r.instance | None ↦ None ]) h.found)) h.handed
