-- A receiver is listed only past what it handed up: kept by each event of a lawful run, and so at its end.
use Rattle.std.proofs.Common.{◌≡◌, ◌<◌, ℕ, List, [], ◌∷◌, ◌++◌, Bool, true, false, Option, None, Some, refl, sym, ap, ◌∙◌, subst, append_assoc}
use Rattle.std.specs.Prelude.{find, ◌==◌, option_and_then, IsTrue, IfSome}
use Rattle.std.specs.List.{AllByRecursion}
use Rattle.std.proofs.lemmas.List.{append-nil}
use Rattle.norm_base.specs.Settings.{Settings, InRange}
use Rattle.norm_base.specs.Members.{receivers_of}
use Rattle.norm_base.specs.declared.node.Origin.{Origin}
use Rattle.fec_plan.specs.declared.position.Position.{Position}
use Rattle.norm_ext.specs.Written.{Written}
use Rattle.norm_order.specs.Entries.{Entry}
use Rattle.norm_order.specs.Upto.{upto}
use Rattle.norm_order.specs.declared.up.Up.{Up}
use Rattle.norm_receive_rules.specs.ReceiverState.{ReceiverState}
use Rattle.norm_receive_rules.specs.ReceiverStep as receiver
use Rattle.norm_receive_rules.specs.Ticking.{ticked as receiver_ticked}
use Rattle.norm_send_rules.specs.SenderState.{SenderState, Listing, unlisted, sender_opening}
use Rattle.norm_send_rules.specs.SenderStep as sender
use Rattle.norm_send_rules.specs.Restarting.{instances}
use Rattle.norm_send_rules.specs.Commanding.{commanded}
use Rattle.norm_send_rules.specs.Hearing.{heard}
use Rattle.norm_send_rules.specs.Ticking.{ticked as sender_ticked}
use Rattle.norm_send_rules.specs.Telling.{told}
use Rattle.norm_send_rules.specs.declared.job.Job.{Job}
use Rattle.norm_send_rules.proofs.StepLemmas.{step_holds as wants_step}
use Rattle.norm_send_rules.proofs.ShapeLemmas.{blocks_of}
use Rattle.norm_safety.specs.Events.{Event, Commanded, Delivered, Ticked, Offered, UpTaken, NewsAsked, Answer, Sent, Took, Told, Silent}
use Rattle.norm_safety.specs.Fronts.{IsFront}
use Rattle.norm_safety.specs.Hands.{hands, taken_in, is_at}
use Rattle.norm_safety.specs.History.{Happening, happens, last_world, history}
use Rattle.norm_safety.specs.Jobs.{IsJob, IsEvent, AreEvents}
use Rattle.norm_safety.specs.Lawful.{sender_knows, receiver_knows, are_near, comes_in_time, accepted_with, AllTaken, MayCome, LawfulFrom, Lawful}
use Rattle.norm_safety.specs.ListedAfter.{ListedAfter}
use Rattle.norm_safety.specs.OnceEach.{order_of}
use Rattle.norm_safety.specs.World.{World, world_opening, receiver_at, with_receiver, with_given, given_others, is_of, offers}
use Rattle.norm_safety.specs.WorldStep.{world_step, moved, OfSender, OfReceiver, node_move, receiver_move}
use Rattle.norm_safety.proofs.Acknowledged.{AckTrue, HandsOn, due_on, ack_later, sender_acks, SentAck, tick_acks}
use Rattle.norm_safety.proofs.Listed.{ListsGo, Goes, Anew, ListedDue, command_lists, tick_stays, told_stays, heard_due}
use Rattle.norm_safety.proofs.Onward.{Onward, goes_on_itself}
use Rattle.norm_safety.proofs.ReceiverMoves.{Standing}
use Rattle.norm_safety.proofs.OrderRun.{happening, taken_by, found_holds, event_holds, opening_world}
use Rattle.norm_safety.proofs.SenderHolds.{command_steps, keeps_steps, orders_hold}
use Rattle.norm_safety.proofs.SenderKeeps.{Keeps, heard_keeps, ticked_keeps, told_keeps}
use Rattle.norm_safety.proofs.Spoken.{current_order}
use Rattle.norm_safety.proofs.Stood.{Due}
use Rattle.norm_safety.proofs.TickTrue.{SentTrue, tick_true}
use Rattle.norm_safety.proofs.WorldHolds.{CameTo, AtReceiver, AtNode, WorldHolds, hands_more, all_filter, all_end, all_contains, all_later}

-- What holds of a world, with what happened: each acknowledgement that was said or waits to be names what its node handed up, and
-- each member is listed past such a position.
pub record Confirms (p : Settings) (past : List Happening) (w : World) : Type 0 where
  pub offered : AllByRecursion (λ (o : ℕ × Written). AckTrue p w.sender (hands past) o.1) w.offered
  pub given : AllByRecursion (λ (o : ℕ × Written). AckTrue p w.sender (hands past) o.1) w.given
  pub listed : AllByRecursion (ListedDue p (order_of w.sender w.sender.current.id) (λ node. hands past node w.sender.current.id)) w.sender.listings

-- what holds after an event
abbrev ConfirmsAfter : Settings → List Happening → World → Event → World × Answer → Type 0
ConfirmsAfter p past w e step = Confirms p (past ++ happening w e step ∷ []) step.0

-- hand-ups go on
hands_on : (past : List Happening) (x : Happening) → HandsOn (hands past) (hands (past ++ x ∷ []))
hands_on past x = record {
  more = λ node id. elim (is_at x.before node id) [ true ↦ taken_in node x.event x.answer | false ↦ [] ];
  is = λ node id. hands_more past x node id;
}

-- Where orders go on, and acknowledgements and listings are true of the orders and hand-ups before an event, they are so after it.
confirms_on : (p : Settings) → InRange p → (past : List Happening) (w v : World) (e : Event) (answer : Answer) → Onward w.sender v.sender
    → AllByRecursion (λ (o : ℕ × Written). AckTrue p w.sender (hands past) o.1) v.offered
    → AllByRecursion (λ (o : ℕ × Written). AckTrue p w.sender (hands past) o.1) v.given
    → AllByRecursion (ListedDue p (order_of w.sender v.sender.current.id) (λ node. hands past node v.sender.current.id)) v.sender.listings
    → Confirms p (past ++ record { before = w; event = e; answer = answer; after = v } ∷ []) v
confirms_on p range past w v e answer onward offered given listed =
    let x : Happening = record { before = w; event = e; answer = answer; after = v } in
    let more = hands_on past x in
    let later : (o : ℕ × Written) → AckTrue p w.sender (hands past) o.1 → AckTrue p v.sender (hands (past ++ x ∷ [])) o.1 =
    λ o h. ack_later p range w.sender v.sender (hands past) (hands (past ++ x ∷ [])) o.1 onward more h in
    record {
      offered = all_later _ (λ (o : ℕ × Written). AckTrue p v.sender (hands (past ++ x ∷ [])) o.1) v.offered later offered;
      given = all_later _ (λ (o : ℕ × Written). AckTrue p v.sender (hands (past ++ x ∷ [])) o.1) v.given later given;
      listed = all_later _ (ListedDue p (order_of v.sender v.sender.current.id) (λ node. hands (past ++ x ∷ []) node v.sender.current.id)) v.sender.listings
          (λ l h. due_on p range w.sender v.sender (hands past) (hands (past ++ x ∷ [])) l.node v.sender.current.id l.past onward more h) listed;
    }

-- an event that leaves the sender
still_confirms : (p : Settings) → InRange p → (past : List Happening) (w v : World) (e : Event) (answer : Answer) → v.sender ≡ w.sender
    → AllByRecursion (λ (o : ℕ × Written). AckTrue p w.sender (hands past) o.1) v.offered
    → AllByRecursion (λ (o : ℕ × Written). AckTrue p w.sender (hands past) o.1) v.given → Confirms p past w
    → Confirms p (past ++ record { before = w; event = e; answer = answer; after = v } ∷ []) v
still_confirms p range past w v e answer same offered given h =
    let O : SenderState → Type 0 = λ s. Onward w.sender s in
    let L : SenderState → Type 0 = λ s. AllByRecursion (ListedDue p (order_of w.sender s.current.id) (λ node. hands past node s.current.id)) s.listings in
    confirms_on p range past w v e answer (subst O (sym same) (goes_on_itself (instances w.sender))) offered given (subst L (sym same) h.listed)

-- the listings after a command, by the orders before it
lists_after : (p : Settings) (past : List Happening) (w : World) (t : SenderState)
    → ListsGo (ListedDue p (order_of w.sender w.sender.current.id) (λ node. hands past node w.sender.current.id)) w.sender t → Confirms p past w
    → AllByRecursion (ListedDue p (order_of w.sender t.current.id) (λ node. hands past node t.current.id)) t.listings
lists_after p past w t (Goes same all) h =
    let I : ℕ → Type 0 = λ id. AllByRecursion (ListedDue p (order_of w.sender id) (λ node. hands past node id)) t.listings in
    subst I (sym same) (all h.listed)
lists_after p past w t (Anew none) h =
    all_later (λ (l : Listing). l.past ≡ None) (ListedDue p (order_of w.sender t.current.id) (λ node. hands past node t.current.id)) t.listings nothing none
  where
    nothing : (l : Listing) → l.past ≡ None → ListedDue p (order_of w.sender t.current.id) (λ node. hands past node t.current.id) l
    nothing l e = let D : Option Position → Type 0 = λ due. Due p (order_of w.sender t.current.id) (hands past l.node t.current.id) due in subst D (sym e) tt

command_confirms : (p : Settings) → InRange p → (past : List Happening) (accepted : List Origin) (w : World) (by : Origin) (job : Job) (now : ℕ)
    → IsJob job → WorldHolds p past accepted w → Confirms p past w
    → ConfirmsAfter p past w (Commanded by job now) (world_step p w (Commanded by job now))
command_confirms p range past accepted w by job now is holds h =
    let t : SenderState = (commanded p w.sender by job).0 in
    let steps = command_steps p range w.sender by job now is holds.sender in
    confirms_on p range past w (record w { sender = t }) (Commanded by job now) _ steps.onward h.offered h.given
    (lists_after p past w t (command_lists p _ w.sender by job) h)

-- a sender that keeps its orders and instance, with listings that are true of them
keeps_confirms : (p : Settings) → InRange p → (past : List Happening) (w v : World) (e : Event) (answer : Answer) → Onward w.sender v.sender → Keeps w.sender v.sender
    → AllByRecursion (λ (o : ℕ × Written). AckTrue p w.sender (hands past) o.1) v.offered
    → AllByRecursion (λ (o : ℕ × Written). AckTrue p w.sender (hands past) o.1) v.given
    → AllByRecursion (ListedDue p (order_of w.sender w.sender.current.id) (λ node. hands past node w.sender.current.id)) v.sender.listings
    → Confirms p (past ++ record { before = w; event = e; answer = answer; after = v } ∷ []) v
keeps_confirms p range past w v e answer onward keeps offered given listed =
    let I : ℕ → Type 0 = λ id. AllByRecursion (ListedDue p (order_of w.sender id) (λ node. hands past node id)) v.sender.listings in
    confirms_on p range past w v e answer onward offered given (subst I (sym (ap (λ i. i.id) keeps.current)) listed)

delivery_confirms : (p : Settings) → InRange p → (past : List Happening) (accepted : List Origin) (w : World) (node : ℕ) (octets : List ℕ) (now draw : ℕ)
    → (o : Written) → AckTrue p w.sender (hands past) o → o.octets ≡ octets → IsTrue (comes_in_time p w node o) → WorldHolds p past accepted w
    → Confirms p past w → ConfirmsAfter p past w (Delivered node octets now draw) (world_step p w (Delivered node octets now draw))
delivery_confirms p range past accepted w node octets now draw o says same near holds h = go (node == p.sender) (receiver_at w node) near
  where
    go : (own : Bool) (found : Option ReceiverState)
        → are_near (elim own [ true ↦ sender_knows w.sender o.message | false ↦ option_and_then (λ r. receiver_knows r o.message) found ]) o.indices ≡ true
        → ConfirmsAfter p past w (Delivered node octets now draw) (moved p w (node_move own found (sender.Delivered octets now) (receiver.Delivered octets now draw)))
    go true found close =
        let t : SenderState = heard p w.sender octets now in
        let keeps = heard_keeps p w.sender octets now in
        let wants = wants_step p (blocks_of p range) w.sender (sender.Delivered octets now) holds.sender.wants in
        keeps_confirms p range past w (record w { sender = t }) (Delivered node octets now draw) Silent (keeps_steps p w.sender t keeps wants holds.sender).onward keeps
        h.offered h.given (heard_due p w.sender (hands past) o octets now holds.sender holds.once.ids says same close h.listed)
    go false None close = still_confirms p range past w w (Delivered node octets now draw) Silent refl h.offered h.given h
    go false (Some r) close = still_confirms p range past w _ (Delivered node octets now draw) Silent refl h.offered h.given h

-- what a node's tick gave is its to offer
given_acks : (p : Settings) (s : SenderState) (past : List Happening) (w : World) (node : ℕ) (sent : Option Written) → SentAck p s (hands past) sent
    → AllByRecursion (λ (o : ℕ × Written). AckTrue p s (hands past) o.1) w.given
    → AllByRecursion (λ (o : ℕ × Written). AckTrue p s (hands past) o.1) (with_given node sent w).given
given_acks p s past w node None says all = all_filter (λ (o : ℕ × Written). AckTrue p s (hands past) o.1) _ w.given all
given_acks p s past w node (Some datagram) says all =
    all_end (λ (o : ℕ × Written). AckTrue p s (hands past) o.1) (given_others node w) (node, datagram)
    (all_filter (λ (o : ℕ × Written). AckTrue p s (hands past) o.1) _ w.given all) says

sent_acks : (p : Settings) (s : SenderState) (handed : ℕ → ℕ → List Up) (sent : Option Written) → SentTrue p s sent → SentAck p s handed sent
sent_acks p s handed None h = tt
sent_acks p s handed (Some datagram) h = sender_acks p s handed datagram h

-- a tick's datagram leaves the rest of a world
pub given_leaves : (node : ℕ) (sent : Option Written) (w : World) → ((with_given node sent w).sender ≡ w.sender) × ((with_given node sent w).offered ≡ w.offered)
given_leaves node None w = (refl, refl)
given_leaves node (Some datagram) w = (refl, refl)

sender_tick_confirms : (p : Settings) → InRange p → (past : List Happening) (accepted : List Origin) (w : World) (node now : ℕ) → WorldHolds p past accepted w
    → Confirms p past w → ConfirmsAfter p past w (Ticked node now) (moved p w (OfSender (sender.Ticked now)))
sender_tick_confirms p range past accepted w node now holds h =
    let t : SenderState = (sender_ticked p w.sender now).0 in
    let sent : Option Written = (sender_ticked p w.sender now).1 in
    let v : World = record w { sender = t } in
    let keeps = ticked_keeps p w.sender now in
    let wants = wants_step p (blocks_of p range) w.sender (sender.Ticked now) holds.sender.wants in
    let steps = keeps_steps p w.sender t keeps wants holds.sender in
    let leaves = given_leaves p.sender sent v in
    let K : SenderState → Type 0 = λ s. Keeps w.sender s in
    let O : SenderState → Type 0 = λ s. Onward w.sender s in
    let A : List (ℕ × Written) → Type 0 = λ all. AllByRecursion (λ (o : ℕ × Written). AckTrue p w.sender (hands past) o.1) all in
    let L : List Listing → Type 0 = λ ls. AllByRecursion (ListedDue p (order_of w.sender w.sender.current.id) (λ node. hands past node w.sender.current.id)) ls in
    let listings : (with_given p.sender sent v).sender.listings ≡ w.sender.listings = ap (λ (s : SenderState). s.listings) leaves.0 ∙ tick_stays p w.sender now in
    keeps_confirms p range past w (with_given p.sender sent v) (Ticked node now) (Sent sent) (subst O (sym leaves.0) steps.onward) (subst K (sym leaves.0) keeps)
    (subst A (sym leaves.1) h.offered)
    (given_acks p w.sender past v p.sender sent (sent_acks p w.sender (hands past) sent (tick_true p range w.sender now holds.sender holds.once.ids)) h.given)
    (subst L (sym listings) h.listed)

-- the id of an instance that a node came to has 16 bits
came_few : (p : Settings) (ids : List ℕ) (instance : Option ℕ) → CameTo p ids instance → (id : ℕ) → instance ≡ Some id → id < 65536
came_few p ids None came id e = absurd (none id e)
  where
    none : (id : ℕ) → None ≡ Some id → ⊥
    none id e = cc
came_few p ids (Some current) came id e = (let F : ℕ → Type 0 = λ n. n < 65536 in subst F (same current id e) came.begun.small)
  where
    same : (a b : ℕ) → Some a ≡ Some b → a ≡ b
    same a b e = cc

receiver_tick_confirms : (p : Settings) → InRange p → (past : List Happening) (accepted : List Origin) (w : World) (node now : ℕ) (r : ReceiverState)
    → receiver_at w node ≡ Some r → r.holding.ups ≡ [] → WorldHolds p past accepted w
    → Confirms p past w → ConfirmsAfter p past w (Ticked node now) (moved p w (OfReceiver r (receiver.Ticked now)))
receiver_tick_confirms p range past accepted w node now r found none holds h =
    let t : ReceiverState = (receiver_ticked p r now).0 in
    let sent : Option Written = (receiver_ticked p r now).1 in
    let v : World = with_receiver t w in
    let N : Option ReceiverState → Type 0 = λ o. AtNode p w.sender past node o in
    let here : AtReceiver p w.sender past node r = subst N found (holds.nodes node) in
    let S : ℕ → Type 0 = λ n. Standing p w.sender (hands past n) r in
    let acks = tick_acks p range w.sender (hands past) r now (orders_hold p w.sender holds.sender) here.member here.sequence
    (came_few p _ r.instance here.came) none (subst S (sym here.here) here.stands) in
    let leaves = given_leaves r.node sent v in
    let A : List (ℕ × Written) → Type 0 = λ all. AllByRecursion (λ (o : ℕ × Written). AckTrue p w.sender (hands past) o.1) all in
    still_confirms p range past w (with_given r.node sent v) (Ticked node now) (Sent sent) leaves.0 (subst A (sym leaves.1) h.offered)
    (given_acks p w.sender past v r.node sent acks h.given) h

tick_confirms : (p : Settings) → InRange p → (past : List Happening) (accepted : List Origin) (w : World) (node now : ℕ) → AllTaken (receiver_at w node)
    → WorldHolds p past accepted w → Confirms p past w → ConfirmsAfter p past w (Ticked node now) (world_step p w (Ticked node now))
tick_confirms p range past accepted w node now taken holds h = go (node == p.sender) (receiver_at w node) refl taken
  where
    go : (own : Bool) (found : Option ReceiverState) → receiver_at w node ≡ found → AllTaken found
        → ConfirmsAfter p past w (Ticked node now) (moved p w (node_move own found (sender.Ticked now) (receiver.Ticked now)))
    go true found e none = sender_tick_confirms p range past accepted w node now holds h
    go false None e none = still_confirms p range past w w (Ticked node now) Silent refl h.offered h.given h
    go false (Some r) e none = receiver_tick_confirms p range past accepted w node now r e none holds h

offer_confirms : (p : Settings) → InRange p → (past : List Happening) (w : World) (node : ℕ) (octets : List ℕ) → Confirms p past w
    → ConfirmsAfter p past w (Offered node octets) (world_step p w (Offered node octets))
offer_confirms p range past w node octets h = go (find (is_of node octets) w.given) refl
  where
    go : (found : Option (ℕ × Written)) → find (is_of node octets) w.given ≡ found → ConfirmsAfter p past w (Offered node octets) (offers found node w, Silent)
    go None e = still_confirms p range past w w (Offered node octets) Silent refl h.offered h.given h
    go (Some o) e =
        still_confirms p range past w (offers (Some o) node w) (Offered node octets) Silent refl
        (all_end (λ (o : ℕ × Written). AckTrue p w.sender (hands past) o.1) w.offered o h.offered
        (found_holds (λ (o : ℕ × Written). AckTrue p w.sender (hands past) o.1) (is_of node octets) w.given o h.given e))
        (all_filter (λ (o : ℕ × Written). AckTrue p w.sender (hands past) o.1) _ w.given h.given) h

taking_confirms : (p : Settings) → InRange p → (past : List Happening) (w : World) (node : ℕ) → Confirms p past w
    → ConfirmsAfter p past w (UpTaken node) (world_step p w (UpTaken node))
taking_confirms p range past w node h = go (receiver_at w node)
  where
    ups : (r : ReceiverState) (waiting : List Up) → ConfirmsAfter p past w (UpTaken node)
        (taken_by w r (elim waiting [ up ∷ more ↦ (record (r.holding) { ups = more }, Some up) | [] ↦ (r.holding, None) ]))
    ups r [] = still_confirms p range past w (with_receiver r w) (UpTaken node) (Took None) refl h.offered h.given h
    ups r (up ∷ more) = still_confirms p range past w (with_receiver (record r { holding = record (r.holding) { ups = more } }) w) (UpTaken node) (Took (Some up)) refl h.offered h.given h

    go : (found : Option ReceiverState) → ConfirmsAfter p past w (UpTaken node) (moved p w (receiver_move found receiver.UpTaken))
    go None = still_confirms p range past w w (UpTaken node) Silent refl h.offered h.given h
    go (Some r) = ups r r.holding.ups

pub event_confirms : (p : Settings) → InRange p → (past : List Happening) (accepted : List Origin) (w : World) (e : Event) → MayCome p w accepted e → IsEvent e
    → WorldHolds p past accepted w → Confirms p past w → ConfirmsAfter p past w e (world_step p w e)
event_confirms p range past accepted w (Commanded by job now) may is holds h = command_confirms p range past accepted w by job now is holds h
event_confirms p range past accepted w (Delivered node datagram now draw) may is holds h =
    delivery_confirms p range past accepted w node datagram now draw may.datagram
    (all_contains (λ (o : ℕ × Written). AckTrue p w.sender (hands past) o.1) w.offered (may.from, may.datagram) h.offered may.offered) may.same may.near holds h
event_confirms p range past accepted w (Ticked node now) may is holds h = tick_confirms p range past accepted w node now may holds h
event_confirms p range past accepted w (Offered node datagram) may is holds h = offer_confirms p range past w node datagram h
event_confirms p range past accepted w (UpTaken node) may is holds h = taking_confirms p range past w node h
event_confirms p range past accepted w NewsAsked may is holds h =
    let t : SenderState = (told w.sender).0 in
    let keeps = told_keeps w.sender in
    let wants = wants_step p (blocks_of p range) w.sender sender.NewsAsked holds.sender.wants in
    let L : List Listing → Type 0 = λ ls. AllByRecursion (ListedDue p (order_of w.sender w.sender.current.id) (λ node. hands past node w.sender.current.id)) ls in
    keeps_confirms p range past w (record w { sender = t }) NewsAsked (Told (told w.sender).1) (keeps_steps p w.sender t keeps wants holds.sender).onward keeps
    h.offered h.given (subst L (sym (told_stays w.sender)) h.listed)

-- ---- a run

-- what lawful events leave, from a world on
pub record RunConfirms (p : Settings) (past : List Happening) (w : World) (events : List Event) : Type 0 where
  pub accepted : List Origin
  pub holds : WorldHolds p (past ++ happens p w events) accepted (last_world w (happens p w events))
  pub confirms : Confirms p (past ++ happens p w events) (last_world w (happens p w events))

run_confirms : (p : Settings) → InRange p → (past : List Happening) (accepted : List Origin) (w : World) (events : List Event) → LawfulFrom p w accepted events
    → AreEvents events → WorldHolds p past accepted w → Confirms p past w → RunConfirms p past w events
unfolding happens last_world
run_confirms p range past accepted w [] lawful are holds h =
    let W : List Happening → Type 0 = λ all. WorldHolds p all accepted w in
    let C : List Happening → Type 0 = λ all. Confirms p all w in
    record { accepted = accepted; holds = subst W (sym (append-nil past)) holds; confirms = subst C (sym (append-nil past)) h }
run_confirms p range past accepted w (e ∷ events) lawful are holds h =
    let step = world_step p w e in
    let x : Happening = happening w e step in
    let next = event_holds p range past accepted w e lawful.0 are.0 holds in
    let now = event_confirms p range past accepted w e lawful.0 are.0 holds h in
    let rest = run_confirms p range (past ++ x ∷ []) (accepted_with accepted e step.1) step.0 events lawful.1 are.1 next now in
    let W : List Happening → Type 0 = λ all. WorldHolds p all rest.accepted (last_world step.0 (happens p step.0 events)) in
    let C : List Happening → Type 0 = λ all. Confirms p all (last_world step.0 (happens p step.0 events)) in
    record {
      accepted = rest.accepted;
      holds = subst W (append_assoc past (x ∷ []) (happens p step.0 events)) rest.holds;
      confirms = subst C (append_assoc past (x ∷ []) (happens p step.0 events)) rest.confirms;
    }

-- nobody is listed past anything, as a world begins
none_listed : (p : Settings) (nodes : List ℕ) → AllByRecursion (ListedDue p (order_of (sender_opening p p.instance) p.instance) (λ node. hands [] node p.instance)) (unlisted nodes)
none_listed p [] = tt
none_listed p (node ∷ nodes) = (tt, none_listed p nodes)

pub confirms_opening : (p : Settings) → Confirms p [] (world_opening p)
confirms_opening p = record { offered = tt; given = tt; listed = none_listed p (receivers_of p p.receivers) }

pub confirms_of : (p : Settings) → InRange p → (events : List Event) → Lawful p events → AreEvents events
    → RunConfirms p [] (world_opening p) events
confirms_of p range events lawful are =
    run_confirms p range [] [] (world_opening p) events lawful are (opening_world p range)
    (confirms_opening p)

-- Who is listed past a watermark handed up everything before it.
pub listed_run : (p : Settings) → InRange p → (events : List Event) → Lawful p events → AreEvents events
    → ListedAfter p (history p events)
listed_run p range events lawful are =
    let run = confirms_of p range events lawful are in
    let w : World = (history p events).now in
    let past : List Happening = (history p events).happened in
    let order : order_of w.sender w.sender.current.id ≡ w.sender.current.order = current_order w.sender run.holds.once.ids in
    record { each = all_later _ _ w.sender.listings (one w past order) run.confirms.listed }
  where
    one : (w : World) (past : List Happening) → order_of w.sender w.sender.current.id ≡ w.sender.current.order → (l : Listing)
        → ListedDue p (order_of w.sender w.sender.current.id) (λ node. hands past node w.sender.current.id) l
        → IfSome l.past (λ at. IsFront (upto p w.sender.current.order at) (hands past l.node w.sender.current.id))
    one w past order l h = go l.past h
      where
        go : (at : Option Position) → Due p (order_of w.sender w.sender.current.id) (hands past l.node w.sender.current.id) at
            → IfSome at (λ at. IsFront (upto p w.sender.current.order at) (hands past l.node w.sender.current.id))
        go None h = tt
        go (Some at) h =
            let F : List Entry → Type 0 = λ entries. IsFront (upto p entries at) (hands past l.node w.sender.current.id) in
            subst F order h.1
