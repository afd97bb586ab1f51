-- A receiver hands up the transport order: kept by each event of a lawful run, and so at its end.
use Rattle.std.proofs.Common.{◌≡◌, ℕ, zero, suc, ◌+◌, ◌≤◌, cond, List, [], ◌∷◌, ◌++◌, length, Bool, true, false, Option, None, Some, refl, sym, ap, subst, append_assoc, arith, inr}
use Rattle.std.specs.Prelude.{map, find, ◌==◌, nat_eq, option_and_then, IsTrue, Contains, ⊤}
use Rattle.std.specs.List.{AllByRecursion, IsDistinct}
use Rattle.std.proofs.lemmas.Bool.Decides.{Decides-eqb}
use Rattle.std.proofs.lemmas.List.{append-nil}
use Rattle.norm_base.specs.Settings.{Settings, InRange}
use Rattle.norm_base.specs.Member.{IsMember}
use Rattle.norm_base.specs.Members.{receivers_of}
use Rattle.norm_base.specs.declared.node.Origin.{Origin}
use Rattle.norm_ext.specs.Written.{Written}
use Rattle.norm_order.specs.declared.up.Up.{Up}
use Rattle.norm_receive_rules.specs.Holding.{Holding}
use Rattle.norm_receive_rules.specs.ReceiverState.{ReceiverState, receiver_opening}
use Rattle.norm_receive_rules.specs.Receiving.{received}
use Rattle.norm_receive_rules.specs.Ticking.{ticked as receiver_ticked}
use Rattle.norm_send_rules.specs.SenderState.{SenderState, sender_opening}
use Rattle.norm_send_rules.specs.SenderStep as sender
use Rattle.norm_receive_rules.specs.ReceiverStep as receiver
use Rattle.norm_send_rules.specs.Restarting.{instances}
use Rattle.norm_send_rules.specs.Commanding.{commanded}
use Rattle.norm_send_rules.specs.Hearing.{heard}
use Rattle.norm_send_rules.specs.Ticking.{ticked as sender_ticked}
use Rattle.norm_send_rules.specs.Telling.{told}
use Rattle.norm_send_rules.specs.declared.job.Job.{Job}
use Rattle.norm_send_rules.proofs.StepLemmas.{step_holds as wants_step}
use Rattle.norm_send_rules.proofs.ShapeLemmas.{blocks_of}
use Rattle.norm_safety.specs.Events.{Event, Commanded, Delivered, Ticked, Offered, UpTaken, NewsAsked, Answer, Sent, Took, Told, Silent}
use Rattle.norm_safety.specs.Jobs.{IsJob, IsEvent, AreEvents}
use Rattle.norm_safety.specs.World.{World, world_opening, receiver_at, with_receiver, with_given, given_others, is_of, offers}
use Rattle.norm_safety.specs.WorldStep.{world_step, moved, OfSender, OfReceiver, node_move, receiver_move}
use Rattle.norm_safety.specs.Lawful.{sender_knows, receiver_knows, are_near, comes_in_time, accepted_with, MayCome, LawfulFrom, Lawful}
use Rattle.norm_safety.specs.History.{Happening, happens, last_world, history}
use Rattle.norm_safety.specs.InOrder.{Stops, came_to, InOrder}
use Rattle.norm_safety.proofs.SenderKeeps.{Keeps, heard_keeps, ticked_keeps, told_keeps}
use Rattle.norm_safety.specs.Hands.{taken_in}
use Rattle.norm_safety.specs.Lawful.{same_origin}
use Rattle.norm_safety.proofs.CommandSteps.{keeps_origins, keeps_ids}
use Rattle.norm_safety.proofs.OnceLemmas.{OnceSoFar, low_by}
use Rattle.norm_safety.proofs.OnceRun.{event_leaves}
use Rattle.norm_safety.proofs.Onward.{Onward, goes_on_itself}
use Rattle.norm_safety.proofs.SenderHolds.{Steps, command_steps, keeps_steps, orders_hold, opening_holds}
use Rattle.norm_safety.proofs.Spoken.{SaysTrue}
use Rattle.norm_safety.proofs.Feedback.{SendsNothingOf, receiver_says_nothing}
use Rattle.norm_safety.proofs.TickTrue.{SentTrue, tick_true, nothing_true, true_later}
use Rattle.norm_safety.proofs.ReceiverMoves.{Moved, Remains, Enters, received_moves, same_moves, tick_same, held_same}
use Rattle.norm_safety.proofs.WorldHolds.{AtNode, WorldHolds, instance_of, said_later, all_filter, all_end, all_contains, quiet_world}
use Rattle.norm_safety.proofs.WorldMoves.{moved_world}
use Rattle.norm_safety.proofs.WorldTakes.{behind_up, taken_world}

-- what happened, an event and what it left
abbrev pub happening : World → Event → World × Answer → Happening
happening w e step = record { before = w; event = e; answer = step.1; after = step.0 }

-- ---- one event

-- what holds after an event
abbrev HoldsAfter : Settings → List Happening → List Origin → World → Event → World × Answer → Type 0
HoldsAfter p past accepted w e step = WorldHolds p (past ++ happening w e step ∷ []) (accepted_with accepted e step.1) step.0

command_holds : (p : Settings) → InRange p → (past : List Happening) (accepted : List Origin) (w : World) (by : Origin) (job : Job) (now : ℕ)
    → (Contains accepted by → ⊥) → IsJob job → WorldHolds p past accepted w
    → HoldsAfter p past accepted w (Commanded by job now) (world_step p w (Commanded by job now))
command_holds p range past accepted w by job now may is h =
    let leaves = event_leaves p w accepted (Commanded by job now) may h.once in
    let steps = command_steps p range w.sender by job now is h.sender in
    let after : SenderState = (commanded p w.sender by job).0 in
    quiet_world p range past accepted _ w (record w { sender = after }) (Commanded by job now) _ refl steps.holds leaves.once steps.onward
    (said_later p range w.sender after w.offered steps.onward h.offered) (said_later p range w.sender after w.given steps.onward h.given) (λ node. refl) h

-- where a node moved is where it was
pub moved_node_is : (p : Settings) (s : SenderState) (r t : ReceiverState) → Moved p s r t → t.node ≡ r.node
moved_node_is p s r t (Remains ids stands) = ids.node
moved_node_is p s r t (Enters id out goes begun ids holds) = ids.node

-- what holds of commands where the orders stay
once_kept : (s t : SenderState) (accepted : List Origin) → Keeps s t → OnceSoFar s accepted → OnceSoFar t accepted
once_kept s t accepted keeps h =
    let D : List Origin → Type 0 = λ xs. IsDistinct same_origin xs in
    let I : List ℕ → Type 0 = λ xs. IsDistinct nat_eq xs in
    let K : List Origin → Type 0 = λ xs. AllByRecursion (λ x. Contains accepted x) xs in
    let by = keeps_origins s t keeps in
    record {
      differ = subst D (sym by) h.differ;
      ids = subst I (sym (keeps_ids s t keeps)) h.ids;
      low = low_by s t (keeps_ids s t keeps) h.low;
      known = subst K (sym by) h.known;
      few = (let same = ap length by in let le = h.few in omega (arith, same, le));
    }

-- a sender that keeps its orders, and says nothing
sender_holds : (p : Settings) → InRange p → (past : List Happening) (accepted : List Origin) (w : World) (t : SenderState) (e : Event) (answer : Answer)
    → Steps p w.sender t → Keeps w.sender t → ((node : ℕ) → taken_in node e answer ≡ []) → WorldHolds p past accepted w
    → WorldHolds p (past ++ record { before = w; event = e; answer = answer; after = record w { sender = t } } ∷ []) accepted (record w { sender = t })
sender_holds p range past accepted w t e answer steps keeps none h =
    quiet_world p range past accepted accepted w (record w { sender = t }) e answer refl steps.holds (once_kept w.sender t accepted keeps h.once) steps.onward
    (said_later p range w.sender t w.offered steps.onward h.offered) (said_later p range w.sender t w.given steps.onward h.given) none h

-- a receiver that moved
receiver_holds : (p : Settings) → InRange p → (past : List Happening) (accepted : List Origin) (w : World) (node : ℕ) (r t : ReceiverState) (e : Event) (answer : Answer)
    → receiver_at w node ≡ Some r → Moved p w.sender r t → ((other : ℕ) → taken_in other e answer ≡ []) → WorldHolds p past accepted w
    → WorldHolds p (past ++ record { before = w; event = e; answer = answer; after = with_receiver t w } ∷ []) accepted (with_receiver t w)
receiver_holds p range past accepted w node r t e answer found moved none h =
    moved_world p range past accepted w (with_receiver t w) e answer node r t found (moved_node_is p w.sender r t moved) refl refl refl moved none h.given h

-- nothing happened to the world
nothing_holds : (p : Settings) → InRange p → (past : List Happening) (accepted : List Origin) (w : World) (e : Event) (answer : Answer)
    → ((node : ℕ) → taken_in node e answer ≡ []) → WorldHolds p past accepted w
    → WorldHolds p (past ++ record { before = w; event = e; answer = answer; after = w } ∷ []) accepted w
nothing_holds p range past accepted w e answer none h =
    quiet_world p range past accepted accepted w w e answer refl h.sender h.once (goes_on_itself (instances w.sender)) h.offered h.given none h

delivery_holds : (p : Settings) → InRange p → (past : List Happening) (accepted : List Origin) (w : World) (node : ℕ) (octets : List ℕ) (now draw : ℕ)
    → (o : Written) → SaysTrue p w.sender o → o.octets ≡ octets → IsTrue (comes_in_time p w node o) → WorldHolds p past accepted w
    → HoldsAfter p past accepted w (Delivered node octets now draw) (world_step p w (Delivered node octets now draw))
delivery_holds p range past accepted w node octets now draw o says same near h = go (node == p.sender) (receiver_at w node) refl near
  where
    go : (own : Bool) (found : Option ReceiverState) → receiver_at w node ≡ found
        → are_near (elim own [ true ↦ sender_knows w.sender o.message | false ↦ option_and_then (λ r. receiver_knows r o.message) found ]) o.indices ≡ true
        → HoldsAfter p past accepted w (Delivered node octets now draw) (moved p w (node_move own found (sender.Delivered octets now) (receiver.Delivered octets now draw)))
    go true found e close =
        let keeps = heard_keeps p w.sender octets now in
        let wants = wants_step p (blocks_of p range) w.sender (sender.Delivered octets now) h.sender.wants in
        sender_holds p range past accepted w (heard p w.sender octets now) (Delivered node octets now draw) Silent
        (keeps_steps p w.sender (heard p w.sender octets now) keeps wants h.sender) keeps (λ other. refl) h
    go false None e close = nothing_holds p range past accepted w (Delivered node octets now draw) Silent (λ other. refl) h
    go false (Some r) e close =
        receiver_holds p range past accepted w node r (received p r octets now draw) (Delivered node octets now draw) Silent e
        (received_moves p range w.sender r o octets now draw (orders_hold p w.sender h.sender) says same close) (λ other. refl) h

-- what a step sends is true of a state's orders
abbrev SaidTrue : Settings → SenderState → Option Written → Type 0
SaidTrue p s (Some datagram) = SaysTrue p s datagram
SaidTrue p s None = ⊤

-- a receiver says nothing false
says_nothing_false : (p : Settings) (s : SenderState) (sent : Option Written) → SendsNothingOf sent → SaidTrue p s sent
says_nothing_false p s None h = tt
says_nothing_false p s (Some datagram) h = (inr h.0, nothing_true p s datagram.indices datagram.message h.1)

sender_tick_holds : (p : Settings) → InRange p → (past : List Happening) (accepted : List Origin) (w : World) (node now : ℕ) → WorldHolds p past accepted w
    → HoldsAfter p past accepted w (Ticked node now) (moved p w (OfSender (sender.Ticked now)))
sender_tick_holds p range past accepted w node now h =
    let t : SenderState = (sender_ticked p w.sender now).0 in
    let keeps = ticked_keeps p w.sender now in
    let wants = wants_step p (blocks_of p range) w.sender (sender.Ticked now) h.sender.wants in
    let steps = keeps_steps p w.sender t keeps wants h.sender in
    go t (sender_ticked p w.sender now).1 steps keeps (tick_true p range w.sender now h.sender h.once.ids)
  where
    said : (t : SenderState) (sent : Option Written) → Onward w.sender t → SentTrue p w.sender sent
        → AllByRecursion (λ (o : ℕ × Written). SaysTrue p t o.1) (with_given p.sender sent (record w { sender = t })).given
    said t None onward says =
        all_filter (λ (o : ℕ × Written). SaysTrue p t o.1) _ w.given (said_later p range w.sender t w.given onward h.given)
    said t (Some datagram) onward says =
        all_end (λ (o : ℕ × Written). SaysTrue p t o.1) (given_others p.sender w) (p.sender, datagram)
        (all_filter (λ (o : ℕ × Written). SaysTrue p t o.1) _ w.given (said_later p range w.sender t w.given onward h.given))
        (true_later p range w.sender t datagram onward says.says)

    go : (t : SenderState) (sent : Option Written) → Steps p w.sender t → Keeps w.sender t → SentTrue p w.sender sent
        → HoldsAfter p past accepted w (Ticked node now) (with_given p.sender sent (record w { sender = t }), Sent sent)
    go t None steps keeps says =
        quiet_world p range past accepted accepted w (with_given p.sender None (record w { sender = t })) (Ticked node now) (Sent None) refl steps.holds
        (once_kept w.sender t accepted keeps h.once) steps.onward (said_later p range w.sender t w.offered steps.onward h.offered)
        (said t None steps.onward says) (λ other. refl) h
    go t (Some datagram) steps keeps says =
        quiet_world p range past accepted accepted w (with_given p.sender (Some datagram) (record w { sender = t })) (Ticked node now) (Sent (Some datagram)) refl
        steps.holds (once_kept w.sender t accepted keeps h.once) steps.onward (said_later p range w.sender t w.offered steps.onward h.offered)
        (said t (Some datagram) steps.onward says) (λ other. refl) h

receiver_tick_holds : (p : Settings) → InRange p → (past : List Happening) (accepted : List Origin) (w : World) (node now : ℕ) (r : ReceiverState) → receiver_at w node ≡ Some r
    → WorldHolds p past accepted w → HoldsAfter p past accepted w (Ticked node now) (moved p w (OfReceiver r (receiver.Ticked now)))
receiver_tick_holds p range past accepted w node now r found h =
    let t : ReceiverState = (receiver_ticked p r now).0 in
    let moved : Moved p w.sender r t = same_moves p w.sender r t (tick_same p r now) in
    go t (receiver_ticked p r now).1 moved (says_nothing_false p w.sender (receiver_ticked p r now).1 (receiver_says_nothing p r now))
  where
    go : (t : ReceiverState) (sent : Option Written) → Moved p w.sender r t → SaidTrue p w.sender sent
        → HoldsAfter p past accepted w (Ticked node now) (with_given r.node sent (with_receiver t w), Sent sent)
    go t None moved says =
        moved_world p range past accepted w (with_given r.node None (with_receiver t w)) (Ticked node now) (Sent None) node r t found
        (moved_node_is p w.sender r t moved) refl refl refl moved (λ other. refl)
        (all_filter (λ (o : ℕ × Written). SaysTrue p w.sender o.1) _ w.given h.given) h
    go t (Some datagram) moved says =
        moved_world p range past accepted w (with_given r.node (Some datagram) (with_receiver t w)) (Ticked node now) (Sent (Some datagram)) node r t found
        (moved_node_is p w.sender r t moved) refl refl refl moved (λ other. refl)
        (all_end (λ (o : ℕ × Written). SaysTrue p w.sender o.1) (given_others r.node w) (r.node, datagram)
        (all_filter (λ (o : ℕ × Written). SaysTrue p w.sender o.1) _ w.given h.given) says) h

tick_holds : (p : Settings) → InRange p → (past : List Happening) (accepted : List Origin) (w : World) (node now : ℕ) → WorldHolds p past accepted w
    → HoldsAfter p past accepted w (Ticked node now) (world_step p w (Ticked node now))
tick_holds p range past accepted w node now h = go (node == p.sender) (receiver_at w node) refl
  where
    go : (own : Bool) (found : Option ReceiverState) → receiver_at w node ≡ found
        → HoldsAfter p past accepted w (Ticked node now) (moved p w (node_move own found (sender.Ticked now) (receiver.Ticked now)))
    go true found e = sender_tick_holds p range past accepted w node now h
    go false None e = nothing_holds p range past accepted w (Ticked node now) Silent (λ other. refl) h
    go false (Some r) e = receiver_tick_holds p range past accepted w node now r e h

-- an element that is found is one of them
pub found_holds : {X : Type 0} (P : X → Type 0) (test : X → Bool) (xs : List X) (x : X) → AllByRecursion P xs → find test xs ≡ Some x → P x
found_holds {X} P test [] x all e = absurd (none x e)
  where
    none : (x : X) → None ≡ Some x → ⊥
    none x e = cc
found_holds {X} P test (y ∷ xs) x all e = go (test y) (λ e. found_holds P test xs x all.1 e) e
  where
    same : (a b : X) → Some a ≡ Some b → a ≡ b
    same a b e = cc

    go : (b : Bool) → (find test xs ≡ Some x → P x) → cond b (Some y) (find test xs) ≡ Some x → P x
    go true more e = subst P (same y x e) all.0
    go false more e = more e

offer_holds : (p : Settings) → InRange p → (past : List Happening) (accepted : List Origin) (w : World) (node : ℕ) (octets : List ℕ)
    → WorldHolds p past accepted w → HoldsAfter p past accepted w (Offered node octets) (world_step p w (Offered node octets))
offer_holds p range past accepted w node octets h = go (find (is_of node octets) w.given) refl
  where
    go : (found : Option (ℕ × Written)) → find (is_of node octets) w.given ≡ found
        → HoldsAfter p past accepted w (Offered node octets) (offers found node w, Silent)
    go None e = nothing_holds p range past accepted w (Offered node octets) Silent (λ other. refl) h
    go (Some o) e =
        quiet_world p range past accepted accepted w (offers (Some o) node w) (Offered node octets) Silent refl h.sender h.once (goes_on_itself (instances w.sender))
        (all_end (λ (o : ℕ × Written). SaysTrue p w.sender o.1) w.offered o h.offered
        (found_holds (λ (o : ℕ × Written). SaysTrue p w.sender o.1) (is_of node octets) w.given o h.given e))
        (all_filter (λ (o : ℕ × Written). SaysTrue p w.sender o.1) _ w.given h.given) (λ other. refl) h

-- a world and the answer after a receiver's next hand-up was asked for
abbrev pub taken_by : World → ReceiverState → Holding × Option Up → World × Answer
taken_by w r step = (with_receiver (record r { holding = step.0 }) w, Took step.1)

taking_holds : (p : Settings) → InRange p → (past : List Happening) (accepted : List Origin) (w : World) (node : ℕ) → WorldHolds p past accepted w
    → HoldsAfter p past accepted w (UpTaken node) (world_step p w (UpTaken node))
taking_holds p range past accepted w node h = go (receiver_at w node) refl
  where
    ups : (r : ReceiverState) → receiver_at w node ≡ Some r → (waiting : List Up) → r.holding.ups ≡ waiting → HoldsAfter p past accepted w (UpTaken node)
        (taken_by w r (elim waiting [ up ∷ more ↦ (record (r.holding) { ups = more }, Some up) | [] ↦ (r.holding, None) ]))
    ups r found [] e = receiver_holds p range past accepted w node r r (UpTaken node) (Took None) found (same_moves p w.sender r r (held_same r)) (λ other. refl) h
    ups r found (up ∷ more) e = taken_world p range past accepted w (with_receiver (behind_up more r) w) node r up more found e refl refl refl refl h

    go : (found : Option ReceiverState) → receiver_at w node ≡ found → HoldsAfter p past accepted w (UpTaken node) (moved p w (receiver_move found receiver.UpTaken))
    go None e = nothing_holds p range past accepted w (UpTaken node) Silent (λ other. refl) h
    go (Some r) e = ups r e r.holding.ups refl

pub event_holds : (p : Settings) → InRange p → (past : List Happening) (accepted : List Origin) (w : World) (e : Event) → MayCome p w accepted e → IsEvent e
    → WorldHolds p past accepted w → HoldsAfter p past accepted w e (world_step p w e)
event_holds p range past accepted w (Commanded by job now) may is h = command_holds p range past accepted w by job now may is h
event_holds p range past accepted w (Delivered node datagram now draw) may is h =
    delivery_holds p range past accepted w node datagram now draw may.datagram
    (all_contains (λ (o : ℕ × Written). SaysTrue p w.sender o.1) w.offered (may.from, may.datagram) h.offered may.offered) may.same may.near h
event_holds p range past accepted w (Ticked node now) may is h = tick_holds p range past accepted w node now h
event_holds p range past accepted w (Offered node datagram) may is h = offer_holds p range past accepted w node datagram h
event_holds p range past accepted w (UpTaken node) may is h = taking_holds p range past accepted w node h
event_holds p range past accepted w NewsAsked may is h =
    let keeps = told_keeps w.sender in
    let wants = wants_step p (blocks_of p range) w.sender sender.NewsAsked h.sender.wants in
    sender_holds p range past accepted w (told w.sender).0 NewsAsked (Told (told w.sender).1) (keeps_steps p w.sender (told w.sender).0 keeps wants h.sender) keeps
    (λ other. refl) h

-- ---- a run

-- the receivers are members
receivers_are_members : (p : Settings) → InRange p → (n : ℕ) → n ≤ p.receivers → AllByRecursion IsMember (receivers_of p n)
receivers_are_members p range zero le = tt
receivers_are_members p range (suc n) le =
    all_end IsMember (receivers_of p n) (p.sender + 1 + n) (receivers_are_members p range n (omega arith))
    (omega arith, omega (arith, range.sender.1, range.receivers.1))

-- no node came to an instance, as a world begins
none_yet : (p : Settings) (nodes : List ℕ) (node : ℕ) → AllByRecursion IsMember nodes → AtNode p (sender_opening p p.instance) [] node (find (λ (r : ReceiverState). r.node == node) (map receiver_opening nodes))
unfolding IsDistinct came_to
none_yet p [] node all = record { came = refl }
none_yet p (n ∷ nodes) node all = go (n == node) refl (none_yet p nodes node all.1)
  where
    go : (b : Bool) → (n == node) ≡ b → AtNode p (sender_opening p p.instance) [] node (find (λ (r : ReceiverState). r.node == node) (map receiver_opening nodes))
        → AtNode p (sender_opening p p.instance) [] node (cond b (Some (receiver_opening n)) (find (λ (r : ReceiverState). r.node == node) (map receiver_opening nodes)))
    go true e more = record { here = (Decides-eqb n node).0 e; member = all.0; sequence = omega arith; came = refl; once = tt; stands = (refl, tt); never = λ id above. refl }
    go false e more = more

none_in : (nodes : List ℕ) (node : ℕ) → instance_of (find (λ (r : ReceiverState). r.node == node) (map receiver_opening nodes)) ≡ None
none_in [] node = refl
none_in (n ∷ nodes) node = go (n == node) (none_in nodes node)
  where
    go : (b : Bool) → instance_of (find (λ (r : ReceiverState). r.node == node) (map receiver_opening nodes)) ≡ None
        → instance_of (cond b (Some (receiver_opening n)) (find (λ (r : ReceiverState). r.node == node) (map receiver_opening nodes))) ≡ None
    go true more = refl
    go false more = more

pub opening_world : (p : Settings) → InRange p → WorldHolds p [] [] (world_opening p)
unfolding IsDistinct
opening_world p range = record {
  sender = opening_holds p range;
  once = record { differ = tt; ids = (tt, tt); low = (omega arith, tt); known = tt; few = omega arith };
  offered = tt;
  given = tt;
  nodes = λ node. none_yet p (receivers_of p p.receivers) node (receivers_are_members p range p.receivers (omega arith));
  through = λ node id. Stops;
  latest = λ node. sym (none_in (receivers_of p p.receivers) node);
}

-- what lawful events leave, from a world on
pub record RunHolds (p : Settings) (past : List Happening) (w : World) (events : List Event) : Type 0 where
  pub accepted : List Origin
  pub holds : WorldHolds p (past ++ happens p w events) accepted (last_world w (happens p w events))

run_holds : (p : Settings) → InRange p → (past : List Happening) (accepted : List Origin) (w : World) (events : List Event) → LawfulFrom p w accepted events
    → AreEvents events → WorldHolds p past accepted w → RunHolds p past w events
unfolding happens last_world
run_holds p range past accepted w [] lawful are h =
    let W : List Happening → Type 0 = λ all. WorldHolds p all accepted w in
    record { accepted = accepted; holds = subst W (sym (append-nil past)) h }
run_holds p range past accepted w (e ∷ events) lawful are h =
    let step = world_step p w e in
    let x : Happening = happening w e step in
    let next = event_holds p range past accepted w e lawful.0 are.0 h in
    let rest = run_holds p range (past ++ x ∷ []) (accepted_with accepted e step.1) step.0 events lawful.1 are.1 next in
    let W : List Happening → Type 0 = λ all. WorldHolds p all rest.accepted (last_world step.0 (happens p step.0 events)) in
    record { accepted = rest.accepted; holds = subst W (append_assoc past (x ∷ []) (happens p step.0 events)) rest.holds }

pub run_of : (p : Settings) → InRange p → (events : List Event) → Lawful p events → AreEvents events
    → RunHolds p [] (world_opening p) events
run_of p range events lawful are = run_holds p range [] [] (world_opening p) events lawful are (opening_world p range)

pub in_order_run : (p : Settings) → InRange p → (events : List Event) → Lawful p events → AreEvents events
    → InOrder p (history p events)
unfolding IsDistinct
in_order_run p range events lawful are = record {
  through = λ node id. run.holds.through node id;
  once = λ node. once node (receiver_at (history p events).now node) (run.holds.nodes node);
}
  where
    run : RunHolds p [] (world_opening p) events
    run = run_of p range events lawful are

    once : (node : ℕ) (found : Option ReceiverState) → AtNode p (history p events).now.sender (history p events).happened node found
        → IsDistinct nat_eq (came_to node None (history p events).happened)
    once node None h = let D : List ℕ → Type 0 = λ xs. IsDistinct nat_eq xs in subst D (sym h.came) tt
    once node (Some r) h = h.once
