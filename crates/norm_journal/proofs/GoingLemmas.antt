-- A run that has no ending yet goes on: at each place some event may come.
use Rattle.std.proofs.Common.{◌≡◌, ℕ, zero, suc, ◌+◌, ◌*◌, ◌<◌, ◌≤◌, cond, List, [], ◌∷◌, ◌++◌, length, Bool, true, false, Option, None, Some, Result, Ok, Err, refl, sym, ap, subst, ◌∙◌, arith, ◌⊎◌, inl, inr}
use Rattle.std.specs.Prelude.{◌==◌, ◌≢◌, map, find, is_none, Contains, option_and_then, ⊤}
use Rattle.std.specs.List.{AllByRecursion}
use Rattle.std.specs.Option.{option_map, option_to_list}
use Rattle.std.proofs.lemmas.Bool.{eqb-true, eq-eqb}
use Rattle.std.proofs.lemmas.List.Elements.{All-nil}
use Rattle.std.proofs.lemmas.Option.{option_and_then_some, same_Some}
use Rattle.norm_base.specs.Contents.{content_of}
use Rattle.norm_base.specs.Members.{receivers_of}
use Rattle.norm_base.specs.Settings.{Settings}
use Rattle.norm_base.specs.declared.node.Origin.{Origin}
use Rattle.norm_ext.specs.Written.{Written}
use Rattle.norm_order.specs.declared.up.Up.{Up}
use Rattle.norm_receive_rules.specs.Holding.{Holding, holding_nothing}
use Rattle.norm_receive_rules.specs.Laws.{HoldsNothingOutside}
use Rattle.norm_receive_rules.specs.ReceiverState.{ReceiverState, receiver_opening}
use Rattle.norm_receive_rules.specs.ReceiverStep as receiver
use Rattle.norm_receive_rules.specs.Ticking.{ticked as receiver_ticked}
use Rattle.norm_receive_rules.proofs.StepLemmas.{step_laws}
use Rattle.norm_script.specs.Commands.{Commands}
use Rattle.norm_script.specs.declared.script.Line.{Line}
use Rattle.norm_script.specs.declared.script.Verb.{Verb}
use Rattle.norm_script.specs.declared.script.Verb.TheVariants as verb
use Rattle.norm_send_rules.specs.Commanding.{commanded}
use Rattle.norm_send_rules.specs.SenderStep as sender
use Rattle.norm_send_rules.specs.Ticking.{ticked as sender_ticked}
use Rattle.norm_send_rules.specs.declared.fault.SendFault.{SendFault}
use Rattle.norm_send_rules.specs.declared.job.Job.{Job}
use Rattle.norm_send_rules.specs.declared.job.Job.TheVariants as job
use Rattle.norm_send_rules.specs.declared.job.Receipt.{Receipt}
use Rattle.norm_send_rules.specs.declared.news.News.{News}
use Rattle.norm_safety.specs.Events.{Event as WorldEvent, Commanded, Delivered, Ticked, Offered, UpTaken, NewsAsked, Gave, Sent as Gives, Took}
use Rattle.norm_safety.specs.Hands.{instance_at}
use Rattle.norm_safety.specs.Lawful.{AllTaken}
use Rattle.norm_safety.specs.World.{World, world_opening, receiver_at, with_receiver, with_given, offers, is_of}
use Rattle.norm_safety.specs.WorldLaws.{nodes_of}
use Rattle.norm_safety.specs.WorldStep.{world_step, moved, OfSender, OfReceiver, node_move, receiver_move, run_from}
use Rattle.norm_safety.proofs.WorldLemmas.{world_laws}
use Rattle.norm_journal.specs.declared.event.Event.{Event}
use Rattle.norm_journal.specs.declared.event.Event.TheVariants as event
use Rattle.norm_journal.specs.Accepting.{accepts, judged_from}
use Rattle.norm_journal.specs.Commands.{telling, repeating}
use Rattle.norm_journal.specs.Draws.{next_draw, draws_after}
use Rattle.norm_journal.specs.Follows.{Follows, SendersTick, ReceiversTick, IsContent, IsLength, IsJobOf, IsMoment, sent_of}
use Rattle.norm_journal.specs.GoingOn.{AreReceivers, GoesOn}
use Rattle.norm_journal.specs.InWorld.{answer_to, world_after}
use Rattle.norm_journal.specs.Jobs.{Told, job_of, may_be_absent, is_read, file_of_length}
use Rattle.norm_journal.specs.Judged.{Judged, judged_opening, news_due, is_done, is_whole}
use Rattle.norm_journal.specs.Places.{Place, Starting, Between, Pulling, Giving, Again, Sending, Offering, Taking, Handing, Over, handing, after_tick, command_due}
use Rattle.norm_journal.specs.Pulling.{origin_of}
use Rattle.norm_journal.specs.SessionRun.{Ending, Whole, Spent, Absent, absent_of, ends_in, ending_of, judged}
use Rattle.norm_journal.specs.Takes.{most_takes, delivered, is_receiver}
use Rattle.norm_journal.specs.WorldEvents.{world_event, world_events}
use Rattle.norm_journal.proofs.FollowLemmas.{judges_what_follows}
use Rattle.norm_journal.proofs.LengthLemmas.{files_by_length}
use Rattle.norm_journal.proofs.WorldLemmas.{event_moves}

clash : false ≡ true → ⊥
clash e = cc

-- ---- the receivers of a world

-- outside of instances no receiver holds anything
abbrev HoldsOutside : World → Type 0
HoldsOutside w = AllByRecursion HoldsNothingOutside w.receivers

found_holds : {X : Type 0} (P : X → Type 0) (test : X → Bool) (xs : List X) (x : X) → AllByRecursion P xs → find test xs ≡ Some x → P x
found_holds {X} P test [] x all e = absurd (none x e)
  where
    none : (x : X) → None ≡ Some x → ⊥
    none x e = cc
found_holds {X} P test (y ∷ xs) x all e = go (test y) (λ e. found_holds P test xs x all.1 e) e
  where
    go : (b : Bool) → (find test xs ≡ Some x → P x) → cond b (Some y) (find test xs) ≡ Some x → P x
    go true more e = subst P (same_Some y x e) all.0
    go false more e = more e

put_holds : (t : ReceiverState) (rs : List ReceiverState) → HoldsNothingOutside t → AllByRecursion HoldsNothingOutside rs
    → AllByRecursion HoldsNothingOutside (map (λ (x : ReceiverState). elim (x.node == t.node) as (λ _. ReceiverState) [ true ↦ t | false ↦ x ]) rs)
put_holds t [] own all = tt
put_holds t (x ∷ rs) own all = (go (x.node == t.node), put_holds t rs own all.1)
  where
    go : (b : Bool) → HoldsNothingOutside (elim b as (λ _. ReceiverState) [ true ↦ t | false ↦ x ])
    go true = own
    go false = all.0

-- a receiver's step, and what it gave to the network
stepped_holds : (p : Settings) (w : World) (node : ℕ) (own : receiver.ReceiverEvent) (found : Option ReceiverState) → receiver_at w node ≡ found → HoldsOutside w
    → HoldsOutside (moved p w (receiver_move found own)).0
stepped_holds p w node own None e h = h
stepped_holds p w node own (Some r) e h =
    go own (step_laws.goes_on p r own (found_holds HoldsNothingOutside (λ (x : ReceiverState). x.node == node) w.receivers r h e))
  where
    given : (sent : Option Written) (t : ReceiverState) → HoldsNothingOutside t → HoldsOutside (with_given r.node sent (with_receiver t w))
    given None t keeps = put_holds t w.receivers keeps h
    given (Some datagram) t keeps = put_holds t w.receivers keeps h

    go : (own : receiver.ReceiverEvent) → HoldsNothingOutside (receiver.receiver_step p r own).0 → HoldsOutside (moved p w (OfReceiver r own)).0
    go (receiver.Delivered octets now draw) keeps = put_holds _ w.receivers keeps h
    go (receiver.Ticked now) keeps = given (receiver_ticked p r now).1 (receiver_ticked p r now).0 keeps
    go receiver.UpTaken keeps = put_holds _ w.receivers keeps h

event_holds : (p : Settings) (w : World) (e : WorldEvent) → HoldsOutside w → HoldsOutside (world_step p w e).0
event_holds p w (Commanded by job now) h = h
event_holds p w (Delivered node octets now draw) h = go (node == p.sender)
  where
    go : (own : Bool) → HoldsOutside (moved p w (node_move own (receiver_at w node) (sender.Delivered octets now) (receiver.Delivered octets now draw))).0
    go true = h
    go false = stepped_holds p w node (receiver.Delivered octets now draw) (receiver_at w node) refl h
event_holds p w (Ticked node now) h = go (node == p.sender)
  where
    given : (sent : Option Written) (v : World) → HoldsOutside v → HoldsOutside (with_given p.sender sent v)
    given None v keeps = keeps
    given (Some datagram) v keeps = keeps

    go : (own : Bool) → HoldsOutside (moved p w (node_move own (receiver_at w node) (sender.Ticked now) (receiver.Ticked now))).0
    go true = given (sender_ticked p w.sender now).1 (record w { sender = (sender_ticked p w.sender now).0 }) h
    go false = stepped_holds p w node (receiver.Ticked now) (receiver_at w node) refl h
event_holds p w (Offered node octets) h = go (find (is_of node octets) w.given)
  where
    go : (found : Option (ℕ × Written)) → HoldsOutside (offers found node w)
    go None = h
    go (Some o) = h
event_holds p w (UpTaken node) h = stepped_holds p w node receiver.UpTaken (receiver_at w node) refl h
event_holds p w NewsAsked h = h

-- what holds of a world in a run: which receivers there are, and that they hold nothing outside of instances
record WorldKept (p : Settings) (w : World) : Type 0 where
  nodes : nodes_of w ≡ receivers_of p p.receivers
  outside : HoldsOutside w

events_keep : (p : Settings) (w : World) (o : Option WorldEvent) → WorldKept p w → WorldKept p (run_from p w (option_to_list o))
events_keep p w None h = h
events_keep p w (Some e) h = record { nodes = world_laws.stays p w e ∙ h.nodes; outside = event_holds p w e h.outside }

opening_keeps : (p : Settings) → WorldKept p (world_opening p)
opening_keeps p = record { nodes = world_laws.nodes p []; outside = each (receivers_of p p.receivers) }
  where
    each : (nodes : List ℕ) → AllByRecursion HoldsNothingOutside (map receiver_opening nodes)
    each [] = tt
    each (node ∷ nodes) = (λ out. refl, each nodes)

-- a node that the world has is found
there_is : (rs : List ReceiverState) (node : ℕ) → Contains (map (λ (r : ReceiverState). r.node) rs) node
    → (r : ReceiverState) × (find (λ (r : ReceiverState). r.node == node) rs ≡ Some r)
there_is [] node has = absurd (omega (arith, has.1))
there_is (x ∷ rs) node (zero, lt, is) = (x, ap (λ (b : Bool). cond b (Some x) (find (λ (r : ReceiverState). r.node == node) rs)) (eq-eqb x.node node is))
there_is (x ∷ rs) node (suc k, lt, is) = go (x.node == node) (there_is rs node (k, omega (arith, lt), is))
  where
    go : (b : Bool) → (r : ReceiverState) × (find (λ (r : ReceiverState). r.node == node) rs ≡ Some r)
        → (r : ReceiverState) × (cond b (Some x) (find (λ (r : ReceiverState). r.node == node) rs) ≡ Some r)
    go true more = (x, refl)
    go false more = more

receivers_above : (p : Settings) (n : ℕ) → AllByRecursion (λ node. p.sender < node) (receivers_of p n)
receivers_above p zero = tt
receivers_above p (suc n) = all_end (receivers_of p n) (receivers_above p n)
  where
    all_end : (nodes : List ℕ) → AllByRecursion (λ node. p.sender < node) nodes → AllByRecursion (λ node. p.sender < node) (nodes ++ (p.sender + 1 + n) ∷ [])
    all_end [] all = (omega arith, tt)
    all_end (node ∷ nodes) all = (all.0, all_end nodes all.1)

not_same : (a b : ℕ) → (a ≡ b → ⊥) → (a == b) ≡ false
not_same a b h = go (a == b) refl
  where
    go : (t : Bool) → (a == b) ≡ t → t ≡ false
    go true e = absurd (h (eqb-true a b e))
    go false e = refl

none_below : (rs : List ReceiverState) (node : ℕ) → AllByRecursion (λ n. node < n) (map (λ (r : ReceiverState). r.node) rs)
    → find (λ (r : ReceiverState). r.node == node) rs ≡ None
none_below [] node all = refl
none_below (x ∷ rs) node all =
    let lt = all.0 in
    ap (λ (b : Bool). cond b (Some x) (find (λ (r : ReceiverState). r.node == node) rs)) (not_same x.node node (λ e. omega (arith, lt, e)))
    ∙ none_below rs node all.1

all_contains : (P : ℕ → Type 0) (xs : List ℕ) (x : ℕ) → AllByRecursion P xs → Contains xs x → P x
all_contains P [] x all has = absurd (omega (arith, has.1))
all_contains P (y ∷ xs) x all (zero, lt, is) = subst P is all.0
all_contains P (y ∷ xs) x all (suc k, lt, is) = all_contains P xs x all.1 (k, omega (arith, lt), is)

-- ---- the places of a run

-- a pull has a line; and whose part of a turn it is, and who comes after it, are receivers
abbrev IsPlace : Settings → List Line → Place → Type 0
IsPlace p left Pulling = left ≡ [] → ⊥
IsPlace p left (Handing node nodes) = AreReceivers p (node ∷ nodes)
IsPlace p left (Offering node octets next) = IsPlace p left next
IsPlace p left _ = ⊤

handing_is : (p : Settings) (left : List Line) (nodes : List ℕ) → AreReceivers p nodes → IsPlace p left (handing nodes)
handing_is p left [] are = tt
handing_is p left (node ∷ nodes) are = are

after_tick_is : (p : Settings) (left : List Line) (node : ℕ) (sent : Option Written) (next : Place) → IsPlace p left next → IsPlace p left (after_tick node sent next)
after_tick_is p left node None next is = is
after_tick_is p left node (Some datagram) next is = is

due_is : (p : Settings) (waiting : Option Line) (left : List Line) → IsPlace p left (command_due waiting left)
due_is p (Some line) left = tt
due_is p None [] = tt
due_is p None (line ∷ left) = some
  where
    some : line ∷ left ≡ [] → ⊥
    some e = cc

-- what holds of a state in a run with these receivers
record Kept (p : Settings) (nodes : List ℕ) (j : Judged) : Type 0 where
  profile : p ≡ j.profile
  world : WorldKept p j.world
  has : j.nodes ≡ nodes
  place : IsPlace p j.left j.place

record Stays (p : Settings) (nodes : List ℕ) (next : Judged) : Type 0 where
  has : next.nodes ≡ nodes
  place : IsPlace p next.left next.place

same_stays : (p : Settings) (nodes : List ℕ) (next t : Judged) → next ≡ t → Stays p nodes t → Stays p nodes next
same_stays p nodes next t e h = subst (λ x. Stays p nodes x) (sym e) h

delivered_left : (to : ℕ) (octets : List ℕ) (j : Judged) → ((delivered to octets j).nodes ≡ j.nodes) × ((delivered to octets j).left ≡ j.left)
delivered_left to octets j = go (to == j.profile.sender) (is_receiver j to)
  where
    by : Bool → Bool → Judged
    by own receives = elim own [
      | true ↦ world_after (Delivered to octets j.now 0) j
      | false ↦ elim receives [
        | true ↦ record (world_after (Delivered to octets j.now (next_draw j.draws)) j) { draws = draws_after j.draws }
        | false ↦ j
      ]
    ]

    go : (own receives : Bool) → ((by own receives).nodes ≡ j.nodes) × ((by own receives).left ≡ j.left)
    go true receives = (refl, refl)
    go false true = (refl, refl)
    go false false = (refl, refl)

-- a place that a tick leads to
tick_is : (p : Settings) (nodes : List ℕ) (j : Judged) (node : ℕ) (after : Place) → Kept p nodes j → SendersTick j node after ⊎ ReceiversTick j node after
    → IsPlace p j.left after
tick_is p nodes j node after h (inl due) = subst (IsPlace p j.left) (sym due.after_is) tt
tick_is p nodes j node after h (inr due) =
    let are = subst (IsPlace p j.left) due.place h.place in subst (IsPlace p j.left) (sym due.after_is) (handing_is p j.left due.nodes are.1)

event_stays : (p : Settings) (nodes : List ℕ) (j next : Judged) (e : Event) → AreReceivers p nodes → Kept p nodes j → Follows j e next → Stays p nodes next
event_stays p nodes j next event.Start are h f = same_stays p nodes next _ f.1.then (record { has = h.has; place = tt })
event_stays p nodes j next (event.Turn turn now) are h f =
    same_stays p nodes next _ f.1.then (record { has = h.has; place = due_is p j.waiting j.left })
event_stays p nodes j next (event.Pull by) are h f = same_stays p nodes next _ f.1.then (record { has = h.has; place = tt })
event_stays p nodes j next (event.Job by job gave) are h f = same_stays p nodes next _ f.1.then (record { has = h.has; place = tt })
event_stays p nodes j next (event.Length by name len fault) are h f = same_stays p nodes next _ f.1.then (record { has = h.has; place = tt })
event_stays p nodes j next (event.Tick node sent) are h f =
    same_stays p nodes next _ f.1.then
    (record { has = h.has; place = after_tick_is p j.left node f.1.datagram f.1.after (tick_is p nodes j node f.1.after h f.1.due) })
event_stays p nodes j next (event.Offer from octets) are h f =
    same_stays p nodes next _ f.1.then (record { has = h.has; place = subst (IsPlace p j.left) f.1.place h.place })
event_stays p nodes j next (event.Took to octets) are h f =
    same_stays p nodes next _ f.1.then (record { has = (delivered_left to octets j).0 ∙ h.has; place = go (f.1.count + 1 == most_takes) })
  where
    go : (b : Bool) → IsPlace p (delivered to octets j).left (elim b [ true ↦ handing j.nodes | false ↦ Taking (f.1.count + 1) ])
    go true = handing_is p (delivered to octets j).left j.nodes (subst (AreReceivers p) (sym h.has) are)
    go false = tt
event_stays p nodes j next event.Empty are h f =
    same_stays p nodes next _ f.1.then (record { has = h.has; place = handing_is p j.left j.nodes (subst (AreReceivers p) (sym h.has) are) })
event_stays p nodes j next (event.Up node instance up) are h f = same_stays p nodes next _ f.1.then (record { has = h.has; place = h.place })
event_stays p nodes j next (event.News news) are h f = same_stays p nodes next _ f.then (record { has = h.has; place = h.place })
event_stays p nodes j next event.End are h f = same_stays p nodes next _ f.1.then (record { has = h.has; place = tt })

event_keeps : (p : Settings) (nodes : List ℕ) (j next : Judged) (e : Event) → AreReceivers p nodes → Kept p nodes j → accepts j e ≡ Some next → Kept p nodes next
event_keeps p nodes j next e are h is =
    let stays = event_stays p nodes j next e are h ((judges_what_follows j next e).0 is) in
    let moves = event_moves j e next is in
    let own = events_keep j.profile j.world (world_event j e) (subst (λ q. WorldKept q j.world) h.profile h.world) in
    record {
      profile = h.profile ∙ moves.0;
      world = subst (WorldKept p) moves.1 (subst (λ q. WorldKept q (run_from j.profile j.world (option_to_list (world_event j e)))) (sym h.profile) own);
      has = stays.has;
      place = stays.place;
    }

kept_from : (p : Settings) (nodes : List ℕ) (events : List Event) (j last : Judged) → AreReceivers p nodes → Kept p nodes j → judged_from j events ≡ Some last
    → Kept p nodes last
unfolding judged_from
kept_from p nodes [] j last are h is = subst (Kept p nodes) (same_Some j last is) h
kept_from p nodes (e ∷ events) j last are h is =
    option_and_then_some (λ next. judged_from next events) (accepts j e) last is
    (λ next comes more. kept_from p nodes events next last are (event_keeps p nodes j next e are h comes) more)

-- ---- what may come

-- some event may come
abbrev Goes : Judged → Type 0
Goes j = (e : Event) × (next : Judged) × (accepts j e ≡ Some next)

goes : (j next : Judged) (e : Event) → Follows j e next → Goes j
goes j next e follows = (e, next, (judges_what_follows j next e).1 follows)

-- a job that is told of a verb
told_job : (files : Told) (v : Verb) (its : Job) (gave : Result Receipt SendFault) → job_of v ≡ Some its → IsJobOf files v its × (is_read its gave ≡ true)
told_job files (verb.Data info octets) its gave e = subst (λ x. IsJobOf files (verb.Data info octets) x × (is_read x gave ≡ true)) (same_Some _ its e) ((refl, refl), refl)
told_job files (verb.File name) its gave e = absurd (none its e)
  where
    none : (x : Job) → None ≡ Some x → ⊥
    none x e = cc
told_job files verb.Open its gave e = subst (λ x. IsJobOf files verb.Open x × (is_read x gave ≡ true)) (same_Some _ its e) (tt, refl)
told_job files (verb.Write octets) its gave e = subst (λ x. IsJobOf files (verb.Write octets) x × (is_read x gave ≡ true)) (same_Some _ its e) (refl, refl)
told_job files verb.Close its gave e = subst (λ x. IsJobOf files verb.Close x × (is_read x gave ≡ true)) (same_Some _ its e) (tt, refl)
told_job files (verb.Mark quorum) its gave e = subst (λ x. IsJobOf files (verb.Mark quorum) x × (is_read x gave ≡ true)) (same_Some _ its e) (refl, refl)
told_job files (verb.Restart instance) its gave e =
    subst (λ x. IsJobOf files (verb.Restart instance) x × (is_read x gave ≡ true)) (same_Some _ its e) (refl, refl)
told_job files (verb.Strike node) its gave e = subst (λ x. IsJobOf files (verb.Strike node) x × (is_read x gave ≡ true)) (same_Some _ its e) (refl, refl)

-- the first offer of a command that has its octets with it
offers_first : (j : Judged) (line : Line) (its : Job) → news_due j ≡ None → j.place ≡ Giving line → job_of line.verb ≡ Some its → Goes j
offers_first j line its quiet place is =
    let gave = (commanded j.profile j.world.sender (origin_of line) its).1 in
    let told = told_job j.files line.verb its gave is in
    goes j _ (event.Job (origin_of line) (Some its) gave) (
      quiet,
      record {
        line = line;
        job = its;
        named = refl;
        due = inl (record { place = ap telling place; told_is = refl; its_job = told.0; read = told.1 });
        gives = refl;
        then = refl;
      },
    )

-- another offer of it
offers_again : (j : Judged) (line : Line) (its : Job) → news_due j ≡ None → j.place ≡ Again line → job_of line.verb ≡ Some its → Goes j
offers_again j line its quiet place is =
    let gave = (commanded j.profile j.world.sender (origin_of line) its).1 in
    goes j _ (event.Job (origin_of line) None gave) (
      quiet,
      record {
        line = line;
        job = its;
        named = refl;
        due = inr (record { place = ap repeating place ∙ ap (option_map (λ x. (line, x))) is; told_is = refl });
        gives = refl;
        then = refl;
      },
    )

-- an offer of a file that is there
offers_file : (j : Judged) (line : Line) (name octets : List ℕ) → news_due j ≡ None → telling j.place ≡ Some line → line.verb ≡ verb.File name
    → IsContent j.files name octets → IsLength j.files name (length octets) → Goes j
offers_file j line name octets quiet place is content len = go (commanded j.profile j.world.sender by (job.File name octets)).1 refl
  where
    by : Origin
    by = origin_of line

    go : (gave : Result Receipt SendFault) → (commanded j.profile j.world.sender by (job.File name octets)).1 ≡ gave → Goes j
    go (Ok receipt) gives = goes j _ (event.Job by (Some (job.File name octets)) (Ok receipt)) (
      quiet,
      record {
        line = line;
        job = job.File name octets;
        named = refl;
        due = inl (record {
          place = place;
          told_is = refl;
          its_job = subst (λ v. IsJobOf j.files v (job.File name octets)) (sym is) (refl, content);
          read = refl;
        });
        gives = ap (λ r. Gave r) gives;
        then = refl;
      },
    )
    go (Err fault) gives = goes j _ (event.Length by name (length octets) fault) (
      quiet,
      record {
        line = line;
        place = place;
        named = refl;
        its_name = is;
        its_length = len;
        gives = ap (λ r. Gave r) (sym (files_by_length j.profile j.world.sender by name octets) ∙ gives);
        then = refl;
      },
    )

-- a command whose octets stand elsewhere is a file's
only_file : (v : Verb) → job_of v ≡ None → (name : List ℕ) × (v ≡ verb.File name)
only_file (verb.File name) e = (name, refl)
only_file (verb.Data info octets) e = absurd (cc)
only_file verb.Open e = absurd (cc)
only_file (verb.Write octets) e = absurd (cc)
only_file verb.Close e = absurd (cc)
only_file (verb.Mark quorum) e = absurd (cc)
only_file (verb.Restart instance) e = absurd (cc)
only_file (verb.Strike node) e = absurd (cc)

-- a file that is not absent has octets
there : (files : Told) (name : List ℕ) → absent_of files (verb.File name) ≡ None → (octets : List ℕ) × IsContent files name octets × IsLength files name (length octets)
there None name e = absurd (cc)
there (Some files) name e = go (content_of files name) refl e
  where
    go : (found : Option (List ℕ)) → content_of files name ≡ found
        → ◌≡◌ {A = Option Ending} (elim (is_none found) [ true ↦ Some (Absent name) | false ↦ None ]) None
        → (octets : List ℕ) × (content_of files name ≡ Some octets) × (option_map length (content_of files name) ≡ Some (length octets))
    go None is e = absurd (cc)
    go (Some octets) is e = (octets, is, ap (option_map length) is)

-- a command that is told, or read from its file
commands_go : (j : Judged) (line : Line) → news_due j ≡ None → ((its : Job) → job_of line.verb ≡ Some its → Goes j) → (job_of line.verb ≡ None → telling j.place ≡ Some line)
    → absent_of j.files line.verb ≡ None → Goes j
commands_go j line quiet told files none = go (job_of line.verb) refl
  where
    go : (found : Option Job) → job_of line.verb ≡ found → Goes j
    go (Some its) e = told its e
    go None e =
        let file = only_file line.verb e in
        let its = there j.files file.0 (ap (absent_of j.files) (sym file.1) ∙ none) in
        offers_file j line file.0 its.0 quiet (files e) file.1 its.1 its.2

-- a turn's moment
moment_of : (j : Judged) (turn : ℕ) → (now : ℕ) × IsMoment j turn now
moment_of j turn = go (j.profile.step == 0) refl
  where
    go : (b : Bool) → (j.profile.step == 0) ≡ b → (now : ℕ) × IsMoment j turn now
    go true e = (j.now, record { stepped = λ other. absurd (other (eqb-true j.profile.step 0 e)); clocked = λ is. omega arith })
    go false e = (turn * j.profile.step, record { stepped = λ other. refl; clocked = λ is. absurd (clash (sym e ∙ eq-eqb j.profile.step 0 is)) })

-- between two turns the next one begins, or the summary comes
turns_go : (j : Judged) → news_due j ≡ None → j.place ≡ Between → Goes j
turns_go j quiet place = go (is_done j) refl
  where
    go : (b : Bool) → is_done j ≡ b → Goes j
    go true e = goes j _ event.End (quiet, record { place = place; done = e; then = refl })
    go false e =
        let its = moment_of j (j.turn + 1) in
        goes j _ (event.Turn (j.turn + 1) its.0) (quiet, record { place = place; number = refl; moment = its.1; more = e; then = refl })

pulls_go : (j : Judged) → news_due j ≡ None → j.place ≡ Pulling → (j.left ≡ [] → ⊥) → Goes j
pulls_go j quiet place some = go j.left refl
  where
    go : (left : List Line) → j.left ≡ left → Goes j
    go [] e = absurd (some e)
    go (line ∷ rest) e = goes j _ (event.Pull (origin_of line)) (
      quiet,
      record {
        place = place;
        line = line;
        rest = rest;
        is_first = record { named = refl; before = []; behind = rest; its_place = e; rest_is = refl; first = All-nil (λ (l : Line). l.producer ≢ line.producer) };
        then = refl;
      },
    )

sender_ticks : (p : Settings) (nodes : List ℕ) (j : Judged) → Kept p nodes j → news_due j ≡ None → j.place ≡ Sending → Goes j
sender_ticks p nodes j h quiet place = goes j _ (event.Tick j.profile.sender (sent_of sent)) (
  quiet,
  record {
    after = Taking 0;
    due = inl (record { place = place; node_is = refl; after_is = refl });
    taken = subst AllTaken (sym none) tt;
    datagram = sent;
    gives = ap (λ own. (moved j.profile j.world (node_move own (receiver_at j.world j.profile.sender) (sender.Ticked j.now) (receiver.Ticked j.now))).1)
        (eq-eqb j.profile.sender j.profile.sender refl);
    said_is = refl;
    then = refl;
  },
)
  where
    sent : Option Written
    sent = (sender_ticked j.profile j.world.sender j.now).1

    above : AllByRecursion (λ n. j.profile.sender < n) (nodes_of j.world)
    above = subst (AllByRecursion (λ n. j.profile.sender < n)) (sym (h.world.nodes ∙ ap (λ q. receivers_of q q.receivers) h.profile)) (receivers_above j.profile j.profile.receivers)

    none : receiver_at j.world j.profile.sender ≡ None
    none = none_below j.world.receivers j.profile.sender above

receiver_goes : (p : Settings) (nodes : List ℕ) (j : Judged) (node : ℕ) (rest : List ℕ) → Kept p nodes j → news_due j ≡ None → j.place ≡ Handing node rest → Goes j
receiver_goes p nodes j node rest h quiet place = go found.0.holding.ups refl
  where
    are : AreReceivers p (node ∷ rest)
    are = subst (IsPlace p j.left) place h.place

    found : (r : ReceiverState) × (receiver_at j.world node ≡ Some r)
    found = there_is j.world.receivers node (subst (λ xs. Contains xs node) (sym h.world.nodes) are.0)

    above : j.profile.sender < node
    above = all_contains (λ n. j.profile.sender < n) (receivers_of j.profile j.profile.receivers) node (receivers_above j.profile j.profile.receivers)
        (subst (λ q. Contains (receivers_of q q.receivers) node) h.profile are.0)

    apart : (node == j.profile.sender) ≡ false
    apart = not_same node j.profile.sender (λ e. (let lt = above in omega (arith, lt, e)))

    outside : HoldsNothingOutside found.0
    outside = found_holds HoldsNothingOutside (λ (x : ReceiverState). x.node == node) j.world.receivers found.0 h.world.outside found.1

    sent : Option Written
    sent = (receiver_ticked j.profile found.0 j.now).1

    taken : found.0.holding.ups ≡ [] → AllTaken (receiver_at j.world node)
    taken e = subst AllTaken (sym found.1) e

    ticks : answer_to (Ticked node j.now) j ≡ Gives sent
    ticks =
        ap (λ own. (moved j.profile j.world (node_move own (receiver_at j.world node) (sender.Ticked j.now) (receiver.Ticked j.now))).1) apart
        ∙ ap (λ o. (moved j.profile j.world (receiver_move o (receiver.Ticked j.now))).1) found.1

    within : (instance : Option ℕ) → found.0.instance ≡ instance → (found.0.holding.ups ≡ [] → ⊥) → (id : ℕ) × (instance_at j.world node ≡ Some id)
    within None e some = absurd (some (ap (λ (s : Holding). s.ups) (outside e)))
    within (Some id) e some = (id, ap (λ (o : Option ReceiverState). elim o [ Some r ↦ r.instance | None ↦ None ]) found.1 ∙ e)

    go : (ups : List Up) → found.0.holding.ups ≡ ups → Goes j
    go [] e = goes j _ (event.Tick node (sent_of sent)) (
      quiet,
      record {
        after = handing rest;
        due = inr (record { nodes = rest; place = place; after_is = refl });
        taken = taken e;
        datagram = sent;
        gives = ticks;
        said_is = refl;
        then = refl;
      },
    )
    go (up ∷ ups) e =
        let its = within found.0.instance refl (λ none. not_empty up ups (sym e ∙ none)) in
        goes j _ (event.Up node its.0 up) (
          quiet,
          record {
            nodes = rest;
            place = place;
            within = its.1;
            gives = ap (λ o. (moved j.profile j.world (receiver_move o receiver.UpTaken)).1) found.1
                ∙ ap (λ xs. Took (elim xs as (λ _. Holding × Option Up) [
                  | x ∷ more ↦ (record (found.0.holding) { ups = more }, Some x)
                  | [] ↦ (found.0.holding, None)
                ]).1) e;
            then = refl;
          },
        )
      where
        not_empty : (x : Up) (xs : List Up) → x ∷ xs ≡ [] → ⊥
        not_empty x xs e = cc

place_goes : (p : Settings) (nodes : List ℕ) (j : Judged) → Kept p nodes j → news_due j ≡ None → (place : Place) → j.place ≡ place → ends_in place j ≡ None → Goes j
place_goes p nodes j h quiet Starting is none = goes j _ event.Start (quiet, record { place = is; then = refl })
place_goes p nodes j h quiet Between is none = turns_go j quiet is
place_goes p nodes j h quiet Pulling is none = pulls_go j quiet is (subst (IsPlace p j.left) is h.place)
place_goes p nodes j h quiet (Giving line) is none =
    commands_go j line quiet (λ its e. offers_first j line its quiet is e) (λ e. ap telling is) none
place_goes p nodes j h quiet (Again line) is none =
    commands_go j line quiet (λ its e. offers_again j line its quiet is e)
    (λ e. ap telling is ∙ ap (λ (o : Option Job). elim o as (λ _. Option Line) [ Some known ↦ None | None ↦ Some line ]) e) none
place_goes p nodes j h quiet Sending is none = sender_ticks p nodes j h quiet is
place_goes p nodes j h quiet (Offering node octets next) is none =
    goes j _ (event.Offer node octets) (quiet, record { after = next; place = is; then = refl })
place_goes p nodes j h quiet (Taking count) is none = goes j _ event.Empty (quiet, record { count = count; place = is; then = refl })
place_goes p nodes j h quiet (Handing node rest) is none = receiver_goes p nodes j node rest h quiet is
place_goes p nodes j h quiet Over is none = go (is_whole j) none
  where
    go : (b : Bool) → ◌≡◌ {A = Option Ending} (elim b [ true ↦ Some Whole | false ↦ Some Spent ]) None → Goes j
    go true e = absurd (cc)
    go false e = absurd (cc)

pub goes_on : GoesOn
goes_on script files nodes events last are is none = go (news_due last) refl
  where
    kept : Kept script.profile nodes last
    kept = kept_from script.profile nodes events (judged_opening script files nodes) last are
        (record { profile = refl; world = opening_keeps script.profile; has = refl; place = tt }) is

    go : (due : Option News) → news_due last ≡ due → Goes last
    go (Some news) e = goes last _ (event.News news) (record { due = e; then = refl })
    go None e = place_goes script.profile nodes last kept e last.place refl none
