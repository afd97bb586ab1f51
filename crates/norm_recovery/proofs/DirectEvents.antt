-- Each event of a session over a direct network leads to what is kept at the next place, and the sender ticks only after all was passed on.
use Rattle.std.proofs.Common.{◌≡◌, ℕ, ◌+◌, ◌≤◌, List, [], ◌∷◌, length, map, Bool, true, false, Option, None, Some, refl, sym, ap, subst, ◌∙◌, arith, inl, inr}
use Rattle.std.specs.Prelude.{◌==◌, ◌⊎◌, slice_get, ⊤}
use Rattle.std.specs.List.{AllByRecursion}
use Rattle.std.specs.Option.{option_map, option_to_list}
use Rattle.std.proofs.lemmas.Option.{none-some, same_Some}
use Rattle.norm_base.specs.Members.{receivers_of}
use Rattle.norm_base.specs.Settings.{Settings, InRange}
use Rattle.norm_base.specs.declared.node.Origin.{Origin}
use Rattle.norm_ext.specs.Written.{Written}
use Rattle.norm_receive_rules.specs.ReceiverState.{ReceiverState}
use Rattle.norm_safety.specs.Events.{Event as WorldEvent, Commanded, Delivered, Ticked, Offered, UpTaken, NewsAsked, Answer, Gave, Sent as Gives, Took, Told, Silent}
use Rattle.norm_safety.specs.History.{Happening}
use Rattle.norm_safety.specs.InTime.{FewObjects}
use Rattle.norm_safety.specs.Lawful.{AllTaken, LawfulDelivery, MayCome}
use Rattle.norm_safety.specs.World.{World, receiver_at}
use Rattle.norm_safety.specs.WorldLaws.{nodes_of}
use Rattle.norm_safety.specs.WorldStep.{world_step, run_from}
use Rattle.norm_safety.proofs.EntryLemmas.{clash}
use Rattle.norm_safety.proofs.WorldHolds.{WorldHolds}
use Rattle.norm_safety.proofs.WorldLemmas.{world_laws}
use Rattle.norm_laws.specs.HandedUp.{Passing, is_delivery_of, passing_after, has_heard, is_passed_on, is_sender_tick}
use Rattle.norm_journal.specs.declared.event.Event.{Event}
use Rattle.norm_journal.specs.declared.event.Event.TheVariants as event
use Rattle.norm_journal.specs.Accepting.{accepts}
use Rattle.norm_journal.specs.Direct.{IsDirect, taken_with}
use Rattle.norm_journal.specs.Draws.{next_draw}
use Rattle.norm_journal.specs.Follows.{Follows, SendersTick, ReceiversTick}
use Rattle.norm_journal.specs.Jobs.{file_of_length}
use Rattle.norm_journal.specs.Judged.{Judged}
use Rattle.norm_journal.specs.Places.{Place, Starting, Between, Pulling, Giving, Again, Sending, Offering, Taking, Handing, Over, handing, after_tick}
use Rattle.norm_journal.specs.Takes.{is_receiver}
use Rattle.norm_journal.specs.WorldEvents.{job_at, delivery, world_event}
use Rattle.norm_journal.proofs.WorldLemmas.{event_moves}
use Rattle.norm_send_rules.specs.declared.job.Job.{Job}
use Rattle.norm_recovery.specs.SteadyPasses.{IsBeforeTick}
use Rattle.norm_recovery.proofs.DirectTakes.{copies, is_one, is_first, spent, Waits, all_in, another_take, due_more, none_due, most_members}
use Rattle.norm_recovery.proofs.DirectComes.{delivers}
use Rattle.norm_recovery.proofs.DirectKept.{Hears, Rests, Rested, AtPlace, all_as, no_sender, tick_receivers, up_receivers, rested_passed, sender_tick_at, heard_by, last_by, heard_more, heard_own, take_hears, rested_still, at_handing, after_ticks, at_due, told_rested, job_rested, at_still, offer_leads}

-- ---- each event of a journal

-- what is passed on after an event of the world, if it is one
abbrev pub passed_by : Settings → World → Passing → Option WorldEvent → Passing
passed_by p w x o = elim o [ Some e ↦ passing_after p w x e (world_step p w e).1 | None ↦ x ]

-- a receiver's tick passes nothing on
other_passes : (p : Settings) (w : World) (x : Passing) (node now : ℕ) (answer : Answer) → (node == p.sender) ≡ false → passing_after p w x (Ticked node now) answer ≡ x
other_passes p w x node now (Gives sent) e = ap (λ (b : Bool). elim b as (λ _. Passing) [ true ↦ record { last = sent; heard = [] } | false ↦ x ]) e
other_passes p w x node now (Gave result) e = refl
other_passes p w x node now (Took up) e = refl
other_passes p w x node now (Told news) e = refl
other_passes p w x node now Silent e = refl

-- what a step needs beside what is kept at the place
pub record Stands (p : Settings) (past : List Happening) (accepted : List Origin) (taken : ℕ) (j : Judged) : Type 0 where
  pub range : InRange p
  pub profile : j.profile ≡ p
  pub waits : Waits p taken j
  pub holds : WorldHolds p past accepted j.world
  pub few : FewObjects j.world.sender
  pub nodes : nodes_of j.world ≡ receivers_of p p.receivers

abbrev pub MayBe : Settings → World → List Origin → Option WorldEvent → Type 0
MayBe p w accepted None = ⊤
MayBe p w accepted (Some e) = MayCome p w accepted e

tick_leads : (p : Settings) (past : List Happening) (accepted : List Origin) (taken : ℕ) (j : Judged) (x : Passing) (node : ℕ) (after : Place) (o : Option Written)
    → Stands p past accepted taken j → SendersTick j node after ⊎ ReceiversTick j node after → AllTaken (receiver_at j.world node)
    → (world_step p j.world (Ticked node j.now)).1 ≡ Gives o → AtPlace p taken j.world x j.place
    → AtPlace p taken (world_step p j.world (Ticked node j.now)).0 (passing_after p j.world x (Ticked node j.now) (world_step p j.world (Ticked node j.now)).1) (after_tick node o after)
tick_leads p past accepted taken j x node after o s (inl due) rests gives h =
    let A : Place → Type 0 = λ q. AtPlace p taken (world_step p j.world (Ticked node j.now)).0
    (passing_after p j.world x (Ticked node j.now) (world_step p j.world (Ticked node j.now)).1) (after_tick node o q) in
    subst A (sym due.after_is) (sender_tick_at p s.range past accepted j.world x node j.now taken o s.holds (due.node_is ∙ ap (λ (q : Settings). q.sender) s.profile) gives)
tick_leads p past accepted taken j x node after o s (inr due) rests gives h =
    let B : Place → Type 0 = λ q. AtPlace p taken j.world x q in
    let was : Rested p j.world x (node ∷ due.nodes) = subst B due.place h in
    let other : (node == p.sender) ≡ false = no_sender p node was.own.0 in
    let v : World = (world_step p j.world (Ticked node j.now)).0 in
    let rested : Rested p v x due.nodes = record {
      heard = was.heard;
      taken = tick_receivers p j.world node j.now due.nodes other rests was.taken;
      own = was.own.1;
    } in
    let A : Place → Type 0 = λ q. AtPlace p taken v x (after_tick node o q) in
    let C : Passing → Type 0 = λ y. AtPlace p taken v y (after_tick node o after) in
    subst C (sym (other_passes p j.world x node j.now (world_step p j.world (Ticked node j.now)).1 other))
    (subst A (sym due.after_is) (after_ticks p taken v x node o due.nodes rested))

-- a copy is taken: by the sender, by a receiver, or by nobody
take_leads : (p : Settings) (past : List Happening) (accepted : List Origin) (taken count : ℕ) (j : Judged) (x : Passing) (to : ℕ) (octets : List ℕ)
    → Stands p past accepted taken j → slice_get (copies p j.world) taken ≡ Some (to, octets) → MayBe p j.world accepted (delivery j to octets)
    → AllByRecursion (Hears p taken j.world x) (receivers_of p p.receivers)
    → AllByRecursion (Hears p (taken + 1) (run_from p j.world (option_to_list (delivery j to octets))) (passed_by p j.world x (delivery j to octets))) (receivers_of p p.receivers)
take_leads p past accepted taken count j x to octets s due may all = go (to == j.profile.sender) (is_receiver j to) refl refl may
  where
    w : World
    w = j.world

    event_of : Bool → Bool → Option WorldEvent
    event_of own receives = elim own [
      | true ↦ Some (Delivered to octets j.now 0)
      | false ↦ elim receives [ true ↦ Some (Delivered to octets j.now (next_draw j.draws)) | false ↦ None ]
    ]

    Leads : Option WorldEvent → Type 0
    Leads o = AllByRecursion (Hears p (taken + 1) (run_from p w (option_to_list o)) (passed_by p w x o)) (receivers_of p p.receivers)

    sent : ℕ → Bool
    sent draw = is_delivery_of p w to octets x.last

    hears : (draw : ℕ) → (to == p.sender) ≡ false → LawfulDelivery p w to octets → Leads (Some (Delivered to octets j.now draw))
    hears draw other lawful =
        take_hears p taken w (world_step p w (Delivered to octets j.now draw)).0 x (heard_by x to (sent draw)) to octets due
        (world_laws.offered p w (Delivered to octets j.now draw) refl) (last_by x to (sent draw)) (λ node heard. heard_more x to node (sent draw) heard)
        (λ a is same. (
        let delivered : sent draw ≡ true = ap (is_delivery_of p w to octets) a.last ∙ delivers p past accepted w to octets a.datagram s.holds s.few a.offered a.read a.spoken same lawful in
        subst (λ (b : Bool). has_heard (heard_by x to b) to ≡ true) (sym delivered) (heard_own x to)
        )) all

    own_copy : (to == p.sender) ≡ true → Leads (Some (Delivered to octets j.now 0))
    own_copy is =
        take_hears p taken w (world_step p w (Delivered to octets j.now 0)).0 x (heard_by x to (sent 0)) to octets due
        (world_laws.offered p w (Delivered to octets j.now 0) refl) (last_by x to (sent 0)) (λ node heard. heard_more x to node (sent 0) heard)
        (λ a one same. absurd (clash (sym (no_sender p to one) ∙ is))) all

    nobody : is_receiver j to ≡ false → Leads None
    nobody none =
        take_hears p taken w w x x to octets due refl refl (λ node heard. heard)
        (λ a one same. absurd (clash (sym none ∙ subst (λ (ns : List ℕ). is_one to ns ≡ true) (sym s.waits.nodes) one))) all

    its_sender : (b : Bool) → (to == j.profile.sender) ≡ b → (to == p.sender) ≡ b
    its_sender b e = ap (λ (q : Settings). to == q.sender) (sym s.profile) ∙ e

    go : (own receives : Bool) → (to == j.profile.sender) ≡ own → is_receiver j to ≡ receives → MayBe p w accepted (event_of own receives) → Leads (event_of own receives)
    go true receives e f may = own_copy (its_sender true e)
    go false true e f may = hears (next_draw j.draws) (its_sender false e) may
    go false false e f may = nobody f

-- no copy is left: each node heard it
none_left : (p : Settings) (taken : ℕ) (w : World) (x : Passing) → length (copies p w) ≤ taken → (nodes : List ℕ) → AllByRecursion (Hears p taken w x) nodes
    → AllByRecursion (λ node. has_heard x node ≡ true) nodes
none_left p taken w x le nodes all = all_as (Hears p taken w x) (λ node. has_heard x node ≡ true) nodes one all
  where
    one : (node : ℕ) → Hears p taken w x node → has_heard x node ≡ true
    one node (inl heard) = heard
    one node (inr a) =
        let lt = due_more (copies p w) a.place (node, a.datagram.octets) a.copy in
        let later = a.later in
        absurd (omega (arith, lt, later, le))

empty_leads : (p : Settings) (past : List Happening) (accepted : List Origin) (taken : ℕ) (j : Judged) (x : Passing) → Stands p past accepted taken j
    → length (copies p j.world) ≤ taken → AllByRecursion (Hears p taken j.world x) (receivers_of p p.receivers) → AtPlace p taken j.world x (handing j.nodes)
empty_leads p past accepted taken j x s le all =
    let A : List ℕ → Type 0 = λ ns. AtPlace p taken j.world x (handing ns) in
    subst A (sym s.waits.nodes) (at_handing p taken j.world x (receivers_of p p.receivers) (record {
      heard = none_left p taken j.world x le (receivers_of p p.receivers) all;
      taken = each j.world.receivers (subst (λ (ns : List ℕ). AllByRecursion (λ n. is_one n (receivers_of p p.receivers) ≡ true) ns) (sym s.nodes) (all_in (receivers_of p p.receivers)));
      own = all_in (receivers_of p p.receivers);
    }))
  where
    each : (rs : List ReceiverState) → AllByRecursion (λ n. is_one n (receivers_of p p.receivers) ≡ true) (map (λ (r : ReceiverState). r.node) rs)
        → AllByRecursion (Rests (receivers_of p p.receivers)) rs
    each [] all = tt
    each (r ∷ rs) all = (inl all.0, each rs all.1)

passed_command : (p : Settings) (w : World) (x : Passing) (by : Origin) (now : ℕ) (o : Option Job) → passed_by p w x (option_map (λ (job : Job). Commanded by job now) o) ≡ x
passed_command p w x by now None = refl
passed_command p w x by now (Some job) = refl

-- What is kept at the place that an event leads to.
abbrev Led : ℕ → Judged → Passing → Event → Judged → Type 0
Led taken j x e next = AtPlace j.profile taken next.world (passed_by j.profile j.world x (world_event j e)) next.place

abbrev pub Here : ℕ → Passing → Judged → Type 0
Here taken x j = AtPlace j.profile taken j.world x j.place

pub event_leads : (past : List Happening) (accepted : List Origin) (taken : ℕ) (j next : Judged) (x : Passing) (e : Event) → Stands j.profile past accepted taken j
    → accepts j e ≡ Some next → Follows j e next → IsDirect taken j e → MayBe j.profile j.world accepted (world_event j e) → Here taken x j → Led (taken_with taken e) j x e next
event_leads past accepted taken j next x event.Start s comes f direct may h =
    let A : Judged → Type 0 = λ n. AtPlace j.profile taken n.world x n.place in
    let B : Place → Type 0 = λ q. AtPlace j.profile taken j.world x q in
    subst A (sym f.1.then) (subst B f.1.place h)
event_leads past accepted taken j next x (event.Turn turn now) s comes f direct may h =
    let A : Judged → Type 0 = λ n. AtPlace j.profile taken n.world x n.place in
    let B : Place → Type 0 = λ q. AtPlace j.profile taken j.world x q in
    subst A (sym f.1.then) (at_due j.profile taken j.world x j.waiting j.left (subst B f.1.place h))
event_leads past accepted taken j next x (event.Pull by) s comes f direct may h =
    let A : Judged → Type 0 = λ n. AtPlace j.profile taken n.world x n.place in
    let B : Place → Type 0 = λ q. AtPlace j.profile taken j.world x q in
    subst A (sym f.1.then) (subst B f.1.place h)
event_leads past accepted taken j next x (event.Job by told gave) s comes f direct may h =
    let A : Judged → Type 0 = λ n. AtPlace j.profile taken n.world x n.place in
    let C : Passing → Type 0 = λ y. AtPlace j.profile taken next.world y next.place in
    subst C (sym (passed_command j.profile j.world x by j.now (job_at j.place told)))
    (subst A (sym f.1.then) (rested_still j.profile j.world _ x [] (world_laws.receivers j.profile j.world (Commanded by f.1.job j.now) refl)
    (job_rested j.profile taken x j f.1.line told f.1.job gave f.1.due h)))
event_leads past accepted taken j next x (event.Length by name len fault) s comes f direct may h =
    let A : Judged → Type 0 = λ n. AtPlace j.profile taken n.world x n.place in
    subst A (sym f.1.then) (rested_still j.profile j.world _ x [] (world_laws.receivers j.profile j.world (Commanded by (file_of_length name len) j.now) refl)
    (told_rested j.profile taken j.world x j.place f.1.line f.1.place h))
event_leads past accepted taken j next x (event.Tick node said) s comes f direct may h =
    let y : Passing = passing_after j.profile j.world x (Ticked node j.now) (world_step j.profile j.world (Ticked node j.now)).1 in
    let A : Judged → Type 0 = λ n. AtPlace j.profile taken n.world y n.place in
    subst A (sym f.1.then) (tick_leads j.profile past accepted taken j x node f.1.after f.1.datagram s f.1.due f.1.taken f.1.gives h)
event_leads past accepted taken j next x (event.Offer from octets) s comes f direct may h =
    let A : Judged → Type 0 = λ n. AtPlace j.profile taken n.world x n.place in
    let B : Place → Type 0 = λ q. AtPlace j.profile taken j.world x q in
    subst A (sym f.1.then) (offer_leads j.profile taken j.world x from octets f.1.after s.waits.some (subst B f.1.place h))
event_leads past accepted taken j next x (event.Took to octets) s comes f direct may h =
    let p : Settings = j.profile in
    let B : Place → Type 0 = λ q. AtPlace p taken j.world x q in
    let y : Passing = passed_by p j.world x (delivery j to octets) in
    let lt = due_more (copies p j.world) taken (to, octets) direct in
    let spends = ap (spent p.receivers) f.1.place in
    let room = s.waits.room in
    let most = most_members p.receivers s.range.receivers.1 in
    let goes : next.place ≡ Taking (f.1.count + 1) =
    ap (λ (n : Judged). n.place) f.1.then ∙ another_take f.1.count j (omega (arith, lt, spends, room, most)) in
    let led = take_leads p past accepted taken f.1.count j x to octets s direct may (subst B f.1.place h) in
    let V : World → Type 0 = λ v. AllByRecursion (Hears p (taken + 1) v y) (receivers_of p p.receivers) in
    let C : Place → Type 0 = λ q. AtPlace p (taken + 1) next.world y q in
    subst C (sym goes) (subst V (event_moves j (event.Took to octets) next comes).1 led)
event_leads past accepted taken j next x event.Empty s comes f direct may h =
    let A : Judged → Type 0 = λ n. AtPlace j.profile taken n.world x n.place in
    let B : Place → Type 0 = λ q. AtPlace j.profile taken j.world x q in
    subst A (sym f.1.then) (empty_leads j.profile past accepted taken j x s (none_due (copies j.profile j.world) taken direct) (subst B f.1.place h))
event_leads past accepted taken j next x (event.Up node instance up) s comes f direct may h =
    let p : Settings = j.profile in
    let A : Judged → Type 0 = λ n. AtPlace p taken n.world x n.place in
    let B : Place → Type 0 = λ q. AtPlace p taken j.world x q in
    let D : Place → Type 0 = λ q. AtPlace p taken (world_step p j.world (UpTaken node)).0 x q in
    let was : Rested p j.world x (node ∷ f.1.nodes) = subst B f.1.place h in
    let now : Rested p (world_step p j.world (UpTaken node)).0 x (node ∷ f.1.nodes) = record {
      heard = was.heard;
      taken = up_receivers p j.world node (node ∷ f.1.nodes) (is_first f.1.nodes node) was.taken;
      own = was.own;
    } in
    subst A (sym f.1.then) (subst D (sym f.1.place) now)
event_leads past accepted taken j next x (event.News news) s comes f direct may h =
    let A : Judged → Type 0 = λ n. AtPlace j.profile taken n.world x n.place in
    subst A (sym f.then) (at_still j.profile taken j.world (world_step j.profile j.world NewsAsked).0 x j.place refl refl refl h)
event_leads past accepted taken j next x event.End s comes f direct may h =
    let A : Judged → Type 0 = λ n. AtPlace j.profile taken n.world x n.place in
    let B : Place → Type 0 = λ q. AtPlace j.profile taken j.world x q in
    subst A (sym f.1.then) (subst B f.1.place h)

-- ---- the sender ticks only after all was passed on

command_no_tick : (p : Settings) (by : Origin) (now : ℕ) (o : Option Job) (e : WorldEvent) → option_map (λ (job : Job). Commanded by job now) o ≡ Some e → is_sender_tick p e ≡ true → ⊥
command_no_tick p by now None e is tick = none-some e is
command_no_tick p by now (Some job) e is tick = clash (subst (λ (x : WorldEvent). is_sender_tick p x ≡ true) (sym (same_Some (Commanded by job now) e is)) tick)

delivery_no_tick : (j : Judged) (to : ℕ) (octets : List ℕ) (e : WorldEvent) → delivery j to octets ≡ Some e → is_sender_tick j.profile e ≡ true → ⊥
delivery_no_tick j to octets e is tick = go (to == j.profile.sender) (is_receiver j to) is
  where
    other : (d : WorldEvent) → (is_sender_tick j.profile d ≡ true → ⊥) → Some d ≡ Some e → ⊥
    other d none same = none (subst (λ (x : WorldEvent). is_sender_tick j.profile x ≡ true) (sym (same_Some d e same)) tick)

    go : (own receives : Bool) → (elim own as (λ _. Option WorldEvent) [
      | true ↦ Some (Delivered to octets j.now 0)
      | false ↦ elim receives [ true ↦ Some (Delivered to octets j.now (next_draw j.draws)) | false ↦ None ]
    ]) ≡ Some e → ⊥
    go true receives same = other (Delivered to octets j.now 0) clash same
    go false true same = other (Delivered to octets j.now (next_draw j.draws)) clash same
    go false false same = none-some e same

pub sender_rested : (past : List Happening) (accepted : List Origin) (taken : ℕ) (j next : Judged) (x : Passing) (e : Event) (own : WorldEvent) → Stands j.profile past accepted taken j
    → Follows j e next → Here taken x j → world_event j e ≡ Some own → is_sender_tick j.profile own ≡ true → is_passed_on j.world x ≡ true
sender_rested past accepted taken j next x event.Start own s f h is tick = absurd (none-some own is)
sender_rested past accepted taken j next x (event.Turn turn now) own s f h is tick = absurd (none-some own is)
sender_rested past accepted taken j next x (event.Pull by) own s f h is tick = absurd (none-some own is)
sender_rested past accepted taken j next x (event.Job by told gave) own s f h is tick = absurd (command_no_tick j.profile by j.now (job_at j.place told) own is tick)
sender_rested past accepted taken j next x (event.Length by name len fault) own s f h is tick = absurd (command_no_tick j.profile by j.now (Some (file_of_length name len)) own is tick)
sender_rested past accepted taken j next x (event.Tick node said) own s f h is tick = go f.1.due
  where
    ticks : (node == j.profile.sender) ≡ true
    ticks = subst (λ (e : WorldEvent). is_sender_tick j.profile e ≡ true) (sym (same_Some (Ticked node j.now) own is)) tick

    B : Place → Type 0
    B q = AtPlace j.profile taken j.world x q

    go : SendersTick j node f.1.after ⊎ ReceiversTick j node f.1.after → is_passed_on j.world x ≡ true
    go (inl due) = rested_passed j.profile j.world x s.nodes (subst B due.place h)
    go (inr due) =
        let was : Rested j.profile j.world x (node ∷ due.nodes) = subst B due.place h in
        absurd (clash (sym (no_sender j.profile node was.own.0) ∙ ticks))
sender_rested past accepted taken j next x (event.Offer from octets) own s f h is tick =
    absurd (clash (subst (λ (e : WorldEvent). is_sender_tick j.profile e ≡ true) (sym (same_Some (Offered from octets) own is)) tick))
sender_rested past accepted taken j next x (event.Took to octets) own s f h is tick = absurd (delivery_no_tick j to octets own is tick)
sender_rested past accepted taken j next x event.Empty own s f h is tick = absurd (none-some own is)
sender_rested past accepted taken j next x (event.Up node instance up) own s f h is tick =
    absurd (clash (subst (λ (e : WorldEvent). is_sender_tick j.profile e ≡ true) (sym (same_Some (UpTaken node) own is)) tick))
sender_rested past accepted taken j next x (event.News news) own s f h is tick =
    absurd (clash (subst (λ (e : WorldEvent). is_sender_tick j.profile e ≡ true) (sym (same_Some NewsAsked own is)) tick))
sender_rested past accepted taken j next x event.End own s f h is tick = absurd (none-some own is)

-- ---- before the tick

pub at_passed : (p : Settings) (taken : ℕ) (w : World) (x : Passing) (place : Place) → IsBeforeTick place → AtPlace p taken w x place → Rested p w x []
at_passed p taken w x (Taking count) is h = absurd is
at_passed p taken w x (Handing node nodes) is h = absurd is
at_passed p taken w x (Offering node octets next) is h = absurd is
at_passed p taken w x Starting is h = h
at_passed p taken w x Between is h = h
at_passed p taken w x Pulling is h = h
at_passed p taken w x (Giving line) is h = h
at_passed p taken w x (Again line) is h = h
at_passed p taken w x Sending is h = h
at_passed p taken w x Over is h = h
