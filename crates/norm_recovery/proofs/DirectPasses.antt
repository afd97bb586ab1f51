-- A session over a direct network passes on what its sender gives, turn by turn.
use Rattle.std.proofs.Common.{◌≡◌, ℕ, ◌≤◌, List, [], ◌∷◌, ◌++◌, length, Bool, true, false, Option, None, Some, refl, sym, ap, subst, ◌∙◌, arith}
use Rattle.std.specs.Prelude.{◌||◌, not}
use Rattle.std.specs.Option.{option_to_list}
use Rattle.std.proofs.lemmas.Option.{same_Some, option_and_then_some}
use Rattle.norm_base.specs.Members.{receivers_of}
use Rattle.norm_base.specs.Settings.{Settings, InRange}
use Rattle.norm_base.specs.declared.node.Origin.{Origin}
use Rattle.norm_safety.specs.Events.{Event as WorldEvent}
use Rattle.norm_safety.specs.History.{Happening}
use Rattle.norm_safety.specs.InTime.{FewObjects, most_objects, accepted_from}
use Rattle.norm_safety.specs.Jobs.{AreEvents}
use Rattle.norm_safety.specs.Lawful.{accepted_with, LawfulFrom}
use Rattle.norm_safety.specs.World.{World}
use Rattle.norm_safety.specs.WorldLaws.{nodes_of}
use Rattle.norm_safety.specs.WorldStep.{world_step, run_from}
use Rattle.norm_safety.proofs.OrderRun.{happening, event_holds}
use Rattle.norm_safety.proofs.WorldHolds.{WorldHolds}
use Rattle.norm_safety.proofs.WorldLemmas.{world_laws}
use Rattle.norm_laws.specs.HandedUp.{Passing, passing_after, is_passed_on, is_sender_tick, passes_on_from}
use Rattle.norm_journal.specs.declared.event.Event.{Event}
use Rattle.norm_journal.specs.Accepting.{accepts, judged_from}
use Rattle.norm_journal.specs.Direct.{IsDirect, taken_with}
use Rattle.norm_journal.specs.Follows.{Follows}
use Rattle.norm_journal.specs.Judged.{Judged}
use Rattle.norm_journal.specs.WorldEvents.{world_event, world_events, TakesDirectly}
use Rattle.norm_journal.proofs.FollowLemmas.{judges_what_follows}
use Rattle.norm_journal.proofs.WorldLemmas.{event_moves}
use Rattle.norm_recovery.specs.SteadyPasses.{IsBeforeTick}
use Rattle.norm_recovery.proofs.DirectTakes.{Waits, follows_waits, next_direct}
use Rattle.norm_recovery.proofs.DirectComes.{both_true, few_of, accepted_one, accepted_more}
use Rattle.norm_recovery.proofs.DirectKept.{AtPlace, rested_passed}
use Rattle.norm_recovery.proofs.DirectEvents.{passed_by, Stands, MayBe, Here, event_leads, sender_rested, at_passed}

-- what is known of the events that are to come
pub record Comes (p : Settings) (w : World) (accepted : List Origin) (events : List WorldEvent) : Type 0 where
  pub lawful : LawfulFrom p w accepted events
  pub jobs : AreEvents events
  pub few : length (accepted_from p w accepted events) ≤ most_objects

-- what is kept along the journal
pub record Walks (past : List Happening) (accepted : List Origin) (taken : ℕ) (x : Passing) (j : Judged) : Type 0 where
  pub range : InRange j.profile
  pub waits : Waits j.profile taken j
  pub holds : WorldHolds j.profile past accepted j.world
  pub nodes : nodes_of j.world ≡ receivers_of j.profile j.profile.receivers
  pub at : Here taken x j

-- From a world on each datagram of the sender is passed on before its next tick; and so much holds at the end.
abbrev pub PassesTo : (World → Passing → Type 0) → Settings → World → Passing → List WorldEvent → Type 0
PassesTo Ends p w x [] = Ends w x
PassesTo Ends p w x (e ∷ events) =
    let step = world_step p w e in
    (is_sender_tick p e ≡ true → is_passed_on w x ≡ true) × PassesTo Ends p step.0 (passing_after p w x e step.1) events

-- if all was passed on at the end, the events pass on
pub passes_on_to : (p : Settings) (w : World) (x : Passing) (events : List WorldEvent) → PassesTo (λ v y. is_passed_on v y ≡ true) p w x events
    → passes_on_from p w x events ≡ true
unfolding passes_on_from
passes_on_to p w x [] on = on
passes_on_to p w x (e ∷ events) on =
    let step = world_step p w e in
    let y : Passing = passing_after p w x e step.1 in
    both_true (not (is_sender_tick p e) || is_passed_on w x) (passes_on_from p step.0 y events) (unless (is_sender_tick p e) (is_passed_on w x) on.0)
    (passes_on_to p step.0 y events on.1)
  where
    unless : (a b : Bool) → (a ≡ true → b ≡ true) → (not a || b) ≡ true
    unless true b h = h refl
    unless false b h = refl

-- the events from a state on pass on
abbrev pub PassesFrom : (World → Passing → Type 0) → ℕ → Judged → List WorldEvent → Type 0
PassesFrom Ends taken j events = (past : List Happening) (accepted : List Origin) (x : Passing) → Comes j.profile j.world accepted events → Walks past accepted taken x j
    → PassesTo Ends j.profile j.world x events

carried : (Q : Settings → World → Type 0) (p q : Settings) (v u : World) → p ≡ q → v ≡ u → Q p v → Q q u
carried Q p q v u same world h = subst (λ (w : World). Q q w) world (subst (λ (s : Settings). Q s v) same h)

carried_back : (Q : Settings → World → Type 0) (p q : Settings) (v u : World) → p ≡ q → v ≡ u → Q q u → Q p v
carried_back Q p q v u same world h = subst (λ (w : World). Q p w) (sym world) (subst (λ (s : Settings). Q s u) (sym same) h)

walks_on : (past : List Happening) (accepted : List Origin) (taken : ℕ) (x : Passing) (j next : Judged) (e : Event) → accepts j e ≡ Some next → IsDirect taken j e → j.profile ≡ next.profile
    → FewObjects j.world.sender → MayBe j.profile j.world accepted (world_event j e) → (after : List Happening) (known : List Origin) → WorldHolds j.profile after known next.world
    → nodes_of next.world ≡ nodes_of j.world → Walks past accepted taken x j → Walks after known (taken_with taken e) (passed_by j.profile j.world x (world_event j e)) next
walks_on past accepted taken x j next e comes direct same few may after known holds nodes k =
    let f = (judges_what_follows j next e).0 comes in
    let s : Stands j.profile past accepted taken j = record { range = k.range; profile = refl; waits = k.waits; holds = k.holds; few = few; nodes = k.nodes } in
    let y : Passing = passed_by j.profile j.world x (world_event j e) in
    record {
      range = subst InRange same k.range;
      waits = subst (λ (p : Settings). Waits p (taken_with taken e) next) same (follows_waits j.profile k.range.receivers.1 taken j next e f direct k.waits);
      holds = subst (λ (p : Settings). WorldHolds p after known next.world) same holds;
      nodes = subst (λ (p : Settings). nodes_of next.world ≡ receivers_of p p.receivers) same (nodes ∙ k.nodes);
      at = subst (λ (p : Settings). AtPlace p (taken_with taken e) next.world y next.place) same (event_leads past accepted taken j next x e s comes f direct may k.at);
    }

event_passes : (Ends : World → Passing → Type 0) (taken : ℕ) (j next : Judged) (e : Event) (rest : List WorldEvent) → accepts j e ≡ Some next → IsDirect taken j e
    → PassesFrom Ends (taken_with taken e) next rest → PassesFrom Ends taken j (option_to_list (world_event j e) ++ rest)
event_passes Ends taken j next e rest comes direct more past accepted x c k = go (world_event j e) refl (event_moves j e next comes).1 c
  where
    p : Settings
    p = j.profile

    w : World
    w = j.world

    same : p ≡ next.profile
    same = (event_moves j e next comes).0

    f : Follows j e next
    f = (judges_what_follows j next e).0 comes

    few : length accepted ≤ most_objects → FewObjects w.sender
    few most = few_of w.sender accepted k.holds.once most

    go : (o : Option WorldEvent) → world_event j e ≡ o → run_from p w (option_to_list o) ≡ next.world → Comes p w accepted (option_to_list o ++ rest)
        → PassesTo Ends p w x (option_to_list o ++ rest)
    go None is world c =
        let most : length accepted ≤ most_objects = (let all = c.few in let less = accepted_more p w accepted rest in omega (arith, all, less)) in
        let may : MayBe p w accepted (world_event j e) = subst (MayBe p w accepted) (sym is) tt in
        let on = walks_on past accepted taken x j next e comes direct same (few most) may past accepted
        (subst (λ (v : World). WorldHolds p past accepted v) world k.holds) (ap nodes_of (sym world)) k in
        let W : Passing → Type 0 = λ y. Walks past accepted (taken_with taken e) y next in
        carried_back (λ q v. PassesTo Ends q v x rest) p next.profile w next.world same world
        (more past accepted x (carried (λ q v. Comes q v accepted rest) p next.profile w next.world same world c) (subst W (ap (passed_by p w x) is) on))
    go (Some own) is world c =
        let step = world_step p w own in
        let known : List Origin = accepted_with accepted own step.1 in
        let after : List Happening = past ++ happening w own step ∷ [] in
        let y : Passing = passing_after p w x own step.1 in
        let most : length accepted ≤ most_objects = (
        let all = c.few in let one = accepted_one accepted own step.1 in let less = accepted_more p step.0 known rest in omega (arith, all, one, less)
        ) in
        let may : MayBe p w accepted (world_event j e) = subst (MayBe p w accepted) (sym is) c.lawful.0 in
        let holds : WorldHolds p after known step.0 = event_holds p k.range past accepted w own c.lawful.0 c.jobs.0 k.holds in
        let on = walks_on past accepted taken x j next e comes direct same (few most) may after known
        (subst (λ (v : World). WorldHolds p after known v) world holds) (ap nodes_of (sym world) ∙ world_laws.stays p w own) k in
        let W : Passing → Type 0 = λ z. Walks after known (taken_with taken e) z next in
        let later : Comes p step.0 known rest = record { lawful = c.lawful.1; jobs = c.jobs.1; few = c.few } in
        let s : Stands p past accepted taken j = record { range = k.range; profile = refl; waits = k.waits; holds = k.holds; few = few most; nodes = k.nodes } in (
          λ tick. sender_rested past accepted taken j next x e own s f k.at is tick,
          carried_back (λ q v. PassesTo Ends q v y rest) p next.profile step.0 next.world same world
              (more after known y (carried (λ q v. Comes q v known rest) p next.profile step.0 next.world same world later) (subst W (ap (passed_by p w x) is) on)),
        )

abbrev after_that : Option Judged → List Event → List WorldEvent
after_that o events = elim o [ Some next ↦ world_events next events | None ↦ [] ]

-- Each datagram of the sender is passed on before its next tick, up to each moment of a journal.
pub walk_passes : (Ends : World → Passing → Type 0) (events : List Event) (taken : ℕ) (j last : Judged) → judged_from j events ≡ Some last → TakesDirectly taken j events
    → ((past : List Happening) (accepted : List Origin) (taken : ℕ) (x : Passing) → Walks past accepted taken x last → Ends last.world x)
    → PassesFrom Ends taken j (world_events j events)
unfolding judged_from TakesDirectly world_events
walk_passes Ends [] taken j last is direct ends past accepted x c k =
    let same : j ≡ last = same_Some j last is in
    let W : Judged → Type 0 = λ n. Walks past accepted taken x n in
    subst (λ (n : Judged). Ends n.world x) (sym same) (ends past accepted taken x (subst W same k))
walk_passes Ends (e ∷ events) taken j last is direct ends past accepted x c k =
    let P : Option Judged → Type 0 = λ o. PassesFrom Ends taken j (option_to_list (world_event j e) ++ after_that o events) in
    let all : P (accepts j e) = option_and_then_some (λ next. judged_from next events) (accepts j e) last is (λ next comes more.
    subst P (sym comes) (event_passes Ends taken j next e (world_events next events) comes direct.0
    (walk_passes Ends events (taken_with taken e) next last more (next_direct (taken_with taken e) (accepts j e) next events comes direct.1) ends))) in
    all past accepted x c k

-- where nothing of a turn is due all was passed on
pub calm_passed : (past : List Happening) (accepted : List Origin) (taken : ℕ) (x : Passing) (j : Judged) → IsBeforeTick j.place → Walks past accepted taken x j
    → is_passed_on j.world x ≡ true
calm_passed past accepted taken x j calm k = rested_passed j.profile j.world x k.nodes (at_passed j.profile taken j.world x j.place calm k.at)
