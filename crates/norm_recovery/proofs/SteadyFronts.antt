-- A steady session over a direct network, event by event: each front of its journal is one too.
use Rattle.std.proofs.Common.{◌≡◌, ℕ, ◌<◌, ◌≤◌, List, [], ◌∷◌, ◌++◌, false, Option, None, Some, refl, sym, ap, ◌∙◌, subst, arith, append-nil, append_assoc, inl, inr}
use Rattle.std.specs.Prelude.{◌⊎◌, IfSome, option_and_then}
use Rattle.std.specs.List.{AllByRecursion}
use Rattle.std.specs.Option.{option_to_list}
use Rattle.std.proofs.lemmas.Option.{same_Some, option_and_then_some}
use Rattle.norm_base.specs.Members.{receivers_of}
use Rattle.norm_base.specs.Settings.{Settings}
use Rattle.fec_plan.specs.Points.{Point, point, point_before}
use Rattle.fec_plan.proofs.PointLemmas.{behind_point}
use Rattle.norm_script.specs.Commands.{Commands}
use Rattle.norm_safety.specs.Events.{Event as WorldEvent}
use Rattle.norm_safety.specs.InTime.{FewObjects}
use Rattle.norm_safety.specs.Jobs.{AreEvents, AreOfObjects}
use Rattle.norm_safety.specs.Lawful.{Lawful}
use Rattle.norm_safety.specs.World.{World}
use Rattle.norm_safety.specs.WorldStep.{world_step, run, run_from}
use Rattle.norm_safety.proofs.InTime.{time_laws}
use Rattle.norm_journal.specs.declared.event.Event.{Event}
use Rattle.norm_journal.specs.Accepting.{accepts, judged_from}
use Rattle.norm_journal.specs.Direct.{IsDirect, taken_with}
use Rattle.norm_journal.specs.Jobs.{Told}
use Rattle.norm_journal.specs.Judged.{Judged}
use Rattle.norm_journal.specs.Laws.{HasOctets}
use Rattle.norm_journal.specs.SessionRun.{judged}
use Rattle.norm_journal.specs.WorldEvents.{world_event, world_events, TakesDirectly, taken_after}
use Rattle.norm_journal.proofs.FrontLemmas.{judged_from-append, fronts_happen}
use Rattle.norm_journal.proofs.LawfulLemmas.{begins_honestly}
use Rattle.norm_journal.proofs.OctetLemmas.{commands_are_events}
use Rattle.norm_journal.proofs.ScriptLemmas.{scripts_named}
use Rattle.norm_journal.proofs.TimeLemmas.{begins_lawfully}
use Rattle.norm_journal.proofs.WorldLemmas.{moves_world}
use Rattle.norm_laws.proofs.WholeOrders.{AreWhole, WholeHolds, event_whole, whole_run, current_whole}
use Rattle.norm_recovery.specs.Steady.{Steady, RefusesNoObject, KeptAll}
use Rattle.norm_recovery.specs.SteadyPasses.{RunsDirectly, session_opening}
use Rattle.norm_recovery.proofs.AskedMoves.{Goes, goes_itself, goes_both, event_goes}
use Rattle.norm_recovery.proofs.DirectHands.{takes_honestly, begun_is, profile_stays}
use Rattle.norm_recovery.proofs.DirectTakes.{next_direct}
use Rattle.norm_recovery.proofs.SteadyJobs.{IsPlainEvent, events_plain, plain_opens_none}

-- ---- what is known at a moment of such a session

-- the events of the nodes' world
abbrev pub happened : Commands → Told → List Event → List WorldEvent
happened script files events = world_events (session_opening script files) events

-- a journal that leads to a state, direct and steady
pub record Reaches (script : Commands) (files : Told) (events : List Event) (j : Judged) : Type 0 where
  pub runs : RunsDirectly script files events j
  pub steady : Steady script files events

-- What follows of it.
pub record Stands (script : Commands) (files : Told) (events : List Event) (j : Judged) : Type 0 where
  pub profile : script.profile ≡ j.profile
  pub world : run script.profile (happened script files events) ≡ j.world
  pub lawful : Lawful script.profile (happened script files events)
  pub jobs : AreEvents (happened script files events)
  pub few : FewObjects (run script.profile (happened script files events)).sender
  pub plain : AllByRecursion IsPlainEvent (happened script files events)
  pub whole : AreWhole j.world.sender.current.order
  pub kept : j.world.sender.current.drop ≡ point 0 0

all_of_objects : (events : List WorldEvent) → AllByRecursion IsPlainEvent events → AreOfObjects events
all_of_objects [] all = tt
all_of_objects (e ∷ events) all = (plain_opens_none e all.0, all_of_objects events all.1)

pub stands : (script : Commands) (files : Told) (events : List Event) (j : Judged) → Reaches script files events j → Stands script files events j
stands script files events j h =
    let p : Settings = script.profile in
    let nodes : List ℕ = receivers_of p p.receivers in
    let runs = h.runs in
    let honest = takes_honestly events 0 (session_opening script files) runs.direct in
    let begun = begun_is script files events j _ runs.leads in
    let ran = begins_honestly script files nodes events (scripts_named script runs.can_run) begun honest in
    let most = runs.can_run.few in
    let few = ran.few in
    let plain = events_plain script files nodes events h.steady.commands begun in
    let world : run p (happened script files events) ≡ j.world = moves_world (session_opening script files) j events runs.leads in
    let W : World → Type 0 = λ w. AreWhole w.sender.current.order in
    record {
      profile = profile_stays events (session_opening script files) j runs.leads;
      world = world;
      lawful = begins_lawfully script files nodes events runs.can_run begun runs.octets honest;
      jobs = commands_are_events script files nodes events runs.can_run begun runs.octets;
      few = time_laws.few p (happened script files events) ran.honest (omega (arith, few, most));
      plain = plain;
      whole = subst W world (current_whole (run p (happened script files events)).sender (whole_run p (happened script files events) (all_of_objects (happened script files events) plain)));
      kept = subst (λ (o : Option Judged). IfSome o KeptAll) runs.leads h.steady.kept;
    }

-- ---- a front

all_front : {X : Type 0} (P : X → Type 0) (xs ys : List X) → AllByRecursion P (xs ++ ys) → AllByRecursion P xs
all_front P [] ys all = tt
all_front P (x ∷ xs) ys all = (all.0, all_front P xs ys all.1)

all_back : {X : Type 0} (P : X → Type 0) (xs ys : List X) → AllByRecursion P (xs ++ ys) → AllByRecursion P ys
all_back P [] ys all = all
all_back P (x ∷ xs) ys all = all_back P xs ys all.1

if_each : {X : Type 0} (P Q : X → Type 0) (o : Option X) → ((x : X) → P x → Q x) → IfSome o P → IfSome o Q
if_each P Q None each h = tt
if_each P Q (Some x) each h = each x h

direct_front : (front rest : List Event) (taken : ℕ) (j : Judged) → TakesDirectly taken j (front ++ rest) → TakesDirectly taken j front
unfolding TakesDirectly
direct_front [] rest taken j direct = tt
direct_front (e ∷ front) rest taken j direct = (
  direct.0,
  if_each (λ next. TakesDirectly (taken_with taken e) next (front ++ rest)) (λ next. TakesDirectly (taken_with taken e) next front) (accepts j e)
      (λ next more. direct_front front rest (taken_with taken e) next more) direct.1,
)

-- the take behind a front is direct
direct_next : (front rest : List Event) (e : Event) (taken : ℕ) (j next : Judged) → judged_from j front ≡ Some next → TakesDirectly taken j (front ++ e ∷ rest)
    → IsDirect (taken_after taken front) next e
unfolding TakesDirectly judged_from taken_after
direct_next [] rest e taken j next is direct = subst (λ (x : Judged). IsDirect taken x e) (same_Some j next is) direct.0
direct_next (x ∷ front) rest e taken j next is direct =
    option_and_then_some (λ y. judged_from y front) (accepts j x) next is (λ y comes more.
    direct_next front rest e (taken_with taken x) y next more (next_direct (taken_with taken x) (accepts j x) y (front ++ e ∷ rest) comes direct.1))

taken_end : (taken : ℕ) (front : List Event) (e : Event) → taken_after taken (front ++ e ∷ []) ≡ taken_with (taken_after taken front) e
unfolding taken_after
taken_end taken [] e = refl
taken_end taken (x ∷ front) e = taken_end (taken_with taken x) front e

goes_run : (p : Settings) (w : World) (events : List WorldEvent) → AllByRecursion IsPlainEvent events → WholeHolds w.sender → Goes w.sender (run_from p w events).sender
goes_run p w [] plain whole = goes_itself w.sender
goes_run p w (e ∷ events) plain whole =
    let v : World = (world_step p w e).0 in
    goes_both w.sender v.sender (run_from p w (e ∷ events)).sender (event_goes p w e plain.0 (current_whole w.sender whole))
    (goes_run p v events plain.1 (event_whole p w e (plain_opens_none e plain.0) whole))

-- a drop point that is not before another one is 0 if that is
none_before : (d e : Point) → point_before e d ≡ false → e ≡ point 0 0 → d ≡ point 0 0
none_before d e before none = go (behind_point e d before)
  where
    zero_is : (a : ℕ) → a ≤ 0 → a ≡ 0
    zero_is a le = omega (arith, le)

    both : d.index ≡ 0 → d.block ≡ 0 → d ≡ point 0 0
    both a b = ap (λ (n : ℕ). point n d.block) a ∙ ap (point 0) b

    go : (d.index < e.index) ⊎ ((d.index ≡ e.index) × (d.block ≤ e.block)) → d ≡ point 0 0
    go (inl lt) = (let z = ap (λ (x : Point). x.index) none in absurd (omega (arith, lt, z)))
    go (inr (same, le)) =
        both (same ∙ ap (λ (x : Point). x.index) none) (zero_is d.block (let z = ap (λ (x : Point). x.block) none in omega (arith, le, z)))

-- each front of a journal reaches its state
pub front_reaches : (script : Commands) (files : Told) (front rest : List Event) (j last : Judged) → judged script files (receivers_of script.profile script.profile.receivers) front ≡ Some j
    → Reaches script files (front ++ rest) last → Reaches script files front j
front_reaches script files front rest j last leads h = record {
  runs = record {
    can_run = h.runs.can_run;
    leads = leads;
    octets = all_front HasOctets front rest h.runs.octets;
    direct = direct_front front rest 0 (session_opening script files) h.runs.direct;
  };
  steady = record {
    commands = h.steady.commands;
    spaced = h.steady.spaced;
    paced = h.steady.paced;
    accepted = all_front RefusesNoObject front rest h.steady.accepted;
    kept = subst (λ (o : Option Judged). IfSome o KeptAll) (sym leads) kept;
  };
}
  where
    p : Settings
    p = script.profile

    opening : Judged
    opening = session_opening script files

    all : Stands script files (front ++ rest) last
    all = stands script files (front ++ rest) last h

    then : judged_from j rest ≡ Some last
    then = ap (λ (o : Option Judged). option_and_then (λ (next : Judged). judged_from next rest) o) (sym leads) ∙ sym (judged_from-append (session_opening script files) front rest)
        ∙ h.runs.leads

    more : List WorldEvent
    more = world_events j rest

    split : happened script files (front ++ rest) ≡ happened script files front ++ world_events j rest
    split = fronts_happen (session_opening script files) front rest
        ∙ ap (λ (o : Option Judged). happened script files front ++ (elim o as (λ _. List WorldEvent) [ Some next ↦ world_events next rest | None ↦ [] ])) leads

    plain : AllByRecursion IsPlainEvent (happened script files front ++ world_events j rest)
    plain = subst (λ (es : List WorldEvent). AllByRecursion IsPlainEvent es) split all.plain

    world : run p (happened script files front) ≡ j.world
    world = moves_world (session_opening script files) j front leads

    whole : WholeHolds j.world.sender
    whole = subst (λ (w : World). WholeHolds w.sender) world
        (whole_run p (happened script files front) (all_of_objects (happened script files front) (all_front IsPlainEvent (happened script files front) (world_events j rest) plain)))

    on : run_from script.profile j.world (world_events j rest) ≡ last.world
    on = subst (λ (q : Settings). run_from q j.world (world_events j rest) ≡ last.world) (sym (profile_stays front (session_opening script files) j leads)) (moves_world j last rest then)

    goes : Goes j.world.sender last.world.sender
    goes = subst (λ (w : World). Goes j.world.sender w.sender) on
        (goes_run script.profile j.world (world_events j rest) (all_back IsPlainEvent (happened script files front) (world_events j rest) plain) whole)

    kept : j.world.sender.current.drop ≡ point 0 0
    kept = none_before j.world.sender.current.drop last.world.sender.current.drop goes.drop all.kept

-- ---- a walk

-- an event comes after a front of a journal
pub record Walks (script : Commands) (files : Told) (front : List Event) (e : Event) (j next : Judged) : Type 0 where
  pub before : Reaches script files front j
  pub after : Reaches script files (front ++ e ∷ []) next
  pub comes : accepts j e ≡ Some next
  pub direct : IsDirect (taken_after 0 front) j e
  pub happens : happened script files (front ++ e ∷ []) ≡ happened script files front ++ option_to_list (world_event j e)

one_happens : (script : Commands) (files : Told) (front : List Event) (e : Event) (j next : Judged)
    → judged script files (receivers_of script.profile script.profile.receivers) front ≡ Some j → accepts j e ≡ Some next
    → happened script files (front ++ e ∷ []) ≡ happened script files front ++ option_to_list (world_event j e)
unfolding world_events
one_happens script files front e j next leads comes =
    fronts_happen (session_opening script files) front (e ∷ [])
    ∙ ap (λ (o : Option Judged). happened script files front ++ (elim o as (λ _. List WorldEvent) [ Some x ↦ world_events x (e ∷ []) | None ↦ [] ])) leads
    ∙ ap (λ (es : List WorldEvent). happened script files front ++ es)
    (ap (λ (o : Option Judged). option_to_list (world_event j e) ++ (elim o as (λ _. List WorldEvent) [ Some x ↦ world_events x [] | None ↦ [] ])) comes
    ∙ append-nil (option_to_list (world_event j e)))

one_leads : (j k next : Judged) (front : List Event) (e : Event) → judged_from j front ≡ Some k → accepts k e ≡ Some next → judged_from j (front ++ e ∷ []) ≡ Some next
unfolding judged_from
one_leads j k next front e leads comes =
    judged_from-append j front (e ∷ []) ∙ ap (λ (o : Option Judged). option_and_then (λ (x : Judged). judged_from x (e ∷ [])) o) leads
    ∙ ap (λ (o : Option Judged). option_and_then (λ (x : Judged). Some x) o) comes

-- What holds as a session begins, and is kept by each event of a steady one over a direct network, holds at each moment of it.
pub walks_steadily : (script : Commands) (files : Told) (Kept : ℕ → Judged → Type 0) → Kept 0 (session_opening script files)
    → ((front : List Event) (e : Event) (j next : Judged) → Walks script files front e j next → Kept (taken_after 0 front) j
    → Kept (taken_with (taken_after 0 front) e) next)
    → (events : List Event) (last : Judged) → Reaches script files events last → Kept (taken_after 0 events) last
unfolding judged_from taken_after
walks_steadily script files Kept begins step events last h = go [] events (session_opening script files) refl refl begins h.runs.leads
  where
    go : (front rest : List Event) (j : Judged) → front ++ rest ≡ events → judged script files (receivers_of script.profile script.profile.receivers) front ≡ Some j
        → Kept (taken_after 0 front) j → judged_from j rest ≡ Some last → Kept (taken_after 0 events) last
    go front [] j all leads kept is =
        let same : front ≡ events = sym (append-nil front) ∙ all in
        subst (λ (es : List Event). Kept (taken_after 0 es) last) same (subst (λ (x : Judged). Kept (taken_after 0 front) x) (same_Some j last is) kept)
    go front (e ∷ rest) j all leads kept is =
        option_and_then_some (λ next. judged_from next rest) (accepts j e) last is (λ next comes more.
        let whole : Reaches script files (front ++ e ∷ rest) last = subst (λ (es : List Event). Reaches script files es last) (sym all) h in
        let joined : (front ++ e ∷ []) ++ rest ≡ front ++ e ∷ rest = append_assoc front (e ∷ []) rest in
        let then = one_leads (session_opening script files) j next front e leads comes in
        let walked : Walks script files front e j next = record {
          before = front_reaches script files front (e ∷ rest) j last leads whole;
          after = front_reaches script files (front ++ e ∷ []) rest next last then (subst (λ (es : List Event). Reaches script files es last) (sym joined) whole);
          comes = comes;
          direct = direct_next front rest e 0 (session_opening script files) j leads whole.runs.direct;
          happens = one_happens script files front e j next leads comes;
        } in
        go (front ++ e ∷ []) rest next (joined ∙ all) then
        (subst (λ (n : ℕ). Kept n next) (sym (taken_end 0 front e)) (step front e j next walked kept)) more)
