-- A lawful run of few objects is lawful with its tail.
use Rattle.std.proofs.Common.{◌≡◌, ℕ, List, [], ◌∷◌, ◌++◌, length, None, Some, sym, ap, ◌∙◌, subst, arith}
use Rattle.std.specs.Prelude.{find, ◌==◌}
use Rattle.norm_base.specs.Settings.{Settings, InRange}
use Rattle.norm_order.specs.Entries.{Entry}
use Rattle.norm_send_rules.specs.Restarting.{instances}
use Rattle.norm_send_rules.specs.SenderState.{SenderState, Instance}
use Rattle.norm_safety.specs.Events.{Event}
use Rattle.norm_safety.specs.InTime.{Honest, accepted_in, FewObjects}
use Rattle.norm_safety.specs.Jobs.{AreEvents}
use Rattle.norm_safety.specs.OnceEach.{order_of}
use Rattle.norm_safety.specs.Tail.{Course, events_of}
use Rattle.norm_safety.specs.World.{World, world_opening}
use Rattle.norm_safety.specs.WorldStep.{run_from, run}
use Rattle.norm_safety.proofs.InTime.{time_laws}
use Rattle.norm_safety.proofs.OnceRun.{lawful_honest}
use Rattle.norm_recovery.specs.TailKeeps.{Stays}
use Rattle.norm_recovery.specs.TailLawful.{MayGoOn, GoesOn, TailIsLawful}
use Rattle.norm_recovery.proofs.KeepsSender.{quiet_run_stays}
use Rattle.norm_recovery.proofs.TailCourses.{run_joined, honest_joined, quiet_events, IsCalm, run_tail_calm}

events_joined : (xs ys : List Event) → AreEvents xs → AreEvents ys → AreEvents (xs ++ ys)
events_joined [] ys h g = g
events_joined (x ∷ xs) ys h g = (h.0, events_joined xs ys h.1 g)

pub same_instances : (s t : SenderState) → Stays s t → instances t ≡ instances s
same_instances s t h = ap (λ (xs : List Instance). xs ++ t.current ∷ []) h.earlier ∙ ap (λ (x : Instance). s.earlier ++ x ∷ []) h.current

-- the order of an instance among these
abbrev order_in : List Instance → ℕ → List Entry
order_in all id = elim (find (λ (i : Instance). i.id == id) all) [ Some i ↦ i.order | None ↦ [] ]

-- no instance gets an object
pub few_still : (s t : SenderState) → Stays s t → FewObjects s → FewObjects t
few_still s t h few id =
    let same : order_of t id ≡ order_of s id = ap (λ (all : List Instance). order_in all id) (same_instances s t h) in
    let le = few id in let long = ap length same in omega (arith, le, long)

pub goes_on : (p : Settings) → InRange p → (events : List Event) → MayGoOn p events → (c : Course) → IsCalm p (run p events) c → GoesOn p events c
goes_on p range events may c h =
    let leads : run p (events ++ events_of c) ≡ c.world = run_joined p (world_opening p) events (events_of c) ∙ h.leads in
    let few : FewObjects (run p (events ++ events_of c)).sender =
    subst (λ (v : World). FewObjects v.sender) (sym (run_joined p (world_opening p) events (events_of c)))
    (few_still (run p events).sender (run_from p (run p events) (events_of c)).sender (quiet_run_stays p (run p events) (events_of c) h.quiet) may.few) in
    let honest : Honest p (events ++ events_of c) =
    honest_joined p (world_opening p) [] events (events_of c) (lawful_honest p events may.lawful) (h.honest (accepted_in p events)) in
    let jobs : AreEvents (events ++ events_of c) = events_joined events (events_of c) may.jobs (quiet_events (events_of c) h.quiet) in
    record {
      leads = leads;
      again = record { lawful = time_laws.lawful p range (events ++ events_of c) honest jobs few; jobs = jobs; few = few };
    }

pub tail_is_lawful : TailIsLawful
tail_is_lawful p range events may c tail = goes_on p range events may c (run_tail_calm p events c tail)
