-- At each moment of a steady session over a direct network nothing is needed.
use Rattle.std.proofs.Common.{◌≡◌, ℕ, cond, List, [], ◌∷◌, ◌++◌, Bool, true, false, None, Some, refl, sym, ap, ◌∙◌, subst, inl}
use Rattle.std.specs.Prelude.{◌==◌, ◌||◌, map, ⊤}
use Rattle.std.specs.List.{AllByRecursion}
use Rattle.norm_base.specs.Members.{receivers_of}
use Rattle.norm_base.specs.Settings.{Settings, InRange}
use Rattle.norm_base.specs.declared.node.Origin.{Origin}
use Rattle.norm_ext.specs.Written.{Written}
use Rattle.norm_order.specs.Sets.{is_member}
use Rattle.norm_receive_rules.specs.ReceiverState.{ReceiverState, receiver_opening}
use Rattle.norm_receive_rules.proofs.FarLemmas.{far_laws}
use Rattle.norm_send_rules.specs.SenderState.{sender_opening}
use Rattle.norm_send_rules.specs.SenderStep as sender
use Rattle.norm_safety.specs.Events.{Event}
use Rattle.norm_safety.specs.History.{Happening}
use Rattle.norm_safety.specs.Jobs.{AreEvents}
use Rattle.norm_safety.specs.Lawful.{LawfulFrom, accepted_with}
use Rattle.norm_safety.specs.World.{World, world_opening, receiver_at}
use Rattle.norm_safety.specs.WorldLaws.{nodes_of}
use Rattle.norm_safety.specs.WorldStep.{world_step, run_from, run}
use Rattle.norm_safety.proofs.EntryLemmas.{clash}
use Rattle.norm_safety.proofs.OrderRun.{happening, event_holds, opening_world}
use Rattle.norm_safety.proofs.WorldHolds.{WorldHolds}
use Rattle.norm_safety.proofs.WorldLemmas.{world_laws}
use Rattle.norm_safety.proofs.WorldMoves.{at_node}
use Rattle.norm_script.specs.Commands.{Commands}
use Rattle.norm_journal.specs.declared.event.Event.{Event as JournalEvent}
use Rattle.norm_journal.specs.Jobs.{Told}
use Rattle.norm_journal.specs.Judged.{Judged}
use Rattle.norm_journal.specs.WorldEvents.{world_events}
use Rattle.norm_journal.proofs.WorldLemmas.{moves_world}
use Rattle.norm_laws.specs.HandedUp.{Passing, passing_after}
use Rattle.norm_laws.proofs.HeldRoom.{fits_opening}
use Rattle.norm_laws.proofs.HeldWindow.{fits_step}
use Rattle.norm_laws.proofs.IdleRun.{Kept, event_keeps, opening_kept}
use Rattle.norm_laws.proofs.PassingRun.{HasAt, Passed, event_passes}
use Rattle.norm_laws.proofs.PassingTicks.{Same}
use Rattle.norm_laws.proofs.SentRests.{rests_itself}
use Rattle.norm_recovery.specs.Steady.{IsPlain}
use Rattle.norm_recovery.specs.SteadyNothing.{IsNoNack, NothingNeeded, NothingIsNeeded}
use Rattle.norm_recovery.specs.SteadyPasses.{session_opening, RunsDirectly}
use Rattle.norm_recovery.proofs.DirectHands.{begins_walking, begun_is, coming}
use Rattle.norm_recovery.proofs.DirectKept.{no_sender}
use Rattle.norm_recovery.proofs.DirectPasses.{PassesTo, walk_passes}
use Rattle.norm_recovery.proofs.DirectTakes.{is_one}
use Rattle.norm_recovery.proofs.LeftComes.{Fit, event_fits}
use Rattle.norm_recovery.proofs.SteadyCalm.{NoNack, CalmWorld, event_calm, opening_calm, calm_needs_none}
use Rattle.norm_recovery.proofs.SteadyJobs.{IsPlainEvent, events_plain}

-- ---- along the run

-- what is kept of a world that a run comes to
pub record Along (p : Settings) (past : List Happening) (accepted : List Origin) (w : World) (x : Passing) : Type 0 where
  pub holds : WorldHolds p past accepted w
  pub kept : Kept p w.sender
  pub fit : Fit p w.sender
  pub nodes : nodes_of w ≡ receivers_of p p.receivers
  pub passed : Passed p w x
  pub calm : CalmWorld p w

-- the same at the end of some events
pub record Ended (p : Settings) (w : World) : Type 0 where
  pub past : List Happening
  pub accepted : List Origin
  pub passing : Passing
  pub along : Along p past accepted w passing

-- a receiver's node is one of those that there are
found_one : (rs : List ReceiverState) (node : ℕ) (r : ReceiverState) → at_node rs node ≡ Some r → is_one node (map (λ (a : ReceiverState). a.node) rs) ≡ true
found_one [] node r e = absurd (none e)
  where
    none : None ≡ Some r → ⊥
    none e = cc
found_one (a ∷ rs) node r e = go (a.node == node) e (λ more. found_one rs node r more)
  where
    go : (b : Bool) → cond b (Some a) (at_node rs node) ≡ Some r → (at_node rs node ≡ Some r → is_one node (map (λ (a : ReceiverState). a.node) rs) ≡ true)
        → (b || is_one node (map (λ (a : ReceiverState). a.node) rs)) ≡ true
    go true e more = refl
    go false e more = more e

-- no receiver has the sender's node
pub apart : (p : Settings) (w : World) → nodes_of w ≡ receivers_of p p.receivers → (node : ℕ) (r : ReceiverState) → receiver_at w node ≡ Some r → (node == p.sender) ≡ false
apart p w nodes node r found = no_sender p node (ap (is_one node) (sym nodes) ∙ found_one w.receivers node r found)

pub runs_along : (Ends : World → Passing → Type 0) (p : Settings) → InRange p → (past : List Happening) (accepted : List Origin) (w : World) (x : Passing) (events : List Event)
    → LawfulFrom p w accepted events → AreEvents events → AllByRecursion IsPlainEvent events → PassesTo Ends p w x events → Along p past accepted w x
    → Ended p (run_from p w events)
runs_along Ends p range past accepted w x [] lawful are plain on h = record { past = past; accepted = accepted; passing = x; along = h }
runs_along Ends p range past accepted w x (e ∷ events) lawful are plain on h =
    let step = world_step p w e in
    let after : List Happening = past ++ happening w e step ∷ [] in
    let known : List Origin = accepted_with accepted e step.1 in
    let holds : WorldHolds p after known step.0 = event_holds p range past accepted w e lawful.0 are.0 h.holds in
    let kept = event_keeps p range w e h.kept in
    let passed = event_passes p range past accepted w x e lawful.0 h.holds h.kept.sent.gone
    (λ now. fits_step p range w.sender (sender.Ticked now) h.fit.drops h.fit.fits) on.0 (record { past = after; accepted = known; holds = holds }) h.passed in
    runs_along Ends p range after known step.0 (passing_after p w x e step.1) events lawful.1 are.1 plain.1 on.1 (record {
      holds = holds;
      kept = kept;
      fit = event_fits p range w e h.fit;
      nodes = world_laws.stays p w e ∙ h.nodes;
      passed = passed;
      calm = event_calm p range past accepted w x e lawful.0 are.0 plain.0 (apart p w h.nodes) h.holds h.kept after known holds kept passed h.calm;
    })

-- as a world begins
opening_passed : (p : Settings) → InRange p → Passed p (world_opening p) (record { last = None; heard = [] })
unfolding is_member
opening_passed p range = record {
  ticked = sender_opening p p.instance;
  stands = record { past = []; accepted = []; holds = opening_world p range };
  fits = fits_opening p p.instance;
  sits = Same (rests_itself (sender_opening p p.instance));
  last = tt;
  nodes = λ node apart. at node (receivers_of p p.receivers);
}
  where
    x : Passing
    x = record { last = None; heard = [] }

    begun : (node n : ℕ) → HasAt p (sender_opening p p.instance) x [] [] node (Some (receiver_opening n))
    begun node n = record {
      has = record {
        symbols = λ at e. absurd (clash e);
        infos = λ index e. absurd (clash e);
        past = inl refl;
        lost = refl;
        apart = tt;
        far = far_laws.begins p n;
        below = tt;
      };
      offered = tt;
      given = tt;
    }

    at : (node : ℕ) (nodes : List ℕ) → HasAt p (sender_opening p p.instance) x [] [] node (at_node (map receiver_opening nodes) node)
    at node [] = tt
    at node (n ∷ nodes) = by (n == node) (at node nodes)
      where
        by : (b : Bool) → HasAt p (sender_opening p p.instance) x [] [] node (at_node (map receiver_opening nodes) node)
            → HasAt p (sender_opening p p.instance) x [] [] node (cond b (Some (receiver_opening n)) (at_node (map receiver_opening nodes) node))
        by true rest = begun node n
        by false rest = rest

pub opening_along : (p : Settings) → InRange p → Along p [] [] (world_opening p) (record { last = None; heard = [] })
opening_along p range = record {
  holds = opening_world p range;
  kept = opening_kept p;
  fit = record { drops = (opening_kept p).drops; fits = fits_opening p p.instance };
  nodes = world_laws.nodes p [];
  passed = opening_passed p range;
  calm = opening_calm p;
}

-- ---- the law

no_nacks : (said more : List (ℕ × Written)) → AllByRecursion NoNack said → AllByRecursion NoNack more
    → AllByRecursion (λ (o : ℕ × Written). IsNoNack o.1.message) (said ++ more)
no_nacks [] [] all rest = tt
no_nacks [] (o ∷ more) all rest = (rest.0.0, no_nacks [] more tt rest.1)
no_nacks (o ∷ said) more all rest = (all.0.0, no_nacks said more all.1 rest)

along_needs_none : (p : Settings) → InRange p → (w : World) → Ended p w → NothingNeeded p w
along_needs_none p range w ended = record {
  receivers = λ node r found. (
      let a = ended.along in calm_needs_none p range ended.past ended.accepted w a.holds a.calm node r found (apart p w a.nodes node r found)
      );
  sender = ended.along.calm.asks;
  said = no_nacks w.offered w.given ended.along.calm.offered ended.along.calm.given;
}

-- What is kept at each moment of a session over a direct network, of data, files and marks alone.
pub session_along : (script : Commands) (files : Told) (events : List JournalEvent) (last : Judged) → RunsDirectly script files events last
    → AllByRecursion IsPlain script.lines → Ended script.profile last.world
session_along script files events last runs lines =
    let p : Settings = script.profile in
    let j : Judged = session_opening script files in
    let happened : List Event = world_events j events in
    let world : run p happened ≡ last.world = moves_world j last events runs.leads in
    let x : Passing = record { last = None; heard = [] } in
    let begun = begun_is script files events last _ runs.leads in
    let c = coming script files events last runs in
    let plain = events_plain script files (receivers_of p p.receivers) events lines begun in
    let on = walk_passes (λ w y. ⊤) events 0 j last runs.leads runs.direct (λ past accepted taken y k. tt) [] [] x c
    (begins_walking script files runs.can_run.range) in
    subst (Ended p) world
    (runs_along (λ w y. ⊤) p runs.can_run.range [] [] (world_opening p) x happened c.lawful c.jobs plain on (opening_along p runs.can_run.range))

pub nothing_is_needed : NothingIsNeeded
nothing_is_needed script files events last runs steady =
    along_needs_none script.profile runs.can_run.range last.world (session_along script files events last runs steady.commands)
