-- A session that stopped between two turns.
use Rattle.std.proofs.Common.{◌≡◌, ◌∙◌, ℕ, List, Bool, false, Some, refl, sym, ap, subst}
use Rattle.std.specs.Prelude.{IsSome}
use Rattle.std.proofs.lemmas.Option.{same_Some}
use Rattle.norm_base.specs.Network.{Network}
use Rattle.norm_base.specs.Settings.{Settings}
use Rattle.norm_base.specs.Told.{Pieces, gained}
use Rattle.norm_script.specs.Commands.{Commands}
use Rattle.norm_script.specs.Scripts.{CanRun}
use Rattle.norm_journal.specs.declared.event.Event.{Event}
use Rattle.norm_journal.specs.Accepting.{judged_from}
use Rattle.norm_journal.specs.Jobs.{Told}
use Rattle.norm_journal.specs.Judged.{Judged}
use Rattle.norm_journal.specs.Places.{Between}
use Rattle.norm_journal.specs.Printed.{lines_from}
use Rattle.norm_journal.specs.Projections.{moments_in, network_after}
use Rattle.norm_journal.specs.WorldEvents.{TakesDirectly}
use Rattle.norm_journal.proofs.WorldLemmas.{moves_world}
use Rattle.norm_safety.specs.WorldStep.{run}
use Rattle.norm_world.specs.WorldKept.{WorldKept, StandsFor, HasRun, IsReady}
use Rattle.norm_session.specs.Context.{Context, with_moments, with_posted, judged_of}
use Rattle.norm_session.specs.Finishing.{TurnedScript}
use Rattle.norm_session.specs.Moments.{HaveMoments}
use Rattle.norm_session.specs.Noting.{kept_of}
use Rattle.norm_session.specs.Pausing.{IsTakenApart, PausesSession}
use Rattle.norm_session.specs.Posting.{entries_in, posting}
use Rattle.norm_session.specs.RunKept.{RunKept}
use Rattle.norm_session.specs.Session.{OverHonest, OverDirect, IsSafeThroughout, context_of, session_opening, session_events}
use Rattle.norm_session.specs.SoFar.{At}
use Rattle.norm_session.specs.Turning.{AtTurn, FollowMoments, Span}
use Rattle.norm_session.specs.declared.pausing.Paused.{Paused}
use Rattle.norm_session.proofs.DirectLemmas.{direct_over}
use Rattle.norm_session.proofs.SessionLemmas.{leads_safely}

-- the run of all members stands at its last turn, over the context that it was begun in
stands : (script : Commands) (files : Told) (until : ℕ) (k : RunKept) (o : Span) (t : TurnedScript false script files until k o)
    → FollowMoments (context_of false script files t.started o.unwritten o.unposted) o.unasked o.asked t.turns.0
    × AtTurn until (with_moments (with_posted (context_of false script files t.started o.unwritten o.unposted) o.posted) t.turns.0) k o.after o.written
stands script files until k o t =
    let x = context_of false script files t.started o.unwritten o.unposted in
    t.turns.1 x (record { script = refl; files = refl }) refl
    (t.begins x (record { script = refl; is_alone = refl; nodes = refl; network = refl; moments = refl; board = refl }))

-- all of its journal is kept
kept_all : (x : Context) (k : RunKept) (network : Network) (written : Pieces) (here : At x k Between network written) → x.alone ≡ false
    → k.journal ≡ Some here.so_far.journal
kept_all x k network written here all = go k.alone here.so_far.kept (here.so_far.all.alone ∙ all)
  where
    go : (alone : Bool) → k.journal ≡ kept_of alone here.so_far.journal → alone ≡ false → k.journal ≡ Some here.so_far.journal
    go alone kept is = subst (λ b. k.journal ≡ kept_of b here.so_far.journal) is kept

pub keeps_all : (script : Commands) (files : Told) (until : ℕ) (k : RunKept) (o : Span) → TurnedScript false script files until k o → IsSome k.journal
keeps_all script files until k o t =
    let l = (stands script files until k o t).1 in
    let y = with_moments (with_posted (context_of false script files t.started o.unwritten o.unposted) o.posted) t.turns.0 in
    subst IsSome (sym (kept_all y k o.after o.written l.here refl)) refl

-- what stands for the judge's world stands for the journal's events in the nodes' world
has_run : (script : Commands) (files : Told) (k : WorldKept) (journal : List Event) (state : Judged) → k.p ≡ script.profile
    → judged_from (session_opening script files) journal ≡ Some state → StandsFor k state.world → HasRun k (session_events script files journal)
has_run script files k journal state profile begun stands =
    subst (λ (p : Settings). StandsFor k (run p (session_events script files journal))) (sym profile)
    (subst (λ w. StandsFor k w) (sym (moves_world (session_opening script files) state journal begun)) stands)

-- by the journal that was kept
pub pauses : (script : Commands) (until : ℕ) (files : Told) (k : RunKept) (o : Span) (p : Paused) (t : TurnedScript false script files until k o)
    → IsTakenApart script k p → CanRun script → PausesSession script files until p o
pauses script until files k o p t apart can =
    let s = stands script files until k o t in
    let y = with_moments (with_posted (context_of false script files t.started o.unwritten o.unposted) o.posted) t.turns.0 in
    let here = s.1.here in
    let l = here.so_far.leads in
    let state = judged_of y k here.world Between in
    let same : here.so_far.journal ≡ p.journal = same_Some here.so_far.journal p.journal (sym (kept_all y k o.after o.written here refl) ∙ apart.journal) in
    let profile : p.world.p ≡ script.profile = ap (λ (w : WorldKept). w.p) apart.world ∙ here.so_far.all.world ∙ here.so_far.all.script in
    let begun = subst (λ js. judged_from (session_opening script files) js ≡ Some state) same l.judged in
    record {
      started = t.started;
      starts = t.starts;
      state = state;
      begun = begun;
      place = refl;
      quiet = here.quiet;
      done = s.1.done;
      reads = record {
        whole = apart.whole y here.world Between here.so_far.all refl here.so_far.stands;
        waiting = apart.waiting y here.world Between refl;
        turn = apart.turn;
        last = apart.last;
        counts = apart.counts;
        draws = apart.draws;
      };
      profile = profile;
      ready = subst IsReady (sym apart.world) apart.ready;
      nodes = has_run script files p.world p.journal state profile begun (subst (λ w. StandsFor w here.world) (sym apart.world) here.so_far.stands);
      told = subst (λ js. o.after ≡ network_after t.started js) same l.told;
      lines = subst (λ js. o.written ≡ gained o.unwritten (lines_from (session_opening script files) js)) same l.lines;
      board = subst (λ js. o.posted ≡ posting o.unposted (entries_in js)) same l.board;
      moments = subst (λ js. HaveMoments script.profile.step 0 o.unasked o.asked (moments_in js)) same
          (subst (λ ms. HaveMoments script.profile.step 0 o.unasked o.asked ms) (sym l.moments) s.0);
      safe = subst (λ js. OverHonest t.started (IsSafeThroughout script files js)) same
          (leads_safely script files o.before t.started o.unwritten o.unposted o.posted can t.starts t.turns.0 here.so_far.journal state o.after o.written l);
      direct = subst (λ js. OverDirect o.before t.started (TakesDirectly 0 (session_opening script files) js)) same
          (direct_over script files o.before t.started here.so_far.journal state t.starts l.judged l.taken);
    }
