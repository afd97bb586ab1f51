-- A script's run up to the end of its last turn, and its summary.
use Rattle.std.proofs.Common.{◌≡◌, ℕ, ◌∙◌, Bool, true, ap, subst, sym, arith}
use Rattle.std.specs.Prelude.{◌==◌, ◌&&◌, ◌||◌, min, nat_le, Result, Ok, Err, OnOk, IfOk}
use Rattle.std.specs.Result.{result_and}
use Rattle.norm_base.specs.Network.{Network}
use Rattle.norm_base.specs.Told.{Pieces}
use Rattle.norm_script.specs.Commands.{Commands}
use Rattle.norm_script.specs.Scripts.{CanRun}
use Rattle.norm_journal.specs.Jobs.{Told}
use Rattle.norm_turns.specs.Causes.{Counted, HasCause}
use Rattle.norm_base.specs.Settings.{Settings}
use Rattle.norm_journal.specs.Judged.{is_whole}
use Rattle.norm_journal.specs.Places.{Between}
use Rattle.norm_session.specs.Context.{Context, with_moments, with_posted, judged_of}
use Rattle.norm_session.specs.Finishing.{HasEnded, TurnedScript}
use Rattle.norm_session.specs.RunKept.{RunKept}
use Rattle.norm_session.specs.Session.{RunsKept, StopsScript}
use Rattle.norm_session.specs.Stopping.{Stopped}
use Rattle.norm_session.specs.Turning.{AtLast, AtTurn, Span}
use Rattle.norm_turns.specs.declared.fault.SessionFault.{SessionFault}
use Rattle.norm_session.proofs.SessionLemmas.{script_runs, script_stops}

-- a run is answered where its turns were made, and else why they were not
pub turned_and : {X A : Type 0} (P : X → Type 0) (turned : Result (Unit {0}) SessionFault) (x : X) (result : Result X SessionFault)
    → result ≡ result_and turned (Ok x) → (A → P x) → OnOk turned A → IfOk result P
turned_and {X} {A} P (Ok u) x result is f h = subst (λ (r : Result X SessionFault). IfOk r P) (sym is) (f h)
turned_and {X} {A} P (Err e) x result is f h = subst (λ (r : Result X SessionFault). IfOk r P) (sym is) tt

pub turned_cause : {X : Type 0} (turned : Result (Unit {0}) SessionFault) (x : X) (result : Result X SessionFault) (before between now : Counted)
    → result ≡ result_and turned (Ok x) → between ≡ before → HasCause turned between now → HasCause result before now
turned_cause {X} (Ok u) x result before between now is same cause =
    subst (λ (r : Result X SessionFault). HasCause r before now) (sym is) (cause ∙ same)
turned_cause {X} (Err e) x result before between now is same cause =
    subst (λ (r : Result X SessionFault). HasCause r before now) (sym is)
    (subst (λ (b : Counted). HasCause {T = X} (Err e) b now) same cause)

-- a run that goes no further than its profile's last turn is at the end of its last
at_last : (x : Context) (until : ℕ) (k : RunKept) (network : Network) (written : Pieces) → until ≡ x.script.profile.turns → AtTurn until x k network written
    → AtLast x k network written
at_last x until k network written is a =
    let whole = is_whole (judged_of x k a.here.world Between) in
    let most : min until k.p.turns ≡ k.p.turns =
    ap (λ n. min n k.p.turns) (is ∙ ap (λ (p : Settings). p.turns) (sym a.here.so_far.all.script)) ∙ same k.p.turns in
    record { here = a.here; done = subst (λ n. (nat_le 1 k.turn && (whole || k.turn == n)) ≡ true) most a.done }
  where
    same : (n : ℕ) → min n n ≡ n
    same n = omega arith

-- with its summary it is a whole run
pub turned_runs : (alone : Bool) (script : Commands) (files : Told) (until : ℕ) (k new : RunKept) (whole : Bool) (o : Span) (written : Pieces)
    → until ≡ script.profile.turns → TurnedScript alone script files until k o
    → ((x : Context) (network : Network) → AtLast x k network o.written → x.script ≡ script → HasEnded x new whole network written)
    → CanRun script → RunsKept alone script files new.journal whole (record o { written = written })
turned_runs alone script files until k new whole o written all t ends can =
    script_runs alone script files t.started t.begun new whole (record o { written = written }) t.starts t.begins (
      t.turns.0,
      λ x over none here.
          let l = t.turns.1 x over none here in
          let y = with_moments (with_posted x o.posted) t.turns.0 in
          (l.0, ends y o.after (at_last y until k o.after o.written (all ∙ ap (λ (c : Commands). c.profile.turns) (sym over.script)) l.1) over.script),
    ) can

-- or its summary was broken off
pub turned_stops : (alone : Bool) (script : Commands) (files : Told) (until : ℕ) (k : RunKept) (failed : SessionFault) (o : Span) (written : Pieces)
    → until ≡ script.profile.turns → TurnedScript alone script files until k o
    → ((x : Context) (network : Network) → AtLast x k network o.written → Stopped x failed network written)
    → CanRun script → StopsScript alone failed script files (record o { written = written })
turned_stops alone script files until k failed o written all t stops can =
    script_stops alone script files t.started t.begun failed (record o { written = written }) t.starts t.begins (
      t.turns.0,
      λ x over none here.
          let l = t.turns.1 x over none here in
          let y = with_moments (with_posted x o.posted) t.turns.0 in
          (l.0, stops y o.after (at_last y until k o.after o.written (all ∙ ap (λ (c : Commands). c.profile.turns) (sym over.script)) l.1)),
    ) can
