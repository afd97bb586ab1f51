-- A whole session.
use Rattle.std.proofs.Common.{◌≡◌, ◌∙◌, ℕ, List, Bool, true, false, Some, refl, sym, ap, subst, inl, inr}
use Rattle.std.specs.Prelude.{◌⊎◌, Option, Result, Ok, Err, IfOk, IfErr}
use Rattle.std.proofs.lemmas.Result.{IfOk-at_ok, IfErr-at_err}
use Rattle.norm_base.specs.Network.{Network, Starts}
use Rattle.norm_base.specs.Told.{Pieces}
use Rattle.norm_base.specs.declared.kinds.Local.TheVariants.{All, One}
use Rattle.norm_script.specs.Commands.{Commands}
use Rattle.norm_script.specs.Scripts.{CanRun}
use Rattle.norm_journal.specs.declared.event.Event.{Event}
use Rattle.norm_journal.specs.Jobs.{Told}
use Rattle.norm_journal.specs.Judged.{Judged, is_whole}
use Rattle.norm_journal.specs.Places.{Between, Over}
use Rattle.norm_journal.specs.SessionRun.{Whole, Spent, ending_of}
use Rattle.norm_turns.specs.Causes.{Counted, HasCause}
use Rattle.norm_session.specs.Context.{Context, with_moments, with_posted, judged_of}
use Rattle.norm_session.specs.Finishing.{HasEnded, Finishes}
use Rattle.norm_session.specs.Moments.{HaveMoments}
use Rattle.norm_session.specs.Noting.{kept_of}
use Rattle.norm_session.specs.RunKept.{RunKept}
use Rattle.norm_session.specs.SoFar.{Leads, At}
use Rattle.norm_session.specs.Starting.{IsBegun, local_of}
use Rattle.norm_session.specs.Session.{OverHonest, IsSafeThroughout, RunsKept, StopsSession, StopsSender, StopsScript, context_of, end_of}
use Rattle.norm_session.specs.Turning.{Span, span, StopsTurns}
use Rattle.norm_turns.specs.declared.fault.SessionFault.{SessionFault}
use Rattle.norm_session.specs.declared.session.Made.{Made}
use Rattle.norm_turns.specs.declared.fault.SessionFault.TheVariants as fault
use Rattle.norm_session.proofs.DirectLemmas.{direct_over}
use Rattle.norm_session.proofs.SafeLemmas.{safe_over, safe_stopped}
use Rattle.norm_session.specs.Stopping.{Stopped}
use Rattle.producer_gate.specs.Boards.{BoardState}

-- a run begins where the network was started
abbrev Begins : Bool → Commands → RunKept → Network → Type 0
Begins alone script k started = (x : Context) → IsBegun x script alone started → At x k Between started x.written

-- what leads somewhere was safe at each moment
abbrev pub LeadsSafely : Context → Type 0
LeadsSafely x = (journal : List Event) (j : Judged) (network : Network) (written : Pieces) → Leads x journal j network written
    → OverHonest x.network (IsSafeThroughout x.script x.files journal)

-- what a fault stopped was
abbrev pub StopsSafely : Context → Type 0
StopsSafely x = (failed : SessionFault) (network : Network) (written : Pieces) (s : Stopped x failed network written)
    → OverHonest x.network (IsSafeThroughout x.script x.files s.journal)

-- what a session leads to was safe at each moment, and what a fault stops, where it began over a network that was just started
pub leads_safely : (script : Commands) (files : Told) (before started : Network) (unwritten : Pieces) (unposted posted : BoardState) → CanRun script
    → Starts before started script.profile All → (ms : List ℕ) → LeadsSafely (with_moments (with_posted (context_of false script files started unwritten unposted) posted) ms)
leads_safely script files before started unwritten unposted posted is starts ms journal j network written l =
    safe_over (with_moments (with_posted (context_of false script files started unwritten unposted) posted) ms) journal j network written l refl is starts.offered

pub stops_safely : (script : Commands) (files : Told) (before started : Network) (unwritten : Pieces) (unposted posted : BoardState) → CanRun script
    → Starts before started script.profile All → (ms : List ℕ) → StopsSafely (with_moments (with_posted (context_of false script files started unwritten unposted) posted) ms)
stops_safely script files before started unwritten unposted posted is starts ms failed network written s =
    safe_stopped (with_moments (with_posted (context_of false script files started unwritten unposted) posted) ms) failed network written s refl is starts.offered

-- what was kept of its journal, where the sender was alone and where not
kept_by : (x : Context) (k : RunKept) (alone : Bool) (network : Network) (written : Pieces) (here : At x k Over network written) → x.alone ≡ alone
    → k.journal ≡ kept_of alone here.so_far.journal
kept_by x k alone network written here is = here.so_far.kept ∙ ap (λ b. kept_of b here.so_far.journal) (here.so_far.all.alone ∙ is)

how_it_ended : (x : Context) (k : RunKept) (whole : Bool) (network : Network) (written : Pieces) (e : HasEnded x k whole network written)
    → ending_of (judged_of x k e.here.world Over) ≡ Some (end_of whole)
how_it_ended x k whole network written e = go whole (is_whole (judged_of x k e.here.world Over)) e.whole_is
  where
    go : (whole test : Bool) → test ≡ whole → elim test [ true ↦ Some Whole | false ↦ Some Spent ] ≡ Some (end_of whole)
    go true true is = refl
    go false false is = refl
    go true false is = absurd (cc)
    go false true is = absurd (cc)

-- a session that ran to its end
session_runs : (script : Commands) (files : Told) (started : Network) (begun k : RunKept) (whole : Bool) (o : Span)
    → Starts o.before started script.profile All → Begins false script begun started
    → Finishes script files begun k whole (span started o.after o.unwritten o.written o.unasked o.asked o.unposted o.posted)
    → CanRun script → RunsKept false script files k.journal whole o
session_runs script files started begun k whole o starts begins finishes is =
    let x = context_of false script files started o.unwritten o.unposted in
    let f = finishes.1 x (record { script = refl; files = refl }) refl (begins x (record { script = refl; is_alone = refl; nodes = refl; network = refl; moments = refl; board = refl })) in
    let y = with_moments (with_posted x o.posted) finishes.0 in
    let e = f.1 in
    let journal = e.here.so_far.journal in
    let l = e.here.so_far.leads in
    record {
      journal = journal;
      kept_is = kept_by y k false o.after o.written e.here refl;
      run = record {
        started = started;
        starts = starts;
        run = record { last = judged_of y k e.here.world Over; begun = l.judged; ended = how_it_ended y k whole o.after o.written e };
        told = l.told;
        lines = l.lines;
        board = l.board;
        moments = subst (λ ms. HaveMoments script.profile.step 0 o.unasked o.asked ms) (sym l.moments) f.0;
        safe = leads_safely script files o.before started o.unwritten o.unposted o.posted is starts finishes.0 journal (judged_of y k e.here.world Over) o.after o.written l;
        direct = direct_over script files o.before started journal (judged_of y k e.here.world Over) starts l.judged l.taken;
      };
    }

-- the same of a sender alone
sender_runs : (script : Commands) (files : Told) (started : Network) (begun k : RunKept) (whole : Bool) (o : Span)
    → Starts o.before started script.profile (One script.profile.sender) → Begins true script begun started
    → Finishes script files begun k whole (span started o.after o.unwritten o.written o.unasked o.asked o.unposted o.posted) → RunsKept true script files k.journal whole o
sender_runs script files started begun k whole o starts begins finishes =
    let x = context_of true script files started o.unwritten o.unposted in
    let f = finishes.1 x (record { script = refl; files = refl }) refl (begins x (record { script = refl; is_alone = refl; nodes = refl; network = refl; moments = refl; board = refl })) in
    let y = with_moments (with_posted x o.posted) finishes.0 in
    let e = f.1 in
    let l = e.here.so_far.leads in
    record {
      journal = e.here.so_far.journal;
      kept_is = kept_by y k true o.after o.written e.here refl;
      run = record {
        started = started;
        starts = starts;
        run = record { last = judged_of y k e.here.world Over; begun = l.judged; ended = how_it_ended y k whole o.after o.written e };
        told = l.told;
        lines = l.lines;
        board = l.board;
        moments = subst (λ ms. HaveMoments script.profile.step 0 o.unasked o.asked ms) (sym l.moments) f.0;
      };
    }

-- a run of a script that ran to its end
pub script_runs : (alone : Bool) (script : Commands) (files : Told) (started : Network) (begun k : RunKept) (whole : Bool) (o : Span)
    → Starts o.before started script.profile (local_of alone script.profile) → Begins alone script begun started
    → Finishes script files begun k whole (span started o.after o.unwritten o.written o.unasked o.asked o.unposted o.posted) → CanRun script
    → RunsKept alone script files k.journal whole o
script_runs true script files started begun k whole o starts begins finishes is = sender_runs script files started begun k whole o starts begins finishes
script_runs false script files started begun k whole o starts begins finishes is = session_runs script files started begun k whole o starts begins finishes is

-- a session that a fault broke off
session_stops : (script : Commands) (files : Told) (started : Network) (begun : RunKept) (failed : SessionFault) (o : Span)
    → Starts o.before started script.profile All → Begins false script begun started
    → StopsTurns script files begun failed (span started o.after o.unwritten o.written o.unasked o.asked o.unposted o.posted)
    → CanRun script → StopsSession failed script files o
session_stops script files started begun failed o starts begins stops is =
    let x = context_of false script files started o.unwritten o.unposted in
    let f = stops.1 x (record { script = refl; files = refl }) refl (begins x (record { script = refl; is_alone = refl; nodes = refl; network = refl; moments = refl; board = refl })) in
    inr (record {
      started = started;
      starts = starts;
      moments = stops.0;
      by_clock = f.0;
      stopped = f.1;
      safe = stops_safely script files o.before started o.unwritten o.unposted o.posted is starts stops.0 failed o.after o.written f.1;
      direct = direct_over script files o.before started f.1.journal f.1.last starts f.1.begun f.1.taken;
    })

-- the same of a sender alone
sender_stops : (script : Commands) (files : Told) (started : Network) (begun : RunKept) (failed : SessionFault) (o : Span)
    → Starts o.before started script.profile (One script.profile.sender) → Begins true script begun started
    → StopsTurns script files begun failed (span started o.after o.unwritten o.written o.unasked o.asked o.unposted o.posted) → StopsSender failed script files o
sender_stops script files started begun failed o starts begins stops =
    let x = context_of true script files started o.unwritten o.unposted in
    let f = stops.1 x (record { script = refl; files = refl }) refl (begins x (record { script = refl; is_alone = refl; nodes = refl; network = refl; moments = refl; board = refl })) in
    inr (record { started = started; starts = starts; moments = stops.0; by_clock = f.0; stopped = f.1 })

-- a run of a script that a fault broke off
pub script_stops : (alone : Bool) (script : Commands) (files : Told) (started : Network) (begun : RunKept) (failed : SessionFault) (o : Span)
    → Starts o.before started script.profile (local_of alone script.profile) → Begins alone script begun started
    → StopsTurns script files begun failed (span started o.after o.unwritten o.written o.unasked o.asked o.unposted o.posted) → CanRun script
    → StopsScript alone failed script files o
script_stops true script files started begun failed o starts begins stops is = sender_stops script files started begun failed o starts begins stops
script_stops false script files started begun failed o starts begins stops is = session_stops script files started begun failed o starts begins stops is

-- a run of a script that did not begin
pub not_begun : (alone : Bool) (script : Commands) (files : Told) (failed : SessionFault) (o : Span) → (failed ≡ fault.Memory) ⊎ (failed ≡ fault.Fabric)
    → o.after ≡ o.before → o.written ≡ o.unwritten → o.asked ≡ o.unasked → o.posted ≡ o.unposted → StopsScript alone failed script files o
not_begun true script files failed o why network output clock board =
    inl (record { why = why; network = network; output = output; clock = clock; board = board })
not_begun false script files failed o why network output clock board =
    inl (record { why = why; network = network; output = output; clock = clock; board = board })

-- What was made keeps this journal, and says whether all was done.
abbrev pub IsMade : Option (List Event) → Result Bool SessionFault → Made → Type 0
IsMade journal whole made = (made.journal ≡ journal) × (whole ≡ Ok made.whole)

-- what is said of a run's end is said of what was made of it
pub if_made : (P : Made → Type 0) (Q : Bool → Type 0) (made : Result Made SessionFault) (whole : Result Bool SessionFault) (journal : Option (List Event))
    → IfOk made (IsMade journal whole) → IfOk whole Q → ((m : Made) → m.journal ≡ journal → Q m.whole → P m) → IfOk made P
if_made P Q (Ok m) whole journal is goes f = f m is.0 (IfOk-at_ok Q is.1 goes)
if_made P Q (Err e) whole journal is goes f = tt

pub if_unmade : (P Q : SessionFault → Type 0) (made : Result Made SessionFault) (whole : Result Bool SessionFault)
    → IfErr made (λ e. whole ≡ Err e) → IfErr whole Q → ((e : SessionFault) → Q e → P e) → IfErr made P
if_unmade P Q (Ok m) whole is stops f = tt
if_unmade P Q (Err e) whole is stops f = f e (IfErr-at_err Q is stops)

pub made_cause : (made : Result Made SessionFault) (whole : Result Bool SessionFault) (journal : Option (List Event)) (before between now : Counted)
    → IfOk made (IsMade journal whole) → IfErr made (λ e. whole ≡ Err e) → between ≡ before → HasCause whole between now → HasCause made before now
made_cause (Ok m) whole journal before between now is unmade same cause = subst (λ (w : Result Bool SessionFault). HasCause w between now) is.1 cause ∙ same
made_cause (Err e) whole journal before between now is unmade same cause =
    subst (λ (b : Counted). HasCause {T = Made} (Err e) b now) same (subst (λ (w : Result Bool SessionFault). HasCause w between now) unmade cause)
