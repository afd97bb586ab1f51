-- Commands of a turn: a pull, and offers of a command's job.
use Rattle.std.proofs.Common.{◌≡◌, ℕ, suc, ◌<◌, ◌≤◌, inl, inr, List, length, [], ◌∷◌, ◌++◌, Option, None, Some, Bool, true, false, refl, sym, ap, ◌∙◌, subst, get_or, arith}
use Rattle.std.specs.Prelude.{◌==◌, ◌≢◌, ◌⊎◌, ◌&&◌, is_some, Result, Ok, Err, OnOk, IfErr, nat_lt, slice_get, option_and_then}
use Rattle.std.proofs.lemmas.Bool.Decides.{Decides-eqb, Decides-ltb}
use Rattle.std.proofs.lemmas.Option.{get_or_from_slice_get, slice_get_past, slice_get_read}
use Rattle.std.proofs.lemmas.Bool.{cases_lt}
use Rattle.std.specs.Option.{option_map, option_to_list}
use Rattle.norm_base.specs.Network.{Network}
use Rattle.norm_base.specs.Settings.{Settings}
use Rattle.norm_base.specs.Told.{Pieces, gained}
use Rattle.norm_base.specs.declared.node.Origin.{Origin}
use Rattle.norm_script.specs.Commands.{Commands}
use Rattle.norm_script.specs.declared.script.Line.{Line}
use Rattle.norm_script.specs.declared.script.Verb.{Verb}
use Rattle.norm_script.specs.declared.script.Verb.TheVariants as verb
use Rattle.norm_send_rules.specs.Waiting.{may_wait}
use Rattle.norm_send_rules.specs.declared.fault.SendFault.{SendFault}
use Rattle.norm_send_rules.specs.declared.fault.SendFault.TheVariants as send
use Rattle.norm_send_rules.specs.declared.job.Job.{Job}
use Rattle.norm_send_rules.specs.declared.job.Job.TheVariants as job
use Rattle.norm_send_rules.specs.declared.job.Receipt.{Receipt}
use Rattle.norm_safety.specs.Events.{Commanded, Gave}
use Rattle.norm_safety.specs.World.{World}
use Rattle.norm_safety.specs.WorldStep.{world_step}
use Rattle.norm_journal.specs.declared.event.Event.{Event}
use Rattle.norm_journal.specs.declared.event.Event.TheVariants as event
use Rattle.norm_journal.specs.declared.totals.Totals.{Totals}
use Rattle.norm_journal.specs.Accepting.{accepts}
use Rattle.norm_journal.specs.Commands.{telling, repeating, waiting_after}
use Rattle.norm_journal.specs.Follows.{CommandPulled, CommandOffered, OfferedAndTold, OfferedAgain, IsJobOf}
use Rattle.norm_journal.specs.Jobs.{Told, job_of, is_read}
use Rattle.norm_journal.specs.Judged.{Judged}
use Rattle.norm_journal.specs.Laws.{HasOctets}
use Rattle.norm_journal.specs.Lines.{gave_line}
use Rattle.norm_journal.specs.Places.{Place, Pulling, Giving, Sending, command_due}
use Rattle.norm_journal.specs.Printed.{command_at, line_of}
use Rattle.norm_journal.specs.Projections.{offers_in, answers_in, moments_in}
use Rattle.norm_journal.specs.Pulling.{origin_of}
use Rattle.norm_journal.specs.Totals.{with_gave}
use Rattle.norm_journal.proofs.FollowLemmas.{judges_what_follows}
use Rattle.norm_sender.specs.Commands.{answer_of}
use Rattle.norm_world.specs.WorldKept.{WorldKept, StandsFor}
use Rattle.norm_world.specs.WorldMoves.{IsEvent}
use Rattle.norm_session.specs.Commanding.{IsDue, IsAtLine, IsAnswered, given, offering, told_at, waits_at, within_lines}
use Rattle.norm_session.specs.Turning.{IsOver, command_next}
use Rattle.norm_session.specs.Context.{Context, judged_of}
use Rattle.norm_session.specs.Left.{IsTaken, lines_at}
use Rattle.norm_session.specs.Noting.{IsAtHand, noted}
use Rattle.norm_session.specs.Posting.{entries_in}
use Rattle.norm_session.specs.RunKept.{RunKept}
use Rattle.norm_session.specs.SoFar.{HasAll, IsTakenFrom, IsTelling, At}
use Rattle.norm_turns.specs.Printing.{IsUnwritten}
use Rattle.norm_session.specs.Stopping.{Stopped}
use Rattle.norm_turns.specs.declared.fault.SessionFault.{SessionFault}
use Rattle.norm_turns.specs.declared.fault.SessionFault.TheVariants as fault
use Rattle.norm_session.proofs.LeftLemmas.{some_there}
use Rattle.norm_session.proofs.SoFarLemmas.{more, kept_more, leads_on, untold, gained-nil, stops_for_memory, line_stops}

-- ---- a pull

-- the run after a pull
abbrev pub pulled_on : RunKept → Option (List Event) → List ℕ → RunKept
pulled_on k journal left = record k { journal = journal; left = left }

pub pulls : (x : Context) (k : RunKept) (journal : Option (List Event)) (left : List ℕ) (producer place : ℕ) (network : Network) (written : Pieces)
    → (taken : IsTaken x.script.lines k.left left producer place) → journal ≡ noted k.journal (event.Pull (origin_of taken.line)) → At x k Pulling network written
    → IsAtLine x (pulled_on k journal left) place true network written
pulls x k journal left producer place network written taken joined here =
    let s = here.so_far in
    let w = here.world in
    let j = judged_of x k w Pulling in
    let line = taken.line in
    let e : Event = event.Pull (origin_of line) in
    let new = pulled_on k journal left in
    let next = judged_of x new w (Giving line) in
    let follows : CommandPulled j (origin_of line) next =
    record { place = refl; line = line; rest = lines_at x.script.lines left; is_first = taken.first; then = refl } in
    record {
      line = line;
      due = record {
        line_is = taken.line_is;
        here = record {
          world = w;
          so_far = more x k new e w w Pulling (Giving line) network network written written s
              (record {
                profile = refl;
                alone = refl;
                nodes = refl;
                journal = joined;
                stands = s.stands;
                accepted = (judges_what_follows j next e).1 (here.quiet, follows);
              })
              (untold network e refl refl) (sym (gained-nil written)) tt refl refl tt;
          quiet = here.quiet;
        };
      };
    }

-- by the script as it is read
pub pulls_read : (x : Context) (commands : Commands) (k v : RunKept) (journal : Option (List Event)) (left : List ℕ) (producer place : ℕ) (line : Line) (by : Origin)
    (network : Network) (written : Pieces) → x.script ≡ commands → k ≡ v → IsTaken commands.lines k.left left producer place
    → line ≡ get_or commands.lines place line → by ≡ origin_of line → journal ≡ noted k.journal (event.Pull by)
    → At x v Pulling network written → IsAtLine x (pulled_on k journal left) place true network written
pulls_read x commands k v journal left producer place line by network written same is taken read named joined here =
    pulls x k journal left producer place network written
    (subst (λ (c : Commands). IsTaken c.lines k.left left producer place) (sym same) taken)
    (subst_line (sym same) taken (joined ∙ ap (λ o. noted k.journal (event.Pull o))
    (named ∙ ap origin_of (read ∙ get_or_from_slice_get commands.lines place taken.line line taken.line_is))))
    (subst (λ (u : RunKept). At x u Pulling network written) (sym is) here)
  where
    subst_line : {c d : Commands} (e : c ≡ d) (t : IsTaken c.lines k.left left producer place) → journal ≡ noted k.journal (event.Pull (origin_of t.line))
        → journal ≡ noted k.journal (event.Pull (origin_of (subst (λ (u : Commands). IsTaken u.lines k.left left producer place) e t).line))
    subst_line _ t j = j

-- a run that stops for want of memory, wherever it is
pub memory_at : (x : Context) (k : RunKept) (place : Place) (network : Network) (written : Pieces) → At x k place network written
    → Stopped x fault.Memory network written
memory_at x k place network written here =
    stops_for_memory x here.so_far.journal (judged_of x k here.world place) network written here.so_far.leads

-- ---- what a command gave is noted

-- the line that waits after an answer is the one at the place that is kept
waits_same : (lines : List Line) (place : ℕ) (line : Line) (gave : Result Receipt SendFault) → slice_get lines place ≡ Some line
    → waiting_after line gave ≡ option_and_then (slice_get lines) (waits_at place gave)
waits_same lines place line (Ok receipt) there = refl
waits_same lines place line (Err f) there = go (may_wait f)
  where
    go : (b : Bool) → ◌≡◌ {A = Option Line} (elim b [ true ↦ Some line | false ↦ None ])
        (option_and_then (slice_get lines) (elim b [ true ↦ Some place | false ↦ None ]))
    go true = sym there
    go false = refl

-- the judge's state at the sender's tick, by the command that waits and the counts
abbrev sending : Context → RunKept → World → Option Line → Totals → Judged
sending x k w waiting totals = record (judged_of x k w Sending) { waiting = waiting; totals = totals }

-- the run with what a command gave
abbrev pub noted_gave : RunKept → Option (List Event) → Totals → Option ℕ → RunKept
noted_gave k journal totals waiting = record k { journal = journal; totals = totals; waiting = waiting }

given_state : (x : Context) (k : RunKept) (before after : World) (first : Bool) (place : ℕ) (line : Line) (gave : Result Receipt SendFault)
    (journal : Option (List Event)) (totals : Totals) (waiting : Option ℕ) → slice_get x.script.lines place ≡ Some line → totals ≡ with_gave gave k.totals
    → waiting ≡ waits_at place gave → given x k before after first line gave ≡ judged_of x (noted_gave k journal totals waiting) after Sending
given_state x k before after first place line gave journal totals waiting there counts waits =
    ap (λ o. sending x k after o (with_gave gave k.totals))
    (waits_same x.script.lines place line gave there ∙ ap (option_and_then (slice_get x.script.lines)) (sym waits))
    ∙ ap (λ t. sending x k after (option_and_then (slice_get x.script.lines) waiting) t) (sym counts)

-- an event that the network and the clock have no part in, nor a take
pub record IsQuietEvent (e : Event) : Type 0 where
  pub no_offer : offers_in (e ∷ []) ≡ []
  pub no_answer : answers_in (e ∷ []) ≡ []
  pub no_turn : moments_in (e ∷ []) ≡ []
  pub no_outcome : entries_in (e ∷ []) ≡ []
  pub no_take : (network : Network) (past : List Event) → IsTakenFrom network past e

pub job_quiet : (by : Origin) (told : Option Job) (gave : Result Receipt SendFault) → IsQuietEvent (event.Job by told gave)
job_quiet by told gave = record { no_offer = refl; no_answer = refl; no_turn = refl; no_outcome = refl; no_take = λ network past. tt }

pub notes : (x : Context) (k v : RunKept) (e : Event) (journal : Option (List Event)) (totals : Totals) (waiting : Option ℕ) (place : ℕ) (line : Line)
    (gave : Result Receipt SendFault) (text : Option (List ℕ)) (network : Network) (unwritten written : Pieces) → IsQuietEvent e → k ≡ v
    → journal ≡ noted k.journal e → totals ≡ with_gave gave k.totals → waiting ≡ waits_at place gave
    → written ≡ gained unwritten (option_to_list text) → IsAnswered x v place line e gave text network unwritten
    → IsTelling x (noted_gave k journal totals waiting) Sending network written
notes x k v e journal totals waiting place line gave text network unwritten written quiet is joined counts waits out there =
    let g = subst (λ (u : RunKept). IsAnswered x u place line e gave text network unwritten) (sym is) there in
    let new = noted_gave k journal totals waiting in
    let j = judged_of x k g.before (offering g.first line) in
    let next = judged_of x new g.after Sending in
    let accepted : accepts j e ≡ Some next =
    g.accepted ∙ ap Some (given_state x k g.before g.after g.first place line gave journal totals waiting g.line_is counts waits) in
    record {
      world = g.after;
      so_far = record {
        all = record { script = g.all.script; world = g.all.world; alone = g.all.alone; receivers = g.all.receivers };
        stands = g.stands;
        journal = g.journal ++ e ∷ [];
        kept = joined ∙ kept_more k.alone k.journal g.journal e g.kept;
        leads = leads_on x g.journal e j next network network unwritten written g.leads accepted (untold network e quiet.no_offer quiet.no_answer)
            (out ∙ ap (λ o. gained unwritten (option_to_list o)) (sym g.text_is)) (quiet.no_take x.network g.journal) quiet.no_turn quiet.no_outcome g.octets;
      };
    }

pub notes_stop : (x : Context) (failed : SessionFault) (k : RunKept) (e : Event) (place : ℕ) (line : Line) (gave : Result Receipt SendFault)
    (text : Option (List ℕ)) (network : Network) (unwritten written : Pieces) → IsQuietEvent e → IsUnwritten failed unwritten written text
    → IsAnswered x k place line e gave text network unwritten → Stopped x failed network written
notes_stop x failed k e place line gave text network unwritten written quiet un g =
    line_stops x failed g.journal e (judged_of x k g.before (offering g.first line)) (given x k g.before g.after g.first line gave) network unwritten written
    g.leads g.accepted quiet.no_offer quiet.no_answer quiet.no_turn quiet.no_outcome (quiet.no_take x.network g.journal) g.octets
    (subst (IsUnwritten failed unwritten written) (sym g.text_is) un)

pub notes_memory : (x : Context) (k : RunKept) (e : Event) (place : ℕ) (line : Line) (gave : Result Receipt SendFault)
    (text : Option (List ℕ)) (network : Network) (written : Pieces) → IsAnswered x k place line e gave text network written → Stopped x fault.Memory network written
notes_memory x k e place line gave text network written g =
    stops_for_memory x g.journal (judged_of x k g.before (offering g.first line)) network written g.leads

-- ---- an offer of a job

-- the job of a first offer is at hand, where a journal is kept
pub job_at_hand : (kept : Option (List Event)) (first tells : Bool) (its : Job) (at_hand : Option Job) → at_hand ≡ told_at tells its
    → tells ≡ (first && is_some kept) → IsAtHand kept at_hand (told_at first its)
job_at_hand None first tells its at_hand is by = tt
job_at_hand (Some journal) first tells its at_hand is by = is ∙ ap (λ b. told_at b its) (by ∙ both first)
  where
    both : (b : Bool) → (b && true) ≡ b
    both true = refl
    both false = refl

-- a command that has its octets with it, and its job
record IsCarried (files : Told) (v : Verb) (j : Job) : Type 0 where
  its_job : IsJobOf files v j
  read : (gave : Result Receipt SendFault) → is_read j gave ≡ true
  octets : (by : Origin) (first : Bool) (gave : Result Receipt SendFault) → HasOctets (event.Job by (told_at first j) gave)

carried_by : (files : Told) (v : Verb) (i j : Job) → i ≡ j → IsCarried files v i → IsCarried files v j
carried_by files v i j same h = subst (IsCarried files v) same h

same_job : (i j : Job) → Some i ≡ Some j → i ≡ j
same_job i j e = cc

no_files : (by : Origin) (j : Job) (gave : Result Receipt SendFault) (first : Bool) → ((g : Result Receipt SendFault) → HasOctets (event.Job by (Some j) g))
    → HasOctets (event.Job by (told_at first j) gave)
no_files by j gave true h = h gave
no_files by j gave false h = tt

carried : (files : Told) (v : Verb) (j : Job) → job_of v ≡ Some j → IsCarried files v j
carried files (verb.Data info octets) j e =
    carried_by files _ _ j (same_job _ j e) (record { its_job = (refl, refl); read = λ gave. refl; octets = λ by first gave. no_files by (job.Data info octets) gave first (λ g. tt) })
carried files (verb.File name) j e = absurd (cc)
carried files verb.Open j e =
    carried_by files _ _ j (same_job _ j e) (record { its_job = tt; read = λ gave. refl; octets = λ by first gave. no_files by job.Open gave first (λ g. tt) })
carried files (verb.Write octets) j e =
    carried_by files _ _ j (same_job _ j e) (record { its_job = refl; read = λ gave. refl; octets = λ by first gave. no_files by (job.Write octets) gave first (λ g. tt) })
carried files verb.Close j e =
    carried_by files _ _ j (same_job _ j e) (record { its_job = tt; read = λ gave. refl; octets = λ by first gave. no_files by job.Close gave first (λ g. tt) })
carried files (verb.Mark quorum) j e =
    carried_by files _ _ j (same_job _ j e) (record { its_job = refl; read = λ gave. refl; octets = λ by first gave. no_files by (job.Mark quorum) gave first (λ g. tt) })
carried files (verb.Restart instance) j e =
    carried_by files _ _ j (same_job _ j e) (record { its_job = refl; read = λ gave. refl; octets = λ by first gave. no_files by (job.Restart instance) gave first (λ g. tt) })
carried files (verb.Strike node) j e =
    carried_by files _ _ j (same_job _ j e) (record { its_job = refl; read = λ gave. refl; octets = λ by first gave. no_files by (job.Strike node) gave first (λ g. tt) })

-- the command that is offered there
command_there : (first : Bool) (line : Line) → command_at (offering first line) ≡ Some line.verb
command_there true line = refl
command_there false line = refl

-- what is due: an offer that tells the job, or another one
due_there : (j : Judged) (first : Bool) (line : Line) (its : Job) (gave : Result Receipt SendFault) → j.place ≡ offering first line
    → job_of line.verb ≡ Some its → IsCarried j.files line.verb its
    → OfferedAndTold j line (told_at first its) its gave ⊎ OfferedAgain j line (told_at first its) its
due_there j true line its gave at is c =
    inl (record { place = ap telling at; told_is = refl; its_job = c.its_job; read = c.read gave })
due_there j false line its gave at is c =
    inr (record { place = ap repeating at ∙ ap (option_map (λ o. (line, o))) is; told_is = refl })

-- the run after its nodes were moved
abbrev pub moved_to : RunKept → WorldKept → RunKept
moved_to k world = record k { world = world }

pub has_all : (x : Context) (k : RunKept) (world : WorldKept) → world.p ≡ k.world.p → HasAll x k → HasAll x (moved_to k world)
has_all x k world same all = record { script = all.script; world = same ∙ all.world; alone = all.alone; receivers = all.receivers }

-- the line of a job
pub gave_text : (x : Context) (k : RunKept) (w : World) (first : Bool) (line : Line) (by : Origin) (told : Option Job) (gave : Result Receipt SendFault) (instance : ℕ)
    → w.sender.current.id ≡ instance
    → line_of (judged_of x k w (offering first line)) (event.Job by told gave) ≡ gave_line by instance line.verb gave
gave_text x k w first line by told gave instance is =
    ap (option_and_then (λ v. gave_line by w.sender.current.id v gave)) (command_there first line)
    ∙ ap (λ i. gave_line by i line.verb gave) is

pub gives_job : (x : Context) (k : RunKept) (world : WorldKept) (place : ℕ) (line : Line) (first : Bool) (its : Job) (gave : Result Receipt SendFault) (instance : ℕ)
    (network : Network) (written : Pieces) → job_of line.verb ≡ Some its → world.p ≡ k.world.p
    → IsEvent k.world world (Commanded (origin_of line) its k.now) (λ answer. answer ≡ Gave gave)
    → ((w : World) → StandsFor k.world w → instance ≡ w.sender.current.id) → IsDue x k place line first network written
    → IsAnswered x (moved_to k world) place line (event.Job (origin_of line) (told_at first its) gave) gave (gave_line (origin_of line) instance line.verb gave) network written
gives_job x k world place line first its gave instance network written is same moves in_instance due =
    let here = due.here in
    let s = here.so_far in
    let w = here.world in
    let by = origin_of line in
    let j = judged_of x k w (offering first line) in
    let e : Event = event.Job by (told_at first its) gave in
    let step = world_step k.p w (Commanded by its k.now) in
    let stepped : StandsFor world step.0 × (step.1 ≡ Gave gave) =
    subst (λ (q : Settings). StandsFor world (world_step q w (Commanded by its k.now)).0 × ((world_step q w (Commanded by its k.now)).1 ≡ Gave gave))
    s.all.world (moves.steps w s.stands) in
    let c = carried x.files line.verb its is in
    let next = given x k w step.0 first line gave in
    let follows : CommandOffered j by (told_at first its) gave next = record {
      line = line;
      job = its;
      named = refl;
      due = due_there j first line its gave refl is c;
      gives = stepped.1;
      then = refl;
    } in
    record {
      first = first;
      before = w;
      after = step.0;
      all = has_all x k world same s.all;
      stands = stepped.0;
      line_is = due.line_is;
      journal = s.journal;
      kept = s.kept;
      leads = s.leads;
      accepted = (judges_what_follows j next e).1 (here.quiet, follows);
      octets = c.octets by first gave;
      text_is = gave_text x k w first line by (told_at first its) gave instance (sym (in_instance w s.stands));
    }

-- what the sender gave, where it lacked no memory
pub gave_event : (old new : WorldKept) (by : Origin) (its : Job) (now : ℕ) (answer : Result Receipt (Option Job × SendFault)) (gave : Result Receipt SendFault)
    → gave ≡ answer_of answer → gave ≢ Err send.Memory
    → (answer_of answer ≢ Err send.Memory → IsEvent old new (Commanded by its now) (λ a. a ≡ Gave (answer_of answer)))
    → IsEvent old new (Commanded by its now) (λ a. a ≡ Gave gave)
gave_event old new by its now answer gave is some event =
    subst (λ r. IsEvent old new (Commanded by its now) (λ a. a ≡ Gave r)) (sym is) (event (λ e. some (is ∙ e)))

-- by what the run is seen as
pub gives_at : (x : Context) (k v : RunKept) (world : WorldKept) (place : ℕ) (line : Line) (first : Bool) (its : Job) (told : Option Job)
    (gave : Result Receipt SendFault) (by : Origin) (instance : ℕ) (network : Network) (written : Pieces) → k ≡ v → by ≡ origin_of line → told ≡ told_at first its
    → job_of line.verb ≡ Some its → world.p ≡ k.world.p → IsEvent k.world world (Commanded by its k.now) (λ answer. answer ≡ Gave gave)
    → ((w : World) → StandsFor k.world w → instance ≡ w.sender.current.id) → IsDue x v place line first network written
    → IsAnswered x (moved_to k world) place line (event.Job (origin_of line) told gave) gave (gave_line (origin_of line) instance line.verb gave) network written
gives_at x k v world place line first its told gave by instance network written seen named told_is is same moves in_instance due =
    subst (λ t. IsAnswered x (moved_to k world) place line (event.Job (origin_of line) t gave) gave (gave_line (origin_of line) instance line.verb gave) network written)
    (sym told_is)
    (gives_job x k world place line first its gave instance network written is same
    (subst (λ o. IsEvent k.world world (Commanded o its k.now) (λ answer. answer ≡ Gave gave)) named moves) in_instance
    (subst (λ (u : RunKept). IsDue x u place line first network written) (sym seen) due))

-- what holds where a call went well, and of its fault

pub on_ok : {T E P Q : Type 0} (r : Result T E) → (P → Q) → OnOk r P → OnOk r Q
on_ok (Ok y) f h = f h
on_ok (Err e) f h = tt

pub on_fault : {T E : Type 0} {P Q : E → Type 0} (r : Result T E) → ((e : E) → P e → Q e) → IfErr r P → IfErr r Q
on_fault (Ok y) f h = tt
on_fault (Err e) f h = f e h

-- ---- the command of a turn

-- what stands at a place is one thing
pub one_at : {X : Type 0} (xs : List X) (n : ℕ) (a b : X) → slice_get xs n ≡ Some a → slice_get xs n ≡ Some b → a ≡ b
one_at xs n a b e f = cc

-- a line that waits, where its place is within the script
record Waits (lines : List Line) (waiting : Option ℕ) (place : ℕ) : Type 0 where
  line : Line
  there : slice_get lines place ≡ Some line
  waits : option_and_then (slice_get lines) waiting ≡ Some line

waits_there : (lines : List Line) (waiting : Option ℕ) (place : ℕ) → within_lines waiting (length lines) ≡ Some place → Waits lines waiting place
waits_there lines None place e = absurd (cc)
waits_there lines (Some p) place e = go (nat_lt p (length lines)) refl e
  where
    go : (b : Bool) → nat_lt p (length lines) ≡ b → ◌≡◌ {A = Option ℕ} (elim b [ true ↦ Some p | false ↦ None ]) (Some place) → Waits lines (Some p) place
    go true lt same =
        let is : p ≡ place = cc in
        let found = some_there lines p ((Decides-ltb p (length lines)).0 lt) in
        record { line = found.0; there = ap (slice_get lines) (sym is) ∙ found.1; waits = found.1 }
    go false lt same = absurd (cc)

waits_not : (lines : List Line) (waiting : Option ℕ) → within_lines waiting (length lines) ≡ None → option_and_then (slice_get lines) waiting ≡ None
waits_not lines None e = refl
waits_not lines (Some p) e = go (nat_lt p (length lines)) refl e
  where
    go : (b : Bool) → nat_lt p (length lines) ≡ b → ◌≡◌ {A = Option ℕ} (elim b [ true ↦ Some p | false ↦ None ]) None → slice_get lines p ≡ None
    go true lt same = absurd (cc)
    go false said same = by_cases (cases_lt p (length lines)) said
      where
        by_cases : (p < length lines) ⊎ (length lines ≤ p) → nat_lt p (length lines) ≡ false → slice_get lines p ≡ None
        by_cases (inl less) said = let yes : nat_lt p (length lines) ≡ true = (Decides-ltb p (length lines)).1 less in absurd (cc)
        by_cases (inr more) said = slice_get_past lines p more

-- a command that waits is offered again
pub waits_again : (x : Context) (lines : List Line) (k : RunKept) (place : ℕ) (network : Network) (written : Pieces) → x.script.lines ≡ lines
    → within_lines k.waiting (length lines) ≡ Some place → At x k (command_next x k) network written → IsAtLine x k place false network written
waits_again x lines k place network written same within here =
    let found = waits_there x.script.lines k.waiting place (ap (λ (ls : List Line). within_lines k.waiting (length ls)) same ∙ within) in
    record {
      line = found.line;
      due = record {
        line_is = found.there;
        here = subst (λ o. At x k (command_due o (lines_at x.script.lines k.left)) network written) found.waits here;
      };
    }

-- where none waits the next is due
pub none_waits : (x : Context) (lines : List Line) (k : RunKept) (network : Network) (written : Pieces) → x.script.lines ≡ lines
    → within_lines k.waiting (length lines) ≡ None → At x k (command_next x k) network written
    → At x k (command_due None (lines_at lines k.left)) network written
none_waits x lines k network written same within here =
    let none = waits_not x.script.lines k.waiting (ap (λ (ls : List Line). within_lines k.waiting (length ls)) same ∙ within) in
    subst (λ (ls : List Line). At x k (command_due None (lines_at ls k.left)) network written) same
    (subst (λ o. At x k (command_due o (lines_at x.script.lines k.left)) network written) none here)

-- where some are left the next is pulled
pub next_pulled : (x : Context) (lines : List Line) (k : RunKept) (network : Network) (written : Pieces) → (length (lines_at lines k.left) == 0) ≡ false
    → At x k (command_due None (lines_at lines k.left)) network written → At x k Pulling network written
next_pulled x lines k network written some here = go (lines_at lines k.left) some here
  where
    go : (ls : List Line) → (length ls == 0) ≡ false → At x k (command_due None ls) network written → At x k Pulling network written
    go [] more at = absurd (cc)
    go (l ∷ ls) more at = at

-- where none is left the sender ticks
pub none_left : (x : Context) (lines : List Line) (k : RunKept) (network : Network) (written : Pieces) → (length (lines_at lines k.left) == 0) ≡ true
    → At x k (command_due None (lines_at lines k.left)) network written → IsTelling x k Sending network written
none_left x lines k network written none here = go (lines_at lines k.left) none here
  where
    go : (ls : List Line) → (length ls == 0) ≡ true → At x k (command_due None ls) network written → IsTelling x k Sending network written
    go [] said at = record { world = at.world; so_far = at.so_far }
    go (l ∷ ls) said at = let nothing : suc (length ls) ≡ 0 = (Decides-eqb (suc (length ls)) 0).0 said in absurd (omega (arith, nothing))

-- the line at a place is the one that is read there
pub at_read : (x : Context) (commands : Commands) (files : Told) (k : RunKept) (place : ℕ) (line : Line) (first : Bool) (network : Network) (written : Pieces)
    → IsOver x commands files → place < length commands.lines → line ≡ get_or commands.lines place line → IsAtLine x k place first network written
    → IsDue x k place line first network written
at_read x commands files k place line first network written over lt read there =
    let found : slice_get x.script.lines place ≡ Some line =
    ap (λ (c : Commands). slice_get c.lines place) over.script ∙ slice_get_read commands.lines (length commands.lines) place line refl lt read in
    subst (λ l. IsDue x k place l first network written) (one_at x.script.lines place there.line line there.due.line_is found) there.due
