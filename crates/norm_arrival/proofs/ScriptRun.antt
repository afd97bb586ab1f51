-- A run of a script of objects and marks: what was done of it so far is what the sender's order has, and what is asked for.
use Rattle.std.proofs.Common.{◌≡◌, ℕ, ◌+◌, cond, List, [], ◌∷◌, ◌++◌, map, Bool, true, false, Option, None, Some, Result, Ok, Err, refl, sym, ap, ◌∙◌, subst, append_assoc, arith, ◌⊎◌, inl, inr}
use Rattle.std.specs.Prelude.{◌≢◌, ◌==◌, not, fold, count_by, unwrap_or, All, ⊤}
use Rattle.std.specs.List.{AllByRecursion}
use Rattle.std.specs.Option.{option_to_list}
use Rattle.std.proofs.lemmas.List.{append-nil}
use Rattle.std.proofs.lemmas.List.Sums.{fold-append, sum_by-cons}
use Rattle.std.proofs.lemmas.Option.{none-some, same_Some, option_and_then_some}
use Rattle.norm_base.specs.Contents.{content_of}
use Rattle.norm_base.specs.Settings.{Settings, InRange}
use Rattle.norm_base.specs.declared.kinds.Kind.TheVariants as kind
use Rattle.norm_base.specs.declared.kinds.Sent.{Sent}
use Rattle.norm_base.specs.declared.node.Origin.{Origin}
use Rattle.fec_plan.specs.declared.position.Position.{Position}
use Rattle.norm_ext.specs.Written.{Written}
use Rattle.norm_order.specs.Entries.{Object, Whole}
use Rattle.norm_order.specs.Shapes.{shape_of, last_source}
use Rattle.norm_order.specs.declared.up.Up.{Up}
use Rattle.norm_script.specs.Commands.{Commands}
use Rattle.norm_script.specs.declared.script.Line.{Line}
use Rattle.norm_script.specs.declared.script.Verb.{Verb}
use Rattle.norm_script.specs.declared.script.Verb.TheVariants as verb
use Rattle.norm_send_rules.specs.Commanding.{commanded}
use Rattle.norm_send_rules.specs.Hearing.{heard}
use Rattle.norm_send_rules.specs.SenderState.{SenderState}
use Rattle.norm_send_rules.specs.Telling.{told}
use Rattle.norm_send_rules.specs.Ticking.{ticked}
use Rattle.norm_send_rules.specs.Waiting.{may_wait}
use Rattle.norm_send_rules.specs.Watermarks.{open_watermarks}
use Rattle.norm_send_rules.specs.declared.fault.SendFault.{SendFault}
use Rattle.norm_send_rules.specs.declared.job.Job.{Job}
use Rattle.norm_send_rules.specs.declared.job.Job.TheVariants as job
use Rattle.norm_send_rules.specs.declared.job.Receipt.{Receipt}
use Rattle.norm_send_rules.specs.declared.news.News.{News}
use Rattle.norm_safety.specs.Events.{Event as WorldEvent, Commanded, Delivered, Ticked, Offered, UpTaken, NewsAsked, Gave}
use Rattle.norm_safety.specs.World.{World}
use Rattle.norm_safety.specs.WorldStep.{world_step}
use Rattle.norm_safety.proofs.EntryLemmas.{clash}
use Rattle.rand_pcg.specs.Lcg.{Lcg}
use Rattle.norm_journal.specs.declared.event.Event.{Event}
use Rattle.norm_journal.specs.declared.event.Event.TheVariants as event
use Rattle.norm_journal.specs.declared.totals.Totals.{Totals}
use Rattle.norm_journal.specs.Accepting.{accepts, judged_from}
use Rattle.norm_journal.specs.Commands.{telling, waiting_after, offered}
use Rattle.norm_journal.specs.Counts.{is_expired}
use Rattle.norm_journal.specs.Draws.{next_draw, draws_after}
use Rattle.norm_journal.specs.Follows.{Follows, NetworkStarts, TurnBegins, IsFirstLeft, CommandPulled, IsJobOf, OfferedAndTold, OfferedAgain, CommandOffered, FileRefused, SendersTick, ReceiversTick, NodeTicks, DatagramOffered, DatagramTaken, NoneReady, HandedUp, ChangeTold, SummaryMade}
use Rattle.norm_journal.specs.InWorld.{world_after, at}
use Rattle.norm_journal.specs.Jobs.{Told, job_of, may_be_absent, file_of_length}
use Rattle.norm_journal.specs.Judged.{Judged, judged_opening, news_due}
use Rattle.norm_journal.specs.Places.{Place, Starting, Between, Pulling, Giving, Again, Sending, Offering, Taking, Handing, Over, handing, after_tick, command_due}
use Rattle.norm_journal.specs.SessionRun.{Whole as EndedWhole, Absent, Ending, absent_of, ends_in, ending_of}
use Rattle.norm_journal.specs.Takes.{most_takes, receivers_due, after_take, is_receiver}
use Rattle.norm_journal.specs.Totals.{with_up, with_news}
use Rattle.norm_journal.proofs.FollowLemmas.{judges_what_follows}
use Rattle.norm_journal.proofs.FrontLemmas.{whole_done}
use Rattle.norm_journal.proofs.OfferLemmas.{told_at, repeated_at}
use Rattle.norm_record.specs.Counted.{is_refused}
use Rattle.norm_laws.proofs.CountSender.{sender_after, sender_is}
use Rattle.norm_laws.proofs.WholeOrders.{IsWhole}
use Rattle.norm_arrival.proofs.SenderSteps.{Orderly, ObjectsWhole, IsPlain, objects_with, asked_with, heard_orderly, ticked_orderly, told_orderly, refused_same, accepted_orderly, opening_orderly}

-- files, by their names
abbrev pub Contents : Type 0
Contents = List (List ℕ × List ℕ)

-- ---- what a script brings

-- data, a file, or a mark of all members
abbrev pub IsPlainVerb : Verb → Type 0
IsPlainVerb (verb.Data info octets) = ⊤
IsPlainVerb (verb.File name) = ⊤
IsPlainVerb (verb.Mark None) = ⊤
IsPlainVerb _ = ⊥

-- such a command, of producer 1
pub record IsPlainLine (line : Line) : Type 0 where
  pub first : line.producer ≡ 1
  pub verb : IsPlainVerb line.verb

abbrev pub ArePlain : List Line → Type 0
ArePlain lines = AllByRecursion IsPlainLine lines

-- the objects that commands bring, and what they ask for
pub record Plan : Type 0 where
  pub objects : List Object
  pub asked : List (Option Position)

-- with what one more command brings
abbrev pub plan_by : Settings → Contents → Verb → Plan → Plan
plan_by p files (verb.Data info octets) plan = record plan { objects = plan.objects ++ Whole kind.Data info octets ∷ [] }
plan_by p files (verb.File name) plan = record plan { objects = plan.objects ++ Whole kind.File (Some name) (unwrap_or (content_of files name) []) ∷ [] }
plan_by p files (verb.Mark quorum) plan = record plan { asked = plan.asked ++ last_source (map (shape_of p) plan.objects) ∷ [] }
plan_by p files _ plan = plan

abbrev pub plan_with : Settings → Contents → Plan → Line → Plan
plan_with p files plan line = plan_by p files line.verb plan

abbrev pub no_plan : Plan
no_plan = record { objects = []; asked = [] }

-- of these commands, in their order
abbrev pub planned : Settings → Contents → List Line → Plan
planned p files lines = fold (plan_with p files) no_plan lines

pub planned_more : (p : Settings) (files : Contents) (lines : List Line) (line : Line)
    → planned p files (lines ++ line ∷ []) ≡ plan_by p files line.verb (planned p files lines)
planned_more p files lines line = fold-append (plan_with p files) no_plan lines (line ∷ [])

one_more : (P : Object → Type 0) (xs : List Object) (x : Object) → AllByRecursion P xs → P x → AllByRecursion P (xs ++ x ∷ [])
one_more P [] x all h = (h, tt)
one_more P (y ∷ xs) x all h = (all.0, one_more P xs x all.1 h)

plan_whole : (p : Settings) (files : Contents) (v : Verb) (plan : Plan) → ObjectsWhole plan.objects → ObjectsWhole (plan_by p files v plan).objects
plan_whole p files (verb.Data info octets) plan h = one_more IsWhole plan.objects (Whole kind.Data info octets) h tt
plan_whole p files (verb.File name) plan h = one_more IsWhole plan.objects (Whole kind.File (Some name) (unwrap_or (content_of files name) [])) h tt
plan_whole p files (verb.Mark quorum) plan h = h
plan_whole p files _ plan h = h

whole_from : (p : Settings) (files : Contents) (lines : List Line) (plan : Plan) → ObjectsWhole plan.objects
    → ObjectsWhole (fold (plan_with p files) plan lines).objects
whole_from p files [] plan h = h
whole_from p files (line ∷ lines) plan h = whole_from p files lines (plan_by p files line.verb plan) (plan_whole p files line.verb plan h)

pub planned_whole : (p : Settings) (files : Contents) (lines : List Line) → ObjectsWhole (planned p files lines).objects
planned_whole p files lines = whole_from p files lines no_plan tt

-- with what a job brings
abbrev with_job : Settings → Job → Plan → Plan
with_job p job plan = record { objects = objects_with job plan.objects; asked = asked_with p job plan.objects plan.asked }

-- a job brings what its command does
record Brings (p : Settings) (files : Contents) (v : Verb) (job : Job) : Type 0 where
  plain : IsPlain job
  same : (plan : Plan) → with_job p job plan ≡ plan_by p files v plan

job_brings : (p : Settings) (files : Contents) (v : Verb) (j : Job) → IsPlainVerb v → IsJobOf (Some files) v j → Brings p files v j
job_brings p files (verb.Data info octets) (job.Data other bytes) plain is = record {
  plain = tt;
  same = λ plan.
      let put : Option (List ℕ) → List ℕ → Plan = λ i o. record plan { objects = plan.objects ++ Whole kind.Data i o ∷ [] } in
      ap (λ i. put i bytes) (sym is.0) ∙ ap (λ o. put info o) (sym is.1);
}
job_brings p files (verb.Data info octets) _ plain is = absurd is
job_brings p files (verb.File name) (job.File other octets) plain is = record {
  plain = tt;
  same = λ plan.
      let put : List ℕ → List ℕ → Plan = λ n o. record plan { objects = plan.objects ++ Whole kind.File (Some n) o ∷ [] } in
      ap (λ n. put n octets) (sym is.0) ∙ ap (λ (c : Option (List ℕ)). put name (unwrap_or c [])) (sym is.1);
}
job_brings p files (verb.File name) _ plain is = absurd is
job_brings p files (verb.Mark None) (job.Mark None) plain is = record { plain = tt; same = λ plan. refl }
job_brings p files (verb.Mark None) (job.Mark (Some q)) plain is = absurd (none-some q is)
job_brings p files (verb.Mark None) _ plain is = absurd is
job_brings p files _ j plain is = absurd plain

-- the job that is known of a command that waits is its command's
again_job : (files : Told) (v : Verb) (j : Job) → IsPlainVerb v → job_of v ≡ Some j → IsJobOf files v j
again_job files (verb.Data info octets) j plain e =
    let J : Job → Type 0 = λ x. IsJobOf files (verb.Data info octets) x in subst J (same_Some (job.Data info octets) j e) (refl, refl)
again_job files (verb.File name) j plain e = absurd (none-some j e)
again_job files (verb.Mark None) j plain e =
    let J : Job → Type 0 = λ x. IsJobOf files (verb.Mark None) x in subst J (same_Some (job.Mark None) j e) refl
again_job files _ j plain e = absurd plain

-- ---- how far a run is

-- the line whose command was pulled and is not accepted yet
abbrev pub pending : Place → Option Line → List Line
pending (Giving line) waiting = line ∷ []
pending _ waiting = option_to_list waiting

-- a place of a turn after its command
abbrev pub IsLate : Place → Type 0
IsLate (Taking taken) = ⊤
IsLate (Handing node nodes) = ⊤
IsLate Between = ⊤
IsLate _ = ⊥

-- what waits at a place; at the end nothing is to be told
abbrev pub Fits : SenderState → Place → Option Line → Type 0
Fits s (Giving line) waiting = waiting ≡ None
Fits s (Again line) waiting = waiting ≡ Some line
Fits s Pulling waiting = waiting ≡ None
Fits s (Offering node datagram next) waiting = IsLate next
Fits s Over waiting = (told s).1 ≡ None
Fits s _ waiting = ⊤

-- the sender has what these commands bring
abbrev pub MadeOf : Settings → Contents → List Line → SenderState → Type 0
MadeOf p files done s = Orderly p (planned p files done).objects (planned p files done).asked s

-- The script's lines are those that were done, then the one whose command is pending, and those that are left.
pub record Progress (p : Settings) (files : Contents) (lines : List Line) (j : Judged) : Type 0 where
  pub profile : j.profile ≡ p
  pub told_files : j.files ≡ Some files
  pub done : List Line
  pub all : lines ≡ done ++ (pending j.place j.waiting ++ j.left)
  pub fits : Fits j.world.sender j.place j.waiting
  pub made : MadeOf j.profile files done j.world.sender

all_behind : {X : Type 0} (P : X → Type 0) (xs ys : List X) → AllByRecursion P (xs ++ ys) → AllByRecursion P ys
all_behind P [] ys all = all
all_behind P (x ∷ xs) ys all = all_behind P xs ys all.1

range_of : (p : Settings) (files : Contents) (lines : List Line) (j : Judged) → InRange p → Progress p files lines j → InRange j.profile
range_of p files lines j range pr = subst InRange (sym pr.profile) range

-- a state that has another world, another place and other counts
moves : (p : Settings) (files : Contents) (lines : List Line) (j : Judged) (w : World) (place : Place) (totals : Totals) (draws : Lcg) (turn now : ℕ)
    → (pr : Progress p files lines j) → pending place j.waiting ≡ pending j.place j.waiting → Fits w.sender place j.waiting
    → MadeOf j.profile files pr.done w.sender
    → Progress p files lines (record j { turn = turn; now = now; world = w; place = place; draws = draws; totals = totals })
moves p files lines j w place totals draws turn now pr same fits made = record {
  profile = pr.profile;
  told_files = pr.told_files;
  done = pr.done;
  all = pr.all ∙ ap (λ (ls : List Line). pr.done ++ (ls ++ j.left)) (sym same);
  fits = fits;
  made = made;
}

-- at a late place nothing but what waits is pending
record Late (s : SenderState) (place : Place) (waiting : Option Line) : Type 0 where
  waits : pending place waiting ≡ option_to_list waiting
  fits : Fits s place waiting

late : (s : SenderState) (place : Place) (waiting : Option Line) → IsLate place → Late s place waiting
late s (Taking taken) waiting is = record { waits = refl; fits = tt }
late s (Handing node nodes) waiting is = record { waits = refl; fits = tt }
late s Between waiting is = record { waits = refl; fits = tt }
late s _ waiting is = absurd is

handing_late : (nodes : List ℕ) → IsLate (handing nodes)
handing_late [] = tt
handing_late (node ∷ nodes) = tt

-- an event that is no command and asks for no news leaves what was made
abbrev IsCalm : WorldEvent → Type 0
IsCalm (Commanded by job now) = ⊥
IsCalm NewsAsked = ⊥
IsCalm _ = ⊤

calm_orderly : (p : Settings) → InRange p → (objects : List Object) (asked : List (Option Position)) (w : World) (e : WorldEvent) → IsCalm e
    → Orderly p objects asked w.sender → Orderly p objects asked (world_step p w e).0.sender
calm_orderly p range objects asked w e calm h =
    let O : SenderState → Type 0 = λ s. Orderly p objects asked s in subst O (sym (sender_is p w e)) (go e calm)
  where
    either : (b : Bool) (t : SenderState) → Orderly p objects asked t → Orderly p objects asked (elim b [ true ↦ t | false ↦ w.sender ])
    either true t k = k
    either false t k = h

    go : (e : WorldEvent) → IsCalm e → Orderly p objects asked (sender_after p w.sender e)
    go (Commanded by job now) calm = absurd calm
    go (Delivered node datagram now draw) calm = either (node == p.sender) (heard p w.sender datagram now) (heard_orderly p range objects asked w.sender datagram now h)
    go (Ticked node now) calm = either (node == p.sender) (ticked p w.sender now).0 (ticked_orderly p range objects asked w.sender now h)
    go (Offered node octets) calm = h
    go (UpTaken node) calm = h
    go NewsAsked calm = absurd calm

calm_made : (p : Settings) (files : Contents) (lines : List Line) (j : Judged) (e : WorldEvent) → InRange p → IsCalm e → (pr : Progress p files lines j)
    → MadeOf j.profile files pr.done (world_after e j).world.sender
calm_made p files lines j e range calm pr =
    calm_orderly j.profile (range_of p files lines j range pr) (planned j.profile files pr.done).objects (planned j.profile files pr.done).asked j.world e calm pr.made

-- ---- each event

-- by the place, only what waits is pending
waits_at : (j : Judged) (place : Place) → j.place ≡ place → pending place j.waiting ≡ option_to_list j.waiting
    → option_to_list j.waiting ≡ pending j.place j.waiting
waits_at j place is none = sym (ap (λ (x : Place). pending x j.waiting) is ∙ none)

start_goes : (p : Settings) (files : Contents) (lines : List Line) (j next : Judged) → NetworkStarts j next → Progress p files lines j → Progress p files lines next
start_goes p files lines j next f pr =
    subst (Progress p files lines) (sym f.then)
    (moves p files lines j j.world Between j.totals j.draws j.turn j.now pr (waits_at j Starting f.place refl) tt pr.made)

due_late : (s : SenderState) (waiting : Option Line) (left : List Line) → Late s (command_due waiting left) waiting
due_late s (Some line) left = record { waits = refl; fits = refl }
due_late s None (line ∷ left) = record { waits = refl; fits = refl }
due_late s None [] = record { waits = refl; fits = tt }

turn_goes : (p : Settings) (files : Contents) (lines : List Line) (j next : Judged) (turn now : ℕ) → TurnBegins j turn now next → Progress p files lines j
    → Progress p files lines next
turn_goes p files lines j next turn now f pr =
    let due = due_late j.world.sender j.waiting j.left in
    subst (Progress p files lines) (sym f.then)
    (moves p files lines j j.world (command_due j.waiting j.left) j.totals j.draws turn now pr (due.waits ∙ waits_at j Between f.place refl) due.fits pr.made)

-- of one producer's lines the first that is left is the first
first_of_all : (by : Origin) (left : List Line) (line : Line) (rest : List Line) → ArePlain left → IsFirstLeft by left line rest → left ≡ line ∷ rest
first_of_all by left line rest plain is = go is.before is.its_place is.rest_is is.first
  where
    L : List Line → Type 0
    L ls = ArePlain ls

    named : by.producer ≡ 1
    named =
        let there : ArePlain (line ∷ is.behind) = all_behind IsPlainLine is.before (line ∷ is.behind) (subst L is.its_place plain) in
        ap (λ (o : Origin). o.producer) (sym is.named) ∙ there.0.first

    go : (before : List Line) → left ≡ before ++ line ∷ is.behind → rest ≡ before ++ is.behind → All (λ (l : Line). l.producer ≢ by.producer) before
        → left ≡ line ∷ rest
    go [] place behind others = place ∙ ap (λ (ls : List Line). line ∷ ls) (sym behind)
    go (x ∷ before) place behind others = absurd (others 0 x (omega arith) ((subst L place plain).0.first ∙ sym named))

pull_goes : (p : Settings) (files : Contents) (lines : List Line) (j next : Judged) (by : Origin) → ArePlain lines → CommandPulled j by next
    → Progress p files lines j → Progress p files lines next
pull_goes p files lines j next by plain f pr =
    let F : Place → Type 0 = λ place. Fits j.world.sender place j.waiting in
    let none : j.waiting ≡ None = subst F f.place pr.fits in
    let L : List Line → Type 0 = λ ls. ArePlain ls in
    let nothing : pending j.place j.waiting ≡ [] = ap (λ (x : Place). pending x j.waiting) f.place ∙ ap option_to_list none in
    let all : lines ≡ pr.done ++ j.left = pr.all ∙ ap (λ (ls : List Line). pr.done ++ (ls ++ j.left)) nothing in
    let first = first_of_all by j.left f.line f.rest (all_behind IsPlainLine pr.done j.left (subst L all plain)) f.is_first in
    subst (Progress p files lines) (sym f.then) (record {
      profile = pr.profile;
      told_files = pr.told_files;
      done = pr.done;
      all = all ∙ ap (λ (ls : List Line). pr.done ++ ls) first;
      fits = none;
      made = pr.made;
    })

-- a command of this line is offered
record IsOffered (files : Contents) (j : Judged) (line : Line) (job : Job) : Type 0 where
  waits : pending j.place j.waiting ≡ line ∷ []
  its_job : IsJobOf (Some files) line.verb job

again_pending : (j : Judged) (line : Line) → j.place ≡ Again line → Fits j.world.sender j.place j.waiting → pending j.place j.waiting ≡ line ∷ []
again_pending j line is fits =
    let F : Place → Type 0 = λ place. Fits j.world.sender place j.waiting in
    ap (λ (x : Place). pending x j.waiting) is ∙ ap option_to_list (subst F is fits)

telling_pending : (j : Judged) (line : Line) → telling j.place ≡ Some line → Fits j.world.sender j.place j.waiting → pending j.place j.waiting ≡ line ∷ []
telling_pending j line is fits = go (told_at j.place line is)
  where
    go : (j.place ≡ Giving line) ⊎ ((j.place ≡ Again line) × (job_of line.verb ≡ None)) → pending j.place j.waiting ≡ line ∷ []
    go (inl giving) = ap (λ (x : Place). pending x j.waiting) giving
    go (inr again) = again_pending j line again.0 fits

-- a pending line is plain
pending_plain : (p : Settings) (files : Contents) (lines : List Line) (j : Judged) (line : Line) → ArePlain lines → (pr : Progress p files lines j)
    → pending j.place j.waiting ≡ line ∷ [] → IsPlainLine line
pending_plain p files lines j line plain pr is =
    let L : List Line → Type 0 = λ ls. ArePlain ls in
    (all_behind IsPlainLine pr.done (line ∷ j.left) (subst L (pr.all ∙ ap (λ (ls : List Line). pr.done ++ (ls ++ j.left)) is) plain)).0

due_offered : (p : Settings) (files : Contents) (lines : List Line) (j : Judged) (line : Line) (told : Option Job) (job : Job) (gave : Result Receipt SendFault)
    → ArePlain lines → (pr : Progress p files lines j) → OfferedAndTold j line told job gave ⊎ OfferedAgain j line told job → IsOffered files j line job
due_offered p files lines j line told job gave plain pr (inl due) =
    let J : Told → Type 0 = λ t. IsJobOf t line.verb job in
    record { waits = telling_pending j line due.place pr.fits; its_job = subst J pr.told_files due.its_job }
due_offered p files lines j line told job gave plain pr (inr due) =
    let two = repeated_at j.place line job due.place in
    let is = again_pending j line two.0 pr.fits in
    record { waits = is; its_job = again_job (Some files) line.verb job (pending_plain p files lines j line plain pr is).verb two.1 }

same_gave : (a b : Result Receipt SendFault) → Gave a ≡ Gave b → a ≡ b
same_gave a b e = cc

-- its command is accepted
accepted_goes : (p : Settings) (files : Contents) (lines : List Line) (j next : Judged) (by : Origin) (line : Line) (job : Job) (receipt : Receipt) → InRange p
    → ArePlain lines → IsOffered files j line job → (commanded j.profile j.world.sender by job).1 ≡ Ok receipt
    → next ≡ offered line (Ok receipt) (world_after (Commanded by job j.now) j) → Progress p files lines j → Progress p files lines next
accepted_goes p files lines j next by line job receipt range plain offers gives then pr =
    let q : Settings = j.profile in
    let was : Plan = planned q files pr.done in
    let its = pending_plain p files lines j line plain pr offers.waits in
    let brings = job_brings q files line.verb job its.verb offers.its_job in
    let now = accepted_orderly q (range_of p files lines j range pr) was.objects was.asked j.world.sender by job j.now receipt brings.plain
    (planned_whole q files pr.done) gives pr.made in
    let O : Plan → Type 0 = λ plan. Orderly q plan.objects plan.asked (commanded q j.world.sender by job).0 in
    subst (Progress p files lines) (sym then) (record {
      profile = pr.profile;
      told_files = pr.told_files;
      done = pr.done ++ line ∷ [];
      all = pr.all ∙ ap (λ (ls : List Line). pr.done ++ (ls ++ j.left)) offers.waits ∙ sym (append_assoc pr.done (line ∷ []) j.left);
      fits = tt;
      made = subst O (brings.same was ∙ sym (planned_more q files pr.done line)) now;
    })

-- its command has to wait
refused_goes : (p : Settings) (files : Contents) (lines : List Line) (j next : Judged) (by : Origin) (line : Line) (job : Job) (fault : SendFault) → IsPlain job
    → pending j.place j.waiting ≡ line ∷ [] → (commanded j.profile j.world.sender by job).1 ≡ Err fault → may_wait fault ≡ true
    → next ≡ offered line (Err fault) (world_after (Commanded by job j.now) j) → Progress p files lines j → Progress p files lines next
refused_goes p files lines j next by line job fault plain is gives wait then pr =
    let q : Settings = j.profile in
    let was : Plan = planned q files pr.done in
    let O : SenderState → Type 0 = λ s. Orderly q was.objects was.asked s in
    let same = refused_same q was.objects was.asked j.world.sender by job fault plain (planned_whole q files pr.done) pr.made gives in
    let waits : waiting_after line (Err fault) ≡ Some line = ap (λ (b : Bool). waiting_by b) wait in
    subst (Progress p files lines) (sym then) (record {
      profile = pr.profile;
      told_files = pr.told_files;
      done = pr.done;
      all = pr.all ∙ ap (λ (ls : List Line). pr.done ++ (ls ++ j.left)) (is ∙ sym (ap option_to_list waits));
      fits = tt;
      made = subst O (sym same) pr.made;
    })
  where
    waiting_by : Bool → Option Line
    waiting_by b = elim b [ true ↦ Some line | false ↦ None ]

back : (b : Bool) → not b ≡ false → b ≡ true
back true f = refl
back false f = absurd (clash (sym f))

job_goes : (p : Settings) (files : Contents) (lines : List Line) (j next : Judged) (by : Origin) (told : Option Job) (gave : Result Receipt SendFault) → InRange p
    → ArePlain lines → is_refused (event.Job by told gave) ≡ false → CommandOffered j by told gave next → Progress p files lines j → Progress p files lines next
job_goes p files lines j next by told (Ok receipt) range plain kept f pr =
    accepted_goes p files lines j next by f.line f.job receipt range plain (due_offered p files lines j f.line told f.job (Ok receipt) plain pr f.due)
    (same_gave (commanded j.profile j.world.sender by f.job).1 (Ok receipt) f.gives) f.then pr
job_goes p files lines j next by told (Err fault) range plain kept f pr =
    let offers = due_offered p files lines j f.line told f.job (Err fault) plain pr f.due in
    let its = pending_plain p files lines j f.line plain pr offers.waits in
    refused_goes p files lines j next by f.line f.job fault (job_brings j.profile files f.line.verb f.job its.verb offers.its_job).plain offers.waits
    (same_gave (commanded j.profile j.world.sender by f.job).1 (Err fault) f.gives) (back (may_wait fault) kept) f.then pr

length_goes : (p : Settings) (files : Contents) (lines : List Line) (j next : Judged) (by : Origin) (name : List ℕ) (len : ℕ) (fault : SendFault)
    → is_refused (event.Length by name len fault) ≡ false → FileRefused j by name len fault next → Progress p files lines j → Progress p files lines next
length_goes p files lines j next by name len fault kept f pr =
    refused_goes p files lines j next by f.line (file_of_length name len) fault tt (telling_pending j f.line f.place pr.fits)
    (same_gave (commanded j.profile j.world.sender by (file_of_length name len)).1 (Err fault) f.gives) (back (may_wait fault) kept) f.then pr

-- a tick is due where nothing but what waits is pending, and what is due after it is late
record TickDue (j : Judged) (after : Place) : Type 0 where
  waits : option_to_list j.waiting ≡ pending j.place j.waiting
  is_late : IsLate after

tick_due : (j : Judged) (node : ℕ) (after : Place) → SendersTick j node after ⊎ ReceiversTick j node after → TickDue j after
tick_due j node after (inl due) = record { waits = waits_at j Sending due.place refl; is_late = subst IsLate (sym due.after_is) tt }
tick_due j node after (inr due) =
    record { waits = waits_at j (Handing node due.nodes) due.place refl; is_late = subst IsLate (sym due.after_is) (handing_late due.nodes) }

after_late : (s : SenderState) (node : ℕ) (datagram : Option Written) (after : Place) (waiting : Option Line) → IsLate after → Late s (after_tick node datagram after) waiting
after_late s node None after waiting is = late s after waiting is
after_late s node (Some datagram) after waiting is = record { waits = refl; fits = is }

tick_goes : (p : Settings) (files : Contents) (lines : List Line) (j next : Judged) (node : ℕ) (said : Sent) → InRange p → NodeTicks j node said next
    → Progress p files lines j → Progress p files lines next
tick_goes p files lines j next node said range f pr =
    let due = tick_due j node f.after f.due in
    let w : World = (world_after (Ticked node j.now) j).world in
    let then = after_late w.sender node f.datagram f.after j.waiting due.is_late in
    subst (Progress p files lines) (sym f.then)
    (moves p files lines j w (after_tick node f.datagram f.after) j.totals j.draws j.turn j.now pr (then.waits ∙ due.waits) then.fits
    (calm_made p files lines j (Ticked node j.now) range tt pr))

offer_goes : (p : Settings) (files : Contents) (lines : List Line) (j next : Judged) (from : ℕ) (octets : List ℕ) → InRange p → DatagramOffered j from octets next
    → Progress p files lines j → Progress p files lines next
offer_goes p files lines j next from octets range f pr =
    let F : Place → Type 0 = λ place. Fits j.world.sender place j.waiting in
    let w : World = (world_after (Offered from octets) j).world in
    let then = late w.sender f.after j.waiting (subst F f.place pr.fits) in
    subst (Progress p files lines) (sym f.then)
    (moves p files lines j w f.after j.totals j.draws j.turn j.now pr (then.waits ∙ waits_at j (Offering from octets f.after) f.place refl) then.fits
    (calm_made p files lines j (Offered from octets) range tt pr))

take_late : (j : Judged) (count : ℕ) → IsLate (after_take count j)
take_late j count = go (count + 1 == most_takes)
  where
    go : (b : Bool) → IsLate (elim b [ true ↦ receivers_due j | false ↦ Taking (count + 1) ])
    go true = handing_late j.nodes
    go false = tt

took_goes : (p : Settings) (files : Contents) (lines : List Line) (j next : Judged) (to : ℕ) (octets : List ℕ) → InRange p → DatagramTaken j to octets next
    → Progress p files lines j → Progress p files lines next
took_goes p files lines j next to octets range f pr = subst (Progress p files lines) (sym f.then) (go (to == j.profile.sender) (is_receiver j to))
  where
    place : Place
    place = after_take f.count j

    moved : (w : World) (draws : Lcg) → MadeOf j.profile files pr.done w.sender → Progress p files lines (record j { world = w; place = place; draws = draws })
    moved w draws made =
        let then = late w.sender place j.waiting (take_late j f.count) in
        moves p files lines j w place j.totals draws j.turn j.now pr (then.waits ∙ waits_at j (Taking f.count) f.place refl) then.fits made

    go : (own receives : Bool) → Progress p files lines (at place (elim own [
      | true ↦ world_after (Delivered to octets j.now 0) j
      | false ↦ elim receives [
        | true ↦ record (world_after (Delivered to octets j.now (next_draw j.draws)) j) { draws = draws_after j.draws }
        | false ↦ j
      ]
    ]))
    go true receives =
        moved (world_after (Delivered to octets j.now 0) j).world j.draws (calm_made p files lines j (Delivered to octets j.now 0) range tt pr)
    go false true =
        moved (world_after (Delivered to octets j.now (next_draw j.draws)) j).world (draws_after j.draws)
        (calm_made p files lines j (Delivered to octets j.now (next_draw j.draws)) range tt pr)
    go false false = moved j.world j.draws pr.made

none_goes : (p : Settings) (files : Contents) (lines : List Line) (j next : Judged) → NoneReady j next → Progress p files lines j → Progress p files lines next
none_goes p files lines j next f pr =
    let then = late j.world.sender (receivers_due j) j.waiting (handing_late j.nodes) in
    subst (Progress p files lines) (sym f.then)
    (moves p files lines j j.world (receivers_due j) j.totals j.draws j.turn j.now pr (then.waits ∙ waits_at j (Taking f.count) f.place refl) then.fits pr.made)

up_goes : (p : Settings) (files : Contents) (lines : List Line) (j next : Judged) (node instance : ℕ) (up : Up) → InRange p → HandedUp j node instance up next
    → Progress p files lines j → Progress p files lines next
up_goes p files lines j next node instance up range f pr =
    let w : World = (world_after (UpTaken node) j).world in
    let F : Place → Type 0 = λ place. Fits w.sender place j.waiting in
    subst (Progress p files lines) (sym f.then)
    (moves p files lines j w j.place (with_up up j.totals) j.draws j.turn j.now pr refl (subst F (sym f.place) tt) (calm_made p files lines j (UpTaken node) range tt pr))

-- what is told leaves what fits, since at the end nothing is to be told
other_fits : (s t : SenderState) (place : Place) (waiting : Option Line) → ((told s).1 ≡ None → ⊥) → Fits s place waiting → Fits t place waiting
other_fits s t Over waiting never h = absurd (never h)
other_fits s t (Giving line) waiting never h = h
other_fits s t (Again line) waiting never h = h
other_fits s t Pulling waiting never h = h
other_fits s t (Offering node datagram next) waiting never h = h
other_fits s t Starting waiting never h = tt
other_fits s t Between waiting never h = tt
other_fits s t Sending waiting never h = tt
other_fits s t (Taking taken) waiting never h = tt
other_fits s t (Handing node nodes) waiting never h = tt

news_goes : (p : Settings) (files : Contents) (lines : List Line) (j next : Judged) (news : News) → InRange p → is_expired (event.News news) ≡ false
    → ChangeTold j news next → Progress p files lines j → Progress p files lines next
news_goes p files lines j next news range kept f pr =
    let w : World = (world_after NewsAsked j).world in
    let was : Plan = planned j.profile files pr.done in
    subst (Progress p files lines) (sym f.then)
    (moves p files lines j w j.place (with_news news j.totals) j.draws j.turn j.now pr refl
    (other_fits j.world.sender w.sender j.place j.waiting (λ none. none-some news (sym none ∙ f.due)) pr.fits)
    (told_orderly j.profile (range_of p files lines j range pr) was.objects was.asked j.world.sender news f.due kept pr.made))

end_goes : (p : Settings) (files : Contents) (lines : List Line) (j next : Judged) → news_due j ≡ None → SummaryMade j next → Progress p files lines j
    → Progress p files lines next
end_goes p files lines j next quiet f pr =
    subst (Progress p files lines) (sym f.then)
    (moves p files lines j j.world Over j.totals j.draws j.turn j.now pr (waits_at j Between f.place refl) quiet pr.made)

event_goes : (p : Settings) (files : Contents) (lines : List Line) → InRange p → ArePlain lines → (j next : Judged) (e : Event) → Follows j e next
    → is_refused e ≡ false → is_expired e ≡ false → Progress p files lines j → Progress p files lines next
event_goes p files lines range plain j next event.Start f kept lasting pr = start_goes p files lines j next f.1 pr
event_goes p files lines range plain j next (event.Turn turn now) f kept lasting pr = turn_goes p files lines j next turn now f.1 pr
event_goes p files lines range plain j next (event.Pull by) f kept lasting pr = pull_goes p files lines j next by plain f.1 pr
event_goes p files lines range plain j next (event.Job by told gave) f kept lasting pr = job_goes p files lines j next by told gave range plain kept f.1 pr
event_goes p files lines range plain j next (event.Length by name len fault) f kept lasting pr = length_goes p files lines j next by name len fault kept f.1 pr
event_goes p files lines range plain j next (event.Tick node said) f kept lasting pr = tick_goes p files lines j next node said range f.1 pr
event_goes p files lines range plain j next (event.Offer from octets) f kept lasting pr = offer_goes p files lines j next from octets range f.1 pr
event_goes p files lines range plain j next (event.Took to octets) f kept lasting pr = took_goes p files lines j next to octets range f.1 pr
event_goes p files lines range plain j next event.Empty f kept lasting pr = none_goes p files lines j next f.1 pr
event_goes p files lines range plain j next (event.Up node instance up) f kept lasting pr = up_goes p files lines j next node instance up range f.1 pr
event_goes p files lines range plain j next (event.News news) f kept lasting pr = news_goes p files lines j next news range lasting f pr
event_goes p files lines range plain j next event.End f kept lasting pr = end_goes p files lines j next f.0 f.1 pr

-- ---- a whole run

none_counted : (test : Event → Bool) (e : Event) (events : List Event) → count_by test (e ∷ events) ≡ 0 → (test e ≡ false) × (count_by test events ≡ 0)
none_counted test e events is = go (test e) (sym (sum_by-cons (λ (x : Event). cond (test x) 1 0) e events) ∙ is)
  where
    go : (b : Bool) → cond b 1 0 + count_by test events ≡ 0 → (b ≡ false) × (count_by test events ≡ 0)
    go true is = absurd (omega (arith, is))
    go false is = (refl, omega (arith, is))

run_goes : (p : Settings) (files : Contents) (lines : List Line) → InRange p → ArePlain lines → (events : List Event) (j last : Judged)
    → judged_from j events ≡ Some last → count_by is_refused events ≡ 0 → count_by is_expired events ≡ 0 → Progress p files lines j → Progress p files lines last
unfolding judged_from
run_goes p files lines range plain [] j last is kept lasting pr = subst (Progress p files lines) (same_Some j last is) pr
run_goes p files lines range plain (e ∷ events) j last is kept lasting pr =
    option_and_then_some (λ next. judged_from next events) (accepts j e) last is (λ next comes more.
    let refused = none_counted is_refused e events kept in
    let expired = none_counted is_expired e events lasting in
    run_goes p files lines range plain events next last more refused.1 expired.1
    (event_goes p files lines range plain j next e ((judges_what_follows j next e).0 comes) refused.0 expired.0 pr))

opening_goes : (script : Commands) (files : Contents) (nodes : List ℕ) → InRange script.profile
    → Progress script.profile files script.lines (judged_opening script (Some files) nodes)
opening_goes script files nodes range = record {
  profile = refl;
  told_files = refl;
  done = [];
  all = refl;
  fits = tt;
  made = opening_orderly script.profile range;
}

no_file_whole : (files : Told) (v : Verb) → absent_of files v ≡ Some EndedWhole → ⊥
no_file_whole files (verb.File name) e = go (may_be_absent files name) e
  where
    go : (absent : Bool) → ◌≡◌ {A = Option Ending} (elim absent [ true ↦ Some (Absent name) | false ↦ None ]) (Some EndedWhole) → ⊥
    go true e = cc
    go false e = cc
no_file_whole files _ e = none-some EndedWhole e

-- a run that is whole is over
over_at : (place : Place) (j : Judged) → ends_in place j ≡ Some EndedWhole → place ≡ Over
over_at Over j e = refl
over_at (Giving line) j e = absurd (no_file_whole j.files line.verb e)
over_at (Again line) j e = absurd (no_file_whole j.files line.verb e)
over_at _ j e = absurd (none-some EndedWhole e)

-- A sender has all that these commands bring; nothing is to be told of it, and no watermark is open.
pub record Finished (p : Settings) (files : Contents) (lines : List Line) (s : SenderState) : Type 0 where
  pub made : MadeOf p files lines s
  pub quiet : (told s).1 ≡ None
  pub closed : open_watermarks s ≡ []

-- of a whole run in which nothing was refused for good and no request expired
pub whole_finished : (script : Commands) (files : Contents) (nodes : List ℕ) (events : List Event) (last : Judged) → InRange script.profile
    → ArePlain script.lines → judged_from (judged_opening script (Some files) nodes) events ≡ Some last → ending_of last ≡ Some EndedWhole
    → count_by is_refused events ≡ 0 → count_by is_expired events ≡ 0 → Finished script.profile files script.lines last.world.sender
whole_finished script files nodes events last range plain is ended kept lasting =
    let p : Settings = script.profile in
    let pr = run_goes p files script.lines range plain events (judged_opening script (Some files) nodes) last is kept lasting (opening_goes script files nodes range) in
    let left = whole_done last ended in
    let over = over_at last.place last ended in
    let nothing : pending last.place last.waiting ≡ [] = ap (λ (x : Place). pending x last.waiting) over ∙ ap option_to_list left.waiting in
    let all : script.lines ≡ pr.done ++ [] =
    pr.all ∙ ap (λ (ls : List Line). pr.done ++ (ls ++ last.left)) nothing ∙ ap (λ (ls : List Line). pr.done ++ ls) left.pulled in
    let F : Place → Type 0 = λ place. Fits last.world.sender place last.waiting in
    let M : Settings → Type 0 = λ q. MadeOf q files pr.done last.world.sender in
    let L : List Line → Type 0 = λ ls. MadeOf p files ls last.world.sender in
    record {
      made = subst L (sym (all ∙ append-nil pr.done)) (subst M pr.profile pr.made);
      quiet = subst F over pr.fits;
      closed = left.watermarks;
    }
