-- A journal of data and files counts no more octets than the profile's for each object.
use Rattle.std.proofs.Common.{◌≡◌, ℕ, ◌+◌, ◌*◌, ◌<◌, ◌≤◌, List, [], ◌∷◌, ◌++◌, length, Bool, true, false, Option, None, Some, Result, Ok, Err, refl, sym, ap, ◌∙◌, subst, arith, inl, inr}
use Rattle.std.specs.Prelude.{nat_lt, nat_le, ◌⊎◌, IfSome, ⊤}
use Rattle.std.specs.List.{AllByRecursion}
use Rattle.std.specs.Option.{option_map, option_to_list}
use Rattle.std.proofs.lemmas.Bool.Decides.{Decides-ltb}
use Rattle.std.proofs.lemmas.Option.{none-some, same_Some, option_and_then_some}
use Rattle.norm_base.specs.Settings.{Settings}
use Rattle.norm_base.specs.declared.kinds.Kind.{Kind}
use Rattle.norm_base.specs.declared.kinds.Kind.TheVariants as kind
use Rattle.norm_base.specs.declared.node.Origin.{Origin}
use Rattle.fec_plan.specs.declared.position.Position.{Position}
use Rattle.norm_order.specs.Entries.{Whole, Stream, End}
use Rattle.norm_order.specs.Shapes.{last_source}
use Rattle.norm_order.specs.declared.up.Up.{Up}
use Rattle.norm_order.specs.declared.up.Up.TheVariants as up
use Rattle.norm_script.specs.Commands.{Commands}
use Rattle.norm_script.specs.declared.script.Line.{Line}
use Rattle.norm_script.specs.declared.script.Verb.{Verb}
use Rattle.norm_script.specs.declared.script.Verb.TheVariants as verb
use Rattle.norm_send_rules.specs.SenderState.{SenderState}
use Rattle.norm_send_rules.specs.InWindow.{current_shapes}
use Rattle.norm_send_rules.specs.Commanding.{commanded, answered}
use Rattle.norm_send_rules.specs.Enqueuing.{object_fault, joined, enqueued}
use Rattle.norm_send_rules.specs.Streaming.{open_fault, parts_now, close_fault, grown, cut}
use Rattle.norm_send_rules.specs.Marking.{is_no_quorum, most_open, with_watermark, watermark_at, cut_and_marked}
use Rattle.norm_send_rules.specs.Striking.{strike_fault, struck_off}
use Rattle.norm_send_rules.specs.Restarting.{is_used, begun_anew}
use Rattle.norm_send_rules.specs.Watermarks.{open_watermarks}
use Rattle.norm_send_rules.specs.declared.fault.MarkFault.TheVariants.{Quorum, TooMany}
use Rattle.norm_send_rules.specs.declared.fault.SendFault.{SendFault}
use Rattle.norm_send_rules.specs.declared.fault.SendFault.TheVariants.{Enqueue, Mark, Strike, IdUsed}
use Rattle.norm_send_rules.specs.declared.job.Job.{Job}
use Rattle.norm_send_rules.specs.declared.job.Job.TheVariants as job
use Rattle.norm_send_rules.specs.declared.job.Receipt.{Receipt}
use Rattle.norm_send_rules.specs.declared.job.Receipt.TheVariants as receipt
use Rattle.norm_send_rules.specs.declared.news.News.{News}
use Rattle.norm_send_rules.specs.declared.news.News.TheVariants as news
use Rattle.norm_send_rules.specs.declared.news.Outcome.TheVariants as outcome
use Rattle.norm_send_rules.proofs.WantLemmas.{no_row, where_free}
use Rattle.norm_safety.specs.Events.{Event as WorldEvent, Commanded, Gave}
use Rattle.norm_journal.specs.declared.event.Event.{Event}
use Rattle.norm_journal.specs.declared.event.Event.TheVariants as event
use Rattle.norm_journal.specs.declared.totals.Totals.{Totals}
use Rattle.norm_journal.specs.Accepting.{accepts, judged_from}
use Rattle.norm_journal.specs.Follows.{CommandOffered, OfferedAndTold, OfferedAgain, IsJobOf}
use Rattle.norm_journal.specs.Jobs.{Told as Files, job_of, opens_no_stream, IsOfObjects}
use Rattle.norm_journal.specs.Judged.{Judged, judged_opening}
use Rattle.norm_journal.specs.SessionRun.{Begun}
use Rattle.norm_journal.specs.Totals.{with_gave, with_up, with_news}
use Rattle.norm_journal.specs.WorldEvents.{job_at, world_event, world_events}
use Rattle.norm_journal.proofs.FollowLemmas.{judges_what_follows}
use Rattle.norm_journal.proofs.LineLemmas.{Makes, begun_events}
use Rattle.norm_journal.proofs.WorldLemmas.{event_moves}
use Rattle.norm_laws.proofs.CountSteps.{counted, follows_counts}

-- ---- what a command brings

-- it writes to no stream
abbrev WritesNone : Job → Type 0
WritesNone (job.Write bytes) = ⊥
WritesNone _ = ⊤

-- the objects that a receipt counts, and the octets
abbrev objects_of : Result Receipt SendFault → ℕ
objects_of (Ok (receipt.Object index len)) = 1
objects_of (Ok (receipt.Opened index)) = 1
objects_of _ = 0

abbrev octets_of : Result Receipt SendFault → ℕ
octets_of (Ok (receipt.Object index len)) = len
octets_of (Ok (receipt.Wrote index offset len)) = len
octets_of _ = 0

-- no more octets than the profile's for each object
abbrev Brings : Settings → Result Receipt SendFault → Type 0
Brings p gave = octets_of gave ≤ objects_of gave * p.octets

not_over : (a b : ℕ) → nat_lt a b ≡ false → b ≤ a
not_over a b e = let not_lt : a < b → ⊥ = λ lt. clash (sym e ∙ (Decides-ltb a b).1 lt) in omega arith
  where
    clash : false ≡ true → ⊥
    clash e = cc

-- a step that answers a receipt where there is no fault
free_brings : {F : Type 0} (p : Settings) (word : F → SendFault) (found : Option F) (s after : SenderState) (gave : Receipt)
    → (found ≡ None → Brings p (Ok gave)) → Brings p (answered word (where_free found s after Err (Ok gave))).1
free_brings p word None s after gave h = h refl
free_brings p word (Some fault) s after gave h = omega arith

object_brings : (p : Settings) (s : SenderState) (by : Origin) (kind : Kind) (info : Option (List ℕ)) (octets : List ℕ)
    → Brings p (answered Enqueue (enqueued p s by kind info octets)).1
object_brings p s by kind info octets = free_brings p Enqueue (object_fault p s info octets) s (joined p by (Whole kind info octets) s) _ (λ none.
    (let fits = not_over p.octets (length octets) (no_row _ _ _ (no_row _ _ _ none).1).0 in omega (arith, fits)))

mark_brings : (p : Settings) (s : SenderState) (by : Origin) (quorum : Option ℕ) → Brings p (answered Mark (cut_and_marked p s by quorum)).1
mark_brings p s by quorum = go (last_source (current_shapes p (cut p s)))
  where
    full : (b : Bool) (at : Position) → Brings p (answered Mark (elim b [
      | true ↦ (cut p s, Err (TooMany (length (open_watermarks (cut p s)))))
      | false ↦ (with_watermark (cut p s) by quorum at, Ok (receipt.Mark (length (cut p s).watermarks + 1) at))
    ])).1
    full true at = omega arith
    full false at = omega arith

    go : (found : Option Position) → Brings p (answered Mark (watermark_at (cut p s) by quorum found)).1
    go None = omega arith
    go (Some at) = full (nat_le most_open (length (open_watermarks (cut p s)))) at

command_brings : (p : Settings) (s : SenderState) (by : Origin) (job : Job) → WritesNone job → Brings p (commanded p s by job).1
command_brings p s by (job.Data info bytes) none = object_brings p s by kind.Data info bytes
command_brings p s by (job.File name bytes) none = object_brings p s by kind.File (Some name) bytes
command_brings p s by job.Open none = free_brings p Enqueue (open_fault p s) s (joined p by (Stream []) s) _ (λ e. omega arith)
command_brings p s by (job.Write bytes) none = absurd none
command_brings p s by job.Close none =
    free_brings p Enqueue (close_fault p s (parts_now s ++ End ∷ [])) s (grown p s (parts_now s ++ End ∷ [])) _ (λ e. omega arith)
command_brings p s by (job.Mark None) none = mark_brings p s by None
command_brings p s by (job.Mark (Some q)) none = go (is_no_quorum p q)
  where
    go : (b : Bool) → Brings p (answered Mark (elim b [ true ↦ (s, Err (Quorum q)) | false ↦ cut_and_marked p s by (Some q) ])).1
    go true = omega arith
    go false = mark_brings p s by (Some q)
command_brings p s by (job.Restart id) none = go (is_used s id)
  where
    step : Bool → SenderState × Result Receipt SendFault
    step b = elim b [ true ↦ (s, Err (IdUsed id)) | false ↦ (begun_anew id s, Ok (receipt.Restarted id)) ]

    go : (b : Bool) → Brings p (step b).1
    go true = omega arith
    go false = omega arith
command_brings p s by (job.Strike node) none = free_brings p Strike (strike_fault s node) s (struck_off node s) _ (λ e. omega arith)

-- ---- which commands write

-- the event writes to no stream
abbrev IsNoWrite : WorldEvent → Type 0
IsNoWrite (Commanded by job now) = WritesNone job
IsNoWrite _ = ⊤

-- the job of a command that is of no stream
writes_none : (files : Files) (v : Verb) (given : Job) → opens_no_stream v ≡ true → IsJobOf files v given → WritesNone given
writes_none files (verb.Data info octets) (job.Data other bytes) is its = tt
writes_none files (verb.File name) (job.File other octets) is its = tt
writes_none files verb.Open job.Open is its = tt
writes_none files (verb.Write octets) (job.Write bytes) is its = absurd (cc)
writes_none files verb.Close job.Close is its = tt
writes_none files (verb.Mark quorum) (job.Mark other) is its = tt
writes_none files (verb.Restart instance) (job.Restart other) is its = tt
writes_none files (verb.Strike node) (job.Strike other) is its = tt
writes_none files _ _ is its = absurd its

known_none : (v : Verb) (given : Job) → opens_no_stream v ≡ true → job_of v ≡ Some given → WritesNone given
known_none (verb.Data info octets) given is its = subst WritesNone (same_Some (job.Data info octets) given its) tt
known_none (verb.File name) given is its = absurd (none-some given its)
known_none verb.Open given is its = absurd (cc)
known_none (verb.Write octets) given is its = absurd (cc)
known_none verb.Close given is its = absurd (cc)
known_none (verb.Mark quorum) given is its = subst WritesNone (same_Some (job.Mark quorum) given its) tt
known_none (verb.Restart instance) given is its = subst WritesNone (same_Some (job.Restart instance) given its) tt
known_none (verb.Strike node) given is its = subst WritesNone (same_Some (job.Strike node) given its) tt

abbrev Whatever : Event → Type 0
Whatever e = ⊤

each_is : (events : List Event) → AllByRecursion Whatever events
each_is [] = tt
each_is (e ∷ events) = (tt, each_is events)

makes_no_writes : Makes IsOfObjects Whatever IsNoWrite
makes_no_writes = record {
  told = λ files line by given gave now is its has. writes_none files line.verb given is its;
  known = λ line by given now is its. known_none line.verb given is its;
  length = λ by name len now. tt;
  delivered = λ node octets now draw. tt;
  ticked = λ node now. tt;
  offered = λ node octets. tt;
  taken = λ node. tt;
  news = tt;
}

pub nothing_is_written : (script : Commands) (files : Files) (nodes : List ℕ) (events : List Event) → AllByRecursion IsOfObjects script.lines
    → Begun script files nodes events → AllByRecursion IsNoWrite (world_events (judged_opening script files nodes) events)
nothing_is_written script files nodes events lines begun =
    begun_events IsOfObjects Whatever IsNoWrite makes_no_writes script files nodes events lines begun (each_is events)

-- ---- what a journal counts

-- no more octets were counted than the profile's for each object
abbrev IsFilled : Settings → Totals → Type 0
IsFilled p t = t.octets ≤ t.objects * p.octets

more_filled : (n m len each : ℕ) → n ≤ m * each → len ≤ 1 * each → n + len ≤ (m + 1) * each
more_filled n m len each h few = omega (arith, h, few)

gave_filled : (p : Settings) (gave : Result Receipt SendFault) (t : Totals) → Brings p gave → IsFilled p t → IsFilled p (with_gave gave t)
gave_filled p (Ok (receipt.Object index len)) t few h = more_filled t.octets t.objects len p.octets h few
gave_filled p (Ok (receipt.Opened index)) t few h = (let le = more_filled t.octets t.objects 0 p.octets h (omega arith) in omega (arith, le))
gave_filled p (Ok (receipt.Wrote index offset len)) t few h = omega (arith, h, few)
gave_filled p (Ok (receipt.Closed index)) t few h = h
gave_filled p (Ok (receipt.Mark mark at)) t few h = h
gave_filled p (Ok (receipt.Restarted instance)) t few h = h
gave_filled p (Ok (receipt.Struck node)) t few h = h
gave_filled p (Err fault) t few h = h

-- a command that was offered
offered_filled : (j next : Judged) (by : Origin) (told : Option Job) (gave : Result Receipt SendFault) → CommandOffered j by told gave next
    → IfSome (world_event j (event.Job by told gave)) IsNoWrite → IsFilled j.profile j.totals → IsFilled j.profile (with_gave gave j.totals)
offered_filled j next by told gave f none h =
    gave_filled j.profile gave j.totals
    (subst (Brings j.profile) (same_gave _ gave f.gives) (command_brings j.profile j.world.sender by f.job
    (subst (λ o. IfSome (option_map (λ (job : Job). Commanded by job j.now) o) IsNoWrite) (job_is f.due) none))) h
  where
    same_gave : (a b : Result Receipt SendFault) → Gave a ≡ Gave b → a ≡ b
    same_gave a b e = cc

    job_is : OfferedAndTold j f.line told f.job gave ⊎ OfferedAgain j f.line told f.job → job_at j.place told ≡ Some f.job
    job_is (inl due) = ap (job_at j.place) due.told_is
    job_is (inr due) = ap (job_at j.place) due.told_is ∙ ap (option_map (λ (known : Line × Job). known.1)) due.place

up_filled : (p : Settings) (up : Up) (t : Totals) → IsFilled p t → IsFilled p (with_up up t)
up_filled p (up.Object index kind info octets) t h = h
up_filled p (up.StreamEnd index) t h = h
up_filled p (up.Lost index) t h = h
up_filled p _ t h = h

news_filled : (p : Settings) (n : News) (t : Totals) → IsFilled p t → IsFilled p (with_news n t)
news_filled p (news.Done mark outcome.Satisfied) t h = h
news_filled p (news.Done mark (outcome.Expired left)) t h = h
news_filled p (news.Done mark outcome.Cut) t h = h
news_filled p _ t h = h

event_filled : (j next : Judged) (e : Event) → accepts j e ≡ Some next → IfSome (world_event j e) IsNoWrite → IsFilled j.profile j.totals
    → IsFilled j.profile (counted e j.totals)
event_filled j next (event.Job by told gave) is none h =
    offered_filled j next by told gave ((judges_what_follows j next (event.Job by told gave)).0 is).1 none h
event_filled j next (event.Up node instance up) is none h = up_filled j.profile up j.totals h
event_filled j next (event.News change) is none h = news_filled j.profile change j.totals h
event_filled j next event.Start is none h = h
event_filled j next (event.Turn turn now) is none h = h
event_filled j next (event.Pull by) is none h = h
event_filled j next (event.Length by name len fault) is none h = h
event_filled j next (event.Tick node sent) is none h = h
event_filled j next (event.Offer from octets) is none h = h
event_filled j next (event.Took to octets) is none h = h
event_filled j next event.Empty is none h = h
event_filled j next event.End is none h = h

-- an event that may be none, and those behind it
split : (o : Option WorldEvent) (rest : List WorldEvent) → AllByRecursion IsNoWrite (option_to_list o ++ rest) → IfSome o IsNoWrite × AllByRecursion IsNoWrite rest
split None rest all = (tt, all)
split (Some e) rest all = all

abbrev after_that : Option Judged → List Event → List WorldEvent
after_that o events = elim o [ Some next ↦ world_events next events | None ↦ [] ]

pub run_filled : (events : List Event) (j last : Judged) → judged_from j events ≡ Some last → AllByRecursion IsNoWrite (world_events j events)
    → IsFilled j.profile j.totals → IsFilled j.profile last.totals
unfolding judged_from world_events
run_filled [] j last is none h = subst (λ x. IsFilled j.profile x.totals) (same_Some j last is) h
run_filled (e ∷ events) j last is none h =
    option_and_then_some (λ next. judged_from next events) (accepts j e) last is (λ next comes more.
    let moves = event_moves j e next comes in
    let parts = split (world_event j e) (world_events next events)
    (subst (λ o. AllByRecursion IsNoWrite (option_to_list (world_event j e) ++ after_that o events)) comes none) in
    let counts = follows_counts j next e ((judges_what_follows j next e).0 comes) in
    let first = subst (IsFilled j.profile) (sym counts) (event_filled j next e comes parts.0 h) in
    subst (λ p. IsFilled p last.totals) (sym moves.0) (run_filled events next last more parts.1 (subst (λ p. IsFilled p next.totals) moves.0 first)))
