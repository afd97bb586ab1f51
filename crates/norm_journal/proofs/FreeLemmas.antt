-- What may come next is decided, but for what is free.
use Rattle.std.proofs.Common.{◌≡◌, ℕ, ◌+◌, ◌*◌, List, [], ◌∷◌, Bool, true, false, Option, None, Some, Result, Ok, Err, length, refl, sym, ap, subst, ◌∙◌, inl, inr}
use Rattle.std.specs.Prelude.{◌==◌, ◌⊎◌}
use Rattle.norm_script.specs.declared.script.Line.{Line}
use Rattle.norm_send_rules.specs.Commanding.{commanded}
use Rattle.std.specs.Option.{option_map}
use Rattle.std.proofs.lemmas.Option.{none-some, same_Some}
use Rattle.std.proofs.lemmas.Bool.{eqb-true, eq-eqb}
use Rattle.norm_base.specs.Contents.{content_of}
use Rattle.norm_base.specs.Settings.{Settings}
use Rattle.norm_base.specs.declared.kinds.Sent.{Sent}
use Rattle.norm_base.specs.declared.kinds.Sent.TheVariants as sent
use Rattle.norm_base.specs.declared.node.Origin.{Origin}
use Rattle.norm_ext.specs.Written.{Written}
use Rattle.norm_order.specs.declared.up.Up.{Up}
use Rattle.norm_receive_rules.specs.Holding.{Holding}
use Rattle.norm_receive_rules.specs.ReceiverState.{ReceiverState}
use Rattle.norm_receive_rules.specs.Taking.{took}
use Rattle.norm_script.specs.declared.script.Verb.{Verb}
use Rattle.norm_script.specs.declared.script.Verb.TheVariants as verb
use Rattle.norm_send_rules.specs.declared.fault.SendFault.{SendFault}
use Rattle.norm_send_rules.specs.declared.fault.SendFault.TheVariants as send
use Rattle.norm_send_rules.specs.declared.job.Job.{Job}
use Rattle.norm_send_rules.specs.declared.job.Job.TheVariants as job
use Rattle.norm_send_rules.specs.declared.job.Receipt.{Receipt}
use Rattle.norm_send_rules.specs.declared.news.News.{News}
use Rattle.norm_safety.specs.Events.{Commanded, Ticked, Answer, Gave, Sent as Gives, Took, Silent}
use Rattle.norm_safety.specs.Lawful.{AllTaken}
use Rattle.norm_safety.specs.World.{World, receiver_at}
use Rattle.norm_safety.specs.WorldStep.{moved, receiver_move}
use Rattle.norm_receive_rules.specs.ReceiverStep as receiver
use Rattle.norm_journal.specs.declared.event.Event.{Event}
use Rattle.norm_journal.specs.declared.event.Event.TheVariants as event
use Rattle.norm_journal.specs.Follows.{Follows, IsLength, IsJobOf, OfferedAndTold, OfferedAgain, FileRefused, SendersTick, ReceiversTick, TurnBegins, IsQuiet, sent_of}
use Rattle.norm_journal.specs.Free.{IsFile, IsFree, OnlyTheseAreFree}
use Rattle.norm_journal.specs.InWorld.{answer_to}
use Rattle.norm_journal.specs.Commands.{telling}
use Rattle.norm_journal.specs.Jobs.{Told as Files, job_of, is_read, file_of_length}
use Rattle.norm_journal.specs.Judged.{Judged, is_done, news_due}
use Rattle.norm_journal.specs.Places.{Place, Starting, Between, Pulling, Giving, Again, Sending, Offering, Taking, Handing, Over}
use Rattle.norm_journal.specs.Pulling.{origin_of}
use Rattle.norm_journal.proofs.LengthLemmas.{files_by_length}
use Rattle.norm_journal.proofs.OfferLemmas.{told_at, repeated_at}

-- what was said to be given, and whether a datagram was
abbrev gave_in : Answer → Result Receipt SendFault
gave_in (Gave result) = result
gave_in _ = Err send.Memory

abbrev sent_in : Answer → Sent
sent_in (Gives datagram) = sent_of datagram
sent_in _ = sent.Nothing

-- the job of a command, where it is decided
abbrev job_in : Files → Verb → Option Job
job_in files (verb.Data info octets) = Some (job.Data info octets)
job_in None (verb.File name) = None
job_in (Some files) (verb.File name) = option_map (λ (octets : List ℕ). job.File name octets) (content_of files name)
job_in files verb.Open = Some job.Open
job_in files (verb.Write octets) = Some (job.Write octets)
job_in files verb.Close = Some job.Close
job_in files (verb.Mark quorum) = Some (job.Mark quorum)
job_in files (verb.Restart instance) = Some (job.Restart instance)
job_in files (verb.Strike node) = Some (job.Strike node)

-- what an offer that tells a job is, by what it gave
abbrev told_event : Origin → Job → Result Receipt SendFault → Event
told_event by (job.File name octets) (Err fault) = event.Length by name (length octets) fault
told_event by (job.File name octets) (Ok receipt) = event.Job by (Some (job.File name octets)) (Ok receipt)
told_event by other gave = event.Job by (Some other) gave

abbrev gives_to : Judged → Origin → Job → Result Receipt SendFault
gives_to j by job = gave_in (answer_to (Commanded by job j.now) j)

abbrev telling_due : Judged → Line → Option Event
telling_due j line = option_map (λ (job : Job). told_event (origin_of line) job (gives_to j (origin_of line) job)) (job_in j.files line.verb)

abbrev again_due : Judged → Line → Option Job → Option Event
again_due j line known = elim known [
  | Some job ↦ Some (event.Job (origin_of line) None (gives_to j (origin_of line) job))
  | None ↦ telling_due j line
]

abbrev tick_due : Judged → ℕ → Event
tick_due j node = event.Tick node (sent_in (answer_to (Ticked node j.now) j))

abbrev hand_up_of : ℕ → Option ℕ → Up → Option Event
hand_up_of node instance up = option_map (λ (id : ℕ). event.Up node id up) instance

abbrev hands_due : Judged → ℕ → Option ℕ → List Up → Option Event
hands_due j node instance [] = Some (tick_due j node)
hands_due j node instance (up ∷ ups) = hand_up_of node instance up

abbrev receiver_part : Judged → ℕ → Option ReceiverState → Option Event
receiver_part j node None = Some (tick_due j node)
receiver_part j node (Some r) = hands_due j node r.instance r.holding.ups

abbrev turn_at : Bool → Judged → Option Event
turn_at clock j = elim clock [ true ↦ None | false ↦ Some (event.Turn (j.turn + 1) ((j.turn + 1) * j.profile.step)) ]

abbrev turn_or_end : Bool → Judged → Option Event
turn_or_end done j = elim done [ true ↦ Some event.End | false ↦ turn_at (j.profile.step == 0) j ]

-- the event that is due in a place, where it is decided
abbrev due_at : Place → Judged → Option Event
due_at Starting j = Some event.Start
due_at Between j = turn_or_end (is_done j) j
due_at Pulling j = None
due_at (Giving line) j = telling_due j line
due_at (Again line) j = again_due j line (job_of line.verb)
due_at Sending j = Some (tick_due j j.profile.sender)
due_at (Offering node datagram next) j = Some (event.Offer node datagram)
due_at (Taking taken) j = None
due_at (Handing node nodes) j = receiver_part j node (receiver_at j.world node)
due_at Over j = None

abbrev news_or : Option News → Option Event → Option Event
news_or due other = elim due [ Some news ↦ Some (event.News news) | None ↦ other ]

-- the event that is due, where it is decided
abbrev due : Judged → Option Event
due j = news_or (news_due j) (due_at j.place j)

-- an event is the one that is due, or is free
abbrev IsDecided : Judged → Event → Type 0
IsDecided j e = (due j ≡ Some e) ⊎ ((due j ≡ None) × IsFree j e)

quiet_due : (j : Judged) (place : Place) → IsQuiet j → j.place ≡ place → due j ≡ due_at place j
quiet_due j place quiet is = ap (λ n. news_or n (due_at j.place j)) quiet ∙ ap (λ p. due_at p j) is

turn_is : (clock : Bool) (j : Judged) (turn now : ℕ) (next : Judged) → (j.profile.step == 0) ≡ clock → TurnBegins j turn now next
    → (turn_at clock j ≡ Some (event.Turn turn now)) ⊎ ((turn_at clock j ≡ None) × (j.profile.step ≡ 0))
turn_is true j turn now next is t = inr (refl, eqb-true j.profile.step 0 is)
turn_is false j turn now next is t =
    let moment = t.moment.stepped (λ none. some_step (j.profile.step == 0) is (eq-eqb j.profile.step 0 none)) in
    inl (ap (λ n. Some (event.Turn n (n * j.profile.step))) (sym t.number) ∙ ap (λ m. Some (event.Turn turn m)) (sym moment))
  where
    some_step : (b : Bool) → b ≡ false → b ≡ true → ⊥
    some_step b e f = let clash : false ≡ true = sym e ∙ f in cc

either : {P Q R S : Type 0} → P ⊎ Q → (P → R) → (Q → S) → R ⊎ S
either (inl p) f g = inl (f p)
either (inr q) f g = inr (g q)

turn_decided : (j : Judged) (turn now : ℕ) (next : Judged) → IsQuiet j → TurnBegins j turn now next → IsDecided j (event.Turn turn now)
turn_decided j turn now next quiet t =
    let at_due = quiet_due j Between quiet t.place ∙ ap (λ d. turn_or_end d j) t.more in
    either (turn_is (j.profile.step == 0) j turn now next refl t) (λ e. at_due ∙ e) (λ e. (at_due ∙ e.0, e.1))

-- the job of a command is decided, or is a file's where nothing is told of files
job_is : (files : Files) (v : Verb) (job : Job) → IsJobOf files v job → (job_in files v ≡ Some job) ⊎ ((job_in files v ≡ None) × ((files ≡ None) × IsFile (Some job)))
job_is files (verb.Data info octets) (job.Data other bytes) is =
    inl (ap (λ i. Some (job.Data i octets)) is.0 ∙ ap (λ o. Some (job.Data other o)) is.1)
job_is None (verb.File name) (job.File other octets) is = inr (refl, (refl, tt))
job_is (Some files) (verb.File name) (job.File other octets) is =
    inl (ap (option_map (λ (o : List ℕ). job.File name o)) is.1 ∙ ap (λ n. Some (job.File n octets)) is.0)
job_is files verb.Open job.Open is = inl refl
job_is files (verb.Write octets) (job.Write bytes) is = inl (ap (λ o. Some (job.Write o)) is)
job_is files verb.Close job.Close is = inl refl
job_is files (verb.Mark quorum) (job.Mark other) is = inl (ap (λ q. Some (job.Mark q)) is)
job_is files (verb.Restart instance) (job.Restart other) is = inl (ap (λ i. Some (job.Restart i)) is)
job_is files (verb.Strike node) (job.Strike other) is = inl (ap (λ n. Some (job.Strike n)) is)
job_is files _ _ is = absurd is

-- the event that is due where an offer tells its job
telling_is : (place : Place) (j : Judged) (line : Line) → telling place ≡ Some line → due_at place j ≡ telling_due j line
telling_is place j line is = by_place (told_at place line is) where
  by_place : (place ≡ Giving line) ⊎ ((place ≡ Again line) × (job_of line.verb ≡ None)) → due_at place j ≡ telling_due j line
  by_place (inl giving) = ap (λ p. due_at p j) giving
  by_place (inr again) = ap (λ p. due_at p j) again.0 ∙ ap (again_due j line) again.1

clashing : false ≡ true → ⊥
clashing e = cc

told_job : (by : Origin) (job : Job) (gave : Result Receipt SendFault) → is_read job gave ≡ true → told_event by job gave ≡ event.Job by (Some job) gave
told_job by (job.File name octets) (Ok receipt) read = refl
told_job by (job.File name octets) (Err fault) read = absurd (clashing read)
told_job by (job.Data info octets) gave read = refl
told_job by job.Open gave read = refl
told_job by (job.Write octets) gave read = refl
told_job by job.Close gave read = refl
told_job by (job.Mark quorum) gave read = refl
told_job by (job.Restart instance) gave read = refl
told_job by (job.Strike node) gave read = refl

quiet_telling : (j : Judged) (line : Line) → IsQuiet j → telling j.place ≡ Some line → due j ≡ telling_due j line
quiet_telling j line quiet is = quiet_due j j.place quiet refl ∙ telling_is j.place j line is

abbrev event_for : Judged → Origin → Job → Event
event_for j by job = told_event by job (gives_to j by job)

job_decided : (j : Judged) (by : Origin) (line : Line) (told : Option Job) (gave : Result Receipt SendFault) (other : Job) → IsQuiet j → origin_of line ≡ by
    → answer_to (Commanded by other j.now) j ≡ Gave gave → OfferedAndTold j line told other gave ⊎ OfferedAgain j line told other
    → IsDecided j (event.Job by told gave)
job_decided j by line told gave other quiet named gives (inl f) =
    let at_due = quiet_telling j line quiet f.place in
    subst (λ t. IsDecided j (event.Job by t gave)) (sym f.told_is)
    (either (job_is j.files line.verb other f.its_job)
    (λ e. at_due ∙ ap (option_map (λ (job : Job). event_for j (origin_of line) job)) e
    ∙ ap (λ n. Some (event_for j n other)) named
    ∙ ap (λ a. Some (told_event by other (gave_in a))) gives
    ∙ ap Some (told_job by other gave f.read))
    (λ e. (at_due ∙ ap (option_map (λ (job : Job). event_for j (origin_of line) job)) e.0, e.1)))
job_decided j by line told gave other quiet named gives (inr a) =
    let known = repeated_at j.place line other a.place in
    subst (λ t. IsDecided j (event.Job by t gave)) (sym a.told_is)
    (inl (quiet_due j (Again line) quiet known.0
    ∙ ap (again_due j line) known.1
    ∙ ap (λ n. Some (event.Job n None (gives_to j n other))) named
    ∙ ap (λ x. Some (event.Job by None (gave_in x))) gives))

-- a file that is refused is the one that is told, or free
length_decided : (j : Judged) (by : Origin) (name : List ℕ) (len : ℕ) (fault : SendFault) (next : Judged) → IsQuiet j → FileRefused j by name len fault next
    → IsDecided j (event.Length by name len fault)
length_decided j by name len fault next quiet f = by_files j.files refl f.its_length where
  at_due : due j ≡ option_map (λ (job : Job). event_for j by job) (job_in j.files (verb.File name))
  at_due =
      quiet_telling j f.line quiet f.place
      ∙ ap (λ n. option_map (λ (job : Job). event_for j n job) (job_in j.files f.line.verb)) f.named
      ∙ ap (λ v. option_map (λ (job : Job). event_for j by job) (job_in j.files v)) f.its_name

  of_octets : (octets : List ℕ) → length octets ≡ len → event_for j by (job.File name octets) ≡ event.Length by name len fault
  of_octets octets same =
      ap (λ gave. told_event by (job.File name octets) gave)
      (files_by_length j.profile j.world.sender by name octets ∙ ap (λ n. (commanded j.profile j.world.sender by (file_of_length name n)).1) same ∙ ap gave_in f.gives)
      ∙ ap (λ n. event.Length by name n fault) same

  by_content : (o : Option (List ℕ)) → option_map length o ≡ Some len
      → option_map (λ (job : Job). event_for j by job) (option_map (λ (octets : List ℕ). job.File name octets) o) ≡ Some (event.Length by name len fault)
  by_content None is = absurd (none-some len is)
  by_content (Some octets) is = ap Some (of_octets octets (same_Some (length octets) len is))

  by_files : (files : Files) → j.files ≡ files → IsLength files name len → IsDecided j (event.Length by name len fault)
  by_files None is its = inr (at_due ∙ ap (λ x. option_map (λ (job : Job). event_for j by job) (job_in x (verb.File name))) is, is)
  by_files (Some files) is its =
      inl (at_due ∙ ap (λ x. option_map (λ (job : Job). event_for j by job) (job_in x (verb.File name))) is ∙ by_content (content_of files name) its)

tick_is : (j : Judged) (node : ℕ) (said : Sent) (datagram : Option Written) → answer_to (Ticked node j.now) j ≡ Gives datagram → said ≡ sent_of datagram
    → tick_due j node ≡ event.Tick node said
tick_is j node said datagram gives is = ap (λ a. event.Tick node (sent_in a)) gives ∙ ap (λ s. event.Tick node s) (sym is)

part_ticks : (j : Judged) (node : ℕ) (o : Option ReceiverState) → AllTaken o → receiver_part j node o ≡ Some (tick_due j node)
part_ticks j node None taken = refl
part_ticks j node (Some r) taken = ap (hands_due j node r.instance) taken

tick_decided : (j : Judged) (node : ℕ) (said : Sent) (after : Place) (datagram : Option Written) → IsQuiet j → AllTaken (receiver_at j.world node)
    → answer_to (Ticked node j.now) j ≡ Gives datagram → said ≡ sent_of datagram → SendersTick j node after ⊎ ReceiversTick j node after
    → due j ≡ Some (event.Tick node said)
tick_decided j node said after datagram quiet taken gives is (inl s) =
    quiet_due j Sending quiet s.place ∙ ap (λ n. Some (tick_due j n)) (sym s.node_is) ∙ ap Some (tick_is j node said datagram gives is)
tick_decided j node said after datagram quiet taken gives is (inr r) =
    quiet_due j (Handing node r.nodes) quiet r.place ∙ part_ticks j node (receiver_at j.world node) taken ∙ ap Some (tick_is j node said datagram gives is)

abbrev taken_of : Holding → List Up → Holding × Option Up
taken_of s ups = elim ups [ up ∷ more ↦ (record s { ups = more }, Some up) | [] ↦ (s, None) ]

same_took : (a b : Option Up) → Took a ≡ Took b → a ≡ b
same_took a b e = cc

hands_up : (j : Judged) (node instance : ℕ) (up : Up) (s : Holding) (within : Option ℕ) (ups : List Up) → within ≡ Some instance
    → (taken_of s ups).1 ≡ Some up → hands_due j node within ups ≡ Some (event.Up node instance up)
hands_up j node instance up s within [] is e = absurd (none-some up e)
hands_up j node instance up s within (x ∷ ups) is e =
    ap (λ w. hand_up_of node w x) is ∙ ap (λ u. Some (event.Up node instance u)) (same_Some x up e)

abbrev instance_of : Option ReceiverState → Option ℕ
instance_of o = elim o [ Some r ↦ r.instance | None ↦ None ]

abbrev answer_of : Settings → World → Option ReceiverState → Answer
answer_of p w o = (moved p w (receiver_move o receiver.UpTaken)).1

silent_took : (up : Option Up) → Silent ≡ Took up → ⊥
silent_took up e = cc

part_hands : (j : Judged) (node instance : ℕ) (up : Up) (o : Option ReceiverState) → instance_of o ≡ Some instance → answer_of j.profile j.world o ≡ Took (Some up)
    → receiver_part j node o ≡ Some (event.Up node instance up)
part_hands j node instance up None within gives = absurd (none-some instance within)
part_hands j node instance up (Some r) within gives =
    hands_up j node instance up r.holding r.instance r.holding.ups within (same_took (took r).1 (Some up) gives)

decided : (j next : Judged) (e : Event) → Follows j e next → IsDecided j e
decided j next event.Start f = inl (quiet_due j Starting f.0 f.1.place)
decided j next (event.Turn turn now) f = turn_decided j turn now next f.0 f.1
decided j next (event.Pull by) f = inr (quiet_due j Pulling f.0 f.1.place, tt)
decided j next (event.Job by told gave) f = job_decided j by f.1.line told gave f.1.job f.0 f.1.named f.1.gives f.1.due
decided j next (event.Length by name len fault) f = length_decided j by name len fault next f.0 f.1
decided j next (event.Tick node said) f = inl (tick_decided j node said f.1.after f.1.datagram f.0 f.1.taken f.1.gives f.1.said_is f.1.due)
decided j next (event.Offer from octets) f = inl (quiet_due j (Offering from octets f.1.after) f.0 f.1.place)
decided j next (event.Took to octets) f = inr (quiet_due j (Taking f.1.count) f.0 f.1.place, tt)
decided j next event.Empty f = inr (quiet_due j (Taking f.1.count) f.0 f.1.place, tt)
decided j next (event.Up node instance up) f =
    inl (quiet_due j (Handing node f.1.nodes) f.0 f.1.place ∙ part_hands j node instance up (receiver_at j.world node) f.1.within f.1.gives)
decided j next (event.News news) f = inl (ap (λ n. news_or n (due_at j.place j)) f.due)
decided j next event.End f = inl (quiet_due j Between f.0 f.1.place ∙ ap (λ d. turn_or_end d j) f.1.done)

one_or_free : (j : Judged) (e f : Event) → IsDecided j e → IsDecided j f → (e ≡ f) ⊎ (IsFree j e × IsFree j f)
one_or_free j e f (inl a) (inl b) = inl (same_Some e f (sym a ∙ b))
one_or_free j e f (inl a) (inr b) = absurd (none-some e (sym b.0 ∙ a))
one_or_free j e f (inr a) (inl b) = absurd (none-some f (sym a.0 ∙ b))
one_or_free j e f (inr a) (inr b) = inr (a.1, b.1)

pub only_these_are_free : OnlyTheseAreFree
only_these_are_free j a b e f x y = one_or_free j e f (decided j a e x) (decided j b f y)
