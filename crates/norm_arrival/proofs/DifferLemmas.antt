-- All data of a folder's script is its manifest, and so is all data that is handed up. So a file that differs from the manifest is refused.
use Rattle.std.proofs.Common.{◌≡◌, ℕ, zero, suc, ◌+◌, List, [], ◌∷◌, ◌++◌, Bool, true, false, Option, None, Some, refl, sym, ◌∙◌, subst}
use Rattle.std.specs.Prelude.{◌≢◌, ◌==◌, IsSome, map, slice_get, ⊤}
use Rattle.std.specs.List.{AllByRecursion}
use Rattle.std.proofs.lemmas.Option.{none-some, same_Some}
use Rattle.norm_base.specs.Members.{receivers_of}
use Rattle.norm_base.specs.Settings.{Settings}
use Rattle.norm_base.specs.declared.kinds.Kind.TheVariants as kind
use Rattle.norm_base.specs.declared.node.Origin.{Origin}
use Rattle.fec_plan.specs.Points.{Point}
use Rattle.norm_order.specs.Entries.{Object, Whole, Stream, Entry as OrderEntry}
use Rattle.norm_order.specs.Shapes.{last_source}
use Rattle.norm_order.specs.Upto.{parts_of}
use Rattle.norm_order.specs.declared.up.Up.{Up}
use Rattle.norm_order.specs.declared.up.Up.TheVariants as up
use Rattle.norm_script.specs.Commands.{Commands}
use Rattle.norm_script.specs.declared.script.Line.{Line}
use Rattle.norm_script.specs.declared.script.Verb.{Verb}
use Rattle.norm_script.specs.declared.script.Verb.TheVariants as verb
use Rattle.norm_send_rules.specs.Commanding.{answered, commanded}
use Rattle.norm_send_rules.specs.Enqueuing.{object_fault, joined}
use Rattle.norm_send_rules.specs.Hearing.{heard}
use Rattle.norm_send_rules.specs.InWindow.{current_shapes}
use Rattle.norm_send_rules.specs.Marking.{cut_and_marked}
use Rattle.norm_send_rules.specs.SenderState.{SenderState, Instance}
use Rattle.norm_send_rules.specs.Streaming.{cut}
use Rattle.norm_send_rules.specs.Telling.{told}
use Rattle.norm_send_rules.specs.Ticking.{ticked}
use Rattle.norm_send_rules.specs.declared.fault.EnqueueFault.{EnqueueFault}
use Rattle.norm_send_rules.specs.declared.fault.SendFault.TheVariants.{Mark}
use Rattle.norm_send_rules.specs.declared.job.Job.{Job}
use Rattle.norm_send_rules.specs.declared.job.Job.TheVariants as job
use Rattle.norm_send_rules.specs.declared.job.Receipt.{Receipt}
use Rattle.norm_safety.specs.Events.{Event as WorldEvent, Commanded, Delivered, Ticked, Offered, UpTaken, NewsAsked}
use Rattle.norm_safety.specs.History.{History, history}
use Rattle.norm_safety.specs.InOrder.{GoesThrough, Stops, Hands, Loses, Within, IsHandedOf, is_stream_object}
use Rattle.norm_safety.specs.InOrder.{drop_of}
use Rattle.norm_safety.specs.OnceEach.{order_of}
use Rattle.norm_safety.specs.World.{World, world_opening}
use Rattle.norm_safety.specs.WorldStep.{world_step, run_from}
use Rattle.norm_safety.proofs.CommandSteps.{where_free}
use Rattle.norm_safety.proofs.EntryLemmas.{clash}
use Rattle.norm_safety.proofs.SenderKeeps.{Keeps, heard_keeps, ticked_keeps, told_keeps}
use Rattle.norm_safety.proofs.SizedOrders.{mark_steady}
use Rattle.norm_journal.specs.Follows.{IsJobOf}
use Rattle.norm_journal.specs.Jobs.{Told, job_of}
use Rattle.norm_journal.specs.Judged.{Judged, judged_opening}
use Rattle.norm_journal.specs.WorldEvents.{world_events}
use Rattle.norm_journal.specs.declared.event.Event.{Event}
use Rattle.norm_journal.proofs.LineLemmas.{Makes, begun_events}
use Rattle.norm_record.specs.HandedUp.{handed_up}
use Rattle.norm_mirror.specs.Checking.{checked, checked_nothing}
use Rattle.norm_mirror.specs.Folder.{IsOtherThan}
use Rattle.norm_mirror.specs.Manifest.{IsManifest, manifest_text}
use Rattle.norm_mirror.specs.declared.check.CheckFault.TheVariants as fault
use Rattle.norm_mirror.specs.declared.entry.Entry.{Entry}
use Rattle.norm_mirror.proofs.CheckLemmas.{refused_stays}
use Rattle.norm_mirror.proofs.DifferLemmas.{differs_law}
use Rattle.norm_laws.proofs.CountSender.{sender_after, sender_is}
use Rattle.norm_laws.proofs.WholeOrders.{IsWhole, AreWhole, none_open, cut_nothing}
use Rattle.norm_arrival.specs.FolderDiffers.{FolderDiffers}
use Rattle.norm_arrival.specs.FolderScript.{with_marks, folder_script}
use Rattle.norm_arrival.specs.HandedBy.{ups_of}
use Rattle.norm_arrival.proofs.FolderLemmas.{last_is_run, node_hands}
use Rattle.norm_arrival.proofs.LastMark.{order_is}

-- ---- orders whose data is one text

-- data has this text; a stream is none
abbrev IsOwn : List ℕ → Object → Type 0
IsOwn text (Whole kind.Data info octets) = octets ≡ text
IsOwn text (Whole kind.File info octets) = ⊤
IsOwn text (Stream parts) = ⊥

abbrev AreOwn : List ℕ → List OrderEntry → Type 0
AreOwn text order = AllByRecursion (λ (x : OrderEntry). IsOwn text x.object) order

-- a sender is in its first instance, and its order is such
record OwnHolds (text : List ℕ) (s : SenderState) : Type 0 where
  earlier : s.earlier ≡ []
  order : AreOwn text s.current.order

own_whole : (text : List ℕ) (order : List OrderEntry) → AreOwn text order → AreWhole order
own_whole text [] own = tt
own_whole text (x ∷ order) own = (go x.object own.0, own_whole text order own.1)
  where
    go : (o : Object) → IsOwn text o → IsWhole o
    go (Whole kind.Data info octets) h = tt
    go (Whole kind.File info octets) h = tt
    go (Stream parts) h = absurd h

own_more : (text : List ℕ) (order : List OrderEntry) (x : OrderEntry) → AreOwn text order → IsOwn text x.object → AreOwn text (order ++ x ∷ [])
own_more text [] x own one = (one, tt)
own_more text (y ∷ order) x own one = (own.0, own_more text order x own.1 one)

-- ---- steps of the sender

same_own : (text : List ℕ) (s t : SenderState) → t.earlier ≡ s.earlier → t.current ≡ s.current → OwnHolds text s → OwnHolds text t
same_own text s t earlier current h =
    let A : Instance → Type 0 = λ i. AreOwn text i.order in record { earlier = earlier ∙ h.earlier; order = subst A (sym current) h.order }

keeps_own : (text : List ℕ) (s t : SenderState) → Keeps s t → OwnHolds text s → OwnHolds text t
keeps_own text s t keeps h = same_own text s t keeps.earlier keeps.current h

joined_own : (text : List ℕ) (p : Settings) (by : Origin) (object : Object) (s : SenderState) → IsOwn text object → OwnHolds text s
    → OwnHolds text (joined p by object s)
joined_own text p by object s own h =
    record { earlier = h.earlier; order = own_more text s.current.order (record { by = by; object = object }) h.order own }

free_own : (text : List ℕ) (found : Option EnqueueFault) (s after : SenderState) (receipt : Receipt) → OwnHolds text after → OwnHolds text s
    → OwnHolds text (where_free found s after receipt).0
free_own text None s after receipt new h = new
free_own text (Some fault) s after receipt new h = h

-- a mark cuts no stream
mark_own : (text : List ℕ) (p : Settings) (s : SenderState) (by : Origin) → OwnHolds text s → OwnHolds text (answered Mark (cut_and_marked p s by None)).0
mark_own text p s by h =
    let C : SenderState → Type 0 = λ x. OwnHolds text x in
    let steady = mark_steady p by None (cut p s) (last_source (current_shapes p (cut p s))) refl in
    same_own text (cut p s) _ steady.earlier steady.current
    (subst C (sym (cut_nothing p s (none_open s.current.order (own_whole text s.current.order h.order)))) h)

-- data is this text; else it is a file, or a mark of all members
abbrev IsOwnJob : List ℕ → Job → Type 0
IsOwnJob text (job.Data info bytes) = bytes ≡ text
IsOwnJob text (job.File name bytes) = ⊤
IsOwnJob text (job.Mark None) = ⊤
IsOwnJob text _ = ⊥

command_own : (text : List ℕ) (p : Settings) (s : SenderState) (by : Origin) (j : Job) → IsOwnJob text j → OwnHolds text s → OwnHolds text (commanded p s by j).0
command_own text p s by (job.Data info bytes) own h =
    free_own text (object_fault p s info bytes) s (joined p by (Whole kind.Data info bytes) s) _ (joined_own text p by (Whole kind.Data info bytes) s own h) h
command_own text p s by (job.File name bytes) own h =
    free_own text (object_fault p s (Some name) bytes) s (joined p by (Whole kind.File (Some name) bytes) s) _
    (joined_own text p by (Whole kind.File (Some name) bytes) s tt h) h
command_own text p s by (job.Mark None) own h = mark_own text p s by h
command_own text p s by _ own h = absurd own

abbrev IsOwnEvent : List ℕ → WorldEvent → Type 0
IsOwnEvent text (Commanded by job now) = IsOwnJob text job
IsOwnEvent text _ = ⊤

event_own : (text : List ℕ) (p : Settings) (w : World) (e : WorldEvent) → IsOwnEvent text e → OwnHolds text w.sender → OwnHolds text (world_step p w e).0.sender
event_own text p w e own h = let O : SenderState → Type 0 = λ s. OwnHolds text s in subst O (sym (sender_is p w e)) (go e own)
  where
    either : (b : Bool) (t : SenderState) → OwnHolds text t → OwnHolds text (elim b [ true ↦ t | false ↦ w.sender ])
    either true t k = k
    either false t k = h

    go : (e : WorldEvent) → IsOwnEvent text e → OwnHolds text (sender_after p w.sender e)
    go (Commanded by job now) own = command_own text p w.sender by job own h
    go (Delivered node datagram now draw) own =
        either (node == p.sender) (heard p w.sender datagram now) (keeps_own text w.sender (heard p w.sender datagram now) (heard_keeps p w.sender datagram now) h)
    go (Ticked node now) own =
        either (node == p.sender) (ticked p w.sender now).0 (keeps_own text w.sender (ticked p w.sender now).0 (ticked_keeps p w.sender now) h)
    go (Offered node octets) own = h
    go (UpTaken node) own = h
    go NewsAsked own = keeps_own text w.sender (told w.sender).0 (told_keeps w.sender) h

run_own : (text : List ℕ) (p : Settings) (w : World) (events : List WorldEvent) → AllByRecursion (IsOwnEvent text) events → OwnHolds text w.sender
    → OwnHolds text (run_from p w events).sender
run_own text p w [] own h = h
run_own text p w (e ∷ events) own h = run_own text p (world_step p w e).0 events own.1 (event_own text p w e own.0 h)

-- ---- the script

abbrev IsOwnVerb : List ℕ → Verb → Type 0
IsOwnVerb text (verb.Data info octets) = octets ≡ text
IsOwnVerb text (verb.File name) = ⊤
IsOwnVerb text (verb.Mark None) = ⊤
IsOwnVerb text _ = ⊥

abbrev IsOwnLine : List ℕ → Line → Type 0
IsOwnLine text line = IsOwnVerb text line.verb

told_own : (text : List ℕ) (files : Told) (v : Verb) (j : Job) → IsOwnVerb text v → IsJobOf files v j → IsOwnJob text j
told_own text files (verb.Data info octets) (job.Data other bytes) own is = sym is.1 ∙ own
told_own text files (verb.Data info octets) _ own is = absurd is
told_own text files (verb.File name) (job.File other octets) own is = tt
told_own text files (verb.File name) _ own is = absurd is
told_own text files (verb.Mark None) (job.Mark None) own is = tt
told_own text files (verb.Mark None) (job.Mark (Some q)) own is = absurd (none-some q is)
told_own text files (verb.Mark None) _ own is = absurd is
told_own text files _ j own is = absurd own

known_own : (text : List ℕ) (v : Verb) (j : Job) → IsOwnVerb text v → job_of v ≡ Some j → IsOwnJob text j
known_own text (verb.Data info octets) j own is =
    let J : Job → Type 0 = λ x. IsOwnJob text x in subst J (same_Some (job.Data info octets) j is) own
known_own text (verb.File name) j own is = absurd (none-some j is)
known_own text (verb.Mark None) j own is = let J : Job → Type 0 = λ x. IsOwnJob text x in subst J (same_Some (job.Mark None) j is) tt
known_own text _ j own is = absurd own

abbrev Whatever : Event → Type 0
Whatever e = ⊤

makes_own : (text : List ℕ) → Makes (IsOwnLine text) Whatever (IsOwnEvent text)
makes_own text = record {
  told = λ files line by given gave now own is has. told_own text files line.verb given own is;
  known = λ line by given now own is. known_own text line.verb given own is;
  length = λ by name len now. tt;
  delivered = λ node octets now draw. tt;
  ticked = λ node now. tt;
  offered = λ node octets. tt;
  taken = λ node. tt;
  news = tt;
}

each_is : (events : List Event) → AllByRecursion Whatever events
each_is [] = tt
each_is (e ∷ events) = (tt, each_is events)

file_lines : (text : List ℕ) (number : ℕ) (entries : List Entry)
    → AllByRecursion (IsOwnLine text) (with_marks number (map (λ (e : Entry). verb.File e.name) entries))
file_lines text number [] = tt
file_lines text number (e ∷ entries) = (tt, (tt, file_lines text (number + 2) entries))

folder_lines : (p : Settings) (entries : List Entry) → AllByRecursion (IsOwnLine (manifest_text entries)) (folder_script p entries).lines
folder_lines p entries = (refl, (tt, file_lines (manifest_text entries) 3 entries))

-- ---- what is handed up

abbrev IsOwnUp : List ℕ → Up → Type 0
IsOwnUp text (up.Object index kind.Data info octets) = octets ≡ text
IsOwnUp text _ = ⊤

abbrev AreOwnUps : List ℕ → List Up → Type 0
AreOwnUps text ups = AllByRecursion (IsOwnUp text) ups

through_own : (text : List ℕ) (p : Settings) (d : Point) (index : ℕ) (order : List OrderEntry) (ups : List Up) → AreOwn text order
    → GoesThrough p d index order ups → AreOwnUps text ups
through_own text p d index order [] own Stops = tt
through_own text p d index (_ ∷ order) _ own (Hands {rest = rest} x goes) = go x.object own.0 (through_own text p d (suc index) order rest own.1 goes)
  where
    go : (o : Object) → IsOwn text o → AreOwnUps text rest → AreOwnUps text (parts_of p index o ++ rest)
    go (Whole kind.Data info octets) h more = (h, more)
    go (Whole kind.File info octets) h more = (tt, more)
    go (Stream parts) h more = absurd h
through_own text p d index (_ ∷ order) _ own (Loses {rest = rest} x front part may goes) =
    let A : List Up → Type 0 = λ us. AreOwnUps text (us ++ up.Lost index ∷ rest) in
    subst A (sym (nothing x.object own.0 part)) (tt, through_own text p d (suc index) order rest own.1 goes)
  where
    nothing : (o : Object) → IsOwn text o → IsHandedOf p index o front → front ≡ []
    nothing (Whole of_kind info octets) h is = is
    nothing (Stream parts) h is = absurd h
through_own text p d index (_ ∷ order) ups own (Within x front stream part) = absurd (never x.object own.0 stream)
  where
    never : (o : Object) → IsOwn text o → is_stream_object o ≡ true → ⊥
    never (Whole of_kind info octets) h is = clash is
    never (Stream parts) h is = h

-- ---- the check

data_or_file : (i j : ℕ) (info name : Option (List ℕ)) (xs ys : List ℕ) → up.Object i kind.Data info xs ≡ up.Object j kind.File name ys → ⊥
data_or_file i j info name xs ys e = cc

one_up : (x y : Up) → Some x ≡ Some y → x ≡ y
one_up x y e = cc

other_refused : (entries : List Entry) → IsManifest entries → (ups : List Up) → AreOwnUps (manifest_text entries) ups → (i n : ℕ) (e : Entry) (hand_up : Up)
    → slice_get entries i ≡ Some e → slice_get ups n ≡ Some hand_up → IsOtherThan e hand_up → (checked ups).refused ≢ None
other_refused entries is [] own i n e hand_up at there other clean = absurd (cc)
other_refused entries is (up.Object index kind.Data info octets ∷ ups) own i zero e hand_up at there other clean =
    data_or_file index other.index info (Some e.name) octets other.octets (one_up (up.Object index kind.Data info octets) hand_up there ∙ other.is)
other_refused entries is (up.Object index kind.Data info octets ∷ ups) own i (suc n) e hand_up at there other clean =
    let C : List ℕ → Type 0 = λ xs. (checked (up.Object index kind.Data info xs ∷ ups)).refused ≡ None in
    differs_law.refused entries index info ups i n e hand_up is at there other (subst C own.0 clean)
other_refused entries is (up.Object index kind.File info octets ∷ ups) own i n e hand_up at there other clean =
    refused_stays checked_nothing (fault.NoManifest index) ups clean
other_refused entries is (up.StreamOpen index ∷ ups) own i n e hand_up at there other clean = refused_stays checked_nothing (fault.Stream index) ups clean
other_refused entries is (up.StreamBytes index offset octets ∷ ups) own i n e hand_up at there other clean =
    refused_stays checked_nothing (fault.Stream index) ups clean
other_refused entries is (up.StreamEnd index ∷ ups) own i n e hand_up at there other clean = refused_stays checked_nothing (fault.Stream index) ups clean
other_refused entries is (up.Lost index ∷ ups) own i n e hand_up at there other clean = refused_stays checked_nothing (fault.Lost index) ups clean

-- ---- the law

pub folder_differs : FolderDiffers
folder_differs p entries files is journal last begun safe node i n e hand_up at there other =
    other_refused entries is (ups_of node (handed_up journal)) own i n e hand_up at there other
  where
    script : Commands
    script = folder_script p entries

    nodes : List ℕ
    nodes = receivers_of p p.receivers

    text : List ℕ
    text = manifest_text entries

    events : List WorldEvent
    events = world_events (judged_opening script files nodes) journal

    h : History
    h = history p events

    B : Option Judged → Type 0
    B found = IsSome found

    commands : AllByRecursion (IsOwnEvent text) events
    commands =
        begun_events (IsOwnLine text) Whatever (IsOwnEvent text) (makes_own text) script files nodes journal (folder_lines p entries)
        (subst B (sym begun) refl) (each_is journal)

    H : World → Type 0
    H w = OwnHolds text w.sender

    holds : OwnHolds text h.now.sender
    holds = subst H (sym (last_is_run p (world_opening p) events)) (run_own text p (world_opening p) events commands (record { earlier = refl; order = tt }))

    id : ℕ
    id = h.now.sender.current.id

    A : List OrderEntry → Type 0
    A order = AreOwn text order

    U : List Up → Type 0
    U ups = AreOwnUps text ups

    own : AreOwnUps text (ups_of node (handed_up journal))
    own =
        subst U (sym (node_hands script files nodes journal last node begun safe holds.earlier))
        (through_own text p (drop_of h.now.sender id) 0 (order_of h.now.sender id) _ (subst A (sym (order_is h.now.sender holds.earlier)) holds.order)
        (safe.order.through node id))
