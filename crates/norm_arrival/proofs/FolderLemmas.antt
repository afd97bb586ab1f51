-- A folder arrives: what its script brings is its manifest and its files, and that is what each receiver handed up.
use Rattle.std.proofs.Common.{◌≡◌, ℕ, ◌+◌, List, [], ◌∷◌, ◌++◌, map, Option, None, Some, refl, sym, ap, ◌∙◌, subst, append_assoc}
use Rattle.std.specs.Prelude.{fold, unwrap_or, ⊤}
use Rattle.std.specs.List.{AllByRecursion}
use Rattle.std.proofs.lemmas.List.{append-nil}
use Rattle.norm_base.specs.Contents.{content_of}
use Rattle.norm_base.specs.Members.{receivers_of}
use Rattle.norm_base.specs.Settings.{Settings}
use Rattle.norm_base.specs.declared.kinds.Kind.TheVariants as kind
use Rattle.norm_order.specs.Entries.{Object, Whole, Stream, Entry as OrderEntry}
use Rattle.norm_order.specs.Upto.{parts_of, all_parts}
use Rattle.norm_order.specs.declared.up.Up.{Up}
use Rattle.norm_order.specs.declared.up.Up.TheVariants as up
use Rattle.norm_script.specs.Commands.{Commands}
use Rattle.norm_script.specs.declared.script.Line.{Line}
use Rattle.norm_script.specs.declared.script.Verb.{Verb}
use Rattle.norm_script.specs.declared.script.Verb.TheVariants as verb
use Rattle.norm_send_rules.specs.SenderState.{SenderState}
use Rattle.norm_safety.specs.Events.{Event as WorldEvent}
use Rattle.norm_safety.specs.Hands.{hands}
use Rattle.norm_safety.specs.History.{History, history, happens, last_world}
use Rattle.norm_safety.specs.Safe.{IsSafe}
use Rattle.norm_safety.specs.World.{World}
use Rattle.norm_safety.specs.WorldStep.{world_step, run_from}
use Rattle.norm_journal.specs.Jobs.{Told}
use Rattle.norm_journal.specs.Judged.{Judged, judged_opening}
use Rattle.norm_journal.specs.SessionRun.{judged}
use Rattle.norm_journal.specs.WorldEvents.{world_events}
use Rattle.norm_journal.specs.declared.event.Event.{Event}
use Rattle.norm_journal.proofs.HandedLemmas.{says_the_hands}
use Rattle.norm_journal.proofs.WorldLemmas.{moves_world}
use Rattle.norm_record.specs.HandedUp.{handed_up}
use Rattle.norm_mirror.specs.Folder.{AreFilesOf, IsFolder}
use Rattle.norm_mirror.specs.Manifest.{manifest_text}
use Rattle.norm_mirror.specs.declared.entry.Entry.{Entry}
use Rattle.norm_laws.proofs.WholeOrders.{IsWhole, AreWhole}
use Rattle.norm_arrival.specs.FolderArrives.{IsEntryOf, AreEntriesOf, FolderArrives}
use Rattle.norm_arrival.specs.FolderHandsUp.{FolderHandsUp, file_ups, folder_ups}
use Rattle.norm_arrival.specs.FolderScript.{folder_objects, command, with_marks, folder_script}
use Rattle.norm_arrival.specs.HandedBy.{ups_of}
use Rattle.norm_arrival.proofs.SenderSteps.{Orderly, objects_in, order_is_whole}
use Rattle.norm_arrival.proofs.ScriptRun.{Contents, IsPlainLine, ArePlain, Plan, plan_with, no_plan, planned, planned_whole, Finished, whole_finished}
use Rattle.norm_arrival.proofs.LastMark.{AllPast, all_past, all_handed, none_elsewhere}
use Rattle.norm_arrival.proofs.HandedNode.{OnlyIn, node_ups}

-- ---- the script of a folder

-- a verb brings an object
abbrev BringsObject : Verb → Type 0
BringsObject (verb.Data info octets) = ⊤
BringsObject (verb.File name) = ⊤
BringsObject _ = ⊥

-- the object that a verb brings
abbrev object_of : Contents → Verb → Object
object_of files (verb.Data info octets) = Whole kind.Data info octets
object_of files (verb.File name) = Whole kind.File (Some name) (unwrap_or (content_of files name) [])
object_of files _ = Whole kind.Data None []

abbrev BringObjects : List Verb → Type 0
BringObjects verbs = AllByRecursion BringsObject verbs

plain_verb : (number : ℕ) (v : Verb) → BringsObject v → IsPlainLine (command number v)
plain_verb number (verb.Data info octets) is = record { first = refl; verb = tt }
plain_verb number (verb.File name) is = record { first = refl; verb = tt }
plain_verb number _ is = absurd is

marks_plain : (number : ℕ) (verbs : List Verb) → BringObjects verbs → ArePlain (with_marks number verbs)
marks_plain number [] bring = tt
marks_plain number (v ∷ verbs) bring =
    (plain_verb number v bring.0, (record { first = refl; verb = tt }, marks_plain (number + 2) verbs bring.1))

-- the script ends in a mark
record EndsInMark (lines : List Line) : Type 0 where
  front : List Line
  number : ℕ
  is : lines ≡ front ++ command number (verb.Mark None) ∷ []

marks_end : (number : ℕ) (v : Verb) (verbs : List Verb) → EndsInMark (with_marks number (v ∷ verbs))
marks_end number v [] = record { front = command number v ∷ []; number = number + 1; is = refl }
marks_end number v (w ∷ verbs) =
    let more = marks_end (number + 2) w verbs in
    record {
      front = command number v ∷ command (number + 1) (verb.Mark None) ∷ more.front;
      number = more.number;
      is = ap (λ (ls : List Line). command number v ∷ command (number + 1) (verb.Mark None) ∷ ls) more.is;
    }

-- what it brings are its objects
marks_bring : (p : Settings) (files : Contents) (number : ℕ) (verbs : List Verb) (plan : Plan) → BringObjects verbs
    → (fold (plan_with p files) plan (with_marks number verbs)).objects ≡ plan.objects ++ map (object_of files) verbs
marks_bring p files number [] plan bring = sym (append-nil plan.objects)
marks_bring p files number (v ∷ verbs) plan bring =
    let one = plan_with p files plan (command number v) in
    marks_bring p files (number + 2) verbs (plan_with p files one (command (number + 1) (verb.Mark None))) bring.1
    ∙ ap (λ (os : List Object). os ++ map (object_of files) verbs) (brought v bring.0)
    ∙ append_assoc plan.objects (object_of files v ∷ []) (map (object_of files) verbs)
  where
    brought : (v : Verb) → BringsObject v → (plan_with p files plan (command number v)).objects ≡ plan.objects ++ object_of files v ∷ []
    brought (verb.Data info octets) is = refl
    brought (verb.File name) is = refl
    brought _ is = absurd is

-- a folder's objects
file_verbs : (entries : List Entry) → BringObjects (map (λ (e : Entry). verb.File e.name) entries)
file_verbs [] = tt
file_verbs (e ∷ entries) = (tt, file_verbs entries)

folder_brings : (entries : List Entry) → BringObjects (folder_objects entries)
folder_brings entries = (tt, file_verbs entries)

-- ---- hand-ups of objects

-- the hand-ups of data and files, from this index on
abbrev ups_from : ℕ → List Object → List Up
ups_from n [] = []
ups_from n (Whole of_kind info octets ∷ objects) = up.Object n of_kind info octets ∷ ups_from (n + 1) objects
ups_from n (Stream parts ∷ objects) = ups_from (n + 1) objects

parts_are : (p : Settings) (n : ℕ) (order : List OrderEntry) → AreWhole order → all_parts p n order ≡ ups_from n (objects_in order)
unfolding all_parts
parts_are p n [] whole = refl
parts_are p n (x ∷ order) whole = go x.object whole.0 (parts_are p (n + 1) order whole.1)
  where
    go : (o : Object) → IsWhole o → all_parts p (n + 1) order ≡ ups_from (n + 1) (objects_in order)
        → parts_of p n o ++ all_parts p (n + 1) order ≡ ups_from n (o ∷ objects_in order)
    go (Whole of_kind info octets) is more = ap (λ (us : List Up). up.Object n of_kind info octets ∷ us) more
    go (Stream parts) is more = absurd is

-- those of a folder's files
files_same : (files : Contents) (n : ℕ) (entries : List Entry)
    → ups_from n (map (object_of files) (map (λ (e : Entry). verb.File e.name) entries)) ≡ file_ups files n entries
files_same files n [] = refl
files_same files n (e ∷ entries) =
    ap (λ (us : List Up). up.Object n kind.File (Some e.name) (unwrap_or (content_of files e.name) []) ∷ us) (files_same files (n + 1) entries)

files_are : (files : Contents) (n : ℕ) (entries : List Entry) → AllByRecursion (IsEntryOf files) entries → AreFilesOf entries (file_ups files n entries)
files_are files n [] each = tt
files_are files n (e ∷ entries) each = (
  record {
    index = n;
    octets = each.0.octets;
    is = ap (λ (c : Option (List ℕ)). up.Object n kind.File (Some e.name) (unwrap_or c [])) each.0.there;
    len = each.0.len;
    digest = each.0.digest;
  },
  files_are files (n + 1) entries each.1,
)

-- they are the folder
folder_is : (files : Contents) (entries : List Entry) (ups : List Up) → AreEntriesOf files entries → ups ≡ folder_ups files entries → IsFolder entries ups
folder_is files entries ups are is = record {
  index = 0;
  info = None;
  files = file_ups files 1 entries;
  are = is;
  manifest = are.manifest;
  each = files_are files 1 entries are.each;
}

-- ---- the run

pub last_is_run : (p : Settings) (w : World) (events : List WorldEvent) → last_world w (happens p w events) ≡ run_from p w events
unfolding happens last_world
last_is_run p w [] = refl
last_is_run p w (e ∷ events) = last_is_run p (world_step p w e).0 events

-- what a node handed up in all is what it handed up in the sender's first instance, if that has no other
pub node_hands : (script : Commands) (files : Told) (nodes : List ℕ) (journal : List Event) (last : Judged) (node : ℕ) → judged script files nodes journal ≡ Some last
    → let h = history script.profile (world_events (judged_opening script files nodes) journal) in
    IsSafe script.profile h → h.now.sender.earlier ≡ [] → ups_of node (handed_up journal) ≡ hands h.happened node h.now.sender.current.id
node_hands script files nodes journal last node begun safe earlier = node_ups journal node id only ∙ says_the_hands script files nodes journal last begun node id
  where
    h : History
    h = history script.profile (world_events (judged_opening script files nodes) journal)

    id : ℕ
    id = h.now.sender.current.id

    only : OnlyIn journal node id
    only other differs =
        says_the_hands script files nodes journal last begun node other
        ∙ none_elsewhere script.profile h node other safe earlier differs

pub folder_hands_up : FolderHandsUp
folder_hands_up p range entries files journal run safe clean node there = handed
  where
    script : Commands
    script = folder_script p entries

    nodes : List ℕ
    nodes = receivers_of p p.receivers

    opening : Judged
    opening = judged_opening script (Some files) nodes

    h : History
    h = history p (world_events opening journal)

    sender_is : run.last.world.sender ≡ h.now.sender
    sender_is = ap (λ (w : World). w.sender) (sym (moves_world opening run.last journal run.begun) ∙ sym (last_is_run p opening.world (world_events opening journal)))

    F : SenderState → Type 0
    F s = Finished p files script.lines s

    finished : F h.now.sender
    finished =
        subst F sender_is (whole_finished script files nodes journal run.last range (marks_plain 1 (folder_objects entries) (folder_brings entries)) run.begun run.ended
        clean.refused clean.expired)

    mark : EndsInMark script.lines
    mark = marks_end 1 (verb.Data None (manifest_text entries)) (map (λ (e : Entry). verb.File e.name) entries)

    L : List Line → Type 0
    L lines = Finished p files lines h.now.sender

    last : AllPast p h.now.sender
    last = all_past p files mark.front (command mark.number (verb.Mark None)) None h.now.sender refl (subst L mark.is finished)

    plan : Plan
    plan = planned p files script.lines

    made : Orderly p plan.objects plan.asked h.now.sender
    made = finished.made

    objects : objects_in h.now.sender.current.order ≡ map (object_of files) (folder_objects entries)
    objects = made.order ∙ marks_bring p files 1 (folder_objects entries) no_plan (folder_brings entries)

    handed : ups_of node (handed_up journal) ≡ folder_ups files entries
    handed =
        node_hands script (Some files) nodes journal run.last node run.begun safe made.earlier
        ∙ all_handed p range h plan.objects plan.asked node safe made (planned_whole p files script.lines) last there
        ∙ parts_are p 0 h.now.sender.current.order (order_is_whole p plan.objects plan.asked h.now.sender made (planned_whole p files script.lines))
        ∙ ap (ups_from 0) objects
        ∙ ap (λ (us : List Up). up.Object 0 kind.Data None (manifest_text entries) ∷ us) (files_same files 1 entries)

pub folder_arrives : FolderArrives
folder_arrives p range entries files are journal run safe clean node there =
    folder_is files entries (ups_of node (handed_up journal)) are (folder_hands_up p range entries files journal run safe clean node there)
