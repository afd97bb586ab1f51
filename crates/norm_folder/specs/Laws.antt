-- What is promised of a folder's session over an honest network.
use Rattle.std.specs.Prelude.{◌≡◌, ◌≢◌, ℕ, List, None, Some, slice_get}
use Rattle.norm_base.specs.Members.{receivers_of}
use Rattle.norm_order.specs.declared.up.Up.{Up}
use Rattle.norm_safety.specs.Safe.{Safe}
use Rattle.norm_script.specs.Commands.{Commands}
use Rattle.norm_journal.specs.Jobs.{Told}
use Rattle.norm_journal.specs.Judged.{Judged, judged_opening}
use Rattle.norm_journal.specs.SessionRun.{SessionRun, Whole, judged}
use Rattle.norm_journal.specs.WorldEvents.{world_events}
use Rattle.norm_journal.specs.declared.event.Event.{Event}
use Rattle.norm_record.specs.HandedUp.{handed_up}
use Rattle.norm_mirror.specs.Checking.{checked}
use Rattle.norm_mirror.specs.Folder.{IsOtherThan}
use Rattle.norm_mirror.specs.declared.entry.Entry.{Entry}
use Rattle.norm_arrival.specs.FolderArrives.{IsClean}
use Rattle.norm_arrival.specs.HandedBy.{ups_of}
use Rattle.norm_folder.specs.Checks.{first_unlike}
use Rattle.norm_folder.specs.Copies.{ArePut, copies}
use Rattle.norm_folder.specs.Entries.{names_of}
use Rattle.norm_folder.specs.Mirrored.{Mirrored}
use Rattle.norm_folder.specs.Sending.{IsFolderScript}

-- the receivers of a script's profile
abbrev pub nodes_of : Commands → List ℕ
nodes_of script = receivers_of script.profile script.profile.receivers

-- a session of a script was safe, as each is over an honest network
abbrev pub IsSafeRun : Commands → Told → List Event → Type 0
IsSafeRun script files journal = Safe script.profile (world_events (judged_opening script files (nodes_of script)) journal)

-- A whole session of the folder that a text names, whose files tell what they hold: safe, and nothing was refused or expired.
pub record IsSent (files : List (List ℕ × List ℕ)) (text : List ℕ) (script : Commands) (journal : List Event) : Type 0 where
  pub folder : IsFolderScript (Some files) text script
  pub run : SessionRun script (Some files) journal Whole
  pub safe : IsSafeRun script (Some files) journal
  pub clean : IsClean journal

-- Each receiver handed up the folder, so that no check refuses.
abbrev pub NoneIsUnlike : Type 0
NoneIsUnlike = (files : List (List ℕ × List ℕ)) (text : List ℕ) (script : Commands) (journal : List Event) → IsSent files text script journal
    → first_unlike (handed_up journal) (nodes_of script) ≡ None

-- If all copies are put then, the folder that the text names is mirrored.
abbrev pub CopiesMirror : Type 0
CopiesMirror = (files : List (List ℕ × List ℕ)) (text : List ℕ) (script : Commands) (journal : List Event) (sent : IsSent files text script journal)
    (after : Told) → ArePut (copies (handed_up journal) (nodes_of script)) (Some files) after
    → Mirrored files after (nodes_of script) (names_of sent.folder.folder.names)

-- If a node handed up a file with another length or digest than the folder's entry says, its check refused: of the beginning of each session that
-- was safe, whether the files tell what they hold or not.
abbrev pub ChangesAreRefused : Type 0
ChangesAreRefused = (files : Told) (text : List ℕ) (script : Commands) (folder : IsFolderScript files text script) (journal : List Event) (last : Judged)
    → judged script files (nodes_of script) journal ≡ Some last → IsSafeRun script files journal
    → (node i n : ℕ) (e : Entry) (hand_up : Up) → slice_get folder.entries i ≡ Some e
    → slice_get (ups_of node (handed_up journal)) n ≡ Some hand_up → IsOtherThan e hand_up
    → (checked (ups_of node (handed_up journal))).refused ≢ None
