-- What the parts of `mirror` leave, one after the other.
use Rattle.std.specs.Prelude.{◌≡◌, ◌⊎◌, ℕ, List, [], ◌∷◌, length, Option, None, Some, Ok, Err}
use Rattle.norm_base.specs.Faults.{one_more}
use Rattle.norm_base.specs.Told.{Pieces, gained, GainsFront}
use Rattle.norm_journal.specs.Jobs.{Told}
use Rattle.norm_journal.specs.declared.event.Event.{Event}
use Rattle.norm_mirror.specs.declared.entry.Entry.{Entry}
use Rattle.norm_record.specs.HandedUp.{handed_up}
use Rattle.norm_script.specs.Folder.{Folder, folder_of}
use Rattle.norm_folder.specs.Copies.{ArePut, StopsPuts, copies}
use Rattle.norm_folder.specs.Entries.{AreEntries, ordered}
use Rattle.norm_arrival.specs.FolderScript.{folder_script}
use Rattle.norm_folder.specs.declared.entries.Unready.{Unready}
use Rattle.norm_folder.specs.declared.entries.Unready.TheVariants as unready
use Rattle.norm_turns.specs.Causes.{FilesCause}
use Rattle.norm_turns.specs.declared.fault.SessionFault.{SessionFault}
use Rattle.norm_program.specs.Asked.{Mirror}
use Rattle.norm_endings.specs.Endings.{IsStoppedEnding}
use Rattle.norm_endings.specs.Outside.{Outside, IsInput}
use Rattle.norm_program.specs.Ends.{Prepared}
use Rattle.norm_program.specs.MirrorEnds.{EndsMirror, unsendable_line, unmirrored, unmirrored_line}
use Rattle.norm_program.specs.declared.mirror.Sending.{Sending}
use Rattle.norm_endings.specs.declared.status.Ending.{Ending}
use Rattle.norm_endings.specs.declared.status.Ending.TheVariants.{Done, Memory, Write, Unsendable}

-- The input names this folder.
pub record Named (folder : Folder) (before after : Option (List ℕ)) : Type 0 where
  pub text : List ℕ
  pub input : IsInput text before after
  pub read : folder_of text ≡ Ok folder

-- A folder is sent so: by the script of its files' entries, of which there are so many.
pub record IsSending (files : Told) (folder : Folder) (sending : Sending) : Type 0 where
  pub entries : List Entry
  pub are : AreEntries files (ordered folder) entries
  pub script : sending.script ≡ folder_script folder.profile entries
  pub count : sending.files ≡ length entries

-- nothing was written, for want of memory
pub record NoLine (ending : Ending) (unwritten written : Pieces) (before after : ℕ) : Type 0 where
  pub is : ending ≡ Memory
  pub output : written ≡ unwritten
  pub writes : after ≡ before

-- a last line was written, and this is its ending
pub record HasLine (own : Ending) (line : List ℕ) (ending : Ending) (unwritten written : Pieces) (before after : ℕ) : Type 0 where
  pub is : ending ≡ own
  pub output : written ≡ gained unwritten (line ∷ [])
  pub writes : after ≡ before

-- its write failed
pub record LacksLine (line : List ℕ) (ending : Ending) (unwritten written : Pieces) (before after : ℕ) : Type 0 where
  pub is : ending ≡ Write
  pub output : GainsFront unwritten written line
  pub writes : after ≡ one_more before

abbrev pub IsLastOf : Ending → List ℕ → Ending → (unwritten written : Pieces) (before after : ℕ) → Type 0
IsLastOf own line ending unwritten written before after =
    HasLine own line ending unwritten written before after ⊎ LacksLine line ending unwritten written before after

-- the same, or there was no memory for the line
abbrev pub IsLastIn : Ending → List ℕ → Ending → (unwritten written : Pieces) (before after : ℕ) → Type 0
IsLastIn own line ending unwritten written before after =
    IsLastOf own line ending unwritten written before after ⊎ NoLine ending unwritten written before after

-- how a folder that is not sent ends the program
abbrev pub IsUnreadyEnding : Unready → Ending → (unwritten written : Pieces) (before after : ℕ) → Type 0
IsUnreadyEnding (unready.Unread why) ending unwritten written before after = IsStoppedEnding why ending unwritten written before after
IsUnreadyEnding (unready.Unsendable name len) ending unwritten written before after =
    IsLastIn (Unsendable name len) (unsendable_line name) ending unwritten written before after

-- What a part that puts files found and left: the output's pieces, how often a write had failed, the files, and how often they had failed.
pub record Left : Type 0 where
  pub written : Pieces
  pub writes : ℕ
  pub files : Told
  pub faults : ℕ

abbrev pub left : Pieces → ℕ → Told → ℕ → Left
left written writes files faults = record { written = written; writes = writes; files = files; faults = faults }

-- the files are as they were, and none of their calls failed
pub record KeptLeft (before after : Left) : Type 0 where
  pub files : after.files ≡ before.files
  pub faults : after.faults ≡ before.faults

-- a folder was not mirrored, and nothing was put
pub record EndsWhy (journal : List Event) (nodes : List ℕ) (ending : Ending) (before after : Left) : Type 0 where
  pub why : Ending
  pub is : unmirrored journal nodes ≡ Some why
  pub last : IsLastIn why (unmirrored_line why) ending before.written after.written before.writes after.writes
  pub kept : KeptLeft before after

-- all copies were put, and then the last line was written, or not
pub record PutAll (files : List (List ℕ × List ℕ)) (line : List ℕ) (ending : Ending) (before after : Left) : Type 0 where
  pub put : ArePut files before.files after.files
  pub faults : after.faults ≡ before.faults
  pub last : IsLastIn Done line ending before.written after.written before.writes after.writes

-- a fault stopped the puts
pub record PutSome (files : List (List ℕ × List ℕ)) (ending : Ending) (before after : Left) : Type 0 where
  pub fault : SessionFault
  pub put : StopsPuts fault files before.files after.files
  pub cause : FilesCause {T = ℕ} (Err fault) before.faults after.faults
  pub last : IsStoppedEnding fault ending before.written after.written before.writes after.writes

-- how the copies of a folder end the program
abbrev pub EndsCopies : List (List ℕ × List ℕ) → List ℕ → Ending → Left → Left → Type 0
EndsCopies files line ending before after = PutAll files line ending before after ⊎ PutSome files ending before after

-- there was nothing to say against it
pub record EndsAll (journal : List Event) (nodes : List ℕ) (line : List ℕ) (ending : Ending) (before after : Left) : Type 0 where
  pub is : unmirrored journal nodes ≡ None
  pub copies : EndsCopies (copies (handed_up journal) nodes) line ending before after

-- there was no memory to check
pub record EndsUnchecked (ending : Ending) (before after : Left) : Type 0 where
  pub none : NoLine ending before.written after.written before.writes after.writes
  pub kept : KeptLeft before after

-- how a folder whose session was whole ends the program
abbrev pub EndsWhole : List Event → List ℕ → List ℕ → Ending → Left → Left → Type 0
EndsWhole journal nodes line ending before after =
    EndsWhy journal nodes ending before after ⊎ (EndsAll journal nodes line ending before after ⊎ EndsUnchecked ending before after)

-- A folder was sent: with any input that named it before, the mirror ended so.
abbrev pub EndsSending : Sending → Ending → Outside → Outside → Type 0
EndsSending sending ending before after =
    (input : Option (List ℕ)) (p : Prepared (Mirror before.called.files) sending.script input before.input) → sending.files ≡ length p.read.entries
    → EndsMirror ending (record before { input = input }) after
