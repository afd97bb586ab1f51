-- How `mirror` ends: a folder is sent to all receivers of a session, what each hands up is checked, and copies are put.
use Rattle.std.specs.Prelude.{◌≡◌, ◌⊎◌, ℕ, ◌==◌, ◌≢◌, List, [], ◌∷◌, ◌++◌, length, Bool, true, not, codes, count_by, Option, None, Some, Ok, IfSome, slice_get, if◌then◌else◌}
use Rattle.std.specs.Fmt.{decimal}
use Rattle.std.specs.Option.{option_map}
use Rattle.norm_base.specs.Faults.{one_more}
use Rattle.norm_base.specs.Network.{Network}
use Rattle.norm_base.specs.Told.{Pieces, gained, GainsFront}
use Rattle.norm_journal.specs.Counts.{is_expired}
use Rattle.norm_journal.specs.Jobs.{Told}
use Rattle.norm_journal.specs.declared.event.Event.{Event}
use Rattle.norm_record.specs.Counted.{is_refused}
use Rattle.norm_record.specs.HandedUp.{handed_up}
use Rattle.norm_script.specs.Folder.{Folder, folder_of}
use Rattle.norm_session.specs.Session.{OverHonest, nodes_of}
use Rattle.norm_order.specs.declared.up.Up.{Up}
use Rattle.norm_arrival.specs.HandedBy.{ups_of}
use Rattle.norm_folder.specs.Asking.{first_by, unaccepted_by, unsatisfied_by}
use Rattle.norm_folder.specs.Checks.{first_unlike}
use Rattle.norm_folder.specs.Copies.{ArePut, FailedPut, LackedPut, copies}
use Rattle.norm_folder.specs.Entries.{IsFirstStop, IsUnsendable, IsAbsent, names_of, ordered}
use Rattle.norm_folder.specs.Mirrored.{Mirrored}
use Rattle.norm_mirror.specs.Checking.{checked}
use Rattle.norm_mirror.specs.Folder.{IsOtherThan}
use Rattle.norm_mirror.specs.declared.entry.Entry.{Entry}
use Rattle.norm_mirror.specs.declared.outcome.Unlike.{Unlike as Difference}
use Rattle.norm_program.specs.Asked.{Mirror}
use Rattle.norm_endings.specs.Outside.{Outside, Says, Undisturbed, IsInput, FailedRead, absent_line}
use Rattle.norm_program.specs.Ends.{RanSession, SpentTurns, RefusedLine, FailedWrite, FailedNetwork, FailedFiles, AbsentFile, WantedMemory}
use Rattle.norm_endings.specs.declared.status.Ending.{Ending}
use Rattle.norm_endings.specs.declared.status.Ending.TheVariants.{Done, Memory, Refused, Read, Write, Fabric, Files, Absent, Spent, Unsendable, NotAccepted, NotSatisfied, Unlike}

-- ---- last lines

unfoldable pub unsendable_line : List ℕ → List ℕ
unsendable_line name = codes "not accepted " ++ (name ++ codes "\n")

unfoldable pub unlike_line : ℕ → List ℕ
unlike_line node = codes "refused node " ++ (decimal node ++ codes "\n")

unfoldable pub mirrored_line : (files receivers : ℕ) → List ℕ
mirrored_line files receivers = codes "mirrored " ++ (decimal files ++ (codes " files to " ++ (decimal receivers ++ codes " receivers\n")))

-- ---- a whole session

-- the number of events that a test finds is above 0
abbrev pub has_some : (Event → Bool) → List Event → Bool
has_some test journal = not (count_by test journal == 0)

-- Why a folder was not mirrored, though its session was whole: a command was refused for good; or a watermark expired; or a receiver, the first,
-- did not hand up a manifest and exactly its files. The first of these three that applies.
abbrev pub unmirrored : List Event → (nodes : List ℕ) → Option Ending
unmirrored journal nodes =
    if has_some is_refused journal then Some (NotAccepted (first_by unaccepted_by journal)) else
    (if has_some is_expired journal then Some (NotSatisfied (first_by unsatisfied_by journal)) else
    option_map Unlike (first_unlike (handed_up journal) nodes))

-- its last line
abbrev pub unmirrored_line : Ending → List ℕ
unmirrored_line (NotAccepted what) = codes "not accepted\n"
unmirrored_line (NotSatisfied which) = codes "not satisfied\n"
unmirrored_line (Unlike why) = unlike_line why.node
unmirrored_line _ = []

-- a file among these hand-ups that has another length or digest than the entry of its name is refused by their check
abbrev pub RefusesChanged : List Entry → List Up → Type 0
RefusesChanged entries ups = (i n : ℕ) (e : Entry) (hand_up : Up) → slice_get entries i ≡ Some e → slice_get ups n ≡ Some hand_up → IsOtherThan e hand_up
    → (checked ups).refused ≢ None

-- the network that a session of a folder was started over
abbrev pub network_of : {files : Told} {before after : Outside} {written : Pieces} → RanSession (Mirror files) before after true written → Network
network_of ran = ran.session.2.started

-- A session of the folder that the input names was whole: what it was, up to when this was written. Over an honest network the check of each
-- receiver refuses a file that was handed up with another length or digest than the manifest says, also if the files do not tell what they hold.
pub record SentFolder (before after : Outside) (written : Pieces) : Type 0 where
  pub ran : RanSession (Mirror before.called.files) before after true written
  pub changed : OverHonest (network_of ran) ((node : ℕ) → RefusesChanged ran.read.entries (ups_of node (handed_up ran.journal)))

-- over files that tell what they hold, and an honest network that tells what is offered
abbrev pub OverTold : Told → Network → (List (List ℕ × List ℕ) → Type 0) → Type 0
OverTold files started Promise = IfSome files (λ contents. OverHonest started (Promise contents))

-- what is said of it then
abbrev pub verdict : {before after : Outside} {written : Pieces} → SentFolder before after written → Option Ending
verdict s = unmirrored s.ran.journal (nodes_of s.ran.script)

-- the copies of its files
abbrev pub copies_in : {before after : Outside} {written : Pieces} → SentFolder before after written → List (List ℕ × List ℕ)
copies_in s = copies (handed_up s.ran.journal) (nodes_of s.ran.script)

-- the last line if they were put
abbrev pub all_line : {before after : Outside} {written : Pieces} → SentFolder before after written → List ℕ
all_line s = mirrored_line (length s.ran.read.entries) s.ran.script.profile.receivers

-- the files have what they had
abbrev pub KeptFiles : Outside → Outside → Type 0
KeptFiles before after = after.called.files ≡ before.called.files

-- All was mirrored: nothing was refused, nothing expired, each receiver handed up the manifest and exactly its files, and their copies were put.
-- Over told files and an honest network each copy has what its file has, and no other file changed.
pub record MirroredAll (before after : Outside) : Type 0 where
  pub unsaid : Pieces
  pub session : SentFolder before after unsaid
  pub all : verdict session ≡ None
  pub put : ArePut (copies_in session) before.called.files after.called.files
  pub mirrored : OverTold before.called.files (network_of session.ran)
      (λ contents. Mirrored contents after.called.files (nodes_of session.ran.script) (names_of session.ran.read.folder.names))
  pub output : after.written ≡ gained unsaid (all_line session ∷ [])
  pub undisturbed : Undisturbed before after
  pub writes : after.write_faults ≡ before.write_faults

-- It was not, and nothing was put. A last line says why.
pub record Unmirrored (ending : Ending) (before after : Outside) : Type 0 where
  pub unsaid : Pieces
  pub session : SentFolder before after unsaid
  pub why : verdict session ≡ Some ending
  pub kept : KeptFiles before after
  pub output : after.written ≡ gained unsaid (unmirrored_line ending ∷ [])
  pub undisturbed : Undisturbed before after
  pub writes : after.write_faults ≡ before.write_faults

-- A receiver handed up something else. That never comes over told files and an honest network.
pub record UnlikeFolder (why : Difference) (before after : Outside) : Type 0 where
  pub found : Unmirrored (Unlike why) before after
  pub never : OverTold before.called.files (network_of found.session.ran) (λ contents. ⊥)

-- One put failed, and a last line says so. The copies before it stay.
pub record FailedCopy (before after : Outside) : Type 0 where
  pub cause : after.called.file_faults ≡ one_more before.called.file_faults
  pub unsaid : Pieces
  pub session : SentFolder before after unsaid
  pub all : verdict session ≡ None
  pub put : FailedPut (copies_in session) before.called.files after.called.files
  pub output : Says unsaid after.written before.write_faults after.write_faults (codes "fault files\n")
  pub reads : after.read_faults ≡ before.read_faults
  pub calls : after.called.network_faults ≡ before.called.network_faults

-- There was no memory to check or to put all, or for the last line. The copies before stay.
pub record LackedCopy (before after : Outside) : Type 0 where
  pub session : SentFolder before after after.written
  pub put : LackedPut (copies_in session) before.called.files after.called.files
  pub undisturbed : Undisturbed before after
  pub writes : after.write_faults ≡ before.write_faults

-- The write of the last line failed, and left a front of it: after all copies were put, or none.
pub record UnsaidAll (before after : Outside) : Type 0 where
  pub unsaid : Pieces
  pub session : SentFolder before after unsaid
  pub all : verdict session ≡ None
  pub put : ArePut (copies_in session) before.called.files after.called.files
  pub output : GainsFront unsaid after.written (all_line session)

pub record UnsaidWhy (before after : Outside) : Type 0 where
  pub unsaid : Pieces
  pub ending : Ending
  pub session : SentFolder before after unsaid
  pub why : verdict session ≡ Some ending
  pub kept : KeptFiles before after
  pub output : GainsFront unsaid after.written (unmirrored_line ending)

-- ---- before a session

-- The input names this folder, and nothing was sent or put.
pub record NamesFolder (folder : Folder) (before after : Outside) : Type 0 where
  pub text : List ℕ
  pub input : IsInput text before.input after.input
  pub read : folder_of text ≡ Ok folder
  pub network : after.called.network ≡ before.called.network
  pub moments : after.called.moments ≡ before.called.moments
  pub kept : KeptFiles before after

-- A file, the first in order of name that stops the reading, has a length with which it cannot stand in a folder. A last line has its name.
pub record UnsendableFile (name : List ℕ) (len : ℕ) (before after : Outside) : Type 0 where
  pub folder : Folder
  pub names : NamesFolder folder before after
  pub first : IsFirstStop (IsUnsendable before.called.files len) before.called.files (ordered folder) name
  pub output : after.written ≡ gained before.written (unsendable_line name ∷ [])
  pub undisturbed : Undisturbed before after
  pub writes : after.write_faults ≡ before.write_faults

-- The write of that line failed, and left a front of it.
pub record UnsendableUnsaid (before after : Outside) : Type 0 where
  pub folder : Folder
  pub names : NamesFolder folder before after
  pub name : List ℕ
  pub len : ℕ
  pub first : IsFirstStop (IsUnsendable before.called.files len) before.called.files (ordered folder) name
  pub output : GainsFront before.written after.written (unsendable_line name)

-- A file, the first in order of name that stops the reading, is not there. A last line has its name.
pub record AbsentUnsent (name : List ℕ) (before after : Outside) : Type 0 where
  pub folder : Folder
  pub names : NamesFolder folder before after
  pub first : IsFirstStop (IsAbsent before.called.files) before.called.files (ordered folder) name
  pub output : Says before.written after.written before.write_faults after.write_faults (absent_line name)
  pub undisturbed : Undisturbed before after

-- One call of the files failed, and a last line says so.
pub record FailedUnsent (before after : Outside) : Type 0 where
  pub cause : after.called.file_faults ≡ one_more before.called.file_faults
  pub folder : Folder
  pub names : NamesFolder folder before after
  pub output : Says before.written after.written before.write_faults after.write_faults (codes "fault files\n")
  pub reads : after.read_faults ≡ before.read_faults
  pub calls : after.called.network_faults ≡ before.called.network_faults

-- ---- each ending

-- one write failed: in the session, or that of the last line
pub record MirrorWrite (before after : Outside) : Type 0 where
  pub cause : after.write_faults ≡ one_more before.write_faults
  pub at : (FailedWrite (Mirror before.called.files) before after × KeptFiles before after)
      ⊎ (UnsendableUnsaid before after ⊎ (UnsaidAll before after ⊎ UnsaidWhy before after))
  pub undisturbed : Undisturbed before after

-- What each ending of a mirror says. A session of the folder was made as one of its script is (`EndsScript`); at 8, 10, 11 and 14 nothing is put.
abbrev pub EndsMirror : Ending → Outside → Outside → Type 0
EndsMirror Done before after = MirroredAll before after
EndsMirror (Refused refusal) before after = RefusedLine (Mirror before.called.files) before after refusal
EndsMirror Read before after = FailedRead before after
EndsMirror Memory before after = (WantedMemory (Mirror before.called.files) before after × KeptFiles before after) ⊎ LackedCopy before after
EndsMirror Write before after = MirrorWrite before after
EndsMirror Fabric before after = FailedNetwork (Mirror before.called.files) before after × KeptFiles before after
EndsMirror Files before after =
    (FailedFiles (Mirror before.called.files) before after × KeptFiles before after) ⊎ (FailedUnsent before after ⊎ FailedCopy before after)
EndsMirror (Absent name) before after =
    (AbsentFile (Mirror before.called.files) name before after × KeptFiles before after) ⊎ AbsentUnsent name before after
EndsMirror Spent before after = SpentTurns (Mirror before.called.files) before after × KeptFiles before after
EndsMirror (Unsendable name len) before after = UnsendableFile name len before after
EndsMirror (NotAccepted what) before after = Unmirrored (NotAccepted what) before after
EndsMirror (NotSatisfied which) before after = Unmirrored (NotSatisfied which) before after
EndsMirror (Unlike why) before after = UnlikeFolder why before after
EndsMirror _ before after = ⊥
