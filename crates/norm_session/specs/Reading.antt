-- Files that commands name: what is read of them, and what the sender gives to one.
use Rattle.std.specs.Prelude.{◌≡◌, ℕ, ◌<◌, ◌≤◌, ◌⊎◌, List, [], take, length, Bool, true, false, Option, None, Some, Result, Ok, Err, ⊤}
use Rattle.norm_base.specs.Contents.{content_of}
use Rattle.norm_base.specs.Octets.{AreOctets}
use Rattle.norm_base.specs.declared.fault.FileFault.{FileFault}
use Rattle.norm_base.specs.declared.fault.FileFault.TheVariants as file
use Rattle.norm_base.specs.declared.node.Origin.{Origin}
use Rattle.norm_journal.specs.Follows.{IsContent}
use Rattle.norm_journal.specs.Jobs.{Told, may_be_absent, file_of_length}
use Rattle.norm_safety.specs.Events.{Commanded, Gave}
use Rattle.norm_safety.specs.World.{World}
use Rattle.norm_safety.specs.WorldStep.{world_step}
use Rattle.norm_send_rules.specs.declared.fault.SendFault.{SendFault}
use Rattle.norm_send_rules.specs.declared.job.Job.{Job}
use Rattle.norm_send_rules.specs.declared.job.Job.TheVariants as job
use Rattle.norm_send_rules.specs.declared.job.Receipt.{Receipt}
use Rattle.norm_world.specs.WorldKept.{WorldKept, StandsFor, IsFilling, HasBegun}
use Rattle.norm_world.specs.WorldMoves.{IsEvent}
use Rattle.norm_session.specs.Commanding.{told_at}
use Rattle.norm_turns.specs.declared.fault.SessionFault.{SessionFault}
use Rattle.norm_turns.specs.declared.fault.SessionFault.TheVariants as fault
use Rattle.norm_session.specs.declared.reading.FileGave.{FileGave}
use Rattle.norm_session.specs.declared.reading.FileGave.TheVariants.{Accepted, Refused}

-- Why a file is not read: a call of the files failed, it is absent, or there was no memory.
abbrev pub IsOfFile : Told → List ℕ → SessionFault → Type 0
IsOfFile files name fault.Files = ⊤
IsOfFile files name (fault.Absent other) = (other ≡ name) × (may_be_absent files name ≡ true)
IsOfFile files name fault.Memory = ⊤
IsOfFile files name _ = ⊥

-- what a fault of the files is to a run: where the file is absent its name wants memory
abbrev pub IsFaultOf : FileFault → List ℕ → SessionFault → Type 0
IsFaultOf file.Failed name result = result ≡ fault.Files
IsFaultOf file.Absent name result = (result ≡ fault.Absent name) ⊎ (result ≡ fault.Memory)

-- the file of a name begins with these octets, where it is told which files are there
abbrev pub IsFront : Told → List ℕ → List ℕ → Type 0
IsFront None name octets = ⊤
IsFront (Some files) name octets = (all : List ℕ) → content_of files name ≡ Some all → octets ≡ take (length octets) all

-- the octets that are there of the file that is begun
abbrev pub octets_there : WorldKept → List ℕ
octets_there k = elim k.sender.window.filling [ Some f ↦ f.octets | None ↦ [] ]

-- octets, where they are kept
abbrev pub octets_at : Bool → List ℕ → Option (List ℕ)
octets_at true octets = Some octets
octets_at false octets = None

-- So many octets are there of the file that is begun.
pub record HasPart (k : WorldKept) (name : List ℕ) (len done : ℕ) : Type 0 where
  pub filling : IsFilling k name len (octets_there k)
  pub count : done ≡ length (octets_there k)
  pub are_octets : AreOctets (octets_there k)

-- A file of this length is being read: the world has the octets that were read so far.
pub record IsReading (start now : WorldKept) (files : Told) (name : List ℕ) (len : ℕ) (octets : List ℕ) : Type 0 where
  pub profile : now.p ≡ start.p
  pub filling : IsFilling now name len octets
  pub within : length octets ≤ len
  pub front : IsFront files name octets
  pub begun : (w : World) → HasBegun start w name len [] → HasBegun now w name len octets

-- A file was read: the world has all its octets.
pub record HasRead (start now : WorldKept) (files : Told) (name : List ℕ) (len : ℕ) (octets : List ℕ) : Type 0 where
  pub profile : now.p ≡ start.p
  pub filling : IsFilling now name len octets
  pub whole : length octets ≡ len
  pub content : IsContent files name octets
  pub begun : (w : World) → HasBegun start w name len [] → HasBegun now w name len octets

-- the reading of a file went on by some octets
pub record ReadsOn (old new : WorldKept) (files : Told) (name : List ℕ) (len : ℕ) (octets more : List ℕ) : Type 0 where
  pub grows : length octets < length more
  pub reads : (start : WorldKept) → IsReading start old files name len octets → IsReading start new files name len more

-- a file was read, and its job is at hand where it is kept
pub record ReadsJob (start now : WorldKept) (files : Told) (name : List ℕ) (len : ℕ) (keeps : Bool) (at_hand : Option Job) : Type 0 where
  pub octets : List ℕ
  pub at_hand_is : at_hand ≡ told_at keeps (job.File name octets)
  pub are_octets : AreOctets octets
  pub read : HasRead start now files name len octets

-- A file that was begun was accepted with the octets that were read: the world stands for what its command leads to.
pub record IsAccepted (old new : WorldKept) (files : Told) (by : Origin) (name : List ℕ) (len now : ℕ) (keeps : Bool) (at_hand : Option Job)
    (receipt : Receipt) : Type 0 where
  pub octets : List ℕ
  pub at_hand_is : at_hand ≡ told_at keeps (job.File name octets)
  pub are_octets : AreOctets octets
  pub content : IsContent files name octets
  pub stands : (w : World) → HasBegun old w name len [] → StandsFor new (world_step old.p w (Commanded by (job.File name octets) now)).0
      × ((world_step old.p w (Commanded by (job.File name octets) now)).1 ≡ Gave (Ok receipt))

abbrev pub AcceptsFile : (old new : WorldKept) → Told → Origin → (name : List ℕ) (len now : ℕ) → Bool → FileGave → Type 0
AcceptsFile old new files by name len now keeps (Accepted at_hand receipt) = IsAccepted old new files by name len now keeps at_hand receipt
AcceptsFile old new files by name len now keeps (Refused back failed) = ⊥

-- what is answered of a file that is not begun, by what is given back
abbrev pub refusal_of : Option (List ℕ) → SendFault → Result FileGave SessionFault
refusal_of (Some name) failed = Ok (Refused name failed)
refusal_of None failed = Err fault.Memory

-- A file was accepted: its command is an event with the octets that were read.
pub record IsTaken (old new : WorldKept) (files : Told) (by : Origin) (name : List ℕ) (now : ℕ) (keeps : Bool) (at_hand : Option Job)
    (receipt : Receipt) : Type 0 where
  pub octets : List ℕ
  pub at_hand_is : at_hand ≡ told_at keeps (job.File name octets)
  pub are_octets : AreOctets octets
  pub content : IsContent files name octets
  pub event : IsEvent old new (Commanded by (job.File name octets) now) (λ answer. answer ≡ Gave (Ok receipt))

-- A file was offered: accepted with its octets, or refused by its name and its length alone, and its name is given back.
abbrev pub IsFileGave : (old new : WorldKept) → Told → Origin → (name : List ℕ) (len now : ℕ) → Bool → FileGave → Type 0
IsFileGave old new files by name len now keeps (Accepted at_hand receipt) = IsTaken old new files by name now keeps at_hand receipt
IsFileGave old new files by name len now keeps (Refused back failed) = (back ≡ name)
    × IsEvent old new (Commanded by (file_of_length name len) now) (λ answer. answer ≡ Gave (Err failed))
