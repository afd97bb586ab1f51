-- A profile in a file: what is read of it, and why it gives none.
use Rattle.std.specs.Prelude.{◌≡◌, ℕ, ◌<◌, ◌≤◌, ◌⊎◌, ⊤, IsUtf8, List, length, take, Bool, true, false, Option, None, Some, Result, Err}
use Rattle.std.specs.Option.{option_map}
use Rattle.norm_base.specs.Contents.{content_of}
use Rattle.norm_base.specs.Faults.{counted}
use Rattle.norm_base.specs.Settings.{Settings}
use Rattle.norm_base.specs.declared.fault.FileFault.{FileFault}
use Rattle.norm_base.specs.declared.fault.FileFault.TheVariants as file
use Rattle.norm_profile.specs.Profiles.{profile_in, document_in}
use Rattle.norm_profile.specs.declared.document.Document.{Document}
use Rattle.norm_profile.specs.declared.loading.LoadFault.{LoadFault}
use Rattle.norm_profile.specs.declared.loading.LoadFault.TheVariants as fault
use Rattle.norm_profile.specs.declared.refusal.ProfileRefusal.{ProfileRefusal}
use Rattle.norm_profile.specs.declared.refusal.ProfileRefusal.TheVariants as refusal

-- the files that are there, by name, where they are told
abbrev pub Told : Type 0
Told = Option (List (List ℕ × List ℕ))

-- the file of a name has these octets, where it is told which files are there
abbrev pub IsContent : Told → List ℕ → List ℕ → Type 0
IsContent None name octets = ⊤
IsContent (Some files) name octets = content_of files name ≡ Some octets

-- the file of a name has so many octets, where it is told which files are there
abbrev pub IsLength : Told → List ℕ → ℕ → Type 0
IsLength None name len = ⊤
IsLength (Some files) name len = option_map length (content_of files name) ≡ Some len

-- the file of a name is not there, where it is told which files are
abbrev pub IsAbsent : Told → List ℕ → Type 0
IsAbsent None name = ⊤
IsAbsent (Some files) name = content_of files name ≡ None

-- the file of a name begins with these octets, where it is told which files are there
abbrev pub IsFront : Told → List ℕ → List ℕ → Type 0
IsFront None name octets = ⊤
IsFront (Some files) name octets = (all : List ℕ) → content_of files name ≡ Some all → octets ≡ take (length octets) all

-- so much was read of a file of this length
pub record IsReading (files : Told) (name : List ℕ) (len : ℕ) (octets : List ℕ) : Type 0 where
  pub within : length octets ≤ len
  pub front : IsFront files name octets

-- what octets give, if texts give this: those that are no text are no document
pub record Gives {T : Type 0} (in_text : List ℕ → Result T ProfileRefusal) (octets : List ℕ) (answer : Result T ProfileRefusal) : Type 0 where
  pub text : IsUtf8 octets → answer ≡ in_text octets
  pub other : ¬ (IsUtf8 octets) → answer ≡ Err refusal.NoDocument

-- what the file of a name gives, if texts give this
pub record IsRead {T : Type 0} (in_text : List ℕ → Result T ProfileRefusal) (files : Told) (name : List ℕ) (answer : Result T ProfileRefusal) : Type 0 where
  pub octets : List ℕ
  pub content : IsContent files name octets
  pub gives : Gives in_text octets answer

-- The file of a name gives this profile, or this refusal.
abbrev pub IsOfFile : Told → List ℕ → Result Settings ProfileRefusal → Type 0
IsOfFile files name answer = IsRead profile_in files name answer

-- The file of a name gives this profile and first instance, or this refusal.
abbrev pub IsDocumentOf : Told → List ℕ → Result Document ProfileRefusal → Type 0
IsDocumentOf files name answer = IsRead document_in files name answer

-- The file of a name is longer than a profile may be. It is not read.
pub record IsTooLong (files : Told) (name : List ℕ) : Type 0 where
  pub len : ℕ
  pub length_is : IsLength files name len
  pub long : 65536 < len

-- Why a file gives no profile: its document is refused, or it is too long to be read; it is not there; or a call failed, or there was no
-- memory.
abbrev pub IsUnloaded : Told → List ℕ → LoadFault → Type 0
IsUnloaded files name (fault.Refused why) = IsOfFile files name (Err why) ⊎ ((why ≡ refusal.TooLong) × IsTooLong files name)
IsUnloaded files name fault.Absent = IsAbsent files name
IsUnloaded files name fault.Failed = ⊤
IsUnloaded files name fault.Memory = ⊤

-- why no octets were read
abbrev pub IsUnread : Told → List ℕ → LoadFault → Type 0
IsUnread files name (fault.Refused why) = ⊥
IsUnread files name fault.Absent = IsAbsent files name
IsUnread files name fault.Failed = ⊤
IsUnread files name fault.Memory = ⊤

-- what a fault of the files is to whoever loads
abbrev pub load_fault : FileFault → LoadFault
load_fault file.Failed = fault.Failed
load_fault file.Absent = fault.Absent

-- a call of the files failed
abbrev pub has_failed : {T : Type 0} → Result T LoadFault → Bool
has_failed (Err fault.Failed) = true
has_failed _ = false

-- the count of failed calls of the files, after this
abbrev pub FileCause : {T : Type 0} → Result T LoadFault → (before now : ℕ) → Type 0
FileCause result before now = now ≡ counted before (has_failed result)
