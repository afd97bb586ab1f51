-- The files of a folder: in which order they go out, and the entry of each.
use Rattle.std.specs.Prelude.{ℕ, ◌≡◌, ◌<◌, ◌≤◌, ◌⊎◌, ⊤, true, List, [], ◌∷◌, ◌++◌, length, map, fold, Result, Ok, Err, None, Some}
use Rattle.std.specs.Cmp.Lexicographic.{slice_cmp}
use Rattle.std.specs.List.{AllByRecursion}
use Rattle.std.specs.Ordering.{match_ordering, nat_cmp}
use Rattle.sha2.specs.Sha256.{sha256}
use Rattle.norm_base.specs.Contents.{content_of}
use Rattle.norm_base.specs.Octets.{AreOctets}
use Rattle.norm_base.specs.declared.fault.FileFault.{FileFault}
use Rattle.norm_base.specs.declared.fault.FileFault.TheVariants as file
use Rattle.norm_journal.specs.Follows.{IsLength}
use Rattle.norm_journal.specs.Jobs.{Told, may_be_absent}
use Rattle.norm_mirror.specs.Manifest.{IsManifest, most_files, most_octets}
use Rattle.norm_mirror.specs.declared.entry.Entry.{Entry}
use Rattle.norm_script.specs.Folder.{Folder}
use Rattle.norm_script.specs.Words.{is_file_name}
use Rattle.norm_script.specs.declared.folder.Named.{Named}
use Rattle.norm_turns.specs.Causes.{FilesCause}
use Rattle.norm_turns.specs.declared.fault.SessionFault.{SessionFault}
use Rattle.norm_turns.specs.declared.fault.SessionFault.TheVariants as fault
use Rattle.norm_folder.specs.declared.entries.Measured.{Measured}
use Rattle.norm_folder.specs.declared.entries.Unready.{Unready}
use Rattle.norm_folder.specs.declared.entries.Unready.TheVariants.{Unsendable, Unread}

-- ---- order

-- a name among names in order, octet by octet
abbrev pub put_name : List (List ℕ) → List ℕ → List (List ℕ)
put_name [] name = name ∷ []
put_name (x ∷ names) name = match_ordering (slice_cmp nat_cmp name x) (name ∷ x ∷ names) (x ∷ names) (x ∷ put_name names name)

-- these names in order
abbrev pub in_order : List (List ℕ) → List (List ℕ)
in_order names = fold put_name [] names

abbrev pub names_of : List Named → List (List ℕ)
names_of names = map (λ (x : Named). x.name) names

-- the names of a folder in order
abbrev pub ordered : Folder → List (List ℕ)
ordered folder = in_order (names_of folder.names)

-- What the names of a folder are: names of files, from one on to as many as a manifest has lines.
pub record IsFolder (folder : Folder) : Type 0 where
  pub some : 1 ≤ length folder.names
  pub few : length folder.names ≤ most_files
  pub each : AllByRecursion (λ (x : Named). is_file_name x.name ≡ true) folder.names

-- ---- lengths

-- a file may stand in a folder by its length
pub record IsSendable (len : ℕ) : Type 0 where
  pub some : 1 ≤ len
  pub most : len ≤ most_octets

-- the file of this name has a length with which it may stand in a folder, where it is told which files are there
abbrev pub MaySend : Told → List ℕ → Type 0
MaySend files name = (len : ℕ) × IsLength files name len × IsSendable len

-- A file has its name and such a length.
pub record IsMeasured (files : Told) (name : List ℕ) (m : Measured) : Type 0 where
  pub is : m.name ≡ name
  pub len : IsLength files name m.len
  pub sendable : IsSendable m.len

-- A file is the first of these that stops the reading of a folder: each before it may be sent, where its length is told.
pub record IsFirstStop (Stops : List ℕ → Type 0) (files : Told) (names : List (List ℕ)) (name : List ℕ) : Type 0 where
  pub before : List (List ℕ)
  pub rest : List (List ℕ)
  pub is : names ≡ before ++ name ∷ rest
  pub each : AllByRecursion (MaySend files) before
  pub stops : Stops name

-- The length of a file is none with which it may stand in a folder.
pub record IsUnsendable (files : Told) (len : ℕ) (name : List ℕ) : Type 0 where
  pub is : IsLength files name len
  pub outside : (len < 1) ⊎ (most_octets < len)

abbrev pub IsAbsent : Told → List ℕ → Type 0
IsAbsent files name = may_be_absent files name ≡ true

-- the lengths of these files, in the same order, with which each may stand in a folder
abbrev pub AreMeasured : Told → List (List ℕ) → List Measured → Type 0
AreMeasured files [] [] = ⊤
AreMeasured files (name ∷ names) (m ∷ measured) = IsMeasured files name m × AreMeasured files names measured
AreMeasured files _ _ = ⊥

-- Why a file is not read: a call of the files failed, it is absent, or there was no memory.
abbrev pub IsUnread : Told → List ℕ → SessionFault → Type 0
IsUnread files name fault.Files = ⊤
IsUnread files name (fault.Absent other) = (other ≡ name) × IsAbsent files name
IsUnread files name fault.Memory = ⊤
IsUnread files name _ = ⊥

-- what a fault of the files is: where the file is absent its name wants memory
abbrev pub IsFaultOf : FileFault → List ℕ → SessionFault → Type 0
IsFaultOf file.Failed name result = result ≡ fault.Files
IsFaultOf file.Absent name result = (result ≡ fault.Absent name) ⊎ (result ≡ fault.Memory)

-- the same of the first of some files that is not read
abbrev pub IsFirstUnread : Told → List (List ℕ) → SessionFault → Type 0
IsFirstUnread files names (fault.Absent name) = IsFirstStop (IsAbsent files) files names name
IsFirstUnread files names fault.Files = ⊤
IsFirstUnread files names fault.Memory = ⊤
IsFirstUnread files names _ = ⊥

-- why one file of a folder is not sent, by its length or as it is not read
abbrev pub IsStopBy : Told → List ℕ → Unready → Type 0
IsStopBy files name (Unsendable other len) = (other ≡ name) × IsUnsendable files len name
IsStopBy files name (Unread why) = IsUnread files name why

-- Why a folder is not sent, by what its files are: one cannot stand in it by its length, or is not read.
abbrev pub IsUnready : Told → List (List ℕ) → Unready → Type 0
IsUnready files names (Unsendable name len) = IsFirstStop (IsUnsendable files len) files names name
IsUnready files names (Unread why) = IsFirstUnread files names why

-- which calls of the files failed, if a folder is not ready
abbrev pub UnreadyCause : Unready → (before now : ℕ) → Type 0
UnreadyCause (Unsendable name len) before now = now ≡ before
UnreadyCause (Unread why) before now = FilesCause {T = ℕ} (Err why) before now

-- the same of a result; otherwise none failed
abbrev pub ReadyCause : {T : Type 0} → Result T Unready → (before now : ℕ) → Type 0
ReadyCause (Ok x) before now = now ≡ before
ReadyCause (Err why) before now = UnreadyCause why before now

-- ---- entries

-- the digest is that of the file with this name, where it is told which files are there
abbrev pub IsDigest : Told → List ℕ → List ℕ → Type 0
IsDigest None name digest = ⊤
IsDigest (Some files) name digest = (octets : List ℕ) × (content_of files name ≡ Some octets) × (digest ≡ sha256 octets)

-- An entry says of its file what is told of it.
pub record IsEntryOf (files : Told) (e : Entry) : Type 0 where
  pub length : IsLength files e.name e.len
  pub digest : IsDigest files e.name e.digest

abbrev pub entry_names : List Entry → List (List ℕ)
entry_names entries = map (λ (e : Entry). e.name) entries

-- An entry is that of a file whose length is known.
pub record IsEntryFor (files : Told) (m : Measured) (e : Entry) : Type 0 where
  pub name : e.name ≡ m.name
  pub len : e.len ≡ m.len
  pub digest : IsDigest files m.name e.digest
  pub long : length e.digest ≡ 32
  pub octets : AreOctets e.digest

-- the entries of these files, in the same order, each of which says what is told of its file
abbrev pub AreRead : Told → List Measured → List Entry → Type 0
AreRead files [] [] = ⊤
AreRead files (m ∷ measured) (e ∷ entries) = IsEntryFor files m e × AreRead files measured entries
AreRead files _ _ = ⊥

-- The entries of a folder: one for each name, in order, which says what is told of that file.
pub record AreEntries (files : Told) (names : List (List ℕ)) (entries : List Entry) : Type 0 where
  pub manifest : IsManifest entries
  pub named : entry_names entries ≡ names
  pub each : AllByRecursion (IsEntryOf files) entries
