-- A receiver's hand-ups, compared with its manifest one after the other.
use Rattle.std.specs.Prelude.{ℕ, ⊤, ◌+◌, ◌≡◌, ◌==◌, Bool, true, false, List, length, nat_eq, Option, None, Some, Result, Ok, Err, slice_get, fold}
use Rattle.std.specs.Cmp.Lexicographic.{pointwise}
use Rattle.sha2.specs.Sha256.{sha256}
use Rattle.norm_base.specs.declared.kinds.Kind.{Kind}
use Rattle.norm_base.specs.declared.kinds.Kind.TheVariants as kind
use Rattle.norm_order.specs.declared.up.Up.{Up}
use Rattle.norm_order.specs.declared.up.Up.TheVariants as up
use Rattle.norm_mirror.specs.Reading.{manifest_of}
use Rattle.norm_mirror.specs.declared.check.CheckFault.{CheckFault}
use Rattle.norm_mirror.specs.declared.check.CheckFault.TheVariants as fault
use Rattle.norm_mirror.specs.declared.entry.Entry.{Entry}

-- What was taken: the manifest, once it was read, and how many of its files; or why a hand-up was refused.
pub record Checked : Type 0 where
  pub entries : Option (List Entry)
  pub files : ℕ
  pub refused : Option CheckFault

abbrev pub checked_nothing : Checked
checked_nothing = record { entries = None; files = 0; refused = None }

-- ---- what is wrong with a file, the first that applies

abbrev pub has_name : Option (List ℕ) → List ℕ → Bool
has_name None name = false
has_name (Some info) name = pointwise nat_eq info name

-- a data object has no name
abbrev pub is_named : Kind → Option (List ℕ) → List ℕ → Bool
is_named kind.Data info name = false
is_named kind.File info name = has_name info name

abbrev pub digest_fault : ℕ → Bool → Option CheckFault
digest_fault index true = None
digest_fault index false = Some (fault.Digest index)

abbrev pub has_digest : List ℕ → Entry → Bool
has_digest octets e = pointwise nat_eq (sha256 octets) e.digest

abbrev pub length_fault : ℕ → Bool → List ℕ → Entry → Option CheckFault
length_fault index true octets e = digest_fault index (has_digest octets e)
length_fault index false octets e = Some (fault.Length index)

abbrev pub file_fault : ℕ → Bool → List ℕ → Entry → Option CheckFault
file_fault index true octets e = length_fault index (length octets == e.len) octets e
file_fault index false octets e = Some (fault.Name index)

-- the same with the next entry, if there is one
abbrev pub next_fault : ℕ → Kind → Option (List ℕ) → List ℕ → Option Entry → Option CheckFault
next_fault index of_kind info octets None = Some (fault.Extra index)
next_fault index of_kind info octets (Some e) = file_fault index (is_named of_kind info e.name) octets e

-- ---- a hand-up is taken

-- a hand-up is refused from now on
abbrev pub refuses : Checked → CheckFault → Checked
refuses s why = record s { refused = Some why }

-- a file was compared, and this is wrong with it, or nothing
abbrev pub after_file : Checked → Option CheckFault → Checked
after_file s (Some why) = refuses s why
after_file s None = record s { files = s.files + 1 }

abbrev pub file_by : Checked → ℕ → Kind → Option (List ℕ) → List ℕ → Option Entry → Checked
file_by s index of_kind info octets next = after_file s (next_fault index of_kind info octets next)

-- an object if no manifest was read yet
abbrev pub first_read : Checked → ℕ → Result (List Entry) ℕ → Checked
first_read s index (Ok entries) = record s { entries = Some entries }
first_read s index (Err n) = refuses s (fault.NoManifest index)

abbrev pub first_by : Checked → ℕ → Kind → List ℕ → Checked
first_by s index kind.File octets = refuses s (fault.NoManifest index)
first_by s index kind.Data octets = first_read s index (manifest_of octets)

abbrev pub object_by : Checked → ℕ → Kind → Option (List ℕ) → List ℕ → Option (List Entry) → Checked
object_by s index of_kind info octets None = first_by s index of_kind octets
object_by s index of_kind info octets (Some entries) = file_by s index of_kind info octets (slice_get entries s.files)

-- any hand-up if none was refused yet
abbrev pub looked_at : Checked → Up → Checked
looked_at s (up.Object index of_kind info octets) = object_by s index of_kind info octets s.entries
looked_at s (up.StreamOpen index) = refuses s (fault.Stream index)
looked_at s (up.StreamBytes index offset octets) = refuses s (fault.Stream index)
looked_at s (up.StreamEnd index) = refuses s (fault.Stream index)
looked_at s (up.Lost index) = refuses s (fault.Lost index)

-- after a refusal nothing changes
abbrev pub taken_by : Option CheckFault → Checked → Up → Checked
taken_by (Some why) s hand_up = s
taken_by None s hand_up = looked_at s hand_up

abbrev pub taken : Checked → Up → Checked
taken s hand_up = taken_by s.refused s hand_up

-- what a state answers
abbrev pub answer_of : Checked → Result ⊤ CheckFault
answer_of s = elim s.refused [ Some why ↦ Err why | None ↦ Ok tt ]

-- all hand-ups of a receiver
abbrev pub checked : List Up → Checked
checked ups = fold taken checked_nothing ups

-- ---- what is asked of a state

-- the manifest and all its files were taken
abbrev pub is_done_of : Option (List Entry) → ℕ → Bool
is_done_of None files = false
is_done_of (Some entries) files = length entries == files

abbrev pub is_done : Checked → Bool
is_done s = is_done_of s.entries s.files

-- the entry of a file, counted from 0
abbrev pub file_at_of : Option (List Entry) → ℕ → Option Entry
file_at_of None i = None
file_at_of (Some entries) i = slice_get entries i

abbrev pub file_at : Checked → ℕ → Option Entry
file_at s i = file_at_of s.entries i

-- ---- memory, and digests that are known

-- Only a data object is read as a manifest, and only that takes memory.
abbrev pub IsDataObject : Up → Type 0
IsDataObject (up.Object index kind.Data info octets) = ⊤
IsDataObject hand_up = ⊥

pub record MayWant (s : Checked) (hand_up : Up) : Type 0 where
  pub clean : s.refused ≡ None
  pub first : s.entries ≡ None
  pub object : IsDataObject hand_up

-- this is the digest of an object's octets
abbrev pub IsDigestOf : Up → List ℕ → Type 0
IsDigestOf (up.Object index of_kind info octets) digest = digest ≡ sha256 octets
IsDigestOf hand_up digest = ⊤
