-- A file that is read for its digest, piece by piece.
use Rattle.std.specs.Prelude.{ℕ, ◌≡◌, ◌≤◌, ◌<◌, ⊤, List, length, take, None, Some}
use Rattle.sha2.specs.Hashers.{Holds256}
use Rattle.sha2.specs.declared.Sha256.{Sha256}
use Rattle.norm_base.specs.Contents.{content_of}
use Rattle.norm_journal.specs.Jobs.{Told}

-- the file of a name begins with these octets, where it is told which files are there
abbrev pub BeginsWith : Told → List ℕ → List ℕ → Type 0
BeginsWith None name octets = ⊤
BeginsWith (Some files) name octets = (all : List ℕ) → content_of files name ≡ Some all → octets ≡ take (length octets) all

-- The first so many octets of a file were read.
pub record HasRead (files : Told) (name : List ℕ) (len done : ℕ) (hasher : Sha256) : Type 0 where
  pub octets : List ℕ
  pub holds : Holds256 hasher octets
  pub count : done ≡ length octets
  pub within : done ≤ len
  pub begins : BeginsWith files name octets

-- The reading of a file went on.
pub record ReadsOn (files : Told) (name : List ℕ) (len done next : ℕ) (hasher after : Sha256) : Type 0 where
  pub more : done < next
  pub on : HasRead files name len done hasher → HasRead files name len next after
