-- A folder that was mirrored: each receiver's copy of each file has what the file has.
use Rattle.std.specs.Prelude.{◌≡◌, ℕ, List, Contains, None, Some}
use Rattle.norm_base.specs.Contents.{content_of}
use Rattle.norm_journal.specs.Jobs.{Told}
use Rattle.norm_folder.specs.Copies.{copy_name}

-- the names of the copies of these files, of which each receiver has one
abbrev pub IsCopyName : List ℕ → List (List ℕ) → List ℕ → Type 0
IsCopyName nodes names copy = (node : ℕ) × (name : List ℕ) × Contains nodes node × Contains names name × (copy ≡ copy_name node name)

-- Files are those before, but each receiver's copy of each of these has what that has.
pub record IsMirrored (files after : List (List ℕ × List ℕ)) (nodes : List ℕ) (names : List (List ℕ)) : Type 0 where
  pub copied : (node : ℕ) (name : List ℕ) → Contains nodes node → Contains names name → content_of after (copy_name node name) ≡ content_of files name
  pub others : (other : List ℕ) → (IsCopyName nodes names other → ⊥) → content_of after other ≡ content_of files other

-- the same of files that tell what they hold
abbrev pub Mirrored : List (List ℕ × List ℕ) → (after : Told) → List ℕ → List (List ℕ) → Type 0
Mirrored files None nodes names = ⊥
Mirrored files (Some after) nodes names = IsMirrored files after nodes names
