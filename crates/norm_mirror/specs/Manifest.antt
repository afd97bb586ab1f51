-- Manifests: what they say, and how they are spelt.
use Rattle.std.specs.Prelude.{ℕ, ◌+◌, ◌≤◌, ◌≡◌, Bool, true, List, [], ◌∷◌, ◌++◌, length, fold, map, decimal}
use Rattle.std.specs.Cmp.Lexicographic.{slice_cmp}
use Rattle.std.specs.List.{AllByRecursion}
use Rattle.std.specs.Ordering.{is_lt, nat_cmp}
use Rattle.hex.specs.Hex.{encode_lower}
use Rattle.norm_base.specs.Octets.{AreOctets}
use Rattle.norm_script.specs.Words.{is_file_name}
use Rattle.norm_script.specs.Written.{ended}
use Rattle.norm_mirror.specs.declared.entry.Entry.{Entry}

-- the most octets of a file, and the most files of a folder
abbrev pub most_octets : ℕ
most_octets = 16777216

abbrev pub most_files : ℕ
most_files = 1024

-- a file of a folder: its name, its length, and the digest of its octets
pub record IsEntry (e : Entry) : Type 0 where
  pub name : is_file_name e.name ≡ true
  pub some : 1 ≤ e.len
  pub most : e.len ≤ most_octets
  pub digest : length e.digest ≡ 32
  pub octets : AreOctets e.digest

-- a name stands before another, octet by octet
abbrev pub name_before : List ℕ → List ℕ → Bool
name_before a b = is_lt (slice_cmp nat_cmp a b)

-- the last name; that of no entries stands before every other
abbrev pub last_name : List Entry → List ℕ
last_name entries = fold (λ name (e : Entry). e.name) [] entries

-- the names rise, each also above the one before all
abbrev pub RiseFrom : List ℕ → List Entry → Type 0
RiseFrom last [] = Unit {0}
RiseFrom last (e ∷ entries) = (name_before last e.name ≡ true) × RiseFrom e.name entries

-- the first files of a folder, in order of name
pub record IsFront (entries : List Entry) : Type 0 where
  pub few : length entries ≤ most_files
  pub each : AllByRecursion IsEntry entries
  pub rise : RiseFrom [] entries

-- What a manifest says: the files of a folder in order of name, at least one.
pub record IsManifest (entries : List Entry) : Type 0 where
  pub some : 1 ≤ length entries
  pub front : IsFront entries

-- a line: name, length, and digest in lower-case digits
abbrev pub entry_line : Entry → List ℕ
entry_line e = e.name ++ 32 ∷ (decimal e.len ++ 32 ∷ encode_lower e.digest)

-- all lines, each with its line feed
abbrev pub manifest_text : List Entry → List ℕ
manifest_text entries = ended (map entry_line entries)

-- Octets spell a manifest if they are its lines.
pub record Spells (entries : List Entry) (octets : List ℕ) : Type 0 where
  pub is : IsManifest entries
  pub text : octets ≡ manifest_text entries

-- Line n is the first that is no line of a manifest: the lines before it begin one, and no line that begins the rest goes on with it. If nothing
-- is left, there was no line at all.
pub record IsFirstOther (n : ℕ) (octets : List ℕ) : Type 0 where
  pub entries : List Entry
  pub rest : List ℕ
  pub text : octets ≡ manifest_text entries ++ rest
  pub number : n ≡ length entries + 1
  pub front : IsFront entries
  pub left : rest ≡ [] → entries ≡ []
  pub none : (e : Entry) (more : List ℕ) → rest ≡ entry_line e ++ 10 ∷ more → IsFront (entries ++ e ∷ []) → ⊥
