-- What octets say as a manifest: its entries, or the first line that is none of a manifest.
use Rattle.std.specs.Prelude.{ℕ, ⊤, ◌+◌, ◌≡◌, ◌==◌, ◌&&◌, Bool, true, false, not, List, [], ◌∷◌, ◌++◌, length, nat_eq, nat_lt, Option, None, Some, Result, Ok, Err, if◌then◌else◌}
use Rattle.std.specs.Cmp.Lexicographic.{pointwise}
use Rattle.hex.specs.Hex.{decode_sized, encode_lower}
use Rattle.hex.specs.declared.error.FromHexError.{FromHexError}
use Rattle.norm_script.specs.Text.{split_at_first}
use Rattle.norm_script.specs.Words.{is_file_name, number_within}
use Rattle.norm_mirror.specs.Manifest.{name_before, last_name, most_files, most_octets, IsFirstOther}
use Rattle.norm_mirror.specs.declared.entry.Entry.{Entry}
use Rattle.norm_mirror.specs.declared.reading.ManifestFault.{ManifestFault}
use Rattle.norm_mirror.specs.declared.reading.ManifestFault.TheVariants.{Line, Memory}

-- ---- a line

-- the digest that a word spells, if it has only lower-case digits
abbrev pub digest_if : Bool → List ℕ → Option (List ℕ)
digest_if true digest = Some digest
digest_if false digest = None

abbrev pub digest_by : List ℕ → Result (List ℕ) FromHexError → Option (List ℕ)
digest_by word (Ok digest) = digest_if (pointwise nat_eq (encode_lower digest) word) digest
digest_by word (Err fault) = None

abbrev pub digest_of : List ℕ → Option (List ℕ)
digest_of word = digest_by word (decode_sized word 32)

-- the entry of these words, if there are a length and a digest and the name is one of a file
abbrev pub entry_with : List ℕ → Option ℕ → Option (List ℕ) → Option Entry
entry_with name (Some len) (Some digest) =
    if is_file_name name then Some (record { name = name; len = len; digest = digest }) else None
entry_with name _ _ = None

-- LEN DIGEST behind a name
abbrev pub entry_behind : List ℕ → Option (List ℕ × List ℕ) → Option Entry
entry_behind name None = None
entry_behind name (Some words) = entry_with name (number_within 1 most_octets words.0) (digest_of words.1)

-- NAME LEN DIGEST
abbrev pub entry_in : Option (List ℕ × List ℕ) → Option Entry
entry_in None = None
entry_in (Some words) = entry_behind words.0 (split_at_first 32 words.1)

abbrev pub entry_of : List ℕ → Option Entry
entry_of line = entry_in (split_at_first 32 line)

-- ---- the lines

-- an entry may stand behind these
abbrev pub goes_on : List Entry → Entry → Bool
goes_on before e = nat_lt (length before) most_files && name_before (last_name before) e.name

abbrev pub kept_if : List Entry → Option Entry → Option Entry
kept_if before None = None
kept_if before (Some e) = if goes_on before e then Some e else None

-- the entry that a line is behind these
abbrev pub next_entry : List Entry → List ℕ → Option Entry
next_entry before line = kept_if before (entry_of line)

-- the lines that end with a line feed, and the octets behind the last of them
abbrev pub onto_cut : Bool → ℕ → List (List ℕ) × List ℕ → List (List ℕ) × List ℕ
onto_cut true x cut = ([] ∷ cut.0, cut.1)
onto_cut false x cut = elim cut.0 [ [] ↦ ([], x ∷ cut.1) | line ∷ lines ↦ ((x ∷ line) ∷ lines, cut.1) ]

abbrev pub cut : List ℕ → List (List ℕ) × List ℕ
cut [] = ([], [])
cut (x ∷ xs) = onto_cut (x == 10) x (cut xs)

-- nothing is left, and something was read
abbrev pub is_end : List Entry → List ℕ → Bool
is_end before rest = length rest == 0 && not (length before == 0)

-- the entries, with those before these lines, or the number of the first line that is none
abbrev pub read_end : Bool → List Entry → Result (List Entry) ℕ
read_end true before = Ok before
read_end false before = Err (length before + 1)

abbrev pub read_on : List Entry → List (List ℕ) → List ℕ → Result (List Entry) ℕ
read_on before [] rest = read_end (is_end before rest) before
read_on before (line ∷ lines) rest = elim (next_entry before line) [
  | Some e ↦ read_on (before ++ e ∷ []) lines rest
  | None ↦ Err (length before + 1)
]

-- the same of octets
abbrev pub read_behind : List Entry → List ℕ → Result (List Entry) ℕ
read_behind before octets = read_on before (cut octets).0 (cut octets).1

abbrev pub manifest_of : List ℕ → Result (List Entry) ℕ
manifest_of octets = read_behind [] octets

-- ---- faults

-- what a fault says of a reading; want of memory says nothing
abbrev pub IsRefused : ManifestFault → Result (List Entry) ℕ → Type 0
IsRefused (Line n) read = read ≡ Err n
IsRefused Memory read = ⊤

-- the same of the octets themselves
abbrev pub IsLineFault : ManifestFault → List ℕ → Type 0
IsLineFault (Line n) octets = IsFirstOther n octets
IsLineFault Memory octets = ⊤
