use Rattle.std.specs.Prelude.{ℕ, suc, ◌-◌, ◌≤◌, ◌&&◌, Bool, nat_le, nat_eq, codes, length, List, [], ◌∷◌, Option, None, Some, if◌then◌else◌}
use Rattle.std.specs.Option.{option_map}
use Rattle.std.specs.Cmp.Lexicographic.{pointwise}
use Rattle.norm_base.specs.declared.key.Key.{Key}
use Rattle.norm_base.specs.declared.key.Key.TheVariants as key

-- The table of the keys of a profile.

-- A row: the key's place and name, the least and the greatest of its values, the value where none is set, and the words
-- that its values are written as, in their order from 0 (none where a value is written as a number).
pub record Row : Type 0 where
  pub place : ℕ
  pub name : List ℕ
  pub least : ℕ
  pub greatest : ℕ
  pub default : ℕ
  pub words : List (List ℕ)

-- a key whose values are numbers
abbrev pub number_row : ℕ → List ℕ → ℕ → ℕ → ℕ → Row
number_row place name least greatest default =
    record { place = place; name = name; least = least; greatest = greatest; default = default; words = [] }

-- a key whose values are words, of which the first is its default
abbrev pub word_row : ℕ → List ℕ → List (List ℕ) → Row
word_row place name words =
    record { place = place; name = name; least = 0; greatest = length words - 1; default = 0; words = words }

abbrev pub row_of : Key → Row
row_of key.Instance = number_row 0 (codes "instance") 0 65535 1
row_of key.First = number_row 1 (codes "first") 0 65535 0
row_of key.Sender = number_row 2 (codes "sender") 1 4294967278 1
row_of key.Receivers = number_row 3 (codes "receivers") 1 16 1
row_of key.Producers = number_row 4 (codes "producers") 1 4 1
row_of key.E = number_row 5 (codes "e") 64 1400 1024
row_of key.B = number_row 6 (codes "b") 1 200 64
row_of key.MaxN = number_row 7 (codes "max_n") 1 255 96
row_of key.Auto = number_row 8 (codes "auto") 0 255 0
row_of key.Window = number_row 9 (codes "window") 1 256 256
row_of key.Octets = number_row 10 (codes "octets") 1 16777216 16777216
row_of key.Blocks = number_row 11 (codes "blocks") 2 256 16
row_of key.Mode = word_row 12 (codes "mode") (codes "hold" ∷ codes "drop" ∷ [])
row_of key.Gap = number_row 13 (codes "gap") 1 1000000 1000
row_of key.Grtt = number_row 14 (codes "grtt") 1 10000000 10000
row_of key.GrttCode = number_row 15 (codes "grtt_code") 0 255 64
row_of key.GsizeCode = number_row 16 (codes "gsize_code") 0 15 1
row_of key.K = number_row 17 (codes "k") 0 15 4
row_of key.Step = number_row 18 (codes "step") 0 1000000 1000
row_of key.Turns = number_row 19 (codes "turns") 1 4000000 1000000
row_of key.Fabric = word_row 20 (codes "fabric") (codes "direct" ∷ codes "chance" ∷ codes "udp" ∷ [])
row_of key.Chance = number_row 21 (codes "chance") 0 4294967295 0
row_of key.Loss = number_row 22 (codes "loss") 0 900 0
row_of key.Repeat = number_row 23 (codes "repeat") 0 900 0
row_of key.Late = number_row 24 (codes "late") 0 64 0
row_of key.Port = number_row 25 (codes "port") 1024 65000 40000

-- all keys, each at its place
abbrev pub keys : List Key
keys =
    key.Instance ∷ key.First ∷ key.Sender ∷ key.Receivers ∷ key.Producers ∷ key.E ∷ key.B ∷ key.MaxN ∷ key.Auto
    ∷ key.Window ∷ key.Octets ∷ key.Blocks ∷ key.Mode ∷ key.Gap ∷ key.Grtt ∷ key.GrttCode ∷ key.GsizeCode ∷ key.K
    ∷ key.Step ∷ key.Turns ∷ key.Fabric ∷ key.Chance ∷ key.Loss ∷ key.Repeat ∷ key.Late ∷ key.Port ∷ []

-- a value is one of a key's
abbrev pub IsValue : Key → ℕ → Type 0
IsValue key n = ((row_of key).least ≤ n) × (n ≤ (row_of key).greatest)

abbrev pub is_value : Key → ℕ → Bool
is_value key n = nat_le (row_of key).least n && nat_le n (row_of key).greatest

-- the key with this name
abbrev pub key_named : List ℕ → List Key → Option Key
key_named name [] = None
key_named name (key ∷ keys) = if pointwise nat_eq (row_of key).name name then Some key else key_named name keys

-- the value that a word stands for: its place among these words
abbrev pub place_of_word : List ℕ → List (List ℕ) → Option ℕ
place_of_word word [] = None
place_of_word word (known ∷ words) = if pointwise nat_eq known word then Some 0 else option_map suc (place_of_word word words)
