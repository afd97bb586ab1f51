use Rattle.std.specs.Prelude.{ℕ, ◌==◌, ◌&&◌, ◌||◌, nat_le, not, List, ◌∷◌, ◌++◌, length, codes, Bool, slice_index, Option, Some, None, if◌then◌else◌}
use Rattle.std.specs.Cmp.Lexicographic.{pointwise}
use Rattle.std.specs.List.{list_all, list_any}

-- The names of files, and their paths.

-- an octet from a first one to a last one
abbrev pub lies : ℕ → ℕ → ℕ → Bool
lies low high octet = nat_le low octet && nat_le octet high

-- an ASCII letter or digit, `.`, `_` or `-`
unfoldable pub is_name_octet : ℕ → Bool
is_name_octet octet =
    lies 97 122 octet || lies 65 90 octet || lies 48 57 octet || octet == 46 || octet == 95 || octet == 45

-- 1 to so many of them, of which the first is no `.`: so it has no slash, and is neither `.` nor `..`
abbrev pub is_name_within : ℕ → List ℕ → Bool
is_name_within most name =
    nat_le 1 (length name) && nat_le (length name) most && not (slice_index name 0 == 46) && list_all is_name_octet name

-- the names of files that are read, as a script may give them
abbrev pub is_file_name : List ℕ → Bool
is_file_name name = is_name_within 64 name

-- a name in a folder
abbrev pub path_in : List ℕ → List ℕ → List ℕ
path_in folder name = folder ++ 47 ∷ name

-- Where a file is written before it has its name: beside it, at a name that is none of a file.
abbrev pub path_beside : List ℕ → List ℕ → List ℕ
path_beside folder name = folder ++ 47 ∷ 46 ∷ name ++ codes ".part"

-- a name is one of the paths that were told, octet for octet
abbrev pub is_told : List (List ℕ) → List ℕ → Bool
is_told told name = list_any (λ path. pointwise ◌==◌ path name) told

-- the path at which a name is read: one that was told, as it stands; else that of a file in the folder, if it is the name of one
abbrev pub path_read : List ℕ → List (List ℕ) → List ℕ → Option (List ℕ)
path_read folder told name =
    if is_told told name then Some name else (if is_file_name name then Some (path_in folder name) else None)
