use Rattle.std.specs.Prelude.{List, [], ◌∷◌, ℕ, suc, nat_eq, if◌then◌else◌, map, String, string_bytes, Vec, Bool, false, Option, None, Some}
use Rattle.std.specs.Cmp.Lexicographic.{pointwise}
use Rattle.std.specs.declared.alloc.Global.{Global}
use Rattle.norm_memory.specs.Calls.{Calls, next_fails, after_call}
use Rattle.norm_base.specs.Contents.{content_of}

-- files in memory: each name with its octets, and their calls
pub record MemFilesState : Type 0 where
  pub files : List (List ℕ × List ℕ)
  pub calls : Calls

-- names with their octets
abbrev pub named : List (String Global × Vec ℕ Global) → List (List ℕ × List ℕ)
named files = map (λ file. (string_bytes file.0, file.1.items)) files

-- the files with these octets under a name: in the place that it had, or last
abbrev pub put_in : List (List ℕ × List ℕ) → List ℕ → List ℕ → List (List ℕ × List ℕ)
put_in [] name octets = (name, octets) ∷ []
put_in (file ∷ files) name octets =
    if pointwise nat_eq file.0 name then (file.0, octets) ∷ files else file ∷ put_in files name octets

-- the place of a name's first file, or how many files there are
abbrev pub place_of : List (List ℕ × List ℕ) → List ℕ → ℕ
place_of [] name = 0
place_of (file ∷ files) name = if pointwise nat_eq file.0 name then 0 else suc (place_of files name)

-- a listed call fails where the name is there
abbrev pub fails_where : Option (List ℕ) → Bool → Bool
fails_where None listed = false
fails_where (Some octets) listed = listed

-- whether the next call, which asks for this file, fails: its number is listed, and the name is there
abbrev pub fails_at : MemFilesState → List ℕ → Bool
fails_at s name = fails_where (content_of s.files name) (next_fails s.calls)

-- after a call that asked for this file
abbrev pub after_query : MemFilesState → List ℕ → MemFilesState
after_query s name = record { files = s.files; calls = after_call s.calls (fails_at s name) }
