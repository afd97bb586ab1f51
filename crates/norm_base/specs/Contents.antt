use Rattle.std.specs.Prelude.{◌≡◌, ◌≢◌, ℕ, List, [], ◌∷◌, Option, None, Some, if◌then◌else◌, nat_eq}
use Rattle.std.specs.Cmp.Lexicographic.{pointwise}

-- a file is its name and its octets
abbrev pub content_of : List (List ℕ × List ℕ) → List ℕ → Option (List ℕ)
content_of [] name = None
content_of (file ∷ files) name = if pointwise nat_eq file.0 name then Some file.1 else content_of files name

-- the contents that are told differ at most in this name's
abbrev pub ChangesOnly : Option (List (List ℕ × List ℕ)) → Option (List (List ℕ × List ℕ)) → List ℕ → Type 0
ChangesOnly None new name = new ≡ None
ChangesOnly (Some old) None name = ⊥
ChangesOnly (Some old) (Some new) name = (other : List ℕ) → other ≢ name → content_of new other ≡ content_of old other
