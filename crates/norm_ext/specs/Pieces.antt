-- A list of pieces of which each says its own length: header extensions, and repair requests.
use Rattle.std.specs.Prelude.{ℕ, zero, suc, ◌-◌, List, [], ◌∷◌, Result, Ok, Err}

-- the pieces of a list behind so many octets, where first gives the piece at the front and len its octets
abbrev pub pieces_behind : {A : Type 0} → (List ℕ → A) → (List ℕ → ℕ) → ℕ → List ℕ → List A
pieces_behind first len skip [] = []
pieces_behind first len zero (x ∷ rest) = first (x ∷ rest) ∷ pieces_behind first len (len (x ∷ rest) - 1) rest
pieces_behind first len (suc skip) (x ∷ rest) = pieces_behind first len skip rest

-- a test, where the one before it failed nothing
abbrev pub checked_then : {E : Type 0} → Result (Unit {0}) E → Result (Unit {0}) E → Result (Unit {0}) E
checked_then (Ok x) next = next
checked_then (Err e) next = Err e

-- the first that is wrong with a list of pieces behind so many octets, which stand at a place; check looks at the
-- piece at the front
abbrev pub checked_behind : {E : Type 0} → (ℕ → List ℕ → Result (Unit {0}) E) → (List ℕ → ℕ) → ℕ → ℕ → List ℕ → Result (Unit {0}) E
checked_behind check len at skip [] = Ok tt
checked_behind check len at zero (x ∷ rest) =
    checked_then (check at (x ∷ rest)) (checked_behind check len (suc at) (len (x ∷ rest) - 1) rest)
checked_behind check len at (suc skip) (x ∷ rest) = checked_behind check len (suc at) skip rest
