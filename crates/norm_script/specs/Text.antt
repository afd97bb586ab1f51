use Rattle.std.specs.Prelude.{ℕ, ◌==◌, Bool, true, false, List, [], ◌∷◌, Option, None, Some, if◌then◌else◌}
use Rattle.std.specs.Option.{option_map}

-- A text's lines, and the front of a line up to a separator.

-- the octets before the first of these, and those after it
abbrev pub split_at_first : ℕ → List ℕ → Option (List ℕ × List ℕ)
split_at_first c [] = None
split_at_first c (x ∷ xs) =
    if x == c then Some ([], xs) else option_map (λ (p : List ℕ × List ℕ). (x ∷ p.0, p.1)) (split_at_first c xs)

-- the lines of a text: each ends with a line feed, which the last one may lack
abbrev pub onto_first : Bool → ℕ → List (List ℕ) → List (List ℕ)
onto_first true x lines = [] ∷ lines
onto_first false x [] = (x ∷ []) ∷ []
onto_first false x (line ∷ lines) = (x ∷ line) ∷ lines

abbrev pub text_lines : List ℕ → List (List ℕ)
text_lines [] = []
text_lines (x ∷ xs) = onto_first (x == 10) x (text_lines xs)
