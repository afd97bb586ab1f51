use Rattle.std.specs.Prelude.{◌≡◌, ℕ, zero, suc, List, ◌∷◌, [], ◌++◌, take, Option, None, Some, ⊤}
use Rattle.std.specs.Option.{option_map}
use Rattle.std.specs.List.{concat}

-- An object of the outside tells a list, or tells nothing (None).

-- what is told once more came at the end
abbrev pub gained : {X : Type 0} → Option (List X) → List X → Option (List X)
gained None more = None
gained (Some xs) more = Some (xs ++ more)

-- what was left before this piece was taken from the front
abbrev pub before_taking : {X : Type 0} → List X → Option (List X) → Option (List X)
before_taking piece None = None
before_taking piece (Some rest) = Some (piece ++ rest)

-- the pieces that a sink tells, one for each call
abbrev pub Pieces : Type 0
Pieces = Option (List (List ℕ))

-- the octets that were written are those of all pieces, one after the other
abbrev pub written_of : Pieces → Option (List ℕ)
written_of pieces = option_map concat pieces

-- a front of these octets as a piece; an empty front is none
abbrev pub front_piece : ℕ → List ℕ → List (List ℕ)
front_piece zero octets = []
front_piece (suc k) octets = take (suc k) octets ∷ []

-- new is old with a front of these octets as its last piece, or with none
abbrev pub GainsFront : Pieces → Pieces → List ℕ → Type 0
GainsFront old new octets = (k : ℕ) × (new ≡ gained old (front_piece k octets))

-- what is still told has gained this one
abbrev pub GainsWhereTold : {X : Type 0} → Option (List X) → Option (List X) → X → Type 0
GainsWhereTold old None x = ⊤
GainsWhereTold old (Some xs) x = gained old (x ∷ []) ≡ Some xs
