-- The first row of a table that applies.
use Rattle.std.specs.Prelude.{Bool, true, false, List, [], ◌∷◌, Option, None, Some}

-- the value beside the first test that is passed
unfoldable pub first_where : {X : Type 0} → List (Bool × X) → Option X
first_where [] = None
first_where (row ∷ rows) = elim row.0 [ true ↦ Some row.1 | false ↦ first_where rows ]
