-- Lists of elements of the field.
use Rattle.std.specs.Prelude.{ℕ, ◌<◌, List}
use Rattle.std.specs.List.{AllByRecursion}

-- each number is an element of the field
abbrev pub AreElements : List ℕ → Type 0
AreElements numbers = AllByRecursion (λ a. a < 256) numbers
