-- A set of places: numbers below a size, as a rising list.
use Rattle.std.specs.Prelude.{ℕ, List}

pub record Places : Type 0 where
  pub size : ℕ
  pub members : List ℕ
