-- The symbols of one block, as they lie in other rows.
use Rattle.std.specs.Prelude.{ℕ, List, ◌≡◌}
use Rattle.gf_field.specs.Symbol.{AreIds, AreSymbols, solved_sources}

-- k symbols in rows with their ids, which give the same source symbols as those before
pub record SameBlock (k size : ℕ) (ids : List ℕ) (rows : List (List ℕ)) (moved_ids : List ℕ) (moved_rows : List (List ℕ)) : Type 0 where
  pub ids_are : AreIds k 255 moved_ids
  pub symbols_are : AreSymbols k size moved_rows
  pub sources : solved_sources size moved_ids moved_rows ≡ solved_sources size ids rows
