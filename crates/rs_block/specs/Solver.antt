-- What a solver is seen as, and what it keeps.
use Rattle.std.specs.Prelude.{ℕ, List, ◌≡◌, ◌≤◌, ◌*◌, length}
use Rattle.norm_base.specs.Sizes.{symbol_room}

-- room for blocks of k source symbols of `size` octets
pub record SolverState : Type 0 where
  pub k : ℕ
  pub size : ℕ

-- room for k places, k weights, a row and k symbols
pub record SolverSound (k size : ℕ) (places weights row aside : List ℕ) : Type 0 where
  pub some : 1 ≤ k
  pub most : k ≤ 255
  pub short : size ≤ symbol_room
  pub places_room : length places ≡ k
  pub weights_room : length weights ≡ k
  pub row_room : length row ≡ k
  pub aside_room : length aside ≡ k * size
