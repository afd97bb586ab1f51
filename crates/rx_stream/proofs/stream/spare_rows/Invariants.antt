use Rattle.std.proofs.Common.{◌≡◌, ℕ, List, length}
use Rattle.std.specs.List.{AllByRecursion}
use Rattle.rx_stream.proofs.stream.spare_rows.Given as goal

-- as many rows as were made, each of the size
pub record Spares (count size : ℕ) (rows : List (List ℕ)) : Type 0 where
  pub many : length rows ≡ count
  pub sizes : AllByRecursion (λ (row : List ℕ). length row ≡ size) rows

abbrev pub invariant-loop-spare : goal.invariant-loop-spare
invariant-loop-spare l = Spares l._spare l.size l.rows.items
