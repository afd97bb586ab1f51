-- Symbols are octets in a row, and a code works at each place of a symbol apart.
use Rattle.std.specs.Prelude.{ℕ, ◌+◌, ◌*◌, List, map, slice_index}
use Rattle.std.specs.List.{range_with_len}

-- the octets at place t of k symbols of `size` octets each
unfoldable pub column : ℕ → ℕ → List ℕ → ℕ → List ℕ
column k size symbols t = map (λ i. slice_index symbols (i * size + t)) (range_with_len 0 k)
