-- Where the symbols of a block lie while its source symbols are put into their places of the same row.
use Rattle.std.specs.Prelude.{ℕ, List, ◌≡◌, ◌≢◌, ◌<◌, ◌+◌, ◌*◌, length, slice_index}

-- a symbol lies in the row where it is the source symbol of its place, and else at the same place of what was set aside
pub record LieIn (size : ℕ) (ids symbols row aside : List ℕ) : Type 0 where
  pub own : (i t : ℕ) → i < length ids → t < size → slice_index ids i ≡ i → slice_index row (i * size + t) ≡ slice_index symbols (i * size + t)
  pub displaced : (i t : ℕ) → i < length ids → t < size → slice_index ids i ≢ i → slice_index aside (i * size + t) ≡ slice_index symbols (i * size + t)
