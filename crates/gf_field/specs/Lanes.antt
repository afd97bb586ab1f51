-- Tables of sixteen products, and octets to which products are added part by part.
use Rattle.std.specs.Prelude.{ℕ, List, ◌≡◌, ◌<◌, ◌≤◌, ◌*◌, ◌%◌, length, slice_index, bit_xor}
use Rattle.gf_field.specs.Product.{product, sum_at_bits}

-- lane i of sixteen has the sum of those values whose bit is set in i
pub record HasSums (values lanes : List ℕ) : Type 0 where
  pub len : length lanes ≡ 16
  pub sums : (i : ℕ) → i < 16 → slice_index lanes i ≡ sum_at_bits values i

-- n lanes have the products of c with 0 to 15, and as many those with 16 times 0 to 15, again and again
pub record HasProducts (n c : ℕ) (low high : List ℕ) : Type 0 where
  pub low_products : (i : ℕ) → i < n → slice_index low i ≡ product c (i % 16)
  pub high_products : (i : ℕ) → i < n → slice_index high i ≡ product c (16 * (i % 16))

-- the tables of four factors
pub record HasFour (n : ℕ) (factors low high low2 high2 low3 high3 low4 high4 : List ℕ) : Type 0 where
  pub first : HasProducts n (slice_index factors 0) low high
  pub second : HasProducts n (slice_index factors 1) low2 high2
  pub third : HasProducts n (slice_index factors 2) low3 high3
  pub fourth : HasProducts n (slice_index factors 3) low4 high4

-- to each octet from index `from` on, and below `to`, what belongs to its index was added, and the others stayed
pub record IsAdded (summand : ℕ → ℕ) (from to : ℕ) (old new : List ℕ) : Type 0 where
  pub before : (i : ℕ) → i < from → slice_index new i ≡ slice_index old i
  pub sums : (i : ℕ) → from ≤ i → i < to → slice_index new i ≡ bit_xor (slice_index old i) (summand i)
  pub after : (i : ℕ) → to ≤ i → slice_index new i ≡ slice_index old i
