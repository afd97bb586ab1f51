-- What a code is seen as, and what it keeps.
use Rattle.std.specs.Prelude.{ℕ, List, ◌≡◌, ◌<◌, ◌≤◌, ◌+◌, ◌-◌, ◌*◌, length, slice_index}
use Rattle.gf_field.specs.Power.{power, powers}
use Rattle.gf_field.specs.Interpolation.{coefficient}

-- k source symbols and n encoded symbols
pub record CodeState : Type 0 where
  pub k : ℕ
  pub n : ℕ

-- a row for each parity symbol: what each source symbol counts for in it
pub record CodeSound (k n : ℕ) (rows : List ℕ) : Type 0 where
  pub some : 1 ≤ k
  pub fits : k ≤ n
  pub most : n ≤ 255
  pub size : length rows ≡ (n - k) * k
  pub entries : (m i : ℕ) → m < n - k → i < k → slice_index rows (m * k + i) ≡ coefficient (powers k) (power i) (power (k + m))
