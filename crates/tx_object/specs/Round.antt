-- Octets that lie in a ring, which goes on from its end to its beginning.
use Rattle.std.specs.Prelude.{ℕ, ◌≡◌, ◌+◌, ◌<◌, ◌≤◌, ◌⊎◌, List, ◌++◌, take, drop}

-- `len` octets of a ring from octet `start` on
abbrev pub round : List ℕ → ℕ → ℕ → List ℕ
round ring start len = take len (drop start (ring ++ ring))

-- in a ring of `size` octets, `len` octets from `other` on are none of the `n` from `start` on
pub record IsClear (size start n other len : ℕ) : Type 0 where
  pub within : other < size
  pub apart : ((start + n ≤ other) × (other + len ≤ start + size)) ⊎ ((other + len ≤ start) × (start + n ≤ other + size))

-- in a ring of `size` octets, an octet that is counted on from the ring's first, once round at most, is this one
abbrev pub IsAround : ℕ → ℕ → ℕ → Type 0
IsAround size counted at = (at < size) × ((at ≡ counted) ⊎ (at + size ≡ counted))
