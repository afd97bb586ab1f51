-- Which symbol of an object is sent next by itself (RFC 5740 section 5.1).
use Rattle.std.specs.Prelude.{ℕ, ◌≡◌, ◌+◌, ◌<◌, ◌≤◌, ◌⊎◌, min, Option, None, Some}
use Rattle.fec_plan.specs.Partition.{Cut, blocks, source_symbols, encoding_symbols}
use Rattle.fec_plan.specs.Points.{position}
use Rattle.fec_plan.specs.declared.position.Position.{Position}

-- how many symbols of a block are sent once by themselves, of an object of which all are closed, with so much parity
abbrev pub once : ℕ → Cut → ℕ → ℕ
once auto c block = min (source_symbols c block + auto) (encoding_symbols c block)

-- the first symbol from a place on that is sent by itself, of an object: the one there, or the next block's first; none where
-- no block follows
abbrev pub IsNextIn : ℕ → Cut → Position → Option Position → Type 0
IsNextIn auto c at None = (blocks c ≤ at.block + 1) × ((blocks c ≤ at.block) ⊎ (once auto c at.block ≤ at.symbol))
IsNextIn auto c at (Some next) =
    ((next ≡ at) × (at.block < blocks c) × (at.symbol < once auto c at.block))
    ⊎ ((next ≡ position at.index (at.block + 1) 0) × (at.block + 1 < blocks c) × (once auto c at.block ≤ at.symbol))
