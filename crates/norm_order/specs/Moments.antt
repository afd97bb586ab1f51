-- Moments, in microseconds, as numbers of 64 bits.
use Rattle.std.specs.Prelude.{ℕ, ◌+◌, min}

-- the moment so much later; one that passes 64 bits is the last one
abbrev pub moment_after : ℕ → ℕ → ℕ
moment_after now span = min (now + span) 18446744073709551615
