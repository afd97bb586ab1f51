use Rattle.std.specs.Prelude.{ℕ, ◌+◌, List, drop}
use Rattle.norm_memory.specs.Calls.{Calls}

-- a source in memory: the octets left, how many it gave, and its calls
pub record MemSourceState : Type 0 where
  pub left : List ℕ
  pub given : ℕ
  pub calls : Calls

-- after n octets were read
abbrev pub after_read : MemSourceState → ℕ → Calls → MemSourceState
after_read s n calls = record { left = drop n s.left; given = s.given + n; calls = calls }
