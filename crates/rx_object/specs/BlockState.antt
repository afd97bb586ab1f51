-- A symbol as it is held.
use Rattle.std.specs.Prelude.{ℕ, List}
use Rattle.fec_plan.specs.Points.{position}
use Rattle.norm_receive_rules.specs.Holding.{Held}

-- a symbol of a block, as it is held
abbrev pub held_at : ℕ → ℕ → ℕ → List ℕ → Held
held_at index block symbol octets = record { at = position index block symbol; octets = octets }
