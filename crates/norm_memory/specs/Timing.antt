use Rattle.std.specs.Prelude.{ℕ, zero, suc, ◌-◌, List, [], ◌∷◌, ◌++◌, length, min, slice_index, nat_lt, Option, None, Some, if◌then◌else◌}

-- a clock in memory: its moments, and how often it was asked
pub record MemClockState : Type 0 where
  pub moments : List ℕ
  pub asked : ℕ

-- the moment at a place, after the last one that one again, and 0 where there is none
abbrev pub moment_at : List ℕ → ℕ → ℕ
moment_at moments i = slice_index moments (min i (length moments - 1))

-- the moments that it gave to so many questions
abbrev pub given_moments : List ℕ → ℕ → List ℕ
given_moments moments zero = []
given_moments moments (suc asked) = given_moments moments asked ++ moment_at moments asked ∷ []

-- what a clock in memory tells, for as long as it can count the questions in 64 bits
abbrev pub told_moments : MemClockState → Option (List ℕ)
told_moments c = if nat_lt c.asked 18446744073709551615 then Some (given_moments c.moments c.asked) else None
