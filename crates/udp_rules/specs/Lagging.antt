-- The clock of a sender over sockets may lag behind what it reads. So a sender that woke late makes the ticks that it missed, one after the other.
use Rattle.std.specs.Prelude.{◌≡◌, ℕ, ◌+◌, ◌-◌, ◌<◌, ◌≤◌, min, max, Option, None, Some}

-- The moment of a reading, after the moment `last`. If the sender offered since then, it is that one plus the gap, or the reading if that comes
-- first; but never more than two milliseconds before the reading. If it offered nothing, it is the reading. All in microseconds.
abbrev pub next_moment : Option ℕ → ℕ → ℕ → ℕ
next_moment None last reading = reading
next_moment (Some gap) last reading = min reading (max (last + gap) (reading - 2000))

-- No moment is ahead of its reading, and none is more than two milliseconds before it. One that lags is at least a gap after the last one, and
-- exactly a gap if that is near enough. So between two readings at most two milliseconds more than theirs go by, whatever the clock reads.
pub record ClockLaws : Type 0 where
  pub never_ahead : (gap : Option ℕ) (last reading : ℕ) → next_moment gap last reading ≤ reading
  pub near : (gap : Option ℕ) (last reading : ℕ) → reading ≤ next_moment gap last reading + 2000
  pub apart : (gap last reading : ℕ) → next_moment (Some gap) last reading < reading → last + gap ≤ next_moment (Some gap) last reading
  pub makes_up : (gap last reading : ℕ) → last + gap ≤ reading → reading ≤ last + gap + 2000 → next_moment (Some gap) last reading ≡ last + gap
  pub burst : (gap gap' : Option ℕ) (last last' reading reading' : ℕ)
      → next_moment gap' last' reading' - next_moment gap last reading ≤ (reading' - reading) + 2000
