use Rattle.std.specs.Prelude.{◌≡◌, ℕ, ◌-◌, Option, None, Some}
use Rattle.std.specs.Option.{unwrap_or}
use Rattle.norm_host.specs.declared.host_clock.HostClock.{HostClock}
use Rattle.udp_rules.specs.Lagging.{next_moment}

-- What the process's clock keeps: its first reading, and the moment that it gave last, both in microseconds.

-- the first reading, if there was one
abbrev pub first_reading : {C : Type 0} → HostClock C → Option ℕ
first_reading c = c.start

-- the moment that it gave last
abbrev pub last_moment : {C : Type 0} → HostClock C → ℕ
last_moment c = c.last

-- the first reading, once there is this one
abbrev pub first_with : Option ℕ → Option ℕ → Option ℕ
first_with first None = first
first_with first (Some reading) = Some (unwrap_or first reading)

-- how far a reading lies after the first one, or 0 if it lies before that
abbrev pub since_first : Option ℕ → ℕ → ℕ
since_first first reading = reading - unwrap_or first reading

-- The moment after a reading. If a sender over sockets offered since the last one, it may lag, by this gap of its datagrams. If the reading failed, it
-- is the last one again.
abbrev pub moment_with : Option ℕ → ℕ → Option ℕ → Option ℕ → ℕ
moment_with first last gap None = last
moment_with first last gap (Some reading) = next_moment gap last (since_first first reading)

-- the clock kept this reading, or that it failed
pub record Keeps {C : Type 0} (old : HostClock C) (gap reading : Option ℕ) (new : HostClock C) : Type 0 where
  pub first : first_reading new ≡ first_with (first_reading old) reading
  pub moment : last_moment new ≡ moment_with (first_reading old) (last_moment old) gap reading
