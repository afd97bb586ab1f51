-- Whether a tail may begin.
use Rattle.std.specs.Prelude.{◌≡◌, ◌+◌, ◌*◌, ◌<◌, ◌≤◌, ◌^◌, ℕ, Option, None, Some, Result, Ok, Err}
use Rattle.norm_base.specs.Settings.{Settings, InRange}
use Rattle.norm_safety.specs.Tail.{TailRefusal, NoRequest, Mode, Streams, Step, Pace, Flushes, tail_fault, tail_bound}
use Rattle.norm_safety.specs.World.{World}
use Rattle.norm_tail.specs.declared.fault.TailFault.{TailFault}
use Rattle.norm_tail.specs.declared.fault.TailFault.TheVariants as fault
use Rattle.norm_world.specs.WorldKept.{WorldKept, StandsFor}

-- why no tail began, as a fault says it; want of memory says nothing of that
abbrev pub refusal_of : TailFault → Option TailRefusal
refusal_of fault.NoRequest = Some NoRequest
refusal_of fault.Mode = Some Mode
refusal_of (fault.Streams count) = Some (Streams count)
refusal_of (fault.Step step) = Some (Step step)
refusal_of (fault.Pace symbols) = Some (Pace symbols)
refusal_of (fault.Flushes count) = Some (Flushes count)
refusal_of fault.Memory = None

-- the same of what a call answers
abbrev pub refused_by : {T : Type 0} → Result T TailFault → Option TailRefusal
refused_by (Ok value) = None
refused_by (Err fault) = refusal_of fault

-- A tail may be begun after a moment: in some world that the nodes stand for, its last moment has 64 bits, unless a fault applies.
pub record CanTail (p : Settings) (k : WorldKept) (last : ℕ) : Type 0 where
  pub world : World
  pub stands : StandsFor k world
  pub fits : tail_fault p world.sender ≡ None → last + tail_bound p world.sender * p.step < 2 ^ 64

-- A tail may be begun after each moment up to 2^63, in each world, under a profile that is in range.
abbrev pub TailsFit : Type 0
TailsFit = (p : Settings) (k : WorldKept) (w : World) (last : ℕ) → InRange p → StandsFor k w → last ≤ 2 ^ 63 → CanTail p k last
