-- Tails of a world, their events and their moments.
use Rattle.std.specs.Prelude.{◌≡◌, ◌++◌, ℕ, List, ⊤}
use Rattle.norm_base.specs.Settings.{Settings}
use Rattle.norm_safety.specs.Events.{Event, Commanded, Delivered, Ticked, Offered, UpTaken, NewsAsked}
use Rattle.norm_safety.specs.InTime.{WasOffered}
use Rattle.norm_safety.specs.Lawful.{AllTaken, WasGiven}
use Rattle.norm_safety.specs.Tail.{Course, course_from, events_of, tail_turns, tail_until}
use Rattle.norm_safety.specs.World.{World, receiver_at}
use Rattle.norm_safety.specs.WorldStep.{run_from}

-- A course is a tail of a world: some turns, a step apart; or turns until a watermark is done, so many at most, of which the last one may be
-- cut. `tail_of` is one of these.
pub data IsTail (p : Settings) (w : World) : Course → Type 0 where
  Turns : (n : ℕ) (draws : ℕ → ℕ) (last : ℕ) → IsTail p w (tail_turns n p draws last (course_from w))
  Until : (n : ℕ) (draws : ℕ → ℕ) (last mark : ℕ)
      → IsTail p w (tail_until n p draws mark (record { turns = 0; last = last; course = course_from w })).course

-- an event is no command
abbrev pub IsQuiet : Event → Type 0
IsQuiet (Commanded by job now) = ⊥
IsQuiet _ = ⊤

-- An event comes as it does in a tail: no command; what another node offered is delivered; a receiver ticks after all its hand-ups were
-- taken; and a node offers what its last tick gave.
abbrev pub ComesInTail : World → Event → Type 0
ComesInTail w (Commanded by job now) = ⊥
ComesInTail w (Delivered node datagram now draw) = WasOffered w node datagram
ComesInTail w (Ticked node now) = AllTaken (receiver_at w node)
ComesInTail w (Offered node datagram) = WasGiven w node datagram
ComesInTail w (UpTaken node) = ⊤
ComesInTail w NewsAsked = ⊤

-- A world is a moment of a course from a world: the first of its events lead there.
pub record IsMoment (p : Settings) (w : World) (c : Course) (v : World) : Type 0 where
  pub front : List Event
  pub rest : List Event
  pub all : front ++ rest ≡ events_of c
  pub here : run_from p w front ≡ v
