-- What a turn keeps of what holds at each turn's end in a phase of a tail.
use Rattle.std.specs.Prelude.{◌≡◌, ◌+◌, ◌≤◌, ℕ, List, true}
use Rattle.std.specs.List.{AllByRecursion}
use Rattle.norm_base.specs.Settings.{Settings, InRange}
use Rattle.norm_safety.specs.Events.{Event}
use Rattle.norm_safety.specs.Recovery.{ComesBy}
use Rattle.norm_safety.specs.Tail.{Course, course_from, sent_twice, tail_turn}
use Rattle.norm_safety.specs.WorldStep.{run}
use Rattle.norm_recovery.specs.RunsOut.{RunsOut, last_closing}
use Rattle.norm_recovery.specs.Timely.{WorldTimely}
use Rattle.norm_recovery.specs.Watch.{Phase, closes_later, closes_apart, are_apart, Watch}

-- A turn follows a run of which no event passes a moment, if the window is sent twice in a round trip and the turn's moments have 64 bits.
pub record Follows (p : Settings) (events : List Event) (last : ℕ) : Type 0 where
  pub profile : InRange p
  pub before : AllByRecursion (ComesBy last) events
  pub twice : sent_twice p (run p events).sender ≤ p.grtt
  pub fits : last + p.step + p.grtt ≤ 18446744073709551615

-- the turn a step later
abbrev pub turn_after : Settings → (ℕ → ℕ) → List Event → ℕ → Course
turn_after p draws events last = tail_turn p draws (last + p.step) (course_from (run p events))

-- the phase after a turn that does not end it
abbrev pub goes_to : Phase → Course → Phase
goes_to ph c = record ph { since = last_closing ph.since c.happened }

-- Of a turn, whatever the draws:
pub record WatchKeeps : Type 0 where
  -- nothing is put off further than the rules say, and an open round closes later
  pub timely : (p : Settings) (events : List Event) (last : ℕ) (draws : ℕ → ℕ) → Follows p events last
      → WorldTimely p (last + p.step) (turn_after p draws events last).world
  pub later : (p : Settings) (events : List Event) (last : ℕ) (draws : ℕ → ℕ) → Follows p events last
      → closes_later (last + p.step) (turn_after p draws events last).world.sender ≡ true
  -- the last closing is that of the turn, or the one before; all that is to be sent goes within a round trip of it, and a round closes no sooner
  pub within : (p : Settings) (events : List Event) (last : ℕ) (draws : ℕ → ℕ) → Follows p events last → (ph : Phase) → Watch p ph last (run p events)
      → (ph.began ≤ (goes_to ph (turn_after p draws events last)).since) × ((goes_to ph (turn_after p draws events last)).since ≤ last + p.step)
  pub runs_out : (p : Settings) (events : List Event) (last : ℕ) (draws : ℕ → ℕ) → Follows p events last → (ph : Phase) → Watch p ph last (run p events)
      → RunsOut p ((goes_to ph (turn_after p draws events last)).since + p.grtt) (last + p.step) (turn_after p draws events last).world.sender
  pub apart : (p : Settings) (events : List Event) (last : ℕ) (draws : ℕ → ℕ) → Follows p events last → (ph : Phase) → Watch p ph last (run p events)
      → closes_apart p (goes_to ph (turn_after p draws events last)) (turn_after p draws events last).world.sender ≡ true
  -- flushes are two round trips apart
  pub flushed : (p : Settings) (events : List Event) (last : ℕ) (draws : ℕ → ℕ) → Follows p events last → (ph : Phase) → Watch p ph last (run p events)
      → are_apart p (goes_to ph (turn_after p draws events last)) (turn_after p draws events last).world.sender ≡ true
