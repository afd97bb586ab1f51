-- Bounded recovery (RFC 5740 section 5): over a network that loses nothing any more, the oldest watermark is satisfied within so many turns.
use Rattle.std.specs.Prelude.{ℕ, ◌≡◌, ◌≤◌, ◌⊎◌, ◌+◌, ◌*◌, List, [], Bool, false, Some, IsTrue, ⊤}
use Rattle.std.specs.List.{AllByRecursion}
use Rattle.std.specs.Option.{option_map, option_map_or}
use Rattle.norm_base.specs.Settings.{Settings, InRange}
use Rattle.norm_base.specs.declared.kinds.Mode.TheVariants as mode
use Rattle.norm_send_rules.specs.SenderState.{SenderState, Watermark}
use Rattle.norm_send_rules.specs.Repairable.{streams}
use Rattle.norm_send_rules.specs.Watermarks.{oldest, watermark_of}
use Rattle.norm_safety.specs.Events.{Event, Commanded, Delivered, Ticked, Offered, UpTaken, NewsAsked}
use Rattle.norm_safety.specs.InTime.{FewObjects}
use Rattle.norm_safety.specs.Jobs.{AreEvents}
use Rattle.norm_safety.specs.Lawful.{Lawful}
use Rattle.norm_safety.specs.SatisfiedExactly.{is_satisfied}
use Rattle.norm_safety.specs.Tail.{course_from, tail_turns, tail_bound, sent_twice, most_counted}
use Rattle.norm_safety.specs.World.{World}
use Rattle.norm_safety.specs.WorldStep.{run}

-- the event comes at this moment or before, if it has a moment
abbrev pub ComesBy : ℕ → Event → Type 0
ComesBy last (Commanded by job now) = now ≤ last
ComesBy last (Delivered node datagram now draw) = now ≤ last
ComesBy last (Ticked node now) = now ≤ last
ComesBy last (Offered node datagram) = ⊤
ComesBy last (UpTaken node) = ⊤
ComesBy last NewsAsked = ⊤

-- the oldest open watermark has this number
abbrev pub IsOldest : SenderState → ℕ → Type 0
IsOldest s mark = option_map (λ (w : Watermark). w.mark) (oldest s) ≡ Some mark

-- The pace of a tail: turns are no further apart than datagrams, the window is sent twice in a round trip, and enough flushes are left for
-- a phase of repairs.
pub record IsPaced (p : Settings) (s : SenderState) : Type 0 where
  pub goes_on : 1 ≤ p.step
  pub often : p.step ≤ p.gap
  pub twice : sent_twice p s ≤ p.grtt
  pub flushes : s.flushes + 2 * p.k ≤ most_counted

-- What is presupposed: a lawful run that a program can make, with no event after a moment; `hold` mode, and no stream in the window; a
-- watermark that is open, and the oldest; the pace; few objects, if a member was struck; and moments that have 64 bits.
pub record MayRecover (p : Settings) (events : List Event) (last mark : ℕ) : Type 0 where
  pub profile : InRange p
  pub lawful : Lawful p events
  pub jobs : AreEvents events
  pub before : AllByRecursion (ComesBy last) events
  pub holds : p.mode ≡ mode.Hold
  pub streams : streams (run p events).sender ≡ 0
  pub oldest : IsOldest (run p events).sender mark
  pub paced : IsPaced p (run p events).sender
  pub few : ((run p events).sender.struck ≡ []) ⊎ FewObjects (run p events).sender
  pub moments : last + tail_bound p (run p events).sender * p.step ≤ 18446744073709551615

-- the watermark with this number is satisfied
abbrev pub is_satisfied_mark : World → ℕ → Bool
is_satisfied_mark w mark = option_map_or is_satisfied (watermark_of w.sender mark) false

-- The watermark is satisfied after some number of turns that is within the bound, whatever the draws.
abbrev pub BoundedRecovery : Type 0
BoundedRecovery = (p : Settings) (events : List Event) (last mark : ℕ) (draws : ℕ → ℕ) → MayRecover p events last mark
    → (n : ℕ) × (n ≤ tail_bound p (run p events).sender)
    × IsTrue (is_satisfied_mark (tail_turns n p draws last (course_from (run p events))).world mark)
