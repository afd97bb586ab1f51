-- What a sender has to send runs out (RFC 5740 section 5.1): each datagram goes a gap and a step after the one before, or sooner.
use Rattle.std.specs.Prelude.{◌≡◌, ℕ, suc, ◌+◌, ◌*◌, ◌<◌, ◌≤◌, ◌⊎◌, ◌&&◌, not, List, length, filter, fold, cond, Bool, Option, None, Some}
use Rattle.std.specs.List.{AllByRecursion}
use Rattle.norm_base.specs.Settings.{Settings, InRange}
use Rattle.norm_send_rules.specs.InWindow.{current_shapes, stands_behind}
use Rattle.norm_send_rules.specs.Laws.{WantsHold}
use Rattle.norm_send_rules.specs.Repairable.{repairable}
use Rattle.norm_send_rules.specs.SenderState.{SenderState}
use Rattle.norm_send_rules.specs.Sending.{new_from}
use Rattle.norm_send_rules.specs.Ticking.{closed_where_due, ticked}
use Rattle.norm_send_rules.specs.Wants.{want_before}
use Rattle.norm_send_rules.specs.declared.want.Want.{Want}
use Rattle.norm_safety.specs.Events.{Event, Ticked}
use Rattle.norm_safety.specs.History.{Happening}
use Rattle.norm_safety.specs.Recovery.{ComesBy}
use Rattle.norm_safety.specs.Tail.{Course, course_from, sent_twice, tail_turns}
use Rattle.norm_safety.specs.WorldStep.{run}

-- what is new: not before the next place, and not dropped
abbrev pub all_new : Settings → SenderState → List Want
all_new p s = filter (λ w. not (want_before w s.next) && stands_behind s.current.drop w) (new_from p 0 (current_shapes p s))

-- one where something is
abbrev pub one_if : Bool → ℕ
one_if b = cond b 1 0

-- how much is to be sent: a squelch that is due, the wants, and what is new
abbrev pub to_send : Settings → SenderState → ℕ
to_send p s = one_if s.squelch_due + length s.wants + length (all_new p s)

-- At a moment of which the tick is over: nothing is to be sent, or nothing more at this moment, and all of it goes by another.
abbrev pub RunsOut : Settings → (by now : ℕ) → SenderState → Type 0
RunsOut p by now s = (to_send p s ≡ 0) ⊎ ((now ≤ s.next_send) × (s.next_send + to_send p s * (p.gap + p.step) ≤ by))

-- a tick at this moment closes no round
abbrev pub ClosesNone : Settings → ℕ → SenderState → Type 0
ClosesNone p now s = closed_where_due p now s ≡ s

-- Of one sender that ticks a step after a moment.
pub record RunsOutLaws : Type 0 where
  -- whatever round that closes: from then on it runs out
  pub begins : (p : Settings) (last : ℕ) (s : SenderState) → last + p.step ≤ 18446744073709551615 → s.next_send ≤ last + p.gap
      → RunsOut p (last + p.gap + to_send p (closed_where_due p (last + p.step) s) * (p.gap + p.step)) (last + p.step) (ticked p s (last + p.step)).0
  -- if that closes none: it goes on to run out
  pub goes_on : (p : Settings) (by now : ℕ) (s : SenderState) → now + p.step ≤ 18446744073709551615 → ClosesNone p (now + p.step) s
      → RunsOut p by now s → RunsOut p by (now + p.step) (ticked p s (now + p.step)).0
  -- nothing is to be sent any more a gap and a step before all has gone
  pub is_out : (p : Settings) (by now : ℕ) (s : SenderState) → by < now + (p.gap + p.step) → RunsOut p by now s → to_send p s ≡ 0
  -- the wants are no more than the infos and symbols of the window, and nor is what is new
  pub few : (p : Settings) (s : SenderState) → InRange p → WantsHold p s → to_send p s ≤ 2 * repairable p s + 1

-- the moment of a tick
abbrev pub tick_moment : Event → Option ℕ
tick_moment (Ticked node now) = Some now
tick_moment _ = None

-- the moment of a happening that closed the sender's round
abbrev pub closed_at : Happening → Option ℕ
closed_at h = elim h.before.sender.round [
  | Some before ↦ elim h.after.sender.round [ Some after ↦ None | None ↦ tick_moment h.event ]
  | None ↦ None
]

-- the moment of the last closing among what happened after a moment, or that moment
abbrev pub last_closing : ℕ → List Happening → ℕ
last_closing last happened = fold (λ since h. elim (closed_at h) [ Some now ↦ now | None ↦ since ]) last happened

-- All that is to be sent goes within a round trip of the last closing, or of the moment that the course began after.
pub record RunsOutIn (p : Settings) (last now : ℕ) (c : Course) : Type 0 where
  pub runs_out : RunsOut p (last_closing last c.happened + p.grtt) now c.world.sender
  pub is_out : last_closing last c.happened + p.grtt ≤ now → to_send p c.world.sender ≡ 0

-- In a tail of any run that sends the window twice in a round trip, whatever the draws.
abbrev pub TailRunsOut : Type 0
TailRunsOut = (p : Settings) (events : List Event) (last : ℕ) (draws : ℕ → ℕ) (n : ℕ) → InRange p → AllByRecursion (ComesBy last) events
    → sent_twice p (run p events).sender ≤ p.grtt → last + suc n * p.step ≤ 18446744073709551615
    → RunsOutIn p last (last + suc n * p.step) (tail_turns (suc n) p draws last (course_from (run p events)))
