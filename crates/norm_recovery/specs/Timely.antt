-- What nodes put off, they put off no further than the rules say (RFC 5740 sections 5.1 to 5.3).
use Rattle.std.specs.Prelude.{ℕ, ◌+◌, ◌*◌, ◌≤◌, List, Option, IfSome}
use Rattle.std.specs.List.{AllByRecursion}
use Rattle.norm_base.specs.Settings.{Settings}
use Rattle.norm_receive_rules.specs.ReceiverState.{ReceiverState, Knowledge}
use Rattle.norm_send_rules.specs.SenderState.{SenderState, Round}
use Rattle.norm_safety.specs.Events.{Event}
use Rattle.norm_safety.specs.Recovery.{ComesBy}
use Rattle.norm_safety.specs.World.{World}
use Rattle.norm_safety.specs.WorldStep.{run}

-- Of a sender at a moment: the next datagram may go within a gap; the last flush was not later; and an open round closes within K + 1 round
-- trips.
pub record SendsTimely (p : Settings) (now next_send : ℕ) (last_flush : Option ℕ) (open_round : Option Round) : Type 0 where
  pub send : next_send ≤ now + p.gap
  pub flush : IfSome last_flush (λ moment. moment ≤ now)
  pub round : IfSome open_round (λ (r : Round). r.closes ≤ now + (p.k + 1) * p.grtt)

abbrev pub SenderTimely : Settings → ℕ → SenderState → Type 0
SenderTimely p now s = SendsTimely p now s.next_send s.last_flush s.round

-- Of a receiver at a moment: a back-off ends within K round trips, and none is held off for more than K + 2.
pub record AsksTimely (p : Settings) (now : ℕ) (k : Knowledge) : Type 0 where
  pub backoff : IfSome k.backoff (λ moment. moment ≤ now + p.k * p.grtt)
  pub holdoff : k.holdoff ≤ now + (p.k + 2) * p.grtt

abbrev pub ReceiverTimely : Settings → ℕ → ReceiverState → Type 0
ReceiverTimely p now r = AsksTimely p now r.knows

-- of each node of a world
pub record WorldTimely (p : Settings) (now : ℕ) (w : World) : Type 0 where
  pub sender : SenderTimely p now w.sender
  pub receivers : AllByRecursion (ReceiverTimely p now) w.receivers

-- Each run, lawful or not, leaves its world timely at a moment that no event passes.
abbrev pub RunsAreTimely : Type 0
RunsAreTimely = (p : Settings) (events : List Event) (last : ℕ) → AllByRecursion (ComesBy last) events → WorldTimely p last (run p events)
