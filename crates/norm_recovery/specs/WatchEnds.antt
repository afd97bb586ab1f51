-- A phase of a tail does not last long, and no watermark expires in it (RFC 5740 section 5.5.3).
use Rattle.std.specs.Prelude.{◌+◌, ◌*◌, ◌<◌, ◌≤◌, ℕ, IfSome}
use Rattle.norm_base.specs.Settings.{Settings}
use Rattle.norm_send_rules.specs.Flushing.{most_flushes}
use Rattle.norm_send_rules.specs.SenderState.{SenderState}
use Rattle.norm_safety.specs.Recovery.{IsPaced}
use Rattle.norm_safety.specs.World.{World}
use Rattle.norm_recovery.specs.Watch.{Phase, Watch}

-- In a tail of this pace, from what holds at the end of a turn in a phase:
pub record WatchEnds : Type 0 where
  -- the phase began no longer ago than 4 K + 9.25 round trips
  pub ends : (p : Settings) (s : SenderState) → IsPaced p s → (ph : Phase) (now : ℕ) (w : World) → Watch p ph now w
      → 4 * now ≤ 4 * ph.began + (16 * p.k + 37) * p.grtt
  -- so if no more than 15 - 2 K flushes were counted as it began, the next tick comes too soon after a 20th flush to expire the watermark
  pub spares : (p : Settings) (s : SenderState) → IsPaced p s → (ph : Phase) → ph.counted + 2 * p.k ≤ 15 → (now : ℕ) (w : World) → Watch p ph now w
      → most_flushes ≤ w.sender.flushes → IfSome w.sender.last_flush (λ last. now + p.step < last + 2 * p.grtt)
