-- What a tick sends and when, and what it gives up (RFC 5740 sections 5.1 and 5.5.3).
use Rattle.std.specs.Prelude.{◌≡◌, ◌≤◌, ◌⊎◌, ◌==◌, ◌&&◌, ℕ, List, map, find, None, Some, ⊤, if◌then◌else◌}
use Rattle.norm_base.specs.Settings.{Settings}
use Rattle.norm_ext.specs.Written.{Written}
use Rattle.norm_order.specs.Moments.{moment_after}
use Rattle.norm_send_rules.specs.SenderState.{SenderState, Watermark}
use Rattle.norm_send_rules.specs.SenderStep.{SenderEvent, SenderAnswer, Answered, Silent, Sent, Told, sender_step}
use Rattle.norm_send_rules.specs.Ticking.{ticked}
use Rattle.norm_send_rules.specs.Watermarks.{is_open, ended_with}
use Rattle.norm_send_rules.specs.declared.news.Outcome.{Outcome}

-- the open watermark of this number has an outcome, and any other stays as it is
abbrev pub ended_at : ℕ → (Watermark → Outcome) → Watermark → Watermark
ended_at mark outcome w = if is_open w && w.mark == mark then ended_with (outcome w) w else w

-- All watermarks are as they were, or all but the oldest open one.
abbrev pub OnlyOldestEnds : List Watermark → List Watermark → Type 0
OnlyOldestEnds before after =
    (after ≡ before)
    ⊎ ((w : Watermark) × (outcome : Watermark → Outcome) × (find is_open before ≡ Some w) × (after ≡ map (ended_at w.mark outcome) before))

-- an answer is no datagram
abbrev pub GivesNoDatagram : SenderAnswer → Type 0
GivesNoDatagram (Answered gave) = ⊤
GivesNoDatagram Silent = ⊤
GivesNoDatagram (Sent datagram) = datagram ≡ None
GivesNoDatagram (Told news) = ⊤

-- A datagram goes no sooner than the moment that the last one set, and sets the next one a gap later; nothing else moves it. So
-- two datagrams of a sender are a gap apart. And in one tick at most one watermark ends, the oldest.
pub record TickLaws : Type 0 where
  pub in_time : (p : Settings) (s : SenderState) (now : ℕ) (datagram : Written) → (ticked p s now).1 ≡ Some datagram
      → (s.next_send ≤ now) × ((ticked p s now).0.next_send ≡ moment_after now p.gap)
  pub stays : (p : Settings) (s : SenderState) (event : SenderEvent) → GivesNoDatagram (sender_step p s event).1
      → (sender_step p s event).0.next_send ≡ s.next_send
  pub ends_one : (p : Settings) (s : SenderState) (now : ℕ) → OnlyOldestEnds s.watermarks (ticked p s now).0.watermarks
