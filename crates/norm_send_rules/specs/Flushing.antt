-- Flushing (RFC 5740 section 5.5.3): the oldest open watermark is asked of the members that are not past it.
use Rattle.std.specs.Prelude.{ℕ, ◌+◌, ◌*◌, ◌==◌, ◌∷◌, [], length, Bool, true, false, nat_lt, nat_le, Option, None, Some}
use Rattle.norm_base.specs.Settings.{Settings}
use Rattle.norm_ext.specs.Written.{Written, writes}
use Rattle.norm_order.specs.Moments.{moment_after}
use Rattle.norm_send_rules.specs.SenderState.{SenderState, Watermark}
use Rattle.norm_send_rules.specs.Watermarks.{oldest, pending, counted_anew, end_where}
use Rattle.norm_send_rules.specs.Messages.{flush_message}
use Rattle.norm_send_rules.specs.Sending.{sends}
use Rattle.norm_send_rules.specs.declared.news.Outcome.TheVariants.{Expired}

-- so many flushes are sent of a watermark that nothing else goes on for
abbrev pub most_flushes : ℕ
most_flushes = 20

-- a flush may be sent: none was in this instance, or two round trips have passed since
abbrev pub may_flush : Settings → SenderState → ℕ → Bool
may_flush p s now = elim s.last_flush [ Some last ↦ nat_le (moment_after last (2 * p.grtt)) now | None ↦ true ]

-- a flush up to a watermark, to all members that are not past it
abbrev pub flushes_for : Settings → ℕ → Watermark → SenderState → SenderState × Option Written
flushes_for p now w s =
    sends p now (writes (flush_message p s w.at (pending s w.at)) (w.at.index ∷ [])) (record s { flushes = s.flushes + 1; last_flush = Some now })

-- the watermark with this number is given up
abbrev pub expired : ℕ → SenderState → SenderState
expired mark s = counted_anew s (end_where (λ w. w.mark == mark) (λ w. Expired (length (pending s w.at))) s)

-- a flush up to the oldest watermark, where one is open
abbrev pub flushes_oldest : Settings → ℕ → SenderState → SenderState × Option Written
flushes_oldest p now s = elim (oldest s) [ Some w ↦ flushes_for p now w s | None ↦ (s, None) ]

-- With 20 flushes counted: while a round is open it is waited for; else the watermark expires, and the next has its turn.
abbrev pub flushes_no_more : Settings → ℕ → Watermark → SenderState → SenderState × Option Written
flushes_no_more p now w s = elim s.round [ Some r ↦ (s, None) | None ↦ flushes_oldest p now (expired w.mark s) ]

-- With fewer flushes counted, one more.
abbrev pub flushed : Settings → ℕ → Watermark → SenderState → SenderState × Option Written
flushed p now w s = elim (nat_lt s.flushes most_flushes) [ true ↦ flushes_for p now w s | false ↦ flushes_no_more p now w s ]

-- the oldest watermark has its turn
abbrev pub flushes_in_turn : Settings → ℕ → SenderState → SenderState × Option Written
flushes_in_turn p now s = elim (oldest s) [ Some w ↦ flushed p now w s | None ↦ (s, None) ]

-- where the time has come for a flush
abbrev pub flushes : Settings → ℕ → SenderState → SenderState × Option Written
flushes p now s = elim (may_flush p s now) [ true ↦ flushes_in_turn p now s | false ↦ (s, None) ]
