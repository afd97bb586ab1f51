-- The numbers of a sender's state, and when they let it send.
use Rattle.std.specs.Prelude.{ℕ, ◌+◌, ◌*◌, ◌||◌, Bool, true, false, nat_le, Option, Some, None}
use Rattle.std.specs.Option.{option_map}
use Rattle.norm_base.specs.Settings.{Settings}
use Rattle.norm_order.specs.Moments.{moment_after}
use Rattle.norm_send_rules.specs.SenderState.{SenderState, Round}
use Rattle.norm_send_rules.specs.Restarting.{first_id}
use Rattle.norm_sender.specs.declared.pace.Pace.{Pace}

-- the numbers of a state
abbrev pub pace_of : SenderState → Pace
pace_of s = record {
  first = first_id s;
  instance = s.current.id;
  next = s.next;
  closes = option_map (λ (r : Round). r.closes) s.round;
  squelch_due = s.squelch_due;
  flushes = s.flushes;
  last_flush = s.last_flush;
  next_send = s.next_send;
  sequence = s.sequence;
}

-- a flush may be sent: none was, or two round trips have passed since
abbrev pub next_flush : Option ℕ → ℕ → ℕ → Bool
next_flush None grtt now = true
next_flush (Some last) grtt now = nat_le (moment_after last (2 * grtt)) now

-- a round is open: the one that was, or a new one, which closes K + 1 round trips from now
abbrev pub opened_at : Settings → ℕ → Pace → Pace
opened_at p now pace = elim pace.closes [
  | Some closes ↦ pace
  | None ↦ record pace { closes = Some (moment_after now ((p.k + 1) * p.grtt)) }
]

-- the open round's closing moment is reached
abbrev pub is_over : Option ℕ → ℕ → Bool
is_over None now = false
is_over (Some closes) now = nat_le closes now

-- no round is open any more. Where the last one made a want, flushes are counted anew, and where it asked for what lies
-- before the window, a squelch is due
abbrev pub closed_at : Bool → Bool → Pace → Pace
closed_at wanted early pace = record pace {
  closes = None;
  flushes = elim wanted [ true ↦ 0 | false ↦ pace.flushes ];
  squelch_due = pace.squelch_due || early;
}

-- flushes are counted anew, where another watermark became the oldest
abbrev pub counted_by : Bool → Pace → Pace
counted_by kept pace = elim kept [ true ↦ pace | false ↦ record pace { flushes = 0 } ]
