-- One walk along a tick: what each of its small steps keeps, the tick keeps.
use Rattle.std.proofs.Common.{◌≡◌, ℕ, ◌+◌, ◌%◌, List, [], ◌∷◌, Bool, true, false, Option, None, Some, refl}
use Rattle.std.specs.Prelude.{nat_lt, nat_le}
use Rattle.norm_base.specs.Settings.{Settings}
use Rattle.norm_ext.specs.Written.{Written, writes}
use Rattle.norm_order.specs.Entries.{Object}
use Rattle.norm_send_rules.specs.SenderState.{SenderState, Watermark, Round}
use Rattle.norm_send_rules.specs.Watermarks.{oldest, pending}
use Rattle.norm_send_rules.specs.Closing.{round_closed}
use Rattle.norm_send_rules.specs.Messages.{squelch_message, flush_message}
use Rattle.norm_send_rules.specs.Sending.{next_new, behind, noted, sends, object_of, message_of, repair_flags, sends_want, repairs_next, sends_new}
use Rattle.norm_send_rules.specs.Flushing.{most_flushes, may_flush, flushes_for, expired, flushes_oldest, flushes_no_more, flushed, flushes_in_turn, flushes}
use Rattle.norm_send_rules.specs.Ticking.{closed_where_due, sends_further, sends_wanted, sends_first, sends_in_time, ticked}
use Rattle.norm_send_rules.specs.Wants.{want_index}
use Rattle.norm_send_rules.specs.declared.want.Want.{Want}

-- What the small steps of a tick keep: a round closes; a squelch is due no more; the first want goes; what is new goes on; a
-- symbol or info is noted as sent; a flush is counted; the oldest watermark expires; and a datagram takes its gap and number.
pub record TickKeeps (p : Settings) (Kept : SenderState → Type 0) : Type 0 where
  pub closes : (s : SenderState) (r : Round) → Kept s → Kept (round_closed p r s)
  pub squelched : (s : SenderState) → Kept s → Kept (record s { squelch_due = false })
  pub repaired : (s : SenderState) (w : Want) (wants : List Want) → s.wants ≡ w ∷ wants → Kept s → Kept (record s { wants = wants })
  pub goes_on : (s : SenderState) (w : Want) → next_new p s ≡ Some w → Kept s → Kept (record s { next = behind w })
  pub notes : (s : SenderState) (w : Want) → Kept s → Kept (noted w s)
  pub flushes : (s : SenderState) (now : ℕ) → Kept s → Kept (record s { flushes = s.flushes + 1; last_flush = Some now })
  pub expires : (s : SenderState) (w : Watermark) → oldest s ≡ Some w → Kept s → Kept (expired w.mark s)
  pub spends : (s : SenderState) (moment : ℕ) → Kept s → Kept (record s { next_send = moment; sequence = (s.sequence + 1) % 65536 })

-- the state that a step leaves
abbrev left_by : SenderState × Option Written → SenderState
left_by step = step.0

sends_keep : (p : Settings) (Kept : SenderState → Type 0) → TickKeeps p Kept → (now : ℕ) (datagram : Written) (s : SenderState) → Kept s
    → Kept (sends p now datagram s).0
sends_keep p Kept k now datagram s h = k.spends s (sends p now datagram s).0.next_send h

want_keep : (p : Settings) (Kept : SenderState → Type 0) → TickKeeps p Kept → (now : ℕ) (repair : Object → ℕ) (w : Want) (s : SenderState) → Kept s
    → Kept (sends_want p now repair w s).0
want_keep p Kept k now repair w s h =
    let object = object_of s w in
    sends_keep p Kept k now (writes (message_of p s w object (repair object)) (want_index w ∷ [])) (noted w s) (k.notes s w h)

flush_keep : (p : Settings) (Kept : SenderState → Type 0) → TickKeeps p Kept → (now : ℕ) (w : Watermark) (s : SenderState) → Kept s
    → Kept (flushes_for p now w s).0
flush_keep p Kept k now w s h =
    sends_keep p Kept k now (writes (flush_message p s w.at (pending s w.at)) (w.at.index ∷ [])) (record s { flushes = s.flushes + 1; last_flush = Some now })
    (k.flushes s now h)

oldest_keep : (p : Settings) (Kept : SenderState → Type 0) → TickKeeps p Kept → (now : ℕ) (s : SenderState) → Kept s → Kept (flushes_oldest p now s).0
oldest_keep p Kept k now s h = go (oldest s)
  where
    go : (found : Option Watermark) → Kept (left_by (elim found [ Some w ↦ flushes_for p now w s | None ↦ (s, None) ]))
    go (Some w) = flush_keep p Kept k now w s h
    go None = h

turn_keep : (p : Settings) (Kept : SenderState → Type 0) → TickKeeps p Kept → (now : ℕ) (s : SenderState) → Kept s → Kept (flushes_in_turn p now s).0
turn_keep p Kept k now s h = go (oldest s) refl
  where
    waits : (round : Option Round) (w : Watermark) → oldest s ≡ Some w
        → Kept (left_by (elim round [ Some r ↦ (s, None) | None ↦ flushes_oldest p now (expired w.mark s) ]))
    waits (Some r) w e = h
    waits None w e = oldest_keep p Kept k now (expired w.mark s) (k.expires s w e h)

    counts : (few : Bool) (w : Watermark) → oldest s ≡ Some w
        → Kept (left_by (elim few [ true ↦ flushes_for p now w s | false ↦ flushes_no_more p now w s ]))
    counts true w e = flush_keep p Kept k now w s h
    counts false w e = waits s.round w e

    go : (found : Option Watermark) → oldest s ≡ found → Kept (left_by (elim found [ Some w ↦ flushed p now w s | None ↦ (s, None) ]))
    go (Some w) e = counts (nat_lt s.flushes most_flushes) w e
    go None e = h

further_keep : (p : Settings) (Kept : SenderState → Type 0) → TickKeeps p Kept → (now : ℕ) (s : SenderState) → Kept s → Kept (sends_further p now s).0
further_keep p Kept k now s h = go (next_new p s) refl
  where
    in_time : (b : Bool) → Kept (left_by (elim b [ true ↦ flushes_in_turn p now s | false ↦ (s, None) ]))
    in_time true = turn_keep p Kept k now s h
    in_time false = h

    go : (found : Option Want) → next_new p s ≡ found → Kept (left_by (elim found [ Some w ↦ sends_new p now w s | None ↦ flushes p now s ]))
    go (Some w) e = want_keep p Kept k now (λ object. 0) w (record s { next = behind w }) (k.goes_on s w e h)
    go None e = in_time (may_flush p s now)

wanted_keep : (p : Settings) (Kept : SenderState → Type 0) → TickKeeps p Kept → (now : ℕ) (s : SenderState) → Kept s → Kept (sends_wanted p now s).0
wanted_keep p Kept k now s h = go s.wants refl
  where
    go : (found : List Want) → s.wants ≡ found
        → Kept (left_by (elim found [ [] ↦ sends_further p now s | w ∷ wants ↦ repairs_next p now w wants s ]))
    go [] e = further_keep p Kept k now s h
    go (w ∷ wants) e =
        want_keep p Kept k now (λ object. repair_flags p object w) w (record s { wants = wants }) (k.repaired s w wants e h)

in_time_keep : (p : Settings) (Kept : SenderState → Type 0) → TickKeeps p Kept → (now : ℕ) (s : SenderState) → Kept s → Kept (sends_in_time p now s).0
in_time_keep p Kept k now s h = go (nat_lt now s.next_send)
  where
    first : (due : Bool) → Kept (left_by (elim due [
      | true ↦ sends p now (writes (squelch_message p s s.current.drop) (s.current.drop.index ∷ [])) (record s { squelch_due = false })
      | false ↦ sends_wanted p now s
    ]))
    first true = sends_keep p Kept k now (writes (squelch_message p s s.current.drop) (s.current.drop.index ∷ [])) (record s { squelch_due = false }) (k.squelched s h)
    first false = wanted_keep p Kept k now s h

    go : (early : Bool) → Kept (left_by (elim early [ true ↦ (s, None) | false ↦ sends_first p now s ]))
    go true = h
    go false = first s.squelch_due

pub closed_keep : (p : Settings) (Kept : SenderState → Type 0) → TickKeeps p Kept → (now : ℕ) (s : SenderState) → Kept s → Kept (closed_where_due p now s)
closed_keep p Kept k now s h = go s.round
  where
    by : (b : Bool) (r : Round) → Kept (elim b [ true ↦ round_closed p r s | false ↦ s ])
    by true r = k.closes s r h
    by false r = h

    go : (round : Option Round) → Kept (elim round [ Some r ↦ elim (nat_le r.closes now) [ true ↦ round_closed p r s | false ↦ s ] | None ↦ s ])
    go (Some r) = by (nat_le r.closes now) r
    go None = h

-- What each small step of a tick keeps, the tick keeps.
pub tick_keeps : (p : Settings) (Kept : SenderState → Type 0) → TickKeeps p Kept → (s : SenderState) (now : ℕ) → Kept s → Kept (ticked p s now).0
tick_keeps p Kept k s now h = in_time_keep p Kept k now (closed_where_due p now s) (closed_keep p Kept k now s h)
