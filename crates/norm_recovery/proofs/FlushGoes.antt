-- A flush goes if nothing else does.
use Rattle.std.proofs.Math.Nat.{min-le_left}
use Rattle.std.proofs.Common.{◌≡◌, ℕ, ◌+◌, ◌*◌, ◌≤◌, List, [], ◌∷◌, length, Bool, true, false, Option, None, Some, refl, ap, ◌∙◌, arith}
use Rattle.std.specs.Prelude.{nat_le, nat_lt, IfSome}
use Rattle.std.proofs.lemmas.Bool.{le-ltb}
use Rattle.std.proofs.lemmas.Bool.Decides.{Decides-ltb, leb_tells}
use Rattle.norm_base.specs.Settings.{Settings}
use Rattle.norm_ext.specs.Written.{Written, writes}
use Rattle.norm_order.specs.Moments.{moment_after}
use Rattle.norm_send_rules.specs.Flushing.{most_flushes, may_flush, flushes_for, flushes_no_more, flushed, flushes_in_turn, flushes}
use Rattle.norm_send_rules.specs.Messages.{squelch_message}
use Rattle.norm_send_rules.specs.SenderState.{SenderState, Watermark}
use Rattle.norm_send_rules.specs.Sending.{sends, next_new, behind, sends_new, repairs_next}
use Rattle.norm_send_rules.specs.Ticking.{sends_further, sends_wanted, sends_first, sends_in_time}
use Rattle.norm_send_rules.specs.declared.want.Want.{Want}
use Rattle.norm_send_rules.specs.Watermarks.{oldest}
use Rattle.norm_recovery.specs.Flush.{FlushGoes}
use Rattle.norm_recovery.specs.RunsOut.{all_new, one_if, to_send}
use Rattle.norm_recovery.proofs.RunsOutNew.{fewer_new}

-- ---- with nothing to be sent, each part has nothing

no_squelch : (b : Bool) → one_if b ≡ 0 → b ≡ false
no_squelch true e = cc
no_squelch false e = refl

no_want : (ws : List Want) → length ws ≡ 0 → ws ≡ []
no_want [] e = refl
no_want (w ∷ ws) e = absurd (omega (arith, e))

no_new : (p : Settings) (s : SenderState) → length (all_new p s) ≡ 0 → next_new p s ≡ None
no_new p s e = go (next_new p s) refl
  where
    go : (found : Option Want) → next_new p s ≡ found → found ≡ None
    go None is = refl
    go (Some w) is = let less = fewer_new p s (record s { next = behind w }) w is refl refl in absurd (omega (arith, less, e))

first_none : (a b c : ℕ) → a + b + c ≡ 0 → a ≡ 0
first_none a b c e = omega (arith, e)

second_none : (a b c : ℕ) → a + b + c ≡ 0 → b ≡ 0
second_none a b c e = omega (arith, e)

third_none : (a b c : ℕ) → a + b + c ≡ 0 → c ≡ 0
third_none a b c e = omega (arith, e)

at_most : (a b : ℕ) → a ≤ b → nat_le a b ≡ true
at_most a b le = grind (arith, leb_tells a b)

flush_time : (p : Settings) (now : ℕ) (last : Option ℕ) → IfSome last (λ m. m + 2 * p.grtt ≤ now)
    → (elim last as (λ _. Bool) [ Some m ↦ nat_le (moment_after m (2 * p.grtt)) now | None ↦ true ]) ≡ true
flush_time p now None h = refl
flush_time p now (Some m) h =
    let least = min-le_left (m + 2 * p.grtt) 18446744073709551615 in at_most (moment_after m (2 * p.grtt)) now (omega (arith, least, h))

-- a due tick with nothing to be sent comes to its flush
pub nothing_goes : (p : Settings) (now : ℕ) (s : SenderState) → s.next_send ≤ now → to_send p s ≡ 0 → sends_in_time p now s ≡ flushes p now s
nothing_goes p now s due nothing = in_time
  where
    squelch : ℕ
    squelch = one_if s.squelch_due

    further : sends_further p now s ≡ flushes p now s
    further = ap (λ (o : Option Want). elim o as (λ _. SenderState × Option Written) [ Some v ↦ sends_new p now v s | None ↦ flushes p now s ])
        (no_new p s (third_none squelch (length s.wants) (length (all_new p s)) nothing))

    wanted : sends_wanted p now s ≡ flushes p now s
    wanted = ap (λ (ws : List Want). elim ws as (λ _. SenderState × Option Written) [ [] ↦ sends_further p now s | v ∷ more ↦ repairs_next p now v more s ])
        (no_want s.wants (second_none squelch (length s.wants) (length (all_new p s)) nothing)) ∙ further

    first : sends_first p now s ≡ flushes p now s
    first = ap (λ (b : Bool). elim b as (λ _. SenderState × Option Written) [
      | true ↦ sends p now (writes (squelch_message p s s.current.drop) (s.current.drop.index ∷ [])) (record s { squelch_due = false })
      | false ↦ sends_wanted p now s
    ]) (no_squelch s.squelch_due (first_none squelch (length s.wants) (length (all_new p s)) nothing)) ∙ wanted

    in_time : sends_in_time p now s ≡ flushes p now s
    in_time = ap (λ (b : Bool). elim b as (λ _. SenderState × Option Written) [ true ↦ (s, None) | false ↦ sends_first p now s ])
        (le-ltb now s.next_send due) ∙ first

-- with fewer than 20 flushes counted, a flush that may go does so for the oldest watermark
pub may_go : (p : Settings) (now : ℕ) (s : SenderState) (w : Watermark) → may_flush p s now ≡ true → nat_lt s.flushes most_flushes ≡ true → oldest s ≡ Some w
    → flushes p now s ≡ flushes_for p now w s
may_go p now s w may few is =
    ap (λ (b : Bool). elim b as (λ _. SenderState × Option Written) [ true ↦ flushes_in_turn p now s | false ↦ (s, None) ]) may
    ∙ ap (λ (o : Option Watermark). elim o as (λ _. SenderState × Option Written) [ Some v ↦ flushed p now v s | None ↦ (s, None) ]) is
    ∙ ap (λ (b : Bool). elim b as (λ _. SenderState × Option Written) [ true ↦ flushes_for p now w s | false ↦ flushes_no_more p now w s ]) few

pub flush_goes : FlushGoes
flush_goes p now s w h =
    ap (λ (t : SenderState). sends_in_time p now t) h.closes_none ∙ nothing_goes p now s h.due h.nothing
    ∙ may_go p now s w (flush_time p now s.last_flush h.apart) ((Decides-ltb s.flushes most_flushes).1 h.few) h.is_oldest
