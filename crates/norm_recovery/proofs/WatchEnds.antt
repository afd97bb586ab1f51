-- A phase ends in time: its flush went soon enough, and after it the open round has to close.
use Rattle.std.proofs.Common.{◌≡◌, ℕ, ◌+◌, ◌*◌, ◌-◌, ◌<◌, ◌≤◌, Bool, true, false, Option, None, Some, refl, sym, ◌∙◌, arith, ◌⊎◌, inl, inr}
use Rattle.std.specs.Prelude.{◌&&◌, ◌||◌, not, nat_lt, nat_le, IfSome}
use Rattle.std.proofs.lemmas.Bool.Decides.{Decides-ltb, leb_tells}
use Rattle.std.proofs.Math.Nat.{mul-le-mul_right}
use Rattle.norm_base.specs.Settings.{Settings}
use Rattle.norm_send_rules.specs.Flushing.{most_flushes}
use Rattle.norm_send_rules.specs.Repairable.{repairable}
use Rattle.norm_send_rules.specs.SenderState.{SenderState, Round}
use Rattle.norm_safety.specs.Recovery.{IsPaced}
use Rattle.norm_safety.specs.World.{World}
use Rattle.norm_safety.proofs.EntryLemmas.{clash}
use Rattle.norm_recovery.specs.Watch.{Phase, Watch, most_held, closes_soon, is_behind, is_waited, each_member, knows_flush, flushed_before, sends_soon, waits_to_send}
use Rattle.norm_recovery.specs.WatchEnds.{WatchEnds}
use Rattle.norm_recovery.specs.RunsOut.{to_send}
use Rattle.norm_recovery.proofs.BeforeFlush.{before_is, not_late}

both : (a b : Bool) → (a && b) ≡ true → (a ≡ true) × (b ≡ true)
both true b e = (refl, e)
both false b e = absurd (clash e)

le_of : (a b : ℕ) → nat_le a b ≡ true → a ≤ b
le_of a b e = go (leb_tells a b)
  where
    go : ((nat_le a b ≡ true) × (a ≤ b)) ⊎ ((nat_le a b ≡ false) × (b < a)) → a ≤ b
    go (inl tells) = tells.1
    go (inr tells) = absurd (clash (sym tells.0 ∙ e))

-- ---- moments

-- a datagram and a turn, twice, take no more than a round trip
pub paced : (p : Settings) (s : SenderState) → IsPaced p s → 2 * (p.gap + p.step) ≤ p.grtt
paced p s h = go (repairable p s) h.twice
  where
    go : (m : ℕ) → 2 * (m + 1) * (p.gap + p.step) ≤ p.grtt → 2 * (p.gap + p.step) ≤ p.grtt
    go m le =
        let more : 2 * (m + 1) * (p.gap + p.step) ≡ 2 * (m * (p.gap + p.step)) + 2 * (p.gap + p.step) = grind arith in
        omega (arith, le, more)

-- no flush went yet
before_flush : (k g gap step t now : ℕ) → step ≤ gap → 2 * (gap + step) ≤ g → 2 * now ≤ 2 * (t + (2 * k + 4) * g + 2 * step) + 5 * g + 2 * (gap + step)
    → 4 * now ≤ 4 * t + (16 * k + 37) * g
before_flush k g gap step t now often twice le =
    let a : (2 * k + 4) * g ≡ 2 * (k * g) + 4 * g = grind arith in
    let b : (16 * k + 37) * g ≡ 16 * (k * g) + 37 * g = grind arith in
    omega (arith, often, twice, le, a, b)

-- the round closes after the moment, and not too long after the flush
after_flush : (k g gap step t now flush closes : ℕ) → step ≤ gap → 2 * (gap + step) ≤ g → 2 * flush ≤ 2 * (t + (2 * k + 4) * g + 2 * step) + 5 * g + 2 * (gap + step)
    → closes ≤ flush + (2 * k + 1) * g + 3 * step → now < closes → 4 * now ≤ 4 * t + (16 * k + 37) * g
after_flush k g gap step t now flush closes often twice le soon later =
    let a : (2 * k + 4) * g ≡ 2 * (k * g) + 4 * g = grind arith in
    let b : (16 * k + 37) * g ≡ 16 * (k * g) + 37 * g = grind arith in
    let c : (2 * k + 1) * g ≡ 2 * (k * g) + g = grind arith in
    omega (arith, often, twice, le, soon, later, a, b, c)

-- the flush went, and its back-offs still run
short_after : (k g gap step t now flush : ℕ) → step ≤ gap → 2 * (gap + step) ≤ g → 2 * flush ≤ 2 * (t + (2 * k + 4) * g + 2 * step) + 5 * g + 2 * (gap + step)
    → now < flush + k * g + 2 * step → 4 * now ≤ 4 * t + (16 * k + 37) * g
short_after k g gap step t now flush often twice le soon =
    let a : (2 * k + 4) * g ≡ 2 * (k * g) + 4 * g = grind arith in
    let b : (16 * k + 37) * g ≡ 16 * (k * g) + 37 * g = grind arith in
    omega (arith, often, twice, le, soon, a, b)

-- ---- the phase

ends : (p : Settings) (s : SenderState) → IsPaced p s → (ph : Phase) (now : ℕ) (w : World) → Watch p ph now w
    → 4 * now ≤ 4 * ph.began + (16 * p.k + 37) * p.grtt
ends p s pace ph now w h = go ph.first h.asking
  where
    few : 2 * (p.gap + p.step) ≤ p.grtt
    few = paced p s pace

    Ends : Type 0
    Ends = 4 * now ≤ 4 * ph.began + (16 * p.k + 37) * p.grtt

    held : ℕ
    held = most_held p ph

    in_time : ℕ → Bool
    in_time flush = nat_le (2 * flush) (2 * most_held p ph + 5 * p.grtt + 2 * (p.gap + p.step))

    known : Bool
    known = each_member (knows_flush w.sender) w

    behind : Bool
    behind = not (each_member (λ r. not (is_behind w.sender r)) w)

    waits : Option ℕ → Bool
    waits first = elim first [
      | Some flush ↦ nat_le (most_held p ph) flush && nat_le flush now && nat_le (2 * flush) (2 * most_held p ph + 5 * p.grtt + 2 * (p.gap + p.step))
          && each_member (knows_flush w.sender) w && not (each_member (λ r. not (is_behind w.sender r)) w) && each_member (is_waited p flush w.sender) w
          && closes_soon p flush now w.sender
      | None ↦ flushed_before p ph w.sender && sends_soon p ph w.sender && waits_to_send p ph now w.sender
    ]

    closes : (flush : ℕ) → 2 * flush ≤ 2 * most_held p ph + 5 * p.grtt + 2 * (p.gap + p.step) → (found : Option Round)
        → (elim found as (λ _. Bool) [ Some r ↦ nat_lt now r.closes | None ↦ true ]) ≡ true
        → (elim found as (λ _. Bool) [ Some r ↦ nat_le r.closes (flush + (2 * p.k + 1) * p.grtt + 3 * p.step) | None ↦ false ]) ≡ true → Ends
    closes flush le None later soon = absurd (clash soon)
    closes flush le (Some r) later soon =
        after_flush p.k p.grtt p.gap p.step ph.began now flush r.closes pace.often few le (le_of r.closes (flush + (2 * p.k + 1) * p.grtt + 3 * p.step) soon)
        ((Decides-ltb now r.closes).0 later)

    soon : (flush : ℕ) → 2 * flush ≤ 2 * most_held p ph + 5 * p.grtt + 2 * (p.gap + p.step) → (b : Bool) → nat_lt now (flush + p.k * p.grtt + 2 * p.step) ≡ b
        → (b || elim w.sender.round [ Some r ↦ nat_le r.closes (flush + (2 * p.k + 1) * p.grtt + 3 * p.step) | None ↦ false ]) ≡ true → Ends
    soon flush le true is e =
        short_after p.k p.grtt p.gap p.step ph.began now flush pace.often few le ((Decides-ltb now (flush + p.k * p.grtt + 2 * p.step)).0 is)
    soon flush le false is e = closes flush le w.sender.round h.later e

    go : (first : Option ℕ) → waits first ≡ true → Ends
    go None e =
        let b = before_is p ph now w.sender e in
        before_flush p.k p.grtt p.gap p.step ph.began now pace.often few
        (not_late p.grtt p.gap p.step (most_held p ph) now ph.since w.sender.next_send (to_send p w.sender * (p.gap + p.step)) pace.often few b.soon b.waits)
    go (Some flush) e =
        let soonest = both (nat_le held flush && nat_le flush now && in_time flush && known && behind && each_member (is_waited p flush w.sender) w)
        (closes_soon p flush now w.sender) e in
        let fourth = both (nat_le held flush && nat_le flush now && in_time flush && known && behind) (each_member (is_waited p flush w.sender) w) soonest.0 in
        let third = both (nat_le held flush && nat_le flush now && in_time flush && known) behind fourth.0 in
        let second = both (nat_le held flush && nat_le flush now && in_time flush) known third.0 in
        let first = both (nat_le held flush && nat_le flush now) (in_time flush) second.0 in
        soon flush (le_of (2 * flush) (2 * most_held p ph + 5 * p.grtt + 2 * (p.gap + p.step)) first.1) (nat_lt now (flush + p.k * p.grtt + 2 * p.step)) refl soonest.1

-- ---- flushes

-- twenty flushes take longer than the phase
too_soon : (k g gap step t c now last n : ℕ) → step ≤ gap → 2 * (gap + step) ≤ g → 1 ≤ step → c + 2 * k ≤ 15 → 20 ≤ n → t + 2 * g * (n - c) ≤ last + 2 * g
    → 4 * now ≤ 4 * t + (16 * k + 37) * g → now + step < last + 2 * g
too_soon k g gap step t c now last n often twice some few many apart short =
    let least : 2 * k + 5 ≤ n - c = omega (arith, few, many) in
    let most : (2 * k + 5) * (2 * g) ≤ (n - c) * (2 * g) = mul-le-mul_right (2 * g) least in
    let a : (2 * k + 5) * (2 * g) ≡ 4 * (k * g) + 10 * g = grind arith in
    let b : (16 * k + 37) * g ≡ 16 * (k * g) + 37 * g = grind arith in
    let d : (n - c) * (2 * g) ≡ 2 * g * (n - c) = grind arith in
    omega (arith, often, twice, some, apart, short, most, a, b, d)

spares : (p : Settings) (s : SenderState) → IsPaced p s → (ph : Phase) → ph.counted + 2 * p.k ≤ 15 → (now : ℕ) (w : World) → Watch p ph now w
    → most_flushes ≤ w.sender.flushes → IfSome w.sender.last_flush (λ last. now + p.step < last + 2 * p.grtt)
spares p s pace ph few now w h many = go w.sender.last_flush (counted (nat_le w.sender.flushes ph.counted) refl h.flushed)
  where
    apart : Option ℕ → Bool
    apart found = elim found [ Some last ↦ nat_le (ph.began + 2 * p.grtt * (w.sender.flushes - ph.counted)) (last + 2 * p.grtt) | None ↦ false ]

    counted : (b : Bool) → nat_le w.sender.flushes ph.counted ≡ b → (b || apart w.sender.last_flush) ≡ true → apart w.sender.last_flush ≡ true
    counted true is e = absurd (let le = le_of w.sender.flushes ph.counted is in omega (arith, le, few, many))
    counted false is e = e

    go : (found : Option ℕ) → apart found ≡ true → IfSome found (λ last. now + p.step < last + 2 * p.grtt)
    go None e = absurd (clash e)
    go (Some last) e =
        too_soon p.k p.grtt p.gap p.step ph.began ph.counted now last w.sender.flushes pace.often (paced p s pace) pace.goes_on few many
        (le_of (ph.began + 2 * p.grtt * (w.sender.flushes - ph.counted)) (last + 2 * p.grtt) e) (ends p s pace ph now w h)

pub watch_ends : WatchEnds
watch_ends = record { ends = ends; spares = spares }
