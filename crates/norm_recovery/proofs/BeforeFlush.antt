-- What a phase needs before its flush, as facts: the flush is not late as long as that holds.
use Rattle.std.proofs.Common.{◌≡◌, ℕ, ◌+◌, ◌*◌, ◌<◌, ◌≤◌, Bool, true, false, Option, None, Some, refl, sym, ◌∙◌, arith, ◌⊎◌, inl, inr}
use Rattle.std.specs.Prelude.{◌&&◌, ◌||◌, nat_lt, nat_le, IfSome}
use Rattle.std.proofs.lemmas.Bool.Decides.{Decides-ltb, leb_tells}
use Rattle.norm_base.specs.Settings.{Settings}
use Rattle.norm_send_rules.specs.SenderState.{SenderState}
use Rattle.norm_safety.proofs.EntryLemmas.{clash}
use Rattle.norm_recovery.specs.RunsOut.{to_send}
use Rattle.norm_recovery.specs.Watch.{Phase, most_held, flushed_before, sends_soon, waits_to_send}
use Rattle.norm_recovery.proofs.CleanSteps.{both}
use Rattle.norm_recovery.proofs.WatchFlushes.{le_of}

pub le_so : (a b : ℕ) → a ≤ b → nat_le a b ≡ true
le_so a b le = go (leb_tells a b)
  where
    go : ((nat_le a b ≡ true) × (a ≤ b)) ⊎ ((nat_le a b ≡ false) × (b < a)) → nat_le a b ≡ true
    go (inl tells) = tells.0
    go (inr tells) = absurd (let lt = tells.1 in omega (arith, lt, le))

pub lt_so : (a b : ℕ) → nat_le a b ≡ false → b < a
lt_so a b e = go (leb_tells a b)
  where
    go : ((nat_le a b ≡ true) × (a ≤ b)) ⊎ ((nat_le a b ≡ false) × (b < a)) → b < a
    go (inl tells) = absurd (clash (sym e ∙ tells.0))
    go (inr tells) = tells.1

pub and_so : (a b : Bool) → a ≡ true → b ≡ true → (a && b) ≡ true
and_so true b e f = f
and_so false b e f = absurd (clash e)

pub or_left : (a b : Bool) → a ≡ true → (a || b) ≡ true
or_left true b e = refl
or_left false b e = absurd (clash e)

pub or_right : (a b : Bool) → b ≡ true → (a || b) ≡ true
or_right true b e = refl
or_right false b e = e

-- ---- what holds before the flush

-- all has gone soon after a moment, or after the last closing
abbrev pub Soon : (g gap step held since gone : ℕ) → Type 0
Soon g gap step held since gone = (gone ≤ held + gap) ⊎ (2 * (gone + step) ≤ 2 * (since + gap) + g)

abbrev pub Held : (g step held now since send : ℕ) → Type 0
Held g step held now since send = (now < held + 2 * g) ⊎ ((now < send) × (since < held + 2 * g + step))

pub record BeforeFlush (p : Settings) (ph : Phase) (now since : ℕ) (s : SenderState) : Type 0 where
  pub early : IfSome s.last_flush (λ last. last < most_held p ph)
  pub soon : Soon p.grtt p.gap p.step (most_held p ph) since (s.next_send + to_send p s * (p.gap + p.step))
  pub waits : Held p.grtt p.step (most_held p ph) now since s.next_send

pub either : (a b : Bool) → (a || b) ≡ true → (a ≡ true) ⊎ (b ≡ true)
either true b e = inl refl
either false b e = inr e

pub before_is : (p : Settings) (ph : Phase) (now : ℕ) (s : SenderState) → (flushed_before p ph s && sends_soon p ph s && waits_to_send p ph now s) ≡ true
    → BeforeFlush p ph now ph.since s
before_is p ph now s e = record {
  early = early s.last_flush first.0;
  soon = soon (either (nat_le gone (most_held p ph + p.gap)) (nat_le (2 * (gone + p.step)) (2 * (ph.since + p.gap) + p.grtt)) first.1);
  waits = waits (either (nat_lt now late) (nat_lt now s.next_send && nat_lt ph.since (late + p.step)) parts.1);
}
  where
    parts : ((flushed_before p ph s && sends_soon p ph s) ≡ true) × (waits_to_send p ph now s ≡ true)
    parts = both (flushed_before p ph s && sends_soon p ph s) (waits_to_send p ph now s) e

    first : (flushed_before p ph s ≡ true) × (sends_soon p ph s ≡ true)
    first = both (flushed_before p ph s) (sends_soon p ph s) parts.0

    early : (o : Option ℕ) → (elim o as (λ _. Bool) [ Some last ↦ nat_lt last (most_held p ph) | None ↦ true ]) ≡ true → IfSome o (λ last. last < most_held p ph)
    early None e = tt
    early (Some last) e = (Decides-ltb last (most_held p ph)).0 e

    gone : ℕ
    gone = s.next_send + to_send p s * (p.gap + p.step)

    late : ℕ
    late = most_held p ph + 2 * p.grtt

    soon : (nat_le gone (most_held p ph + p.gap) ≡ true) ⊎ (nat_le (2 * (gone + p.step)) (2 * (ph.since + p.gap) + p.grtt) ≡ true)
        → Soon p.grtt p.gap p.step (most_held p ph) ph.since (s.next_send + to_send p s * (p.gap + p.step))
    soon (inl e) = inl (le_of gone (most_held p ph + p.gap) e)
    soon (inr e) = inr (le_of (2 * (gone + p.step)) (2 * (ph.since + p.gap) + p.grtt) e)

    waits : (nat_lt now (most_held p ph + 2 * p.grtt) ≡ true) ⊎ ((nat_lt now s.next_send && nat_lt ph.since (most_held p ph + 2 * p.grtt + p.step)) ≡ true)
        → Held p.grtt p.step (most_held p ph) now ph.since s.next_send
    waits (inl e) = inl ((Decides-ltb now (most_held p ph + 2 * p.grtt)).0 e)
    waits (inr e) =
        let two = both (nat_lt now s.next_send) (nat_lt ph.since (late + p.step)) e in
        inr ((Decides-ltb now s.next_send).0 two.0, (Decides-ltb ph.since (most_held p ph + 2 * p.grtt + p.step)).0 two.1)

pub before_so : (p : Settings) (ph : Phase) (now : ℕ) (s : SenderState) → BeforeFlush p ph now ph.since s
    → (flushed_before p ph s && sends_soon p ph s && waits_to_send p ph now s) ≡ true
before_so p ph now s h =
    and_so (flushed_before p ph s && sends_soon p ph s) (waits_to_send p ph now s)
    (and_so (flushed_before p ph s) (sends_soon p ph s) (early s.last_flush h.early) (soon h.soon)) (waits h.waits)
  where
    early : (o : Option ℕ) → IfSome o (λ last. last < most_held p ph) → (elim o as (λ _. Bool) [ Some last ↦ nat_lt last (most_held p ph) | None ↦ true ]) ≡ true
    early None e = refl
    early (Some last) e = (Decides-ltb last (most_held p ph)).1 e

    gone : ℕ
    gone = s.next_send + to_send p s * (p.gap + p.step)

    soon : Soon p.grtt p.gap p.step (most_held p ph) ph.since (s.next_send + to_send p s * (p.gap + p.step)) → sends_soon p ph s ≡ true
    soon (inl le) = or_left (nat_le gone (most_held p ph + p.gap)) (nat_le (2 * (gone + p.step)) (2 * (ph.since + p.gap) + p.grtt)) (le_so gone (most_held p ph + p.gap) le)
    soon (inr le) =
        or_right (nat_le gone (most_held p ph + p.gap)) (nat_le (2 * (gone + p.step)) (2 * (ph.since + p.gap) + p.grtt))
        (le_so (2 * (gone + p.step)) (2 * (ph.since + p.gap) + p.grtt) le)

    waits : Held p.grtt p.step (most_held p ph) now ph.since s.next_send → waits_to_send p ph now s ≡ true
    waits (inl lt) =
        or_left (nat_lt now (most_held p ph + 2 * p.grtt)) (nat_lt now s.next_send && nat_lt ph.since (most_held p ph + 2 * p.grtt + p.step))
        ((Decides-ltb now (most_held p ph + 2 * p.grtt)).1 lt)
    waits (inr (send, since)) =
        or_right (nat_lt now (most_held p ph + 2 * p.grtt)) (nat_lt now s.next_send && nat_lt ph.since (most_held p ph + 2 * p.grtt + p.step))
        (and_so (nat_lt now s.next_send) (nat_lt ph.since (most_held p ph + 2 * p.grtt + p.step)) ((Decides-ltb now s.next_send).1 send)
        ((Decides-ltb ph.since (most_held p ph + 2 * p.grtt + p.step)).1 since))

-- before it, it is not too late for it
pub not_late : (g gap step held now since send rest : ℕ) → step ≤ gap → 2 * (gap + step) ≤ g → Soon g gap step held since (send + rest) → Held g step held now since send
    → 2 * now ≤ 2 * held + 5 * g + 2 * (gap + step)
not_late g gap step held now since send rest often few soon (inl lt) = omega (arith, lt)
not_late g gap step held now since send rest often few (inl le) (inr (lt, early)) = omega (arith, le, lt, few)
not_late g gap step held now since send rest often few (inr le) (inr (lt, early)) = omega (arith, le, lt, early)

-- nor is it in the turn after it
pub next_not_late : (g gap step held last since send rest : ℕ) → step ≤ gap → 2 * (gap + step) ≤ g → Soon g gap step held since (send + rest)
    → Held g step held last since send → 2 * (last + step) ≤ 2 * held + 5 * g + 2 * (gap + step)
next_not_late g gap step held last since send rest often few soon (inl lt) = omega (arith, lt)
next_not_late g gap step held last since send rest often few (inl le) (inr (lt, early)) = omega (arith, le, lt, few)
next_not_late g gap step held last since send rest often few (inr le) (inr (lt, early)) = omega (arith, le, lt, early)
