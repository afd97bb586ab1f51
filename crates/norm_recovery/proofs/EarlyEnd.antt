-- If nothing of the window may need repair, a phase is over half a round trip sooner: nobody is asked for, and back-offs end.
use Rattle.std.proofs.Common.{◌≡◌, ℕ, ◌+◌, ◌*◌, ◌<◌, ◌≤◌, List, [], ◌∷◌, length, Bool, true, false, Option, None, Some, refl, sym, ◌∙◌, arith, ◌⊎◌, inl, inr}
use Rattle.std.specs.Prelude.{◌&&◌, ◌||◌, not, nat_lt, nat_le}
use Rattle.std.specs.List.{list_all, list_any}
use Rattle.std.proofs.lemmas.Bool.{cases_lt}
use Rattle.std.proofs.lemmas.Bool.Decides.{Decides-ltb, leb_tells}
use Rattle.norm_base.specs.Settings.{Settings}
use Rattle.norm_receive_rules.specs.ReceiverState.{ReceiverState}
use Rattle.norm_send_rules.specs.Repairable.{repairable}
use Rattle.norm_send_rules.specs.SenderState.{SenderState}
use Rattle.norm_send_rules.specs.Watermarks.{has_member}
use Rattle.norm_send_rules.specs.declared.want.Want.{Want}
use Rattle.norm_safety.specs.Recovery.{IsPaced}
use Rattle.norm_safety.specs.World.{World}
use Rattle.norm_safety.proofs.EntryLemmas.{clash}
use Rattle.norm_recovery.specs.Left.{has, in_window}
use Rattle.norm_recovery.specs.RoundAsks.{asks_open}
use Rattle.norm_recovery.specs.RunsOut.{to_send}
use Rattle.norm_recovery.specs.Watch.{Phase, Watch, most_held, knows_flush, is_behind, is_asked, is_waited, closes_soon, flushed_before, sends_soon, waits_to_send, flushed_at, owes_nothing, has_ticked, each_member}
use Rattle.norm_recovery.proofs.BeforeFlush.{before_is, not_late}
use Rattle.norm_recovery.proofs.ClosingLists.{In, of_all, of_not_all}
use Rattle.norm_recovery.proofs.WatchEnds.{paced}

both : (a b : Bool) → (a && b) ≡ true → (a ≡ true) × (b ≡ true)
both true b e = (refl, e)
both false b e = absurd (clash e)

le_of : (a b : ℕ) → nat_le a b ≡ true → a ≤ b
le_of a b e = go (leb_tells a b)
  where
    go : ((nat_le a b ≡ true) × (a ≤ b)) ⊎ ((nat_le a b ≡ false) × (b < a)) → a ≤ b
    go (inl tells) = tells.1
    go (inr tells) = absurd (clash (sym tells.0 ∙ e))

nothing_any : (test : Want → Bool) (ys : List Want) → length ys ≡ 0 → list_any test ys ≡ false
nothing_any test [] e = refl
nothing_any test (y ∷ ys) e = absurd (omega (arith, e))

no_flush : (k g gap step t now : ℕ) → step ≤ gap → 2 * (gap + step) ≤ g → 2 * now ≤ 2 * (t + (2 * k + 4) * g + 2 * step) + 5 * g + 2 * (gap + step)
    → 4 * now ≤ 4 * t + (16 * k + 35) * g
no_flush k g gap step t now often twice le =
    let a : (2 * k + 4) * g ≡ 2 * (k * g) + 4 * g = grind arith in
    let b : (16 * k + 35) * g ≡ 16 * (k * g) + 35 * g = grind arith in
    omega (arith, often, twice, le, a, b)

still_backs : (k g gap step t now flush ends : ℕ) → step ≤ gap → 2 * (gap + step) ≤ g → 2 * flush ≤ 2 * (t + (2 * k + 4) * g + 2 * step) + 5 * g + 2 * (gap + step)
    → ends ≤ flush + k * g → now < ends + step → 4 * now ≤ 4 * t + (16 * k + 35) * g
still_backs k g gap step t now flush ends often twice le by soon =
    let a : (2 * k + 4) * g ≡ 2 * (k * g) + 4 * g = grind arith in
    let b : (16 * k + 35) * g ≡ 16 * (k * g) + 35 * g = grind arith in
    omega (arith, often, twice, le, by, soon, a, b)

at_once : (k g gap step t now : ℕ) → step ≤ gap → 2 * (gap + step) ≤ g → now < t + 3 * step → 4 * now ≤ 4 * t + (16 * k + 35) * g
at_once k g gap step t now often twice lt =
    let b : (16 * k + 35) * g ≡ 16 * (k * g) + 35 * g = grind arith in
    omega (arith, often, twice, lt, b)

pub early_end : (p : Settings) (s : SenderState) → IsPaced p s → (ph : Phase) (now : ℕ) (w : World) → Watch p ph now w → repairable p w.sender ≡ 0
    → 4 * now ≤ 4 * ph.began + (16 * p.k + 35) * p.grtt
early_end p s pace ph now w h nothing = go ph.first h.asking
  where
    few : 2 * (p.gap + p.step) ≤ p.grtt
    few = paced p s pace

    Ends : Type 0
    Ends = 4 * now ≤ 4 * ph.began + (16 * p.k + 35) * p.grtt

    in_time : ℕ → Bool
    in_time flush = nat_le (2 * flush) (2 * most_held p ph + 5 * p.grtt + 2 * (p.gap + p.step))

    known : Bool
    known = each_member (knows_flush w.sender) w

    none_behind : Bool
    none_behind = each_member (λ r. not (is_behind w.sender r)) w

    waits : Option ℕ → Bool
    waits first = elim first [
      | Some flush ↦ nat_le (most_held p ph) flush && nat_le flush now && nat_le (2 * flush) (2 * most_held p ph + 5 * p.grtt + 2 * (p.gap + p.step))
          && each_member (knows_flush w.sender) w && not (each_member (λ r. not (is_behind w.sender r)) w) && each_member (is_waited p flush w.sender) w
          && closes_soon p flush now w.sender
      | None ↦ flushed_before p ph w.sender && sends_soon p ph w.sender && waits_to_send p ph now w.sender
    ]

    none_asked : (r : ReceiverState) → is_asked p w.sender r ≡ false
    none_asked r = nothing_any (λ (y : Want). not (has p w.sender r y) && asks_open p w.sender y) (in_window p w.sender) nothing

    false_of : (b : Bool) → not b ≡ true → b ≡ false
    false_of true e = absurd (clash e)
    false_of false e = refl

    -- a member that is behind backs off
    backs : (flush : ℕ) (r : ReceiverState) → (not (has_member r.node w.sender) || not (is_behind w.sender r)) ≡ false
        → (not (has_member r.node w.sender) || is_waited p flush w.sender r) ≡ true
        → (elim r.knows.backoff as (λ _. Bool) [ Some ends ↦ nat_le ends (flush + p.k * p.grtt) | None ↦ false ]) ≡ true
    backs flush r behind waited =
        pick (has_member r.node w.sender) (is_behind w.sender r) (is_asked p w.sender r)
        (elim r.knows.backoff as (λ _. Bool) [ Some ends ↦ nat_le ends (flush + p.k * p.grtt) | None ↦ false ]) behind (none_asked r) waited
      where
        pick : (m b a x : Bool) → (not m || not b) ≡ false → a ≡ false → (not m || (not b || a || x)) ≡ true → x ≡ true
        pick true true true x e f g = absurd (clash (sym f))
        pick true true false x e f g = g
        pick true false a x e f g = absurd (clash (sym e))
        pick false b a x e f g = absurd (clash (sym e))

    with_flush : (flush : ℕ) → 2 * flush ≤ 2 * most_held p ph + 5 * p.grtt + 2 * (p.gap + p.step) → none_behind ≡ false
        → each_member (is_waited p flush w.sender) w ≡ true → Ends
    with_flush flush le some waited = by (cases_lt now (ph.began + 3 * p.step))
      where
        found : (r : ReceiverState) × In r w.receivers × ((not (has_member r.node w.sender) || not (is_behind w.sender r)) ≡ false)
        found = of_not_all (λ (r : ReceiverState). not (has_member r.node w.sender) || not (is_behind w.sender r)) w.receivers some

        backed : (elim (found.0).knows.backoff as (λ _. Bool) [ Some ends ↦ nat_le ends (flush + p.k * p.grtt) | None ↦ false ]) ≡ true
        backed = backs flush found.0 found.2
            (of_all (λ (r : ReceiverState). not (has_member r.node w.sender) || is_waited p flush w.sender r) found.0 w.receivers waited found.1)

        late : ph.began + 3 * p.step ≤ now → list_all (has_ticked p now w.sender) w.receivers ≡ true
        late far = second (nat_lt now (ph.began + 3 * p.step)) _ (not_lt far) h.ticked
          where
            second : (a b : Bool) → a ≡ false → (a || b) ≡ true → b ≡ true
            second true b is e = absurd (clash (sym is))
            second false b is e = e

            not_lt : ph.began + 3 * p.step ≤ now → nat_lt now (ph.began + 3 * p.step) ≡ false
            not_lt far = by (nat_lt now (ph.began + 3 * p.step)) refl
              where
                by : (c : Bool) → nat_lt now (ph.began + 3 * p.step) ≡ c → c ≡ false
                by true e = absurd (let lt = (Decides-ltb now (ph.began + 3 * p.step)).0 e in omega (arith, lt, far))
                by false e = refl

        of_backoff : (o : Option ℕ) → (elim o as (λ _. Bool) [ Some ends ↦ nat_le ends (flush + p.k * p.grtt) | None ↦ false ]) ≡ true
            → (elim o as (λ _. Bool) [ Some ends ↦ nat_lt now ends || flushed_at now w.sender && nat_lt now (ends + p.step) | None ↦ true ]) ≡ true → Ends
        of_backoff None e f = absurd (clash e)
        of_backoff (Some ends) e f = ran (nat_lt now ends) (flushed_at now w.sender) (nat_lt now (ends + p.step)) refl refl f
          where
            soon : now < ends + p.step → Ends
            soon lt = still_backs p.k p.grtt p.gap p.step ph.began now flush ends pace.often few le (le_of ends (flush + p.k * p.grtt) e) lt

            ran : (a b c : Bool) → nat_lt now ends ≡ a → nat_lt now (ends + p.step) ≡ c → (a || b && c) ≡ true → Ends
            ran true b c i j k = soon (let lt = (Decides-ltb now ends).0 i in omega (arith, lt))
            ran false true true i j k = soon ((Decides-ltb now (ends + p.step)).0 j)
            ran false true false i j k = absurd (clash k)
            ran false false c i j k = absurd (clash k)

        by : (now < ph.began + 3 * p.step) ⊎ (ph.began + 3 * p.step ≤ now) → Ends
        by (inl lt) = at_once p.k p.grtt p.gap p.step ph.began now pace.often few lt
        by (inr far) =
            of_backoff (found.0).knows.backoff backed
            (both (owes_nothing found.0) _ (of_all (has_ticked p now w.sender) found.0 w.receivers (late far) found.1)).1

    go : (first : Option ℕ) → waits first ≡ true → Ends
    go None e =
        let b = before_is p ph now w.sender e in
        no_flush p.k p.grtt p.gap p.step ph.began now pace.often few
        (not_late p.grtt p.gap p.step (most_held p ph) now ph.since w.sender.next_send (to_send p w.sender * (p.gap + p.step)) pace.often few b.soon b.waits)
    go (Some flush) e =
        let soonest = both (nat_le (most_held p ph) flush && nat_le flush now && in_time flush && known && not none_behind && each_member (is_waited p flush w.sender) w)
        (closes_soon p flush now w.sender) e in
        let fourth = both (nat_le (most_held p ph) flush && nat_le flush now && in_time flush && known && not none_behind) (each_member (is_waited p flush w.sender) w) soonest.0 in
        let third = both (nat_le (most_held p ph) flush && nat_le flush now && in_time flush && known) (not none_behind) fourth.0 in
        let second = both (nat_le (most_held p ph) flush && nat_le flush now && in_time flush) known third.0 in
        let first = both (nat_le (most_held p ph) flush && nat_le flush now) (in_time flush) second.0 in
        with_flush flush (le_of (2 * flush) (2 * most_held p ph + 5 * p.grtt + 2 * (p.gap + p.step)) first.1) (false_of none_behind third.1) fourth.1
