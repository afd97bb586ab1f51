-- Over a turn of a phase after its flush that leaves no less, and that keeps the oldest watermark, everything that is waited for is waited for still.
use Rattle.std.proofs.Common.{◌≡◌, ℕ, ◌+◌, ◌*◌, ◌<◌, ◌≤◌, List, Bool, true, false, Option, None, Some, refl, sym, ap, ◌∙◌, subst, arith, ◌⊎◌, inl, inr}
use Rattle.std.specs.Prelude.{◌==◌, ◌&&◌, ◌||◌, not, nat_lt, nat_le, IfSome}
use Rattle.std.specs.List.{list_all}
use Rattle.std.proofs.lemmas.Bool.{cases_lt}
use Rattle.std.proofs.lemmas.Bool.Decides.{Decides-ltb}
use Rattle.norm_base.specs.Settings.{Settings}
use Rattle.fec_plan.specs.Points.{position_before}
use Rattle.fec_plan.specs.declared.position.Position.{Position}
use Rattle.norm_receive_rules.specs.ReceiverState.{ReceiverState}
use Rattle.norm_send_rules.specs.Repairable.{repairable}
use Rattle.norm_send_rules.specs.SenderState.{SenderState, Instance, Round, Watermark}
use Rattle.norm_send_rules.specs.Ticking.{ticked}
use Rattle.norm_send_rules.specs.Watermarks.{oldest, has_member}
use Rattle.norm_safety.specs.Events.{Event}
use Rattle.norm_safety.specs.Tail.{course_from, tail_turn}
use Rattle.norm_safety.specs.World.{World, receiver_at}
use Rattle.norm_safety.specs.WorldLaws.{nodes_of}
use Rattle.norm_safety.specs.WorldStep.{run}
use Rattle.norm_safety.proofs.EntryLemmas.{clash}
use Rattle.norm_safety.proofs.FreshRun.{Differ, receivers_rise}
use Rattle.norm_safety.proofs.WorldLemmas.{world_laws}
use Rattle.norm_recovery.specs.Flush.{KnowsFlush}
use Rattle.norm_recovery.specs.Watch.{Phase, each_member, is_asked, most_held, has_ticked, is_behind, is_waited, closes_soon, knows_flush, is_spent}
use Rattle.norm_recovery.proofs.AskAfter.{asked_after, none_closes, waits_after}
use Rattle.norm_recovery.proofs.AsksOn.{tick_round}
use Rattle.norm_recovery.proofs.BeforeFlush.{le_so, and_so, either, or_left, or_right}
use Rattle.norm_recovery.proofs.CleanSteps.{both}
use Rattle.norm_recovery.proofs.FlushTurn.{Known, known_on, known_drawn, known_nodes}
use Rattle.norm_recovery.proofs.LeftNever.{all_by_node}
use Rattle.norm_recovery.proofs.PassTurn.{is_other}
use Rattle.norm_recovery.proofs.PhaseTurn.{InPhase}
use Rattle.norm_recovery.proofs.TailCourses.{begins_calm}
use Rattle.norm_recovery.proofs.TailWalk.{turn_keeps}
use Rattle.norm_recovery.proofs.WatchFlushes.{le_of}
use Rattle.norm_recovery.proofs.WatchSpent.{was_there, each_after}
use Rattle.norm_recovery.proofs.WatchTicked.{watch_ticks}
use Rattle.norm_recovery.proofs.WatchTurn.{goes, RoundGoes, Stays as RoundStays, Opens, closing_of}
use Rattle.norm_recovery.proofs.WaitsAfter.{of_member, of_receiver, known_of, known_so, behind_of, not_so, false_so, inside_so, asks_some, current_is, is_then, member_then, point_same, needs, late_clean, ends_late}

-- ---- what holds after the flush

pub record AfterFlush (p : Settings) (ph : Phase) (flush now : ℕ) (w : World) : Type 0 where
  pub held : most_held p ph ≤ flush
  pub gone : flush ≤ now
  pub in_time : 2 * flush ≤ 2 * most_held p ph + 5 * p.grtt + 2 * (p.gap + p.step)
  pub known : each_member (knows_flush w.sender) w ≡ true
  pub some : each_member (λ r. not (is_behind w.sender r)) w ≡ false
  pub waited : each_member (is_waited p flush w.sender) w ≡ true
  pub soon : closes_soon p flush now w.sender ≡ true

abbrev waits_for : Settings → Phase → ℕ → ℕ → World → Bool
waits_for p ph flush now w =
    nat_le (most_held p ph) flush && nat_le flush now && nat_le (2 * flush) (2 * most_held p ph + 5 * p.grtt + 2 * (p.gap + p.step))
    && each_member (knows_flush w.sender) w && not (each_member (λ r. not (is_behind w.sender r)) w) && each_member (is_waited p flush w.sender) w
    && closes_soon p flush now w.sender

pub after_is : (p : Settings) (ph : Phase) (flush now : ℕ) (w : World) → waits_for p ph flush now w ≡ true → AfterFlush p ph flush now w
after_is p ph flush now w e = record {
  held = le_of (most_held p ph) flush six.0;
  gone = le_of flush now six.1;
  in_time = le_of (2 * flush) (2 * most_held p ph + 5 * p.grtt + 2 * (p.gap + p.step)) five.1;
  known = four.1;
  some = not_so (each_member (λ r. not (is_behind w.sender r)) w) three.1;
  waited = two.1;
  soon = one.1;
}
  where
    a : Bool
    a = nat_le (most_held p ph) flush

    b : Bool
    b = nat_le flush now

    c : Bool
    c = nat_le (2 * flush) (2 * most_held p ph + 5 * p.grtt + 2 * (p.gap + p.step))

    d : Bool
    d = each_member (knows_flush w.sender) w

    f : Bool
    f = not (each_member (λ r. not (is_behind w.sender r)) w)

    g : Bool
    g = each_member (is_waited p flush w.sender) w

    one : ((a && b && c && d && f && g) ≡ true) × (closes_soon p flush now w.sender ≡ true)
    one = both (a && b && c && d && f && g) (closes_soon p flush now w.sender) e

    two : ((a && b && c && d && f) ≡ true) × (g ≡ true)
    two = both (a && b && c && d && f) g one.0

    three : ((a && b && c && d) ≡ true) × (f ≡ true)
    three = both (a && b && c && d) f two.0

    four : ((a && b && c) ≡ true) × (d ≡ true)
    four = both (a && b && c) d three.0

    five : ((a && b) ≡ true) × (c ≡ true)
    five = both (a && b) c four.0

    six : (a ≡ true) × (b ≡ true)
    six = both a b five.0

pub after_so : (p : Settings) (ph : Phase) (flush now : ℕ) (w : World) → AfterFlush p ph flush now w → waits_for p ph flush now w ≡ true
after_so p ph flush now w h =
    and_so (a && b && c && d && f && g) (closes_soon p flush now w.sender)
    (and_so (a && b && c && d && f) g
    (and_so (a && b && c && d) f
    (and_so (a && b && c) d
    (and_so (a && b) c (and_so a b (le_so (most_held p ph) flush h.held) (le_so flush now h.gone))
    (le_so (2 * flush) (2 * most_held p ph + 5 * p.grtt + 2 * (p.gap + p.step)) h.in_time)) h.known) (ap not h.some)) h.waited) h.soon
  where
    a : Bool
    a = nat_le (most_held p ph) flush

    b : Bool
    b = nat_le flush now

    c : Bool
    c = nat_le (2 * flush) (2 * most_held p ph + 5 * p.grtt + 2 * (p.gap + p.step))

    d : Bool
    d = each_member (knows_flush w.sender) w

    f : Bool
    f = not (each_member (λ r. not (is_behind w.sender r)) w)

    g : Bool
    g = each_member (is_waited p flush w.sender) w

-- a datagram and a turn, twice, take no more than a round trip
pub few_of : (p : Settings) (events : List Event) (last : ℕ) (ph : Phase) → InPhase p events last ph → 2 * (p.gap + p.step) ≤ p.grtt
few_of p events last ph h = go (repairable p (run p events).sender) h.follows.twice
  where
    go : (m : ℕ) → 2 * (m + 1) * (p.gap + p.step) ≤ p.grtt → 2 * (p.gap + p.step) ≤ p.grtt
    go m le =
        let more : 2 * (m + 1) * (p.gap + p.step) ≡ 2 * (m * (p.gap + p.step)) + 2 * (p.gap + p.step) = grind arith in
        omega (arith, le, more)

-- a back-off that ends by a moment
pub backs_by : (by : ℕ) (o : Option ℕ) → (elim o as (λ _. Bool) [ Some m ↦ nat_le m by | None ↦ false ]) ≡ true → (m : ℕ) × (o ≡ Some m) × (m ≤ by)
backs_by by None e = absurd (clash e)
backs_by by (Some m) e = (m, refl, le_of m by e)

pub any_of : (a b c : Bool) → (a ≡ true) ⊎ ((b || c) ≡ true) → (a || b || c) ≡ true
any_of true b c e = refl
any_of false b c (inl e) = absurd (clash e)
any_of false b c (inr e) = e

pub two_of : (a b c : Bool) → a ≡ false → (a || b || c) ≡ true → (b ≡ true) ⊎ (c ≡ true)
two_of true b c e f = absurd (clash (sym e))
two_of false b c e f = either b c f

-- ---- the turn

module _ (p : Settings) (events : List Event) (last : ℕ) (draws : ℕ → ℕ) (ph : Phase) (h : InPhase p events last ph) (spent : is_spent p (run p events) ≡ true)
    (w : Watermark) (old : oldest (run p events).sender ≡ Some w)
    (kept : oldest (tail_turn p draws (last + p.step) (course_from (run p events))).world.sender ≡ Some w)
    (flush : ℕ) (b : AfterFlush p ph flush last (run p events)) where
  abbrev s : SenderState
  s = (run p events).sender

  abbrev after : World
  after = (tail_turn p draws (last + p.step) (course_from (run p events))).world

  abbrev u : SenderState
  u = (tail_turn p draws (last + p.step) (course_from (run p events))).world.sender

  -- how late the turn is
  far : ph.began + 3 * p.step ≤ last
  far =
      let a : (2 * p.k + 4) * p.grtt ≡ 2 * (p.k * p.grtt) + 4 * p.grtt = grind arith in
      let held = b.held in
      let gone = b.gone in
      let few = few_of p events last ph h in
      omega (arith, a, held, gone, few)

  late : (ends : ℕ) → last < ends + p.step → ph.began + (p.k + 2) * p.grtt + 1 ≤ ends
  late ends lt =
      let a : (2 * p.k + 4) * p.grtt ≡ 2 * (p.k * p.grtt) + 4 * p.grtt = grind arith in
      let d : (p.k + 2) * p.grtt ≡ p.k * p.grtt + 2 * p.grtt = grind arith in
      let held = b.held in
      let gone = b.gone in
      omega (arith, a, d, held, gone, lt)

  ticked_before : list_all (has_ticked p last (run p events).sender) (run p events).receivers ≡ true
  ticked_before = go (either (nat_lt last (ph.began + 3 * p.step)) (list_all (has_ticked p last s) (run p events).receivers) h.watch.ticked)
    where
      go : (nat_lt last (ph.began + 3 * p.step) ≡ true) ⊎ (list_all (has_ticked p last s) (run p events).receivers ≡ true)
          → list_all (has_ticked p last s) (run p events).receivers ≡ true
      go (inl lt) = absurd (let less = (Decides-ltb last (ph.began + 3 * p.step)).0 lt in let le = far in omega (arith, less, le))
      go (inr e) = e

  ticked_after : list_all (has_ticked p (last + p.step) u) after.receivers ≡ true
  ticked_after =
      go (either (nat_lt (last + p.step) (ph.began + 3 * p.step)) (list_all (has_ticked p (last + p.step) u) after.receivers)
      (watch_ticks.ticked p events last draws h.follows h.may h.goes_on ph h.watch))
    where
      go : (nat_lt (last + p.step) (ph.began + 3 * p.step) ≡ true) ⊎ (list_all (has_ticked p (last + p.step) u) after.receivers ≡ true)
          → list_all (has_ticked p (last + p.step) u) after.receivers ≡ true
      go (inl lt) = absurd (let less = (Decides-ltb (last + p.step) (ph.began + 3 * p.step)).0 lt in let le = far in omega (arith, less, le))
      go (inr e) = e

  -- ---- one member

  module _ (node : ℕ) (other : (node == p.sender) ≡ false) (member : has_member node (run p events).sender ≡ true) (r t : ReceiverState)
      (found : receiver_at (run p events) node ≡ Some r) (is : receiver_at (tail_turn p draws (last + p.step) (course_from (run p events))).world node ≡ Some t) where
    knew : KnowsFlush r (run p events).sender.current.id w.at
    knew = known_of s w r old (of_member (knows_flush s) (run p events) b.known node r found member)

    knows : KnowsFlush t (run p events).sender.current.id w.at
    knows =
        (turn_keeps p draws (Known p h.follows.profile events h.may node other w.at) (known_nodes p h.follows.profile events h.may node other w.at)
        (known_on p h.follows.profile events h.may node other w.at) (known_drawn p h.follows.profile events h.may node other w.at) (last + p.step)
        (course_from (run p events)) (record {
          calm = begins_calm p (run p events);
          knows = λ x there. subst (λ (y : ReceiverState). KnowsFlush y s.current.id w.at) (same_some r x (sym found ∙ there)) knew;
        })).knows t is
      where
        same_some : (a c : ReceiverState) → Some a ≡ Some c → a ≡ c
        same_some a c e = cc

    -- it is behind as before
    behind_same : is_behind u t ≡ is_behind (run p events).sender r
    behind_same =
        behind_of u w t kept
        ∙ ap (λ (at : Position). not (position_before w.at at))
        (point_same p events last draws ph h spent w old kept node other member r t found is knows (inside_so r s.current.id knew.inside))
        ∙ sym (behind_of s w r old)

    early : is_behind u t ≡ true → position_before w.at t.holding.point ≡ false
    early e = not_so (position_before w.at t.holding.point) (sym (behind_of u w t kept) ∙ e)

    -- it was asked for, or it backed off
    was : is_behind u t ≡ true → (is_asked p (run p events).sender r ≡ true) ⊎ ((ends : ℕ) × (r.knows.backoff ≡ Some ends) × (ends ≤ flush + p.k * p.grtt))
    was e =
        go (two_of (not (is_behind s r)) (is_asked p s r) (elim r.knows.backoff as (λ _. Bool) [ Some m ↦ nat_le m (flush + p.k * p.grtt) | None ↦ false ])
        (ap not (sym behind_same ∙ e)) (of_member (is_waited p flush s) (run p events) b.waited node r found member))
      where
        go : (is_asked p (run p events).sender r ≡ true)
            ⊎ ((elim r.knows.backoff as (λ _. Bool) [ Some m ↦ nat_le m (flush + p.k * p.grtt) | None ↦ false ]) ≡ true)
            → (is_asked p (run p events).sender r ≡ true) ⊎ ((ends : ℕ) × (r.knows.backoff ≡ Some ends) × (ends ≤ flush + p.k * p.grtt))
        go (inl asked) = inl asked
        go (inr backs) = inr (backs_by (flush + p.k * p.grtt) r.knows.backoff backs)

    was_late : (ends : ℕ) → r.knows.backoff ≡ Some ends → last < ends + p.step
    was_late ends backs =
        ends_late p events last draws ph h spent w old kept last s r ends (of_receiver (has_ticked p last s) (run p events) ticked_before node r found) backs

    is_late : (ends : ℕ) → t.knows.backoff ≡ Some ends → last + p.step < ends + p.step
    is_late ends backs =
        ends_late p events last draws ph h spent w old kept (last + p.step) u t ends (of_receiver (has_ticked p (last + p.step) u) after ticked_after node t is) backs

    waited_so : is_behind u t ≡ true → (is_asked p u t || elim t.knows.backoff [ Some m ↦ nat_le m (flush + p.k * p.grtt) | None ↦ false ]) ≡ true
    waited_so e = go (was e)
      where
        go : (is_asked p (run p events).sender r ≡ true) ⊎ ((ends : ℕ) × (r.knows.backoff ≡ Some ends) × (ends ≤ flush + p.k * p.grtt))
            → (is_asked p u t || elim t.knows.backoff [ Some m ↦ nat_le m (flush + p.k * p.grtt) | None ↦ false ]) ≡ true
        go (inl asked) =
            or_left (is_asked p u t) (elim t.knows.backoff as (λ _. Bool) [ Some m ↦ nat_le m (flush + p.k * p.grtt) | None ↦ false ])
            (asked_after p events last draws ph h spent node other member r t found is asked)
        go (inr (ends, backs, le)) =
            waits_after p events last draws ph h spent node other member r t found is ends (flush + p.k * p.grtt) backs le
            (late_clean p events last draws ph h spent w old kept node other member r t found is knows ends backs (late ends (was_late ends backs)))
            (needs p events last draws ph h spent w old kept node other member r t found is knows (early e))

    waited : is_waited p flush u t ≡ true
    waited = go (is_behind u t) refl
      where
        backs : Bool
        backs = elim t.knows.backoff [ Some m ↦ nat_le m (flush + p.k * p.grtt) | None ↦ false ]

        go : (c : Bool) → is_behind u t ≡ c → is_waited p flush u t ≡ true
        go false e = any_of (not (is_behind u t)) (is_asked p u t) backs (inl (ap not e))
        go true e = any_of (not (is_behind u t)) (is_asked p u t) backs (inr (waited_so e))

    -- ---- the round that is open

    abbrev soon_by : Option ℕ → Bool
    soon_by found = elim found [ Some closes ↦ nat_le closes (flush + (2 * p.k + 1) * p.grtt + 3 * p.step) | None ↦ false ]

    soon_is : (o : Option Round) → (elim o as (λ _. Bool) [ Some x ↦ nat_le x.closes (flush + (2 * p.k + 1) * p.grtt + 3 * p.step) | None ↦ false ])
        ≡ soon_by (closing_of o)
    soon_is None = refl
    soon_is (Some x) = refl

    -- late back-offs ended
    closes : is_behind u t ≡ true → flush + p.k * p.grtt + 2 * p.step ≤ last + p.step
        → (elim u.round as (λ _. Bool) [ Some x ↦ nat_le x.closes (flush + (2 * p.k + 1) * p.grtt + 3 * p.step) | None ↦ false ]) ≡ true
    closes e passed = go (either (is_asked p u t) (elim t.knows.backoff as (λ _. Bool) [ Some m ↦ nat_le m (flush + p.k * p.grtt) | None ↦ false ]) (waited_so e))
      where
        wide : (2 * p.k + 1) * p.grtt ≡ p.k * p.grtt + (p.k + 1) * p.grtt
        wide = grind arith

        -- it opened lately
        by_time : last < flush + p.k * p.grtt + 2 * p.step → (x : Round) → u.round ≡ Some x
            → (elim u.round as (λ _. Bool) [ Some x ↦ nat_le x.closes (flush + (2 * p.k + 1) * p.grtt + 3 * p.step) | None ↦ false ]) ≡ true
        by_time lt x open_then =
            let timely : x.closes ≤ last + p.step + (p.k + 1) * p.grtt =
            subst (λ (o : Option Round). IfSome o (λ (y : Round). y.closes ≤ last + p.step + (p.k + 1) * p.grtt)) open_then (goes p events last draws h.follows 0).timely.sender.round in
            let all = wide in
            ap (λ (o : Option Round). elim o as (λ _. Bool) [ Some x ↦ nat_le x.closes (flush + (2 * p.k + 1) * p.grtt + 3 * p.step) | None ↦ false ]) open_then
            ∙ le_so x.closes (flush + (2 * p.k + 1) * p.grtt + 3 * p.step) (omega (arith, timely, all, lt))

        -- or it is the one that was open
        by_round : flush + p.k * p.grtt + 2 * p.step ≤ last → is_asked p (run p events).sender r ≡ true
            → (elim u.round as (λ _. Bool) [ Some x ↦ nat_le x.closes (flush + (2 * p.k + 1) * p.grtt + 3 * p.step) | None ↦ false ]) ≡ true
        by_round le asked =
            soon_is u.round ∙ same_round (goes p events last draws h.follows 0).round ∙ sym (soon_is s.round)
            ∙ was_soon (either (nat_lt last (flush + p.k * p.grtt + 2 * p.step))
            (elim s.round as (λ _. Bool) [ Some x ↦ nat_le x.closes (flush + (2 * p.k + 1) * p.grtt + 3 * p.step) | None ↦ false ]) b.soon)
          where
            was_soon : (nat_lt last (flush + p.k * p.grtt + 2 * p.step) ≡ true)
                ⊎ ((elim s.round as (λ _. Bool) [ Some x ↦ nat_le x.closes (flush + (2 * p.k + 1) * p.grtt + 3 * p.step) | None ↦ false ]) ≡ true)
                → (elim s.round as (λ _. Bool) [ Some x ↦ nat_le x.closes (flush + (2 * p.k + 1) * p.grtt + 3 * p.step) | None ↦ false ]) ≡ true
            was_soon (inl lt) = absurd (let less = (Decides-ltb last (flush + p.k * p.grtt + 2 * p.step)).0 lt in omega (arith, less, le))
            was_soon (inr f) = f

            at_tick : (ticked p s (last + p.step)).0.round ≡ s.round
            at_tick = tick_round p s (last + p.step)
                ∙ ap (λ (x : SenderState). x.round) (none_closes p events last draws ph h spent node other member r t found is asked)

            same_round : RoundGoes p (last + p.step) (ticked p s (last + p.step)).0.round u.round → soon_by (closing_of u.round) ≡ soon_by (closing_of s.round)
            same_round (RoundStays f) = ap soon_by (f ∙ ap closing_of at_tick)
            same_round (Opens none f) = absurd (no_round (asks_some p s r asked))
              where
                no_round : (x : Round) × (s.round ≡ Some x) → ⊥
                no_round (x, open_then) = clash_some (sym none ∙ ap closing_of (at_tick ∙ open_then))
                  where
                    clash_some : None ≡ Some x.closes → ⊥
                    clash_some g = cc

        by_case : (last < flush + p.k * p.grtt + 2 * p.step) ⊎ (flush + p.k * p.grtt + 2 * p.step ≤ last) → is_asked p u t ≡ true
            → (elim u.round as (λ _. Bool) [ Some x ↦ nat_le x.closes (flush + (2 * p.k + 1) * p.grtt + 3 * p.step) | None ↦ false ]) ≡ true
        by_case (inl lt) asked = let x = asks_some p u t asked in by_time lt x.0 x.1
        by_case (inr le) asked = go (was e)
          where
            go : (is_asked p (run p events).sender r ≡ true) ⊎ ((ends : ℕ) × (r.knows.backoff ≡ Some ends) × (ends ≤ flush + p.k * p.grtt))
                → (elim u.round as (λ _. Bool) [ Some x ↦ nat_le x.closes (flush + (2 * p.k + 1) * p.grtt + 3 * p.step) | None ↦ false ]) ≡ true
            go (inl before) = by_round le before
            go (inr (ends, backs, short)) = absurd (let lt = was_late ends backs in omega (arith, lt, short, le))

        go : (is_asked p u t ≡ true) ⊎ ((elim t.knows.backoff as (λ _. Bool) [ Some m ↦ nat_le m (flush + p.k * p.grtt) | None ↦ false ]) ≡ true)
            → (elim u.round as (λ _. Bool) [ Some x ↦ nat_le x.closes (flush + (2 * p.k + 1) * p.grtt + 3 * p.step) | None ↦ false ]) ≡ true
        go (inl asked) = by_case (cases_lt last (flush + p.k * p.grtt + 2 * p.step)) asked
        go (inr backs) =
            let ends = backs_by (flush + p.k * p.grtt) t.knows.backoff backs in
            absurd (let lt = is_late ends.0 ends.1 in let le = ends.2 in omega (arith, lt, le, passed))

  -- ---- all members

  -- one of all after the turn
  of_each : (test : ReceiverState → Bool)
      → ((node : ℕ) → (node == p.sender) ≡ false → has_member node (run p events).sender ≡ true → (r t : ReceiverState) → receiver_at (run p events) node ≡ Some r
      → receiver_at after node ≡ Some t → test t ≡ true)
      → each_member test after ≡ true
  of_each test each =
      each_after p events last draws h.follows h.may h.no_less test
      (λ x there member. let was = was_there p events last draws h.follows h.may h.no_less x there in each x.node was.other member was.r x was.found there)

  some_after : each_member (λ x. not (is_behind u x)) after ≡ false
  some_after = false_so (each_member (λ x. not (is_behind u x)) after) (λ all. clash (sym b.some ∙ each all))
    where
      differ : Differ (nodes_of (run p events))
      differ = subst Differ (sym (world_laws.nodes p events)) (receivers_rise p p.receivers).1

      each : each_member (λ x. not (is_behind u x)) after ≡ true → each_member (λ x. not (is_behind s x)) (run p events) ≡ true
      each all =
          all_by_node (λ (x : ReceiverState). not (has_member x.node s) || not (is_behind s x)) (run p events) differ
          (λ x there. one x there (has_member x.node s) refl)
        where
          one : (x : ReceiverState) → receiver_at (run p events) x.node ≡ Some x → (c : Bool) → has_member x.node s ≡ c → (not c || not (is_behind s x)) ≡ true
          one x there false member = refl
          one x there true member =
              let then = is_then p events last draws ph h spent w old kept x.node x there in
              let other = is_other p (run p events) (world_laws.nodes p events) x.node x there in
              ap not (sym (behind_same x.node other member x then.0 there then.1))
              ∙ of_member (λ y. not (is_behind u y)) after all x.node then.0 then.1 (member_then p events last draws ph h spent w old kept x.node member)

  pub after_turn : AfterFlush p ph flush (last + p.step) (tail_turn p draws (last + p.step) (course_from (run p events))).world
  after_turn = record {
    held = b.held;
    gone = (let le = b.gone in omega (arith, le));
    in_time = b.in_time;
    known = of_each (knows_flush u) (λ node other member r t found is. known_so u w t kept
        (subst (λ (i : Instance). KnowsFlush t i.id w.at) (sym (current_is p events last draws ph h spent w old kept)) (knows node other member r t found is)));
    some = some_after;
    waited = of_each (is_waited p flush u) (λ node other member r t found is. waited node other member r t found is);
    soon = soon (cases_lt (last + p.step) (flush + p.k * p.grtt + 2 * p.step));
  }
    where
      closed : Bool
      closed = elim u.round [ Some x ↦ nat_le x.closes (flush + (2 * p.k + 1) * p.grtt + 3 * p.step) | None ↦ false ]

      by : flush + p.k * p.grtt + 2 * p.step ≤ last + p.step → (c : Bool) → closed ≡ c → c ≡ true
      by passed true e = refl
      by passed false e = absurd (clash (sym some_after ∙ of_each (λ x. not (is_behind u x)) (λ node other member r t found is. none node other member r t found is (is_behind u t) refl)))
        where
          none : (node : ℕ) → (node == p.sender) ≡ false → has_member node s ≡ true → (r t : ReceiverState) → receiver_at (run p events) node ≡ Some r
              → receiver_at after node ≡ Some t → (c : Bool) → is_behind u t ≡ c → not c ≡ true
          none node other member r t found is false f = refl
          none node other member r t found is true f = absurd (clash (sym e ∙ closes node other member r t found is f passed))

      soon : (last + p.step < flush + p.k * p.grtt + 2 * p.step) ⊎ (flush + p.k * p.grtt + 2 * p.step ≤ last + p.step) → closes_soon p flush (last + p.step) u ≡ true
      soon (inl lt) = or_left (nat_lt (last + p.step) (flush + p.k * p.grtt + 2 * p.step)) closed ((Decides-ltb (last + p.step) (flush + p.k * p.grtt + 2 * p.step)).1 lt)
      soon (inr le) = or_right (nat_lt (last + p.step) (flush + p.k * p.grtt + 2 * p.step)) closed (by le closed refl)
