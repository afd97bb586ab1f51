-- Over a turn of a phase before its flush: the flush goes as soon as the sender may send, and so in time.
use Rattle.std.proofs.Common.{◌≡◌, ℕ, suc, ◌+◌, ◌*◌, ◌<◌, ◌≤◌, List, length, Bool, true, false, Option, None, Some, refl, sym, ap, ◌∙◌, subst, arith, ◌⊎◌, inl, inr}
use Rattle.std.specs.Prelude.{◌-◌, ◌==◌, ◌&&◌, not, ◌||◌, nat_lt, nat_le, IfSome}
use Rattle.std.proofs.Math.Nat.{min-le_left, mul-le-mul_right, suc-mul}
use Rattle.std.proofs.lemmas.Bool.{cases_lt}
use Rattle.std.proofs.lemmas.Bool.Decides.{Decides-eqb, Decides-ltb}
use Rattle.norm_base.specs.Settings.{Settings}
use Rattle.norm_ext.specs.Written.{Written}
use Rattle.norm_order.specs.Moments.{moment_after}
use Rattle.norm_send_rules.specs.Closing.{round_closed}
use Rattle.norm_send_rules.specs.Flushing.{most_flushes, may_flush, flushes_for}
use Rattle.norm_send_rules.specs.Repairable.{repairable}
use Rattle.norm_send_rules.specs.SenderState.{SenderState, Round, Watermark}
use Rattle.norm_send_rules.specs.Ticking.{closed_where_due, ticked}
use Rattle.norm_send_rules.specs.Watermarks.{oldest}
use Rattle.norm_send_rules.proofs.StepLemmas.{due_holds}
use Rattle.norm_safety.specs.Events.{Event, Ticked}
use Rattle.norm_safety.specs.Recovery.{IsPaced}
use Rattle.norm_safety.specs.Tail.{Course, course_from, comes, sender_ticks, tail_turn}
use Rattle.norm_safety.specs.WorldStep.{run}
use Rattle.norm_safety.proofs.EntryLemmas.{clash}
use Rattle.norm_safety.proofs.WantRunLemmas.{wants_hold_in_runs}
use Rattle.norm_laws.proofs.LaterTailLemmas.{Quiet}
use Rattle.norm_recovery.specs.RunsOut.{RunsOut, all_new, one_if, to_send, last_closing}
use Rattle.norm_recovery.specs.Watch.{Phase, most_held, flushed_at, flushed_before, sends_soon, waits_to_send, each_member, knows_flush, is_behind, is_waited, closes_soon}
use Rattle.norm_recovery.proofs.PhaseTurn.{InPhase}
use Rattle.norm_recovery.proofs.AsksOn.{tick_round}
use Rattle.norm_recovery.proofs.BeforeFlush.{lt_so, and_so, Soon, Held, BeforeFlush, before_is, next_not_late, either}
use Rattle.norm_recovery.proofs.WatchEnds.{watch_ends}
use Rattle.norm_recovery.proofs.FlushKnown.{flush_of}
use Rattle.norm_recovery.proofs.RunsOutTail.{Rests, same_to_send, same_window, quiet_rests, own_tick, closed_by, closing_or}
use Rattle.norm_recovery.proofs.RunsOutTick.{is_out, closed_rests}
use Rattle.norm_recovery.proofs.RunsOutTurns.{IsAt, tells_keep, round_keeps}
use Rattle.norm_recovery.proofs.RunsOutWindow.{few_wants}
use Rattle.norm_recovery.proofs.TickDoes.{Does, TooSoon, Gives, HasNone, Flushes, tick_does, Closing, Open, Closes, closing, closed_leaves}
use Rattle.norm_recovery.proofs.WatchFlushes.{event_count, le_of}
use Rattle.norm_recovery.proofs.WatchTurn.{goes, runs_out}
use Rattle.norm_send_rules.proofs.ShapeLemmas.{blocks_of}

-- ---- the turn

module _ (p : Settings) (events : List Event) (last : ℕ) (draws : ℕ → ℕ) (ph : Phase) (h : InPhase p events last ph) (w : Watermark)
    (old : oldest (run p events).sender ≡ Some w) where
  abbrev s : SenderState
  s = (run p events).sender

  abbrev now : ℕ
  now = last + p.step

  abbrev c : SenderState
  c = closed_where_due p (last + p.step) (run p events).sender

  abbrev t : SenderState
  t = (ticked p (run p events).sender (last + p.step)).0

  abbrev turn : Course
  turn = tail_turn p draws (last + p.step) (course_from (run p events))

  abbrev u : SenderState
  u = (tail_turn p draws (last + p.step) (course_from (run p events))).world.sender

  abbrev since : ℕ
  since = last_closing ph.since (tail_turn p draws (last + p.step) (course_from (run p events))).happened

  -- from the tick on what is to be sent stays, and so does the last flush
  record Stands (x : SenderState) : Type 0 where
    rests : Rests (ticked p (run p events).sender (last + p.step)).0 x
    flush : x.last_flush ≡ (ticked p (run p events).sender (last + p.step)).0.last_flush

  stands : Stands (tail_turn p draws (last + p.step) (course_from (run p events))).world.sender
  stands =
      round_keeps p draws now Kept each (λ d n k. k) (sender_ticks p now (course_from (run p events)))
      (tells_keep p draws now Kept each (λ d n k. k) (comes p (Ticked p.sender now) (course_from (run p events)))
      (subst Stands (sym (own_tick p (run p events) now))
      (record { rests = record { current = refl; wants = refl; next = refl; squelch = refl; send = refl }; flush = refl })))
    where
      Kept : Course → Type 0
      Kept d = Stands d.world.sender

      each : (e : Event) → Quiet p e → IsAt now e → (d : Course) → Stands d.world.sender → Stands (comes p e d).world.sender
      each e quiet at d k =
          let more = quiet_rests p d.world e quiet in
          record {
            rests = record {
              current = more.current ∙ k.rests.current;
              wants = more.wants ∙ k.rests.wants;
              next = more.next ∙ k.rests.next;
              squelch = more.squelch ∙ k.rests.squelch;
              send = more.send ∙ k.rests.send;
            };
            flush = (event_count p d.world e quiet).last ∙ k.flush;
          }

  -- the last closing is that of the tick, or the one before
  since_is : last_closing ph.since (tail_turn p draws (last + p.step) (course_from (run p events))).happened
      ≡ closing_or (closed_by (last + p.step) (run p events).sender.round (closed_where_due p (last + p.step) (run p events).sender).round) ph.since
  since_is = (goes p events last draws h.follows ph.since).closing ∙ ap (λ (o : Option Round). closing_or (closed_by now s.round o) ph.since) (tick_round p s now)

  since_same : closed_where_due p (last + p.step) (run p events).sender ≡ (run p events).sender
      → last_closing ph.since (tail_turn p draws (last + p.step) (course_from (run p events))).happened ≡ ph.since
  since_same e = since_is ∙ ap (λ (x : SenderState). closing_or (closed_by now s.round x.round) ph.since) e ∙ by s.round
    where
      by : (o : Option Round) → closing_or (closed_by (last + p.step) o o) ph.since ≡ ph.since
      by None = refl
      by (Some x) = refl

  since_now : (x : Round) → (run p events).sender.round ≡ Some x → closed_where_due p (last + p.step) (run p events).sender ≡ round_closed p x (run p events).sender
      → last_closing ph.since (tail_turn p draws (last + p.step) (course_from (run p events))).happened ≡ last + p.step
  since_now x is e = since_is ∙ ap (λ (y : SenderState). closing_or (closed_by now s.round y.round) ph.since) e
      ∙ ap (λ (o : Option Round). closing_or (closed_by now o None) ph.since) is

  -- ---- the pace

  few : 2 * (p.gap + p.step) ≤ p.grtt
  few = go (repairable p s) h.follows.twice
    where
      go : (m : ℕ) → 2 * (m + 1) * (p.gap + p.step) ≤ p.grtt → 2 * (p.gap + p.step) ≤ p.grtt
      go m le =
          let more : 2 * (m + 1) * (p.gap + p.step) ≡ 2 * (m * (p.gap + p.step)) + 2 * (p.gap + p.step) = grind arith in
          omega (arith, le, more)

  -- a flush that may go is not one too many
  not_many : may_flush p (closed_where_due p (last + p.step) (run p events).sender) (last + p.step) ≡ true
      → nat_lt (closed_where_due p (last + p.step) (run p events).sender).flushes most_flushes ≡ true
  not_many may = go (cases_lt c.flushes most_flushes)
    where
      last_of : Option ℕ → Bool
      last_of o = elim o [ Some x ↦ nat_le (moment_after x (2 * p.grtt)) (last + p.step) | None ↦ true ]

      counted_of : Option ℕ → Bool
      counted_of o = elim o [ Some x ↦ nat_le (ph.began + 2 * p.grtt * (s.flushes - ph.counted)) (x + 2 * p.grtt) | None ↦ false ]

      pace : IsPaced p (record s { flushes = 0 })
      pace = record { goes_on = h.goes_on; often = h.often; twice = h.follows.twice; flushes = (let few = h.few in omega (arith, few)) }

      early : (x : ℕ) → last + p.step < x + 2 * p.grtt → moment_after x (2 * p.grtt) ≤ last + p.step → ⊥
      early x soon passed = let fits = h.follows.fits in let some = h.follows.profile.grtt.0 in omega (arith, soon, passed, fits, some)

      by : (o : Option ℕ) → s.last_flush ≡ o → most_flushes ≤ s.flushes → (nat_le s.flushes ph.counted || counted_of o) ≡ true → ⊥
      by None is many e = go (either (nat_le s.flushes ph.counted) false e)
        where
          go : (nat_le s.flushes ph.counted ≡ true) ⊎ (false ≡ true) → ⊥
          go (inl le) = let less = le_of s.flushes ph.counted le in let few = h.few in omega (arith, less, few, many)
          go (inr f) = clash f
      by (Some x) is many e =
          early x (subst (λ (o : Option ℕ). IfSome o (λ x. last + p.step < x + 2 * p.grtt)) is (watch_ends.spares p (record s { flushes = 0 }) pace ph h.few last (run p events) h.watch many))
          (le_of (moment_after x (2 * p.grtt)) (last + p.step) (sym (ap last_of ((closed_leaves p now s).last ∙ is)) ∙ may))

      go : (c.flushes < most_flushes) ⊎ (most_flushes ≤ c.flushes) → nat_lt c.flushes most_flushes ≡ true
      go (inl lt) = (Decides-ltb c.flushes most_flushes).1 lt
      go (inr le) =
          absurd (by s.last_flush refl (let less = (closed_leaves p now s).fewer in omega (arith, le, less))
          (subst (λ (o : Option ℕ). (nat_le s.flushes ph.counted || counted_of o) ≡ true) refl h.watch.flushed))

  -- what the tick does
  does : Does p (last + p.step) (closed_where_due p (last + p.step) (run p events).sender) w (ticked p (run p events).sender (last + p.step))
  does = tick_does p now c w ((closed_leaves p now s).old ∙ old) not_many

  -- ---- the flush goes in the turn

  -- if the last flush is of the turn, the tick gave it
  pub flushes_then : (tail_turn p draws (last + p.step) (course_from (run p events))).world.sender.last_flush ≡ Some (last + p.step)
      → (ticked p (run p events).sender (last + p.step)).1 ≡ Some (flush_of p (run p events).sender w)
  flushes_then is = go does
    where
      before : IfSome s.last_flush (λ m. m ≤ last)
      before = h.watch.timely.sender.flush

      not_so : s.last_flush ≡ Some (last + p.step) → ⊥
      not_so e = let le : last + p.step ≤ last = subst (λ (o : Option ℕ). IfSome o (λ m. m ≤ last)) e before in let some = h.goes_on in omega (arith, le, some)

      at_tick : t.last_flush ≡ Some (last + p.step)
      at_tick = sym stands.flush ∙ is

      same : t ≡ c → s.last_flush ≡ Some (last + p.step)
      same e = sym (closed_leaves p now s).last ∙ sym (ap (λ (x : SenderState). x.last_flush) e) ∙ at_tick

      go : Does p (last + p.step) (closed_where_due p (last + p.step) (run p events).sender) w (ticked p (run p events).sender (last + p.step))
          → (ticked p (run p events).sender (last + p.step)).1 ≡ Some (flush_of p (run p events).sender w)
      go (TooSoon lt e) = absurd (not_so (same e))
      go (Gives n e due goes) = absurd (not_so (sym (closed_leaves p now s).last ∙ sym goes.flush ∙ at_tick))
      go (HasNone none due may e) = absurd (not_so (same e))
      go (Flushes none due e) = ap (λ (step : SenderState × Option Written). step.1) e ∙ ap (λ (d : Written). Some d) ((closed_leaves p now s).says w)

  -- ---- no flush goes in the turn

  module _ (none : ph.first ≡ None) where
    was : BeforeFlush p ph last ph.since (run p events).sender
    was = before_is p ph last s (subst (λ (o : Option ℕ). (elim o as (λ _. Bool) [
      | Some flush ↦ nat_le (most_held p ph) flush && nat_le flush last && nat_le (2 * flush) (2 * most_held p ph + 5 * p.grtt + 2 * (p.gap + p.step))
          && each_member (knows_flush s) (run p events) && not (each_member (λ r. not (is_behind s r)) (run p events))
          && each_member (is_waited p flush s) (run p events) && closes_soon p flush last s
      | None ↦ flushed_before p ph s && sends_soon p ph s && waits_to_send p ph last s
    ]) ≡ true) none h.watch.asking)

    -- the turn is not late for the flush
    pub turn_not_late : 2 * (last + p.step) ≤ 2 * most_held p ph + 5 * p.grtt + 2 * (p.gap + p.step)
    turn_not_late =
        next_not_late p.grtt p.gap p.step (most_held p ph) last ph.since s.next_send (to_send p s * (p.gap + p.step)) h.often few was.soon was.waits

    -- ---- what the turn leaves

    held : ℕ
    held = most_held p ph

    span : ℕ
    span = p.gap + p.step

    some : 1 ≤ p.gap
    some = h.follows.profile.gap.0

    -- two round trips after the begin members may be held off still
    long : ph.began + 2 * p.grtt ≤ most_held p ph
    long =
        let a : (2 * p.k + 4) * p.grtt ≡ 2 * (p.k * p.grtt) + 4 * p.grtt = grind arith in
        omega (arith, a)

    put_off : moment_after (last + p.step) p.gap ≡ last + p.step + p.gap
    put_off = let fits = h.follows.fits in let short = few in omega (arith, fits, short)

    gone_is : (tail_turn p draws (last + p.step) (course_from (run p events))).world.sender.next_send
        + to_send p (tail_turn p draws (last + p.step) (course_from (run p events))).world.sender * (p.gap + p.step)
        ≡ (ticked p (run p events).sender (last + p.step)).0.next_send + to_send p (ticked p (run p events).sender (last + p.step)).0 * (p.gap + p.step)
    gone_is =
        let send = stands.rests.send in
        let all = ap (λ (n : ℕ). n * (p.gap + p.step)) (same_to_send p t u stands.rests) in
        omega (arith, send, all)

    -- nothing takes no time
    none_take : (n : ℕ) → n ≡ 0 → n * (p.gap + p.step) ≡ 0
    none_take n e = ap (λ (k : ℕ). k * (p.gap + p.step)) e ∙ (let z : 0 * (p.gap + p.step) ≡ 0 = omega arith in z)

    -- as a tick left it
    from_tick : (m : ℕ) → Soon p.grtt p.gap p.step (most_held p ph) m
        ((ticked p (run p events).sender (last + p.step)).0.next_send + to_send p (ticked p (run p events).sender (last + p.step)).0 * (p.gap + p.step))
        → Held p.grtt p.step (most_held p ph) (last + p.step) m (ticked p (run p events).sender (last + p.step)).0.next_send
        → IfSome (ticked p (run p events).sender (last + p.step)).0.last_flush (λ x. x < most_held p ph)
        → BeforeFlush p ph (last + p.step) m (tail_turn p draws (last + p.step) (course_from (run p events))).world.sender
    from_tick m soon waits early = record {
      early = subst (λ (o : Option ℕ). IfSome o (λ x. x < most_held p ph)) (sym stands.flush) early;
      soon = subst (λ (n : ℕ). Soon p.grtt p.gap p.step (most_held p ph) m n) (sym gone_is) soon;
      waits = subst (λ (n : ℕ). Held p.grtt p.step (most_held p ph) (last + p.step) m n) (sym stands.rests.send) waits;
    }

    closed_early : (last_of : Option ℕ) → last_of ≡ (closed_where_due p (last + p.step) (run p events).sender).last_flush → IfSome last_of (λ x. x < most_held p ph)
    closed_early o e =
        subst (λ (o : Option ℕ). IfSome o (λ x. x < most_held p ph)) (sym (e ∙ (closed_leaves p now s).last)) was.early

    -- no flush may go yet
    not_yet : may_flush p (closed_where_due p (last + p.step) (run p events).sender) (last + p.step) ≡ false → last + p.step < most_held p ph + 2 * p.grtt
    not_yet may = go s.last_flush was.early (sym (ap last_of (closed_leaves p now s).last) ∙ may)
      where
        last_of : Option ℕ → Bool
        last_of o = elim o [ Some x ↦ nat_le (moment_after x (2 * p.grtt)) (last + p.step) | None ↦ true ]

        go : (o : Option ℕ) → IfSome o (λ x. x < most_held p ph) → last_of o ≡ false → last + p.step < most_held p ph + 2 * p.grtt
        go None early e = absurd (clash (sym e))
        go (Some x) early e =
            let lt = lt_so (moment_after x (2 * p.grtt)) (last + p.step) e in
            let most : moment_after x (2 * p.grtt) ≤ x + 2 * p.grtt = min-le_left (x + 2 * p.grtt) 18446744073709551615 in
            omega (arith, lt, most, early)

    module _ (no_flush : (flushed_at (last + p.step) (tail_turn p draws (last + p.step) (course_from (run p events))).world.sender && nat_le (most_held p ph) (last + p.step)) ≡ false) where
      -- a flush that goes does so before that moment
      before_held : (ticked p (run p events).sender (last + p.step)).0.last_flush ≡ Some (last + p.step) → last + p.step < most_held p ph
      before_held e = lt_so (most_held p ph) (last + p.step) (go (nat_le (most_held p ph) (last + p.step)) refl)
        where
          at_it : flushed_at (last + p.step) u ≡ true
          at_it = ap (λ (o : Option ℕ). elim o as (λ _. Bool) [ Some m ↦ m == last + p.step | None ↦ false ]) (stands.flush ∙ e)
              ∙ (Decides-eqb (last + p.step) (last + p.step)).1 refl

          go : (b : Bool) → nat_le (most_held p ph) (last + p.step) ≡ b → b ≡ false
          go false is = refl
          go true is = absurd (clash (sym no_flush ∙ and_so (flushed_at (last + p.step) u) (nat_le (most_held p ph) (last + p.step)) at_it is))

      flush_at : (step : SenderState × Option Written) → step ≡ flushes_for p (last + p.step) w (closed_where_due p (last + p.step) (run p events).sender)
          → (step.0.last_flush ≡ Some (last + p.step)) × (step.0.next_send ≡ moment_after (last + p.step) p.gap)
          × (to_send p step.0 ≡ to_send p (closed_where_due p (last + p.step) (run p events).sender))
      flush_at step e = (
        ap (λ (x : SenderState × Option Written). x.0.last_flush) e,
        ap (λ (x : SenderState × Option Written). x.0.next_send) e,
        ap (λ (x : SenderState × Option Written). to_send p x.0) e,
      )

      -- it flushes before that moment
      flushed_then : (m : ℕ) → to_send p (closed_where_due p (last + p.step) (run p events).sender) ≡ 0
          → ticked p (run p events).sender (last + p.step) ≡ flushes_for p (last + p.step) w (closed_where_due p (last + p.step) (run p events).sender)
          → BeforeFlush p ph (last + p.step) m (tail_turn p draws (last + p.step) (course_from (run p events))).world.sender
      flushed_then m nothing e =
          let is = flush_at (ticked p s now) e in
          let lt = before_held is.0 in
          let none_left : to_send p t * (p.gap + p.step) ≡ 0 = none_take (to_send p t) (is.2 ∙ nothing) in
          let send = is.1 in
          let off = put_off in
          from_tick m (inl (omega (arith, lt, none_left, send, off))) (inl (omega (arith, lt)))
          (subst (λ (o : Option ℕ). IfSome o (λ x. x < most_held p ph)) (sym is.0) lt)

      -- ---- no round is closed

      open_turn : closed_where_due p (last + p.step) (run p events).sender ≡ (run p events).sender
          → Does p (last + p.step) (closed_where_due p (last + p.step) (run p events).sender) w (ticked p (run p events).sender (last + p.step))
          → BeforeFlush p ph (last + p.step) ph.since (tail_turn p draws (last + p.step) (course_from (run p events))).world.sender
      open_turn same = go
        where
          early_since : ph.since < most_held p ph + 2 * p.grtt + p.step
          early_since = by was.waits
            where
              by : Held p.grtt p.step (most_held p ph) last ph.since s.next_send → ph.since < most_held p ph + 2 * p.grtt + p.step
              by (inl lt) = let le = h.watch.within.1 in omega (arith, lt, le)
              by (inr (send, lt)) = lt

          soon_c : Soon p.grtt p.gap p.step (most_held p ph) ph.since (c.next_send + to_send p c * (p.gap + p.step))
          soon_c = subst (λ (x : SenderState). Soon p.grtt p.gap p.step (most_held p ph) ph.since (x.next_send + to_send p x * (p.gap + p.step))) (sym same) was.soon

          soon_t : t ≡ c → Soon p.grtt p.gap p.step (most_held p ph) ph.since (t.next_send + to_send p t * (p.gap + p.step))
          soon_t e = subst (λ (x : SenderState). Soon p.grtt p.gap p.step (most_held p ph) ph.since (x.next_send + to_send p x * (p.gap + p.step))) (sym e) soon_c

          less : (gone : ℕ) → gone ≤ c.next_send + to_send p c * (p.gap + p.step) → Soon p.grtt p.gap p.step (most_held p ph) ph.since gone
          less gone le = by soon_c
            where
              by : Soon p.grtt p.gap p.step (most_held p ph) ph.since (c.next_send + to_send p c * (p.gap + p.step)) → Soon p.grtt p.gap p.step (most_held p ph) ph.since gone
              by (inl a) = inl (omega (arith, a, le))
              by (inr a) = inr (omega (arith, a, le))

          waited : (n : ℕ) → to_send p c ≡ suc n → last ≤ c.next_send
          waited n e = by (subst (λ (x : SenderState). RunsOut p (ph.since + p.grtt) last x) (sym same) h.watch.runs_out)
            where
              by : RunsOut p (ph.since + p.grtt) last c → last ≤ c.next_send
              by (inl nothing) = absurd (omega (arith, nothing, e))
              by (inr (waits, fit)) = waits

          go : Does p (last + p.step) (closed_where_due p (last + p.step) (run p events).sender) w (ticked p (run p events).sender (last + p.step))
              → BeforeFlush p ph (last + p.step) ph.since (tail_turn p draws (last + p.step) (course_from (run p events))).world.sender
          go (TooSoon lt e) =
              from_tick ph.since (soon_t e) (inr (let is = ap (λ (x : SenderState). x.next_send) e in omega (arith, is, lt), early_since))
              (closed_early t.last_flush (ap (λ (x : SenderState). x.last_flush) e))
          go (Gives n e due goes) =
              let all : to_send p c * (p.gap + p.step) ≡ n * (p.gap + p.step) + (p.gap + p.step) =
              ap (λ (k : ℕ). k * (p.gap + p.step)) e ∙ suc-mul n (p.gap + p.step) in
              let rest : to_send p t * (p.gap + p.step) ≤ n * (p.gap + p.step) = mul-le-mul_right (p.gap + p.step) goes.left in
              let next = goes.next in
              let off = put_off in
              let before = waited n e in
              let least = some in
              from_tick ph.since (less (t.next_send + to_send p t * (p.gap + p.step)) (omega (arith, all, rest, next, off, before)))
              (inr (omega (arith, next, off, least), early_since)) (closed_early t.last_flush goes.flush)
          go (HasNone none due may e) =
              from_tick ph.since (soon_t e) (inl (not_yet may)) (closed_early t.last_flush (ap (λ (x : SenderState). x.last_flush) e))
          go (Flushes none due e) = flushed_then ph.since none e

      -- ---- a round is closed

      module _ (x : Round) (is : (run p events).sender.round ≡ Some x) (due : x.closes ≤ last + p.step)
          (same : closed_where_due p (last + p.step) (run p events).sender ≡ round_closed p x (run p events).sender) where
        apart : (ph.since ≡ ph.began) ⊎ (ph.since + p.grtt ≤ x.closes)
        apart = go (either (ph.since == ph.began) (elim s.round [ Some r ↦ nat_le (ph.since + p.grtt) r.closes | None ↦ true ]) h.watch.apart)
          where
            go : ((ph.since == ph.began) ≡ true) ⊎ ((elim s.round as (λ _. Bool) [ Some r ↦ nat_le (ph.since + p.grtt) r.closes | None ↦ true ]) ≡ true)
                → (ph.since ≡ ph.began) ⊎ (ph.since + p.grtt ≤ x.closes)
            go (inl e) = inl ((Decides-eqb ph.since ph.began).0 e)
            go (inr e) =
                inr (le_of (ph.since + p.grtt) x.closes
                (sym (ap (λ (o : Option Round). elim o as (λ _. Bool) [ Some r ↦ nat_le (ph.since + p.grtt) r.closes | None ↦ true ]) is) ∙ e))

        -- it closes no later than in the first turn in which a flush may go
        close_early : last + p.step < most_held p ph + 2 * p.grtt + p.step
        close_early = by was.waits was.soon apart
          where
            by : Held p.grtt p.step (most_held p ph) last ph.since s.next_send
                → Soon p.grtt p.gap p.step (most_held p ph) ph.since (s.next_send + to_send p s * (p.gap + p.step))
                → (ph.since ≡ ph.began) ⊎ (ph.since + p.grtt ≤ x.closes) → last + p.step < most_held p ph + 2 * p.grtt + p.step
            by (inl lt) soon sooner = omega (arith, lt)
            by (inr (send, lt)) (inl soon) sooner = let short = few in omega (arith, send, soon, short)
            by (inr (send, lt)) (inr soon) (inl first) = let short = few in let much = long in omega (arith, send, soon, first, short, much)
            by (inr (send, lt)) (inr soon) (inr later) = let short = few in absurd (omega (arith, send, soon, later, due, short))

        -- ---- it closes soon after the phase began

        runs_then : RunsOut p (last + p.step + p.grtt) (last + p.step) (tail_turn p draws (last + p.step) (course_from (run p events))).world.sender
        runs_then =
            subst (λ (n : ℕ). RunsOut p (n + p.grtt) (last + p.step) u) (since_now x is same) (runs_out p events last draws h.follows ph h.watch)

        close_first : last + p.step ≤ ph.began + p.grtt
            → BeforeFlush p ph (last + p.step) (last + p.step) (tail_turn p draws (last + p.step) (course_from (run p events))).world.sender
        close_first first = record {
          early = subst (λ (o : Option ℕ). IfSome o (λ x. x < most_held p ph)) (sym stands.flush) (by does);
          soon = inl (gone runs_then);
          waits = inl (let much = long in let lots = h.follows.profile.grtt.0 in omega (arith, first, much, lots));
        }
          where
            much : last + p.step < most_held p ph
            much = let far = long in let lots = h.follows.profile.grtt.0 in omega (arith, first, far, lots)

            by : Does p (last + p.step) (closed_where_due p (last + p.step) (run p events).sender) w (ticked p (run p events).sender (last + p.step))
                → IfSome (ticked p (run p events).sender (last + p.step)).0.last_flush (λ x. x < most_held p ph)
            by (TooSoon lt e) = closed_early t.last_flush (ap (λ (x : SenderState). x.last_flush) e)
            by (Gives n e due goes) = closed_early t.last_flush goes.flush
            by (HasNone none due may e) = closed_early t.last_flush (ap (λ (x : SenderState). x.last_flush) e)
            by (Flushes none due e) = subst (λ (o : Option ℕ). IfSome o (λ x. x < most_held p ph)) (sym (flush_at (ticked p s now) e).0) much

            gone : RunsOut p (last + p.step + p.grtt) (last + p.step) u → u.next_send + to_send p u * (p.gap + p.step) ≤ most_held p ph + p.gap
            gone (inl nothing) =
                let all : to_send p u * (p.gap + p.step) ≡ 0 = none_take (to_send p u) nothing in
                let soon = (goes p events last draws h.follows 0).timely.sender.send in
                let far = much in
                omega (arith, all, soon, far)
            gone (inr (waits, fit)) = let far = long in omega (arith, fit, first, far)

        -- ---- it closes later: nothing was to be sent, so no more than the window is

        module _ (after : ph.began + p.grtt < last + p.step) where
          was_out : to_send p (run p events).sender ≡ 0
          was_out = is_out p (ph.since + p.grtt) last s (by apart) h.watch.runs_out
            where
              by : (ph.since ≡ ph.began) ⊎ (ph.since + p.grtt ≤ x.closes) → ph.since + p.grtt < last + (p.gap + p.step)
              by (inl e) = let least = some in omega (arith, e, after, least)
              by (inr le) = let least = some in omega (arith, le, due, least)

          no_more : to_send p (closed_where_due p (last + p.step) (run p events).sender) ≤ repairable p (run p events).sender + 1
          no_more =
              let wants = few_wants p c h.follows.profile (due_holds p (blocks_of p h.follows.profile) now s (wants_hold_in_runs p events h.follows.profile)) in
              let window : repairable p c ≡ repairable p s = same_window p s c (closed_rests p now s).0 in
              let new : length (all_new p c) ≡ length (all_new p s) = ap (λ (x : SenderState). length (all_new p x)) same in
              let none = was_out in
              let one = at_most_one c.squelch_due in
              omega (arith, wants, window, new, none, one)
            where
              at_most_one : (b : Bool) → one_if b ≤ 1
              at_most_one true = omega arith
              at_most_one false = omega arith

          -- twice the window and one more fit into a round trip
          fits : (n : ℕ) → n ≤ repairable p (run p events).sender + 1 → 2 * (n * (p.gap + p.step)) ≤ p.grtt
          fits n le = go (repairable p s) h.follows.twice le
            where
              go : (m : ℕ) → 2 * (m + 1) * (p.gap + p.step) ≤ p.grtt → n ≤ m + 1 → 2 * (n * (p.gap + p.step)) ≤ p.grtt
              go m short le =
                  let most : n * (p.gap + p.step) ≤ (m + 1) * (p.gap + p.step) = mul-le-mul_right (p.gap + p.step) le in
                  let all : 2 * (m + 1) * (p.gap + p.step) ≡ 2 * ((m + 1) * (p.gap + p.step)) = grind arith in
                  omega (arith, most, all, short)

          send_c : c.next_send ≤ last + p.gap
          send_c = let same_send = (closed_leaves p now s).send in let soon = h.watch.timely.sender.send in omega (arith, same_send, soon)

          close_later : Does p (last + p.step) (closed_where_due p (last + p.step) (run p events).sender) w (ticked p (run p events).sender (last + p.step))
              → BeforeFlush p ph (last + p.step) (last + p.step) (tail_turn p draws (last + p.step) (course_from (run p events))).world.sender
          close_later (TooSoon lt e) =
              let send = ap (λ (x : SenderState). x.next_send) e in
              let all : to_send p t * (p.gap + p.step) ≡ to_send p c * (p.gap + p.step) = ap (λ (x : SenderState). to_send p x * (p.gap + p.step)) e in
              let short = fits (to_send p c) no_more in
              let first = send_c in
              from_tick (last + p.step) (inr (omega (arith, send, all, short, first))) (inr (omega (arith, send, lt), close_early))
              (closed_early t.last_flush (ap (λ (x : SenderState). x.last_flush) e))
          close_later (Gives n e due goes) =
              let all : suc n * (p.gap + p.step) ≡ n * (p.gap + p.step) + (p.gap + p.step) = suc-mul n (p.gap + p.step) in
              let rest : to_send p t * (p.gap + p.step) ≤ n * (p.gap + p.step) = mul-le-mul_right (p.gap + p.step) goes.left in
              let short = fits (suc n) (let le = no_more in omega (arith, le, e)) in
              let next = goes.next in
              let off = put_off in
              let least = some in
              from_tick (last + p.step) (inr (omega (arith, all, rest, short, next, off))) (inr (omega (arith, next, off, least), close_early))
              (closed_early t.last_flush goes.flush)
          close_later (HasNone none due may e) =
              let send = ap (λ (x : SenderState). x.next_send) e in
              let all : to_send p t * (p.gap + p.step) ≡ 0 = none_take (to_send p t) (ap (λ (x : SenderState). to_send p x) e ∙ none) in
              let first = send_c in
              from_tick (last + p.step) (inr (omega (arith, send, all, first))) (inl (not_yet may))
              (closed_early t.last_flush (ap (λ (x : SenderState). x.last_flush) e))
          close_later (Flushes none due e) = flushed_then (last + p.step) none e

      -- ---- either way

      pub before_turn : BeforeFlush p ph (last + p.step) (last_closing ph.since (tail_turn p draws (last + p.step) (course_from (run p events))).happened)
          (tail_turn p draws (last + p.step) (course_from (run p events))).world.sender
      before_turn = go (closing p now s)
        where
          B : ℕ → Type 0
          B m = BeforeFlush p ph (last + p.step) m u

          by : (x : Round) → s.round ≡ Some x → x.closes ≤ now → c ≡ round_closed p x s → (ph.began + p.grtt < last + p.step) ⊎ (last + p.step ≤ ph.began + p.grtt)
              → BeforeFlush p ph (last + p.step) (last + p.step) u
          by x is due same (inl lt) = close_later x is due same lt does
          by x is due same (inr le) = close_first x is due same le

          go : Closing p now s → BeforeFlush p ph (last + p.step) since u
          go (Open e) = subst B (sym (since_same e)) (open_turn e does)
          go (Closes x is due e) = subst B (sym (since_now x is e)) (by x is due e (cases_lt (ph.began + p.grtt) (last + p.step)))
