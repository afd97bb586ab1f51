-- Each turn of a tail satisfies its watermark, or its phase lasts, or the next phase begins with less left.
use Rattle.std.proofs.Common.{◌≡◌, ℕ, ◌+◌, ◌*◌, ◌-◌, ◌<◌, ◌≤◌, List, Bool, true, false, Option, None, Some, refl, sym, ap, ◌∙◌, subst, arith, ◌⊎◌, inl, inr}
use Rattle.std.specs.Prelude.{◌||◌, nat_lt, nat_le, IfSome}
use Rattle.std.proofs.lemmas.Bool.{cases_lt}
use Rattle.std.proofs.lemmas.Bool.Decides.{Decides-ltb, leb_tells}
use Rattle.norm_base.specs.Settings.{Settings}
use Rattle.norm_order.specs.Moments.{moment_after}
use Rattle.norm_send_rules.specs.Flushing.{most_flushes, may_flush}
use Rattle.norm_send_rules.specs.SenderState.{SenderState}
use Rattle.norm_send_rules.specs.Ticking.{closed_where_due}
use Rattle.norm_safety.specs.Events.{Event}
use Rattle.norm_safety.specs.Recovery.{IsOldest, IsPaced, is_satisfied_mark}
use Rattle.norm_safety.specs.Tail.{course_from, tail_turn}
use Rattle.norm_safety.specs.World.{World}
use Rattle.norm_safety.specs.WorldStep.{run}
use Rattle.norm_safety.proofs.EntryLemmas.{clash}
use Rattle.norm_recovery.specs.Left.{left}
use Rattle.norm_recovery.specs.RunsOut.{last_closing}
use Rattle.norm_recovery.specs.Watch.{Phase, Watch}
use Rattle.norm_recovery.specs.WatchCleans.{LeavesNoLess}
use Rattle.norm_recovery.specs.WatchGoesOn.{ComesTo, Satisfied, Lasts, Begins, WatchGoesOn}
use Rattle.norm_recovery.specs.WatchKeeps.{turn_after, goes_to}
use Rattle.norm_recovery.specs.WatchWaits.{InTail, WaitsOn, WatchWaits}
use Rattle.norm_recovery.proofs.LeftNever.{turn_lowers}
use Rattle.norm_recovery.proofs.LeftTick.{due_lowers}
use Rattle.norm_recovery.proofs.MarksTurn.{mark_goes}
use Rattle.norm_recovery.proofs.PhaseBegins.{next_watch}
use Rattle.norm_recovery.proofs.TickDoes.{closed_leaves}
use Rattle.norm_recovery.proofs.WatchClean.{watch_cleans}
use Rattle.norm_recovery.proofs.WatchEnds.{watch_ends}
use Rattle.norm_recovery.proofs.WatchFlushes.{watch_keeps}
use Rattle.norm_recovery.proofs.WatchHeld.{watch_holds}
use Rattle.norm_recovery.proofs.WatchTicked.{watch_ticks}

le_of : (a b : ℕ) → nat_le a b ≡ true → a ≤ b
le_of a b e = go (leb_tells a b)
  where
    go : ((nat_le a b ≡ true) × (a ≤ b)) ⊎ ((nat_le a b ≡ false) × (b < a)) → a ≤ b
    go (inl tells) = tells.1
    go (inr tells) = absurd (clash (sym tells.0 ∙ e))

or_right : (a b : Bool) → b ≡ true → (a || b) ≡ true
or_right true b e = refl
or_right false b e = e

module _ (waits : WatchWaits) (p : Settings) (events : List Event) (last mark : ℕ) (draws : ℕ → ℕ) (t : InTail p events last mark) (ph : Phase)
    (few : ph.counted + 2 * p.k ≤ 15) (h : Watch p ph last (run p events)) where
  abbrev s : SenderState
  s = (run p events).sender

  abbrev now : ℕ
  now = last + p.step

  abbrev c : SenderState
  c = closed_where_due p (last + p.step) (run p events).sender

  abbrev after : World
  after = (tail_turn p draws (last + p.step) (course_from (run p events))).world

  -- a flush that may go is not one too many: so no watermark expires
  not_many : may_flush p (closed_where_due p (last + p.step) (run p events).sender) (last + p.step) ≡ true
      → nat_lt (closed_where_due p (last + p.step) (run p events).sender).flushes most_flushes ≡ true
  not_many may = go (cases_lt c.flushes most_flushes)
    where
      last_of : Option ℕ → Bool
      last_of o = elim o [ Some x ↦ nat_le (moment_after x (2 * p.grtt)) (last + p.step) | None ↦ true ]

      counted_of : Option ℕ → Bool
      counted_of o = elim o [ Some x ↦ nat_le (ph.began + 2 * p.grtt * (s.flushes - ph.counted)) (x + 2 * p.grtt) | None ↦ false ]

      pace : IsPaced p (record s { flushes = 0 })
      pace = record { goes_on = t.goes_on; often = t.often; twice = t.follows.twice; flushes = omega (arith, few) }

      early : (x : ℕ) → last + p.step < x + 2 * p.grtt → moment_after x (2 * p.grtt) ≤ last + p.step → ⊥
      early x soon passed = let fits = t.follows.fits in let some = t.follows.profile.grtt.0 in omega (arith, soon, passed, fits, some)

      none_left : (b : Bool) → nat_le s.flushes ph.counted ≡ b → most_flushes ≤ s.flushes → (b || false) ≡ true → ⊥
      none_left true e many f = let less = le_of s.flushes ph.counted e in omega (arith, less, few, many)
      none_left false e many f = clash f

      by : (o : Option ℕ) → s.last_flush ≡ o → most_flushes ≤ s.flushes → (nat_le s.flushes ph.counted || counted_of o) ≡ true → ⊥
      by None is many e = none_left (nat_le s.flushes ph.counted) refl many e
      by (Some x) is many e =
          early x (subst (λ (o : Option ℕ). IfSome o (λ x. last + p.step < x + 2 * p.grtt)) is (watch_ends.spares p (record s { flushes = 0 }) pace ph few last (run p events) h many))
          (le_of (moment_after x (2 * p.grtt)) (last + p.step) (sym (ap last_of ((closed_leaves p now s).last ∙ is)) ∙ may))

      go : (c.flushes < most_flushes) ⊎ (most_flushes ≤ c.flushes) → nat_lt c.flushes most_flushes ≡ true
      go (inl lt) = (Decides-ltb c.flushes most_flushes).1 lt
      go (inr le) = absurd (by s.last_flush refl (let less = (closed_leaves p now s).fewer in omega (arith, le, less)) h.flushed)

  lowers : left p (tail_turn p draws (last + p.step) (course_from (run p events))).world
      ≤ left p (record (run p events) { sender = closed_where_due p (last + p.step) (run p events).sender })
  lowers = turn_lowers p t.follows.profile t.holds events t.may t.streams draws (last + p.step)

  goes : IsOldest (tail_turn p draws (last + p.step) (course_from (run p events))).world.sender mark → LeavesNoLess p (last + p.step) (run p events)
      → ComesTo p mark ph (last + p.step) (run p events) (tail_turn p draws (last + p.step) (course_from (run p events))).world
  goes old same = Lasts old (let le = lowers in omega (arith, le, same)) (last_closing ph.since (tail_turn p draws (last + p.step) (course_from (run p events))).happened) w.first (record {
    within = watch_keeps.within p events last draws t.follows ph h;
    timely = watch_keeps.timely p events last draws t.follows;
    acked = or_right (nat_lt now (ph.began + p.step)) _ (watch_ticks.acked p events last draws t.follows t.may t.goes_on);
    waited = watch_ticks.waited p events last draws t.follows t.may t.goes_on ph h;
    ticked = watch_ticks.ticked p events last draws t.follows t.may t.goes_on ph h;
    later = watch_keeps.later p events last draws t.follows;
    runs_out = watch_keeps.runs_out p events last draws t.follows ph h;
    apart = watch_keeps.apart p events last draws t.follows ph h;
    spent = watch_cleans.spent p events last draws t.follows t.may same ph h;
    clean = watch_cleans.clean p events last draws t.follows t.may same ph h;
    held_off = watch_holds p events last draws t.follows t.may t.holds t.streams t.goes_on t.often same ph few h;
    flushed = watch_keeps.flushed p events last draws t.follows ph h;
    asking = w.waits;
  })
    where
      w : WaitsOn p (goes_to ph (turn_after p draws events last)) (last + p.step) (turn_after p draws events last).world
      w = waits.keeps p events last mark draws t same old ph few h

  by_left : IsOldest (tail_turn p draws (last + p.step) (course_from (run p events))).world.sender mark
      → (left p (record (run p events) { sender = closed_where_due p (last + p.step) (run p events).sender }) < left p (run p events))
      ⊎ (left p (run p events) ≤ left p (record (run p events) { sender = closed_where_due p (last + p.step) (run p events).sender }))
      → ComesTo p mark ph (last + p.step) (run p events) (tail_turn p draws (last + p.step) (course_from (run p events))).world
  by_left old (inl less) =
      Begins old (let le = lowers in omega (arith, le, less)) (next_watch waits p events last draws t.follows t.may t.goes_on t.often ph h less)
  by_left old (inr le) = goes old (let most = due_lowers p (last + p.step) (run p events) in omega (arith, le, most))

  turn_goes : IsOldest (tail_turn p draws (last + p.step) (course_from (run p events))).world.sender mark
      ⊎ (is_satisfied_mark (tail_turn p draws (last + p.step) (course_from (run p events))).world mark ≡ true)
      → ComesTo p mark ph (last + p.step) (run p events) (tail_turn p draws (last + p.step) (course_from (run p events))).world
  turn_goes (inr met) = Satisfied met
  turn_goes (inl old) =
      by_left old (cases_lt (left p (record (run p events) { sender = closed_where_due p (last + p.step) (run p events).sender })) (left p (run p events)))

pub watch_goes_on : WatchWaits → WatchGoesOn
watch_goes_on waits p events last mark draws t ph few h =
    turn_goes waits p events last mark draws t ph few h
    (mark_goes p t.follows.profile events draws (last + p.step) (not_many waits p events last mark draws t ph few h) mark t.oldest)
