-- What holds as a phase of a tail begins: at the end of the tail's first turn, and of one whose closing leaves less.
use Rattle.std.proofs.Common.{◌≡◌, ℕ, ◌+◌, ◌*◌, ◌<◌, ◌≤◌, List, [], ◌∷◌, length, filter, Bool, true, false, Option, None, Some, refl, sym, ap, ◌∙◌, subst, arith, ◌⊎◌, inl, inr}
use Rattle.std.specs.Prelude.{◌==◌, ◌&&◌, ◌||◌, not, nat_lt, nat_le}
use Rattle.std.specs.List.{AllByRecursion, list_all}
use Rattle.std.proofs.lemmas.Bool.Decides.{Decides-eqb, Decides-ltb, leb_tells}
use Rattle.norm_base.specs.Settings.{Settings}
use Rattle.norm_ext.specs.Written.{Written, writes}
use Rattle.norm_receive_rules.specs.ReceiverState.{ReceiverState}
use Rattle.norm_send_rules.specs.Closing.{asked_in, wants_after, round_closed}
use Rattle.norm_send_rules.specs.InWindow.{stands_behind}
use Rattle.norm_send_rules.specs.Messages.{squelch_message}
use Rattle.norm_send_rules.specs.Repairable.{repairable}
use Rattle.norm_send_rules.specs.SenderState.{SenderState, Round}
use Rattle.norm_send_rules.specs.Sending.{noted, sends, repairs_next}
use Rattle.norm_send_rules.specs.Ticking.{closed_where_due, sends_further, sends_wanted, sends_first, sends_in_time, ticked}
use Rattle.norm_send_rules.specs.Watermarks.{has_member}
use Rattle.norm_send_rules.specs.declared.want.Want.{Want}
use Rattle.norm_send_rules.specs.declared.want.Want.TheVariants.{Info, Symbol}
use Rattle.norm_safety.specs.Events.{Event, Ticked}
use Rattle.norm_safety.specs.Tail.{Course, course_from, comes, sender_ticks, tail_turn}
use Rattle.norm_safety.specs.World.{World}
use Rattle.norm_safety.specs.WorldStep.{run}
use Rattle.norm_safety.proofs.EntryLemmas.{clash}
use Rattle.norm_safety.proofs.WantRunLemmas.{wants_hold_in_runs}
use Rattle.norm_laws.proofs.LaterTailLemmas.{Quiet}
use Rattle.norm_recovery.specs.Clean.{is_clean_from}
use Rattle.norm_recovery.specs.Left.{left}
use Rattle.norm_recovery.specs.RunsOut.{RunsOut, last_closing}
use Rattle.norm_recovery.specs.TailLawful.{MayGoOn}
use Rattle.norm_recovery.specs.Timely.{ReceiverTimely}
use Rattle.norm_recovery.specs.Watch.{Phase, most_held, owes_nothing, has_waited, has_ticked, closes_later, closes_apart, are_apart, is_spent, is_asked, Watch}
use Rattle.norm_recovery.specs.WatchGoesOn.{phase_from}
use Rattle.norm_recovery.specs.WatchKeeps.{Follows}
use Rattle.norm_recovery.specs.WatchWaits.{Begins, WatchWaits}
use Rattle.norm_recovery.proofs.AsksOn.{tick_round}
use Rattle.norm_recovery.proofs.ClosingLists.{sets_grow}
use Rattle.norm_recovery.proofs.RunsOutTail.{closed_by, closing_or, own_tick, turn_on}
use Rattle.norm_recovery.proofs.RunsOutTurns.{IsAt, tells_keep, round_keeps}
use Rattle.norm_recovery.proofs.TickDoes.{Closing, Open, Closes, closing}
use Rattle.norm_recovery.proofs.TimelyWorld.{runs_are_timely}
use Rattle.norm_recovery.proofs.WatchClean.{early_clean, sooner}
use Rattle.norm_recovery.proofs.WatchFlushes.{Few, event_count, flushes_apart, le_so, watch_keeps}
use Rattle.norm_recovery.proofs.WatchTicked.{watch_ticks}
use Rattle.norm_recovery.proofs.WatchTurn.{goes, within_from, apart_from}

or_left : (a b : Bool) → a ≡ true → (a || b) ≡ true
or_left true b e = refl
or_left false b e = absurd (clash e)

or_right : (a b : Bool) → b ≡ true → (a || b) ≡ true
or_right true b e = refl
or_right false b e = e

not_lt : (a b : ℕ) → b ≤ a → nat_lt a b ≡ false
not_lt a b le = go (nat_lt a b) refl
  where
    go : (c : Bool) → nat_lt a b ≡ c → c ≡ false
    go true e = absurd (let lt = (Decides-ltb a b).0 e in omega (arith, lt, le))
    go false e = refl

not_le : (a b : ℕ) → b < a → nat_le a b ≡ false
not_le a b lt = go (leb_tells a b)
  where
    go : ((nat_le a b ≡ true) × (a ≤ b)) ⊎ ((nat_le a b ≡ false) × (b < a)) → nat_le a b ≡ false
    go (inl tells) = absurd (let le = tells.1 in omega (arith, lt, le))
    go (inr tells) = tells.0

neither : (a b c : Bool) → a ≡ false → b ≡ false → (not (a || b) || c) ≡ true
neither true b c e f = absurd (clash (sym e))
neither false true c e f = absurd (clash (sym f))
neither false false c e f = refl

-- a test that follows of what holds of each
all_pass : (P : ReceiverState → Type 0) (test : ReceiverState → Bool) → ((r : ReceiverState) → P r → test r ≡ true) → (rs : List ReceiverState) → AllByRecursion P rs
    → list_all test rs ≡ true
all_pass P test each [] all = refl
all_pass P test each (r ∷ rs) all = both (test r) (list_all test rs) (each r all.0) (all_pass P test each rs all.1)
  where
    both : (a b : Bool) → a ≡ true → b ≡ true → (a && b) ≡ true
    both true b e f = f
    both false b e f = absurd (clash e)

-- ---- at the end of a turn that began the phase

-- what is to be shown of it
record Begun (p : Settings) (ph : Phase) (now : ℕ) (w : World) : Type 0 where
  begins : Begins p ph now w
  acked : (nat_lt now (ph.began + p.step) || list_all owes_nothing w.receivers) ≡ true
  later : closes_later now w.sender ≡ true
  apart : closes_apart p ph w.sender ≡ true
  flushed : are_apart p ph w.sender ≡ true

begun_watch : WatchWaits → (p : Settings) (ph : Phase) (now : ℕ) (w : World) → Begun p ph now w → Watch p ph now w
begun_watch waits p ph now w b = record {
  within = b.begins.since;
  timely = b.begins.timely;
  acked = b.acked;
  waited = or_left (nat_lt now (ph.began + 2 * p.step)) (list_all (has_waited now w.sender) w.receivers)
      ((Decides-ltb now (ph.began + 2 * p.step)).1 (let le = b.begins.soon in let some = b.begins.goes_on in omega (arith, le, some)));
  ticked = or_left (nat_lt now (ph.began + 3 * p.step)) (list_all (has_ticked p now w.sender) w.receivers)
      ((Decides-ltb now (ph.began + 3 * p.step)).1 (let le = b.begins.soon in let some = b.begins.goes_on in omega (arith, le, some)));
  later = b.later;
  runs_out = b.begins.runs_out;
  apart = b.apart;
  spent = neither (nat_lt (ph.began + p.grtt) ph.since) (nat_le (ph.began + 2 * p.grtt) now) (is_spent p w)
      (not_lt (ph.began + p.grtt) ph.since (let at = b.begins.since.1 in let le = b.begins.soon in let few = b.begins.twice in omega (arith, at, le, few)))
      (not_le (ph.began + 2 * p.grtt) now (let le = b.begins.soon in let few = b.begins.twice in let some = b.begins.goes_on in omega (arith, le, few, some)));
  clean = all_pass (ReceiverTimely p now) (λ (r : ReceiverState). not (has_member r.node w.sender) || is_clean_from (ph.began + (p.k + 2) * p.grtt + 1) p w.sender r)
      (λ r timely. or_right (not (has_member r.node w.sender)) (is_clean_from (ph.began + (p.k + 2) * p.grtt + 1) p w.sender r)
      (early_clean p (ph.began + (p.k + 2) * p.grtt + 1) w.sender r
      (sooner r.knows.backoff (now + p.k * p.grtt) (ph.began + (p.k + 2) * p.grtt + 1) early timely.backoff))) w.receivers b.begins.timely.receivers;
  held_off = all_pass (ReceiverTimely p now)
      (λ (r : ReceiverState). not (has_member r.node w.sender) || (nat_le r.knows.holdoff (most_held p ph) || is_asked p w.sender r))
      (λ r timely. or_right (not (has_member r.node w.sender)) (nat_le r.knows.holdoff (most_held p ph) || is_asked p w.sender r)
      (or_left (nat_le r.knows.holdoff (most_held p ph)) (is_asked p w.sender r) (le_so r.knows.holdoff (most_held p ph) (held r.knows.holdoff timely.holdoff))))
      w.receivers b.begins.timely.receivers;
  flushed = b.flushed;
  asking = waits.begins p ph now w b.begins;
}
  where
    span : (p.k + 2) * p.grtt ≡ p.k * p.grtt + 2 * p.grtt
    span = grind arith

    spans : (2 * p.k + 4) * p.grtt ≡ 2 * (p.k * p.grtt) + 4 * p.grtt
    spans = grind arith

    early : now + p.k * p.grtt < ph.began + (p.k + 2) * p.grtt + 1
    early = let z = span in let le = b.begins.soon in let few = b.begins.twice in omega (arith, z, le, few)

    held : (n : ℕ) → n ≤ now + (p.k + 2) * p.grtt → n ≤ ph.began + (2 * p.k + 4) * p.grtt + 2 * p.step
    held n most = let z = span in let y = spans in let le = b.begins.soon in omega (arith, z, y, le, most)

-- ---- a closing that leaves less

noted_flushes : (y : Want) (s : SenderState) → (noted y s).flushes ≡ s.flushes
noted_flushes (Info index) s = refl
noted_flushes (Symbol at) s = refl

-- a tick that finds wants counts no flush
wants_flushes : (p : Settings) (now : ℕ) (c : SenderState) (y : Want) (more : List Want) → c.wants ≡ y ∷ more → (sends_in_time p now c).0.flushes ≡ c.flushes
wants_flushes p now c y more e = go (nat_lt now c.next_send)
  where
    left_by : SenderState × Option Written → ℕ
    left_by step = step.0.flushes

    wanted : left_by (elim c.wants as (λ _. SenderState × Option Written) [ [] ↦ sends_further p now c | w ∷ rest ↦ repairs_next p now w rest c ]) ≡ c.flushes
    wanted = ap (λ (ws : List Want). left_by (elim ws as (λ _. SenderState × Option Written) [ [] ↦ sends_further p now c | w ∷ rest ↦ repairs_next p now w rest c ])) e
        ∙ noted_flushes y (record c { wants = more })

    first : (b : Bool) → left_by (elim b as (λ _. SenderState × Option Written) [
      | true ↦ sends p now (writes (squelch_message p c c.current.drop) (c.current.drop.index ∷ [])) (record c { squelch_due = false })
      | false ↦ sends_wanted p now c
    ]) ≡ c.flushes
    first true = refl
    first false = wanted

    go : (b : Bool) → left_by (elim b as (λ _. SenderState × Option Written) [ true ↦ (c, None) | false ↦ sends_first p now c ]) ≡ c.flushes
    go true = refl
    go false = first c.squelch_due

-- a closing that leaves less adds a want
less_adds : (p : Settings) (x : Round) (w : World) → left p (record w { sender = round_closed p x w.sender }) < left p w
    → length w.sender.wants < length (wants_after p w.sender x.asked)
less_adds p x w less = go (sets_grow (filter (stands_behind w.sender.current.drop) (asked_in p w.sender x.asked)) w.sender.wants)
  where
    go : (wants_after p w.sender x.asked ≡ w.sender.wants) ⊎ (length w.sender.wants < length (wants_after p w.sender x.asked))
        → length w.sender.wants < length (wants_after p w.sender x.asked)
    go (inr lt) = lt
    go (inl same) = absurd (
        let still : left p (record w { sender = round_closed p x w.sender }) ≡ left p w =
        ap (λ (ws : List Want). left p (record w { sender = record (w.sender) { wants = ws } })) same in
        omega (arith, still, less)
        )

module _ (waits : WatchWaits) (p : Settings) (events : List Event) (last : ℕ) (draws : ℕ → ℕ) (f : Follows p events last) (may : MayGoOn p events)
    (goes_on : 1 ≤ p.step) (often : p.step ≤ p.gap) where
  abbrev s : SenderState
  s = (run p events).sender

  abbrev now : ℕ
  now = last + p.step

  abbrev after : World
  after = (tail_turn p draws (last + p.step) (course_from (run p events))).world

  abbrev since_of : ℕ → ℕ
  since_of since = last_closing since (tail_turn p draws (last + p.step) (course_from (run p events))).happened

  pub few : 2 * (p.gap + p.step) ≤ p.grtt
  few = go (repairable p s) f.twice
    where
      go : (m : ℕ) → 2 * (m + 1) * (p.gap + p.step) ≤ p.grtt → 2 * (p.gap + p.step) ≤ p.grtt
      go m le =
          let more : 2 * (m + 1) * (p.gap + p.step) ≡ 2 * (m * (p.gap + p.step)) + 2 * (p.gap + p.step) = grind arith in
          omega (arith, le, more)

  -- ---- the first turn of a tail

  abbrev pub first_phase : Phase
  first_phase = record {
    counted = (run p events).sender.flushes;
    began = last;
    since = last_closing last (tail_turn p draws (last + p.step) (course_from (run p events))).happened;
    first = None;
  }

  abbrev before : Phase
  before = record { counted = (run p events).sender.flushes; began = last; since = last; first = None }

  itself : (last == last) ≡ true
  itself = (Decides-eqb last last).1 refl

  runs_first : RunsOut p (last_closing last (tail_turn p draws (last + p.step) (course_from (run p events))).happened + p.grtt) (last + p.step)
      (tail_turn p draws (last + p.step) (course_from (run p events))).world.sender
  runs_first =
      (turn_on p f.profile draws last (repairable p (run p events).sender) last (course_from (run p events)) f.twice (let fits = f.fits in omega (arith, fits))
      (record { runs = inl refl; soon = (runs_are_timely p events last f.before).sender.send; hold = wants_hold_in_runs p events f.profile; window = refl })).runs

  pub first_watch : Watch p first_phase (last + p.step) (tail_turn p draws (last + p.step) (course_from (run p events))).world
  first_watch = begun_watch waits p first_phase now after (record {
    begins = record {
      goes_on = goes_on;
      often = often;
      twice = few;
      first = refl;
      since = within_from p events last draws f before (omega arith, omega arith) (or_left (last == last) _ itself);
      soon = omega arith;
      timely = watch_keeps.timely p events last draws f;
      runs_out = runs_first;
    };
    acked = or_right (nat_lt now (last + p.step)) (list_all owes_nothing after.receivers) (watch_ticks.acked p events last draws f may goes_on);
    later = watch_keeps.later p events last draws f;
    apart = apart_from p events last draws f before (omega arith, omega arith) (or_left (last == last) _ itself);
    flushed = flushes_apart p events last draws f before (omega arith) (Few (omega arith));
  })

  -- ---- a turn whose closing leaves less

  module _ (ph : Phase) (h : Watch p ph last (run p events))
      (less : left p (record (run p events) { sender = closed_where_due p (last + p.step) (run p events).sender }) < left p (run p events)) where
    -- its round is due, and adds a want
    record Closed : Type 0 where
      x : Round
      was : (run p events).sender.round ≡ Some x
      is : closed_where_due p (last + p.step) (run p events).sender ≡ round_closed p x (run p events).sender
      adds : length (run p events).sender.wants < length (wants_after p (run p events).sender x.asked)

    closed : Closed
    closed = go (closing p now s)
      where
        L : SenderState → Type 0
        L t = left p (record (run p events) { sender = t }) < left p (run p events)

        go : Closing p (last + p.step) (run p events).sender → Closed
        go (Open same) = absurd (let le = subst L same less in omega (arith, le))
        go (Closes x was due is) = record { x = x; was = was; is = is; adds = less_adds p x (run p events) (subst L is less) }

    since_now : last_closing ph.since (tail_turn p draws (last + p.step) (course_from (run p events))).happened ≡ last + p.step
    since_now =
        (goes p events last draws f ph.since).closing ∙ ap (λ (o : Option Round). closing_or (closed_by now s.round o) ph.since) (tick_round p s now)
        ∙ ap (λ (y : SenderState). closing_or (closed_by now s.round y.round) ph.since) closed.is
        ∙ ap (λ (o : Option Round). closing_or (closed_by now o None) ph.since) closed.was

    -- no flush is counted at the turn's end
    tick_none : (ticked p (run p events).sender (last + p.step)).0.flushes ≡ 0
    tick_none = subst (λ (c : SenderState). (sends_in_time p now c).0.flushes ≡ 0) (sym closed.is) (by (wants_after p s closed.x.asked) refl)
      where
        c : SenderState
        c = round_closed p closed.x (run p events).sender

        none : (round_closed p closed.x (run p events).sender).flushes ≡ 0
        none = ap (λ (b : Bool). elim b as (λ _. ℕ) [ true ↦ 0 | false ↦ s.flushes ])
            ((Decides-ltb (length (run p events).sender.wants) (length (wants_after p (run p events).sender closed.x.asked))).1 closed.adds)

        by : (ws : List Want) → wants_after p (run p events).sender closed.x.asked ≡ ws → (sends_in_time p (last + p.step) (round_closed p closed.x (run p events).sender)).0.flushes ≡ 0
        by [] e = absurd (let adds = closed.adds in let long = ap (λ (ws : List Want). length ws) e in omega (arith, adds, long))
        by (y ∷ more) e = wants_flushes p now c y more e ∙ none

    none_counted : (tail_turn p draws (last + p.step) (course_from (run p events))).world.sender.flushes ≤ 0
    none_counted =
        round_keeps p draws now Kept each (λ c n k. k) (sender_ticks p now (course_from (run p events)))
        (tells_keep p draws now Kept each (λ c n k. k) (comes p (Ticked p.sender now) (course_from (run p events)))
        (let same = ap (λ (t : SenderState). t.flushes) (own_tick p (run p events) now) in let none = tick_none in omega (arith, same, none)))
      where
        Kept : Course → Type 0
        Kept c = c.world.sender.flushes ≤ 0

        each : (e : Event) → Quiet p e → IsAt (last + p.step) e → (c : Course) → c.world.sender.flushes ≤ 0 → (comes p e c).world.sender.flushes ≤ 0
        each e quiet at c le = let fewer = (event_count p c.world e quiet).few in omega (arith, fewer, le)

    pub next_watch : Watch p (phase_from (last + p.step)) (last + p.step) (tail_turn p draws (last + p.step) (course_from (run p events))).world
    next_watch = begun_watch waits p (phase_from now) now after (record {
      begins = record {
        goes_on = goes_on;
        often = often;
        twice = few;
        first = refl;
        since = (omega arith, omega arith);
        soon = omega arith;
        timely = watch_keeps.timely p events last draws f;
        runs_out = subst (λ (n : ℕ). RunsOut p (n + p.grtt) now after.sender) since_now (watch_keeps.runs_out p events last draws f ph h);
      };
      acked = or_right (nat_lt now (now + p.step)) (list_all owes_nothing after.receivers) (watch_ticks.acked p events last draws f may goes_on);
      later = watch_keeps.later p events last draws f;
      apart = or_left (now == now) _ ((Decides-eqb now now).1 refl);
      flushed = or_left (nat_le after.sender.flushes 0) _ (le_so after.sender.flushes 0 none_counted);
    })
