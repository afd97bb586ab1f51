-- A turn of a phase keeps what it waits for.
use Rattle.std.proofs.Common.{◌≡◌, ℕ, ◌+◌, ◌*◌, ◌<◌, ◌≤◌, List, Bool, true, false, Option, None, Some, refl, sym, ap, ◌∙◌, subst, arith, inl, inr}
use Rattle.std.specs.Prelude.{◌==◌, ◌&&◌, ◌||◌, not, nat_lt, nat_le, IfSome}
use Rattle.std.proofs.lemmas.Bool.Decides.{Decides-eqb, Decides-ltb}
use Rattle.norm_base.specs.Settings.{Settings}
use Rattle.norm_receive_rules.specs.ReceiverState.{ReceiverState}
use Rattle.norm_send_rules.specs.SenderState.{SenderState, Instance, Watermark}
use Rattle.norm_send_rules.specs.Watermarks.{oldest, has_member}
use Rattle.norm_safety.specs.Events.{Event}
use Rattle.norm_safety.specs.Tail.{Course}
use Rattle.norm_safety.specs.World.{World, receiver_at}
use Rattle.norm_safety.specs.WorldStep.{run}
use Rattle.norm_safety.proofs.EntryLemmas.{clash}
use Rattle.norm_recovery.specs.Flush.{KnowsFlush}
use Rattle.norm_recovery.specs.Watch.{Phase, each_member, flushed_at, most_held, is_behind, is_waited, closes_soon, knows_flush, is_spent, Watch}
use Rattle.norm_recovery.specs.WatchKeeps.{turn_after}
use Rattle.norm_recovery.proofs.BeforeFlush.{le_so, or_left}
use Rattle.norm_recovery.proofs.CleanSteps.{both}
use Rattle.norm_recovery.proofs.PhaseTurn.{InPhase}
use Rattle.norm_recovery.proofs.WatchFlushes.{le_of}
use Rattle.norm_recovery.proofs.WatchSpent.{was_there, each_after}
use Rattle.norm_recovery.proofs.WaitsAfter.{known_so, current_is}
use Rattle.std.specs.Option.{option_map}
use Rattle.norm_safety.specs.Recovery.{IsOldest}
use Rattle.norm_recovery.specs.RunsOut.{RunsOut, to_send, last_closing}
use Rattle.norm_recovery.specs.Watch.{is_waiting, flushed_before, sends_soon, waits_to_send}
use Rattle.norm_recovery.specs.WatchCleans.{LeavesNoLess}
use Rattle.norm_recovery.specs.WatchKeeps.{goes_to}
use Rattle.norm_recovery.specs.WatchWaits.{InTail, Begins, WaitsOn, WatchWaits}
use Rattle.norm_recovery.proofs.AfterFlush.{AfterFlush, after_is, after_so, after_turn, few_of}
use Rattle.norm_recovery.proofs.AskBefore.{flushes_then, before_turn, turn_not_late}
use Rattle.norm_recovery.proofs.BeforeFlush.{BeforeFlush, before_so, Soon}
use Rattle.norm_recovery.proofs.BehindThen.{some_behind, same_oldest}
use Rattle.norm_recovery.proofs.FlushAt as at_flush
use Rattle.norm_recovery.proofs.FlushKnown.{GivesFlush}

-- ---- as a phase begins

begins : (p : Settings) (ph : Phase) (now : ℕ) (w : World) → Begins p ph now w → is_waiting p ph now w ≡ true
begins p ph now w h =
    subst (λ (o : Option ℕ). (elim o as (λ _. Bool) [
      | Some flush ↦ nat_le (most_held p ph) flush && nat_le flush now && nat_le (2 * flush) (2 * most_held p ph + 5 * p.grtt + 2 * (p.gap + p.step))
          && each_member (knows_flush w.sender) w && not (each_member (λ r. not (is_behind w.sender r)) w)
          && each_member (is_waited p flush w.sender) w && closes_soon p flush now w.sender
      | None ↦ flushed_before p ph w.sender && sends_soon p ph w.sender && waits_to_send p ph now w.sender
    ]) ≡ true) (sym h.first) (before_so p ph now w.sender (record { early = early w.sender.last_flush h.timely.sender.flush; soon = soon h.runs_out; waits = inl waits }))
  where
    far : now + 2 * p.grtt ≤ most_held p ph
    far =
        let a : (2 * p.k + 4) * p.grtt ≡ 2 * (p.k * p.grtt) + 4 * p.grtt = grind arith in
        let le = h.soon in
        omega (arith, a, le)

    some : 1 ≤ p.grtt
    some = let few = h.twice in let goes = h.goes_on in omega (arith, few, goes)

    waits : now < most_held p ph + 2 * p.grtt
    waits = let le = far in let least = some in omega (arith, le, least)

    early : (o : Option ℕ) → IfSome o (λ m. m ≤ now) → IfSome o (λ m. m < most_held p ph)
    early None e = tt
    early (Some m) e = let le = far in let least = some in omega (arith, e, le, least)

    soon : RunsOut p (ph.since + p.grtt) now w.sender
        → Soon p.grtt p.gap p.step (most_held p ph) ph.since (w.sender.next_send + to_send p w.sender * (p.gap + p.step))
    soon (inl nothing) =
        let all : to_send p w.sender * (p.gap + p.step) ≡ 0 =
        ap (λ (n : ℕ). n * (p.gap + p.step)) nothing ∙ (let z : 0 * (p.gap + p.step) ≡ 0 = omega arith in z) in
        let send = h.timely.sender.send in
        let le = far in
        inl (omega (arith, all, send, le))
    soon (inr (first, fit)) = let le = far in let since = h.since.1 in inl (omega (arith, fit, le, since))

-- ---- and after a turn

oldest_of : (s : SenderState) (mark : ℕ) → IsOldest s mark → (w : Watermark) × (oldest s ≡ Some w)
oldest_of s mark e = go (oldest s) refl e
  where
    none_some : None ≡ Some mark → ⊥
    none_some e = cc

    go : (o : Option Watermark) → oldest s ≡ o → option_map (λ (w : Watermark). w.mark) o ≡ Some mark → (w : Watermark) × (oldest s ≡ Some w)
    go None is e = absurd (none_some e)
    go (Some w) is e = (w, is)

module _ (p : Settings) (events : List Event) (last : ℕ) (draws : ℕ → ℕ) (ph : Phase) (h : InPhase p events last ph) (w : Watermark)
    (old : oldest (run p events).sender ≡ Some w) (kept : oldest (turn_after p draws events last).world.sender ≡ Some w) where
  abbrev turn : Course
  turn = turn_after p draws events last

  abbrev u : SenderState
  u = (turn_after p draws events last).world.sender

  -- late in the phase all is spent
  spent : ph.began + 2 * p.grtt ≤ last → is_spent p (run p events) ≡ true
  spent le = go (nat_lt (ph.began + p.grtt) ph.since) (nat_le (ph.began + 2 * p.grtt) last) (le_so (ph.began + 2 * p.grtt) last le) h.watch.spent
    where
      go : (a b : Bool) → b ≡ true → (not (a || b) || is_spent p (run p events)) ≡ true → is_spent p (run p events) ≡ true
      go true b e f = f
      go false true e f = f
      go false false e f = absurd (clash e)

  waiting_by : Option ℕ → Bool
  waiting_by o = is_waiting p (record (goes_to ph turn) { first = o }) (last + p.step) turn.world

  -- after its flush
  after : (flush : ℕ) → ph.first ≡ Some flush → WaitsOn p (goes_to ph (turn_after p draws events last)) (last + p.step) (turn_after p draws events last).world
  after flush is = record {
    first = Some flush;
    waits = after_so p ph flush (last + p.step) turn.world (after_turn p events last draws ph h (spent long) w old kept flush b);
  }
    where
      b : AfterFlush p ph flush last (run p events)
      b = after_is p ph flush last (run p events) (subst (λ (o : Option ℕ). (elim o as (λ _. Bool) [
        | Some flush ↦ nat_le (most_held p ph) flush && nat_le flush last && nat_le (2 * flush) (2 * most_held p ph + 5 * p.grtt + 2 * (p.gap + p.step))
            && each_member (knows_flush (run p events).sender) (run p events) && not (each_member (λ r. not (is_behind (run p events).sender r)) (run p events))
            && each_member (is_waited p flush (run p events).sender) (run p events) && closes_soon p flush last (run p events).sender
        | None ↦ flushed_before p ph (run p events).sender && sends_soon p ph (run p events).sender && waits_to_send p ph last (run p events).sender
      ]) ≡ true) is h.watch.asking)

      long : ph.began + 2 * p.grtt ≤ last
      long =
          let a : (2 * p.k + 4) * p.grtt ≡ 2 * (p.k * p.grtt) + 4 * p.grtt = grind arith in
          let held = b.held in
          let gone = b.gone in
          omega (arith, a, held, gone)

  -- the turn of its flush
  flushes : ph.first ≡ None → (flushed_at (last + p.step) u && nat_le (most_held p ph) (last + p.step)) ≡ true
      → WaitsOn p (goes_to ph (turn_after p draws events last)) (last + p.step) (turn_after p draws events last).world
  flushes none e = record {
    first = Some (last + p.step);
    waits = after_so p ph (last + p.step) (last + p.step) turn.world (record {
      held = late;
      gone = omega arith;
      in_time = turn_not_late p events last draws ph h w old none;
      known = of_each (knows_flush u) (λ node other member r t found is. known_so u w t kept
          (subst (λ (i : Instance). KnowsFlush t i.id w.at) (sym (current_is p events last draws ph h all w old kept))
          (at_flush.knows p events last draws ph h all w old kept gives late node other member r t found is)));
      some = some_behind p events last draws ph h all w old kept gives late;
      waited = of_each (is_waited p (last + p.step) u) (λ node other member r t found is. at_flush.waited p events last draws ph h all w old kept gives late node other member r t found is);
      soon = or_left (nat_lt (last + p.step) (last + p.step + p.k * p.grtt + 2 * p.step))
          (elim u.round as (λ _. Bool) [ Some r ↦ nat_le r.closes (last + p.step + (2 * p.k + 1) * p.grtt + 3 * p.step) | None ↦ false ])
          ((Decides-ltb (last + p.step) (last + p.step + p.k * p.grtt + 2 * p.step)).1 (let goes = h.goes_on in omega (arith, goes)));
    });
  }
    where
      two : (flushed_at (last + p.step) u ≡ true) × (nat_le (most_held p ph) (last + p.step) ≡ true)
      two = both (flushed_at (last + p.step) u) (nat_le (most_held p ph) (last + p.step)) e

      late : most_held p ph ≤ last + p.step
      late = le_of (most_held p ph) (last + p.step) two.1

      all : is_spent p (run p events) ≡ true
      all = spent (
          let a : (2 * p.k + 4) * p.grtt ≡ 2 * (p.k * p.grtt) + 4 * p.grtt = grind arith in
          let le = late in
          let few = few_of p events last ph h in
          omega (arith, a, le, few)
          )

      last_is : u.last_flush ≡ Some (last + p.step)
      last_is = go u.last_flush refl two.0
        where
          go : (o : Option ℕ) → u.last_flush ≡ o → (elim o as (λ _. Bool) [ Some m ↦ m == last + p.step | None ↦ false ]) ≡ true → u.last_flush ≡ Some (last + p.step)
          go None is f = absurd (clash f)
          go (Some m) is f = is ∙ ap (λ (n : ℕ). Some n) ((Decides-eqb m (last + p.step)).0 f)

      gives : GivesFlush p (last + p.step) (run p events).sender w
      gives = record { is_oldest = old; gives = flushes_then p events last draws ph h w old last_is }

      of_each : (test : ReceiverState → Bool)
          → ((node : ℕ) → (node == p.sender) ≡ false → has_member node (run p events).sender ≡ true → (r t : ReceiverState) → receiver_at (run p events) node ≡ Some r
          → receiver_at turn.world node ≡ Some t → test t ≡ true)
          → each_member test turn.world ≡ true
      of_each test each =
          each_after p events last draws h.follows h.may h.no_less test
          (λ x there member. let was = was_there p events last draws h.follows h.may h.no_less x there in each x.node was.other member was.r x was.found there)

  -- before its flush
  waits_on : WaitsOn p (goes_to ph (turn_after p draws events last)) (last + p.step) (turn_after p draws events last).world
  waits_on = go ph.first refl (flushed_at (last + p.step) u && nat_le (most_held p ph) (last + p.step)) refl
    where
      go : (o : Option ℕ) → ph.first ≡ o → (b : Bool) → (flushed_at (last + p.step) u && nat_le (most_held p ph) (last + p.step)) ≡ b
          → WaitsOn p (goes_to ph (turn_after p draws events last)) (last + p.step) (turn_after p draws events last).world
      go (Some flush) is b e = after flush is
      go None is true e = flushes is e
      go None is false e = record {
        first = None;
        waits = before_so p (goes_to ph turn) (last + p.step) u (record { early = (b is e).early; soon = (b is e).soon; waits = (b is e).waits });
      }
        where
          b : (none : ph.first ≡ None) → (flushed_at (last + p.step) u && nat_le (most_held p ph) (last + p.step)) ≡ false
              → BeforeFlush p ph (last + p.step) (last_closing ph.since (turn_after p draws events last).happened) u
          b none e = before_turn p events last draws ph h w old none e

keeps : (p : Settings) (events : List Event) (last mark : ℕ) (draws : ℕ → ℕ) → InTail p events last mark → LeavesNoLess p (last + p.step) (run p events)
    → IsOldest (turn_after p draws events last).world.sender mark → (ph : Phase) → ph.counted + 2 * p.k ≤ 15 → Watch p ph last (run p events)
    → WaitsOn p (goes_to ph (turn_after p draws events last)) (last + p.step) (turn_after p draws events last).world
keeps p events last mark draws tail no_less then ph few watch =
    waits_on p events last draws ph h before.0 before.1 (same_oldest p tail.follows.profile events draws (last + p.step) mark before.0 before.1 tail.oldest then)
  where
    h : InPhase p events last ph
    h = record {
      follows = tail.follows;
      may = tail.may;
      holds = tail.holds;
      none = tail.streams;
      goes_on = tail.goes_on;
      often = tail.often;
      few = few;
      no_less = no_less;
      watch = watch;
    }

    before : (w : Watermark) × (oldest (run p events).sender ≡ Some w)
    before = oldest_of (run p events).sender mark tail.oldest

pub watch_waits : WatchWaits
watch_waits = record { begins = begins; keeps = keeps }
