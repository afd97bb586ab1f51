-- A tail satisfies its watermark within its bound: by the phases, each of which leaves less than the one before.
use Rattle.std.proofs.Common.{◌≡◌, ℕ, zero, suc, ◌+◌, ◌*◌, ◌<◌, ◌≤◌, cond, List, [], ◌∷◌, ◌++◌, length, Bool, true, false, Option, None, Some, refl, sym, ap, ◌∙◌, subst, arith, ◌⊎◌, inl, inr}
use Rattle.std.specs.Prelude.{◌==◌, find, nat_lt}
use Rattle.std.specs.List.{AllByRecursion, range_with_len}
use Rattle.std.specs.Option.{option_map, option_map_or}
use Rattle.std.proofs.Math.Nat.{mul-le-mul_right}
use Rattle.std.proofs.lemmas.Bool.{cases_lt}
use Rattle.std.proofs.lemmas.Bool.Decides.{Decides-eqb, Decides-ltb}
use Rattle.std.proofs.lemmas.Grind.{div_ceil_times}
use Rattle.std.proofs.lemmas.List.{map-append}
use Rattle.norm_base.specs.Settings.{Settings, InRange}
use Rattle.norm_send_rules.specs.Flushing.{most_flushes, may_flush}
use Rattle.norm_send_rules.specs.Reached.{marks_of}
use Rattle.norm_send_rules.specs.Repairable.{repairable, streams}
use Rattle.norm_send_rules.specs.SenderState.{SenderState, Instance, Watermark}
use Rattle.norm_send_rules.specs.Ticking.{closed_where_due}
use Rattle.norm_send_rules.specs.Watermarks.{is_open, oldest, outcome_of, watermark_of}
use Rattle.norm_send_rules.specs.declared.news.Outcome.{Outcome}
use Rattle.norm_send_rules.proofs.ReachedLemmas.{reached_laws}
use Rattle.norm_safety.specs.Events.{Event, Commanded, Delivered, Ticked, Offered, UpTaken, NewsAsked}
use Rattle.norm_safety.specs.History.{Happening}
use Rattle.norm_safety.specs.InTime.{FewObjects}
use Rattle.norm_safety.specs.Recovery.{ComesBy, IsOldest, IsPaced, MayRecover, is_satisfied_mark}
use Rattle.norm_safety.specs.Tail.{Course, course_from, events_of, comes, sender_ticks, tail_turn, tail_turns, tail_time, tail_bound, says_open, is_open_mark}
use Rattle.norm_safety.specs.World.{World, world_opening}
use Rattle.norm_safety.specs.WorldStep.{run}
use Rattle.norm_safety.proofs.EntryLemmas.{clash}
use Rattle.norm_safety.proofs.WorldHolds.{all_end}
use Rattle.norm_safety.proofs.WorldLemmas.{world_laws}
use Rattle.norm_laws.proofs.LaterTailLemmas.{Quiet}
use Rattle.norm_recovery.specs.FewRecover.{turns_after, Recovers, FewRecover}
use Rattle.norm_recovery.specs.Left.{left}
use Rattle.norm_recovery.specs.TailKeeps.{Stays}
use Rattle.norm_recovery.specs.TailLawful.{MayGoOn, GoesOn}
use Rattle.norm_recovery.specs.Watch.{Phase, Watch}
use Rattle.norm_recovery.specs.WatchGoesOn.{phase_from, ComesTo, Satisfied, Lasts, Begins}
use Rattle.norm_recovery.specs.WatchWaits.{InTail, WatchWaits}
use Rattle.norm_recovery.proofs.EarlyEnd.{early_end}
use Rattle.norm_recovery.proofs.KeepsSender.{quiet_run_stays}
use Rattle.norm_recovery.proofs.LawfulTail.{goes_on}
use Rattle.norm_recovery.proofs.LeftCounts.{left_tells}
use Rattle.norm_recovery.proofs.MarksTurn.{mark_goes}
use Rattle.norm_recovery.proofs.NackAsks.{run_reached}
use Rattle.norm_recovery.proofs.PhaseBegins.{first_phase, first_watch}
use Rattle.norm_recovery.proofs.RunsOutTail.{same_window}
use Rattle.norm_recovery.proofs.RunsOutTurns.{IsAt, tells_keep, round_keeps}
use Rattle.norm_recovery.proofs.TailCourses.{IsCalm, comes_calm, begins_calm, draw_calm}
use Rattle.norm_recovery.proofs.TailShift.{shift, turns_from, no_turns, one_more}
use Rattle.norm_recovery.proofs.TailWalk.{turn_keeps}
use Rattle.norm_recovery.proofs.TickDoes.{closed_leaves}
use Rattle.norm_recovery.proofs.WatchEnds.{watch_ends}
use Rattle.norm_recovery.proofs.WatchNext.{watch_goes_on}
use Rattle.norm_recovery.proofs.WatchTurn.{by_moment}

-- ---- an oldest watermark is open

some_is : {X : Type 0} (x y : X) → Some x ≡ Some y → x ≡ y
some_is x y e = cc

no_some : {X : Type 0} (x : X) → None ≡ Some x → ⊥
no_some x e = cc

same_heads : {a b : ℕ} {xs ys : List ℕ} → (a ∷ xs) ≡ (b ∷ ys) → a ≡ b
same_heads e = cc

same_rests : {a b : ℕ} {xs ys : List ℕ} → (a ∷ xs) ≡ (b ∷ ys) → xs ≡ ys
same_rests e = cc

-- by numbers that count up, the oldest open one is found by its number
numbered : (k : ℕ) (ws : List Watermark) (w : Watermark) → marks_of ws ≡ range_with_len (suc k) (length ws) → find is_open ws ≡ Some w
    → (find (λ (x : Watermark). x.mark == w.mark) ws ≡ Some w) × (k < w.mark) × (is_open w ≡ true)
numbered k [] w e is = absurd (no_some w is)
numbered k (x ∷ ws) w e is = go (is_open x) refl is (numbered (suc k) ws w rest)
  where
    head : x.mark ≡ suc k
    head = same_heads e

    rest : marks_of ws ≡ range_with_len (suc (suc k)) (length ws)
    rest = same_rests e ∙ ap (λ (n : ℕ). range_with_len n (length ws)) (let h : suc k + 1 ≡ suc (suc k) = omega arith in h)

    F : Option Watermark
    F = find (λ (y : Watermark). y.mark == w.mark) ws

    go : (b : Bool) → is_open x ≡ b → cond b (Some x) (find is_open ws) ≡ Some w
        → (find is_open ws ≡ Some w → (find (λ (y : Watermark). y.mark == w.mark) ws ≡ Some w) × (suc k < w.mark) × (is_open w ≡ true))
        → (find (λ (y : Watermark). y.mark == w.mark) (x ∷ ws) ≡ Some w) × (k < w.mark) × (is_open w ≡ true)
    go true f g more =
        let same = some_is x w g in (
          ap (λ (b : Bool). cond b (Some x) F) ((Decides-eqb x.mark w.mark).1 (ap (λ (y : Watermark). y.mark) same)) ∙ g,
          (let own = ap (λ (y : Watermark). y.mark) same in let at = head in omega (arith, own, at)),
          ap is_open (sym same) ∙ f,
        )
    go false f g more =
        let found = more g in (
          ap (λ (b : Bool). cond b (Some x) F) (apart (x.mark == w.mark) refl found.1) ∙ found.0,
          (let lt = found.1 in omega (arith, lt)),
          found.2,
        )
      where
        apart : (b : Bool) → (x.mark == w.mark) ≡ b → suc k < w.mark → b ≡ false
        apart true i lt = absurd (let same = (Decides-eqb x.mark w.mark).0 i in let at = head in omega (arith, same, at, lt))
        apart false i lt = refl

module _ (p : Settings) (events : List Event) (mark : ℕ) where
  open_oldest : InRange p → IsOldest (run p events).sender mark → is_open_mark (run p events) mark ≡ true
  open_oldest range is = go (oldest s) refl is
    where
      s : SenderState
      s = (run p events).sender

      says : Option Watermark → Bool
      says o = option_map_or says_open (option_map (outcome_of s) o) false

      outcome : (w : Watermark) → is_open w ≡ true → says_open (outcome_of s w) ≡ true
      outcome w e = by w.ended e
        where
          by : (o : Option Outcome) → is_open (record w { ended = o }) ≡ true → says_open (outcome_of s (record w { ended = o })) ≡ true
          by None f = refl
          by (Some o) f = absurd (clash f)

      go : (o : Option Watermark) → oldest s ≡ o → option_map (λ (w : Watermark). w.mark) o ≡ Some mark → is_open_mark (run p events) mark ≡ true
      go None e f = absurd (no_some mark f)
      go (Some w) e f =
          let n = numbered 0 s.watermarks w (run_reached p range (world_opening p) events (reached_laws.at_first p p.instance range)).book.numbered e in
          ap (λ (m : ℕ). says (watermark_of s m)) (sym (some_is w.mark mark f)) ∙ ap says n.0 ∙ outcome w n.2

-- ---- moments

span : (m k g : ℕ) → (m * ((8 * k + 19) * g) ≡ 8 * (m * (k * g)) + 19 * (m * g)) × ((m + 1) * (4 * k + 10) * g ≡ 4 * (m * (k * g)) + 10 * (m * g) + 4 * (k * g) + 10 * g)
span m k g = (grind arith, grind arith)

-- while a phase lasts the bound is not reached
in_bound : (m k g t began last spent rest : ℕ) → 1 ≤ g → 4 * last ≤ 4 * began + (16 * k + 37) * g → 2 * began + rest ≤ 2 * t + m * ((8 * k + 19) * g) → last ≡ t + spent
    → spent < (m + 1) * (4 * k + 10) * g
in_bound m k g t began last spent rest some short time moment =
    let a = (span m k g).0 in let b = (span m k g).1 in
    let c : (16 * k + 37) * g ≡ 16 * (k * g) + 37 * g = grind arith in
    omega (arith, some, short, time, moment, a, b, c)

-- and there is a round trip left
fits_some : (m k g step t began last rest : ℕ) → 4 * step ≤ g → 4 * last ≤ 4 * began + (16 * k + 37) * g → 2 * began + rest ≤ 2 * t + suc m * ((8 * k + 19) * g)
    → last + step + g ≤ t + (suc m + 1) * (4 * k + 10) * g
fits_some m k g step t began last rest small short time =
    let a = (span (suc m) k g).0 in let b = (span (suc m) k g).1 in
    let c : (16 * k + 37) * g ≡ 16 * (k * g) + 37 * g = grind arith in
    let d : suc m * g ≡ m * g + g = grind arith in
    omega (arith, small, short, time, a, b, c, d)

fits_none : (k g step t began last rest : ℕ) → 4 * step ≤ g → 4 * last ≤ 4 * began + (16 * k + 35) * g → 2 * began + rest ≤ 2 * t + 0 * ((8 * k + 19) * g)
    → last + step + g ≤ t + (0 + 1) * (4 * k + 10) * g
fits_none k g step t began last rest small short time =
    let a = (span 0 k g).0 in let b = (span 0 k g).1 in
    let c : (16 * k + 35) * g ≡ 16 * (k * g) + 35 * g = grind arith in
    let d : 0 * g ≡ 0 = omega arith in
    let e : 0 * (k * g) ≡ 0 = omega arith in
    omega (arith, small, short, time, a, b, c, d, e)

-- the next phase begins in time
next_time : (k g step began last : ℕ) → 4 * step ≤ g → 4 * last ≤ 4 * began + (16 * k + 37) * g → 2 * (last + step) ≤ 2 * began + (8 * k + 19) * g
next_time k g step began last small short =
    let a : (16 * k + 37) * g ≡ 16 * (k * g) + 37 * g = grind arith in
    let b : (8 * k + 19) * g ≡ 8 * (k * g) + 19 * g = grind arith in
    omega (arith, small, short, a, b)

-- ---- turn by turn

module _ (waits : WatchWaits) (p : Settings) (m began0 mark bound : ℕ) (enough : (m + 1) * (4 * p.k + 10) * p.grtt ≤ bound * p.step)
    (fits : began0 + bound * p.step ≤ 18446744073709551615) where
  abbrev cost : ℕ
  cost = (8 * p.k + 19) * p.grtt

  -- A turn ended in a phase that is in time for the bound.
  record State (events : List Event) (last i : ℕ) : Type 0 where
    tail : InTail p events last mark
    ph : Phase
    few : ph.counted + 2 * p.k ≤ 15
    watch : Watch p ph last (run p events)
    window : repairable p (run p events).sender ≡ m
    time : 2 * ph.began + left p (run p events) * ((8 * p.k + 19) * p.grtt) ≤ 2 * began0 + m * ((8 * p.k + 19) * p.grtt)
    moment : last ≡ began0 + i * p.step

  -- from here so many turns satisfy the watermark
  record Ends (events : List Event) (last : ℕ) (draws : ℕ → ℕ) (i : ℕ) : Type 0 where
    turns : ℕ
    within : i + turns ≤ bound
    satisfied : is_satisfied_mark (turns_after p draws events last turns).world mark ≡ true
    before : (n : ℕ) → n < turns → is_open_mark (turns_after p draws events last n).world mark ≡ true

  pace_of : (events : List Event) (last : ℕ) → InTail p events last mark → (counted : ℕ) → counted + 2 * p.k ≤ 15 → IsPaced p (record (run p events).sender { flushes = 0 })
  pace_of events last t counted few = record { goes_on = t.goes_on; often = t.often; twice = t.follows.twice; flushes = omega (arith, few) }

  small : (events : List Event) (last : ℕ) → InTail p events last mark → 4 * p.step ≤ p.grtt
  small events last t = go (repairable p (run p events).sender) t.follows.twice
    where
      go : (n : ℕ) → 2 * (n + 1) * (p.gap + p.step) ≤ p.grtt → 4 * p.step ≤ p.grtt
      go n le =
          let more : 2 * (n + 1) * (p.gap + p.step) ≡ 2 * (n * (p.gap + p.step)) + 2 * (p.gap + p.step) = grind arith in
          let often = t.often in
          omega (arith, le, more, often)

  ends_of : (events : List Event) (last i : ℕ) (x : State events last i) → 4 * last ≤ 4 * x.ph.began + (16 * p.k + 37) * p.grtt
  ends_of events last i x =
      watch_ends.ends p (record (run p events).sender { flushes = 0 }) (pace_of events last x.tail x.ph.counted x.few) x.ph last (run p events) x.watch

  -- so not all turns are spent
  not_spent : (events : List Event) (last i : ℕ) → State events last i → i < bound
  not_spent events last i x = go (cases_lt i bound)
    where
      go : (i < bound) ⊎ (bound ≤ i) → i < bound
      go (inl lt) = lt
      go (inr le) = absurd (
          let most : bound * p.step ≤ i * p.step = mul-le-mul_right p.step le in
          let lt = in_bound m p.k p.grtt began0 x.ph.began last (i * p.step) (left p (run p events) * ((8 * p.k + 19) * p.grtt)) x.tail.follows.profile.grtt.0
          (ends_of events last i x) x.time x.moment in
          let all = enough in
          omega (arith, most, lt, all)
          )

  module _ (events : List Event) (last i : ℕ) (draws : ℕ → ℕ) (t : InTail p events last mark) (window : repairable p (run p events).sender ≡ m)
      (moment : last ≡ began0 + i * p.step) where
    abbrev turn : Course
    turn = tail_turn p draws (last + p.step) (course_from (run p events))

    abbrev after : World
    after = (tail_turn p draws (last + p.step) (course_from (run p events))).world

    abbrev ran : List Event
    ran = events ++ events_of (tail_turn p draws (last + p.step) (course_from (run p events)))

    calm : IsCalm p (run p events) (tail_turn p draws (last + p.step) (course_from (run p events)))
    calm = turn_keeps p draws (IsCalm p (run p events)) (λ c h. h.nodes ∙ world_laws.nodes p events) (comes_calm p (run p events)) (draw_calm p (run p events)) (last + p.step)
        (course_from (run p events)) (begins_calm p (run p events))

    on : GoesOn p events (tail_turn p draws (last + p.step) (course_from (run p events)))
    on = goes_on p t.follows.profile events t.may turn calm

    stays : Stays (run p events).sender (tail_turn p draws (last + p.step) (course_from (run p events))).world.sender
    stays = subst (λ (v : World). Stays (run p events).sender v.sender) calm.leads (quiet_run_stays p (run p events) (events_of turn) calm.quiet)

    -- all comes by the turn's moment
    by_now : AllByRecursion (ComesBy (last + p.step)) (events ++ events_of (tail_turn p draws (last + p.step) (course_from (run p events))))
    by_now = joined events (earlier events t.follows.before)
        (round_keeps p draws (last + p.step) Kept each (λ c n k. k) (sender_ticks p (last + p.step) (course_from (run p events)))
        (tells_keep p draws (last + p.step) Kept each (λ c n k. k) (comes p (Ticked p.sender (last + p.step)) (course_from (run p events))) (omega arith, tt)))
      where
        Kept : Course → Type 0
        Kept c = AllByRecursion (ComesBy (last + p.step)) (events_of c)

        each : (e : Event) → Quiet p e → IsAt (last + p.step) e → (c : Course) → AllByRecursion (ComesBy (last + p.step)) (events_of c)
            → AllByRecursion (ComesBy (last + p.step)) (events_of (comes p e c))
        each e quiet at c h =
            subst (AllByRecursion (ComesBy (last + p.step))) (sym (map-append (λ (x : Happening). x.event) c.happened _))
            (all_end (ComesBy (last + p.step)) (events_of c) e h (by_moment (last + p.step) e at))

        one : (e : Event) → ComesBy last e → ComesBy (last + p.step) e
        one (Commanded by job at) le = omega (arith, le)
        one (Delivered node datagram at draw) le = omega (arith, le)
        one (Ticked node at) le = omega (arith, le)
        one (Offered node datagram) le = tt
        one (UpTaken node) le = tt
        one NewsAsked le = tt

        earlier : (es : List Event) → AllByRecursion (ComesBy last) es → AllByRecursion (ComesBy (last + p.step)) es
        earlier [] h = tt
        earlier (e ∷ es) h = (one e h.0, earlier es h.1)

        joined : (xs : List Event) → AllByRecursion (ComesBy (last + p.step)) xs → AllByRecursion (ComesBy (last + p.step)) (events_of turn)
            → AllByRecursion (ComesBy (last + p.step)) (xs ++ events_of turn)
        joined [] h g = g
        joined (x ∷ xs) h g = (h.0, joined xs h.1 g)

    window_on : repairable p (run p (events ++ events_of (tail_turn p draws (last + p.step) (course_from (run p events))))).sender ≡ m
    window_on = ap (λ (v : World). repairable p v.sender) on.leads ∙ same_window p (run p events).sender after.sender stays.current ∙ window

    -- the state after the turn
    goes_to_next : IsOldest (tail_turn p draws (last + p.step) (course_from (run p events))).world.sender mark → (ph : Phase) → ph.counted + 2 * p.k ≤ 15
        → Watch p ph (last + p.step) (tail_turn p draws (last + p.step) (course_from (run p events))).world
        → 2 * ph.began + left p (tail_turn p draws (last + p.step) (course_from (run p events))).world * ((8 * p.k + 19) * p.grtt) ≤ 2 * began0 + m * ((8 * p.k + 19) * p.grtt)
        → State (events ++ events_of (tail_turn p draws (last + p.step) (course_from (run p events)))) (last + p.step) (suc i)
    goes_to_next old ph few w time = record {
      tail = record {
        follows = record {
          profile = t.follows.profile;
          before = by_now;
          twice = subst (λ (n : ℕ). 2 * (n + 1) * (p.gap + p.step) ≤ p.grtt) (window ∙ sym window_on) t.follows.twice;
          fits = (let le = left_over m refl in let all = enough in let most = fits in omega (arith, le, all, most));
        };
        may = on.again;
        holds = t.holds;
        streams = ap (λ (v : World). streams v.sender) on.leads ∙ ap (λ (x : Instance). streams (record (after.sender) { current = x })) stays.current ∙ t.streams;
        oldest = subst (λ (v : World). IsOldest v.sender mark) (sym on.leads) old;
        goes_on = t.goes_on;
        often = t.often;
      };
      ph = ph;
      few = few;
      watch = subst (Watch p ph (last + p.step)) (sym on.leads) w;
      window = window_on;
      time = subst (λ (v : World). 2 * ph.began + left p v * ((8 * p.k + 19) * p.grtt) ≤ 2 * began0 + m * ((8 * p.k + 19) * p.grtt)) (sym on.leads) time;
      moment = (let at = moment in let one : suc i * p.step ≡ i * p.step + p.step = grind arith in omega (arith, at, one));
    }
      where
        pace : IsPaced p (record (run p events).sender { flushes = 0 })
        pace = pace_of events last t ph.counted few

        rest : ℕ
        rest = left p after * ((8 * p.k + 19) * p.grtt)

        window_after : repairable p after.sender ≡ m
        window_after = same_window p (run p events).sender after.sender stays.current ∙ window

        left_over : (n : ℕ) → m ≡ n → (last + p.step) + p.step + p.grtt ≤ began0 + (m + 1) * (4 * p.k + 10) * p.grtt
        left_over zero e =
            subst (λ (n : ℕ). (last + p.step) + p.step + p.grtt ≤ began0 + (n + 1) * (4 * p.k + 10) * p.grtt) (sym e)
            (fits_none p.k p.grtt p.step began0 ph.began (last + p.step) rest (small events last t)
            (early_end p (record (run p events).sender { flushes = 0 }) pace ph (last + p.step) after w (window_after ∙ e))
            (subst (λ (n : ℕ). 2 * ph.began + rest ≤ 2 * began0 + n * ((8 * p.k + 19) * p.grtt)) e time))
        left_over (suc n) e =
            subst (λ (n : ℕ). (last + p.step) + p.step + p.grtt ≤ began0 + (n + 1) * (4 * p.k + 10) * p.grtt) (sym e)
            (fits_some n p.k p.grtt p.step began0 ph.began (last + p.step) rest (small events last t)
            (watch_ends.ends p (record (run p events).sender { flushes = 0 }) pace ph (last + p.step) after w)
            (subst (λ (n : ℕ). 2 * ph.began + rest ≤ 2 * began0 + n * ((8 * p.k + 19) * p.grtt)) e time))

    open_now : is_open_mark (turns_after p draws events last 0).world mark ≡ true
    open_now = ap (λ (c : Course). is_open_mark c.world mark) (no_turns p draws last (course_from (run p events))) ∙ open_oldest p events mark t.follows.profile t.oldest

    turns_more : (n : ℕ) → (turns_after p draws events last (suc n)).world
        ≡ (turns_after p (shift (tail_turn p draws (last + p.step) (course_from (run p events))).used draws)
        (events ++ events_of (tail_turn p draws (last + p.step) (course_from (run p events)))) (last + p.step) n).world
    turns_more n =
        ap (λ (c : Course). c.world) (one_more p draws n last (course_from (run p events)))
        ∙ turns_from p draws n (last + p.step) turn
        ∙ ap (λ (v : World). (tail_turns n p (shift turn.used draws) (last + p.step) (course_from v)).world) (sym on.leads)

    -- the turn satisfied it
    ends_now : is_satisfied_mark (tail_turn p draws (last + p.step) (course_from (run p events))).world mark ≡ true → i < bound → Ends events last draws i
    ends_now met lt = record {
      turns = 1;
      within = omega (arith, lt);
      satisfied = ap (λ (c : Course). is_satisfied_mark c.world mark) (one_more p draws 0 last (course_from (run p events)) ∙ no_turns p draws (last + p.step) turn) ∙ met;
      before = λ n less. go n less;
    }
      where
        go : (n : ℕ) → n < 1 → is_open_mark (turns_after p draws events last n).world mark ≡ true
        go zero less = open_now
        go (suc n) less = absurd (omega (arith, less))

    -- it ends after the turn
    ends_later : Ends (events ++ events_of (tail_turn p draws (last + p.step) (course_from (run p events)))) (last + p.step)
        (shift (tail_turn p draws (last + p.step) (course_from (run p events))).used draws) (suc i) → Ends events last draws i
    ends_later e = record {
      turns = suc e.turns;
      within = (let most = e.within in omega (arith, most));
      satisfied = ap (λ (v : World). is_satisfied_mark v mark) (turns_more e.turns) ∙ e.satisfied;
      before = λ n less. go n less;
    }
      where
        go : (n : ℕ) → n < suc e.turns → is_open_mark (turns_after p draws events last n).world mark ≡ true
        go zero less = open_now
        go (suc n) less = ap (λ (v : World). is_open_mark v mark) (turns_more n) ∙ e.before n (omega (arith, less))

  walk : (n : ℕ) (events : List Event) (last i : ℕ) (draws : ℕ → ℕ) → State events last i → bound ≤ i + n → Ends events last draws i
  walk zero events last i draws x le = absurd (let lt = not_spent events last i x in omega (arith, lt, le))
  walk (suc n) events last i draws x le =
      go (watch_goes_on waits p events last mark draws x.tail x.ph x.few x.watch)
      (λ y. walk n (events ++ events_of (tail_turn p draws (last + p.step) (course_from (run p events)))) (last + p.step) (suc i)
      (shift (tail_turn p draws (last + p.step) (course_from (run p events))).used draws) y (omega (arith, le)))
    where
      lower : (a b c : ℕ) → a ≤ b → a * c ≤ b * c
      lower a b c le = mul-le-mul_right c le

      go : ComesTo p mark x.ph (last + p.step) (run p events) (tail_turn p draws (last + p.step) (course_from (run p events))).world
          → (State (events ++ events_of (tail_turn p draws (last + p.step) (course_from (run p events)))) (last + p.step) (suc i)
          → Ends (events ++ events_of (tail_turn p draws (last + p.step) (course_from (run p events)))) (last + p.step)
          (shift (tail_turn p draws (last + p.step) (course_from (run p events))).used draws) (suc i)) → Ends events last draws i
      go (Satisfied met) rec = ends_now events last i draws x.tail x.window x.moment met (not_spent events last i x)
      go (Lasts old less since first w) rec =
          ends_later events last i draws x.tail x.window x.moment
          (rec (goes_to_next events last i draws x.tail x.window x.moment old (record (x.ph) { since = since; first = first }) x.few w
          (let most = lower _ _ ((8 * p.k + 19) * p.grtt) less in let time = x.time in omega (arith, most, time))))
      go (Begins old less w) rec =
          ends_later events last i draws x.tail x.window x.moment
          (rec (goes_to_next events last i draws x.tail x.window x.moment old (phase_from (last + p.step)) (let few = x.few in omega (arith, few)) w
          (begins (left p (tail_turn p draws (last + p.step) (course_from (run p events))).world) (left p (run p events)) less x.time)))
        where
          begins : (a b : ℕ) → a < b → 2 * x.ph.began + b * ((8 * p.k + 19) * p.grtt) ≤ 2 * began0 + m * ((8 * p.k + 19) * p.grtt)
              → 2 * (last + p.step) + a * ((8 * p.k + 19) * p.grtt) ≤ 2 * began0 + m * ((8 * p.k + 19) * p.grtt)
          begins a b lt time =
              let most : (a + 1) * ((8 * p.k + 19) * p.grtt) ≤ b * ((8 * p.k + 19) * p.grtt) = lower (a + 1) b ((8 * p.k + 19) * p.grtt) (omega (arith, lt)) in
              let one : (a + 1) * ((8 * p.k + 19) * p.grtt) ≡ a * ((8 * p.k + 19) * p.grtt) + (8 * p.k + 19) * p.grtt = more a ((8 * p.k + 19) * p.grtt) in
              let next = next_time p.k p.grtt p.step x.ph.began last (small events last x.tail) (ends_of events last i x) in
              omega (arith, most, one, next, time)
            where
              more : (a c : ℕ) → (a + 1) * c ≡ a * c + c
              more a c = grind arith

-- ---- from the run before the tail

module _ (waits : WatchWaits) (p : Settings) (events : List Event) (last mark : ℕ) (draws : ℕ → ℕ) (h : MayRecover p events last mark)
    (few : FewObjects (run p events).sender) where
  abbrev s : SenderState
  s = (run p events).sender

  abbrev m : ℕ
  m = repairable p (run p events).sender

  abbrev bound : ℕ
  bound = tail_bound p (run p events).sender

  enough : (repairable p (run p events).sender + 1) * (4 * p.k + 10) * p.grtt ≤ tail_bound p (run p events).sender * p.step
  enough = (div_ceil_times (tail_time p s) p.step (let some = h.paced.goes_on in omega (arith, some))).0

  may : MayGoOn p events
  may = record { lawful = h.lawful; jobs = h.jobs; few = few }

  small0 : 4 * p.step ≤ p.grtt
  small0 = go m h.paced.twice
    where
      go : (n : ℕ) → 2 * (n + 1) * (p.gap + p.step) ≤ p.grtt → 4 * p.step ≤ p.grtt
      go n le =
          let more : 2 * (n + 1) * (p.gap + p.step) ≡ 2 * (n * (p.gap + p.step)) + 2 * (p.gap + p.step) = grind arith in
          let often = h.paced.often in
          omega (arith, le, more, often)

  begins : InTail p events last mark
  begins = record {
    follows = record {
      profile = h.profile;
      before = h.before;
      twice = h.paced.twice;
      fits = (
          let all = enough in
          let most = h.moments in
          let b = (span m p.k p.grtt).1 in
          let z = small0 in
          omega (arith, all, most, b, z)
          );
    };
    may = may;
    holds = h.holds;
    streams = h.streams;
    oldest = h.oldest;
    goes_on = h.paced.goes_on;
    often = h.paced.often;
  }

  -- no flush is one too many yet
  not_many : may_flush p (closed_where_due p (last + p.step) (run p events).sender) (last + p.step) ≡ true
      → nat_lt (closed_where_due p (last + p.step) (run p events).sender).flushes most_flushes ≡ true
  not_many may_go =
      (Decides-ltb (closed_where_due p (last + p.step) (run p events).sender).flushes most_flushes).1
      (let less = (closed_leaves p (last + p.step) (run p events).sender).fewer in let counted = h.paced.flushes in omega (arith, less, counted))

  moment0 : last ≡ last + 0 * p.step
  moment0 = omega arith

  some_bound : 0 < tail_bound p (run p events).sender
  some_bound = go (cases_lt 0 (tail_bound p (run p events).sender))
    where
      go : (0 < tail_bound p (run p events).sender) ⊎ (tail_bound p (run p events).sender ≤ 0) → 0 < tail_bound p (run p events).sender
      go (inl lt) = lt
      go (inr le) = absurd (
          let most : tail_bound p (run p events).sender * p.step ≤ 0 * p.step = mul-le-mul_right p.step le in
          let all = enough in
          let b = (span m p.k p.grtt).1 in
          let some = h.profile.grtt.0 in
          omega (arith, most, all, b, some)
          )

  first : IsOldest (tail_turn p draws (last + p.step) (course_from (run p events))).world.sender mark
      ⊎ (is_satisfied_mark (tail_turn p draws (last + p.step) (course_from (run p events))).world mark ≡ true)
      → Ends waits p m last mark bound enough h.moments events last draws 0
  first (inr met) = ends_now waits p m last mark bound enough h.moments events last 0 draws begins refl moment0 met some_bound
  first (inl old) =
      ends_later waits p m last mark bound enough h.moments events last 0 draws begins refl moment0
      (walk waits p m last mark bound enough h.moments bound (events ++ events_of (tail_turn p draws (last + p.step) (course_from (run p events)))) (last + p.step) 1
      (shift (tail_turn p draws (last + p.step) (course_from (run p events))).used draws)
      (goes_to_next waits p m last mark bound enough h.moments events last 0 draws begins refl moment0 old
      (first_phase waits p events last draws begins.follows may h.paced.goes_on h.paced.often) h.paced.flushes
      (first_watch waits p events last draws begins.follows may h.paced.goes_on h.paced.often) time) (omega arith))
    where
      after : World
      after = (tail_turn p draws (last + p.step) (course_from (run p events))).world

      window : repairable p after.sender ≡ m
      window = same_window p (run p events).sender after.sender (stays waits p m last mark bound enough h.moments events last 0 draws begins refl moment0).current

      time : 2 * last + left p (tail_turn p draws (last + p.step) (course_from (run p events))).world * ((8 * p.k + 19) * p.grtt)
          ≤ 2 * last + repairable p (run p events).sender * ((8 * p.k + 19) * p.grtt)
      time =
          let le : left p after ≤ m = (let most = left_tells.most p after in let same = window in omega (arith, most, same)) in
          let all : left p after * ((8 * p.k + 19) * p.grtt) ≤ m * ((8 * p.k + 19) * p.grtt) = mul-le-mul_right ((8 * p.k + 19) * p.grtt) le in
          omega (arith, all)

  recovers : Recovers p events last mark draws
  recovers =
      let e = first (mark_goes p h.profile events draws (last + p.step) not_many mark h.oldest) in
      record { turns = e.turns; within = (let most = e.within in omega (arith, most)); satisfied = e.satisfied; open_before = e.before }

pub watched_recover : WatchWaits → FewRecover
watched_recover waits p events last mark draws h few = recovers waits p events last mark draws h few
