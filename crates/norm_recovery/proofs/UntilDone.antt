-- A tail, whose last turn may be cut, leaves its watermark satisfied, if whole turns would.
use Rattle.std.proofs.Common.{◌≡◌, ℕ, zero, suc, ◌+◌, ◌<◌, ◌≤◌, cond, List, [], ◌∷◌, Bool, true, false, Option, None, Some, refl, sym, ap, ◌∙◌, arith}
use Rattle.std.specs.Prelude.{◌==◌, find}
use Rattle.std.specs.Option.{option_map, option_map_or}
use Rattle.norm_base.specs.Settings.{Settings}
use Rattle.norm_send_rules.specs.SenderState.{SenderState, Watermark}
use Rattle.norm_send_rules.specs.Watermarks.{is_open, ended_with, outcome_of, watermark_of}
use Rattle.norm_send_rules.specs.declared.news.Outcome.{Outcome}
use Rattle.norm_send_rules.specs.declared.news.Outcome.TheVariants as outcome
use Rattle.norm_safety.specs.Events.{Event}
use Rattle.norm_safety.specs.Recovery.{is_satisfied_mark}
use Rattle.norm_safety.specs.SatisfiedExactly.{is_satisfied}
use Rattle.norm_safety.specs.Tail.{Course, course_from, comes, sender_ticks, goes_round, tail_turn, tail_turns, tail_bound, says_open, is_open_mark, Tail, turn_more, tail_until}
use Rattle.norm_safety.specs.World.{World}
use Rattle.norm_safety.specs.WorldStep.{world_step, run}
use Rattle.norm_safety.proofs.EntryLemmas.{clash}
use Rattle.norm_laws.proofs.LaterTailLemmas.{Quiet}
use Rattle.norm_recovery.specs.TailOf.{Until}
use Rattle.norm_recovery.specs.TailRecovers.{TailRecovers}
use Rattle.norm_recovery.proofs.LawfulTail.{tail_is_lawful}
use Rattle.norm_recovery.proofs.MarksTurn.{One, Same, Meets, Each, each_same, each_both, event_goes}
use Rattle.norm_recovery.proofs.RunsOutTurns.{IsAt, round_keeps}
use Rattle.norm_recovery.proofs.TailShift.{no_turns, one_more}
use Rattle.norm_recovery.proofs.WaitsTurn.{watch_waits}
use Rattle.norm_recovery.proofs.WatchedTail.{watched_recover}

-- ---- what becomes of a watermark that is found

-- what is found by a number goes on to be
data Found : Option Watermark → Option Watermark → Type 0 where
  Nothing : Found None None
  Goes : (w v : Watermark) → One w v → Found (Some w) (Some v)

found_goes : (mark : ℕ) (ws vs : List Watermark) → Each ws vs → Found (find (λ (x : Watermark). x.mark == mark) ws) (find (λ (x : Watermark). x.mark == mark) vs)
found_goes mark [] [] h = Nothing
found_goes mark [] (v ∷ vs) h = absurd h
found_goes mark (w ∷ ws) [] h = absurd h
found_goes mark (w ∷ ws) (v ∷ vs) h = by v h.0 (found_goes mark ws vs h.1)
  where
    F : List Watermark → Option Watermark
    F xs = find (λ (x : Watermark). x.mark == mark) xs

    go : (b : Bool) (v : Watermark) → One w v → Found (F ws) (F vs) → Found (cond b (Some w) (F ws)) (cond b (Some v) (F vs))
    go true v one more = Goes w v one
    go false v one more = more

    by : (v : Watermark) → One w v → Found (F ws) (F vs) → Found (F (w ∷ ws)) (F (v ∷ vs))
    by _ Same more = go (w.mark == mark) w Same more
    by _ (Meets e) more = go (w.mark == mark) (ended_with outcome.Satisfied w) (Meets e) more

-- as tests of worlds
abbrev says_of : SenderState → Option Watermark → Bool
says_of s o = option_map_or says_open (option_map (outcome_of s) o) false

abbrev met_of : Option Watermark → Bool
met_of o = option_map_or is_satisfied o false

-- an open one says that it is open, and a satisfied one does not
says_ended : (s : SenderState) (w : Watermark) → is_open w ≡ true → says_open (outcome_of s w) ≡ true
says_ended s w e = go w.ended e
  where
    go : (o : Option Outcome) → is_open (record w { ended = o }) ≡ true → says_open (outcome_of s (record w { ended = o })) ≡ true
    go None f = refl
    go (Some o) f = absurd (clash f)

satisfied_shut : (s : SenderState) (w : Watermark) → is_satisfied w ≡ true → says_open (outcome_of s w) ≡ false
satisfied_shut s w e = go w.ended e
  where
    go : (o : Option Outcome) → is_satisfied (record w { ended = o }) ≡ true → says_open (outcome_of s (record w { ended = o })) ≡ false
    go None f = absurd (clash f)
    go (Some (outcome.Open left)) f = absurd (clash f)
    go (Some outcome.Satisfied) f = refl
    go (Some (outcome.Expired left)) f = refl
    go (Some outcome.Cut) f = refl

same_says : (s t : SenderState) (w : Watermark) → says_open (outcome_of t w) ≡ says_open (outcome_of s w)
same_says s t w = go w.ended
  where
    go : (o : Option Outcome) → says_open (outcome_of t (record w { ended = o })) ≡ says_open (outcome_of s (record w { ended = o }))
    go None = refl
    go (Some o) = refl

-- what was not open stays as it was; so what is open then was open, and what is satisfied then was so
shut_stays : (s t : SenderState) (a b : Option Watermark) → Found a b → says_of s a ≡ false → (says_of t b ≡ false) × (met_of b ≡ met_of a)
shut_stays s t _ _ Nothing e = (refl, refl)
shut_stays s t _ _ (Goes w v one) e = by v one
  where
    by : (v : Watermark) → One w v → (says_open (outcome_of t v) ≡ false) × (is_satisfied v ≡ is_satisfied w)
    by _ Same = (same_says s t w ∙ e, refl)
    by _ (Meets open_w) = absurd (clash (sym e ∙ says_ended s w open_w))

met_shut : (w : World) (mark : ℕ) → is_satisfied_mark w mark ≡ true → is_open_mark w mark ≡ false
met_shut w mark e = go (watermark_of w.sender mark) e
  where
    go : (o : Option Watermark) → met_of o ≡ true → says_of w.sender o ≡ false
    go None f = absurd (clash f)
    go (Some x) f = satisfied_shut w.sender x f

-- ---- a turn

module _ (p : Settings) (draws : ℕ → ℕ) (mark : ℕ) where
  -- of the tick and of the whole turn
  after_tick : (now : ℕ) (c : Course) → is_open_mark (sender_ticks p now c).world mark ≡ false
      → (is_open_mark (tail_turn p draws now c).world mark ≡ false) × (is_satisfied_mark (tail_turn p draws now c).world mark ≡ is_satisfied_mark (sender_ticks p now c).world mark)
  after_tick now c shut =
      shut_stays ticked.sender (tail_turn p draws now c).world.sender (watermark_of ticked.sender mark) (watermark_of (tail_turn p draws now c).world.sender mark)
      (found_goes mark ticked.sender.watermarks (tail_turn p draws now c).world.sender.watermarks at_end) shut
    where
      ticked : World
      ticked = (sender_ticks p now c).world

      Kept : Course → Type 0
      Kept d = Each (sender_ticks p now c).world.sender.watermarks d.world.sender.watermarks

      each : (e : Event) → Quiet p e → IsAt now e → (d : Course) → Each (sender_ticks p now c).world.sender.watermarks d.world.sender.watermarks
          → Each (sender_ticks p now c).world.sender.watermarks (comes p e d).world.sender.watermarks
      each e quiet at d h =
          each_both (sender_ticks p now c).world.sender.watermarks d.world.sender.watermarks (world_step p d.world e).0.sender.watermarks h (event_goes p d.world e quiet)

      at_end : Each (sender_ticks p now c).world.sender.watermarks (tail_turn p draws now c).world.sender.watermarks
      at_end = round_keeps p draws now Kept each (λ d n h. h) (sender_ticks p now c) (each_same (sender_ticks p now c).world.sender.watermarks)

  -- whole turns satisfy it, and it is open before
  record Whole (last : ℕ) (c : Course) (m : ℕ) : Type 0 where
    satisfied : is_satisfied_mark (tail_turns m p draws last c).world mark ≡ true
    before : (n : ℕ) → n < m → is_open_mark (tail_turns n p draws last c).world mark ≡ true

  at_none : (last : ℕ) (c : Course) → Whole last c 0 → is_satisfied_mark c.world mark ≡ true
  at_none last c h = ap (λ (d : Course). is_satisfied_mark d.world mark) (sym (no_turns p draws last c)) ∙ h.satisfied

  done_none : (last : ℕ) (c : Course) → is_satisfied_mark c.world mark ≡ true → Whole last c 0
  done_none last c e = record {
    satisfied = ap (λ (d : Course). is_satisfied_mark d.world mark) (no_turns p draws last c) ∙ e;
    before = λ n less. absurd (omega (arith, less));
  }

  until_done : (k : ℕ) (t : Tail) (m : ℕ) → m ≤ k → Whole t.last t.course m → is_satisfied_mark (tail_until k p draws mark t).course.world mark ≡ true
  unfolding tail_until
  until_done zero t zero le h = at_none t.last t.course h
  until_done zero t (suc m) le h = absurd (omega (arith, le))
  until_done (suc k) t zero le h =
      ap (λ (b : Bool). is_satisfied_mark (elim b as (λ _. Tail) [ true ↦ tail_until k p draws mark (turn_more p draws mark t) | false ↦ t ]).course.world mark)
      (met_shut t.course.world mark (at_none t.last t.course h)) ∙ at_none t.last t.course h
  until_done (suc k) t (suc m) le h =
      ap (λ (b : Bool). is_satisfied_mark (elim b as (λ _. Tail) [ true ↦ tail_until k p draws mark (turn_more p draws mark t) | false ↦ t ]).course.world mark) open_first
      ∙ go (is_open_mark ticked.world mark) refl (λ n less c whole. until_done k (record { turns = t.turns + 1; last = t.last + p.step; course = c }) n less whole) m (omega (arith, le)) whole_rest
    where
      ticked : Course
      ticked = sender_ticks p (t.last + p.step) t.course

      open_first : is_open_mark t.course.world mark ≡ true
      open_first = ap (λ (d : Course). is_open_mark d.world mark) (sym (no_turns p draws t.last t.course)) ∙ h.before 0 (omega arith)

      whole_rest : Whole (t.last + p.step) (tail_turn p draws (t.last + p.step) t.course) m
      whole_rest = record {
        satisfied = ap (λ (d : Course). is_satisfied_mark d.world mark) (sym (one_more p draws m t.last t.course)) ∙ h.satisfied;
        before = λ n less. ap (λ (d : Course). is_open_mark d.world mark) (sym (one_more p draws n t.last t.course)) ∙ h.before (suc n) (omega (arith, less));
      }

      -- if the tick ended it, the turn is the last one
      none_left : is_open_mark (sender_ticks p (t.last + p.step) t.course).world mark ≡ false → (m : ℕ)
          → Whole (t.last + p.step) (tail_turn p draws (t.last + p.step) t.course) m → is_satisfied_mark (sender_ticks p (t.last + p.step) t.course).world mark ≡ true
      none_left shut zero whole =
          sym (after_tick (t.last + p.step) t.course shut).1 ∙ at_none (t.last + p.step) (tail_turn p draws (t.last + p.step) t.course) whole
      none_left shut (suc n) whole =
          absurd (clash (sym (after_tick (t.last + p.step) t.course shut).0
          ∙ ap (λ (d : Course). is_open_mark d.world mark) (sym (no_turns p draws (t.last + p.step) (tail_turn p draws (t.last + p.step) t.course)))
          ∙ whole.before 0 (omega arith)))

      go : (b : Bool) → is_open_mark (sender_ticks p (t.last + p.step) t.course).world mark ≡ b
          → ((n : ℕ) → n ≤ k → (c : Course) → Whole (t.last + p.step) c n
          → is_satisfied_mark (tail_until k p draws mark (record { turns = t.turns + 1; last = t.last + p.step; course = c })).course.world mark ≡ true)
          → (m : ℕ) → m ≤ k → Whole (t.last + p.step) (tail_turn p draws (t.last + p.step) t.course) m
          → is_satisfied_mark (tail_until k p draws mark (record {
            turns = t.turns + 1;
            last = t.last + p.step;
            course = elim b [
              | true ↦ goes_round p draws (t.last + p.step) (sender_ticks p (t.last + p.step) t.course)
              | false ↦ sender_ticks p (t.last + p.step) t.course
            ];
          })).course.world mark ≡ true
      go true e rec m le whole = rec m le (tail_turn p draws (t.last + p.step) t.course) whole
      go false e rec m le whole =
          rec 0 (omega arith) (sender_ticks p (t.last + p.step) t.course)
          (done_none (t.last + p.step) (sender_ticks p (t.last + p.step) t.course) (none_left e m whole))

-- ---- the law

pub tail_recovers : TailRecovers
tail_recovers p events last mark draws h few =
    let r = watched_recover watch_waits p events last mark draws h few in
    record {
      satisfied = until_done p draws mark (tail_bound p (run p events).sender) (record { turns = 0; last = last; course = course_from (run p events) }) r.turns r.within
          (record { satisfied = r.satisfied; before = r.open_before });
      goes_on = tail_is_lawful p h.profile events (record { lawful = h.lawful; jobs = h.jobs; few = few }) _
          (Until (tail_bound p (run p events).sender) draws last mark);
    }
