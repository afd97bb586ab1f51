-- How many turns were taken: each pulled a command, or sent something new, or waited for the oldest watermark.
use Rattle.std.proofs.Common.{◌≡◌, ℕ, zero, suc, ◌+◌, ◌*◌, ◌<◌, ◌≤◌, List, length, Bool, true, false, Option, None, Some, refl, sym, ap, ◌∙◌, subst, arith, inl, inr}
use Rattle.std.specs.Prelude.{◌⊎◌, find, nat_le, ⊤}
use Rattle.std.specs.Int.{div_ceil}
use Rattle.std.proofs.Math.Nat.{mul-le-mul_right, min-le_left}
use Rattle.std.proofs.lemmas.Bool.Decides.{leb_tells}
use Rattle.std.proofs.lemmas.Grind.{div_ceil_times}
use Rattle.norm_base.specs.Settings.{Settings}
use Rattle.norm_ext.specs.Written.{Written}
use Rattle.norm_order.specs.Shapes.{shapes_of}
use Rattle.norm_order.specs.Moments.{moment_after}
use Rattle.norm_send_rules.specs.Flushing.{may_flush}
use Rattle.norm_send_rules.specs.SenderState.{SenderState, Instance, Watermark}
use Rattle.norm_send_rules.specs.Sending.{next_new, new_from, sends_new, behind}
use Rattle.norm_send_rules.specs.Ticking.{ticked}
use Rattle.norm_send_rules.specs.Watermarks.{is_open, oldest}
use Rattle.norm_send_rules.specs.declared.want.Want.{Want}
use Rattle.norm_send_rules.specs.declared.want.Want.TheVariants.{Info, Symbol}
use Rattle.norm_safety.proofs.EntryLemmas.{clash}
use Rattle.norm_recovery.specs.RunsOut.{all_new}
use Rattle.norm_recovery.specs.SteadyNothing.{AsksNothing}
use Rattle.norm_recovery.proofs.AskedMoves.{TickCase, Early, New, Waits, Asks, tick_case}
use Rattle.norm_recovery.proofs.CountMoves.{ended_in, fresh_in, MarksOn, More, Same, Begins, CountsOn, new_more}
use Rattle.norm_recovery.proofs.RunsOutNew.{fewer_new}

-- ---- two round trips

-- in so many turns they are over
pub trips : Settings → ℕ
trips p = div_ceil (2 * p.grtt) p.step

pub trips_are : (p : Settings) → trips p ≡ div_ceil (2 * p.grtt) p.step
unfolding trips
trips_are p = refl

pub trips_last : (p : Settings) → 1 ≤ p.step → 2 * p.grtt ≤ trips p * p.step
unfolding trips
trips_last p some = (div_ceil_times (2 * p.grtt) p.step some).0

-- fewer turns than those are there, as long as they are not over
pub few_trips : (p : Settings) → 1 ≤ p.step → (x : ℕ) → x * p.step < 2 * p.grtt → x < trips p
few_trips p some x lt = go (leb_tells (trips p) x)
  where
    go : ((nat_le (trips p) x ≡ true) × (trips p ≤ x)) ⊎ ((nat_le (trips p) x ≡ false) × (x < trips p)) → x < trips p
    go (inr tells) = tells.1
    go (inl tells) =
        let over = trips_last p some in
        let more : trips p * p.step ≤ x * p.step = mul-le-mul_right p.step tells.1 in
        absurd (omega (arith, over, more, lt))

pub some_trips : (p : Settings) → 1 ≤ p.step → 1 ≤ p.grtt → 1 ≤ trips p
some_trips p some g = few_trips p some 0 (let z : 0 * p.step ≡ 0 = omega arith in omega (arith, z, g))

-- ---- the count

-- So many turns, with what is new and what is left to be pulled, are no more than the commands, all that is new, two turns and two round trips for each watermark
-- that ended, and some more.
abbrev pub Within : Settings → (commands turn left : ℕ) → SenderState → ℕ → Type 0
Within p commands turn left s x = turn + length (all_new p s) + left ≤ commands + fresh_in p s + ended_in s.watermarks * (trips p + 2) + x

-- since the last flush so many turns are over at a moment
abbrev pub Since : Settings → ℕ → Option ℕ → ℕ → Type 0
Since p by None x = x ≤ 1
Since p by (Some f) x = f + x * p.step ≤ by

-- a turn is over since the last flush
abbrev pub FlushedBy : Settings → ℕ → Option ℕ → Type 0
FlushedBy p by None = ⊤
FlushedBy p by (Some f) = f + p.step ≤ by

-- so many turns are waited at most for a watermark that was flushed: one less in the turn of its flush
abbrev pub AskedMost : Settings → Option ℕ → ℕ → Option ℕ → ℕ → Type 0
AskedMost p None flushes last x = x ≤ trips p + 1
AskedMost p (Some now) flushes last x = (x ≤ trips p + 2) × (flushes ≡ 1 → last ≡ Some now → x ≤ trips p + 1)

-- so many turns are waited: for nothing, or for a command that waits; for a watermark before its flush; and behind that
pub data Waited (p : Settings) (by : ℕ) (late : Option ℕ) (s : SenderState) (waits : Bool) (x : ℕ) : Type 0 where
  ForNone : oldest s ≡ None → x ≤ 1 → (waits ≡ true → x ≤ 0) → Waited p by late s waits x
  Before : (wm : Watermark) → oldest s ≡ Some wm → s.flushes ≡ 0 → x ≤ trips p → Since p by s.last_flush x → Waited p by late s waits x
  Behind : (wm : Watermark) → oldest s ≡ Some wm → 1 ≤ s.flushes → AskedMost p late s.flushes s.last_flush x → Waited p by late s waits x

most_of : (p : Settings) (late : Option ℕ) (flushes : ℕ) (last : Option ℕ) (x : ℕ) → AskedMost p late flushes last x → x ≤ trips p + 2
most_of p None flushes last x h = omega (arith, h)
most_of p (Some now) flushes last x h = h.0

pub waited_most : (p : Settings) (by : ℕ) (late : Option ℕ) (s : SenderState) (waits : Bool) (x : ℕ) → Waited p by late s waits x → x ≤ trips p + 2
waited_most p by late s waits x (ForNone none le strict) = omega (arith, le)
waited_most p by late s waits x (Before wm is count le since) = omega (arith, le)
waited_most p by late s waits x (Behind wm is count most) = most_of p late s.flushes s.last_flush x most

since_one : (p : Settings) (by : ℕ) (last : Option ℕ) (x : ℕ) → x ≤ 1 → FlushedBy p by last → Since p by last x
since_one p by None x le h = le
since_one p by (Some f) zero le h = (let z : 0 * p.step ≡ 0 = omega arith in omega (arith, h, z))
since_one p by (Some f) (suc zero) le h = (let z : 1 * p.step ≡ p.step = omega arith in omega (arith, h, z))
since_one p by (Some f) (suc (suc x)) le h = absurd (omega (arith, le))

none_most : (p : Settings) (late : Option ℕ) (flushes : ℕ) (last : Option ℕ) → AskedMost p late flushes last 0
none_most p None flushes last = omega arith
none_most p (Some now) flushes last = (omega arith, λ one is. omega arith)

-- nothing is waited for yet
pub waits_none : (p : Settings) (by : ℕ) (late : Option ℕ) (t : SenderState) (waits : Bool) → FlushedBy p by t.last_flush → Waited p by late t waits 0
waits_none p by late t waits flushed = go (oldest t) refl
  where
    asked : (wm : Watermark) → oldest t ≡ Some wm → (n : ℕ) → t.flushes ≡ n → Waited p by late t waits 0
    asked wm is zero e = Before wm is e (omega arith) (since_one p by t.last_flush 0 (omega arith) flushed)
    asked wm is (suc n) e = Behind wm is (omega (arith, e)) (none_most p late t.flushes t.last_flush)

    go : (o : Option Watermark) → oldest t ≡ o → Waited p by late t waits 0
    go None e = ForNone e (omega arith) (λ w. omega arith)
    go (Some wm) e = asked wm e t.flushes refl

-- more ended: that pays for all that was waited
pub paid : (a b trips x : ℕ) → a < b → x ≤ trips + 2 → a * (trips + 2) + x ≤ b * (trips + 2)
paid a b trips x lt le =
    let more : (a + 1) * (trips + 2) ≤ b * (trips + 2) = mul-le-mul_right (trips + 2) (let z : a + 1 ≤ b = omega (arith, lt) in z) in
    let one : (a + 1) * (trips + 2) ≡ a * (trips + 2) + (trips + 2) = omega arith in
    omega (arith, more, one, le)

-- ---- an event that is no tick

pub record WaitedOn (p : Settings) (commands turn left by : ℕ) (late : Option ℕ) (t : SenderState) (was waits : Bool) (d : ℕ) : Type 0 where
  pub x : ℕ
  pub within : Within p commands turn left t (x + d)
  pub waited : Waited p by late t waits x
  pub strict : was ≡ true → oldest t ≡ None → x ≤ 0

pub waited_on : (p : Settings) (commands turn left by : ℕ) (late : Option ℕ) (s t : SenderState) (was waits : Bool) (x d : ℕ) → 1 ≤ trips p → CountsOn s t
    → t.current.drop ≡ s.current.drop → FlushedBy p by s.last_flush → (waits ≡ true → oldest t ≡ None → was ≡ true) → Waited p by late s was x
    → Within p commands turn left s (x + d) → WaitedOn p commands turn left by late t was waits d
waited_on p commands turn left by late s t was waits x d some on drop flushed opens h within = go on.marks
  where
    fresh : length (all_new p t) + fresh_in p s ≤ length (all_new p s) + fresh_in p t
    fresh = new_more p s t on.more on.order on.next drop

    flushed_t : FlushedBy p by t.last_flush
    flushed_t = subst (FlushedBy p by) (sym on.last) flushed

    same_within : ended_in t.watermarks ≡ ended_in s.watermarks → Within p commands turn left t (x + d)
    same_within e = (let n = fresh in let k = ap (λ (z : ℕ). z * (trips p + 2)) e in omega (arith, n, k, within))

    begins : oldest s ≡ None → t.flushes ≡ 0 → ended_in t.watermarks ≡ ended_in s.watermarks → x ≤ 1 → (was ≡ true → x ≤ 0) → WaitedOn p commands turn left by late t was waits d
    begins none zero_is e le strict = record {
      x = x;
      within = same_within e;
      waited = by_oldest (oldest t) refl;
      strict = λ w n. strict w;
    }
      where
        by_oldest : (o : Option Watermark) → oldest t ≡ o → Waited p by late t waits x
        by_oldest None f = ForNone f le (λ w. strict (opens w f))
        by_oldest (Some wm) f = Before wm f zero_is (omega (arith, le, some)) (since_one p by t.last_flush x le flushed_t)

    some_none : (wm : Watermark) → oldest s ≡ Some wm → oldest s ≡ None → ⊥
    some_none wm e f = differ (sym e ∙ f)
      where
        differ : Some wm ≡ None → ⊥
        differ e = cc

    stays : oldest t ≡ oldest s → t.flushes ≡ s.flushes → ended_in t.watermarks ≡ ended_in s.watermarks → Waited p by late s was x → WaitedOn p commands turn left by late t was waits d
    stays same count e (ForNone none le strict) = record {
      x = x;
      within = same_within e;
      waited = ForNone (same ∙ none) le (λ w. strict (opens w (same ∙ none)));
      strict = λ w n. strict w;
    }
    stays same count e (Before wm is zero_is le since) = record {
      x = x;
      within = same_within e;
      waited = Before wm (same ∙ is) (count ∙ zero_is) le (subst (λ (o : Option ℕ). Since p by o x) (sym on.last) since);
      strict = λ w n. absurd (some_none wm is (sym same ∙ n));
    }
    stays same count e (Behind wm is some_is most) = record {
      x = x;
      within = same_within e;
      waited = Behind wm (same ∙ is) (omega (arith, some_is, count))
          (subst (λ (n : ℕ). AskedMost p late n t.last_flush x) (sym count) (subst (λ (o : Option ℕ). AskedMost p late s.flushes o x) (sym on.last) most));
      strict = λ w n. absurd (some_none wm is (sym same ∙ n));
    }

    first : oldest s ≡ None → t.flushes ≡ 0 → ended_in t.watermarks ≡ ended_in s.watermarks → Waited p by late s was x → WaitedOn p commands turn left by late t was waits d
    first none zero_is e (ForNone is le strict) = begins none zero_is e le strict
    first none zero_is e (Before wm is count le since) = absurd (some_none wm is none)
    first none zero_is e (Behind wm is count most) = absurd (some_none wm is none)

    go : MarksOn s t → WaitedOn p commands turn left by late t was waits d
    go (More lt) = record {
      x = 0;
      within = (let n = fresh in let k = paid (ended_in s.watermarks) (ended_in t.watermarks) (trips p) x lt (waited_most p by late s was x h) in omega (arith, n, k, within));
      waited = waits_none p by late t waits flushed_t;
      strict = λ w n. omega arith;
    }
    go (Same same count e) = stays same count e h
    go (Begins none zero_is e) = first none zero_is e h

-- ---- the sender's tick

-- what is new leaves
record NewLeaves (p : Settings) (now : ℕ) (s : SenderState) (w : Want) : Type 0 where
  current : (sends_new p now w s).0.current ≡ s.current
  next : (sends_new p now w s).0.next ≡ behind w
  marks : (sends_new p now w s).0.watermarks ≡ s.watermarks
  flushes : (sends_new p now w s).0.flushes ≡ s.flushes
  last : (sends_new p now w s).0.last_flush ≡ s.last_flush
  send : (sends_new p now w s).0.next_send ≡ moment_after now p.gap

new_fields : (p : Settings) (now : ℕ) (s : SenderState) (w : Want) → NewLeaves p now s w
new_fields p now s (Info index) = record { current = refl; next = refl; marks = refl; flushes = refl; last = refl; send = refl }
new_fields p now s (Symbol at) = record { current = refl; next = refl; marks = refl; flushes = refl; last = refl; send = refl }

-- how the count stands behind the sender's tick
pub record Ticked (p : Settings) (commands turn left now : ℕ) (waits : Bool) (t : SenderState) : Type 0 where
  pub x : ℕ
  pub within : Within p commands turn left t x
  pub waited : Waited p (now + p.step) (Some now) t waits x
  pub flushed : FlushedBy p (now + p.step) t.last_flush
  pub send : t.next_send ≤ now + p.step

later_flushed : (p : Settings) (now : ℕ) (last : Option ℕ) → FlushedBy p now last → FlushedBy p (now + p.step) last
later_flushed p now None h = tt
later_flushed p now (Some f) h = omega (arith, h)

later_since : (p : Settings) (now : ℕ) (last : Option ℕ) (x : ℕ) → Since p now last x → Since p (now + p.step) last x
later_since p now None x h = h
later_since p now (Some f) x h = omega (arith, h)

-- the last flush was not at this moment
not_now : (p : Settings) (now : ℕ) (last : Option ℕ) → 1 ≤ p.step → FlushedBy p now last → last ≡ Some now → ⊥
not_now p now None some h e = none e
  where
    none : None ≡ Some now → ⊥
    none e = cc
not_now p now (Some f) some h e = (let same = is e in omega (arith, h, some, same))
  where
    is : Some f ≡ Some now → f ≡ now
    is e = cc

-- no flush may go yet: the round trips are not over
not_over : (p : Settings) (now : ℕ) (last : Option ℕ) (x : ℕ) → 1 ≤ p.step
    → (elim last as (λ _. Bool) [ Some m ↦ nat_le (moment_after m (2 * p.grtt)) now | None ↦ true ]) ≡ false → Since p now last x → (x < trips p) × Since p (now + p.step) last (x + 1)
not_over p now None x some may h = absurd (clash (sym may))
not_over p now (Some f) x some may h = go (leb_tells (moment_after f (2 * p.grtt)) now)
  where
    go : ((nat_le (moment_after f (2 * p.grtt)) now ≡ true) × (moment_after f (2 * p.grtt) ≤ now)) ⊎ ((nat_le (moment_after f (2 * p.grtt)) now ≡ false) × (now < moment_after f (2 * p.grtt)))
        → (x < trips p) × (f + (x + 1) * p.step ≤ now + p.step)
    go (inl tells) = absurd (clash (sym may ∙ tells.0))
    go (inr tells) =
        let least = min-le_left (f + 2 * p.grtt) 18446744073709551615 in
        let lt = tells.1 in
        let one : (x + 1) * p.step ≡ x * p.step + p.step = omega arith in
        (few_trips p some x (omega (arith, h, least, lt)), omega (arith, h, one))

pub tick_counts : (p : Settings) (commands turn left now : ℕ) (waits : Bool) (s : SenderState) (x d : ℕ) → 1 ≤ p.gap → p.gap ≤ p.step → AsksNothing s → s.flushes < 20
    → s.next_send ≤ now → FlushedBy p now s.last_flush → d ≤ 1 → Within p commands turn left s (x + d) → Waited p now None s waits x
    → (1 ≤ d → oldest s ≡ None → next_new p s ≡ None → x ≤ 0) → (waits ≡ true → oldest s ≡ None → ⊥)
    → Ticked p commands turn left now waits (ticked p s now).0
tick_counts p commands turn left now waits s x d spaced paced calm few send flushed most within h free opens = go (tick_case p now s calm few)
  where
    some : 1 ≤ p.step
    some = omega (arith, spaced, paced)

    T : SenderState × Option Written → Type 0
    T step = Ticked p commands turn left now waits step.0

    -- the same watermarks and flushes
    later : (t : SenderState) → oldest t ≡ oldest s → t.flushes ≡ s.flushes → t.last_flush ≡ s.last_flush → Waited p now None s waits x → Waited p (now + p.step) (Some now) t waits x
    later t same count last (ForNone none le strict) = ForNone (same ∙ none) le strict
    later t same count last (Before wm is zero_is le since) =
        Before wm (same ∙ is) (count ∙ zero_is) le (later_since p now t.last_flush x (subst (λ (o : Option ℕ). Since p now o x) (sym last) since))
    later t same count last (Behind wm is some_is le) =
        Behind wm (same ∙ is) (omega (arith, some_is, count)) (omega (arith, le), λ one e. le)

    sent : moment_after now p.gap ≤ now + p.step
    sent = (let least = min-le_left (now + p.gap) 18446744073709551615 in omega (arith, least, paced))

    oldest_of : List Watermark → Option Watermark
    oldest_of ws = find is_open ws

    some_none : (wm : Watermark) → Some wm ≡ None → ⊥
    some_none wm e = cc

    -- nothing goes
    rests : (d : ℕ) → d ≤ 1 → Within p commands turn left s (x + d) → (1 ≤ d → oldest s ≡ None → x ≤ 0)
        → (may_flush p s now ≡ false) ⊎ (oldest s ≡ None) → Waited p now None s waits x → Ticked p commands turn left now waits s
    rests zero most within free why h = record {
      x = x;
      within = omega (arith, within);
      waited = later s refl refl refl h;
      flushed = later_flushed p now s.last_flush flushed;
      send = omega (arith, send);
    }
    rests (suc (suc d)) most within free why h = absurd (omega (arith, most))
    rests (suc zero) most within free why (ForNone none le strict) = record {
      x = x + 1;
      within = within;
      waited = ForNone none (let z = free (omega arith) none in omega (arith, z)) (λ w. absurd (opens w none));
      flushed = later_flushed p now s.last_flush flushed;
      send = omega (arith, send);
    }
    rests (suc zero) most within free (inr none) (Before wm is zero_is le since) = absurd (some_none wm (sym is ∙ none))
    rests (suc zero) most within free (inr none) (Behind wm is some_is le) = absurd (some_none wm (sym is ∙ none))
    rests (suc zero) most within free (inl may) (Before wm is zero_is le since) =
        let more = not_over p now s.last_flush x some may since in
        record {
          x = x + 1;
          within = within;
          waited = Before wm is zero_is (let lt = more.0 in omega (arith, lt)) more.1;
          flushed = later_flushed p now s.last_flush flushed;
          send = omega (arith, send);
        }
    rests (suc zero) most within free (inl may) (Behind wm is some_is le) = record {
      x = x + 1;
      within = within;
      waited = Behind wm is some_is (omega (arith, le), λ one e. absurd (not_now p now s.last_flush some flushed e));
      flushed = later_flushed p now s.last_flush flushed;
      send = omega (arith, send);
    }

    -- a flush goes
    asks : (wm : Watermark) → oldest s ≡ Some wm → Waited p now None s waits x → AskedMost p (Some now) (s.flushes + 1) (Some now) (x + d)
    asks wm old (ForNone none le strict) = absurd (some_none wm (sym old ∙ none))
    asks wm old (Before v is zero_is le since) = (omega (arith, le, most), λ one e. omega (arith, le, most))
    asks wm old (Behind v is some_is le) = (omega (arith, le, most), λ one e. absurd (omega (arith, one, some_is)))

    go : TickCase p now s → Ticked p commands turn left now waits (ticked p s now).0
    go (Early lt is) = absurd (omega (arith, lt, send))
    go (New w next is) =
        let f = new_fields p now s w in
        let t : SenderState = (sends_new p now w s).0 in
        let less = fewer_new p s t w next f.current f.next in
        let fresh : fresh_in p t ≡ fresh_in p s = ap (λ (i : Instance). length (new_from p 0 (shapes_of p i.order))) f.current in
        let k = ap (λ (ws : List Watermark). ended_in ws * (trips p + 2)) f.marks in
        subst T (sym is) (record {
          x = x;
          within = omega (arith, less, fresh, k, within, most);
          waited = later t (ap oldest_of f.marks) f.flushes f.last h;
          flushed = later_flushed p now t.last_flush (subst (FlushedBy p now) (sym f.last) flushed);
          send = (let e = f.send in let le = sent in omega (arith, e, le));
        })
    go (Waits none why is) = subst T (sym is) (rests d most within (λ one n. free one n none) why h)
    go (Asks wm none old is) = subst T (sym is) (record {
      x = x + d;
      within = within;
      waited = Behind wm old (omega arith) (asks wm old h);
      flushed = omega arith;
      send = sent;
    })
