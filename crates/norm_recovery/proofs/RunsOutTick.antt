-- A tick of one sender, and what is to be sent.
use Rattle.std.proofs.Math.Nat.{min-le_left, le-min, suc-mul, mul-le-mul_right}
use Rattle.std.proofs.Common.{◌≡◌, ℕ, zero, suc, ◌+◌, ◌*◌, ◌<◌, ◌≤◌, ◌⊎◌, inl, inr, List, [], ◌∷◌, length, Bool, true, false, Option, None, Some, refl, sym, ap, subst, ◌∙◌, arith}
use Rattle.std.specs.Prelude.{nat_lt, nat_le, ◌==◌}
use Rattle.std.proofs.lemmas.Bool.{cases_lt}
use Rattle.std.proofs.lemmas.Bool.Decides.{Decides-ltb}
use Rattle.norm_base.specs.Settings.{Settings}
use Rattle.norm_ext.specs.Written.{Written, writes}
use Rattle.norm_order.specs.Entries.{Object}
use Rattle.norm_order.specs.Moments.{moment_after}
use Rattle.norm_send_rules.specs.Closing.{round_closed}
use Rattle.norm_send_rules.specs.Flushing.{most_flushes, may_flush, flushes_for, expired, flushes_oldest, flushes_no_more, flushed, flushes_in_turn, flushes}
use Rattle.norm_send_rules.specs.Messages.{squelch_message}
use Rattle.norm_send_rules.specs.SenderState.{SenderState, Watermark, Round}
use Rattle.norm_send_rules.specs.Sending.{next_new, behind, sends, repair_flags, sends_want, repairs_next, sends_new}
use Rattle.norm_send_rules.specs.Ticking.{closed_where_due, sends_further, sends_wanted, sends_first, sends_in_time, ticked}
use Rattle.norm_send_rules.specs.Watermarks.{oldest, keeps_oldest, counted_anew, end_where, pending}
use Rattle.norm_send_rules.specs.declared.news.Outcome.TheVariants.{Expired}
use Rattle.norm_send_rules.specs.declared.want.Want.{Want}
use Rattle.norm_send_rules.specs.declared.want.Want.TheVariants.{Info, Symbol}
use Rattle.norm_laws.proofs.NewOrder.{clash}
use Rattle.norm_recovery.specs.RunsOut.{one_if, to_send, RunsOut, ClosesNone}
use Rattle.norm_recovery.proofs.RunsOutNew.{none_new, fewer_new}

not_zero : (n : ℕ) → 0 ≡ suc n → ⊥
not_zero n e = cc

-- the state that a step leaves
abbrev left_by : SenderState × Option Written → SenderState
left_by step = step.0

-- what is to be sent stays
abbrev Stays : Settings → (s t : SenderState) → Type 0
Stays p s t = to_send p t ≡ to_send p s

-- ---- one datagram goes

-- no more than this is to be sent, the next datagram goes a gap later, and the last flush stays
pub record Goes (p : Settings) (now n : ℕ) (last : Option ℕ) (t : SenderState) : Type 0 where
  pub left : to_send p t ≤ n
  pub next : t.next_send ≡ moment_after now p.gap
  pub flush : t.last_flush ≡ last

-- a want or what is new, of which so much is left
want_goes : (p : Settings) (now n : ℕ) (repair : Object → ℕ) (w : Want) (s : SenderState) → to_send p s ≤ n → Goes p now n s.last_flush (sends_want p now repair w s).0
want_goes p now n repair (Info index) s le = record { left = le; next = refl; flush = refl }
want_goes p now n repair (Symbol at) s le = record { left = le; next = refl; flush = refl }

sends_one : (p : Settings) (now n : ℕ) (s : SenderState) → to_send p s ≡ suc n → Goes p now n s.last_flush (sends_first p now s).0
sends_one p now n s e = first s.squelch_due refl
  where
    quiet : s.squelch_due ≡ false → one_if s.squelch_due ≡ 0
    quiet is = ap one_if is

    further : (found : Option Want) → next_new p s ≡ found → s.squelch_due ≡ false → s.wants ≡ []
        → Goes p now n s.last_flush (left_by (elim found [ Some w ↦ sends_new p now w s | None ↦ flushes p now s ]))
    further None is due none =
        let nothing = none_new p s is in
        let no_squelch = quiet due in
        let no_want = ap length none in
        absurd (not_zero n (omega (arith, nothing, no_squelch, no_want, e)))
    further (Some w) is due none =
        let t : SenderState = record s { next = behind w } in
        let less = fewer_new p s t w is refl refl in
        want_goes p now n (λ object. 0) w t (omega (arith, less, e))

    wanted : (wants : List Want) → s.wants ≡ wants → s.squelch_due ≡ false
        → Goes p now n s.last_flush (left_by (elim wants [ [] ↦ sends_further p now s | w ∷ more ↦ repairs_next p now w more s ]))
    wanted [] none due = further (next_new p s) refl due none
    wanted (w ∷ more) some due =
        let many = ap length some in
        want_goes p now n (λ object. repair_flags p object w) w (record s { wants = more }) (omega (arith, many, e))

    first : (b : Bool) → s.squelch_due ≡ b → Goes p now n s.last_flush (left_by (elim b [
      | true ↦ sends p now (writes (squelch_message p s s.current.drop) (s.current.drop.index ∷ [])) (record s { squelch_due = false })
      | false ↦ sends_wanted p now s
    ]))
    first true due = record { left = (let one = ap one_if due in omega (arith, one, e)); next = refl; flush = refl }
    first false due = wanted s.wants refl due

-- a tick with something to be sent: it is not due, or one datagram goes
pub data Ticks (p : Settings) (now n : ℕ) (s t : SenderState) : Type 0 where
  Early : (before : now < s.next_send) (same : t ≡ s) → Ticks p now n s t
  Sends : (due : s.next_send ≤ now) (goes : Goes p now n s.last_flush t) → Ticks p now n s t

pub sends_some : (p : Settings) (now n : ℕ) (s : SenderState) → to_send p s ≡ suc n → Ticks p now n s (sends_in_time p now s).0
sends_some p now n s e = go (nat_lt now s.next_send) refl
  where
    go : (b : Bool) → nat_lt now s.next_send ≡ b → Ticks p now n s (left_by (elim b [ true ↦ (s, None) | false ↦ sends_first p now s ]))
    go true is = Early ((Decides-ltb now s.next_send).0 is) refl
    go false is = by (cases_lt now s.next_send)
      where
        by : (now < s.next_send) ⊎ (s.next_send ≤ now) → Ticks p now n s (sends_first p now s).0
        by (inl less) = absurd (clash (sym is ∙ (Decides-ltb now s.next_send).1 less))
        by (inr le) = Sends le (sends_one p now n s e)

-- ---- nothing is to be sent, and a tick leaves that

anew_stays : (p : Settings) (before s t : SenderState) → Stays p s t → Stays p s (counted_anew before t)
anew_stays p before s t h = go (keeps_oldest before t)
  where
    go : (b : Bool) → Stays p s (elim b [ true ↦ t | false ↦ record t { flushes = 0 } ])
    go true = h
    go false = h

flush_stays : (p : Settings) (now : ℕ) (s : SenderState) → Stays p s (flushes p now s).0
flush_stays p now s = go (may_flush p s now)
  where
    gone : (w : Watermark) → Stays p s (expired w.mark s)
    gone w = anew_stays p s s (end_where (λ v. v.mark == w.mark) (λ v. Expired (length (pending s v.at))) s) refl

    then_oldest : (w : Watermark) (next : Option Watermark)
        → Stays p s (left_by (elim next [ Some v ↦ flushes_for p now v (expired w.mark s) | None ↦ (expired w.mark s, None) ]))
    then_oldest w (Some v) = gone w
    then_oldest w None = gone w

    no_more : (w : Watermark) (round : Option Round)
        → Stays p s (left_by (elim round [ Some r ↦ (s, None) | None ↦ flushes_oldest p now (expired w.mark s) ]))
    no_more w (Some r) = refl
    no_more w None = then_oldest w (oldest (expired w.mark s))

    counts : (w : Watermark) (b : Bool) → Stays p s (left_by (elim b [ true ↦ flushes_for p now w s | false ↦ flushes_no_more p now w s ]))
    counts w true = refl
    counts w false = no_more w s.round

    turn : (found : Option Watermark) → Stays p s (left_by (elim found [ Some w ↦ flushed p now w s | None ↦ (s, None) ]))
    turn (Some w) = counts w (nat_lt s.flushes most_flushes)
    turn None = refl

    go : (b : Bool) → Stays p s (left_by (elim b [ true ↦ flushes_in_turn p now s | false ↦ (s, None) ]))
    go true = turn (oldest s)
    go false = refl

none_fewer : (n : ℕ) → n < 0 → ⊥
none_fewer n lt = omega (arith, lt)

sends_none : (p : Settings) (now : ℕ) (s : SenderState) → to_send p s ≡ 0 → to_send p (sends_in_time p now s).0 ≡ 0
sends_none p now s e = go (nat_lt now s.next_send)
  where
    further : (found : Option Want) → next_new p s ≡ found
        → to_send p (left_by (elim found [ Some w ↦ sends_new p now w s | None ↦ flushes p now s ])) ≡ 0
    further None is = flush_stays p now s ∙ e
    further (Some w) is = let less = fewer_new p s (record s { next = behind w }) w is refl refl in absurd (omega (arith, less, e))

    wanted : (wants : List Want) → s.wants ≡ wants
        → to_send p (left_by (elim wants [ [] ↦ sends_further p now s | w ∷ more ↦ repairs_next p now w more s ])) ≡ 0
    wanted [] none = further (next_new p s) refl
    wanted (w ∷ more) some = let many = ap length some in absurd (not_zero (length more) (omega (arith, many, e)))

    first : (b : Bool) → s.squelch_due ≡ b → to_send p (left_by (elim b [
      | true ↦ sends p now (writes (squelch_message p s s.current.drop) (s.current.drop.index ∷ [])) (record s { squelch_due = false })
      | false ↦ sends_wanted p now s
    ])) ≡ 0
    first true due = let one = ap one_if due in absurd (not_zero 0 (omega (arith, one, e)))
    first false due = wanted s.wants refl

    go : (b : Bool) → to_send p (left_by (elim b [ true ↦ (s, None) | false ↦ sends_first p now s ])) ≡ 0
    go true = e
    go false = first s.squelch_due refl

-- ---- it runs out

-- a moment put off is no sooner than now, and within its span
not_before : (now span : ℕ) → now ≤ 18446744073709551615 → now ≤ moment_after now span
not_before now span le = le-min (omega arith) le

at_most : (now span : ℕ) → moment_after now span ≤ now + span
at_most now span = min-le_left (now + span) 18446744073709551615

-- what one datagram takes at most
abbrev pub ε : Settings → ℕ
ε p = p.gap + p.step

-- of n + 1 to be sent there is time for all if the tick comes early, and for the others if one goes
pub record HasTime (p : Settings) (by now n : ℕ) (s : SenderState) : Type 0 where
  pub early : s.next_send + to_send p s * ε p ≤ by
  pub late : now + p.gap + n * ε p ≤ by

abbrev Waits : Settings → (by now : ℕ) → SenderState → Type 0
Waits p by now s = (now ≤ s.next_send) × (s.next_send + to_send p s * ε p ≤ by)

left_fits : (now later left rest gap by : ℕ) → later ≤ now + gap → left ≤ rest → now + gap + rest ≤ by → later + left ≤ by
left_fits now later left rest gap by a b c = omega (arith, a, b, c)

-- what is sent in time of a state of which a round was closed
pub runs_on : (p : Settings) (by now : ℕ) (s : SenderState) → now ≤ 18446744073709551615 → ((n : ℕ) → to_send p s ≡ suc n → HasTime p by now n s)
    → RunsOut p by now (sends_in_time p now s).0
runs_on p by now s most time = go (to_send p s) refl
  where
    ticks : (n : ℕ) (t : SenderState) → to_send p s ≡ suc n → Ticks p now n s t → RunsOut p by now t
    ticks n t e (Early before same) =
        let own : Waits p by now s = (omega (arith, before), (time n e).early) in inr (subst (λ (x : SenderState). Waits p by now x) (sym same) own)
    ticks n t e (Sends due goes) =
        let next = goes.next in
        let late = not_before now p.gap most in
        let soon = at_most now p.gap in
        inr (
          omega (arith, next, late),
          left_fits now t.next_send (to_send p t * ε p) (n * ε p) p.gap by (omega (arith, next, soon)) (mul-le-mul_right (ε p) goes.left) (time n e).late,
        )

    go : (n : ℕ) → to_send p s ≡ n → RunsOut p by now (sends_in_time p now s).0
    go zero e = inl (sends_none p now s e)
    go (suc n) e = ticks n (sends_in_time p now s).0 e (sends_some p now n s e)

-- what n + 1 take
all_take : (p : Settings) (n : ℕ) (s : SenderState) → to_send p s ≡ suc n → to_send p s * ε p ≡ n * ε p + ε p
all_take p n s e = ap (λ k. k * ε p) e ∙ suc-mul n (ε p)

-- a round that closes leaves the order, and the moment of the next datagram
pub closed_rests : (p : Settings) (now : ℕ) (s : SenderState)
    → ((closed_where_due p now s).current ≡ s.current) × ((closed_where_due p now s).next_send ≡ s.next_send)
closed_rests p now s = go s.round
  where
    Rests : SenderState → Type 0
    Rests t = (t.current ≡ s.current) × (t.next_send ≡ s.next_send)

    by : (r : Round) (b : Bool) → Rests (elim b [ true ↦ round_closed p r s | false ↦ s ])
    by r true = (refl, refl)
    by r false = (refl, refl)

    go : (round : Option Round) → Rests (elim round [ Some r ↦ elim (nat_le r.closes now) [ true ↦ round_closed p r s | false ↦ s ] | None ↦ s ])
    go (Some r) = by r (nat_le r.closes now)
    go None = (refl, refl)

pub begins : (p : Settings) (last : ℕ) (s : SenderState) → last + p.step ≤ 18446744073709551615 → s.next_send ≤ last + p.gap
    → RunsOut p (last + p.gap + to_send p (closed_where_due p (last + p.step) s) * ε p) (last + p.step) (ticked p s (last + p.step)).0
begins p last s most le =
    runs_on p (last + p.gap + to_send p c * ε p) (last + p.step) c most (λ n e. record {
      early = early c.next_send last p.gap (to_send p c * ε p) (omega (arith, le, same));
      late = late last p.gap p.step (to_send p c * ε p) (n * ε p) (all_take p n c e);
    })
  where
    c : SenderState
    c = closed_where_due p (last + p.step) s

    same : c.next_send ≡ s.next_send
    same = (closed_rests p (last + p.step) s).1

    early : (send last gap all : ℕ) → send ≤ last + gap → send + all ≤ last + gap + all
    early send last gap all a = omega (arith, a)

    late : (last gap step all rest : ℕ) → all ≡ rest + (gap + step) → last + step + gap + rest ≤ last + gap + all
    late last gap step all rest a = omega (arith, a)

pub goes_on : (p : Settings) (by now : ℕ) (s : SenderState) → now + p.step ≤ 18446744073709551615 → ClosesNone p (now + p.step) s
    → RunsOut p by now s → RunsOut p by (now + p.step) (ticked p s (now + p.step)).0
goes_on p by now s most none h =
    subst (λ (c : SenderState). RunsOut p by (now + p.step) (sends_in_time p (now + p.step) c).0) (sym none) (runs_on p by (now + p.step) s most (time h))
  where
    fits : (now send all rest gap step by : ℕ) → all ≡ rest + (gap + step) → now ≤ send → send + all ≤ by → now + step + gap + rest ≤ by
    fits now send all rest gap step by a b c = omega (arith, a, b, c)

    time : RunsOut p by now s → (n : ℕ) → to_send p s ≡ suc n → HasTime p by (now + p.step) n s
    time (inl nothing) n e = absurd (not_zero n (sym nothing ∙ e))
    time (inr (waits, fit)) n e = record {
      early = fit;
      late = fits now s.next_send (to_send p s * ε p) (n * ε p) p.gap p.step by (all_take p n s e) waits fit;
    }

pub is_out : (p : Settings) (by now : ℕ) (s : SenderState) → by < now + (p.gap + p.step) → RunsOut p by now s → to_send p s ≡ 0
is_out p by now s soon (inl nothing) = nothing
is_out p by now s soon (inr (waits, fit)) = go (to_send p s) refl
  where
    over : (now send all rest span by : ℕ) → all ≡ rest + span → now ≤ send → send + all ≤ by → by < now + span → ⊥
    over now send all rest span by a b c d = omega (arith, a, b, c, d)

    go : (n : ℕ) → to_send p s ≡ n → to_send p s ≡ 0
    go zero e = e
    go (suc n) e = absurd (over now s.next_send (to_send p s * ε p) (n * ε p) (ε p) by (all_take p n s e) waits fit soon)

-- more time is no less
pub longer : (p : Settings) (by later now : ℕ) (s : SenderState) → by ≤ later → RunsOut p by now s → RunsOut p later now s
longer p by later now s le (inl nothing) = inl nothing
longer p by later now s le (inr (waits, fit)) = inr (waits, omega (arith, fit, le))
