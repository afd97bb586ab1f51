-- What a tick of a sender does, with its round closed where due: it waits, sends something, has nothing to send, or flushes.
use Rattle.std.proofs.Common.{◌≡◌, ℕ, zero, suc, ◌<◌, ◌≤◌, Bool, true, false, Option, None, Some, refl, ap, ◌∙◌, arith, ◌⊎◌, inl, inr}
use Rattle.std.specs.Prelude.{nat_lt, nat_le}
use Rattle.std.proofs.lemmas.Bool.Decides.{Decides-ltb}
use Rattle.std.proofs.lemmas.Bool.{cases_lt}
use Rattle.norm_base.specs.Settings.{Settings}
use Rattle.norm_ext.specs.Written.{Written}
use Rattle.norm_send_rules.specs.Closing.{round_closed}
use Rattle.norm_send_rules.specs.Flushing.{most_flushes, may_flush, flushes_for, flushes_in_turn}
use Rattle.norm_send_rules.specs.SenderState.{SenderState, Round, Watermark}
use Rattle.norm_send_rules.specs.Ticking.{sends_first, sends_in_time, closed_where_due}
use Rattle.norm_send_rules.specs.Watermarks.{oldest}
use Rattle.norm_recovery.specs.RunsOut.{to_send}
use Rattle.norm_recovery.proofs.FlushGoes.{nothing_goes, may_go}
use Rattle.norm_recovery.proofs.FlushKnown.{flush_of}
use Rattle.norm_recovery.proofs.RunsOutTick.{Goes, Ticks, Early, Sends, sends_some}
use Rattle.norm_recovery.proofs.WatchFlushes.{le_of}

-- From a state of which a round was closed where due, it comes to a step: it is too early; something is sent; nothing is to be sent, and no flush may go
-- yet; or a flush goes for the oldest watermark.
pub data Does (p : Settings) (now : ℕ) (c : SenderState) (w : Watermark) (step : SenderState × Option Written) : Type 0 where
  TooSoon : now < c.next_send → step.0 ≡ c → Does p now c w step
  Gives : (n : ℕ) → to_send p c ≡ suc n → c.next_send ≤ now → Goes p now n c.last_flush step.0 → Does p now c w step
  HasNone : to_send p c ≡ 0 → c.next_send ≤ now → may_flush p c now ≡ false → step.0 ≡ c → Does p now c w step
  Flushes : to_send p c ≡ 0 → c.next_send ≤ now → step ≡ flushes_for p now w c → Does p now c w step

pub tick_does : (p : Settings) (now : ℕ) (c : SenderState) (w : Watermark) → oldest c ≡ Some w
    → (may_flush p c now ≡ true → nat_lt c.flushes most_flushes ≡ true) → Does p now c w (sends_in_time p now c)
tick_does p now c w old few = go (to_send p c) refl
  where
    some : (n : ℕ) → to_send p c ≡ suc n → Ticks p now n c (sends_in_time p now c).0 → Does p now c w (sends_in_time p now c)
    some n e (Early before same) = TooSoon before same
    some n e (Sends due goes) = Gives n e due goes

    early : now < c.next_send → (sends_in_time p now c).0 ≡ c
    early lt = ap (λ (b : Bool). (elim b as (λ _. SenderState × Option Written) [ true ↦ (c, None) | false ↦ sends_first p now c ]).0)
        ((Decides-ltb now c.next_send).1 lt)

    flush : to_send p c ≡ 0 → c.next_send ≤ now → (b : Bool) → may_flush p c now ≡ b → Does p now c w (sends_in_time p now c)
    flush none due true may = Flushes none due (nothing_goes p now c due none ∙ may_go p now c w may (few may) old)
    flush none due false may =
        HasNone none due may (ap (λ (step : SenderState × Option Written). step.0)
        (nothing_goes p now c due none
        ∙ ap (λ (b : Bool). elim b as (λ _. SenderState × Option Written) [ true ↦ flushes_in_turn p now c | false ↦ (c, None) ]) may))

    by : to_send p c ≡ 0 → (now < c.next_send) ⊎ (c.next_send ≤ now) → Does p now c w (sends_in_time p now c)
    by none (inl lt) = TooSoon lt (early lt)
    by none (inr le) = flush none le (may_flush p c now) refl

    go : (n : ℕ) → to_send p c ≡ n → Does p now c w (sends_in_time p now c)
    go zero e = by e (cases_lt now c.next_send)
    go (suc n) e = some n e (sends_some p now n c e)

-- A tick closes no round, or one that is due.
pub data Closing (p : Settings) (now : ℕ) (s : SenderState) : Type 0 where
  Open : closed_where_due p now s ≡ s → Closing p now s
  Closes : (x : Round) → s.round ≡ Some x → x.closes ≤ now → closed_where_due p now s ≡ round_closed p x s → Closing p now s

abbrev at_round : Settings → ℕ → SenderState → Option Round → SenderState
at_round p now s found = elim found [ Some x ↦ elim (nat_le x.closes now) [ true ↦ round_closed p x s | false ↦ s ] | None ↦ s ]

pub closing : (p : Settings) (now : ℕ) (s : SenderState) → Closing p now s
closing p now s = go s.round refl
  where
    by : (x : Round) (b : Bool) → s.round ≡ Some x → nat_le x.closes now ≡ b → Closing p now s
    by x true e is = Closes x e (le_of x.closes now is)
        (ap (at_round p now s) e ∙ ap (λ (b : Bool). elim b as (λ _. SenderState) [ true ↦ round_closed p x s | false ↦ s ]) is)
    by x false e is = Open (ap (at_round p now s) e ∙ ap (λ (b : Bool). elim b as (λ _. SenderState) [ true ↦ round_closed p x s | false ↦ s ]) is)

    go : (found : Option Round) → s.round ≡ found → Closing p now s
    go None e = Open (ap (at_round p now s) e)
    go (Some x) e = by x (nat_le x.closes now) e refl

-- a closing leaves what a flush says, and when it may go
pub record ClosedLeaves (p : Settings) (s c : SenderState) : Type 0 where
  pub says : (w : Watermark) → flush_of p c w ≡ flush_of p s w
  pub old : oldest c ≡ oldest s
  pub last : c.last_flush ≡ s.last_flush
  pub send : c.next_send ≡ s.next_send
  pub fewer : c.flushes ≤ s.flushes

pub closed_leaves : (p : Settings) (now : ℕ) (s : SenderState) → ClosedLeaves p s (closed_where_due p now s)
closed_leaves p now s = go s.round
  where
    fewer : (b : Bool) → elim b as (λ _. ℕ) [ true ↦ 0 | false ↦ s.flushes ] ≤ s.flushes
    fewer true = omega arith
    fewer false = omega arith

    itself : ClosedLeaves p s s
    itself = record { says = λ w. refl; old = refl; last = refl; send = refl; fewer = omega arith }

    by : (x : Round) (b : Bool) → ClosedLeaves p s (elim b [ true ↦ round_closed p x s | false ↦ s ])
    by x true = record { says = λ w. refl; old = refl; last = refl; send = refl; fewer = fewer _ }
    by x false = itself

    go : (found : Option Round) → ClosedLeaves p s (at_round p now s found)
    go None = itself
    go (Some x) = by x (nat_le x.closes now)
