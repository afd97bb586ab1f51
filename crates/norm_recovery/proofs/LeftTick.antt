-- A tick leaves the wants as a due closing left them, or sends the lowest of them; and the closing leaves no more.
use Rattle.std.proofs.Common.{◌≡◌, ℕ, ◌≤◌, List, [], ◌∷◌, length, Bool, true, false, Option, None, Some, refl, sym, ap, ◌∙◌, arith}
use Rattle.std.specs.Prelude.{nat_lt, nat_le, ◌==◌}
use Rattle.norm_base.specs.Settings.{Settings}
use Rattle.norm_ext.specs.Written.{Written, writes}
use Rattle.norm_order.specs.Entries.{Object, Whole, Stream}
use Rattle.norm_send_rules.specs.Closing.{round_closed}
use Rattle.norm_send_rules.specs.Flushing.{most_flushes, may_flush, flushes_for, expired, flushes_oldest, flushes_no_more, flushed, flushes_in_turn, flushes}
use Rattle.norm_send_rules.specs.Messages.{squelch_message}
use Rattle.norm_send_rules.specs.SenderState.{SenderState, Round, Watermark}
use Rattle.norm_send_rules.specs.Sending.{message_of, object_of, repair_flags, repairs_next, next_new, sends, sends_new, noted, behind}
use Rattle.norm_send_rules.specs.Ticking.{closed_where_due, sends_further, sends_wanted, sends_first, sends_in_time, ticked}
use Rattle.norm_send_rules.specs.Wants.{want_index}
use Rattle.norm_send_rules.specs.Watermarks.{oldest, pending, keeps_oldest, counted_anew, end_where}
use Rattle.norm_send_rules.specs.declared.news.Outcome.TheVariants.{Expired}
use Rattle.norm_send_rules.specs.declared.want.Want.{Want}
use Rattle.norm_send_rules.specs.declared.want.Want.TheVariants.{Info, Symbol}
use Rattle.norm_safety.specs.Said.{first_index}
use Rattle.norm_safety.specs.World.{World}
use Rattle.norm_recovery.specs.Left.{left}
use Rattle.norm_recovery.specs.LeftHeard.{brings}
use Rattle.norm_recovery.proofs.LeftFalls.{closing_lowers}

-- a closing that is due leaves no more
pub due_lowers : (p : Settings) (now : ℕ) (w : World) → left p (record w { sender = closed_where_due p now w.sender }) ≤ left p w
due_lowers p now w = go w.sender.round
  where
    by : (r : Round) (b : Bool) → left p (record w { sender = elim b as (λ _. SenderState) [ true ↦ round_closed p r w.sender | false ↦ w.sender ] }) ≤ left p w
    by r true = closing_lowers p r w
    by r false = omega arith

    go : (found : Option Round) → left p (record w {
      sender = elim found as (λ _. SenderState) [
        | Some r ↦ elim (nat_le r.closes now) [ true ↦ round_closed p r w.sender | false ↦ w.sender ]
        | None ↦ w.sender
      ];
    }) ≤ left p w
    go (Some r) = by r (nat_le r.closes now)
    go None = omega arith

-- ---- what is sent

-- the state that an answer leaves
abbrev state_of : SenderState × Option Written → SenderState
state_of step = step.0

-- The wants stay, or the lowest of them goes with the datagram that brings it.
pub data Goes (s : SenderState) (step : SenderState × Option Written) : Type 0 where
  Leaves : step.0.wants ≡ s.wants → Goes s step
  Brings : (y : Want) (d : Written) → s.wants ≡ y ∷ step.0.wants → step.1 ≡ Some d → brings (first_index d.indices) d.message ≡ Some y → Goes s step

pub brings_it : (p : Settings) (s : SenderState) (y : Want) (o : Object) (repair : ℕ) → brings (want_index y) (message_of p s y o repair) ≡ Some y
brings_it p s (Info index) (Whole kind (Some info) octets) repair = refl
brings_it p s (Info index) (Whole kind None octets) repair = refl
brings_it p s (Info index) (Stream parts) repair = refl
brings_it p s (Symbol at) o repair = refl

noted_wants : (y : Want) (s : SenderState) → (noted y s).wants ≡ s.wants
noted_wants (Info index) s = refl
noted_wants (Symbol at) s = refl

anew_wants : (before t : SenderState) → (counted_anew before t).wants ≡ t.wants
anew_wants before t = go (keeps_oldest before t)
  where
    go : (b : Bool) → (elim b as (λ _. SenderState) [ true ↦ t | false ↦ record t { flushes = 0 } ]).wants ≡ t.wants
    go true = refl
    go false = refl

flush_wants : (p : Settings) (now : ℕ) (s : SenderState) → (flushes p now s).0.wants ≡ s.wants
flush_wants p now s = go (may_flush p s now)
  where
    gone : (w : Watermark) → (expired w.mark s).wants ≡ s.wants
    gone w = anew_wants s (end_where (λ v. v.mark == w.mark) (λ v. Expired (length (pending s v.at))) s)

    then_oldest : (w : Watermark) (next : Option Watermark)
        → (state_of (elim next [ Some v ↦ flushes_for p now v (expired w.mark s) | None ↦ (expired w.mark s, None) ])).wants ≡ s.wants
    then_oldest w (Some v) = gone w
    then_oldest w None = gone w

    no_more : (w : Watermark) (round : Option Round)
        → (state_of (elim round [ Some r ↦ (s, None) | None ↦ flushes_oldest p now (expired w.mark s) ])).wants ≡ s.wants
    no_more w (Some r) = refl
    no_more w None = then_oldest w (oldest (expired w.mark s))

    counts : (w : Watermark) (b : Bool) → (state_of (elim b [ true ↦ flushes_for p now w s | false ↦ flushes_no_more p now w s ])).wants ≡ s.wants
    counts w true = refl
    counts w false = no_more w s.round

    turn : (found : Option Watermark) → (state_of (elim found [ Some w ↦ flushed p now w s | None ↦ (s, None) ])).wants ≡ s.wants
    turn (Some w) = counts w (nat_lt s.flushes most_flushes)
    turn None = refl

    go : (b : Bool) → (state_of (elim b [ true ↦ flushes_in_turn p now s | false ↦ (s, None) ])).wants ≡ s.wants
    go true = turn (oldest s)
    go false = refl

sends_goes : (p : Settings) (now : ℕ) (s : SenderState) → Goes s (sends_in_time p now s)
sends_goes p now s = go (nat_lt now s.next_send)
  where
    further : (found : Option Want) → Goes s (elim found as (λ _. SenderState × Option Written) [ Some y ↦ sends_new p now y s | None ↦ flushes p now s ])
    further (Some y) = Leaves (noted_wants y (record s { next = behind y }))
    further None = Leaves (flush_wants p now s)

    wanted : (wants : List Want) → s.wants ≡ wants
        → Goes s (elim wants as (λ _. SenderState × Option Written) [ [] ↦ sends_further p now s | y ∷ more ↦ repairs_next p now y more s ])
    wanted [] e = further (next_new p s)
    wanted (y ∷ more) e =
        Brings y _ (e ∙ ap (λ (rest : List Want). y ∷ rest) (sym (noted_wants y (record s { wants = more })))) refl
        (brings_it p (record s { wants = more }) y (object_of (record s { wants = more }) y) (repair_flags p (object_of (record s { wants = more }) y) y))

    first : (b : Bool) → Goes s (elim b as (λ _. SenderState × Option Written) [
      | true ↦ sends p now (writes (squelch_message p s s.current.drop) (s.current.drop.index ∷ [])) (record s { squelch_due = false })
      | false ↦ sends_wanted p now s
    ])
    first true = Leaves refl
    first false = wanted s.wants refl

    go : (b : Bool) → Goes s (elim b as (λ _. SenderState × Option Written) [ true ↦ (s, None) | false ↦ sends_first p now s ])
    go true = Leaves refl
    go false = first s.squelch_due

-- so it is at a tick, of the wants that a due closing left
pub tick_goes : (p : Settings) (now : ℕ) (s : SenderState) → Goes (closed_where_due p now s) (ticked p s now)
tick_goes p now s = sends_goes p now (closed_where_due p now s)
