-- What a tick of the sender gives is of its current instance.
use Rattle.std.proofs.Common.{◌≡◌, ℕ, List, [], ◌∷◌, length, Bool, true, false, Option, None, Some, refl}
use Rattle.std.specs.Prelude.{⊤, ◌==◌, nat_lt, nat_le}
use Rattle.norm_base.specs.Settings.{Settings}
use Rattle.norm_ext.specs.Written.{Written, writes}
use Rattle.norm_order.specs.Entries.{Object, Whole, Stream}
use Rattle.norm_send_rules.specs.Closing.{round_closed}
use Rattle.norm_send_rules.specs.Flushing.{most_flushes, may_flush, flushes_for, expired, flushes_oldest, flushes_no_more, flushed, flushes_in_turn, flushes}
use Rattle.norm_send_rules.specs.Messages.{squelch_message}
use Rattle.norm_send_rules.specs.SenderState.{SenderState, Watermark, Round}
use Rattle.norm_send_rules.specs.Sending.{next_new, behind, noted, sends, repair_flags, object_of, message_of, sends_want, repairs_next, sends_new}
use Rattle.norm_send_rules.specs.Ticking.{closed_where_due, sends_further, sends_wanted, sends_first, ticked}
use Rattle.norm_send_rules.specs.Watermarks.{oldest, pending, keeps_oldest, end_where}
use Rattle.norm_send_rules.specs.declared.news.Outcome.TheVariants.{Expired}
use Rattle.norm_send_rules.specs.declared.want.Want.{Want}
use Rattle.norm_send_rules.specs.declared.want.Want.TheVariants.{Info, Symbol}
use Rattle.norm_recovery.specs.MembersEnter.{IsOwnMessage}

-- what a step gives is of this instance
abbrev pub GivesOwn : Settings → ℕ → Option Written → Type 0
GivesOwn p id None = ⊤
GivesOwn p id (Some d) = IsOwnMessage p id d.message

-- what a step gives
abbrev given : SenderState × Option Written → Option Written
given step = step.1

want_own : (p : Settings) (now : ℕ) (repair : Object → ℕ) (w : Want) (id : ℕ) (t : SenderState) → t.current.id ≡ id
    → GivesOwn p id (sends_want p now repair w t).1
want_own p now repair (Symbol at) id t same = (refl, same)
want_own p now repair (Info index) id t same = go (object_of t (Info index)) (repair (object_of t (Info index)))
  where
    go : (object : Object) (flags : ℕ) → GivesOwn p id (sends p now (writes (message_of p t (Info index) object flags) (index ∷ [])) (noted (Info index) t)).1
    go (Whole kind None octets) flags = (refl, same)
    go (Whole kind (Some info) octets) flags = (refl, same)
    go (Stream parts) flags = (refl, same)

oldest_own : (p : Settings) (now id : ℕ) (t : SenderState) → t.current.id ≡ id → GivesOwn p id (flushes_oldest p now t).1
oldest_own p now id t same = go (oldest t)
  where
    go : (found : Option Watermark) → GivesOwn p id (given (elim found [ Some w ↦ flushes_for p now w t | None ↦ (t, None) ]))
    go None = tt
    go (Some w) = (refl, same)

expired_same : (mark id : ℕ) (t : SenderState) → t.current.id ≡ id → (expired mark t).current.id ≡ id
expired_same mark id t same = go (keeps_oldest t (end_where (λ v. v.mark == mark) (λ v. Expired (length (pending t v.at))) t))
  where
    go : (b : Bool) → (elim b as (λ _. SenderState) [
      | true ↦ end_where (λ v. v.mark == mark) (λ v. Expired (length (pending t v.at))) t
      | false ↦ record (end_where (λ v. v.mark == mark) (λ v. Expired (length (pending t v.at))) t) { flushes = 0 }
    ]).current.id ≡ id
    go true = same
    go false = same

no_more_own : (p : Settings) (now : ℕ) (w : Watermark) (id : ℕ) (t : SenderState) → t.current.id ≡ id → GivesOwn p id (flushes_no_more p now w t).1
no_more_own p now w id t same = go t.round
  where
    go : (round : Option Round) → GivesOwn p id (given (elim round [ Some r ↦ (t, None) | None ↦ flushes_oldest p now (expired w.mark t) ]))
    go (Some r) = tt
    go None = oldest_own p now id (expired w.mark t) (expired_same w.mark id t same)

flushes_own : (p : Settings) (now id : ℕ) (t : SenderState) → t.current.id ≡ id → GivesOwn p id (flushes p now t).1
flushes_own p now id t same = go (may_flush p t now)
  where
    counts : (w : Watermark) (b : Bool) → GivesOwn p id (given (elim b [ true ↦ flushes_for p now w t | false ↦ flushes_no_more p now w t ]))
    counts w true = (refl, same)
    counts w false = no_more_own p now w id t same

    turn : (found : Option Watermark) → GivesOwn p id (given (elim found [ Some w ↦ flushed p now w t | None ↦ (t, None) ]))
    turn None = tt
    turn (Some w) = counts w (nat_lt t.flushes most_flushes)

    go : (b : Bool) → GivesOwn p id (given (elim b [ true ↦ flushes_in_turn p now t | false ↦ (t, None) ]))
    go true = turn (oldest t)
    go false = tt

wanted_own : (p : Settings) (now id : ℕ) (t : SenderState) → t.current.id ≡ id → GivesOwn p id (sends_wanted p now t).1
wanted_own p now id t same = go t.wants
  where
    further : (found : Option Want) → GivesOwn p id (given (elim found [ Some w ↦ sends_new p now w t | None ↦ flushes p now t ]))
    further None = flushes_own p now id t same
    further (Some w) = want_own p now (λ object. 0) w id (record t { next = behind w }) same

    go : (wants : List Want) → GivesOwn p id (given (elim wants [ [] ↦ sends_further p now t | w ∷ more ↦ repairs_next p now w more t ]))
    go [] = further (next_new p t)
    go (w ∷ more) = want_own p now (λ object. repair_flags p object w) w id (record t { wants = more }) same

closed_same : (p : Settings) (now : ℕ) (s : SenderState) → (closed_where_due p now s).current.id ≡ s.current.id
closed_same p now s = go s.round
  where
    due : (r : Round) (b : Bool) → (elim b as (λ _. SenderState) [ true ↦ round_closed p r s | false ↦ s ]).current.id ≡ s.current.id
    due r true = refl
    due r false = refl

    go : (round : Option Round) → (elim round as (λ _. SenderState) [
      | Some r ↦ elim (nat_le r.closes now) [ true ↦ round_closed p r s | false ↦ s ]
      | None ↦ s
    ]).current.id ≡ s.current.id
    go None = refl
    go (Some r) = due r (nat_le r.closes now)

pub tick_own : (p : Settings) (s : SenderState) (now : ℕ) → GivesOwn p s.current.id (ticked p s now).1
tick_own p s now = go (closed_where_due p now s) (closed_same p now s) (nat_lt now (closed_where_due p now s).next_send)
  where
    first : (c : SenderState) → c.current.id ≡ s.current.id → (due : Bool) → GivesOwn p s.current.id (given (elim due [
      | true ↦ sends p now (writes (squelch_message p c c.current.drop) (c.current.drop.index ∷ [])) (record c { squelch_due = false })
      | false ↦ sends_wanted p now c
    ]))
    first c same true = (refl, same)
    first c same false = wanted_own p now s.current.id c same

    go : (c : SenderState) → c.current.id ≡ s.current.id → (early : Bool) → GivesOwn p s.current.id (given (elim early [ true ↦ (c, None) | false ↦ sends_first p now c ]))
    go c same true = tt
    go c same false = first c same c.squelch_due
