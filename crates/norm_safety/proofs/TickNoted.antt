-- A symbol that a sender's tick sends counts as sent.
use Rattle.std.proofs.Common.{ℕ, List, [], ◌∷◌, Bool, true, false, Option, None, Some}
use Rattle.std.specs.Prelude.{nat_lt, ⊤}
use Rattle.norm_base.specs.Settings.{Settings}
use Rattle.fec_plan.specs.Points.{position_before}
use Rattle.fec_plan.specs.declared.position.Position.{Position}
use Rattle.norm_ext.specs.Written.{Written, writes}
use Rattle.norm_order.specs.Entries.{Object, Whole, Stream}
use Rattle.norm_order.specs.Sets.{is_member}
use Rattle.norm_order.proofs.SetLemmas.{self_in, positions}
use Rattle.norm_send_rules.specs.Flushing.{most_flushes, flushes_for, expired, flushes_oldest, flushes_no_more, flushed, flushes_in_turn, flushes, may_flush}
use Rattle.norm_send_rules.specs.Messages.{squelch_message}
use Rattle.norm_send_rules.specs.SenderState.{SenderState, Watermark, Round}
use Rattle.norm_send_rules.specs.Sending.{next_new, behind, sends, noted, repair_flags, object_of, message_of, sends_want, repairs_next, sends_new}
use Rattle.norm_send_rules.specs.Ticking.{closed_where_due, sends_further, sends_wanted, sends_first, ticked}
use Rattle.norm_send_rules.specs.Watermarks.{oldest}
use Rattle.norm_send_rules.specs.declared.want.Want.{Want}
use Rattle.norm_send_rules.specs.declared.want.Want.TheVariants.{Info, Symbol}
use Rattle.norm_safety.proofs.HeldPasses.{DataPasses}

-- a symbol was sent in a sender's instance
abbrev pub was_sent : SenderState → Position → Bool
was_sent s at = is_member position_before at s.sent

-- what a step sends of a symbol of the current instance counts as sent behind it
abbrev pub SentCounts : SenderState → Option Written → Type 0
SentCounts s None = ⊤
SentCounts s (Some o) = DataPasses (was_sent s) s.current.id o.indices o.message

-- of a step
abbrev StepCounts : SenderState × Option Written → Type 0
StepCounts step = SentCounts step.0 step.1

want_counts : (p : Settings) (now : ℕ) (repair : Object → ℕ) (w : Want) (s : SenderState) → StepCounts (sends_want p now repair w s)
want_counts p now repair (Symbol at) s = λ same. self_in position_before at s.sent positions
want_counts p now repair (Info index) s = go (object_of s (Info index)) (repair (object_of s (Info index)))
  where
    go : (object : Object) (flags : ℕ) → StepCounts (sends p now (writes (message_of p s (Info index) object flags) (index ∷ [])) (noted (Info index) s))
    go (Whole kind None octets) flags = tt
    go (Whole kind (Some info) octets) flags = tt
    go (Stream parts) flags = tt

oldest_counts : (p : Settings) (now : ℕ) (s : SenderState) → StepCounts (flushes_oldest p now s)
oldest_counts p now s = go (oldest s)
  where
    go : (found : Option Watermark) → StepCounts (elim found [ Some w ↦ flushes_for p now w s | None ↦ (s, None) ])
    go None = tt
    go (Some w) = tt

no_more_counts : (p : Settings) (now : ℕ) (w : Watermark) (s : SenderState) → StepCounts (flushes_no_more p now w s)
no_more_counts p now w s = go s.round
  where
    go : (round : Option Round) → StepCounts (elim round [ Some r ↦ (s, None) | None ↦ flushes_oldest p now (expired w.mark s) ])
    go (Some r) = tt
    go None = oldest_counts p now (expired w.mark s)

flushed_counts : (p : Settings) (now : ℕ) (w : Watermark) (s : SenderState) → StepCounts (flushed p now w s)
flushed_counts p now w s = go (nat_lt s.flushes most_flushes)
  where
    go : (b : Bool) → StepCounts (elim b [ true ↦ flushes_for p now w s | false ↦ flushes_no_more p now w s ])
    go true = tt
    go false = no_more_counts p now w s

in_turn_counts : (p : Settings) (now : ℕ) (s : SenderState) → StepCounts (flushes_in_turn p now s)
in_turn_counts p now s = go (oldest s)
  where
    go : (found : Option Watermark) → StepCounts (elim found [ Some w ↦ flushed p now w s | None ↦ (s, None) ])
    go None = tt
    go (Some w) = flushed_counts p now w s

flushes_counts : (p : Settings) (now : ℕ) (s : SenderState) → StepCounts (flushes p now s)
flushes_counts p now s = go (may_flush p s now)
  where
    go : (b : Bool) → StepCounts (elim b [ true ↦ flushes_in_turn p now s | false ↦ (s, None) ])
    go true = in_turn_counts p now s
    go false = tt

further_counts : (p : Settings) (now : ℕ) (s : SenderState) → StepCounts (sends_further p now s)
further_counts p now s = go (next_new p s)
  where
    go : (found : Option Want) → StepCounts (elim found [ Some w ↦ sends_new p now w s | None ↦ flushes p now s ])
    go None = flushes_counts p now s
    go (Some w) = want_counts p now (λ object. 0) w (record s { next = behind w })

wanted_counts : (p : Settings) (now : ℕ) (s : SenderState) → StepCounts (sends_wanted p now s)
wanted_counts p now s = go s.wants
  where
    go : (wants : List Want) → StepCounts (elim wants [ [] ↦ sends_further p now s | w ∷ wants ↦ repairs_next p now w wants s ])
    go [] = further_counts p now s
    go (w ∷ wants) = want_counts p now (λ object. repair_flags p object w) w (record s { wants = wants })

first_counts : (p : Settings) (now : ℕ) (s : SenderState) → StepCounts (sends_first p now s)
first_counts p now s = go s.squelch_due
  where
    go : (due : Bool) → StepCounts (elim due [
      | true ↦ sends p now (writes (squelch_message p s s.current.drop) (s.current.drop.index ∷ [])) (record s { squelch_due = false })
      | false ↦ sends_wanted p now s
    ])
    go true = tt
    go false = wanted_counts p now s

pub tick_counts : (p : Settings) (s : SenderState) (now : ℕ) → SentCounts (ticked p s now).0 (ticked p s now).1
tick_counts p s now = go (closed_where_due p now s) (nat_lt now (closed_where_due p now s).next_send)
  where
    go : (c : SenderState) (early : Bool) → StepCounts (elim early [ true ↦ (c, None) | false ↦ sends_first p now c ])
    go c true = tt
    go c false = first_counts p now c
