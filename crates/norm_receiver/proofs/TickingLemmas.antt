-- A tick, over what a receiver keeps.
use Rattle.std.proofs.Common.{◌≡◌, ◌∙◌, ℕ, List, Bool, true, false, Option, Some, None, refl, sym, subst, ap}
use Rattle.std.specs.Prelude.{nat_le, IfSome, [], ◌∷◌}
use Rattle.std.specs.Option.{option_map}
use Rattle.norm_base.specs.Settings.{Settings}
use Rattle.norm_base.specs.Datagrams.{datagram_of}
use Rattle.norm_base.specs.declared.kinds.Sent.{Sent}
use Rattle.fec_plan.specs.declared.position.Position.{Position}
use Rattle.norm_ext.specs.Octets.{octets_of}
use Rattle.norm_ext.specs.Written.{Written, writes}
use Rattle.norm_receive_rules.specs.Laws.{HoldsNothingOutside}
use Rattle.norm_receive_rules.specs.Nack.{ack_message}
use Rattle.norm_receive_rules.specs.ReceiverState.{ReceiverState}
use Rattle.norm_receive_rules.specs.ReceiverStep.{Ticked}
use Rattle.norm_receive_rules.specs.Ticking.{sends, asks_where_needed, ends_back_off, ticked}
use Rattle.norm_receive_rules.proofs.StepLemmas.{step_laws}
use Rattle.norm_receiver.specs.Moves.{IsSent}
use Rattle.norm_receiver.specs.Numbers.{has_ended}
use Rattle.norm_receiver.specs.ReceiverKept.{ReceiverKept, Stands}
use Rattle.norm_receiver.specs.ReceiverSound.{IsTick, IsAcknowledged}
use Rattle.norm_receiver.specs.declared.numbers.Numbers.{Numbers}

-- the state in which the back-off ended
abbrev ended : ReceiverState → ReceiverState
ended s = record s { knows = record (s.knows) { backoff = None } }

pub backed_off : (k : ReceiverKept) (n : Numbers) (s : ReceiverState) → Stands k s → n ≡ record (k.numbers) { backoff = None }
    → Stands (record k { numbers = n }) (ended s)
backed_off k n s h is =
    record { profile = h.profile; hold = h.hold; seen = h.seen; heard = h.heard; numbers = is ∙ ap (λ (m : Numbers). record m { backoff = None }) h.numbers }

-- the end of a back-off by its moment, and by whether that is reached
abbrev ends_by : Settings → ℕ → ReceiverState → Option ℕ → ReceiverState × Option Written
ends_by p now s backoff = elim backoff [
  | Some ends ↦ elim (nat_le ends now) [ true ↦ asks_where_needed p now (ended s) | false ↦ (s, None) ]
  | None ↦ (s, None)
]

abbrev ends_if : Settings → ℕ → ReceiverState → Bool → ReceiverState × Option Written
ends_if p now s over = elim over [ true ↦ asks_where_needed p now (ended s) | false ↦ (s, None) ]

by_end : (p : Settings) (now : ℕ) (s : ReceiverState) (backoff : Option ℕ) → ends_by p now s backoff ≡ ends_if p now s (has_ended now backoff)
by_end p now s (Some ends) = refl
by_end p now s None = refl

pub back_off_ends : (k new : ReceiverKept) (out : List ℕ) (answer : Sent) (now : ℕ) (s : ReceiverState) → Stands k s → has_ended now k.numbers.backoff ≡ true
    → IsSent new out answer (asks_where_needed k.p now (ended s)) → IsSent new out answer (ends_back_off k.p now s)
back_off_ends k new out answer now s h e sent =
    subst (IsSent new out answer)
    (sym (by_end k.p now s s.knows.backoff ∙ ap (λ (n : Numbers). ends_if k.p now s (has_ended now n.backoff)) (sym h.numbers) ∙ ap (ends_if k.p now s) e)) sent

-- a receiver's tick
pub ticks : (k new : ReceiverKept) (out : List ℕ) (answer : Sent) (now : ℕ) (s : ReceiverState) → IsSent new out answer (ticked k.p s now) → HoldsNothingOutside s
    → IsTick new out answer (ticked k.p s now)
ticks k new out answer now s sent outside = record {
  stands = record { agrees = sent.stands; outside = step_laws.goes_on k.p s (Ticked now) outside };
  octets = sent.octets;
}

-- an acknowledgement that was due was sent
pub acknowledged : (p : Settings) (now : ℕ) (s : ReceiverState) (out : List ℕ) (answer : Sent)
    → datagram_of answer out ≡ option_map (λ (w : Written). w.octets) (ticked p s now).1 → IsAcknowledged p s out answer
acknowledged p now s out answer is = go s.knows.due is
  where
    ticks_by : Option Position → ReceiverState × Option Written
    ticks_by due = elim due [
      | Some at ↦ sends (writes (ack_message p s at) (at.index ∷ [])) (record s { knows = record (s.knows) { due = None } })
      | None ↦ ends_back_off p now s
    ]

    go : (due : Option Position) → datagram_of answer out ≡ option_map (λ (w : Written). w.octets) (ticks_by due).1
        → IfSome due (λ at. datagram_of answer out ≡ Some (octets_of (ack_message p s at)))
    go None is = tt
    go (Some at) is = is
