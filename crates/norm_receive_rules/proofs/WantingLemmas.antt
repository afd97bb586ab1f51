-- A datagram for which a receiver may not want memory changes nothing.
use Rattle.std.proofs.Common.{◌≡◌, ℕ, List, map, Bool, true, false, Option, None, Some, Result, Ok, Err, refl}
use Rattle.std.specs.Prelude.{◌==◌, ◌&&◌, unwrap_or, option_and_then, is_some}
use Rattle.norm_base.specs.Settings.{Settings}
use Rattle.norm_ext.specs.Asking.{named}
use Rattle.norm_ext.specs.Message.{Message, Info, Data, Flush, Eot, Squelch, RepairAdv, AckReq, Opaque, Nack, Ack, Report}
use Rattle.norm_ext.specs.Reading.{decoded}
use Rattle.norm_ext.specs.Requests.{Request}
use Rattle.norm_receive_rules.specs.Leaving.{entered, is_in}
use Rattle.norm_receive_rules.specs.Overhearing.{asked_all, heard_whole, nack_counts}
use Rattle.norm_receive_rules.specs.ReceiverState.{ReceiverState}
use Rattle.norm_receive_rules.specs.Receiving.{info_received, data_received, flush_received, squelch_received, takes_in, in_instance, message_received}
use Rattle.norm_receive_rules.specs.Wanting.{comes_in, is_hearing, message_wants}
use Rattle.norm_receive_rules.specs.WantingLaws.{WantingLaws}

clash : true ≡ false → ⊥
clash e = cc

-- a message of the sender that is not taken in
not_in : (p : Settings) (now draw source id object : ℕ) (brings : ℕ → ReceiverState → ReceiverState) (s : ReceiverState)
    → comes_in p s source id ≡ false → in_instance p now draw source id object brings s ≡ s
not_in p now draw source id object brings s = go (source == p.sender) (entered s id)
  where
    go : (own : Bool) (found : Option ReceiverState) → (own && is_some found) ≡ false
        → (elim own as (λ _. ReceiverState) [ true ↦ unwrap_or (option_and_then (takes_in p now draw object brings) found) s | false ↦ s ]) ≡ s
    go false found e = refl
    go true None e = refl
    go true (Some t) e = absurd (clash e)

-- the state after requests, by the back-off that runs or none
abbrev heard_by : Settings → List Request → ReceiverState → Option ℕ → ReceiverState
heard_by p requests s backoff = record s {
  knows = elim backoff [
    | Some ends ↦ record (s.knows) { heard = heard_whole s.knows.heard (asked_all (map (named p s.knows.known) requests)) }
    | None ↦ s.knows
  ];
}

-- requests that do not count
not_heard : (p : Settings) (requests : List Request) (s : ReceiverState) (counts : Bool) (backoff : Option ℕ) → (counts && is_some backoff) ≡ false
    → (elim counts as (λ _. ReceiverState) [ true ↦ heard_by p requests s backoff | false ↦ s ]) ≡ s
not_heard p requests s false backoff e = refl
not_heard p requests s true None e = refl
not_heard p requests s true (Some ends) e = absurd (clash e)

not_said : (p : Settings) (requests : List Request) (s : ReceiverState) (own inside : Bool) (backoff : Option ℕ) → (own && inside && is_some backoff) ≡ false
    → (elim own as (λ _. ReceiverState) [
      | true ↦ elim inside as (λ _. ReceiverState) [ true ↦ heard_by p requests s backoff | false ↦ s ]
      | false ↦ s
    ]) ≡ s
not_said p requests s false inside backoff e = refl
not_said p requests s true inside backoff e = not_heard p requests s inside backoff e

message_lost : {E : Type 0} (p : Settings) (s : ReceiverState) (now draw : ℕ) (said : Result Message E) → message_wants p said s ≡ false
    → message_received p now draw said s ≡ s
message_lost p s now draw (Ok (Info m)) e = not_in p now draw m.head.source m.head.instance m.head.object (info_received p m) s e
message_lost p s now draw (Ok (Data m)) e = not_in p now draw m.head.source m.head.instance m.head.object (data_received p m) s e
message_lost p s now draw (Ok (Flush m)) e = not_in p now draw m.head.source m.head.instance m.object (flush_received m) s e
message_lost p s now draw (Ok (Squelch m)) e = not_in p now draw m.head.source m.head.instance m.object (squelch_received p m) s e
message_lost p s now draw (Ok (RepairAdv m)) e = not_said p m.requests s (m.head.source == p.sender) (is_in s m.head.instance) s.knows.backoff e
message_lost p s now draw (Ok (Nack m)) e = not_heard p m.requests s (nack_counts p m s) s.knows.backoff e
message_lost p s now draw (Ok (Eot m)) e = refl
message_lost p s now draw (Ok (AckReq m)) e = refl
message_lost p s now draw (Ok (Opaque m)) e = refl
message_lost p s now draw (Ok (Ack m)) e = refl
message_lost p s now draw (Ok (Report m)) e = refl
message_lost p s now draw (Err refusal) e = refl

pub wanting_laws : WantingLaws
wanting_laws = record { nothing = λ p s bytes now draw e. message_lost p s now draw (decoded bytes) e }
