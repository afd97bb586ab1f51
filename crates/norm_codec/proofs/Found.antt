-- What is found is spelled, and where nothing is found nothing is spelled.
use Rattle.std.proofs.Common.{◌≡◌, ℕ, List, Result, Ok, Err}
use Rattle.std.specs.Prelude.{MatchResult, IfOk, IfErr}
use Rattle.norm_ext.specs.Message.{Message}
use Rattle.norm_ext.specs.Spells.{Spells}
use Rattle.norm_ext.specs.Reading.{decoded}
use Rattle.norm_ext.specs.declared.refusal.Refusal.{Refusal}
use Rattle.norm_base.specs.Octets.{AreOctets}
use Rattle.norm_ext.proofs.ReadIsSpelled.{read_is_spelled}
use Rattle.norm_ext.proofs.SpelledIsRead.{spelled_is_read}
use Rattle.norm_codec.specs.declared.message.Message.{Message as Lent}
use Rattle.norm_codec.specs.View.{message_of}

pub is_found : (octets : List ℕ) (r : Result Lent Refusal) → AreOctets octets → MatchResult r (λ m. decoded octets ≡ Ok (message_of m)) (λ refusal. decoded octets ≡ Err refusal)
    → IfOk r (λ m. Spells (message_of m) octets)
is_found octets (Ok m) fits e = read_is_spelled (message_of m) octets fits e
is_found octets (Err refusal) fits e = tt

differ : (m : Message) (refusal : Refusal) (r : Result Message Refusal) → r ≡ Ok m → r ≡ Err refusal → ⊥
differ m refusal r e f = cc

pub is_none : (octets : List ℕ) (r : Result Lent Refusal) → MatchResult r (λ m. decoded octets ≡ Ok (message_of m)) (λ refusal. decoded octets ≡ Err refusal)
    → IfErr r (λ refusal. (m : Message) → Spells m octets → ⊥)
is_none octets (Ok m) e = tt
is_none octets (Err refusal) e = λ m s. differ m refusal (decoded octets) (spelled_is_read m octets s) e
