-- The refusal that a reading gives is the first that applies.
use Rattle.std.proofs.Common.{◌≡◌, ℕ, List, length, refl, sym, ap, ◌∙◌}
use Rattle.norm_ext.specs.Laws.{RefusedIsFirst, FirstIsRefused, SpelledIsNotRefused}
use Rattle.norm_ext.specs.Reading.{decoded}
use Rattle.norm_base.specs.Octets.{AreOctets}
use Rattle.norm_ext.proofs.TurnLemmas.{AllRefuse, refused_first, first_refused, none_refused}
use Rattle.norm_ext.proofs.ReadingSteps.{steps_of, outcome, refused_outcome, outcome_refused, decoded_outcome}
use Rattle.norm_ext.proofs.SpelledIsRead.{spelled_is_read}
use Rattle.norm_ext.proofs.StepLemmas.{short_refuses, version_refuses, type_refuses, least_refuses, past_refuses, encoding_refuses, sub_type_refuses}
use Rattle.norm_ext.proofs.PartLemmas.{extensions_refuse, encodings_refuse, nodes_refuse, list_refuses}

all_refuse : (octets : List ℕ) → AreOctets octets → AllRefuse octets 0 (steps_of octets)
unfolding steps_of
all_refuse octets fits = (
  short_refuses octets,
  (version_refuses octets, (type_refuses octets, (least_refuses octets, (past_refuses octets, (encoding_refuses octets, (sub_type_refuses octets, (extensions_refuse octets fits, (encodings_refuse octets fits, (nodes_refuse octets, (list_refuses octets, tt)))))))))),
)

pub refused_is_first_law : RefusedIsFirst
refused_is_first_law r octets fits e =
    refused_first octets (steps_of octets) (all_refuse octets fits) r (sym (decoded_outcome octets) ∙ refused_outcome (decoded octets) r e)

eleven_steps : (octets : List ℕ) → length (steps_of octets) ≡ 11
unfolding steps_of
eleven_steps octets = refl

pub first_is_refused_law : FirstIsRefused
first_is_refused_law r octets fits is =
    outcome_refused (decoded octets) r (decoded_outcome octets ∙ first_refused octets (steps_of octets) (all_refuse octets fits) (eleven_steps octets) r is)

pub spelled_is_not_refused_law : SpelledIsNotRefused
spelled_is_not_refused_law m octets fits spells r applies =
    none_refused octets (steps_of octets) (all_refuse octets fits) (eleven_steps octets) (sym (decoded_outcome octets) ∙ ap outcome (spelled_is_read m octets spells)) r applies
