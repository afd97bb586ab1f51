use Rattle.norm_send_rules.proofs.ForgottenLemmas.{none_forgotten}
use Rattle.norm_send_rules.proofs.laws.none_forgotten.Goals as goal

-- src/laws.rt:76:1
pub returns : goal.returns
returns c = none_forgotten
