use Rattle.fec_plan.proofs.CoverLemmas.{all_but_last_are_full_law}
use Rattle.fec_plan.proofs.laws.all_but_last_are_full.Goals as goal

pub returns : goal.returns
returns c = all_but_last_are_full_law
