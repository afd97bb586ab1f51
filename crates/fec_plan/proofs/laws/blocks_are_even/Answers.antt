use Rattle.fec_plan.proofs.CoverLemmas.{blocks_are_even_law}
use Rattle.fec_plan.proofs.laws.blocks_are_even.Goals as goal

pub returns : goal.returns
returns c = blocks_are_even_law
