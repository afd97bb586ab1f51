use Rattle.fec_plan.proofs.CoverLemmas.{blocks_cover_law}
use Rattle.fec_plan.proofs.laws.blocks_cover.Goals as goal

pub returns : goal.returns
returns c = blocks_cover_law
