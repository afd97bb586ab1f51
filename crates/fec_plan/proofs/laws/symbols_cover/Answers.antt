use Rattle.fec_plan.proofs.CoverLemmas.{symbols_cover_law}
use Rattle.fec_plan.proofs.laws.symbols_cover.Goals as goal

pub returns : goal.returns
returns c = symbols_cover_law
