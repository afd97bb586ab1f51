use Rattle.norm_tail.proofs.FitLemmas.{tails_fit}
use Rattle.norm_tail.proofs.laws.tails_fit.Goals as goal

pub returns : goal.returns
returns c = tails_fit
