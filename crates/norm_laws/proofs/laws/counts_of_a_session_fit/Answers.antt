use Rattle.norm_laws.proofs.CountsFit.{law}
use Rattle.norm_laws.proofs.laws.counts_of_a_session_fit.Goals as goal

pub returns : goal.returns
returns c = law
