use Rattle.norm_ext.proofs.Lent.{lent_requests_law}
use Rattle.norm_ext.proofs.laws.lent_requests.Goals as goal

pub returns : goal.returns
returns c = lent_requests_law
