use Rattle.std.proofs.Common.{arith}
use Rattle.norm_ext.proofs.MessageLemmas.{requests_together}
use Rattle.norm_ext.proofs.requests.requests_of.Goals as goal

pub returns-clause-octets : goal.returns-clause-octets
returns-clause-octets c = requests_together 0 c.args.list.now (λ i. omega (arith, c.type_inv.list i)) c.requires.checked
