use Rattle.std.proofs.Common.{sym, arith}
use Rattle.norm_ext.proofs.MessageLemmas.{requests_together}
use Rattle.norm_ext.proofs.requests.spelled.Goals as goal

pub returns : goal.returns
returns c = sym (requests_together 0 c.args.list.now (λ i. omega (arith, c.type_inv.list i)) c.requires.checked)
