use Rattle.std.proofs.Common.{arith}
use Rattle.norm_ext.proofs.ExtensionLemmas.{exts_together}
use Rattle.norm_ext.proofs.extensions.extensions_of.Goals as goal

pub returns-clause-octets : goal.returns-clause-octets
returns-clause-octets c = exts_together c.args.words.now (λ i. omega (arith, c.type_inv.words i)) c.requires
