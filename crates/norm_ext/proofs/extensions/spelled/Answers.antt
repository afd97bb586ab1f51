use Rattle.std.proofs.Common.{sym, arith}
use Rattle.norm_ext.proofs.ExtensionLemmas.{exts_together}
use Rattle.norm_ext.proofs.extensions.spelled.Goals as goal

pub returns : goal.returns
returns c = sym (exts_together c.args.words.now (λ i. omega (arith, c.type_inv.words i)) c.requires)
