use Rattle.std.proofs.Common.{arith}
use Rattle.norm_codec.proofs.Found.{is_found, is_none}
use Rattle.norm_codec.proofs.reading.decode.Goals as goal

pub returns-clause-found : goal.returns-clause-found
returns-clause-found c = is_found c.args.bytes.now c.read_any.result (λ i. omega (arith, c.type_inv.bytes i)) c.read_any.ensures.exact

pub returns-clause-none : goal.returns-clause-none
returns-clause-none c = is_none c.args.bytes.now c.read_any.result c.read_any.ensures.exact
