use Rattle.std.proofs.Common.{◌%◌, ap, ◌∙◌, arith, length}
use Rattle.obj_buffer.proofs.PieceLemmas.{buffer_long, buffer_whole}
use Rattle.obj_buffer.proofs.buffer.ObjectBuf.symbol.Goals as goal

pub symbol_of-requires-clause-pieces : goal.symbol_of-requires-clause-pieces
symbol_of-requires-clause-pieces c = omega (arith, ap length c.deref.ensures.value, buffer_long c.self.inside c.self.invariant)

pub symbol_of-requires-clause-whole : goal.symbol_of-requires-clause-whole
symbol_of-requires-clause-whole c = ap (λ xs. length xs % c.self.inside.plan.e) c.deref.ensures.value ∙ buffer_whole c.self.inside c.self.invariant
