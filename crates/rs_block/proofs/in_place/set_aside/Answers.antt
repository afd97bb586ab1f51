use Rattle.std.proofs.Common.{arith, length}
use Rattle.rs_block.proofs.in_place.set_aside.Goals as goal

pub symbol-requires : goal.symbol-requires
symbol-requires g c = (length c.args.ids.now, (omega arith, c.requires.symbols))
