use Rattle.std.proofs.Common.{arith}
use Rattle.rx_stream.proofs.BlockLemmas.{view_empty}
use Rattle.rx_stream.proofs.Masks.{kept_empty}
use Rattle.rx_stream.proofs.block.Block.new.Goals as goal

pub invariant_of-result : goal.invariant_of-result
invariant_of-result c =
    kept_empty c.args.k c.args.size c.new.result.items c.new-2.result c.new-3.result.items c.requires.some (let fits = c.ranges.k.fits in omega (arith, fits))
    c.requires.least c.requires.most c.new.ensures.items c.new-2.ensures c.new-3.ensures.items

pub returns : goal.returns
returns c = view_empty c.args.k c.args.size c.new.result.items c.new-3.result.items c.new.ensures.items
