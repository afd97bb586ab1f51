use Rattle.std.proofs.Common.{arith}
use Rattle.gf_field.proofs.Places.{distinct_from_pairs}
use Rattle.rs_block.proofs.Formula.{entry_is, row_is, entry_set}
use Rattle.rs_block.proofs.interpolation.put_coefficients.Goals as goal

pub loop-i-preserved : goal.loop-i-preserved
loop-i-preserved c =
    entry_set c.args.places.now c.args.x c.loop-i.row c.loop-i.i c.coefficient.result (omega arith) c.loop-i.invariant
    (entry_is c.args.places.now c.args.weights.now c.loop-i.i c.args.x c.difference_log-all.result c.coefficient.result
    (λ i. (c.type_inv.places i).fits) (distinct_from_pairs c.args.places.now c.requires.different) c.requires.weighted (omega arith) c.ranges.x.fits
    (c.requires.away c.loop-i.i (omega arith)) c.difference_log-all.ensures.exponent c.coefficient.ensures)

pub returns : goal.returns
returns c =
    row_is c.args.places.now c.loop-i.row c.args.x (omega arith) (λ i h. c.loop-i.invariant i (omega arith))
