use Rattle.std.proofs.Common.{◌∙◌, sym, arith}
use Rattle.rs_block.proofs.Formula.{others_begin, others_end}
use Rattle.rs_block.proofs.interpolation.others_log.Goals as goal

pub loop-other-init : goal.loop-other-init
loop-other-init c = record { small = omega arith; rest = others_begin c.args.places.now c.args.place }

pub returns : goal.returns
returns c =
    sym (others_end c.args.places.now c.loop-other.other-index c.loop-other.total c.args.place c.loop-other-test.false)
    ∙ c.loop-other.invariant.rest
