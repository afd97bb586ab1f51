use Rattle.std.proofs.Common.{◌∙◌, sym, arith}
use Rattle.rs_block.proofs.Formula.{differences_begin, differences_go_on, differences_end}
use Rattle.rs_block.proofs.interpolation.difference_log.Goals as goal

pub loop-place-init : goal.loop-place-init
loop-place-init c = record { small = omega arith; rest = differences_begin c.args.places.now c.args.x }

pub loop-place-preserved : goal.loop-place-preserved
loop-place-preserved c = record {
  small = omega arith;
  rest = differences_go_on c.args.places.now c.loop-place.place-index c.loop-place.total c.alpha_log-total.result c.args.x c.loop-place-test.true c.alpha_log-total.ensures.exponent
      ∙ c.loop-place.invariant.rest;
}

pub returns-clause-exponent : goal.returns-clause-exponent
returns-clause-exponent c =
    sym (differences_end c.args.places.now c.loop-place.place-index c.loop-place.total c.args.x c.loop-place-test.false)
    ∙ c.loop-place.invariant.rest
