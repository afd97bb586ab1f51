use Rattle.std.proofs.Common.{length, arith}
use Rattle.rs_block.proofs.Formula.{summed_end, summed_four, summed_go_on}
use Rattle.rs_block.proofs.in_place.add_all.Goals as goal

pub loop-i-preserved : goal.loop-i-preserved
loop-i-preserved g c = record {
  within = omega (arith, c.loop-i-test.true);
  summed = λ symbols lie.
      summed_four c.args.coefficients.now symbols c.args.out.now (length c.args.out.now) c.loop-i.i c.loop-i.out c.add_four.new.dst
      c.came-first.result.now c.came-second.result.now c.came-third.result.now c.came-fourth.result.now
      (omega (arith, c.loop-i-test.true))
      (λ t lt. c.add_four.ensures t (omega arith))
      (λ t lt. c.came-first.ensures.octets symbols lie t (omega arith)) (λ t lt. c.came-second.ensures.octets symbols lie t (omega arith))
      (λ t lt. c.came-third.ensures.octets symbols lie t (omega arith)) (λ t lt. c.came-fourth.ensures.octets symbols lie t (omega arith))
      (c.loop-i.invariant.summed symbols lie);
}

pub loop-i-2-preserved : goal.loop-i-2-preserved
loop-i-2-preserved g c = record {
  within = omega (arith, c.loop-i-2-test.true);
  summed = λ symbols lie.
      summed_go_on c.args.coefficients.now symbols c.args.out.now (length c.args.out.now) c.loop-i-2.i
      c.loop-i-2.out c.add_scaled.new.dst c.came.result.now
      (omega (arith, c.loop-i-2-test.true))
      (λ t lt. c.add_scaled.ensures t (omega arith))
      (λ t lt. c.came.ensures.octets symbols lie t (omega arith))
      (c.loop-i-2.invariant.summed symbols lie);
}

pub returns : goal.returns
returns g c = λ symbols lie t lt.
    summed_end c.args.coefficients.now symbols c.args.out.now (length c.args.out.now) c.loop-i-2.i c.loop-i-2.out (omega (arith, c.loop-i-2-test.false))
    (c.loop-i-2.invariant.summed symbols lie) t (omega arith)
