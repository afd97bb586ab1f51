use Rattle.std.proofs.Common.{length, arith, ◌+◌}
use Rattle.rs_block.proofs.Formula.{summed_end, summed_four, summed_go_on, within_symbols}
use Rattle.rs_block.proofs.interpolation.add_combined.Goals as goal

pub symbol_at-third-requires : goal.symbol_at-third-requires
symbol_at-third-requires c =
    within_symbols (length c.args.row.now) (c.loop-i.i + 2) (length c.args.out.now) (length c.args.symbols.now) (omega (arith, c.loop-i-test.true)) (omega (arith, c.requires))

pub symbol_at-fourth-requires : goal.symbol_at-fourth-requires
symbol_at-fourth-requires c =
    within_symbols (length c.args.row.now) (c.loop-i.i + 3) (length c.args.out.now) (length c.args.symbols.now) (omega (arith, c.loop-i-test.true)) (omega (arith, c.requires))

pub loop-i-preserved : goal.loop-i-preserved
loop-i-preserved c = record {
  within = omega (arith, c.loop-i-test.true);
  summed =
      summed_four c.args.row.now c.args.symbols.now c.args.out.now (length c.args.out.now) c.loop-i.i c.loop-i.out c.add_four.new.dst
      c.symbol_at-first.result.now c.symbol_at-second.result.now c.symbol_at-third.result.now c.symbol_at-fourth.result.now
      (omega (arith, c.loop-i-test.true))
      (λ t lt. c.add_four.ensures t (omega arith))
      (λ t lt. c.symbol_at-first.ensures.octets t (omega arith)) (λ t lt. c.symbol_at-second.ensures.octets t (omega arith))
      (λ t lt. c.symbol_at-third.ensures.octets t (omega arith)) (λ t lt. c.symbol_at-fourth.ensures.octets t (omega arith))
      c.loop-i.invariant.summed;
}

pub loop-i-2-preserved : goal.loop-i-2-preserved
loop-i-2-preserved c = record {
  within = omega (arith, c.loop-i-2-test.true);
  summed =
      summed_go_on c.args.row.now c.args.symbols.now c.args.out.now (length c.args.out.now) c.loop-i-2.i
      c.loop-i-2.out c.add_scaled.new.dst c.symbol_at.result.now
      (omega (arith, c.loop-i-2-test.true))
      (λ t lt. c.add_scaled.ensures t (omega arith))
      (λ t lt. c.symbol_at.ensures.octets t (omega arith))
      c.loop-i-2.invariant.summed;
}

pub returns : goal.returns
returns c = λ t lt.
    summed_end c.args.row.now c.args.symbols.now c.args.out.now (length c.args.out.now) c.loop-i-2.i c.loop-i-2.out (omega (arith, c.loop-i-2-test.false))
    c.loop-i-2.invariant.summed t (omega arith)
