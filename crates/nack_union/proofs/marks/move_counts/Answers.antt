use Rattle.std.proofs.Common.{arith}
use Rattle.symbol_mask.proofs.Moved.{word_moved, word_left, all_moved}
use Rattle.nack_union.proofs.marks.move_counts.Goals as goal

pub moved-preserved : goal.moved-preserved
moved-preserved c = record {
  moved =
      word_moved c.args.counts.now c.moved.counts c.moved.place _ _ c.moved.auto.counts (omega arith)
      c.moved.invariant.moved c.moved.invariant.rest c.count_at.ensures;
  rest = word_left c.args.counts.now c.moved.counts c.moved.place _ c.moved.invariant.rest;
}

pub returns : goal.returns
returns c =
    all_moved c.args.counts.now c.moved.counts c.moved.place c.args.count c.min-gone.result c.moved.auto.counts c.min-gone.ensures (omega arith)
    c.moved.invariant.moved c.moved.invariant.rest
