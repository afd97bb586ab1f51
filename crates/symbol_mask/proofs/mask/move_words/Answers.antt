use Rattle.std.proofs.Common.{arith}
use Rattle.symbol_mask.proofs.Moved.{word_moved, word_left, all_moved}
use Rattle.symbol_mask.proofs.mask.move_words.Goals as goal

pub moved-preserved : goal.moved-preserved
moved-preserved c = record {
  moved =
      word_moved c.args.words.now c.moved.words c.moved.place _ _ c.moved.auto.words (omega arith)
      c.moved.invariant.moved c.moved.invariant.rest c.word_at.ensures;
  rest = word_left c.args.words.now c.moved.words c.moved.place _ c.moved.invariant.rest;
}

pub returns : goal.returns
returns c =
    all_moved c.args.words.now c.moved.words c.moved.place c.args.count c.min-gone.result c.moved.auto.words c.min-gone.ensures (omega arith)
    c.moved.invariant.moved c.moved.invariant.rest
