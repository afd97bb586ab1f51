use Rattle.mark_book.specs.BookMoves.{cut_off}
use Rattle.mark_book.proofs.Lists.{written_more}
use Rattle.mark_book.proofs.watermarks.cut.Goals as goal

pub loop-watermark-preserved : goal.loop-watermark-preserved
loop-watermark-preserved c =
    written_more cut_off _ _ _ _ _ c.cut.ensures c.loop-watermark-test.true c.loop-watermark.invariant c.watermark-item.is
