use Rattle.std.proofs.Common.{◌∙◌}
use Rattle.mark_book.proofs.Tellings.{told_here}
use Rattle.mark_book.proofs.watermarks.tell_first.Goals as goal

pub returns-then-watermark-clause-told : goal.returns-then-watermark-clause-told
returns-then-watermark-clause-told c =
    told_here c.args.watermarks.now c.loop-watermark.watermarks c.loop-watermark.watermark-index _ _ _ c.loop-watermark-test.true c.loop-watermark.invariant.same
    c.watermark.view_is c.if-watermark.true (c.watermark-then-watermark.view_is ∙ c.told.ensures) c.loop-watermark.invariant.told
