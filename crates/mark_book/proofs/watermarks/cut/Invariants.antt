use Rattle.std.proofs.Common.{◌≡◌, map, take, drop, ◌++◌}
use Rattle.mark_book.specs.BookMoves.{cut_off}
use Rattle.mark_book.proofs.watermarks.cut.Given as goal

abbrev pub invariant-loop-watermark : goal.invariant-loop-watermark
invariant-loop-watermark l = l.watermarks ≡ map cut_off (take l.watermark-index l.initial.watermarks) ++ drop l.watermark-index l.initial.watermarks
