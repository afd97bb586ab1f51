use Rattle.std.proofs.Common.{◌≡◌, map, take, drop, ◌++◌}
use Rattle.mark_book.specs.BookMoves.{settled_by, open_count}
use Rattle.mark_book.proofs.watermarks.settle.Given as goal

abbrev pub invariant-loop-watermark : goal.invariant-loop-watermark
invariant-loop-watermark l = record {
  written : l.watermarks ≡ map (settled_by l.listings) (take l.watermark-index l.initial.watermarks) ++ drop l.watermark-index l.initial.watermarks;
  still_open : l.still_open ≡ open_count (take l.watermark-index l.watermarks);
}
