use Rattle.std.proofs.Common.{◌≡◌, map, take, drop, ◌++◌}
use Rattle.mark_book.specs.BookMoves.{expired_by, open_count}
use Rattle.mark_book.proofs.watermarks.expire.Given as goal

abbrev pub invariant-loop-watermark : goal.invariant-loop-watermark
invariant-loop-watermark l = record {
  written : l.watermarks ≡ map (expired_by l.listings l.mark) (take l.watermark-index l.initial.watermarks) ++ drop l.watermark-index l.initial.watermarks;
  still_open : l.still_open ≡ open_count (take l.watermark-index l.watermarks);
}
