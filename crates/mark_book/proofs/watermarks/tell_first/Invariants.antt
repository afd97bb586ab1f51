use Rattle.std.proofs.Common.{◌≡◌, take, drop, ◌++◌}
use Rattle.std.specs.Prelude.{find}
use Rattle.mark_book.specs.BookMoves.{told_first}
use Rattle.mark_book.proofs.watermarks.tell_first.Given as goal

abbrev pub invariant-loop-watermark : goal.invariant-loop-watermark
invariant-loop-watermark l = record {
  same : l.watermarks ≡ l.initial.watermarks;
  first : find (λ k. k.untold) (drop l.watermark-index l.initial.watermarks) ≡ find (λ k. k.untold) l.initial.watermarks;
  told : take l.watermark-index l.initial.watermarks ++ told_first (drop l.watermark-index l.initial.watermarks) ≡ told_first l.initial.watermarks;
}
