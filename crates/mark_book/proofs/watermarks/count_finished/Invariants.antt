use Rattle.std.proofs.Common.{◌≡◌, ◌+◌, drop}
use Rattle.std.specs.List.{prefix_len}
use Rattle.mark_book.specs.BookMoves.{is_finished}
use Rattle.mark_book.proofs.watermarks.count_finished.Given as goal

abbrev pub invariant-loop-place : goal.invariant-loop-place
invariant-loop-place l = prefix_len is_finished l.watermarks ≡ l.place + prefix_len is_finished (drop l.place l.watermarks)
