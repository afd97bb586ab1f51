use Rattle.std.proofs.Common.{◌≤◌}
use Rattle.stream_buffer.specs.HeldState.{run_of}
use Rattle.stream_buffer.proofs.marks.run_from.Given as goal

abbrev pub invariant-loop-place : goal.invariant-loop-place
invariant-loop-place l = record { sent_before : l.place ≤ run_of l.sent.items }
