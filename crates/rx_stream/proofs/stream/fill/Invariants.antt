-- So many blocks are there.
use Rattle.std.proofs.Common.{◌≡◌, ◌≤◌, replicate}
use Rattle.std.specs.VecDeque.{deque_capacity}
use Rattle.rx_stream.specs.BlockState.{empty_block}
use Rattle.rx_stream.proofs.stream.fill.Given as goal

abbrev pub invariant-loop : goal.invariant-loop
invariant-loop l = record {
  filled : l.ring.items ≡ replicate l.counter (empty_block l.k l.size);
  counted : l.counter ≤ l.room;
  capacity : deque_capacity l.ring ≡ deque_capacity l.fn.ring;
}
