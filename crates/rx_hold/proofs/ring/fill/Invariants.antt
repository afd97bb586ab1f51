use Rattle.std.proofs.Common.{◌≡◌, ◌≤◌, replicate}
use Rattle.std.specs.Prelude.{None}
use Rattle.std.specs.VecDeque.{deque_capacity}
use Rattle.rx_hold.proofs.ring.fill.Given as goal

abbrev pub invariant-loop : goal.invariant-loop
invariant-loop l = record {
  filled : l.ring.items ≡ replicate l.counter None;
  counted : l.counter ≤ 256;
  capacity : deque_capacity l.ring ≡ deque_capacity l.fn.ring;
}
