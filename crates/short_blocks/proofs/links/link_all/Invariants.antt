-- So many blocks are linked.
use Rattle.std.proofs.Common.{◌≡◌, ◌≤◌}
use Rattle.std.specs.VecDeque.{deque_capacity, deque_len}
use Rattle.short_blocks.specs.Links.{all_linked}
use Rattle.short_blocks.proofs.links.link_all.Given as goal

abbrev pub invariant-linked : goal.invariant-linked
invariant-linked l = record {
  all : l.links.items ≡ all_linked l.block;
  count : deque_len l.links ≡ l.block;
  room : l.room ≤ deque_capacity l.links;
}
