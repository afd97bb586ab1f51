use Rattle.std.proofs.Common.{◌≡◌, ◌≤◌, ◌+◌, ◌*◌, ◌++◌, map, length}
use Rattle.norm_ext.specs.Octets.{nodes_octets}
use Rattle.mark_book.specs.Listed.{listing}
use Rattle.mark_book.specs.BookMoves.{left_of}
use Rattle.mark_book.proofs.listings.Listings.write_left.Given as goal

abbrev pub invariant-loop-node : goal.invariant-loop-node
invariant-loop-node l = record {
  written : l.out ++ nodes_octets (left_of (map listing l.node-iterator) l.at) ≡ l.initial.out ++ nodes_octets (left_of l.self l.at);
  room : length l.out + 4 * length l.node-iterator ≤ 1500;
}
