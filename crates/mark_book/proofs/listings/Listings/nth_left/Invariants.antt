use Rattle.std.proofs.Common.{◌≡◌, map}
use Rattle.std.specs.Prelude.{slice_get}
use Rattle.mark_book.specs.Listed.{listing}
use Rattle.mark_book.specs.BookMoves.{left_of}
use Rattle.mark_book.proofs.listings.Listings.nth_left.Given as goal

abbrev pub invariant-loop-node : goal.invariant-loop-node
invariant-loop-node l = slice_get (left_of (map listing l.node-iterator) l.at) l.left ≡ slice_get (left_of l.self l.at) l.i
