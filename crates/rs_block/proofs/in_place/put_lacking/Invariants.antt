use Rattle.std.proofs.Common.{length}
use Rattle.rs_block.proofs.InPlace.{AreSolved}
use Rattle.rs_block.proofs.in_place.put_lacking.Given as goal

abbrev pub invariant-loop-j : goal.invariant-loop-j
invariant-loop-j g l = record {
  solved : AreSolved l.size l.ids (g.P.Piece.octets l.fn.pieces) l.j (g.P.Piece.octets l.pieces);
  symbols : g.P.Piece.are_symbols (length l.ids) l.size l.pieces;
}
