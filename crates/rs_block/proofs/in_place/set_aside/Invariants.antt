use Rattle.rs_block.proofs.InPlace.{IsAside}
use Rattle.rs_block.proofs.in_place.set_aside.Given as goal

abbrev pub invariant-loop-i : goal.invariant-loop-i
invariant-loop-i g l = IsAside l.size l.ids (g.P.Piece.octets l.pieces) l.i l.aside
