use Rattle.std.proofs.Common.{List, ℕ, ◌-◌, ◌≤◌, length}
use Rattle.rs_block.specs.Aside.{LieIn}
use Rattle.rs_block.proofs.Formula.{IsSummed}
use Rattle.rs_block.proofs.in_place.add_all.Given as goal

abbrev pub invariant-loop-i : goal.invariant-loop-i
invariant-loop-i g l = record {
  within : l.i ≤ length l.coefficients;
  summed : (symbols : List ℕ) → LieIn l.size l.ids symbols (g.P.Piece.octets l.pieces) l.aside → IsSummed l.coefficients symbols l.fn.out l.size l.i l.out;
}

abbrev pub decreases-loop-i : goal.decreases-loop-i
decreases-loop-i g l = length l.coefficients - l.i

abbrev pub invariant-loop-i-2 : goal.invariant-loop-i-2
invariant-loop-i-2 g l = record {
  within : l.i ≤ length l.coefficients;
  summed : (symbols : List ℕ) → LieIn l.size l.ids symbols (g.P.Piece.octets l.pieces) l.aside → IsSummed l.coefficients symbols l.fn.out l.size l.i l.out;
}

abbrev pub decreases-loop-i-2 : goal.decreases-loop-i-2
decreases-loop-i-2 g l = length l.coefficients - l.i
