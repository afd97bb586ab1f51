use Rattle.std.proofs.Common.{◌-◌, ◌≤◌, length}
use Rattle.rs_block.proofs.Formula.{IsSummed}
use Rattle.rs_block.proofs.interpolation.add_combined.Given as goal

abbrev pub invariant-loop-i : goal.invariant-loop-i
invariant-loop-i l = record {
  within : l.i ≤ length l.row;
  summed : IsSummed l.row l.symbols l.fn.out l.size l.i l.out;
}

abbrev pub decreases-loop-i : goal.decreases-loop-i
decreases-loop-i l = length l.row - l.i

abbrev pub invariant-loop-i-2 : goal.invariant-loop-i-2
invariant-loop-i-2 l = record {
  within : l.i ≤ length l.row;
  summed : IsSummed l.row l.symbols l.fn.out l.size l.i l.out;
}

abbrev pub decreases-loop-i-2 : goal.decreases-loop-i-2
decreases-loop-i-2 l = length l.row - l.i
