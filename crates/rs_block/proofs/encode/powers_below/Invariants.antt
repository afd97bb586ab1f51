use Rattle.std.proofs.Common.{◌≡◌}
use Rattle.rs_block.specs.Points.{powers}
use Rattle.rs_block.proofs.encode.powers_below.Given as goal

abbrev pub invariant-loop-j : goal.invariant-loop-j
invariant-loop-j l = l.places.items ≡ powers l.j
