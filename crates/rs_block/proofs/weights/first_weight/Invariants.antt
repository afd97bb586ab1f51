use Rattle.std.proofs.Common.{◌≡◌, ◌≤◌, ◌*◌}
use Rattle.gf_field.specs.Power.{power, powers}
use Rattle.gf_field.specs.Interpolation.{differences, others}
use Rattle.rs_block.proofs.weights.first_weight.Given as goal

abbrev pub invariant-loop-j : goal.invariant-loop-j
invariant-loop-j l = record {
  small : l.total ≤ 254 * l.j;
  power : power l.total ≡ differences (others (power 0) (powers l.j)) (power 0);
}
