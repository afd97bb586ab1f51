use Rattle.std.proofs.Common.{◌≡◌, ◌≤◌, ◌*◌, drop}
use Rattle.gf_field.specs.Product.{product}
use Rattle.gf_field.specs.Power.{power}
use Rattle.gf_field.specs.Interpolation.{differences}
use Rattle.rs_block.proofs.interpolation.difference_log.Given as goal

abbrev pub invariant-loop-place : goal.invariant-loop-place
invariant-loop-place l = record {
  small : l.total ≤ 254 * l.place-index;
  rest : product (power l.total) (differences (drop l.place-index l.places) l.x) ≡ differences l.places l.x;
}
