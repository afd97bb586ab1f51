use Rattle.std.proofs.Common.{◌≡◌, ◌≤◌, ◌*◌, drop}
use Rattle.gf_field.specs.Product.{product}
use Rattle.gf_field.specs.Power.{power}
use Rattle.gf_field.specs.Interpolation.{differences, others}
use Rattle.rs_block.proofs.interpolation.others_log.Given as goal

abbrev pub invariant-loop-other : goal.invariant-loop-other
invariant-loop-other l = record {
  small : l.total ≤ 254 * l.other-index;
  rest : product (power l.total) (differences (others l.place (drop l.other-index l.places)) l.place) ≡ differences (others l.place l.places) l.place;
}
