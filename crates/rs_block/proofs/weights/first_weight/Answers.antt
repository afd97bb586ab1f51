use Rattle.std.proofs.Common.{◌≡◌, arith, ap, ◌∙◌}
use Rattle.std.specs.Prelude.{bit_xor}
use Rattle.gf_field.specs.Power.{power, powers}
use Rattle.gf_field.specs.Interpolation.{differences, others}
use Rattle.rs_block.proofs.WeightLemmas.{first_begins, first_ends, first_goes_on, powers_differ_at}
use Rattle.rs_block.proofs.weights.first_weight.Goals as goal

pub loop-j-init : goal.loop-j-init
loop-j-init c = record { small = omega arith; power = first_begins }

pub alpha_log-total-requires : goal.alpha_log-total-requires
alpha_log-total-requires c =
    powers_differ_at 0 c.loop-j.j c.place_of.result c.place_of-in-loop-j.result (omega arith) (omega arith)
    (λ e. absurd (omega (arith, e, c.loop-j.auto.j))) c.place_of.ensures c.place_of-in-loop-j.ensures

pub loop-j-preserved : goal.loop-j-preserved
loop-j-preserved c = record {
  small = omega (arith, c.alpha_log-total.ensures.below, c.loop-j.invariant.small);
  power = first_goes_on c.loop-j.j c.loop-j.total c.alpha_log-total.result c.loop-j.auto.j (omega arith)
      (c.alpha_log-total.ensures.exponent ∙ ap (λ x. bit_xor x c.place_of-in-loop-j.result) c.place_of.ensures ∙ ap (bit_xor (power 0)) c.place_of-in-loop-j.ensures)
      c.loop-j.invariant.power;
}

pub returns : goal.returns
returns c =
    let whole : c.loop-j.j ≡ c.args.count = omega (arith, c.loop-j.auto.j-end) in
    first_ends (powers c.args.count) (power 0) c.loop-j.total (c.loop-j.invariant.power ∙ ap (λ n. differences (others (power 0) (powers n)) (power 0)) whole)
