use Rattle.std.proofs.Common.{arith, ap, ◌∙◌, ◌+◌, ◌-◌, ◌%◌}
use Rattle.std.specs.Prelude.{bit_xor}
use Rattle.gf_field.specs.Product.{product}
use Rattle.gf_field.specs.Power.{power}
use Rattle.rs_block.proofs.WeightLemmas.{next_by_logs, powers_differ_at}
use Rattle.rs_block.proofs.weights.next_weight.Goals as goal

pub alpha_log-gained-requires : goal.alpha_log-gained-requires
alpha_log-gained-requires c =
    powers_differ_at (c.args.i - 1) c.args.last c.place_of.result c.place_of-2.result (omega arith) (omega arith) (λ e. absurd (omega (arith, e)))
    c.place_of.ensures c.place_of-2.ensures

pub alpha_log-lost-requires : goal.alpha_log-lost-requires
alpha_log-lost-requires c =
    powers_differ_at c.args.i 0 c.place_of-3.result c.place_of-4.result (omega arith) (omega arith) (λ e. absurd (omega (arith, e)))
    c.place_of-3.ensures c.place_of-4.ensures

pub returns : goal.returns
returns c =
    let u = bit_xor (power (c.args.i - 1)) (power c.args.last) in
    let v = bit_xor (power c.args.i) (power 0) in
    ap (λ w. product (power ((w + c.alpha_log-gained.result + 510 - (c.alpha_log-lost.result + c.from-2.result)) % 255)) (product v (power (c.args.last - 1)))) c.from.ensures
    ∙ ap (λ w. product (power ((c.args.log + c.alpha_log-gained.result + 510 - (c.alpha_log-lost.result + w)) % 255)) (product v (power (c.args.last - 1)))) c.from-2.ensures
    ∙ next_by_logs c.args.log c.alpha_log-gained.result c.alpha_log-lost.result (c.args.last - 1) u v
    (omega (arith, c.alpha_log-lost.ensures.below, c.requires.most))
    (c.alpha_log-gained.ensures.exponent ∙ ap (λ x. bit_xor x c.place_of-2.result) c.place_of.ensures ∙ ap (bit_xor (power (c.args.i - 1))) c.place_of-2.ensures)
    (c.alpha_log-lost.ensures.exponent ∙ ap (λ x. bit_xor x c.place_of-4.result) c.place_of-3.ensures ∙ ap (bit_xor (power c.args.i)) c.place_of-4.ensures)
