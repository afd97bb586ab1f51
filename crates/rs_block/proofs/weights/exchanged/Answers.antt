use Rattle.std.proofs.Common.{◌∙◌, ap, arith, ◌+◌, ◌-◌, ◌%◌}
use Rattle.std.specs.Prelude.{bit_xor}
use Rattle.gf_field.specs.Product.{product}
use Rattle.gf_field.specs.Power.{power}
use Rattle.rs_block.proofs.WeightLemmas.{exchanged_by_logs}
use Rattle.rs_block.proofs.weights.exchanged.Goals as goal

pub returns : goal.returns
returns c =
    ap (λ w. product (power ((w + c.alpha_log-gained.result + (255 - c.alpha_log-lost.result)) % 255)) (bit_xor c.args.place c.args.new)) c.from.ensures
    ∙ exchanged_by_logs c.args.log c.alpha_log-gained.result c.alpha_log-lost.result (bit_xor c.args.place c.args.old) (bit_xor c.args.place c.args.new)
    (omega arith) c.alpha_log-gained.ensures.exponent c.alpha_log-lost.ensures.exponent
