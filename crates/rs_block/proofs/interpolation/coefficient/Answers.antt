use Rattle.std.proofs.Common.{◌∙◌, ap, ◌+◌, ◌-◌, arith, ◌≤◌}
use Rattle.gf_field.specs.Power.{power}
use Rattle.rs_block.proofs.Formula.{coefficient_by_logs}
use Rattle.rs_block.proofs.interpolation.coefficient.Goals as goal

pub returns : goal.returns
returns c =
    let most : c.alpha_log.result ≤ 255 = omega arith in
    c.alpha_pow.ensures
    ∙ ap (λ w. power (c.args.all + (255 - c.alpha_log.result) + w)) c.from.ensures
    ∙ coefficient_by_logs c.args.all c.alpha_log.result c.args.weight c.args.x c.args.place c.ranges.x.fits c.ranges.place.fits most c.alpha_log.ensures.exponent
