use Rattle.std.proofs.Common.{◌∙◌, ap, arith, get_or, ◌<◌, ◌≡◌}
use Rattle.gf_field.specs.Power.{power}
use Rattle.gf_field.specs.declared.tables.TheConstants.{LOGARITHMS}
use Rattle.gf_field.proofs.TableLemmas.{logarithm_below, logarithm_is}
use Rattle.gf_field.proofs.tables.logarithm_of.Goals as goal

pub returns-clause-below : goal.returns-clause-below
returns-clause-below c =
    let low : get_or LOGARITHMS c.args.octet 0 < 255 = logarithm_below c.args.octet c.requires (omega arith) in
    let is : c.from-2.result ≡ get_or LOGARITHMS c.args.octet 0 = c.from-2.ensures ∙ ap (λ n. get_or LOGARITHMS n 0) c.from.ensures in
    omega arith

pub returns-clause-exponent : goal.returns-clause-exponent
returns-clause-exponent c =
    ap power (c.from-2.ensures ∙ ap (λ n. get_or LOGARITHMS n 0) c.from.ensures) ∙ logarithm_is c.args.octet c.requires (omega arith)
