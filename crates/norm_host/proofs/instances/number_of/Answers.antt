use Rattle.std.proofs.Common.{◌≡◌, rules}
use Rattle.norm_host.proofs.InstanceLemmas.{digits_read}
use Rattle.norm_host.proofs.instances.number_of.Goals as goal

-- what is not read spells no number
pub returns-in_default-clause-none : goal.returns-in_default-clause-none
returns-in_default-clause-none c = λ number fits is.
    let read = digits_read c.args.digits.now number _ fits is c.parse.ensures.value.0 in absurd (cc)

-- what is read and is not spelled so is none either
pub returns-clause-none : goal.returns-clause-none
returns-clause-none c = λ number fits is.
    let read = digits_read c.args.digits.now number _ fits is c.parse.ensures.value.0 in
    let same : c.in-Ok.number ≡ number = cc in
    let text : c.format.result.now ≡ c.args.digits.now = cc in
    absurd (search rules)
