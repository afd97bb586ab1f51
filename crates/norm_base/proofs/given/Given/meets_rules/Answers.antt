use Rattle.std.proofs.Common.{arith}
use Rattle.norm_base.specs.Given.{value_in}
use Rattle.norm_base.proofs.RangeLemmas.{buffer_fits}
use Rattle.norm_base.proofs.given.Given.meets_rules.Goals as goal

pub overflow_mul-buffer : goal.overflow_mul-buffer
overflow_mul-buffer c =
    let fits = buffer_fits (value_in c.args.self.now) c.requires in rw (c.value.ensures, c.value-b.ensures) (omega (arith, fits.0))

pub overflow_mul-buffer-2 : goal.overflow_mul-buffer-2
overflow_mul-buffer-2 c =
    let fits = buffer_fits (value_in c.args.self.now) c.requires in
    rw (c.value.ensures, c.value-b.ensures, c.value-2.ensures) (omega (arith, fits.1))
