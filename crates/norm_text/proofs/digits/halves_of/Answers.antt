use Rattle.hex.specs.Hex.{lower_digits}
use Rattle.norm_text.proofs.DigitLemmas.{interleaved}
use Rattle.std.proofs.Common.{refl}
use Rattle.norm_text.proofs.digits.halves_of.Goals as goal

pub returns-clause-digits : goal.returns-clause-digits
returns-clause-digits c =
    interleaved lower_digits c.high_digits.result c.low_digits.result c.args.lanes 0 64 c.fits-lanes.0 c.high_digits.ensures c.low_digits.ensures refl
