use Rattle.std.proofs.Common.{◌∙◌, ◌%◌, take, bit_and, arith}
use Rattle.std.proofs.lemmas.Simd.{zip2_splat}
use Rattle.simdutf8.proofs.Lanes.{low_ok, looked_up}
use Rattle.norm_text.specs.declared.digits.TheConstants.{DIGITS}
use Rattle.norm_text.proofs.DigitLemmas.{masked}
use Rattle.norm_text.proofs.digits.low_digits.Goals as goal

pub swizzle : goal.swizzle
swizzle c = low_ok c.args.lanes c.fits-lanes

pub returns : goal.returns
returns c =
    let v = c.args.lanes in
    looked_up DIGITS (take 16 DIGITS) (λ x. x % 16) v _ c.fits-lanes (zip2_splat bit_and v 64 15 c.fits-lanes.0 ∙ masked v) (λ x h. omega arith) tt
