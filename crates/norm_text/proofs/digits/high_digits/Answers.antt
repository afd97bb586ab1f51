use Rattle.std.proofs.Common.{take, arith}
use Rattle.std.proofs.lemmas.Simd.{zip2_splat}
use Rattle.simdutf8.proofs.Lanes.{down, high_ok, looked_up}
use Rattle.norm_text.specs.declared.digits.TheConstants.{DIGITS}
use Rattle.norm_text.proofs.digits.high_digits.Goals as goal

pub swizzle : goal.swizzle
swizzle c = high_ok c.args.lanes c.fits-lanes

pub returns : goal.returns
returns c =
    let v = c.args.lanes in
    looked_up DIGITS (take 16 DIGITS) (λ x. down x 4) v _ c.fits-lanes (zip2_splat down v 64 4 c.fits-lanes.0) (λ x h. omega arith) tt
