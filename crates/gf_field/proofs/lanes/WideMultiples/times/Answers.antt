use Rattle.gf_field.proofs.LaneLemmas.{low_ok, high_ok, times_lanes}
use Rattle.gf_field.proofs.lanes.WideMultiples.times.Goals as goal

pub swizzle : goal.swizzle
swizzle c = low_ok 4 c.args.lanes c.fits-lanes

pub swizzle-2 : goal.swizzle-2
swizzle-2 c = high_ok 4 c.args.lanes c.fits-lanes

pub returns : goal.returns
returns c = λ k t. times_lanes 4 k c.args.self.now.low c.args.self.now.high c.args.lanes c.fits-lanes t
