use Rattle.gf_field.proofs.LaneLemmas.{low_ok, high_ok, times_lanes}
use Rattle.gf_field.proofs.lanes.Multiples.times.Goals as goal

pub swizzle : goal.swizzle
swizzle c = low_ok 1 c.args.lanes c.fits-lanes

pub swizzle-2 : goal.swizzle-2
swizzle-2 c = high_ok 1 c.args.lanes c.fits-lanes

pub returns : goal.returns
returns c = λ k t. times_lanes 1 k c.args.self.now.low c.args.self.now.high c.args.lanes c.fits-lanes t
