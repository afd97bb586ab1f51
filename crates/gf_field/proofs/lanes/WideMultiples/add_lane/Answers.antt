use Rattle.std.proofs.Common.{arith}
use Rattle.gf_field.specs.Product.{scaled}
use Rattle.gf_field.proofs.LaneLemmas.{lane_added, scaled_lanes}
use Rattle.gf_field.proofs.lanes.WideMultiples.add_lane.Goals as goal

pub returns : goal.returns
returns c = λ k t.
    lane_added (scaled k c.args.src.now) 64 c.args.at c.args.dst.now c.times.result c.requires.room
    (scaled_lanes 64 c.args.at k c.args.src.now c.times.result (omega (arith, c.requires.room, c.requires.same)) (c.times.ensures k t))
