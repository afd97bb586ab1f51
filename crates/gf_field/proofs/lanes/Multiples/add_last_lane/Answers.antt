use Rattle.std.proofs.Common.{refl, length, ◌-◌}
use Rattle.gf_field.proofs.LaneLemmas.{last_added}
use Rattle.gf_field.proofs.lanes.Multiples.add_last_lane.Goals as goal

pub returns : goal.returns
returns c = λ k t.
    last_added k c.args.at (length c.args.dst.now - 16) c.args.dst.now c.args.src.now c.times.result c.last_lanes.result
    c.requires.same c.requires.long refl c.requires.begins c.requires.few (c.times.ensures k t)
    c.last_lanes.ensures.len c.last_lanes.ensures.zeros c.last_lanes.ensures.ones
