use Rattle.std.proofs.Common.{slice_index}
use Rattle.gf_field.proofs.LaneLemmas.{lane_of_four}
use Rattle.gf_field.proofs.lanes.WideFourMultiples.add_lane.Goals as goal

pub returns : goal.returns
returns c = λ f t.
    lane_of_four 64 c.args.at f c.args.a.now c.args.b.now c.args.c.now c.args.d.now c.args.dst.now
    c.times-first.result c.times-second.result c.times-third.result c.times-fourth.result
    c.requires.room c.requires.same_a c.requires.same_b c.requires.same_c c.requires.same_d
    (c.times-first.ensures (slice_index f 0) t.first) (c.times-second.ensures (slice_index f 1) t.second)
    (c.times-third.ensures (slice_index f 2) t.third) (c.times-fourth.ensures (slice_index f 3) t.fourth)
