use Rattle.std.proofs.Common.{◌≡◌, length, subst}
use Rattle.gf_field.specs.Product.{scaled}
use Rattle.gf_field.specs.Lanes.{IsAdded}
use Rattle.gf_field.proofs.LaneLemmas.{added_on}
use Rattle.gf_field.proofs.lanes.Multiples.add_rest.Goals as goal

pub returns : goal.returns
returns c = λ k t.
    let long : length c.add_lanes-at.new.dst ≡ length c.args.dst.now = c.add_lanes-at.auto.dst in
    added_on (scaled k c.args.src.now) c.args.from c.add_lanes-at.result (length c.args.dst.now) c.args.dst.now c.add_lanes-at.new.dst c.add_last_lane.new.dst
    c.add_lanes-at.ensures.on c.add_lanes-at.ensures.within (c.add_lanes-at.ensures.added k t)
    (subst (λ n. IsAdded (scaled k c.args.src.now) c.add_lanes-at.result n c.add_lanes-at.new.dst c.add_last_lane.new.dst) long (c.add_last_lane.ensures k t))
