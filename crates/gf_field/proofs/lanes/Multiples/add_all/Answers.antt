use Rattle.std.proofs.Common.{arith, ◌≡◌, length, subst}
use Rattle.gf_field.specs.Product.{scaled}
use Rattle.gf_field.specs.Lanes.{IsAdded}
use Rattle.gf_field.proofs.LaneLemmas.{added_on}
use Rattle.gf_field.proofs.lanes.Multiples.add_all.Goals as goal

pub returns : goal.returns
returns c = λ k t.
    let long : length c.add_lanes-at.new.dst ≡ length c.args.dst.now = c.add_lanes-at.auto.dst in
    added_on (scaled k c.args.src.now) 0 c.add_lanes-at.result (length c.args.dst.now) c.args.dst.now c.add_lanes-at.new.dst c.add_rest.new.dst
    (omega arith) c.add_lanes-at.ensures.within (c.add_lanes-at.ensures.added k (c.widened.ensures k t))
    (subst (λ n. IsAdded (scaled k c.args.src.now) c.add_lanes-at.result n c.add_lanes-at.new.dst c.add_rest.new.dst) long (c.add_rest.ensures k t))
