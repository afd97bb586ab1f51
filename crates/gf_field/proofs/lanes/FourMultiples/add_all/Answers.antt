use Rattle.std.proofs.Common.{arith, ◌≡◌, length, subst}
use Rattle.gf_field.specs.Product.{four_products}
use Rattle.gf_field.specs.Lanes.{IsAdded}
use Rattle.gf_field.proofs.LaneLemmas.{added_on}
use Rattle.gf_field.proofs.lanes.FourMultiples.add_all.Goals as goal

pub returns : goal.returns
returns c = λ f t.
    let long : length c.add_lanes-at.new.dst ≡ length c.args.dst.now = c.add_lanes-at.auto.dst in
    added_on (four_products f c.args.a.now c.args.b.now c.args.c.now c.args.d.now) 0 c.add_lanes-at.result (length c.args.dst.now)
    c.args.dst.now c.add_lanes-at.new.dst c.add_rest.new.dst
    (omega arith) c.add_lanes-at.ensures.within (c.add_lanes-at.ensures.added f (c.widened.ensures f t))
    (subst (λ n. IsAdded (four_products f c.args.a.now c.args.b.now c.args.c.now c.args.d.now) c.add_lanes-at.result n c.add_lanes-at.new.dst c.add_rest.new.dst) long (c.add_rest.ensures f t))
