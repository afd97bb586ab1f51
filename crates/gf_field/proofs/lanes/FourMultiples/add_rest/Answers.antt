use Rattle.std.proofs.Common.{◌≡◌, ◌∙◌, length, slice_index, subst}
use Rattle.gf_field.specs.Product.{scaled}
use Rattle.gf_field.specs.Lanes.{IsAdded}
use Rattle.gf_field.proofs.LaneLemmas.{added_four}
use Rattle.gf_field.proofs.lanes.FourMultiples.add_rest.Goals as goal

pub returns : goal.returns
returns c = λ f t.
    let one : length c.add_rest.new.dst ≡ length c.args.dst.now = c.add_rest.auto.dst in
    let two : length c.add_rest-2.new.dst ≡ length c.args.dst.now = c.add_rest-2.auto.dst ∙ one in
    let three : length c.add_rest-3.new.dst ≡ length c.args.dst.now = c.add_rest-3.auto.dst ∙ two in
    added_four f c.args.a.now c.args.b.now c.args.c.now c.args.d.now c.args.from (length c.args.dst.now)
    c.args.dst.now c.add_rest.new.dst c.add_rest-2.new.dst c.add_rest-3.new.dst c.add_rest-4.new.dst
    (c.add_rest.ensures (slice_index f 0) t.first)
    (subst (λ n. IsAdded (scaled (slice_index f 1) c.args.b.now) c.args.from n c.add_rest.new.dst c.add_rest-2.new.dst) one (c.add_rest-2.ensures (slice_index f 1) t.second))
    (subst (λ n. IsAdded (scaled (slice_index f 2) c.args.c.now) c.args.from n c.add_rest-2.new.dst c.add_rest-3.new.dst) two (c.add_rest-3.ensures (slice_index f 2) t.third))
    (subst (λ n. IsAdded (scaled (slice_index f 3) c.args.d.now) c.args.from n c.add_rest-3.new.dst c.add_rest-4.new.dst) three (c.add_rest-4.ensures (slice_index f 3) t.fourth))
