use Rattle.std.proofs.Common.{◌≡◌, ◌∙◌, length, slice_index, subst}
use Rattle.gf_field.specs.Product.{scaled}
use Rattle.gf_field.specs.Lanes.{IsAdded}
use Rattle.gf_field.proofs.LaneLemmas.{added_four}
use Rattle.gf_field.proofs.lanes.FourMultiples.add_few.Goals as goal

pub returns : goal.returns
returns c = λ f t.
    let one : length c.add_few.new.dst ≡ length c.args.dst.now = c.add_few.auto.dst in
    let two : length c.add_few-2.new.dst ≡ length c.args.dst.now = c.add_few-2.auto.dst ∙ one in
    let three : length c.add_few-3.new.dst ≡ length c.args.dst.now = c.add_few-3.auto.dst ∙ two in
    added_four f c.args.a.now c.args.b.now c.args.c.now c.args.d.now 0 (length c.args.dst.now)
    c.args.dst.now c.add_few.new.dst c.add_few-2.new.dst c.add_few-3.new.dst c.add_few-4.new.dst
    (c.add_few.ensures (slice_index f 0) t.first)
    (subst (λ n. IsAdded (scaled (slice_index f 1) c.args.b.now) 0 n c.add_few.new.dst c.add_few-2.new.dst) one (c.add_few-2.ensures (slice_index f 1) t.second))
    (subst (λ n. IsAdded (scaled (slice_index f 2) c.args.c.now) 0 n c.add_few-2.new.dst c.add_few-3.new.dst) two (c.add_few-3.ensures (slice_index f 2) t.third))
    (subst (λ n. IsAdded (scaled (slice_index f 3) c.args.d.now) 0 n c.add_few-3.new.dst c.add_few-4.new.dst) three (c.add_few-4.ensures (slice_index f 3) t.fourth))
