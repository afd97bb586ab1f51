use Rattle.std.proofs.Common.{◌∙◌, arith, refl, length, get_or, ◌/◌}
use Rattle.rs_block.proofs.Rows.{IsCut, whole_cut, symbol_in_two, pieces_octets}
use Rattle.rs_block.proofs.encode.Code.parity_in_two.Goals as goal

pub returns : goal.returns
returns c = λ t lt.
    let cut : IsCut (length c.args.front.now) (length c.args.back.now) c.args.self.now.k c.args.size (length c.args.front.now / c.args.size) =
    whole_cut (length c.args.front.now) (length c.args.back.now) c.args.self.now.k c.args.size (omega arith) c.requires.whole c.requires.sources in
    symbol_in_two c.args.self.now.k c.args.self.now.n c.args.size c.args.j t (length c.args.front.now / c.args.size) c.args.front.now c.args.back.now
    c.row.result.now c.split_at.result.0.now c.split_at.result.1.now c.add_combined.new.out c.add_combined-2.new.out (get_or c.fill.new.self t 0)
    (length c.fill.new.self) (length c.add_combined.new.out)
    (omega arith) c.row.ensures.most c.requires.encoded lt
    (pieces_octets c.args.front.now c.args.back.now (λ i. (c.type_inv.front i).fits) (λ i. (c.type_inv.back i).fits))
    cut c.row.ensures.entries c.split_at.ensures.front c.split_at.ensures.back
    c.split_at.ensures.front_len (omega (arith, c.split_at.ensures.back_len, c.row.ensures.len))
    (c.fill.ensures.clones t 0 (omega arith) refl) (c.fill.auto.self ∙ c.requires.room) (c.add_combined.auto.out ∙ c.fill.auto.self ∙ c.requires.room)
    (c.add_combined.ensures t (omega arith)) (c.add_combined-2.ensures t (omega arith))
