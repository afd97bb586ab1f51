use Rattle.std.proofs.Common.{length, ap, ◌∙◌, arith}
use Rattle.norm_order.specs.Shapes.{closed_in}
use Rattle.nack_union.specs.Kept.{Marked, symbols_of_marked}
use Rattle.nack_union.proofs.Mores.{one_count}
use Rattle.nack_union.proofs.Numbered.{length-padded}
use Rattle.nack_union.proofs.Bounds.{closed_number}
use Rattle.nack_union.proofs.marks.Marks.count_block.Goals as goal

pub returns-then-closed_len-gt0 : goal.returns-then-closed_len-gt0
returns-then-closed_len-gt0 c =
    one_count c.args.block c.args.lacking c.args.self.now c.count.new.self c.count.ensures
    (let some = c.if-closed_len-gt0.true in let is = c.closed_len.ensures ∙ ap (λ (m : Marked). closed_in (symbols_of_marked m) c.args.block) c.self.view_is in omega (arith, some, is))
    (let lt = c.if-place-len.true in
    let low = c.if-block-self.false in
    let len = c.len.ensures in
    let many = ap (λ (m : Marked). length m.counts) c.self.view_is in
    let pad = length-padded c.self.inside.first c.self.inside.counts.items in
    omega (arith, lt, low, len, many, pad))

pub count-requires-clause-number : goal.count-requires-clause-number
count-requires-clause-number c =
    closed_number c.self.inside.plan c.self.inside.closed c.args.block c.blocks-2.ensures.sound c.self.invariant.closed
    (let most = c.blocks-2.ensures.most in let is = c.blocks-2.ensures.exact in omega (arith, most, is))
    (let some = c.if-closed_len-gt0.true in let is = c.closed_len.ensures in omega (arith, some, is))
