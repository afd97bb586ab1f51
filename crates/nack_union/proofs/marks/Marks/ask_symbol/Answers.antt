use Rattle.std.proofs.Common.{◌<◌, refl, ap, sym, ◌∙◌, arith}
use Rattle.std.specs.Prelude.{◌==◌}
use Rattle.fec_plan.specs.Partition.{blocks}
use Rattle.norm_order.specs.Shapes.{encoded_in}
use Rattle.nack_union.specs.Kept.{Marked, symbols_of_marked}
use Rattle.nack_union.proofs.Mores.{one_slot, none_more}
use Rattle.nack_union.proofs.Numbered.{not_slot}
use Rattle.nack_union.proofs.Spans.{at_symbol}
use Rattle.nack_union.proofs.marks.Marks.ask_symbol.Goals as goal

pub returns-then-symbol-encoded_len : goal.returns-then-symbol-encoded_len
returns-then-symbol-encoded_len c =
    let few : c.args.symbol < 256 = let fits = c.ranges.symbol.fits in omega (arith, fits) in
    let cut = ap (λ (m : Marked). m.cut) c.self.view_is in
    let within : c.args.block < blocks c.args.self.now.cut =
    let lt = c.if-block-blocks.true in let many = c.blocks-2.ensures.exact ∙ ap blocks cut in omega (arith, lt, many) in
    let named : c.args.symbol < encoded_in (symbols_of_marked c.args.self.now) c.args.block =
    let lt = c.if-symbol-encoded_len.true in let many = c.encoded_len.ensures.exact ∙ ap (λ (m : Marked). encoded_in (symbols_of_marked m) c.args.block) c.self.view_is in omega (arith, lt, many) in
    one_slot _ c.slot_of.result c.args.self.now c.ask.new.self c.ask.ensures
    (λ slot. at_symbol (symbols_of_marked c.args.self.now) c.args.block c.args.symbol slot few within named ∙ ap (λ n. slot == n) (sym c.slot_of.ensures.slot))

pub returns-then-block-self : goal.returns-then-block-self
returns-then-block-self c =
    none_more _ (λ block. 0) c.args.self.now
    (λ slot kept. not_slot (symbols_of_marked c.args.self.now) c.args.self.now.first c.args.block c.args.symbol slot
    (let lt = c.if-block-self.true in let first = ap (λ (m : Marked). m.first) c.self.view_is in omega (arith, lt, first)) kept)
    (λ block from. refl)

pub ask-requires-clause-number : goal.ask-requires-clause-number
ask-requires-clause-number c =
    let lt = c.if-block-blocks.true in
    let most = c.blocks-2.ensures.most in
    let at = c.slot_of.ensures.slot in
    let few = c.slot_of.ensures.named in
    omega (arith, lt, most, at, few)
