use Rattle.std.proofs.Common.{◌≡◌, ◌*◌, ◌≤◌, ap, subst, ◌∙◌, arith, take, drop, ◌++◌}
use Rattle.fec_plan.specs.Partition.{Cut, symbol_number}
use Rattle.rs_block.specs.Code.{CodeState}
use Rattle.rs_block.specs.Codeword.{IsSymbol}
use Rattle.rs_block.proofs.Rows.{pieces_octets}
use Rattle.obj_buffer.specs.Codes.{block_code}
use Rattle.obj_buffer.proofs.ParityLemmas.{source_appended, parity_appended}
use Rattle.obj_buffer.proofs.symbol.symbol_of.Goals as goal

pub returns-then-symbol-source_len : goal.returns-then-symbol-source_len
returns-then-symbol-source_len c = λ p kind info octets holds.
    source_appended c.args.plan.now (c.args.front.now ++ c.args.back.now) p kind info octets c.args.out.now c.push_source.new.out c.args.block c.args.symbol
    holds c.source_len.ensures.sound c.requires.block (omega (arith, c.source_len.ensures.exact, c.if-symbol-source_len.true)) c.push_source.ensures

pub returns-else-symbol-source_len : goal.returns-else-symbol-source_len
returns-else-symbol-source_len c = λ p kind info octets holds.
    let plan = c.args.plan.now in
    let is : c.code.result.now ≡ block_code plan c.args.block = c.code.ensures.is ∙ ap (λ (k : Cut). block_code k c.args.block) c.requires.codes in
    parity_appended plan (c.args.front.now ++ c.args.back.now) p kind info octets c.args.out.now c.push_parity.new.out c.push_parity.ensures.symbol c.args.block c.args.symbol
    holds c.source_len.ensures.sound c.requires.block (omega (arith, c.source_len.ensures.exact, c.if-symbol-source_len.false)) c.requires.symbol
    (subst (λ (code : CodeState). code.n ≤ 255) is c.code.ensures.few)
    (pieces_octets c.args.front.now c.args.back.now (λ i. (c.type_inv.front i).fits) (λ i. (c.type_inv.back i).fits))
    c.push_parity.ensures.size
    (subst (λ (code : CodeState). IsSymbol code.k code.n plan.e (take (code.k * plan.e) (drop (symbol_number plan c.args.block 0 * plan.e) (c.args.front.now ++ c.args.back.now))) c.args.symbol c.push_parity.ensures.symbol)
    is c.push_parity.ensures.is)
    c.push_parity.ensures.appended
