use Rattle.std.proofs.Common.{◌≡◌, ◌≤◌, length, sym, ◌∙◌, arith}
use Rattle.rx_stream.proofs.BlockLemmas.{own_settled}
use Rattle.rx_stream.proofs.block.settle.Goals as goal

pub returns-then-are_own-clause-rows : goal.returns-then-are_own-clause-rows
returns-then-are_own-clause-rows c =
    let le : c.args.k ≤ length c.args.ids.now = omega (arith, c.if-ids-from.false, c.from.ensures) in
    let few = c.requires.few in
    let full : length c.args.ids.now ≡ c.args.k = omega (arith, le, few) in
    let symbols = c.requires.rows full in
    own_settled c.args.k c.args.solver.now.size c.args.ids.now c.args.rows.now le (symbols.count ∙ sym full) c.requires.rising (c.are_own.ensures.0 c.if-are_own.true)
