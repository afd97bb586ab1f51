use Rattle.std.proofs.Common.{arith}
use Rattle.rx_stream.proofs.Solving.{same_kept, same_swapped}
use Rattle.rx_stream.proofs.moving.move_home.Goals as goal

pub returns-then-place-ids : goal.returns-then-place-ids
returns-then-place-ids c = λ k size most are symbols. same_kept k size c.args.ids.now c.args.rows.now are symbols

pub returns : goal.returns
returns c = λ k size most are symbols.
    same_swapped k size c.args.from c.from-place.result c.args.ids.now c.swap.new.self c.args.rows.now c.swap-2.new.self most are symbols
    (let count = are.count in omega (arith, count, c.requires.within)) (let count = are.count in omega (arith, count, c.if-place-ids.false))
    c.swap.ensures.after c.swap.ensures.permutation c.swap-2.ensures.after
