use Rattle.std.proofs.Common.{◌^◌, ◌<◌, arith}
use Rattle.std.proofs.Math.Pow.{pow-lt}
use Rattle.symbol_mask.proofs.mask.run_bits.Goals as goal

pub overflow_sub-result-3 : goal.overflow_sub-result-3
overflow_sub-result-3 c =
    let less : 2 ^ c.args.from < 2 ^ c.args.to = pow-lt c.requires.some in
    let below : c.args.to < 64 = let most = c.requires.word in let not_all = c.if-to-eq-WORD.false in omega (arith, most, not_all) in
    let fits : 2 ^ c.args.to < 2 ^ 64 = pow-lt below in
    omega (arith, less, fits)
