use Rattle.std.proofs.Common.{◌+◌, ◌-◌, ◌++◌, ap, ◌∙◌, arith, take, drop}
use Rattle.obj_buffer.proofs.PieceLemmas.{range_is}
use Rattle.obj_buffer.proofs.symbol.range_of.Goals as goal

pub returns-clause-octets : goal.returns-clause-octets
returns-clause-octets c =
    let d = c.saturating_sub-after_front.result in
    let n = c.min-in_front.result in
    ap (λ xs. take n xs ++ take (d + (c.args.len - n) - d) (drop d c.args.back.now)) c.split_at.ensures.back
    ∙ ap (λ m. take n (drop c.min.result c.args.front.now) ++ take m (drop d c.args.back.now)) (omega arith)
    ∙ range_is c.args.front.now c.args.back.now c.args.start c.args.len c.min.result n d (omega (arith, c.min.ensures)) (omega (arith, c.min-in_front.ensures, c.split_at.ensures.back_len)) (omega (arith, c.saturating_sub-after_front.ensures))
