use Rattle.std.proofs.Common.{◌<◌, ◌/◌, ◌∙◌, ap, arith}
use Rattle.fec_plan.specs.Partition.{source_symbols}
use Rattle.fec_plan.proofs.PartitionLemmas.{some_sources}
use Rattle.nack_union.proofs.Wholes.{all_whole, first_whole}
use Rattle.nack_union.proofs.closed.whole_blocks.Goals as goal

pub returns-then-all_symbols-closed-clause-whole : goal.returns-then-all_symbols-closed-clause-whole
returns-then-all_symbols-closed-clause-whole c = λ block lt.
    all_whole c.args.plan.now c.args.closed block c.blocks-blocks.ensures.sound
    (let all = c.all_symbols.ensures in let le = c.if-all_symbols-closed.true in omega (arith, all, le))
    (let many = c.blocks-blocks.ensures.exact in omega (arith, lt, many))

pub returns-clause-whole : goal.returns-clause-whole
returns-clause-whole c = λ block lt.
    let size = c.from-largest.ensures ∙ c.source_len.ensures.exact in
    let part = ap (λ n. c.args.closed / n) size in
    let few = c.min.ensures in
    first_whole c.args.plan.now c.args.closed block (some_sources c.args.plan.now 0 c.blocks-blocks.ensures.sound)
    (let less : block < c.args.closed / source_symbols c.args.plan.now 0 = omega (arith, lt, few, part) in less)
