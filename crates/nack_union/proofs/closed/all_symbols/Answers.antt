use Rattle.std.proofs.Common.{◌-◌, ◌<◌, ap, ◌∙◌, arith}
use Rattle.fec_plan.specs.Partition.{blocks, source_symbols, symbol_number}
use Rattle.fec_plan.proofs.PartitionLemmas.{some_blocks_of}
use Rattle.nack_union.proofs.Counted.{block_fits}
use Rattle.nack_union.proofs.Wholes.{last_ends}
use Rattle.nack_union.proofs.closed.all_symbols.Goals as goal

pub returns : goal.returns
returns c =
    let plan = c.args.plan.now in
    let sound = c.blocks-last.ensures.sound in
    let some = some_blocks_of plan sound in
    let fits = block_fits plan (blocks plan - 1) sound (let lt : blocks plan - 1 < blocks plan = omega (arith, some) in lt) in
    let ends = last_ends plan sound in
    let number = c.symbol_number.ensures.exact ∙ ap (λ n. symbol_number plan (n - 1) 0) c.blocks-last.ensures.exact in
    let size = c.from.ensures ∙ c.source_len.ensures.exact ∙ ap (λ n. source_symbols plan (n - 1)) c.blocks-last.ensures.exact in
    omega (arith, fits, ends, number, size)
