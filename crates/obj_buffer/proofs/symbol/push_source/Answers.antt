use Rattle.std.proofs.Common.{◌*◌, ap, ◌∙◌, arith}
use Rattle.fec_plan.proofs.PartitionLemmas.{octets_within, sent_most}
use Rattle.obj_buffer.proofs.symbol.push_source.Goals as goal

pub range_of-requires : goal.range_of-requires
range_of-requires c =
    let plan = c.args.plan.now in
    let start = ap (λ n. n * c.from.result) c.symbol_number.ensures.exact ∙ ap (λ e. Rattle.fec_plan.specs.Partition.symbol_number plan c.args.block c.args.symbol * e) (c.from.ensures ∙ c.e.ensures.exact) in
    let len = c.from-len.ensures ∙ c.symbol_octets.ensures in
    let most = sent_most plan c.args.block c.args.symbol c.requires.object in
    let within = octets_within plan c.args.block c.args.symbol c.e.ensures.sound c.requires.object c.requires.block c.requires.symbol in
    omega (arith, start, len, most, within, c.requires.pieces)
