use Rattle.std.proofs.Common.{◌≡◌, ◌∙◌, refl}
use Rattle.fec_plan.specs.Points.{position}
use Rattle.norm_order.specs.Entries.{Stream}
use Rattle.norm_order.specs.Shapes.{shape_of, closed_blocks}
use Rattle.tx_window.proofs.EntryStreams.{blocks_by, none_here}
use Rattle.tx_window.proofs.entry.first_segment.Goals as goal

pub returns-then-from-blocks-clause-next : goal.returns-then-from-blocks-clause-next
returns-then-from-blocks-clause-next c = λ p parts st auto.
    let s = c.args.stream.now.buffer in
    let q = position c.args.index s.first 0 in
    let n : c.div_ceil-blocks.result ≡ closed_blocks (shape_of p (Stream parts)) =
    blocks_by p parts s c.plan-plan.result c.first_block-block.result c.segments.result c.from-segments.result c.source_len.result c.from.result c.div_ceil-blocks.result
    st c.plan-plan.ensures.exact c.segments.ensures.exact c.from-segments.ensures c.source_len.ensures.exact c.from.ensures c.div_ceil-blocks.ensures in
    none_here p parts q q c.div_ceil-blocks.result c.from-2.result refl n (c.from-2.ensures ∙ c.first_block-block.ensures) c.if-from-blocks.true
