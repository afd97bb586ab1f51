use Rattle.std.proofs.Common.{◌≡◌, ◌∙◌, arith}
use Rattle.fec_plan.specs.Points.{position}
use Rattle.norm_order.specs.Entries.{Stream}
use Rattle.norm_order.specs.Shapes.{shape_of, closed_blocks}
use Rattle.stream_buffer.proofs.KnowsLemmas.{counted}
use Rattle.tx_window.proofs.EntryStreams.{blocks_by, none_here, itself_next, none_behind, block_behind}
use Rattle.tx_window.proofs.entry.next_segment.Goals as goal

pub returns-then-from-blocks-clause-next : goal.returns-then-from-blocks-clause-next
returns-then-from-blocks-clause-next c = λ p parts st auto.
    let s = c.args.stream.now.buffer in
    let q = position c.at.inside.index c.at.inside.block c.at.inside.symbol in
    let n : c.div_ceil-blocks.result ≡ closed_blocks (shape_of p (Stream parts)) =
    blocks_by p parts s c.plan-plan.result c.at.inside.block c.segments.result c.from-segments.result c.source_len.result c.from.result c.div_ceil-blocks.result
    st c.plan-plan.ensures.exact c.segments.ensures.exact c.from-segments.ensures c.source_len.ensures.exact c.from.ensures c.div_ceil-blocks.ensures in
    none_here p parts q c.args.at c.div_ceil-blocks.result c.from-2.result c.at.view_is n c.from-2.ensures c.if-from-blocks.true

pub returns-then-at-once-clause-next : goal.returns-then-at-once-clause-next
returns-then-at-once-clause-next c = λ p parts st auto.
    let s = c.args.stream.now.buffer in
    let q = position c.at.inside.index c.at.inside.block c.at.inside.symbol in
    let n : c.div_ceil-blocks.result ≡ closed_blocks (shape_of p (Stream parts)) =
    blocks_by p parts s c.plan-plan.result c.at.inside.block c.segments.result c.from-segments.result c.source_len.result c.from.result c.div_ceil-blocks.result
    st c.plan-plan.ensures.exact c.segments.ensures.exact c.from-segments.ensures c.source_len.ensures.exact c.from.ensures c.div_ceil-blocks.ensures in
    let once = c.once.ensures p parts (c.plan-plan.ensures.exact ∙ st.cut) auto (c.from-segments.ensures ∙ c.segments.ensures.exact ∙ counted p parts s st) in
    itself_next p parts q c.args.at c.div_ceil-blocks.result c.from-2.result c.once.result c.at.view_is n c.from-2.ensures c.if-from-blocks.false once c.if-at-once.true

pub returns-then-from-blocks-2-clause-next : goal.returns-then-from-blocks-2-clause-next
returns-then-from-blocks-2-clause-next c = λ p parts st auto.
    let s = c.args.stream.now.buffer in
    let q = position c.at.inside.index c.at.inside.block c.at.inside.symbol in
    let n : c.div_ceil-blocks.result ≡ closed_blocks (shape_of p (Stream parts)) =
    blocks_by p parts s c.plan-plan.result c.at.inside.block c.segments.result c.from-segments.result c.source_len.result c.from.result c.div_ceil-blocks.result
    st c.plan-plan.ensures.exact c.segments.ensures.exact c.from-segments.ensures c.source_len.ensures.exact c.from.ensures c.div_ceil-blocks.ensures in
    let once = c.once.ensures p parts (c.plan-plan.ensures.exact ∙ st.cut) auto (c.from-segments.ensures ∙ c.segments.ensures.exact ∙ counted p parts s st) in
    none_behind p parts q c.args.at c.div_ceil-blocks.result c.from-3.result c.once.result c.at.view_is n c.from-3.ensures c.if-from-blocks-2.true once c.if-at-once.false

pub returns-clause-next : goal.returns-clause-next
returns-clause-next c = λ p parts st auto.
    let s = c.args.stream.now.buffer in
    let q = position c.at.inside.index c.at.inside.block c.at.inside.symbol in
    let n : c.div_ceil-blocks.result ≡ closed_blocks (shape_of p (Stream parts)) =
    blocks_by p parts s c.plan-plan.result c.at.inside.block c.segments.result c.from-segments.result c.source_len.result c.from.result c.div_ceil-blocks.result
    st c.plan-plan.ensures.exact c.segments.ensures.exact c.from-segments.ensures c.source_len.ensures.exact c.from.ensures c.div_ceil-blocks.ensures in
    let once = c.once.ensures p parts (c.plan-plan.ensures.exact ∙ st.cut) auto (c.from-segments.ensures ∙ c.segments.ensures.exact ∙ counted p parts s st) in
    block_behind p parts q c.args.at c.div_ceil-blocks.result c.from-3.result c.once.result c.at.view_is n c.from-3.ensures
    (omega (arith, c.if-from-blocks.false, c.from-2.ensures, c.from-3.ensures)) c.if-from-blocks-2.false once c.if-at-once.false
