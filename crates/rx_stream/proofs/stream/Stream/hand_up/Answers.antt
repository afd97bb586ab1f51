use Rattle.std.proofs.Common.{sym, ap, ◌∙◌}
use Rattle.std.specs.Prelude.{min}
use Rattle.fec_plan.specs.Partition.{Cut}
use Rattle.norm_ext.specs.Numbers.{number}
use Rattle.rx_stream.specs.StreamState.{StreamState}
use Rattle.rx_stream.proofs.LeftLemmas.{left_lent}
use Rattle.rx_stream.proofs.SegmentLemmas.{up_bytes}
use Rattle.rx_stream.proofs.stream.Stream.hand_up.Goals as goal

pub returns-clause-up : goal.returns-clause-up
returns-clause-up c = λ p same.
    up_bytes p c.args.self.now c.self.inside.index c.segment_len-len.result c.offset_of-offset.result c.in-Some.row.now c.take_segment-bytes.result same
    (ap (λ (o : StreamState). o.point.index) c.self.view_is)
    (sym c.has_its_info.ensures ∙ c.if-not-has_its_info.false)
    c.in-Some.ensures.coded
    (c.segment_len-len.ensures ∙ ap (min (number 2 0 c.in-Some.row.now)) (c.e.ensures.exact ∙ ap (λ (x : Cut). x.e) c.self.invariant.sound.cut_is ∙ ap (λ (o : StreamState). o.plan.fti.e) c.self.view_is))
    c.if-len-eq0.false
    c.offset_of-offset.ensures
    c.take_segment-bytes.ensures.octets

pub returns-then-len-eq0-clause-fewer : goal.returns-then-len-eq0-clause-fewer
returns-then-len-eq0-clause-fewer c =
    left_lent (record { index = c.self.inside.index; fti = c.self.inside.fti; flags = c.self.inside.flags; seen = c.self.inside.seen }) c.self.inside.plan c.self.inside.info c.self.inside.first c.self.inside.symbol c.self.inside.ring.items c.self.inside.spares.items c.args.self.now c.in-Some.row.now
    c.self.invariant.sound c.self.view_is c.in-Some.ensures.coded
