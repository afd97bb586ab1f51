use Rattle.std.proofs.Common.{◌≡◌, sym, ap, subst, ◌∙◌, arith}
use Rattle.fec_plan.specs.Partition.{Cut, source_symbols}
use Rattle.norm_receive_rules.specs.Plans.{lacking}
use Rattle.rx_stream.specs.BlockState.{BlockState, lacks}
use Rattle.rx_stream.specs.StreamState.{StreamState, alone}
use Rattle.rx_stream.proofs.StreamLemmas.{stream_lacking, lacking_later}
use Rattle.rx_stream.proofs.stream.Stream.lacking.Goals as goal

pub returns-then-is_beyond : goal.returns-then-is_beyond
returns-then-is_beyond c =
    subst (λ (o : StreamState). c.source_len.result ≡ lacking (alone o) o.plan c.args.block) c.self.view_is
    (c.source_len.ensures.exact ∙ ap (λ (x : Cut). source_symbols x 0) c.self.invariant.sound.cut_is
    ∙ sym (lacking_later (record { index = c.self.inside.index; fti = c.self.inside.fti; flags = c.self.inside.flags; seen = c.self.inside.seen }) c.self.inside.info c.self.inside.first c.self.inside.symbol c.args.block c.self.inside.ring.items c.self.invariant.sound.stream (let le = c.is_beyond.ensures.beyond c.if-is_beyond.true in omega (arith, le, c.place_of-place.ensures))))

pub returns : goal.returns
returns c =
    subst (λ (o : StreamState). c.lacks.result ≡ lacking (alone o) o.plan c.args.block) c.self.view_is
    (c.lacks.ensures.exact ∙ ap (λ (b : BlockState). lacks b) c.index.ensures
    ∙ sym (stream_lacking (record { index = c.self.inside.index; fti = c.self.inside.fti; flags = c.self.inside.flags; seen = c.self.inside.seen }) c.self.inside.info c.self.inside.first c.self.inside.symbol c.place_of-place.result c.args.block c.self.inside.ring.items c.index.result.now c.self.invariant.sound.stream c.self.invariant.sound.blocks (omega (arith, c.place_of-place.ensures)) (c.is_beyond.ensures.within c.if-is_beyond.false)))
