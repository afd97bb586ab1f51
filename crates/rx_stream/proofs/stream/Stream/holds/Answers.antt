use Rattle.std.proofs.Common.{◌≡◌, false, sym, ap, subst, ◌∙◌, arith}
use Rattle.fec_plan.specs.Points.{position}
use Rattle.norm_receive_rules.specs.Plans.{holds}
use Rattle.rx_stream.specs.BlockState.{BlockState, has_id}
use Rattle.rx_stream.specs.StreamState.{StreamState, alone}
use Rattle.rx_stream.proofs.StreamLemmas.{stream_holds, holds_later}
use Rattle.rx_stream.proofs.stream.Stream.holds.Goals as goal

pub returns-then-is_beyond : goal.returns-then-is_beyond
returns-then-is_beyond c =
    subst (λ (o : StreamState). false ≡ holds (alone o) (position o.plan.index c.args.block c.args.symbol)) c.self.view_is
    (sym (holds_later (record { index = c.self.inside.index; fti = c.self.inside.fti; flags = c.self.inside.flags; seen = c.self.inside.seen }) c.self.inside.info c.self.inside.first c.self.inside.symbol c.args.block c.args.symbol c.self.inside.ring.items (let le = c.is_beyond.ensures.beyond c.if-is_beyond.true in omega (arith, le, c.place_of-place.ensures))))

pub returns : goal.returns
returns c =
    subst (λ (o : StreamState). c.has.result ≡ holds (alone o) (position o.plan.index c.args.block c.args.symbol)) c.self.view_is
    (c.has.ensures ∙ ap (λ (b : BlockState). has_id b c.args.symbol) c.index.ensures
    ∙ sym (stream_holds (record { index = c.self.inside.index; fti = c.self.inside.fti; flags = c.self.inside.flags; seen = c.self.inside.seen }) c.self.inside.info c.self.inside.first c.self.inside.symbol c.place_of-place.result c.args.block c.args.symbol c.self.inside.ring.items c.index.result.now (omega (arith, c.place_of-place.ensures)) (c.is_beyond.ensures.within c.if-is_beyond.false)))
