use Rattle.std.proofs.Common.{◌≡◌, sym, subst, ◌∙◌}
use Rattle.norm_receive_rules.specs.Plans.{cut_of_plan}
use Rattle.rx_stream.specs.StreamState.{StreamState}
use Rattle.rx_stream.proofs.StreamLemmas.{stream_plan}
use Rattle.rx_stream.proofs.stream.Stream.plan.Goals as goal

pub returns : goal.returns
returns c =
    subst (λ (o : StreamState). c.self.inside.plan ≡ cut_of_plan o.plan) c.self.view_is
    (c.self.invariant.sound.cut_is
    ∙ sym (stream_plan (record { index = c.self.inside.index; fti = c.self.inside.fti; flags = c.self.inside.flags; seen = c.self.inside.seen }) c.self.invariant.sound.stream))
