use Rattle.std.proofs.Common.{◌∙◌, sym}
use Rattle.norm_relay.specs.RelayState.{upper_instance}
use Rattle.driven_nodes.proofs.ChainLemmas.{if_ok, losses_none, losses_some}
use Rattle.driven_nodes.proofs.chain.losses_of.Goals as goal

pub returns-in_default-clause-losses : goal.returns-in_default-clause-losses
returns-in_default-clause-losses c x stands =
    losses_none (upper_instance x) x.waiting c.args.lost (sym (c.instance.ensures x stands) ∙ c.in_default.is)

pub returns-clause-losses : goal.returns-clause-losses
returns-clause-losses c =
    if_ok c.with_all-2.result
    (λ now second x stands.
    losses_some (upper_instance x) c.in-Some.instance x.waiting c.args.lost c.in_ok-first.first now c.as_slices-slices.result.0.now c.as_slices-slices.result.1.now
    c.args.relay.now.waiting (sym (c.instance.ensures x stands) ∙ c.in-Some.is) (c.as_slices-slices.ensures.items ∙ c.waiting.ensures) stands.waiting
    c.in_ok-first.ensures.losses second)
    c.with_all-2.ensures.losses
