use Rattle.std.proofs.Common.{refl, rules}
use Rattle.driven_nodes.proofs.ChainLemmas.{lost_more, lost_all}
use Rattle.driven_nodes.proofs.chain.with_all.Goals as goal

pub loop-first-init : goal.loop-first-init
loop-first-init c = refl

pub loop-first-preserved : goal.loop-first-preserved
loop-first-preserved c =
    lost_more c.args.instance c.args.waiting.now c.loop-first.first-index c.first-item.result c.args.lost c.loop-first.lost c.in_ok-lost.lost (search rules) c.first-item.is
    c.loop-first.invariant c.in_ok-lost.ensures.loss

pub returns-clause-losses : goal.returns-clause-losses
returns-clause-losses c = lost_all c.args.instance c.args.waiting.now c.loop-first.first-index c.args.lost c.loop-first.lost (search rules) c.loop-first.invariant
