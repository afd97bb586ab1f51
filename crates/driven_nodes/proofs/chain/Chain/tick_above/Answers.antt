use Rattle.std.proofs.Common.{◌∙◌, ap, ◌+◌}
use Rattle.driven_nodes.proofs.ChainLemmas.{ticked_above}
use Rattle.driven_nodes.proofs.chain.Chain.tick_above.Goals as goal

pub returns-clause-goes : goal.returns-clause-goes
returns-clause-goes c =
    ticked_above c.args.now c.args.self.now c.tick_up-sent.new.self c.tick_up-sent.new.out c.tick_up-sent.result c.in_ok-acknowledged.acknowledged c.tick_up-sent.ensures.call
    (c.in_ok-acknowledged.ensures.sum ∙ ap (λ n. c.args.self.now.acknowledged + n) c.acks_in.ensures)
