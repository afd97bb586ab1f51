use Rattle.driven_nodes.proofs.ChainLemmas.{ticked_below}
use Rattle.driven_nodes.proofs.chain.Chain.tick_below.Goals as goal

pub returns : goal.returns
returns c =
    ticked_below c.args.now c.args.self.now c.tick_down-sent.new.self c.tell_all.new.relay c.tick_down-sent.new.out c.tick_down-sent.result c.tick_down-sent.ensures.call c.tell_all.ensures
