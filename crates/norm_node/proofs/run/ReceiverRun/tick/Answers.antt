use Rattle.norm_node.proofs.GoesLemmas.{ticks_on}
use Rattle.norm_node.proofs.run.ReceiverRun.tick.Goals as goal

pub returns-clause-goes : goal.returns-clause-goes
returns-clause-goes c x o here =
    ticks_on x _ c.args.self.now c.tick.new.self c.tick.result c.tick.new.out o c.self.view_is c.requires c.tick.ensures.profile c.tick.ensures.stands here
