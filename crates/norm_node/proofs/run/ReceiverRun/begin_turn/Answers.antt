use Rattle.norm_node.proofs.GoesLemmas.{begins}
use Rattle.norm_node.proofs.run.ReceiverRun.begin_turn.Goals as goal

pub returns-clause-goes : goal.returns-clause-goes
returns-clause-goes g c x o here =
    begins x _ c.args.self.now c.args.number c.step-step.result c.moment_of-moment.result o _ _ c.self.view_is c.requires.number c.requires.left
    c.step-step.ensures c.moment_of-moment.ensures here
