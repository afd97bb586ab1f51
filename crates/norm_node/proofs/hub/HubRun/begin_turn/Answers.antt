use Rattle.norm_node.proofs.HubLemmas.{hub_opens}
use Rattle.norm_node.proofs.hub.HubRun.begin_turn.Goals as goal

pub returns-clause-goes : goal.returns-clause-goes
returns-clause-goes g c p o network here =
    hub_opens p o _ c.args.self.now c.args.number c.step-step.result c.moment_of-moment.result network _ _ c.self.view_is c.requires.number c.requires.left
    c.step-step.ensures c.moment_of-moment.ensures here
