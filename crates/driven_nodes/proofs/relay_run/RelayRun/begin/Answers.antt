use Rattle.driven_nodes.proofs.relay_run.RelayRun.begin.Goals as goal

pub invariant_of-result : goal.invariant_of-result
invariant_of-result c = c.in_ok-chain.ensures.stands
