use Rattle.std.proofs.Common.{sym, ap}
use Rattle.norm_receive_rules.specs.ReceiverState.{receiver_opening}
use Rattle.norm_node.specs.Lone.{lone_opening}
use Rattle.norm_node.specs.Runs.{begun}
use Rattle.norm_node.proofs.GoesLemmas.{begins_here}
use Rattle.norm_node.proofs.run.ReceiverRun.new.Goals as goal

pub returns-clause-begun : goal.returns-clause-begun
returns-clause-begun c o =
    begins_here (begun c.args.profile.now c.args.node o) _ (receiver_opening c.args.node)
    (ap (λ d. record (lone_opening c.args.profile.now c.args.node) { draws = d }) (sym c.first_draws-draws.ensures)) c.in_ok-receiver.ensures.stands
    c.in_ok-receiver.ensures.profile
