use Rattle.std.proofs.Common.{ap, ◌∙◌}
use Rattle.norm_receive_rules.specs.Receiving.{received}
use Rattle.norm_relay.specs.Holding.{left}
use Rattle.norm_relay.specs.RelayStep.{goes_on}
use Rattle.norm_relay.proofs.delivering.hear.Goals as goal

pub returns-clause-leaves : goal.returns-clause-leaves
returns-clause-leaves c s st =
    let after = received c.args.receiver.now.p s c.args.bytes.now c.args.now c.args.draw in
    c.leave.ensures
    ∙ ap (λ b. left b c.args.held.now)
    (c.goes_on.ensures ∙ ap (λ i. goes_on i c.instance.result) (c.instance-was.ensures s st)
    ∙ ap (goes_on s.instance) (c.instance.ensures after (c.in_ok-deliver.ensures.stands s st)))
