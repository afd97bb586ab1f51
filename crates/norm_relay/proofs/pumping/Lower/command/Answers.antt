use Rattle.norm_relay.proofs.LowerLemmas.{command_ok, command_err}
use Rattle.norm_relay.proofs.pumping.Lower.command.Goals as goal

pub returns-in-Ok-clause-commands : goal.returns-in-Ok-clause-commands
returns-in-Ok-clause-commands c =
    command_ok c.args.self.now c.give.new.self c.args.now c.args.job c.give.result c.in-Ok.receipt c.give.ensures.gives c.in-Ok.is

pub returns-in_ok-fault-in-Err-clause-commands : goal.returns-in_ok-fault-in-Err-clause-commands
returns-in_ok-fault-in-Err-clause-commands c =
    command_err c.args.self.now c.give.new.self c.args.now c.args.job c.give.result c.in-Err.refusal c.in_ok-fault-in-Err.fault c.give.ensures.gives c.in-Err.is
    c.in-Err.ensures.back c.in_ok-fault-in-Err.ensures.0 c.in_ok-fault-in-Err.ensures.1
