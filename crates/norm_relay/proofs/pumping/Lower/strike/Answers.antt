use Rattle.norm_relay.proofs.CallLemmas.{strike_told}
use Rattle.norm_relay.proofs.pumping.Lower.strike.Goals as goal

pub returns-clause-strikes : goal.returns-clause-strikes
returns-clause-strikes c =
    strike_told c.args.self.now c.command.new.self c.args.now c.args.node c.in_ok-answer.answer c.without_receipt.result c.in_ok-answer.ensures.commands
    c.without_receipt.ensures
