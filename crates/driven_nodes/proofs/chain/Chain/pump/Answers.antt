use Rattle.std.proofs.Common.{◌∙◌, ◌+◌, ap}
use Rattle.driven_nodes.proofs.ChainLemmas.{pumped_on, refused_to}
use Rattle.driven_nodes.proofs.chain.Chain.pump.Goals as goal

pub returns-clause-goes : goal.returns-clause-goes
returns-clause-goes c u =
    pumped_on c.args.now c.in-Ok.count c.in_ok-enqueued.enqueued c.args.self.now c.pump.new.self c.tell_all.new.relay c.pump.result u c.pump.ensures.call c.in-Ok.is
    (c.in_ok-enqueued.ensures.sum ∙ ap (λ n. c.args.self.now.enqueued + n) c.wide.ensures) c.tell_all.ensures

pub returns-in-Err-clause-goes : goal.returns-in-Err-clause-goes
returns-in-Err-clause-goes c =
    refused_to c.args.now c.in-Err.why c.args.self.now c.pump.new.self c.pump.result c.refusal_of.result c.pump.ensures.call c.in-Err.is c.refusal_of.ensures.fault
