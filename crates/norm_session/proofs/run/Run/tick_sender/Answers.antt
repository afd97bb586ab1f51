use Rattle.norm_session.proofs.SendingLemmas.{sender_ticks}
use Rattle.norm_session.proofs.run.Run.tick_sender.Goals as goal

pub returns-clause-goes : goal.returns-clause-goes
returns-clause-goes c x network written here =
    let i = c.self.inside in
    sender_ticks x _ c.args.self.now c.tick_sender-sent.new.self c.push_tick.new.self c.sender_node-node.result c.tick_sender-sent.result
    c.tick_sender-sent.new.out network written c.self.view_is c.sender_node-node.ensures c.in_ok-push_tick.ensures c.tick_sender-sent.ensures.profile
    c.tick_sender-sent.ensures.event here
