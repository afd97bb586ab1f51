use Rattle.norm_session.proofs.HandingLemmas.{receiver_ticks}
use Rattle.norm_session.proofs.run.Run.tick_receiver.Goals as goal

pub returns-clause-goes : goal.returns-clause-goes
returns-clause-goes c x nodes network written here =
    receiver_ticks x _ c.args.self.now c.tick_receiver-sent.new.self c.push_tick.new.self c.args.node nodes c.tick_receiver-sent.result
    c.tick_receiver-sent.new.out network written c.self.view_is c.requires.receiver c.requires.taken c.in_ok-push_tick.ensures
    c.tick_receiver-sent.ensures.profile c.tick_receiver-sent.ensures.event here
