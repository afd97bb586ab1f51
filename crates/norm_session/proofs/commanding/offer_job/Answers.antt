use Rattle.norm_session.proofs.CommandLemmas.{gave_event}
use Rattle.norm_session.proofs.commanding.offer_job.Goals as goal

pub returns-clause-gives : goal.returns-clause-gives
returns-clause-gives c =
    gave_event c.args.world.now c.job-answer.new.self c.args.by c.args.job c.args.now c.job-answer.result c.without_job-gave.result
    c.without_job-gave.ensures (c.lacks_memory.ensures c.if-lacks_memory.false) c.job-answer.ensures.event
