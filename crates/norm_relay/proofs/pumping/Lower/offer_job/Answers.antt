use Rattle.norm_relay.proofs.LowerLemmas.{job_accepted, if_refused}
use Rattle.norm_relay.proofs.pumping.Lower.offer_job.Goals as goal

pub returns-in-Ok-clause-offers : goal.returns-in-Ok-clause-offers
returns-in-Ok-clause-offers c =
    job_accepted c.args.self.now c.give.new.self c.args.now c.args.job c.job_opens-opens.result c.give.result c.in-Ok.field-0 c.give.ensures.gives c.in-Ok.is
    c.job_opens-opens.ensures

pub returns-in-Err-clause-offers : goal.returns-in-Err-clause-offers
returns-in-Err-clause-offers c =
    if_refused c.args.self.now c.give.new.self c.args.now c.args.job c.give.result c.in-Err.refusal c.refused.result c.give.ensures.gives c.in-Err.is
    c.in-Err.ensures.back c.refused.ensures
