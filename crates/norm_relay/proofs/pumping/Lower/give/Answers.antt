use Rattle.std.proofs.Common.{◌≡◌, ◌+◌, rules}
use Rattle.norm_relay.proofs.LowerLemmas.{gives}
use Rattle.norm_relay.proofs.pumping.Lower.give.Goals as goal

pub returns-clause-gives : goal.returns-clause-gives
returns-clause-gives c =
    let l = c.args.self.now in
    let next : c.in-Some.number ≡ l.jobs + 1 = search rules in
    gives l c.command-answer.new.self c.counted-jobs.result c.in-Some.number c.args.now c.is_ok.result c.args.job c.command-answer.result
    c.command-answer.ensures.profile next c.is_ok.ensures.value c.counted-jobs.ensures c.command-answer.ensures.stands
