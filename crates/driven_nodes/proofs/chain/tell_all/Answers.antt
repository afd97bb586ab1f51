use Rattle.std.proofs.Common.{◌≡◌, ◌<◌, ◌≤◌, arith, rules}
use Rattle.norm_relay.specs.RelayStep.{Other}
use Rattle.norm_safety.specs.Events.{Told}
use Rattle.driven_nodes.proofs.ChainLemmas.{told_first, told_next, told_whole}
use Rattle.driven_nodes.proofs.chain.tell_all.Goals as goal

pub loop-init : goal.loop-init
loop-init c = record { told = told_first c.args.relay.now; within = omega arith }

pub loop-preserved : goal.loop-preserved
loop-preserved c =
    let lt : c.loop.counter < c.untold-end.result = search rules in
    record {
      told = told_next c.args.relay.now c.loop.relay c.news.new.self c.loop.counter (λ answer. answer ≡ Other (Told c.news.result)) c.loop.invariant.told c.news.ensures.call;
      within = omega (arith, lt);
    }

pub returns : goal.returns
returns c =
    let past : c.untold-end.result ≤ c.loop.counter = search rules in
    told_whole c.args.relay.now c.loop.relay c.loop.counter c.untold-end.result c.loop.invariant.told c.loop.invariant.within past c.untold-end.ensures
