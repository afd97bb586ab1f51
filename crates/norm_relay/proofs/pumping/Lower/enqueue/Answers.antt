use Rattle.std.proofs.Common.{◌≡◌, [], refl, rules}
use Rattle.norm_relay.specs.declared.pumping.Stop.TheVariants as ended
use Rattle.norm_relay.proofs.EnqueueLemmas.{follow_first, follow_next, follow_end, follow_refused}
use Rattle.norm_relay.proofs.pumping.Lower.enqueue.Goals as goal

pub loop-first-init : goal.loop-first-init
loop-first-init c = record { ready = c.requires; follow = follow_first c.args.now c.args.self.now c.args.waiting.now.items }

pub loop-first-preserved : goal.loop-first-preserved
loop-first-preserved c = record {
  ready = c.in_ok-offer.ensures.ready;
  follow =
      follow_next c.args.now c.args.self.now c.loop-first.self c.offer.new.self c.args.waiting.now.items c.loop-first.waiting.items c.in-Some.first
      c.pop_front.new.self.items c.loop-first.jobs c.in-Done.more c.in_ok-jobs-in-Done.jobs c.in_ok-offer.offer c.loop-first.invariant.follow
      c.in-Some.ensures.items c.in_ok-offer.ensures.offers c.in-Done.is c.in_ok-jobs-in-Done.ensures;
}

pub returns-in-Refused-clause-enqueues : goal.returns-in-Refused-clause-enqueues
returns-in-Refused-clause-enqueues c =
    follow_refused c.args.now c.args.self.now c.loop-first.self c.offer.new.self c.args.waiting.now.items c.loop-first.waiting.items
    c.push_front.new.self.items c.in-Some.first c.in-Refused.again c.pop_front.new.self.items c.in-Refused.fault c.in_ok-offer.offer
    (record { jobs = c.loop-first.jobs; stop = c.stop_by.result }) c.loop-first.invariant.follow c.in-Some.ensures.items c.in_ok-offer.ensures.offers
    c.in-Refused.is c.in_ok-push_front-in-Refused.ensures.items c.stop_by.ensures

pub returns-clause-enqueues : goal.returns-clause-enqueues
returns-clause-enqueues c =
    let none : c.loop-first.waiting.items ≡ [] = search rules in
    let empty : c.pop_front.new.self.items ≡ [] = search rules in
    follow_end c.args.now c.args.self.now c.loop-first.self c.args.waiting.now.items c.loop-first.waiting.items c.pop_front.new.self.items
    (record { jobs = c.loop-first.jobs; stop = ended.Emptied }) c.loop-first.invariant.follow none empty refl
