use Rattle.std.proofs.Common.{◌≤◌, ◌++◌, [], ◌∷◌, refl, ap, ◌∙◌, rules}
use Rattle.norm_relay.specs.declared.waiting.Waiting.{Waiting}
use Rattle.norm_relay.proofs.UpperLemmas.{take_first, take_next, all_taken, all_wait}
use Rattle.norm_relay.proofs.delivering.take_all.Goals as goal

pub loop-init : goal.loop-init
loop-init c = record { profile = refl; takes = take_first c.args.receiver.now c.args.waiting.now.items }

pub loop-preserved : goal.loop-preserved
loop-preserved c = record {
  profile = c.take_up.ensures.profile ∙ c.loop.invariant.profile;
  takes =
      take_next c.args.receiver.now c.loop.receiver c.take_up.new.self c.args.waiting.now.items c.loop.waiting.items c.push_back.new.self.items c.loop.counter
      c.in-Some.up c.take_up.result c.loop.invariant.takes c.take_up.ensures.stands c.in-Some.is
      (c.in_ok-push_back.ensures.items ∙ ap (λ (w : Waiting). c.loop.waiting.items ++ w ∷ []) c.waiting_of.ensures);
}

pub returns-clause-taken : goal.returns-clause-taken
returns-clause-taken c s st =
    let past : c.ups-many.result ≤ c.loop.counter = search rules in
    all_taken c.args.receiver.now c.loop.receiver c.args.waiting.now.items c.loop.waiting.items c.loop.counter c.ups-many.result c.loop.invariant.takes past
    c.ups-many.ensures.stands s st

pub returns-clause-waits : goal.returns-clause-waits
returns-clause-waits c s st =
    let past : c.ups-many.result ≤ c.loop.counter = search rules in
    all_wait c.args.receiver.now c.loop.receiver c.args.waiting.now.items c.loop.waiting.items c.loop.counter c.ups-many.result c.loop.invariant.takes past
    c.ups-many.ensures.stands s st
