use Rattle.std.proofs.Common.{◌∙◌, refl, arith}
use Rattle.rx_hold.proofs.HandingLemmas.{hands_end, hands_more, hands_none}
use Rattle.rx_hold.proofs.front.Front.advance.Goals as goal

pub loop-init : goal.loop-init
loop-init c = record { sound = c.requires; room = λ n room. room; profile = refl; forward = omega arith; state = λ s stands. hands_none c.args.self.now s stands }

pub loop-preserved : goal.loop-preserved
loop-preserved c = record {
  sound = c.hand_up_first.ensures.sound;
  room = λ n room. c.hand_up_first.ensures.room n (c.loop.invariant.room n room);
  profile = c.hand_up_first.ensures.profile ∙ c.loop.invariant.profile;
  forward = omega (arith, c.loop.invariant.forward, c.hand_up_first.ensures.forward);
  state = λ s stands.
      hands_more c.args.self.now c.loop.self c.hand_up_first.new.self s c.loop.invariant.profile
      (c.loop.invariant.state s stands) c.loop-test.ensures.state (c.hand_up_first.ensures.fewer c.loop-test.true);
}

pub returns-clause-room : goal.returns-clause-room
returns-clause-room c = λ n room. c.hand_up_first.ensures.room n (c.loop.invariant.room n room)

pub returns-clause-state : goal.returns-clause-state
returns-clause-state c = λ s stands.
    hands_end c.args.self.now c.loop.self c.hand_up_first.new.self s c.loop.invariant.profile
    (c.loop.invariant.state s stands) c.loop-test.ensures.state stands
