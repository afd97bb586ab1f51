use Rattle.std.proofs.Common.{◌≡◌, ◌+◌, ◌-◌, ◌∙◌, subst, arith}
use Rattle.norm_base.specs.Settings.{Settings}
use Rattle.norm_receive_rules.specs.HandingUp.{handed_up}
use Rattle.rx_hold.specs.EntryHold.{StandsFor}
use Rattle.rx_hold.specs.FrontSound.{HasRoom, front_view}
use Rattle.rx_hold.proofs.LoseLemmas.{loses_start, loses_more}
use Rattle.rx_hold.proofs.front.Front.lose_all_before.Goals as goal

pub loop-self-init : goal.loop-self-init
loop-self-init c = record {
  sound = c.advance.ensures.sound;
  room = omega (arith, c.advance.ensures.forward, c.advance.ensures.room (c.args.index - c.args.self.now.point + 1) c.requires.room);
  profile = c.advance.ensures.profile;
  settled = c.advance.ensures.settled;
  state = λ s stands.
      loses_start c.args.index (front_view c.args.self.now) (front_view c.advance.new.self) s stands (c.advance.ensures.state s stands) c.advance.ensures.forward;
}

pub loop-self-preserved : goal.loop-self-preserved
loop-self-preserved c =
    let first = c.args.self.now in
    let middle = c.loop-self.self in
    let lost = c.lose_first.new.self in
    let now = c.advance-in-loop-self.new.self in
    let gap : c.args.index - middle.point ≡ c.args.index - lost.point + 1 = omega (arith, c.loop-self-test.true, c.lose_first.ensures.point) in
    let before : HasRoom (c.args.index - lost.point + 1 + 1) middle = omega (arith, c.loop-self.invariant.room, gap) in
    record {
      sound = c.advance-in-loop-self.ensures.sound;
      room =
          omega (
            arith,
            c.advance-in-loop-self.ensures.forward,
            c.advance-in-loop-self.ensures.room (c.args.index - lost.point + 1) (c.lose_first.ensures.room (c.args.index - lost.point + 1) before),
          );
      profile = c.advance-in-loop-self.ensures.profile ∙ c.lose_first.ensures.profile ∙ c.loop-self.invariant.profile;
      settled = c.advance-in-loop-self.ensures.settled;
      state = λ s stands.
          loses_more c.args.index (front_view first) (front_view middle) (front_view lost) (front_view now) s (c.loop-self.invariant.state s stands)
          c.loop-self-test.true c.lose_first.ensures.state c.lose_first.ensures.point
          (λ t gone. subst (λ (q : Settings). StandsFor (front_view now) (handed_up q t)) (c.lose_first.ensures.profile ∙ c.loop-self.invariant.profile)
          (c.advance-in-loop-self.ensures.state t gone))
          c.advance-in-loop-self.ensures.forward;
    }
