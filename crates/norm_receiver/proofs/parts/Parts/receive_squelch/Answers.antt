use Rattle.std.proofs.Common.{◌∙◌, ap, subst}
use Rattle.std.specs.Prelude.{max}
use Rattle.norm_base.specs.Settings.{Settings}
use Rattle.fec_plan.specs.Points.{point as point_at}
use Rattle.norm_receive_rules.specs.Losing.{squelched}
use Rattle.rx_hold.specs.EntryHold.{StandsFor as HoldStands}
use Rattle.norm_receiver.specs.declared.numbers.Numbers.{Numbers}
use Rattle.norm_receiver.proofs.BlockLemmas.{lost_blocks}
use Rattle.norm_receiver.proofs.parts.Parts.receive_squelch.Goals as goal

pub returns-clause-state : goal.returns-clause-state
returns-clause-state c = λ s stands. record {
  profile = c.lose_before.ensures.profile ∙ stands.profile;
  hold =
      subst (λ (p : Settings). HoldStands c.lose_before.new.self (squelched p (point_at c.args.index c.args.block) s.holding)) stands.profile
      (c.in_ok-lose_before.ensures.state s.holding stands.hold);
  seen = lost_blocks c.args.self.now.profile (point_at c.args.index c.args.block) s.holding stands.seen;
  heard = stands.heard;
  numbers = c.learning-self.ensures ∙ ap (λ (n : Numbers). record n { known = max n.known c.args.index }) stands.numbers;
}
