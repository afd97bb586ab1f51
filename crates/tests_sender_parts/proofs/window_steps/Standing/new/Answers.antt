use Rattle.norm_send_rules.specs.SenderState.{sender_opening}
use Rattle.tests_sender_parts.proofs.window_steps.Standing.new.Goals as goal

pub invariant_of-standing : goal.invariant_of-standing
invariant_of-standing c = record {
  state = sender_opening c.args.profile.now 0;
  stands = c.in_ok-window.ensures.begun 0;
  filling = c.in_ok-window.ensures.finished;
}
