use Rattle.norm_send_rules.specs.Restarting.{begun_anew}
use Rattle.tests_sender_parts.proofs.window_steps.Standing.clear.Goals as goal

pub invariant_of-self : goal.invariant_of-self
invariant_of-self c = record {
  state = begun_anew 0 c.self.invariant.state;
  stands = c.clear.ensures.begun 0 c.self.invariant.state c.self.invariant.stands;
  filling = c.clear.ensures.finished;
}
