use Rattle.norm_send_rules.specs.Streaming.{cut}
use Rattle.tests_sender_parts.proofs.window_steps.Standing.cut.Goals as goal

pub invariant_of-self : goal.invariant_of-self
invariant_of-self c =
    let s = c.self.invariant.state in
    record {
      state = cut c.self.inside.window.p s;
      stands = c.cut.ensures.stands s c.self.invariant.stands;
      filling = c.cut.ensures.finished;
    }
