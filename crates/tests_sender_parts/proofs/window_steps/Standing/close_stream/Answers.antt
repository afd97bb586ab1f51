use Rattle.norm_send_rules.specs.Streaming.{closed}
use Rattle.tests_sender_parts.proofs.window_steps.Standing.close_stream.Goals as goal

pub invariant_of-self : goal.invariant_of-self
invariant_of-self c =
    let s = c.self.invariant.state in
    record {
      state = (closed c.self.inside.window.p s).0;
      stands = (c.close_stream.ensures.closed s c.self.invariant.stands).stands;
      filling = c.close_stream.ensures.finished;
    }
