use Rattle.norm_base.specs.declared.node.Origin.{Origin}
use Rattle.norm_send_rules.specs.Streaming.{wrote}
use Rattle.tests_sender_parts.proofs.window_steps.Standing.write.Goals as goal

pub invariant_of-self : goal.invariant_of-self
invariant_of-self c =
    let s = c.self.invariant.state in
    let by : Origin = record { producer = 1; number = 1 } in
    record {
      state = (wrote c.self.inside.window.p s by c.args.bytes.now).0;
      stands = (c.write.ensures.written s by c.self.invariant.stands).stands;
      filling = c.write.ensures.finished;
    }
