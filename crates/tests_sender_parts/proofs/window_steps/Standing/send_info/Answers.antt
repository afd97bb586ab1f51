use Rattle.std.proofs.Common.{◌∙◌}
use Rattle.norm_send_rules.specs.Sending.{noted}
use Rattle.norm_send_rules.specs.declared.want.Want.TheVariants.{Info}
use Rattle.tests_sender_parts.proofs.window_steps.Standing.send_info.Goals as goal

pub invariant_of-self : goal.invariant_of-self
invariant_of-self c =
    let s = c.self.invariant.state in
    record {
      state = noted (Info c.args.index) s;
      stands = c.note_info.ensures.stands s c.self.invariant.stands;
      filling = c.note_info.ensures.filling ∙ c.self.invariant.filling;
    }
