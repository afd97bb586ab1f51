use Rattle.std.proofs.Common.{◌+◌, length}
use Rattle.norm_send_rules.specs.Restarting.{begun_anew}
use Rattle.tx_window.specs.Taking.{room_made}
use Rattle.tests_sender_parts.proofs.window_steps.Standing.cut_short.Goals as goal

pub invariant_of-self : goal.invariant_of-self
invariant_of-self c =
    let s = c.self.invariant.state in
    let made = room_made c.self.inside.window.p (length c.args.piece.now + c.from.result) s in
    record {
      state = begun_anew 0 made;
      stands = c.clear.ensures.begun 0 made (c.fill.ensures.stands made (c.in-Ok.ensures.stands s c.self.invariant.stands));
      filling = c.clear.ensures.finished;
    }
