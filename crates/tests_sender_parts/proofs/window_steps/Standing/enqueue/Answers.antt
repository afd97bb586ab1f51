use Rattle.std.proofs.Common.{refl, sym, subst}
use Rattle.norm_base.specs.declared.node.Origin.{Origin}
use Rattle.norm_send_rules.specs.Enqueuing.{enqueued}
use Rattle.tx_window.specs.Standing.{IsStanding}
use Rattle.tests_sender_parts.proofs.window_steps.Standing.enqueue.Goals as goal
use Rattle.tests_sender_parts.proofs.window_steps.Standing.enqueue.Goals.{in-Ok, in-Err}

pub invariant_of-self : goal.invariant_of-self
invariant_of-self c =
    let w = c.self.inside.window in
    let s = c.self.invariant.state in
    let by : Origin = record { producer = 1; number = 1 } in
    elim c.match-enqueue.branch [
      | in-Ok v ↦ record {
        state = (enqueued w.p s by c.args.kind c.args.info c.args.bytes).0;
        stands = (v.in-Ok.ensures.enqueued s by c.self.invariant.stands).stands;
        filling = c.enqueue.ensures.finished;
      }
      | in-Err v ↦ subst IsStanding (sym (v.in-Err.ensures.same refl)) c.self.invariant
    ]
