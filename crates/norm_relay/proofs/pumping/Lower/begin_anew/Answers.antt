use Rattle.std.proofs.Common.{◌+◌, Ok, Err, ap, ◌∙◌}
use Rattle.std.specs.Prelude.{◌%◌}
use Rattle.norm_send_rules.specs.declared.job.Job.TheVariants as job
use Rattle.norm_relay.proofs.LowerLemmas.{commands_as}
use Rattle.norm_relay.proofs.AskLemmas.{begins_not, restart_made, restart_refused}
use Rattle.norm_relay.proofs.pumping.Lower.begin_anew.Goals as goal

pub returns-then-not-held-clause-begins : goal.returns-then-not-held-clause-begins
returns-then-not-held-clause-begins c = begins_not c.args.now c.args.held.now c.args.self.now c.if-not-held.true

pub returns-in-Ok-clause-begins : goal.returns-in-Ok-clause-begins
returns-in-Ok-clause-begins c =
    restart_made c.args.now c.next_id-instance.result c.args.held.now c.args.self.now c.command.new.self c.in-Ok.field-0 c.if-not-held.false
    (λ s st. c.next_id-instance.ensures ∙ ap (λ i. (i + 1) % 65536) (c.instance.ensures s st))
    (commands_as c.args.self.now c.command.new.self c.args.now (job.Restart c.next_id-instance.result) c.in_ok-answer.answer (Ok c.in-Ok.field-0) c.in_ok-answer.ensures.commands c.in-Ok.is)

pub returns-in-Err-clause-begins : goal.returns-in-Err-clause-begins
returns-in-Err-clause-begins c =
    restart_refused c.args.now c.next_id-instance.result c.args.held.now c.args.self.now c.command.new.self c.in-Err.fault c.if-not-held.false
    (λ s st. c.next_id-instance.ensures ∙ ap (λ i. (i + 1) % 65536) (c.instance.ensures s st))
    (commands_as c.args.self.now c.command.new.self c.args.now (job.Restart c.next_id-instance.result) c.in_ok-answer.answer (Err c.in-Err.fault) c.in_ok-answer.ensures.commands c.in-Err.is)
