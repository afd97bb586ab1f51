use Rattle.std.proofs.Common.{Ok, Err}
use Rattle.norm_send_rules.specs.declared.job.Job.TheVariants as job
use Rattle.norm_relay.proofs.LowerLemmas.{commands_as, loss_passed, loss_accepted, loss_refused}
use Rattle.norm_relay.proofs.pumping.Lower.offer_loss.Goals as goal

pub returns-then-not-self-clause-offers : goal.returns-then-not-self-clause-offers
returns-then-not-self-clause-offers c = loss_passed c.args.index c.args.self.now c.args.now c.if-not-self.true

pub returns-in-Ok-clause-offers : goal.returns-in-Ok-clause-offers
returns-in-Ok-clause-offers c =
    loss_accepted c.args.index c.args.self.now c.command.new.self c.args.now c.in-Ok.field-0
    (commands_as c.args.self.now c.command.new.self c.args.now job.Close c.in_ok-answer.answer (Ok c.in-Ok.field-0) c.in_ok-answer.ensures.commands c.in-Ok.is) c.if-not-self.false

pub returns-in-Err-clause-offers : goal.returns-in-Err-clause-offers
returns-in-Err-clause-offers c =
    loss_refused c.args.index c.args.self.now c.command.new.self c.args.now c.in-Err.fault
    (commands_as c.args.self.now c.command.new.self c.args.now job.Close c.in_ok-answer.answer (Err c.in-Err.fault) c.in_ok-answer.ensures.commands c.in-Err.is) c.if-not-self.false
