use Rattle.std.proofs.Common.{Ok, Err, None}
use Rattle.norm_send_rules.specs.declared.job.Job.TheVariants as job
use Rattle.norm_relay.proofs.LowerLemmas.{commands_as}
use Rattle.norm_relay.proofs.AskLemmas.{room_made}
use Rattle.norm_relay.proofs.pumping.Lower.mark_for_room.Goals as goal

pub returns-in-Ok-clause-marks : goal.returns-in-Ok-clause-marks
returns-in-Ok-clause-marks c =
    room_made c.args.now c.args.self.now c.command.new.self (Ok c.in-Ok.field-0)
    (commands_as c.args.self.now c.command.new.self c.args.now (job.Mark None) c.in_ok-answer.answer (Ok c.in-Ok.field-0) c.in_ok-answer.ensures.commands c.in-Ok.is)

pub returns-in-Err-clause-marks : goal.returns-in-Err-clause-marks
returns-in-Err-clause-marks c =
    room_made c.args.now c.args.self.now c.command.new.self (Err c.in-Err.fault)
    (commands_as c.args.self.now c.command.new.self c.args.now (job.Mark None) c.in_ok-answer.answer (Err c.in-Err.fault) c.in_ok-answer.ensures.commands c.in-Err.is)
