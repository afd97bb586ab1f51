use Rattle.std.proofs.Common.{Err, sym, subst, ap}
use Rattle.std.specs.Prelude.{Option}
use Rattle.norm_send_rules.specs.declared.job.Job.{Job}
use Rattle.norm_send_rules.specs.declared.job.Job.TheVariants.{Open}
use Rattle.norm_send_rules.specs.declared.fault.SendFault.{SendFault}
use Rattle.norm_send_rules.specs.Streaming.{opened}
use Rattle.norm_sender.specs.Commands.{Obeys}
use Rattle.norm_sender.specs.Inside.{kept_of}
use Rattle.norm_sender.proofs.CommandingLemmas.{open_refuses, got}
use Rattle.norm_sender.proofs.parts.Parts.open_up.Goals as goal

pub returns-in-Ok-clause-obeys : goal.returns-in-Ok-clause-obeys
returns-in-Ok-clause-obeys c =
    got (kept_of c.args.self.now) (kept_of c.open.new.self) Open (λ s by. opened c.args.self.now.profile s by) c.in-Ok.receipt (λ s by. Rattle.std.proofs.Common.refl) c.in-Ok.ensures.opened

pub returns-in-Err-clause-obeys : goal.returns-in-Err-clause-obeys
returns-in-Err-clause-obeys c =
    let k = kept_of c.args.self.now in
    let new = kept_of c.open.new.self in
    subst (λ (r : Option Job × SendFault). Obeys k new Open (Err r)) (sym c.open_refusal.ensures)
    (open_refuses k new c.in-Err.fault (c.open.ensures.same (ap Rattle.std.specs.Prelude.is_err c.in-Err.is)) c.in-Err.ensures.refused)
