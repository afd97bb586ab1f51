use Rattle.std.proofs.Common.{◌≡◌, Result, Err, Ok, refl, sym, subst}
use Rattle.norm_send_rules.specs.SenderState.{SenderState}
use Rattle.norm_send_rules.specs.declared.job.Receipt.{Receipt}
use Rattle.norm_send_rules.specs.declared.job.Receipt.TheVariants.{Restarted}
use Rattle.norm_send_rules.specs.declared.fault.SendFault.{SendFault}
use Rattle.norm_send_rules.specs.declared.fault.SendFault.TheVariants.{IdUsed}
use Rattle.norm_sender.specs.Inside.{kept_of}
use Rattle.norm_sender.specs.SenderKept.{Agrees}
use Rattle.norm_sender.proofs.RestartingLemmas.{not_restarted, is_restarted}
use Rattle.norm_sender.proofs.parts.Parts.restart.Goals as goal

pub returns-then-is_used-clause-stands : goal.returns-then-is_used-clause-stands
returns-then-is_used-clause-stands c s h =
    let k = kept_of c.args.self.now in
    let done = not_restarted s c.args.instance c.is_used.result (c.is_used.ensures s h.pace) c.if-is_used.true in
    subst (λ (step : SenderState × Result Receipt SendFault). Agrees k step.0 × (Err (IdUsed c.args.instance) ≡ step.1)) (sym done) (h, refl)

pub returns-clause-stands : goal.returns-clause-stands
returns-clause-stands c s h =
    let new = kept_of c.begin_anew.new.self in
    let done = is_restarted s c.args.instance c.is_used.result (c.is_used.ensures s h.pace) c.if-is_used.false in
    subst (λ (step : SenderState × Result Receipt SendFault). Agrees new step.0 × (Ok (Restarted c.args.instance) ≡ step.1)) (sym done)
    (c.begin_anew.ensures.stands s h, refl)
