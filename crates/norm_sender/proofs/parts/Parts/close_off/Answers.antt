use Rattle.std.proofs.Common.{refl}
use Rattle.norm_send_rules.specs.Streaming.{closed}
use Rattle.norm_send_rules.specs.declared.job.Job.TheVariants.{Close}
use Rattle.norm_sender.specs.Inside.{kept_of}
use Rattle.norm_sender.proofs.CommandingLemmas.{part_obeys, part_refuses}
use Rattle.norm_sender.proofs.parts.Parts.close_off.Goals as goal

pub returns-in-Ok-clause-obeys : goal.returns-in-Ok-clause-obeys
returns-in-Ok-clause-obeys c =
    let k = kept_of c.args.self.now in
    part_obeys k (kept_of c.close.new.self) Close (λ s by. closed k.p s) c.in-Ok.receipt c.close.result (λ s by. refl) c.in-Ok.is (λ s by h. c.close.ensures.closed s h)

pub returns-in-Err-clause-obeys : goal.returns-in-Err-clause-obeys
returns-in-Err-clause-obeys c =
    let k = kept_of c.args.self.now in
    part_refuses k (kept_of c.close.new.self) Close (λ s by. closed k.p s) c.in-Err.fault c.close.result (λ s by. refl) c.in-Err.is (λ s by h. c.close.ensures.closed s h)
