use Rattle.norm_recovery.proofs.SteadySent.{sent_before_next}
use Rattle.norm_recovery.proofs.laws.sent_before_next.Goals as goal

pub returns : goal.returns
returns c = sent_before_next
