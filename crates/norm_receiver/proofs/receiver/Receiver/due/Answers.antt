use Rattle.std.proofs.Common.{sym, subst}
use Rattle.norm_receiver.specs.ReceiverKept.{ReceiverKept}
use Rattle.norm_receiver.specs.ReceiverSound.{StandsFor}
use Rattle.norm_receiver.proofs.receiver.Receiver.due.Goals as goal

pub returns : goal.returns
returns c s h = c.due.ensures s (subst (λ (v : ReceiverKept). StandsFor v s) (sym c.self.view_is) h).agrees
