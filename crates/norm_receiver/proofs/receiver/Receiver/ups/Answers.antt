use Rattle.std.proofs.Common.{sym, subst}
use Rattle.norm_receiver.specs.ReceiverKept.{ReceiverKept}
use Rattle.norm_receiver.specs.ReceiverSound.{StandsFor}
use Rattle.norm_receiver.proofs.receiver.Receiver.ups.Goals as goal

pub returns-clause-stands : goal.returns-clause-stands
returns-clause-stands c s h = c.ups.ensures.state s (subst (λ (v : ReceiverKept). StandsFor v s) (sym c.self.view_is) h).agrees
