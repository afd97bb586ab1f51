use Rattle.std.proofs.Common.{sym, subst}
use Rattle.norm_sender.specs.SenderKept.{SenderKept, Stands}
use Rattle.norm_sender.proofs.sender.Sender.flushes.Goals as goal

pub returns : goal.returns
returns c s h = c.flushes.ensures s (subst (λ (v : SenderKept). Stands v s) (sym c.self.view_is) h).agrees
