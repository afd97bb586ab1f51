use Rattle.std.proofs.Common.{sym, subst}
use Rattle.norm_sender.specs.SenderKept.{SenderKept, Stands}
use Rattle.norm_sender.proofs.sender.Sender.open_requests.Goals as goal

pub returns : goal.returns
returns c s h = c.open_requests.ensures s (subst (λ (v : SenderKept). Stands v s) (sym c.self.view_is) h).agrees
