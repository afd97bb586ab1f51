use Rattle.std.proofs.Common.{◌≡◌, sym, subst}
use Rattle.norm_send_rules.specs.Ticking.{is_idle}
use Rattle.norm_sender.specs.SenderKept.{SenderKept, Stands}
use Rattle.norm_sender.proofs.sender.Sender.idle.Goals as goal

pub returns : goal.returns
returns c s h =
    subst (λ (v : SenderKept). c.is_idle.result ≡ is_idle v.p s) c.self.view_is
    (c.is_idle.ensures s (subst (λ (v : SenderKept). Stands v s) (sym c.self.view_is) h).agrees)
