use Rattle.std.proofs.Common.{◌≡◌, sym, subst, ap, ◌∙◌}
use Rattle.norm_base.specs.Settings.{Settings}
use Rattle.norm_send_rules.specs.Repairable.{repairable}
use Rattle.norm_sender.specs.SenderKept.{SenderKept, Stands}
use Rattle.norm_sender.proofs.sender.Sender.repairable.Goals as goal

pub returns : goal.returns
returns c s h =
    let is = (subst (λ (v : SenderKept). Stands v s) (sym c.self.view_is) h).agrees in
    c.repairable.ensures s is.window ∙ ap (λ (p : Settings). repairable p s) is.window_profile ∙ ap (λ (v : SenderKept). repairable v.p s) c.self.view_is
