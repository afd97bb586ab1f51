use Rattle.std.proofs.Common.{◌-◌, refl, sym, ◌∙◌, subst}
use Rattle.norm_base.specs.Settings.{Settings}
use Rattle.norm_receive_rules.specs.Holding.{Holding}
use Rattle.norm_receive_rules.specs.HandingUp.{handed_up}
use Rattle.norm_receive_rules.specs.Losing.{loses_one, loses_before}
use Rattle.rx_hold.specs.EntryHold.{StandsFor}
use Rattle.rx_hold.specs.FrontSound.{front_view}
use Rattle.rx_hold.proofs.LoseLemmas.{cut_off}
use Rattle.rx_hold.proofs.front.Front.lose_before.Goals as goal

pub returns-then-is_cut_off-clause-state : goal.returns-then-is_cut_off-clause-state
returns-then-is_cut_off-clause-state c = λ s stands.
    let p = c.args.self.now.profile in
    let t : Holding = loses_before (c.args.index - s.point.index) p c.args.index s in
    let lost = c.lose_all_before.ensures.state s stands in
    subst (λ (u : Holding). StandsFor (front_view c.advance.new.self) u)
    (sym (cut_off p c.args.index c.args.block s t refl (sym (c.is_cut_off.ensures.exact t lost) ∙ c.if-is_cut_off.true)))
    (subst (λ (q : Settings). StandsFor (front_view c.advance.new.self) (handed_up q (loses_one t))) (c.lose_first.ensures.profile ∙ c.lose_all_before.ensures.profile)
    (c.advance.ensures.state (loses_one t) (c.lose_first.ensures.state t lost)))
