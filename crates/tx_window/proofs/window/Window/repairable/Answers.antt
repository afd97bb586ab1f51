use Rattle.std.proofs.Common.{◌≤◌, sym, subst, ap, ◌∙◌, arith, length}
use Rattle.fec_plan.specs.Points.{Point}
use Rattle.norm_order.specs.Shapes.{shapes_of}
use Rattle.norm_send_rules.specs.Repairable.{encoded_from}
use Rattle.norm_send_rules.specs.Room.{window}
use Rattle.tx_window.specs.WindowState.{WindowState, Stands}
use Rattle.tx_window.specs.WindowSound.{window_view}
use Rattle.tx_window.proofs.KeptLemmas.{are_entries}
use Rattle.tx_window.proofs.RepairableLemmas.{behind, of_window}
use Rattle.tx_window.proofs.window.Window.repairable.Goals as goal

pub count_repairable-requires : goal.count_repairable-requires
count_repairable-requires c =
    let w = c.self.inside in
    let few : length w.held.items ≤ w.profile.window = omega (arith, c.self.invariant.few) in
    omega (arith, few, c.hold_range.ensures.window.1)

pub returns : goal.returns
returns c = λ s stands.
    let w = c.self.inside in
    let st = subst (λ (v : WindowState). Stands v s) (sym c.self.view_is) stands in
    c.count_repairable.ensures w.ring w.profile w.dropped s (window s) (are_entries (window_view w) s st) st.whole
    ∙ ap (λ (d : Point). behind d (encoded_from d.index (shapes_of w.profile (window s)))) (sym st.dropped)
    ∙ sym (of_window w.profile s)
    ∙ ap (λ (v : WindowState). Rattle.norm_send_rules.specs.Repairable.repairable v.p s) c.self.view_is
