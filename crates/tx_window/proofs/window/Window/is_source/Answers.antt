use Rattle.std.proofs.Common.{ap, sym, subst, ◌∙◌, refl}
use Rattle.fec_plan.specs.Points.{Position, position}
use Rattle.norm_order.specs.Shapes.{is_source}
use Rattle.norm_send_rules.specs.InWindow.{current_shapes, last_index}
use Rattle.norm_ext.specs.Laws.{IsNear}
use Rattle.tx_window.specs.WindowState.{WindowState, Stands}
use Rattle.tx_window.specs.WindowSound.{window_view}
use Rattle.tx_window.proofs.ListLemmas.{found_at}
use Rattle.tx_window.proofs.ExtentLemmas.{source_of, source_none}
use Rattle.tx_window.proofs.window.Window.is_source.Goals as goal

pub is_closed-requires : goal.is_closed-requires
is_closed-requires c =
    let w = c.self.inside in
    c.self.invariant.sized _ c.in-Some.extent (found_at w.forgotten c.at.inside.index w.extents.items c.in-Some.extent (sym c.in-Some.is ∙ c.extent_at.ensures))

pub returns : goal.returns
returns c = λ s stands near.
    let w = c.self.inside in
    let at = position c.at.inside.index c.at.inside.block c.at.inside.symbol in
    let here = subst (λ (v : WindowState). Stands v s) (sym c.self.view_is) stands in
    c.is_closed.ensures
    ∙ sym (source_of (window_view w) s w.extents.items at c.in-Some.extent refl here (sym c.in-Some.is ∙ c.extent_at.ensures))
    ∙ ap (λ (v : WindowState). is_source (current_shapes v.p s) at) c.self.view_is
    ∙ ap (is_source (current_shapes c.args.self.now.p s)) c.at.view_is

pub returns-in_default : goal.returns-in_default
returns-in_default c = λ s stands near.
    let w = c.self.inside in
    let at = position c.at.inside.index c.at.inside.block c.at.inside.symbol in
    let here = subst (λ (v : WindowState). Stands v s) (sym c.self.view_is) stands in
    sym (source_none (window_view w) s w.extents.items at refl here (subst (λ (q : Position). IsNear (last_index s) q.index) (sym c.at.view_is) near).0 (sym c.in_default.is ∙ c.extent_at.ensures))
    ∙ ap (λ (v : WindowState). is_source (current_shapes v.p s) at) c.self.view_is
    ∙ ap (is_source (current_shapes c.args.self.now.p s)) c.at.view_is
