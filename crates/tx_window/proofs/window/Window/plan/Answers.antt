use Rattle.std.proofs.Common.{ap, sym, subst, ◌∙◌, Some}
use Rattle.std.specs.Prelude.{option_map}
use Rattle.fec_plan.specs.Partition.{Cut}
use Rattle.norm_order.specs.Entries.{Object}
use Rattle.norm_order.specs.Shapes.{shape_of}
use Rattle.tx_window.specs.WindowState.{reads, WindowState, Stands, entry_reads}
use Rattle.tx_window.specs.Asked.{kept_at}
use Rattle.tx_window.specs.WindowSound.{window_view}
use Rattle.tx_window.proofs.KeptLemmas.{found, not_kept, of_kept, none_of}
use Rattle.tx_window.proofs.window.Window.plan.Goals as goal

pub returns-clause-exact : goal.returns-clause-exact
returns-clause-exact c = λ s stands.
    let w = window_view c.self.inside in
    let here = subst (λ (v : WindowState). Stands v s) (sym c.self.view_is) stands in
    let f = found w s c.args.index c.in-Some.entry.now here c.in-Some.ensures in
    ap (λ (x : Cut). Some x) (c.plan-plan.ensures (entry_reads w (reads s) c.args.index f.entry.object) f.stands)
    ∙ sym (of_kept (λ (object : Object). (shape_of w.p object).cut) s c.args.index f.entry.object f.kept)
    ∙ ap (λ (v : WindowState). option_map (λ (object : Object). (shape_of v.p object).cut) (kept_at s c.args.index)) c.self.view_is

pub returns-in_default-clause-exact : goal.returns-in_default-clause-exact
returns-in_default-clause-exact c = λ s stands.
    let w = window_view c.self.inside in
    let here = subst (λ (v : WindowState). Stands v s) (sym c.self.view_is) stands in
    sym (none_of (λ (object : Object). (shape_of c.args.self.now.p object).cut) s c.args.index (not_kept w s c.args.index here c.in_default.ensures))
