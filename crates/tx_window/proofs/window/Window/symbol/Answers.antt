use Rattle.std.proofs.Common.{sym, subst, refl, None}
use Rattle.fec_plan.specs.Points.{Position, position}
use Rattle.tx_window.specs.WindowState.{reads, WindowState, Stands, entry_reads}
use Rattle.tx_window.proofs.ListLemmas.{found_at}
use Rattle.tx_window.specs.WindowSound.{window_view}
use Rattle.tx_window.specs.Asked.{AnswersAt}
use Rattle.tx_window.proofs.KeptLemmas.{found, not_kept, answers_at, answers_none}
use Rattle.tx_window.proofs.ObjectsLemmas.{lies_there}
use Rattle.tx_window.proofs.window.Window.symbol.Goals as goal

pub symbol-requires-clause-lies : goal.symbol-requires-clause-lies
symbol-requires-clause-lies c =
    let w = c.self.inside in
    lies_there w.ring w.profile w.held.items c.self.invariant.placed _ c.in-Some.entry.now (found_at w.dropped c.at.inside.index w.held.items c.in-Some.entry.now c.in-Some.ensures)

pub returns : goal.returns
returns c = λ s stands.
    let w = window_view c.self.inside in
    let e = c.in-Some.entry.now in
    let here = subst (λ (v : WindowState). Stands v s) (sym c.self.view_is) stands in
    let at = position c.at.inside.index c.at.inside.block c.at.inside.symbol in
    let f = found w s at.index e here c.in-Some.ensures in
    subst (λ (q : Position). AnswersAt c.args.self.now.p s q c.args.out.now c.symbol.new.out c.symbol.result) c.at.view_is
    (subst (λ (v : WindowState). AnswersAt v.p s at c.args.out.now c.symbol.new.out c.symbol.result) c.self.view_is
    (answers_at w.p s at f.entry.object _ c.args.out.now c.symbol.new.out c.symbol.result f.kept f.first
    (c.symbol.ensures (entry_reads w (reads s) at.index f.entry.object) f.stands refl)))

pub returns-in_default : goal.returns-in_default
returns-in_default c = λ s stands.
    let w = window_view c.self.inside in
    let here = subst (λ (v : WindowState). Stands v s) (sym c.self.view_is) stands in
    let at = position c.at.inside.index c.at.inside.block c.at.inside.symbol in
    subst (λ (q : Position). AnswersAt c.args.self.now.p s q c.args.out.now c.args.out.now None) c.at.view_is
    (answers_none c.args.self.now.p s at c.args.out.now (not_kept w s at.index here c.in_default.ensures))
