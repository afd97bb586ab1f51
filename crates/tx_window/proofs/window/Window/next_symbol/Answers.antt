use Rattle.std.proofs.Common.{◌+◌, ◌-◌, ap, sym, subst, ◌∙◌, arith, Some, None}
use Rattle.std.proofs.lemmas.Option.{slice_get_within}
use Rattle.fec_plan.specs.Points.{Position, position}
use Rattle.norm_order.specs.Shapes.{shape_of}
use Rattle.norm_send_rules.specs.Sending.{next_new}
use Rattle.norm_send_rules.specs.Laws.{next_at}
use Rattle.norm_send_rules.specs.Wants.{want_index}
use Rattle.norm_send_rules.specs.declared.want.Want.TheVariants.{Symbol}
use Rattle.tx_window.specs.EntryAsked.{IsNext}
use Rattle.tx_window.specs.EntryState.{first_of}
use Rattle.tx_window.specs.WindowState.{reads, WindowState, Stands, entry_reads}
use Rattle.tx_window.proofs.ListLemmas.{found_at}
use Rattle.tx_window.specs.WindowSound.{window_view}
use Rattle.tx_window.specs.Asked.{later_of}
use Rattle.tx_window.proofs.KeptLemmas.{found, none_behind, dropped_is}
use Rattle.tx_window.proofs.SearchLemmas.{BeginsAt, begins_at, at_hand_symbol, some_of, next_laws}
use Rattle.tx_window.proofs.window.Window.next_symbol.Goals as goal

pub returns-then-from-self-clause-exact : goal.returns-then-from-self-clause-exact
returns-then-from-self-clause-exact c = λ s stands is.
    let v = c.args.self.now in
    let first = ap (λ (x : WindowState). x.dropped) c.self.view_is in
    let low = dropped_is v s stands in
    let from = ap want_index is ∙ sym (ap (λ (x : Position). x.index) c.from.view_is) in
    c.first_new.ensures.exact s stands
    ∙ ap (λ n. next_new v.p (next_at n s)) (first ∙ sym low)
    ∙ sym (next_laws.dropped v.p s (omega (arith, from, low, first, c.if-from-self.true)))

pub returns-in_default-clause-exact : goal.returns-in_default-clause-exact
returns-in_default-clause-exact c = λ s stands is.
    let here = subst (λ (v : WindowState). Stands v s) (sym c.self.view_is) stands in
    let from = ap want_index is ∙ sym (ap (λ (x : Position). x.index) c.from.view_is) in
    let past = none_behind (window_view c.self.inside) s c.from.inside.index here c.if-from-self.false c.in_default.ensures in
    sym (next_laws.at_end c.args.self.now.p s (omega (arith, from, past)))

pub overflow_add-from-inside : goal.overflow_add-from-inside
overflow_add-from-inside c =
    let w = c.self.inside in
    let same = ap (λ (x : Position). x.index) (c.from-2.view_is ∙ sym c.from.view_is) in
    let within = slice_get_within w.held.items (c.from.inside.index - w.dropped) c.in-Some.entry.now (found_at w.dropped c.from.inside.index w.held.items c.in-Some.entry.now c.in-Some.ensures) in
    omega (arith, same, within, c.if-from-self.false, c.self.invariant.counted)

pub returns-in-Some-next_of-clause-exact : goal.returns-in-Some-next_of-clause-exact
returns-in-Some-next_of-clause-exact c = λ s stands is.
    let w = window_view c.self.inside in
    let e = c.in-Some.entry.now in
    let from = position c.from.inside.index c.from.inside.block c.from.inside.symbol in
    let is = is ∙ sym (ap (λ (q : Position). Symbol q) c.from.view_is) in
    let here = subst (λ (v : WindowState). Stands v s) (sym c.self.view_is) stands in
    let f = found w s from.index e here c.in-Some.ensures in
    let r = entry_reads w (reads s) from.index f.entry.object in
    let begins = subst (BeginsAt s.current.drop from.index) (sym f.first) (begins_at s from.index f.low) in
    let next = c.in-Some-next_of.ensures.next r f.stands (sym c.auto_of.ensures.exact) in
    sym (at_hand_symbol w.p s from (first_of e) f.entry (Some c.in-Some-next_of.at) is f.there begins (some_of r e c.auto_of.ensures.range f.stands)
    (subst (λ (x : Position). IsNext w.p (shape_of w.p f.entry.object) (later_of x (first_of e)) (Some c.in-Some-next_of.at)) (sym c.from.view_is) next))
    ∙ ap (λ (v : WindowState). next_new v.p s) c.self.view_is

pub returns-in-None-clause-exact : goal.returns-in-None-clause-exact
returns-in-None-clause-exact c = λ s stands is.
    let w = window_view c.self.inside in
    let e = c.in-Some.entry.now in
    let from = position c.from.inside.index c.from.inside.block c.from.inside.symbol in
    let is = is ∙ sym (ap (λ (q : Position). Symbol q) c.from.view_is) in
    let here = subst (λ (v : WindowState). Stands v s) (sym c.self.view_is) stands in
    let f = found w s from.index e here c.in-Some.ensures in
    let r = entry_reads w (reads s) from.index f.entry.object in
    let begins = subst (BeginsAt s.current.drop from.index) (sym f.first) (begins_at s from.index f.low) in
    let next = c.in-None.ensures.next r f.stands (sym c.auto_of.ensures.exact) in
    let same = ap (λ (x : Position). x.index) (c.from-2.view_is ∙ sym c.from.view_is) in
    c.first_new-in-None.ensures.exact s stands
    ∙ ap (λ n. next_new c.args.self.now.p (next_at (n + 1) s)) same
    ∙ sym (ap (λ (v : WindowState). next_new v.p (next_at (from.index + 1) s)) c.self.view_is)
    ∙ sym (at_hand_symbol w.p s from (first_of e) f.entry None is f.there begins (some_of r e c.auto_of.ensures.range f.stands)
    (subst (λ (x : Position). IsNext w.p (shape_of w.p f.entry.object) (later_of x (first_of e)) None) (sym c.from.view_is) next))
    ∙ ap (λ (v : WindowState). next_new v.p s) c.self.view_is
