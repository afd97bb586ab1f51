use Rattle.std.proofs.Common.{◌≡◌, ◌+◌, ap, sym, subst, ◌∙◌, refl, Some, None, true, false}
use Rattle.norm_order.specs.Shapes.{Shape, shape_of}
use Rattle.norm_send_rules.specs.Sending.{next_new}
use Rattle.norm_send_rules.specs.Laws.{next_at}
use Rattle.norm_send_rules.specs.declared.want.Want.TheVariants.{Info, Symbol}
use Rattle.tx_window.specs.WindowState.{reads, WindowState, Stands, entry_reads}
use Rattle.tx_window.specs.WindowSound.{window_view}
use Rattle.tx_window.proofs.KeptLemmas.{found, shape_is}
use Rattle.tx_window.proofs.SearchLemmas.{BeginsAt, begins_at, at_hand, searched_first, info_first, info_is, some_of}
use Rattle.tx_window.proofs.window.Window.new_of.Goals as goal

pub returns-then-has_info-clause-exact : goal.returns-then-has_info-clause-exact
returns-then-has_info-clause-exact c = λ s stands lt.
    let w = window_view c.self.inside in
    let e = c.in-Some.entry.now in
    let here = subst (λ (v : WindowState). Stands v s) (sym c.self.view_is) stands in
    let f = found w s c.args.index e here c.in-Some.ensures in
    let info : (shape_of w.p f.entry.object).info ≡ true = ap (λ (x : Shape). x.info) (shape_is (entry_reads w (reads s) c.args.index f.entry.object) e f.stands) ∙ info_is e ∙ sym c.has_info.ensures ∙ c.if-has_info.true in
    subst (λ (v : WindowState). next_new v.p (next_at c.args.index s) ≡ Some (Info c.args.index)) c.self.view_is
    (at_hand w.p (next_at c.args.index s) c.args.index f.entry (Some (Info c.args.index)) refl f.there (info_first w.p s.current.drop c.args.index (shape_of w.p f.entry.object) info f.low))

pub returns-in-Some-first_in-clause-exact : goal.returns-in-Some-first_in-clause-exact
returns-in-Some-first_in-clause-exact c = λ s stands lt.
    let w = window_view c.self.inside in
    let e = c.in-Some.entry.now in
    let here = subst (λ (v : WindowState). Stands v s) (sym c.self.view_is) stands in
    let f = found w s c.args.index e here c.in-Some.ensures in
    let r = entry_reads w (reads s) c.args.index f.entry.object in
    let none : (shape_of w.p f.entry.object).info ≡ false = ap (λ (x : Shape). x.info) (shape_is r e f.stands) ∙ info_is e ∙ sym c.has_info.ensures ∙ c.if-has_info.false in
    let begins = subst (BeginsAt s.current.drop c.args.index) (sym f.first) (begins_at s c.args.index f.low) in
    subst (λ (v : WindowState). next_new v.p (next_at c.args.index s) ≡ Some (Symbol c.in-Some-first_in.at)) c.self.view_is
    (at_hand w.p (next_at c.args.index s) c.args.index f.entry (Some (Symbol c.in-Some-first_in.at)) refl f.there
    (searched_first w.p s.current.drop c.args.index _ (shape_of w.p f.entry.object) (Some c.in-Some-first_in.at) none begins (some_of r e c.auto_of.ensures.range f.stands)
    (c.in-Some-first_in.ensures.next r f.stands (sym c.auto_of.ensures.exact))))

pub returns-in-None-clause-exact : goal.returns-in-None-clause-exact
returns-in-None-clause-exact c = λ s stands lt.
    let w = window_view c.self.inside in
    let e = c.in-Some.entry.now in
    let here = subst (λ (v : WindowState). Stands v s) (sym c.self.view_is) stands in
    let f = found w s c.args.index e here c.in-Some.ensures in
    let r = entry_reads w (reads s) c.args.index f.entry.object in
    let none : (shape_of w.p f.entry.object).info ≡ false = ap (λ (x : Shape). x.info) (shape_is r e f.stands) ∙ info_is e ∙ sym c.has_info.ensures ∙ c.if-has_info.false in
    let begins = subst (BeginsAt s.current.drop c.args.index) (sym f.first) (begins_at s c.args.index f.low) in
    subst (λ (v : WindowState). next_new v.p (next_at c.args.index s) ≡ next_new v.p (next_at (c.args.index + 1) s)) c.self.view_is
    (at_hand w.p (next_at c.args.index s) c.args.index f.entry None refl f.there
    (searched_first w.p s.current.drop c.args.index _ (shape_of w.p f.entry.object) None none begins (some_of r e c.auto_of.ensures.range f.stands)
    (c.in-None.ensures.next r f.stands (sym c.auto_of.ensures.exact))))
