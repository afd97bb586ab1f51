use Rattle.std.proofs.Common.{◌≡◌, ◌+◌, ◌-◌, ◌<◌, ap, sym, subst, ◌∙◌, arith, Some, length}
use Rattle.std.specs.Prelude.{slice_get, is_some}
use Rattle.tx_object.proofs.ListLemmas.{get_there}
use Rattle.norm_send_rules.specs.Enqueuing.{open_parts}
use Rattle.norm_send_rules.specs.InWindow.{last_index}
use Rattle.tx_window.specs.WindowState.{reads, WindowState, Stands, entry_reads}
use Rattle.tx_window.specs.WindowSound.{window_view}
use Rattle.tx_window.proofs.FaultLemmas.{none_open, last_found, not_some}
use Rattle.tx_window.proofs.window.Window.open_index.Goals as goal

pub returns-then-is_empty : goal.returns-then-is_empty
returns-then-is_empty c = λ s stands.
    let here = subst (λ (v : WindowState). Stands v s) (sym c.self.view_is) stands in
    none_open (window_view c.self.inside) s here (let none : length c.self.inside.held.items ≡ 0 = grind (arith, c.is_empty.ensures, c.if-is_empty.true) in none)

pub returns-then-not-is_open : goal.returns-then-not-is_open
returns-then-not-is_open c = λ s stands.
    let w = window_view c.self.inside in
    let here = subst (λ (v : WindowState). Stands v s) (sym c.self.view_is) stands in
    let es = c.self.inside.held.items in
    let e = c.index-entry.result.now in
    let some : 0 < length es = grind (arith, c.is_empty.ensures, c.if-is_empty.false) in
    let at : c.len-place.result - 1 ≡ length es - 1 = omega (arith, c.len-place.ensures) in
    let there : slice_get es (length es - 1) ≡ Some e = ap (slice_get es) (sym at) ∙ get_there es (c.len-place.result - 1) e (omega (arith, at, some)) c.index-entry.ensures in
    let last = last_found w s e here some there in
    last.opened ∙ not_some (open_parts last.found.entry.object) (sym (c.is_open.ensures (entry_reads w (reads s) (w.dropped + (length es - 1)) last.found.entry.object) last.found.stands) ∙ c.if-not-is_open.true)

pub returns : goal.returns
returns c = λ s stands.
    let w = window_view c.self.inside in
    let here = subst (λ (v : WindowState). Stands v s) (sym c.self.view_is) stands in
    let es = c.self.inside.held.items in
    let e = c.index-entry.result.now in
    let some : 0 < length es = grind (arith, c.is_empty.ensures, c.if-is_empty.false) in
    let at : c.len-place.result - 1 ≡ length es - 1 = omega (arith, c.len-place.ensures) in
    let there : slice_get es (length es - 1) ≡ Some e = ap (slice_get es) (sym at) ∙ get_there es (c.len-place.result - 1) e (omega (arith, at, some)) c.index-entry.ensures in
    let last = last_found w s e here some there in
    let index : c.self.inside.dropped + (c.len-place.result - 1) ≡ last_index s = omega (arith, at, last.index) in
    (ap is_some last.opened ∙ sym (c.is_open.ensures (entry_reads w (reads s) (w.dropped + (length es - 1)) last.found.entry.object) last.found.stands) ∙ c.if-not-is_open.false, index)
