use Rattle.std.proofs.Common.{◌≡◌, ◌+◌, ◌-◌, ◌<◌, ap, sym, subst, ◌∙◌, arith, Some, Option, length}
use Rattle.std.specs.Prelude.{slice_get}
use Rattle.fec_plan.specs.declared.position.Position.{Position}
use Rattle.tx_object.proofs.ListLemmas.{get_there}
use Rattle.norm_order.specs.Entries.{Stream}
use Rattle.norm_order.specs.Shapes.{shape_of, last_source, last_in}
use Rattle.norm_send_rules.specs.SenderState.{SenderState}
use Rattle.norm_send_rules.specs.InWindow.{current_shapes, last_index}
use Rattle.norm_send_rules.specs.Enqueuing.{open_parts}
use Rattle.norm_send_rules.specs.Streaming.{cut}
use Rattle.stream_buffer.specs.StreamState.{with_cut}
use Rattle.tx_window.specs.WindowState.{reads, WindowState, Stands, entry_reads}
use Rattle.tx_window.specs.WindowSound.{window_view}
use Rattle.tx_window.specs.Streams.{last_or}
use Rattle.tx_window.proofs.FaultLemmas.{none_open, last_found, not_some}
use Rattle.tx_window.proofs.StreamLemmas.{cut_none, last_if_cut, open_is, stream_is}
use Rattle.tx_window.proofs.window.Window.end_cut.Goals as goal

pub returns-then-is_empty : goal.returns-then-is_empty
returns-then-is_empty c = λ s stands.
    let w = window_view c.self.inside in
    let here = subst (λ (v : WindowState). Stands v s) (sym c.self.view_is) stands in
    let none = none_open w s here (let none : length c.self.inside.held.items ≡ 0 = grind (arith, c.is_empty.ensures, c.if-is_empty.true) in none) in
    subst (λ (v : WindowState). w.last ≡ last_source (current_shapes v.p (cut v.p s))) c.self.view_is
    (sym here.last ∙ ap (λ (t : SenderState). last_source (current_shapes w.p t)) (sym (cut_none w.p s none)))

pub returns-then-not-is_open : goal.returns-then-not-is_open
returns-then-not-is_open c = λ s stands.
    let w = window_view c.self.inside in
    let here = subst (λ (v : WindowState). Stands v s) (sym c.self.view_is) stands in
    let es = c.self.inside.held.items in
    let e = c.index-entry.result.now in
    let some : 0 < length es = grind (arith, c.is_empty.ensures, c.if-is_empty.false) in
    let at : c.len-place.result - 1 ≡ length es - 1 = omega (arith, c.len-place.ensures) in
    let there : slice_get es (length es - 1) ≡ Some e = ap (slice_get es) (sym at) ∙ get_there es (c.len-place.result - 1) e (omega (arith, at, some)) c.index-entry.ensures in
    let last = last_found w s e here some there in
    let none = last.opened ∙ not_some (open_parts last.found.entry.object) (sym (c.is_open.ensures (entry_reads w (reads s) (w.dropped + (length es - 1)) last.found.entry.object) last.found.stands) ∙ c.if-not-is_open.true) in
    subst (λ (v : WindowState). w.last ≡ last_source (current_shapes v.p (cut v.p s))) c.self.view_is
    (sym here.last ∙ ap (λ (t : SenderState). last_source (current_shapes w.p t)) (sym (cut_none w.p s none)))

pub returns : goal.returns
returns c = λ s stands.
    let w = window_view c.self.inside in
    let here = subst (λ (v : WindowState). Stands v s) (sym c.self.view_is) stands in
    let es = c.self.inside.held.items in
    let e = c.index-entry.result.now in
    let some : 0 < length es = grind (arith, c.is_empty.ensures, c.if-is_empty.false) in
    let at : c.len-place.result - 1 ≡ length es - 1 = omega (arith, c.len-place.ensures) in
    let there : slice_get es (length es - 1) ≡ Some e = ap (slice_get es) (sym at) ∙ get_there es (c.len-place.result - 1) e (omega (arith, at, some)) c.index-entry.ensures in
    let last = last_found w s e here some there in
    let index : c.self.inside.dropped + (c.len-place.result - 1) ≡ last_index s = omega (arith, at, last.index) in
    let r = entry_reads w (reads s) (w.dropped + (length es - 1)) last.found.entry.object in
    let opened = open_is (open_parts last.found.entry.object) (sym (c.is_open.ensures r last.found.stands) ∙ c.if-not-is_open.false) in
    let object = (stream_is last.found.entry.object opened.0 opened.1).0 in
    subst (λ (v : WindowState). c.last_of.result ≡ last_source (current_shapes v.p (cut v.p s))) c.self.view_is
    (c.last_of.ensures
    ∙ ap (λ (q : Option Position). last_or q w.last)
    (c.last_cut.ensures r opened.0 last.found.stands object ∙ ap (λ n. last_in n (shape_of w.p (Stream (with_cut w.p.e opened.0)))) index)
    ∙ sym (last_if_cut w s e opened.0 here some (omega (arith, c.hold_range.ensures.e.0)) last opened.1))
