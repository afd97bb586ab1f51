use Rattle.std.proofs.Common.{◌≡◌, ◌+◌, ◌-◌, ◌*◌, ◌<◌, ◌≤◌, ap, sym, subst, ◌∙◌, arith, Some, length}
use Rattle.std.specs.Prelude.{slice_get, min}
use Rattle.tx_object.proofs.ListLemmas.{get_there}
use Rattle.norm_order.specs.Entries.{Object, Stream}
use Rattle.norm_order.specs.Shapes.{shape_of}
use Rattle.norm_send_rules.specs.InWindow.{last_index}
use Rattle.norm_send_rules.specs.Room.{first_kept}
use Rattle.tx_window.specs.WindowState.{reads, WindowState, Stands, entry_reads}
use Rattle.tx_window.specs.WindowSound.{window_view}
use Rattle.tx_window.proofs.KeptLemmas.{dropped_is}
use Rattle.tx_window.proofs.FaultLemmas.{last_found}
use Rattle.tx_window.proofs.StreamLemmas.{in_room}
use Rattle.tx_window.proofs.window.Window.segments.Goals as goal

pub returns-then-is_empty-clause-exact : goal.returns-then-is_empty-clause-exact
returns-then-is_empty-clause-exact c = λ s parts stands ends.
    let w = window_view c.self.inside in
    let here = subst (λ (v : WindowState). Stands v s) (sym c.self.view_is) stands in
    let none : length c.self.inside.held.items ≡ 0 = grind (arith, c.is_empty.ensures, c.if-is_empty.true) in
    absurd (omega (arith, none, here.next, dropped_is w s here, ends.kept))

pub returns-then-is_empty-clause-room : goal.returns-then-is_empty-clause-room
returns-then-is_empty-clause-room c = λ s parts stands ends. omega arith

pub returns-clause-exact : goal.returns-clause-exact
returns-clause-exact c = λ s parts stands ends.
    let w = window_view c.self.inside in
    let here = subst (λ (v : WindowState). Stands v s) (sym c.self.view_is) stands in
    let es = c.self.inside.held.items in
    let e = c.index-entry.result.now in
    let some : 0 < length es = grind (arith, c.is_empty.ensures, c.if-is_empty.false) in
    let at : c.len-place.result - 1 ≡ length es - 1 = omega (arith, c.len-place.ensures) in
    let there : slice_get es (length es - 1) ≡ Some e = ap (slice_get es) (sym at) ∙ get_there es (c.len-place.result - 1) e (omega (arith, at, some)) c.index-entry.ensures in
    let last = last_found w s e here some there in
    let object : last.found.entry.object ≡ Stream parts = ends.last last.found.entry (ap (slice_get s.current.order) (sym last.index) ∙ last.found.there) in
    c.segments.ensures (entry_reads w (reads s) (w.dropped + (length es - 1)) last.found.entry.object) parts last.found.stands object
    ∙ ap (λ (o : Object). (shape_of w.p o).closed) object
    ∙ ap (λ (v : WindowState). (shape_of v.p (Stream parts)).closed) c.self.view_is

pub returns-clause-room : goal.returns-clause-room
returns-clause-room c = λ s parts stands ends.
    let w = window_view c.self.inside in
    let here = subst (λ (v : WindowState). Stands v s) (sym c.self.view_is) stands in
    let es = c.self.inside.held.items in
    let e = c.index-entry.result.now in
    let some : 0 < length es = grind (arith, c.is_empty.ensures, c.if-is_empty.false) in
    let at : c.len-place.result - 1 ≡ length es - 1 = omega (arith, c.len-place.ensures) in
    let there : slice_get es (length es - 1) ≡ Some e = ap (slice_get es) (sym at) ∙ get_there es (c.len-place.result - 1) e (omega (arith, at, some)) c.index-entry.ensures in
    let last = last_found w s e here some there in
    let object : last.found.entry.object ≡ Stream parts = ends.last last.found.entry (ap (slice_get s.current.order) (sym last.index) ∙ last.found.there) in
    let r = entry_reads w (reads s) (w.dropped + (length es - 1)) last.found.entry.object in
    let many : (shape_of w.p (Stream parts)).closed ≡ c.segments.result =
    sym (c.segments.ensures r parts last.found.stands object ∙ ap (λ (o : Object). (shape_of w.p o).closed) object) in
    let room = c.fits.ensures.segments r parts last.found.stands object in
    let first = last.found.first ∙ ap (first_kept s) last.index in
    subst (λ (v : WindowState). c.segments.result ≤ min (first_kept s (last_index s) + v.p.blocks) 16777216 * v.p.b) c.self.view_is
    (subst (λ n. n ≤ min (first_kept s (last_index s) + w.p.blocks) 16777216 * w.p.b) many
    (in_room (shape_of w.p (Stream parts)).closed (first_kept s (last_index s) + w.p.blocks) 16777216 w.p.b
    (subst (λ f. (shape_of w.p (Stream parts)).closed ≤ (f + w.p.blocks) * w.p.b) first room.0) room.1))
