use Rattle.std.proofs.Common.{◌≡◌, ◌-◌, sym, subst, arith}
use Rattle.std.specs.Prelude.{Some, slice_get, slice_set, option_to_list}
use Rattle.std.proofs.lemmas.List.{length-set}
use Rattle.tx_window.proofs.EntryFronts.{one_stays}
use Rattle.tx_object.proofs.ListLemmas.{get_there}
use Rattle.tx_window.specs.WindowState.{WindowState, Stands, IsInWindow}
use Rattle.tx_window.specs.WindowSound.{window_view, objects_in}
use Rattle.tx_window.proofs.ObjectsLemmas.{alike, sizes_stay, placed_stay, row_stays}
use Rattle.tx_window.proofs.StandingLemmas.{stands_info}
use Rattle.tx_window.proofs.window.Window.note_info.Goals as goal

pub invariant_of-self : goal.invariant_of-self
invariant_of-self c =
    let w = c.self.inside in
    let old = c.self.invariant in
    let here = subst (λ (v : WindowState). IsInWindow v c.args.index) (sym c.self.view_is) c.requires in
    let there : slice_get w.held.items (c.args.index - w.dropped) ≡ Some c.index_mut.result.now = get_there w.held.items (c.args.index - w.dropped) c.index_mut.result.now (omega (arith, here.behind, here.before)) c.index_mut.ensures.value in
    let i = c.args.index - w.dropped in
    let stay = one_stays w.held.items i c.index_mut.result.now c.note_info.new.self there c.note_info.ensures.stays in
    let same = alike w.held.items (slice_set w.held.items i c.note_info.new.self) stay in
    record {
      ring_long = old.ring_long;
      octets = omega (arith, old.octets, sizes_stay w.profile w.held.items (slice_set w.held.items i c.note_info.new.self) stay);
      fit = old.fit;
      few = omega (arith, old.few, length-set w.held.items i c.note_info.new.self);
      row = row_stays w.ring w.profile (objects_in w.held.items) (objects_in (slice_set w.held.items i c.note_info.new.self)) (option_to_list w.begun) w.free same old.row;
      placed = placed_stay w.ring w.profile (objects_in w.held.items) (objects_in (slice_set w.held.items i c.note_info.new.self)) same old.placed;
      filling = old.filling;
      room = λ h e. omega (arith, length-set w.held.items i c.note_info.new.self, old.room h e);
      counted = omega (arith, old.counted, length-set w.held.items i c.note_info.new.self);
      sized = old.sized;
      numbered = omega (arith, old.numbered, length-set w.held.items i c.note_info.new.self);
    }

pub returns-clause-stands : goal.returns-clause-stands
returns-clause-stands c = λ s stands.
    let w = c.self.inside in
    let here = subst (λ (v : WindowState). IsInWindow v c.args.index) (sym c.self.view_is) c.requires in
    let there : slice_get w.held.items (c.args.index - w.dropped) ≡ Some c.index_mut.result.now = get_there w.held.items (c.args.index - w.dropped) c.index_mut.result.now (omega (arith, here.behind, here.before)) c.index_mut.ensures.value in
    let low = here.behind in
    stands_info (window_view w) s (c.args.index - w.dropped) c.index_mut.result.now c.note_info.new.self c.args.index there c.note_info.ensures.first (omega (arith, low))
    c.note_info.ensures.noted (subst (λ (v : WindowState). Stands v s) (sym c.self.view_is) stands)
