use Rattle.std.proofs.Common.{◌≡◌, ◌+◌, ◌-◌, ap, sym, subst, ◌∙◌, refl, arith, Err, Ok, List, [], ◌∷◌, ◌++◌, length}
use Rattle.std.specs.Prelude.{option_to_list}
use Rattle.norm_order.specs.Entries.{End, Stream}
use Rattle.norm_send_rules.specs.InWindow.{last_index}
use Rattle.norm_send_rules.specs.Room.{window}
use Rattle.tx_window.specs.EntryState.{reads_of}
use Rattle.tx_window.specs.declared.entry.HeldEntry.{HeldEntry}
use Rattle.tx_window.specs.WindowState.{WindowState, Stands}
use Rattle.tx_window.specs.WindowSound.{window_view, objects_in}
use Rattle.tx_window.specs.Streams.{followed, IsClosed}
use Rattle.tx_window.proofs.KeptLemmas.{are_entries}
use Rattle.tx_window.proofs.ObjectsLemmas.{alike, sizes_stay, placed_stay, row_stays}
use Rattle.tx_window.proofs.StreamLemmas.{outcome, close_refused, close_done, last_followed}
use Rattle.tx_window.proofs.window.Window.close_stream.Goals as goal

pub invariant_of-self : goal.invariant_of-self
invariant_of-self c =
    let w = c.self.inside in
    let old = c.self.invariant in
    let stay = c.close_last.ensures.stays in
    let new = c.close_last.new.held.items in
    let same = alike w.held.items new stay in
    record {
      ring_long = old.ring_long;
      octets = omega (arith, old.octets, sizes_stay w.profile w.held.items new stay);
      fit = old.fit;
      few = omega (arith, old.few, stay.long);
      row = row_stays w.ring w.profile (objects_in w.held.items) (objects_in new) (option_to_list w.begun) w.free same old.row;
      placed = placed_stay w.ring w.profile (objects_in w.held.items) (objects_in new) same old.placed;
      filling = old.filling;
      room = λ h e. omega (arith, stay.long, c.close_last.ensures.room, old.room h e);
      counted = omega (arith, old.counted, stay.long);
      sized = old.sized;
      numbered = omega (arith, old.numbered, stay.long);
    }

pub invariant_of-self-in-Err : goal.invariant_of-self-in-Err
invariant_of-self-in-Err c =
    let w = c.self.inside in
    let old = c.self.invariant in
    let stay = c.close_last.ensures.stays in
    let new = c.close_last.new.held.items in
    let same = alike w.held.items new stay in
    record {
      ring_long = old.ring_long;
      octets = omega (arith, old.octets, sizes_stay w.profile w.held.items new stay);
      fit = old.fit;
      few = omega (arith, old.few, stay.long);
      row = row_stays w.ring w.profile (objects_in w.held.items) (objects_in new) (option_to_list w.begun) w.free same old.row;
      placed = placed_stay w.ring w.profile (objects_in w.held.items) (objects_in new) same old.placed;
      filling = old.filling;
      room = λ h e. omega (arith, stay.long, c.close_last.ensures.room, old.room h e);
      counted = omega (arith, old.counted, stay.long);
      sized = old.sized;
      numbered = omega (arith, old.numbered, stay.long);
    }

pub returns-in-Ok-clause-closed : goal.returns-in-Ok-clause-closed
returns-in-Ok-clause-closed c = λ s stands.
    let w = window_view c.self.inside in
    let here = subst (λ (v : WindowState). Stands v s) (sym c.self.view_is) stands in
    let new = c.close_last.new.held.items in
    let more = End ∷ [] in
    let on = outcome w s new more (λ parts. tt) (Ok c.in-Ok.field-0) here (omega (arith, c.hold_range.ensures.e.0)) (c.in-Ok.ensures.goes w.ring s (window s) (are_entries w s here) here.past) in
    let long = c.close_last.ensures.stays.long in
    let index : c.follow.result ≡ last_index s = omega (arith, c.follow.ensures.index (omega (arith, on.some, long)), long, here.next, on.some) in
    let there = last_followed w new on.now on.some on.entries in
    let next = c.follow.ensures.follows (reads_of w.ring w.p (w.dropped + (length w.entries - 1)) (Stream (on.parts ++ more)) s) (on.parts ++ more) on.now there on.entry refl refl
    ∙ ap (λ (es : List HeldEntry). followed on.now (Rattle.norm_order.specs.Shapes.shape_of w.p (Stream (on.parts ++ more))) (let v : WindowState = record w { entries = es } in v)) on.entries in
    subst (λ (v : WindowState). IsClosed v.p s (Ok c.follow.result) c.follow.new.self) c.self.view_is
    (close_done w c.follow.new.self s new c.follow.result (λ parts. tt) c.in-Ok.field-0 on index next)

pub returns-in-Err-clause-closed : goal.returns-in-Err-clause-closed
returns-in-Err-clause-closed c = λ s stands.
    let w = window_view c.self.inside in
    let here = subst (λ (v : WindowState). Stands v s) (sym c.self.view_is) stands in
    let new = c.close_last.new.held.items in
    let more = End ∷ [] in
    let refused = outcome w s new more (λ parts. tt) (Err c.in-Err.fault) here (omega (arith, c.hold_range.ensures.e.0)) (c.in-Err.ensures.goes w.ring s (window s) (are_entries w s here) here.past) in
    let result = close_refused w s c.in-Err.fault here refused in
    subst (λ (v : WindowState). IsClosed v.p s (Err c.in-Err.fault) (let u : WindowState = record w { entries = new } in u)) c.self.view_is
    (subst (λ (es : List HeldEntry). IsClosed w.p s (Err c.in-Err.fault) (let v : WindowState = record w { entries = es } in v)) (sym c.in-Err.ensures.refused) result)
