use Rattle.std.proofs.Common.{◌+◌, ◌-◌, ap, sym, subst, ◌∙◌, refl, arith, List, length}
use Rattle.std.specs.Prelude.{option_to_list}
use Rattle.norm_send_rules.specs.Streaming.{cut}
use Rattle.tx_window.specs.EntryState.{reads_of}
use Rattle.tx_window.specs.declared.entry.HeldEntry.{HeldEntry}
use Rattle.tx_window.specs.WindowState.{WindowState, Stands}
use Rattle.tx_window.specs.WindowSound.{window_view, objects_in}
use Rattle.tx_window.specs.Asked.{IsOpenAt}
use Rattle.tx_window.specs.Streams.{followed}
use Rattle.tx_window.proofs.ObjectsLemmas.{alike, sizes_stay, placed_stay, row_stays}
use Rattle.norm_order.specs.Entries.{Stream}
use Rattle.norm_send_rules.specs.SenderState.{SenderState}
use Rattle.stream_buffer.specs.StreamState.{with_cut}
use Rattle.tx_window.proofs.StreamLemmas.{cut_none, cut_outcome, last_followed}
use Rattle.tx_window.proofs.window.Window.cut.Goals as goal

pub invariant_of-self : goal.invariant_of-self
invariant_of-self c =
    let w = c.self.inside in
    let old = c.self.invariant in
    let stay = c.cut_last.ensures.stays in
    let new = c.cut_last.new.held.items in
    let same = alike w.held.items new stay in
    record {
      ring_long = old.ring_long;
      octets = omega (arith, old.octets, sizes_stay w.profile w.held.items new stay);
      fit = old.fit;
      few = omega (arith, old.few, stay.long);
      row = row_stays w.ring w.profile (objects_in w.held.items) (objects_in new) (option_to_list w.begun) w.free same old.row;
      placed = placed_stay w.ring w.profile (objects_in w.held.items) (objects_in new) same old.placed;
      filling = old.filling;
      room = λ h e. omega (arith, stay.long, c.cut_last.ensures.room, old.room h e);
      counted = omega (arith, old.counted, stay.long);
      sized = old.sized;
      numbered = omega (arith, old.numbered, stay.long);
    }

pub returns-in_default-clause-stands : goal.returns-in_default-clause-stands
returns-in_default-clause-stands c = λ s stands.
    let none = subst (IsOpenAt s) c.in_default.is (c.open_index.ensures s stands) in
    subst (λ (t : SenderState). Stands c.args.self.now t) (sym (cut_none c.args.self.now.p s none)) stands

pub returns-clause-stands : goal.returns-clause-stands
returns-clause-stands c = λ s stands.
    let w = window_view c.self.inside in
    let here = subst (λ (v : WindowState). Stands v s) (sym c.self.view_is) stands in
    let opened = (subst (IsOpenAt s) c.in-Some.is (c.open_index.ensures s stands)).0 in
    let on = cut_outcome w s c.cut_last.new.held.items here (omega (arith, c.hold_range.ensures.e.0)) opened c.cut_last.ensures.cut in
    let there = last_followed w c.cut_last.new.held.items on.now on.some on.entries in
    let next = c.follow.ensures.follows (reads_of w.ring w.p (w.dropped + (length w.entries - 1)) (Stream (with_cut w.p.e on.parts)) s) (with_cut w.p.e on.parts) on.now there on.entry refl refl
    ∙ ap (λ (es : List HeldEntry). followed on.now (Rattle.norm_order.specs.Shapes.shape_of w.p (Stream (with_cut w.p.e on.parts))) (let v : WindowState = record w { entries = es } in v)) on.entries in
    subst (λ (v : WindowState). Stands c.follow.new.self (cut v.p s)) c.self.view_is
    (subst (λ (v : WindowState). Stands v (cut w.p s)) (sym next) on.stands)
