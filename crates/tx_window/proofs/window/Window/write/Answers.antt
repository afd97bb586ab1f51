use Rattle.std.proofs.Common.{◌≡◌, ◌+◌, ◌-◌, ap, sym, subst, ◌∙◌, refl, arith, Some, None, Err, Ok, List, [], ◌∷◌, ◌++◌, length}
use Rattle.std.specs.Prelude.{option_to_list}
use Rattle.norm_order.specs.Entries.{Write, Stream}
use Rattle.norm_order.specs.Segments.{written}
use Rattle.norm_send_rules.specs.InWindow.{last_index}
use Rattle.norm_send_rules.specs.Room.{window}
use Rattle.norm_send_rules.specs.Streaming.{parts_now}
use Rattle.tx_window.specs.EntryState.{reads_of}
use Rattle.tx_window.specs.declared.entry.HeldEntry.{HeldEntry}
use Rattle.tx_window.specs.WindowState.{WindowState, Stands}
use Rattle.tx_window.specs.WindowSound.{window_view, objects_in}
use Rattle.tx_window.specs.Streams.{write_size_fault, followed, IsWritten}
use Rattle.tx_window.proofs.KeptLemmas.{are_entries}
use Rattle.tx_window.proofs.ObjectsLemmas.{alike, sizes_stay, placed_stay, row_stays}
use Rattle.tx_window.proofs.StreamLemmas.{outcome, write_by, write_refused, write_done, last_followed}
use Rattle.tx_window.proofs.window.Window.write.Goals as goal

pub returns-in-Some-clause-written : goal.returns-in-Some-clause-written
returns-in-Some-clause-written c = λ s by stands.
    write_refused c.args.self.now s by c.args.bytes.now c.in-Some.fault stands
    (write_by c.args.self.now.p s c.args.bytes.now (parts_now s ++ Write by c.args.bytes.now ∷ []) (Some c.in-Some.fault)
    (sym c.in-Some.is ∙ c.write_size_fault.ensures.exact ∙ ap (λ (v : WindowState). write_size_fault v.p (length c.args.bytes.now)) c.self.view_is))

pub invariant_of-self : goal.invariant_of-self
invariant_of-self c =
    let w = c.self.inside in
    let old = c.self.invariant in
    let stay = c.write_last.ensures.stays in
    let new = c.write_last.new.held.items in
    let same = alike w.held.items new stay in
    record {
      ring_long = old.ring_long;
      octets = omega (arith, old.octets, sizes_stay w.profile w.held.items new stay);
      fit = old.fit;
      few = omega (arith, old.few, stay.long);
      row = row_stays w.ring w.profile (objects_in w.held.items) (objects_in new) (option_to_list w.begun) w.free same old.row;
      placed = placed_stay w.ring w.profile (objects_in w.held.items) (objects_in new) same old.placed;
      filling = old.filling;
      room = λ h e. omega (arith, stay.long, c.write_last.ensures.room, old.room h e);
      counted = omega (arith, old.counted, stay.long);
      sized = old.sized;
      numbered = omega (arith, old.numbered, stay.long);
    }

pub invariant_of-self-in-Err : goal.invariant_of-self-in-Err
invariant_of-self-in-Err c =
    let w = c.self.inside in
    let old = c.self.invariant in
    let stay = c.write_last.ensures.stays in
    let new = c.write_last.new.held.items in
    let same = alike w.held.items new stay in
    record {
      ring_long = old.ring_long;
      octets = omega (arith, old.octets, sizes_stay w.profile w.held.items new stay);
      fit = old.fit;
      few = omega (arith, old.few, stay.long);
      row = row_stays w.ring w.profile (objects_in w.held.items) (objects_in new) (option_to_list w.begun) w.free same old.row;
      placed = placed_stay w.ring w.profile (objects_in w.held.items) (objects_in new) same old.placed;
      filling = old.filling;
      room = λ h e. omega (arith, stay.long, c.write_last.ensures.room, old.room h e);
      counted = omega (arith, old.counted, stay.long);
      sized = old.sized;
      numbered = omega (arith, old.numbered, stay.long);
    }

pub returns-in-Ok-clause-written : goal.returns-in-Ok-clause-written
returns-in-Ok-clause-written c = λ s by stands.
    let w = window_view c.self.inside in
    let here = subst (λ (v : WindowState). Stands v s) (sym c.self.view_is) stands in
    let octets = c.args.bytes.now in
    let new = c.write_last.new.held.items in
    let more = Write by octets ∷ [] in
    let sizes = sym c.in_default.is ∙ c.write_size_fault.ensures.exact in
    let on = outcome w s new more (λ parts. length (written parts)) (Ok c.in-Ok.offset) here (omega (arith, c.hold_range.ensures.e.0)) (c.in-Ok.ensures.goes w.ring s (window s) by (are_entries w s here) here.past) in
    let long = c.write_last.ensures.stays.long in
    let index : c.follow.result ≡ last_index s = omega (arith, c.follow.ensures.index (omega (arith, on.some, long)), long, here.next, on.some) in
    let there = last_followed w new on.now on.some on.entries in
    let next = c.follow.ensures.follows (reads_of w.ring w.p (w.dropped + (length w.entries - 1)) (Stream (on.parts ++ more)) s) (on.parts ++ more) on.now there on.entry refl refl
    ∙ ap (λ (es : List HeldEntry). followed on.now (Rattle.norm_order.specs.Shapes.shape_of w.p (Stream (on.parts ++ more))) (let v : WindowState = record w { entries = es } in v)) on.entries in
    subst (λ (v : WindowState). IsWritten v.p s by octets (Ok (c.follow.result, c.in-Ok.offset)) c.follow.new.self) c.self.view_is
    (write_done w c.follow.new.self s by octets new c.follow.result c.in-Ok.offset on sizes index next)

pub returns-in-Err-clause-written : goal.returns-in-Err-clause-written
returns-in-Err-clause-written c = λ s by stands.
    let w = window_view c.self.inside in
    let here = subst (λ (v : WindowState). Stands v s) (sym c.self.view_is) stands in
    let octets = c.args.bytes.now in
    let new = c.write_last.new.held.items in
    let more = Write by octets ∷ [] in
    let sizes = sym c.in_default.is ∙ c.write_size_fault.ensures.exact in
    let refused = outcome w s new more (λ parts. length (written parts)) (Err c.in-Err.fault) here (omega (arith, c.hold_range.ensures.e.0)) (c.in-Err.ensures.goes w.ring s (window s) by (are_entries w s here) here.past) in
    let result = write_refused w s by octets c.in-Err.fault here (write_by w.p s octets (parts_now s ++ more) None sizes ∙ refused) in
    subst (λ (v : WindowState). IsWritten v.p s by octets (Err c.in-Err.fault) (let u : WindowState = record w { entries = new } in u)) c.self.view_is
    (subst (λ (es : List HeldEntry). IsWritten w.p s by octets (Err c.in-Err.fault) (let v : WindowState = record w { entries = es } in v)) (sym c.in-Err.ensures.refused) result)
