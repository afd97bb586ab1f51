use Rattle.std.proofs.Common.{◌≡◌, ◌+◌, ◌-◌, ◌<◌, ◌≤◌, ◌++◌, ap, sym, subst, ◌∙◌, refl, arith, Some, None, Option, ℕ, zero, suc, List, [], ◌∷◌, length, drop, map}
use Rattle.std.specs.Prelude.{slice_get, slice_set, option_to_list, option_map}
use Rattle.std.proofs.lemmas.List.{length-set, append-nil}
use Rattle.norm_base.specs.Settings.{Settings}
use Rattle.fec_plan.specs.Points.{Position}
use Rattle.norm_order.specs.Shapes.{shape_of, last_in}
use Rattle.tx_window.specs.EntryState.{first_of, StandsFor as StandsForEntry}
use Rattle.tx_object.specs.Held.{HeldObject}
use Rattle.tx_object.proofs.ListLemmas.{get_there}
use Rattle.tx_window.specs.EntryPlaces.{held_size}
use Rattle.tx_window.specs.declared.entry.HeldEntry.{HeldEntry}
use Rattle.tx_window.specs.WindowState.{without_info, WindowState}
use Rattle.tx_window.specs.Rows.{all_octets, filling_in, IsRow}
use Rattle.tx_window.proofs.ListLemmas.{slice_get-drop}
use Rattle.tx_window.proofs.BeginningLemmas.{placed_cut}
use Rattle.tx_window.specs.Extents.{shape_of_extent, IsSized}
use Rattle.tx_window.specs.WindowSound.{window_view, all_sizes, objects_in, all_kept}
use Rattle.tx_window.specs.Streams.{followed, last_or}
use Rattle.tx_window.specs.declared.extent.Extent.{Extent}
use Rattle.tx_window.specs.declared.extent.Extent.TheVariants as extent
use Rattle.tx_window.proofs.RoomLemmas.{sizes_cons, left_behind, sizes_fewer}
use Rattle.tx_window.proofs.ObjectsLemmas.{gone_of, objects_dropped, row_fewer}
use Rattle.tx_window.proofs.ExtentLemmas.{sized_set, shapes_set}
use Rattle.tx_window.proofs.StreamLemmas.{followed_kept, followed_gone, stream_shape}
use Rattle.tx_window.proofs.window.Window.follow.Goals as goal

same_entry : (a b : HeldEntry) → Some a ≡ Some b → a ≡ b
same_entry a b g = cc

pub returns-then-first-eq0-clause-follows : goal.returns-then-first-eq0-clause-follows
returns-then-first-eq0-clause-follows c = λ r parts e at stands stream p-is.
    let w = window_view c.self.inside in
    let i = c.self.inside in
    let es = i.held.items in
    let entry = c.index-entry.result.now in
    let some : 0 < length es = grind (arith, c.is_empty.ensures, c.if-is_empty.false) in
    let place : c.len-place.result - 1 ≡ length es - 1 = omega (arith, c.len-place.ensures) in
    let there : slice_get es (length es - 1) ≡ Some entry = ap (slice_get es) (sym place) ∙ get_there es (c.len-place.result - 1) entry (omega (arith, place, some)) c.index-entry.ensures in
    let here : slice_get es (length es - 1) ≡ Some e = subst (λ (v : WindowState). slice_get v.entries (length v.entries - 1) ≡ Some e) (sym c.self.view_is) at in
    let same : entry ≡ e = same_entry entry e (sym there ∙ here) in
    let stood = subst (StandsForEntry r) (sym same) stands in
    let p-here : r.p ≡ w.p = p-is ∙ sym (ap (λ (v : WindowState). v.p) c.self.view_is) in
    let shape = shape_of r.p r.object in
    let shapes : map (shape_of_extent w.p) c.set_last.new.extents.items ≡ slice_set w.shapes (length w.shapes - 1) (without_info shape) =
    ap (map (shape_of_extent w.p)) c.set_last.ensures.items
    ∙ shapes_set w.p i.extents.items c.segments-segments.result shape (stream_shape w.p r.p r.object parts c.segments-segments.result p-here stream (c.segments-segments.ensures r parts stood stream)) in
    let last : c.last_of-last.result ≡ last_or (last_in (w.dropped + (length es - 1)) shape) w.last =
    c.last_of-last.ensures ∙ ap (λ (q : Option Position). last_or q w.last) (c.last.ensures r stood ∙ ap (λ n. last_in (w.dropped + n) shape) place) in
    followed_kept w e shape _ _ (ap first_of (sym same) ∙ sym c.first_block-first.ensures ∙ c.if-first-eq0.true) shapes last
    ∙ ap (followed e shape) c.self.view_is

pub returns-clause-follows : goal.returns-clause-follows
returns-clause-follows c = λ r parts e at stands stream p-is.
    let w = window_view c.self.inside in
    let i = c.self.inside in
    let es = i.held.items in
    let entry = c.index-entry.result.now in
    let some : 0 < length es = grind (arith, c.is_empty.ensures, c.if-is_empty.false) in
    let place : c.len-place.result - 1 ≡ length es - 1 = omega (arith, c.len-place.ensures) in
    let there : slice_get es (length es - 1) ≡ Some entry = ap (slice_get es) (sym place) ∙ get_there es (c.len-place.result - 1) entry (omega (arith, place, some)) c.index-entry.ensures in
    let here : slice_get es (length es - 1) ≡ Some e = subst (λ (v : WindowState). slice_get v.entries (length v.entries - 1) ≡ Some e) (sym c.self.view_is) at in
    let same : entry ≡ e = same_entry entry e (sym there ∙ here) in
    let stood = subst (StandsForEntry r) (sym same) stands in
    let p-here : r.p ≡ w.p = p-is ∙ sym (ap (λ (v : WindowState). v.p) c.self.view_is) in
    let shape = shape_of r.p r.object in
    let shapes : map (shape_of_extent w.p) c.set_last.new.extents.items ≡ slice_set w.shapes (length w.shapes - 1) (without_info shape) =
    ap (map (shape_of_extent w.p)) c.set_last.ensures.items
    ∙ shapes_set w.p i.extents.items c.segments-segments.result shape (stream_shape w.p r.p r.object parts c.segments-segments.result p-here stream (c.segments-segments.ensures r parts stood stream)) in
    let last : c.last_of-last.result ≡ last_or (last_in (w.dropped + (length es - 1)) shape) w.last =
    c.last_of-last.ensures ∙ ap (λ (q : Option Position). last_or q w.last) (c.last.ensures r stood ∙ ap (λ n. last_in (w.dropped + n) shape) place) in
    let first : first_of e ≡ c.first_block-first.result = ap first_of (sym same) ∙ sym c.first_block-first.ensures in
    ap (λ n. (let v : WindowState = record w { dropped = w.dropped + n; entries = c.drop_front.new.held.items; shapes = map (shape_of_extent w.p) c.set_last.new.extents.items; last = c.last_of-last.result } in v)) place
    ∙ followed_gone w e shape c.drop_front.new.held.items _ _ (omega (arith, first, c.if-first-eq0.false)) (c.drop_front.ensures.items ∙ ap (λ n. drop n es) place) shapes last
    ∙ ap (followed e shape) c.self.view_is

-- nothing is being filled
none_begun : (ring : List ℕ) (filled : ℕ) (b : Option HeldObject) → option_map (filling_in ring filled) b ≡ None → b ≡ None
none_begun ring filled None e = refl
none_begun ring filled (Some h) e = absurd (cc)

last_alone : (es : List HeldEntry) (n : ℕ) (e : HeldEntry) → n + 1 ≡ length es → slice_get es n ≡ Some e → drop n es ≡ e ∷ []
last_alone [] n e long is = absurd (cc)
last_alone (x ∷ []) zero e long is = ap (λ y. y ∷ []) (same_entry x e is)
last_alone (x ∷ []) (suc n) e long is = absurd (omega (arith, long))
last_alone (x ∷ y ∷ es) zero e long is = absurd (omega (arith, long))
last_alone (x ∷ y ∷ es) (suc n) e long is = last_alone (y ∷ es) n e (omega (arith, long)) is

pub invariant_of-self-2 : goal.invariant_of-self-2
invariant_of-self-2 c =
    let w = c.self.inside in
    let old = c.self.invariant in
    let p : Settings = w.profile in
    let es = w.held.items in
    let hs = objects_in w.held.items in
    let entry = c.index-entry.result.now in
    let some : 0 < length es = grind (arith, c.is_empty.ensures, c.if-is_empty.false) in
    let n = c.len-place.result - 1 in
    let place : c.len-place.result - 1 ≡ length es - 1 = omega (arith, c.len-place.ensures) in
    let there : slice_get es (c.len-place.result - 1) ≡ Some entry = get_there es (c.len-place.result - 1) entry (omega (arith, place, some)) c.index-entry.ensures in
    let none = none_begun w.ring w.filled w.begun (ap (λ (v : WindowState). v.filling) c.self.view_is ∙ c.requires) in
    let no_octets = ap (λ (b : Option HeldObject). all_octets (option_to_list b)) none in
    let no_length = ap (λ (b : Option HeldObject). length (option_to_list b)) none in
    let only : c.drop_front.new.held.items ≡ entry ∷ [] = c.drop_front.ensures.items ∙ last_alone es n entry (omega (arith, place, some)) there in
    let objects : objects_in c.drop_front.new.held.items ≡ drop (gone_of n es) hs = ap objects_in c.drop_front.ensures.items ∙ objects_dropped n es in
    let all : all_kept w ≡ hs = ap (λ b. hs ++ option_to_list b) none ∙ append-nil hs in
    let row : IsRow w.ring p hs w.free = subst (λ ks. IsRow w.ring p ks w.free) all old.row in
    let whole = left_behind p n es entry there in
    let more : all_sizes p (drop n es) ≤ all_sizes p es = sizes_fewer p n es in
    let behind : all_sizes p (drop n es) ≡ held_size p entry = ap (all_sizes p) (last_alone es n entry (omega (arith, place, some)) there) ∙ (let z : all_sizes p (entry ∷ []) ≡ held_size p entry = omega (arith, sizes_cons p entry []) in z) in
    record {
      ring_long = old.ring_long;
      octets = omega (arith, ap (all_sizes p) only, sizes_cons p entry [], no_octets, c.size-size.ensures.held);
      fit = omega (arith, old.fit, old.octets, no_octets, more, behind, c.size-size.ensures.held);
      few = omega (arith, old.few, ap length only, no_length, some);
      row = subst (λ ks. IsRow w.ring p ks w.free) (sym (ap (λ (b : Option HeldObject). objects_in c.drop_front.new.held.items ++ option_to_list b) none ∙ append-nil (objects_in c.drop_front.new.held.items) ∙ objects))
          (row_fewer w.ring p hs (gone_of n es) w.free (omega (arith, c.hold_range.ensures.e.0)) old.ring_long (λ i k e. placed_cut w.ring p k (old.placed i k e)) row);
      placed = λ i k e. old.placed (gone_of n es + i) k (sym (slice_get-drop (gone_of n es) hs i) ∙ ap (λ ks. slice_get ks i) (sym objects) ∙ e);
      filling = old.filling;
      room = λ h e. absurd (never h (sym none ∙ e));
      counted = omega (arith, old.counted, ap length only, no_length, place, some);
      numbered = omega (arith, old.numbered, ap length only, ap length c.set_last.ensures.items, length-set w.extents.items (length w.extents.items - 1) (extent.Stream c.segments-segments.result), place, some);
      sized = subst (λ (xs : List Extent). (i : ℕ) (x : Extent) → slice_get xs i ≡ Some x → IsSized x) (sym c.set_last.ensures.items)
          (sized_set w.extents.items (length w.extents.items - 1) (extent.Stream c.segments-segments.result) old.sized tt);
    }
  where
    never : (k : HeldObject) → ◌≡◌ {A = Option HeldObject} None (Some k) → ⊥
    never k e = cc
