use Rattle.std.proofs.Common.{◌≡◌, ◌+◌, ◌-◌, ◌<◌, ◌≤◌, ◌++◌, ap, sym, subst, ◌∙◌, refl, arith, None, Some, ℕ, Option, List, [], ◌∷◌, length, map, drop}
use Rattle.std.specs.Prelude.{slice_get, option_to_list, option_map, replicate}
use Rattle.std.proofs.lemmas.List.{length-drop, append-nil, length-replicate}
use Rattle.norm_base.specs.Settings.{Settings}
use Rattle.fec_plan.specs.Points.{Point}
use Rattle.norm_send_rules.specs.Dropping.{dropped_to}
use Rattle.norm_send_rules.specs.Room.{window, has_to_go, drop_after}
use Rattle.tx_object.specs.Held.{HeldObject, octets_of}
use Rattle.tx_object.specs.Placed.{IsPlaced}
use Rattle.tx_window.specs.declared.entry.HeldEntry.{HeldEntry}
use Rattle.tx_window.specs.WindowState.{Filling, WindowState, Stands}
use Rattle.tx_window.specs.Rows.{filling_in, IsRow, IsFilling, all_octets}
use Rattle.tx_window.proofs.RowLemmas.{octets_cons}
use Rattle.tx_window.proofs.ListLemmas.{slice_get-drop}
use Rattle.tx_window.proofs.BeginningLemmas.{placed_cut, row_within, row_begun, filling_begun}
use Rattle.tx_window.specs.Extents.{shape_of_extent, IsSized}
use Rattle.tx_window.specs.WindowSound.{window_view, all_sizes, objects_in, all_kept}
use Rattle.tx_window.specs.declared.extent.Extent.{Extent}
use Rattle.tx_window.proofs.KeptLemmas.{are_entries}
use Rattle.tx_window.proofs.RoomLemmas.{sizes_are}
use Rattle.tx_window.proofs.ObjectsLemmas.{gone_of, objects_dropped, objects_fit, objects_left}
use Rattle.tx_window.proofs.StandingLemmas.{stands_dropped}
use Rattle.tx_window.proofs.FaultLemmas.{object_none, no_parts}
use Rattle.tx_window.proofs.window.Window.begin.Goals as goal

-- nothing is being filled
none_begun : (ring : List ℕ) (filled : ℕ) (b : Option HeldObject) → option_map (filling_in ring filled) b ≡ None → b ≡ None
none_begun ring filled None e = refl
none_begun ring filled (Some h) e = absurd (cc)

pub invariant_of-self-in_default-make_room : goal.invariant_of-self-in_default-make_room
invariant_of-self-in_default-make_room c =
    let old = c.self.invariant in
    let w = c.self.inside in
    let same : c.make_room.new.held.items ≡ w.held.items = c.in_default-make_room.ensures.made in
    let none = none_begun w.ring w.filled w.begun (ap (λ (v : WindowState). v.filling) c.self.view_is ∙ c.requires) in
    record {
      ring_long = old.ring_long;
      octets = old.octets ∙ ap (λ (es : List HeldEntry). all_sizes w.profile es + all_octets (option_to_list w.begun)) (sym same);
      fit = old.fit;
      few = subst (λ (es : List HeldEntry). length es + length (option_to_list w.begun) ≤ w.profile.window) (sym same) old.few;
      row = subst (λ (es : List HeldEntry). IsRow w.ring w.profile (objects_in es ++ option_to_list w.begun) w.free) (sym same) old.row;
      placed = subst (λ (es : List HeldEntry). (i : ℕ) (h : HeldObject) → slice_get (objects_in es) i ≡ Some h → IsPlaced w.ring w.profile h) (sym same) old.placed;
      filling = old.filling;
      room = λ h e. absurd (never h (sym none ∙ e));
      sized = subst (λ (xs : List Extent). (i : ℕ) (x : Extent) → slice_get xs i ≡ Some x → IsSized x) (sym c.make_room.ensures.extents) old.sized;
      counted = subst (λ (es : List HeldEntry). w.dropped + (length es + length (option_to_list w.begun)) ≤ 4294967295) (sym same) old.counted;
      numbered = omega (arith, old.numbered, ap length same, ap length c.make_room.ensures.extents);
    }
  where
    never : (h : HeldObject) → ◌≡◌ {A = Option HeldObject} None (Some h) → ⊥
    never h e = cc

pub behind-self-inside-requires-clause-at : goal.behind-self-inside-requires-clause-at
behind-self-inside-requires-clause-at c = row_within _ c.self.invariant.row.head _ c.self.inside.free c.self.invariant.row.in_row

pub behind-self-inside-requires-clause-count : goal.behind-self-inside-requires-clause-count
behind-self-inside-requires-clause-count c =
    let w = c.self.inside in
    let free = c.object_fault.ensures.free c.in_default.is in
    let filling = filling_begun w.ring w.profile (all_kept w) c.in-Ok.begun c.args.kind c.args.info c.args.len w.free c.self.invariant.ring_long c.self.invariant.row c.taken.ensures.sound
    (omega (arith, c.in-Some-make_room.ensures.made.few)) c.in-Ok.ensures free.0 (omega (arith, free.1, ap (λ (v : WindowState). v.p.octets) c.self.view_is)) free.2 (omega (arith, free.3, c.info_len.ensures, ap (λ (v : WindowState). v.p.e) c.self.view_is)) in
    omega (arith, c.taken.ensures.exact, filling.lies.room)

pub invariant_of-self-2 : goal.invariant_of-self-2
invariant_of-self-2 c =
    let w = c.self.inside in
    let old = c.self.invariant in
    let h = c.in-Ok.begun in
    let p : Settings = w.profile in
    let n = c.in-Some-make_room.made.0 in
    let es = w.held.items in
    let hs = objects_in w.held.items in
    let free = c.object_fault.ensures.free c.in_default.is in
    let none = none_begun w.ring w.filled w.begun (ap (λ (v : WindowState). v.filling) c.self.view_is ∙ c.requires) in
    let all : all_kept w ≡ hs = ap (λ b. hs ++ option_to_list b) none ∙ append-nil hs in
    let same : c.make_room.new.held.items ≡ drop n es = c.in-Some-make_room.ensures.made.entries in
    let objects : objects_in c.make_room.new.held.items ≡ drop (gone_of n es) hs = ap objects_in same ∙ objects_dropped n es in
    let octets : octets_of h.cut ≡ c.args.len = ap (λ (k : HeldObject). octets_of k.cut) c.in-Ok.ensures in
    let left : c.in-Some-make_room.made.1 ≡ all_sizes p (drop n es) = c.in-Some-make_room.ensures.made.left in
    let few : length es - n < p.window = c.in-Some-make_room.ensures.made.few in
    let row : IsRow w.ring p hs w.free = subst (λ ks. IsRow w.ring p ks w.free) all old.row in
    let filling = filling_begun w.ring p hs h c.args.kind c.args.info c.args.len w.free old.ring_long row c.taken.ensures.sound
    (omega (arith, few)) c.in-Ok.ensures free.0 (omega (arith, free.1, ap (λ (v : WindowState). v.p.octets) c.self.view_is)) free.2 (omega (arith, free.3, c.info_len.ensures, ap (λ (v : WindowState). v.p.e) c.self.view_is)) in
    let e-is : h.cut.e ≡ p.e = ap (λ (k : HeldObject). k.cut.e) c.in-Ok.ensures in
    let le : n ≤ length es = c.in-Some-make_room.ensures.made.count in
    let fewer : all_octets (drop (gone_of n es) hs) ≤ all_sizes p (drop n es) = omega (arith, objects_fit p (drop n es), ap all_octets (objects_dropped n es)) in
    record {
      ring_long = old.ring_long;
      octets = omega (arith, left, octets, ap (all_sizes p) same, octets_cons h []);
      fit = omega (arith, c.in-Some-make_room.ensures.made.fit);
      few = omega (arith, few, ap length same, length-drop n es);
      row = subst (λ ks. IsRow w.ring p (ks ++ h ∷ []) c.behind-self-inside.result) (sym objects)
          (row_begun w.ring p hs (gone_of n es) h w.free c.behind-self-inside.result (omega (arith, e-is, c.taken.ensures.sound.least_e)) old.ring_long row
          (λ i k e. placed_cut w.ring p k (old.placed i k e)) filling.cut (ap (λ (k : HeldObject). k.start) c.in-Ok.ensures)
          (omega (arith, fewer, left, octets, c.in-Some-make_room.ensures.made.fit)) (omega (arith, few, objects_left n es))
          (subst (λ m. Rattle.tx_object.specs.Round.IsAround (length w.ring) (w.free + m) c.behind-self-inside.result) c.taken.ensures.exact c.behind-self-inside.ensures));
      placed = λ i k e. old.placed (gone_of n es + i) k (sym (slice_get-drop (gone_of n es) hs i) ∙ ap (λ ks. slice_get ks i) (sym objects) ∙ e);
      sized = subst (λ (xs : List Extent). (i : ℕ) (x : Extent) → slice_get xs i ≡ Some x → IsSized x) (sym c.make_room.ensures.extents) old.sized;
      filling = λ k e. subst (IsFilling w.ring p 0) (is k e) filling;
      room = λ k e. (
        c.in-Some-make_room.ensures.held_room,
        c.in-Some-make_room.ensures.extents_room,
      );
      counted = omega (
        arith,
        ap length same,
        length-drop n es,
        le,
        free.4,
        ap (λ (v : WindowState). v.dropped) c.self.view_is,
        ap (λ (v : WindowState). length v.entries) c.self.view_is,
      );
      numbered = omega (arith, ap length same, length-drop n es, le, old.numbered, ap length c.make_room.ensures.extents);
    }
  where
    is : (k : HeldObject) → Some c.in-Ok.begun ≡ Some k → c.in-Ok.begun ≡ k
    is k e = cc

pub returns-clause-stands : goal.returns-clause-stands
returns-clause-stands c = λ s stands.
    let w = c.self.inside in
    let p : Settings = w.profile in
    let n = c.in-Some-make_room.made.0 in
    let es = w.held.items in
    let here = subst (λ (v : WindowState). Stands v s) (sym c.self.view_is) stands in
    let same : c.make_room.new.held.items ≡ drop n es = c.in-Some-make_room.ensures.made.entries in
    let le : n ≤ length es = c.in-Some-make_room.ensures.made.count in
    let count : n ≡ has_to_go p c.args.len (window s) =
    c.in-Some-make_room.ensures.made.exact (window s) (sizes_are w.ring p w.dropped (window s) s es (are_entries (window_view w) s here)) in
    let f : Option Filling = Some (filling_in w.ring 0 c.in-Ok.begun) in
    let none = object_none c.args.self.now.p s c.args.info (replicate c.args.len 0)
    (sym (c.object_fault.ensures.exact s c.args.info (replicate c.args.len 0) stands (sym c.info_len.ensures) (length-replicate {A = ℕ} c.args.len 0)) ∙ c.in_default.is) in
    let dropped = stands_dropped (window_view w) s n f le (no_parts s none) here in
    let point-is : drop_after s.current.drop n ≡ drop_after s.current.drop (has_to_go c.args.self.now.p c.args.len (window s)) =
    ap (drop_after s.current.drop) (count ∙ ap (λ (v : WindowState). has_to_go v.p c.args.len (window s)) c.self.view_is) in
    subst (λ (d : Point). Stands (record (window_view w) { dropped = w.dropped + n; entries = c.make_room.new.held.items; filling = f; shapes = map (shape_of_extent p) c.make_room.new.extents.items }) (dropped_to d s)) point-is
    (subst (λ (xs : List Extent). Stands (record (window_view w) { dropped = w.dropped + n; entries = c.make_room.new.held.items; filling = f; shapes = map (shape_of_extent p) xs }) (dropped_to (drop_after s.current.drop n) s)) (sym c.make_room.ensures.extents)
    (subst (λ (xs : List HeldEntry). Stands (record (window_view w) { dropped = w.dropped + n; entries = xs; filling = f }) (dropped_to (drop_after s.current.drop n) s)) (sym same) dropped))

pub returns-clause-free : goal.returns-clause-free
returns-clause-free c = λ s octets stands long.
    sym (c.object_fault.ensures.exact s c.args.info octets stands (sym c.info_len.ensures) long) ∙ c.in_default.is
