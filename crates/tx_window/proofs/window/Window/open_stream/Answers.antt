use Rattle.std.proofs.Common.{◌≡◌, ◌+◌, ◌-◌, ◌*◌, ◌<◌, ◌≤◌, ◌++◌, ap, sym, subst, ◌∙◌, refl, arith, None, Some, Ok, ℕ, Option, List, [], ◌∷◌, length, length-append, map, drop, ◌⊎◌, inl, inr}
use Rattle.std.specs.Prelude.{slice_get, option_to_list, option_map, Result}
use Rattle.std.proofs.lemmas.List.{length-drop, append-nil}
use Rattle.norm_base.specs.Settings.{Settings}
use Rattle.norm_order.specs.Entries.{Stream}
use Rattle.norm_order.specs.Shapes.{Shape}
use Rattle.norm_send_rules.specs.SenderState.{SenderState}
use Rattle.norm_send_rules.specs.Dropping.{dropped_to}
use Rattle.norm_send_rules.specs.Room.{window, has_to_go, drop_after}
use Rattle.norm_send_rules.specs.Enqueuing.{with_entry}
use Rattle.norm_send_rules.specs.InWindow.{next_index}
use Rattle.norm_send_rules.specs.declared.fault.EnqueueFault.{EnqueueFault}
use Rattle.norm_send_rules.specs.declared.job.Receipt.{Receipt}
use Rattle.norm_send_rules.specs.declared.job.Receipt.TheVariants.{Opened}
use Rattle.tx_object.specs.Held.{HeldObject}
use Rattle.tx_object.specs.Placed.{IsPlaced}
use Rattle.tx_window.specs.declared.entry.HeldEntry.{HeldEntry}
use Rattle.tx_window.specs.declared.entry.HeldEntry.TheVariants as held
use Rattle.tx_window.specs.WindowState.{most_kept, WindowState, Stands}
use Rattle.tx_window.specs.Rows.{filling_in, IsRow, all_octets}
use Rattle.tx_window.proofs.ListLemmas.{slice_get-drop}
use Rattle.tx_window.proofs.BeginningLemmas.{placed_cut}
use Rattle.tx_window.specs.Extents.{shape_of_extent, IsSized}
use Rattle.tx_window.specs.WindowSound.{window_view, all_sizes, objects_in, all_kept}
use Rattle.tx_window.specs.declared.extent.Extent.{Extent}
use Rattle.tx_window.specs.declared.extent.Extent.TheVariants as extent
use Rattle.tx_window.proofs.KeptLemmas.{are_entries}
use Rattle.tx_window.proofs.RoomLemmas.{sizes_are, sizes_cons}
use Rattle.tx_window.proofs.ObjectsLemmas.{gone_of, objects_dropped, objects_append, sizes_append, row_fewer}
use Rattle.tx_window.proofs.ExtentLemmas.{sized_more, sized_behind, counted_more, shapes_more}
use Rattle.tx_window.proofs.StandingLemmas.{stands_dropped, stands_joined, IsCounted}
use Rattle.tx_window.proofs.FaultLemmas.{opened_none, no_parts}
use Rattle.tx_window.proofs.StreamLemmas.{opened_shape, opened_last, first_new, new_stream, opened_by}
use Rattle.tx_window.proofs.window.Window.open_stream.Goals as goal

-- nothing is being filled
none_begun : (ring : List ℕ) (filled : ℕ) (b : Option HeldObject) → option_map (filling_in ring filled) b ≡ None → b ≡ None
none_begun ring filled None e = refl
none_begun ring filled (Some h) e = absurd (cc)

pub invariant_of-self : goal.invariant_of-self
invariant_of-self c =
    let old = c.self.invariant in
    let w = c.self.inside in
    let same : c.make_room.new.held.items ≡ w.held.items = c.in_default-make_room.ensures.made in
    let none = none_begun w.ring w.filled w.begun (ap (λ (v : WindowState). v.filling) c.self.view_is ∙ c.requires) in
    record {
      ring_long = old.ring_long;
      octets = old.octets ∙ ap (λ (es : List HeldEntry). all_sizes w.profile es + all_octets (option_to_list w.begun)) (sym same);
      fit = old.fit;
      few = subst (λ (es : List HeldEntry). length es + length (option_to_list w.begun) ≤ w.profile.window) (sym same) old.few;
      row = subst (λ (es : List HeldEntry). IsRow w.ring w.profile (objects_in es ++ option_to_list w.begun) w.free) (sym same) old.row;
      placed = subst (λ (es : List HeldEntry). (i : ℕ) (h : HeldObject) → slice_get (objects_in es) i ≡ Some h → IsPlaced w.ring w.profile h) (sym same) old.placed;
      filling = old.filling;
      room = λ h e. absurd (never h (sym none ∙ e));
      sized = subst (λ (xs : List Extent). (i : ℕ) (x : Extent) → slice_get xs i ≡ Some x → IsSized x) (sym c.make_room.ensures.extents) old.sized;
      counted = subst (λ (es : List HeldEntry). w.dropped + (length es + length (option_to_list w.begun)) ≤ 4294967295) (sym same) old.counted;
      numbered = omega (arith, old.numbered, ap length same, ap length c.make_room.ensures.extents);
    }
  where
    never : (h : HeldObject) → ◌≡◌ {A = Option HeldObject} None (Some h) → ⊥
    never h e = cc

-- the entries after one more was put behind those that are left
held_is : (c : goal.After-self-3-1) → c.join-forgotten.new.held.items ≡ drop c.in-Some-make_room.made.0 c.self.inside.held.items ++ held.Stream c.in-Ok.stream ∷ []
held_is c = c.join-forgotten.ensures.held ∙ ap (λ (es : List HeldEntry). es ++ held.Stream c.in-Ok.stream ∷ []) c.in-Some-make_room.ensures.made.entries

extents_are : (c : goal.After-self-3-1) → c.join-forgotten.new.extents.items ≡ drop (c.join-forgotten.result - c.self.inside.forgotten) (c.self.inside.extents.items ++ extent.Stream 0 ∷ [])
extents_are c = c.join-forgotten.ensures.extents ∙ ap (λ (xs : List Extent). drop (c.join-forgotten.result - c.self.inside.forgotten) (xs ++ extent.Stream 0 ∷ [])) c.make_room.ensures.extents

counted_by : (c : goal.After-self-3-1) → (c.join-forgotten.result ≡ c.self.inside.forgotten) ⊎ ((c.join-forgotten.result ≡ c.self.inside.forgotten + 1) × (most_kept ≤ length c.self.inside.extents.items))
counted_by c = by c.join-forgotten.ensures.kept
  where
    by : (c.join-forgotten.result ≡ c.self.inside.forgotten) ⊎ ((c.join-forgotten.result ≡ c.self.inside.forgotten + 1) × (most_kept ≤ length c.make_room.new.extents.items))
        → (c.join-forgotten.result ≡ c.self.inside.forgotten) ⊎ ((c.join-forgotten.result ≡ c.self.inside.forgotten + 1) × (most_kept ≤ length c.self.inside.extents.items))
    by (inl same) = inl same
    by (inr more) = inr (more.0, omega (arith, more.1, ap length c.make_room.ensures.extents))

counted_is : (c : goal.After-self-3-1) (n : ℕ) → n ≡ c.self.inside.dropped + length c.self.inside.held.items → IsCounted c.self.inside.forgotten c.join-forgotten.result n
counted_is c n is = by (counted_by c)
  where
    by : (c.join-forgotten.result ≡ c.self.inside.forgotten) ⊎ ((c.join-forgotten.result ≡ c.self.inside.forgotten + 1) × (most_kept ≤ length c.self.inside.extents.items))
        → IsCounted c.self.inside.forgotten c.join-forgotten.result n
    by (inl same) = inl same
    by (inr more) = inr (more.0, omega (arith, more.1, is, c.self.invariant.numbered))

pub invariant_of-self-2 : goal.invariant_of-self-2
invariant_of-self-2 c =
    let w = c.self.inside in
    let old = c.self.invariant in
    let p : Settings = w.profile in
    let n = c.in-Some-make_room.made.0 in
    let es = w.held.items in
    let hs = objects_in w.held.items in
    let free = c.open_fault.ensures.free c.in_default.is in
    let none = none_begun w.ring w.filled w.begun (ap (λ (v : WindowState). v.filling) c.self.view_is ∙ c.requires) in
    let no_octets = ap (λ (b : Option HeldObject). all_octets (option_to_list b)) none in
    let no_length = ap (λ (b : Option HeldObject). length (option_to_list b)) none in
    let all : all_kept w ≡ hs = ap (λ b. hs ++ option_to_list b) none ∙ append-nil hs in
    let objects : objects_in c.join-forgotten.new.held.items ≡ drop (gone_of n es) hs =
    ap objects_in (held_is c) ∙ objects_append (drop n es) (held.Stream c.in-Ok.stream ∷ []) ∙ append-nil (objects_in (drop n es)) ∙ objects_dropped n es in
    let left : c.in-Some-make_room.made.1 ≡ all_sizes p (drop n es) = c.in-Some-make_room.ensures.made.left in
    let few : length es - n < p.window = c.in-Some-make_room.ensures.made.few in
    let le : n ≤ length es = c.in-Some-make_room.ensures.made.count in
    let long = length-append (drop n es) (held.Stream c.in-Ok.stream ∷ []) in
    let row : IsRow w.ring p hs w.free = subst (λ ks. IsRow w.ring p ks w.free) all old.row in
    let range = c.buffer_len-len.ensures.exact in
    record {
      ring_long = old.ring_long;
      octets = omega (arith, left, ap (all_sizes p) (held_is c), sizes_append p (drop n es) (held.Stream c.in-Ok.stream ∷ []), sizes_cons p (held.Stream c.in-Ok.stream) [], range, no_octets);
      fit = omega (arith, c.in-Some-make_room.ensures.made.fit);
      few = omega (arith, few, ap length (held_is c), long, length-drop n es, no_length);
      row = subst (λ ks. IsRow w.ring p ks w.free) (sym (ap (λ (b : Option HeldObject). objects_in c.join-forgotten.new.held.items ++ option_to_list b) none ∙ append-nil (objects_in c.join-forgotten.new.held.items) ∙ objects))
          (row_fewer w.ring p hs (gone_of n es) w.free (omega (arith, c.buffer_len-len.ensures.range.e.0)) old.ring_long (λ i k e. placed_cut w.ring p k (old.placed i k e)) row);
      placed = λ i k e. old.placed (gone_of n es + i) k (sym (slice_get-drop (gone_of n es) hs i) ∙ ap (λ ks. slice_get ks i) (sym objects) ∙ e);
      sized = subst (λ (xs : List Extent). (i : ℕ) (x : Extent) → slice_get xs i ≡ Some x → IsSized x) (sym (extents_are c))
          (sized_behind (c.join-forgotten.result - w.forgotten) (w.extents.items ++ extent.Stream 0 ∷ []) (sized_more w.extents.items (extent.Stream 0) old.sized tt));
      filling = λ k e. absurd (never k (sym none ∙ e));
      room = λ k e. absurd (never k (sym none ∙ e));
      counted = omega (arith, ap length (held_is c), long, length-drop n es, le, free.1, no_length, ap (λ (v : WindowState). v.dropped) c.self.view_is, ap (λ (v : WindowState). length v.entries) c.self.view_is);
      numbered = counted_more w.forgotten c.join-forgotten.result w.extents.items c.join-forgotten.new.extents.items (extent.Stream 0) (w.dropped + length es) (w.dropped + n + length c.join-forgotten.new.held.items)
          (extents_are c) (counted_by c) old.numbered (omega (arith, ap length (held_is c), long, length-drop n es, le));
    }
  where
    never : (k : HeldObject) → ◌≡◌ {A = Option HeldObject} None (Some k) → ⊥
    never k e = cc

pub returns-clause-opened : goal.returns-clause-opened
returns-clause-opened c = λ s by stands.
    let w = c.self.inside in
    let p : Settings = w.profile in
    let q = c.args.self.now.p in
    let n = c.in-Some-make_room.made.0 in
    let es = w.held.items in
    let here = subst (λ (v : WindowState). Stands v s) (sym c.self.view_is) stands in
    let free = sym (c.open_fault.ensures.exact s stands) ∙ c.in_default.is in
    let le : n ≤ length es = c.in-Some-make_room.ensures.made.count in
    let count : n ≡ has_to_go p _ (window s) =
    c.in-Some-make_room.ensures.made.exact (window s) (sizes_are w.ring p w.dropped (window s) s es (are_entries (window_view w) s here)) in
    let t = dropped_to (drop_after s.current.drop n) s in
    let dropped = stands_dropped (window_view w) s n None le (no_parts s (opened_none q s free)) here in
    let v : WindowState = record (window_view w) { dropped = w.dropped + n; entries = drop n es; filling = None } in
    let stream = c.in-Ok.stream in
    let knows = new_stream v t stream dropped c.in-Ok.ensures in
    let joined = stands_joined v t by (Stream []) (held.Stream stream) c.join-forgotten.result (shape_of_extent p (extent.Stream 0)) w.last None
    (counted_is c (next_index s) here.next) (opened_shape p) knows
    (first_new v t stream dropped c.in-Ok.ensures c.buffer_len-len.ensures.range.b.0) (opened_last p (next_index t) w.last) dropped in
    let shapes : drop (c.join-forgotten.result - w.forgotten) (map (shape_of_extent p) w.extents.items ++ shape_of_extent p (extent.Stream 0) ∷ []) ≡ map (shape_of_extent p) c.join-forgotten.new.extents.items =
    shapes_more p (c.join-forgotten.result - w.forgotten) w.extents.items c.join-forgotten.new.extents.items (extent.Stream 0) (extents_are c) in
    let none = none_begun w.ring w.filled w.begun (ap (λ (x : WindowState). x.filling) c.self.view_is ∙ c.requires) in
    let is = opened_by q s by free in
    let room : n ≡ has_to_go q (q.blocks * q.b * q.e) (window s) =
    count ∙ ap (λ m. has_to_go p m (window s)) c.buffer_len-len.ensures.exact ∙ ap (λ (x : WindowState). has_to_go x.p (x.p.blocks * x.p.b * x.p.e) (window s)) c.self.view_is in
    let u : WindowState = record v { entries = c.join-forgotten.new.held.items; forgotten = c.join-forgotten.result; shapes = map (shape_of_extent p) c.join-forgotten.new.extents.items; filling = option_map (filling_in w.ring w.filled) w.begun } in
    let final : Stands u (with_entry (record { by = by; object = Stream [] }) t) =
    subst (λ (b : Option HeldObject). Stands (record v { entries = c.join-forgotten.new.held.items; forgotten = c.join-forgotten.result; shapes = map (shape_of_extent p) c.join-forgotten.new.extents.items; filling = option_map (filling_in w.ring w.filled) b }) (with_entry (record { by = by; object = Stream [] }) t)) (sym none)
    (subst (λ (xs : List Shape). Stands (record v { entries = c.join-forgotten.new.held.items; forgotten = c.join-forgotten.result; shapes = xs; filling = None }) (with_entry (record { by = by; object = Stream [] }) t)) shapes
    (subst (λ (xs : List HeldEntry). Stands (record v { entries = xs; forgotten = c.join-forgotten.result; shapes = drop (c.join-forgotten.result - w.forgotten) (map (shape_of_extent p) w.extents.items ++ shape_of_extent p (extent.Stream 0) ∷ []); filling = None }) (with_entry (record { by = by; object = Stream [] }) t)) (sym (held_is c)) joined)) in
    record {
      answer = ap (λ (x : SenderState × Result Receipt EnqueueFault). x.1) is ∙ ap (λ i. Ok (Opened i)) (sym (c.next_index-index.ensures.exact s stands));
      stands = subst (λ (x : SenderState × Result Receipt EnqueueFault). Stands u x.0) (sym is)
          (subst (λ m. Stands u (with_entry (record { by = by; object = Stream [] }) (dropped_to (drop_after s.current.drop m) s))) room final);
    }
