use Rattle.std.proofs.Common.{◌≡◌, ◌+◌, ◌-◌, ◌≤◌, ◌++◌, ap, sym, subst, ◌∙◌, refl, arith, None, Some, ℕ, Option, List, [], ◌∷◌, length, length-append, map, take, drop, ◌⊎◌, inl, inr}
use Rattle.std.specs.Prelude.{slice_get, option_to_list, option_map, MatchOption, replicate, is_some}
use Rattle.std.proofs.lemmas.List.{append-nil}
use Rattle.norm_base.specs.Settings.{Settings}
use Rattle.fec_plan.specs.Partition.{Cut, cut_of, all_symbols}
use Rattle.norm_order.specs.Entries.{Whole}
use Rattle.norm_order.specs.Shapes.{Shape, shape_of, last_in}
use Rattle.norm_send_rules.specs.Enqueuing.{with_entry}
use Rattle.norm_send_rules.specs.InWindow.{next_index}
use Rattle.tx_object.specs.Held.{HeldObject, octets_of, octets_in}
use Rattle.tx_object.specs.Placed.{IsPlaced, taken_by, object_in}
use Rattle.tx_object.specs.Round.{round}
use Rattle.tx_window.specs.declared.entry.HeldEntry.{HeldEntry}
use Rattle.tx_window.specs.declared.entry.HeldEntry.TheVariants as held
use Rattle.tx_window.specs.WindowState.{Filling, most_kept, WindowState, Stands}
use Rattle.tx_window.specs.Taking.{filled_entry}
use Rattle.tx_window.specs.Rows.{filling_in, IsRow, IsFilling, all_octets}
use Rattle.tx_window.proofs.RowLemmas.{octets_cons}
use Rattle.tx_window.proofs.BeginningLemmas.{placed_cut, cut_more, placed_more}
use Rattle.tx_window.proofs.FillingLemmas.{placed_kept, row_kept, filling_kept, octets_taken, whole_placed}
use Rattle.tx_window.proofs.EndingLemmas.{AreThere, are_there, kept_ended}
use Rattle.tx_window.specs.Extents.{shape_of_extent, IsSized}
use Rattle.tx_window.specs.WindowSound.{window_view, WindowSound, all_sizes, objects_in, all_kept}
use Rattle.tx_window.specs.declared.window.Window.TheInside.{Inside}
use Rattle.tx_window.specs.declared.extent.Extent.{Extent}
use Rattle.tx_window.specs.declared.extent.Extent.TheVariants as extent
use Rattle.tx_window.proofs.ObjectsLemmas.{objects_append, sizes_append, object_there}
use Rattle.tx_window.proofs.RoomLemmas.{sizes_cons}
use Rattle.tx_window.proofs.ExtentLemmas.{sized_more, sized_behind, counted_more, shapes_more}
use Rattle.tx_window.proofs.StandingLemmas.{stands_joined, stands_filling, new_object, IsCounted}
use Rattle.tx_window.proofs.window.Window.finish.Goals as goal

-- all octets of the object that was begun are there
there : (w : Inside) (v : WindowState) (h : HeldObject) → WindowSound w → window_view w ≡ v → w.begun ≡ Some h
    → MatchOption v.filling ⊥ (λ f. length f.octets ≡ f.len) → AreThere w.ring w.filled h
there w v h sound view is requires =
    are_there w.ring w.profile w.filled h (sound.filling h is)
    (subst (λ (r : Option Filling). MatchOption r ⊥ (λ f. length f.octets ≡ f.len)) (ap (λ (u : WindowState). u.filling) (sym view) ∙ ap (option_map (filling_in w.ring w.filled)) is) requires)

pub end_octets-len-requires : goal.end_octets-len-requires
end_octets-len-requires c =
    let h = c.in-Some.begun in
    let filling = c.self.invariant.filling h c.in-Some.is in
    let all = there c.self.inside c.args.self.now h c.self.invariant c.self.view_is c.in-Some.is c.requires in
    record { start = filling.lies.start; room = filling.lies.room; within = all.within; least = all.least }

pub join_begun-forgotten-requires : goal.join_begun-forgotten-requires
join_begun-forgotten-requires c =
    let room = c.self.invariant.room c.in-Some.begun c.in-Some.is in
    record {
      begun = ap is_some c.in-Some.is;
      held_room = room.0;
      extents_room = room.1;
      number = omega (arith, c.self.invariant.numbered, c.self.invariant.counted, ap (λ (b : Option HeldObject). length (option_to_list b)) c.in-Some.is);
    }

begun : (c : goal.After-self-3-1) → IsFilling c.self.inside.ring c.self.inside.profile c.self.inside.filled c.in-Some.begun
begun c = c.self.invariant.filling c.in-Some.begun c.in-Some.is

seen : (c : goal.After-self-3-1) → c.args.self.now.filling ≡ Some (filling_in c.self.inside.ring c.self.inside.filled c.in-Some.begun)
seen c = ap (λ (v : WindowState). v.filling) (sym c.self.view_is) ∙ ap (option_map (filling_in c.self.inside.ring c.self.inside.filled)) c.in-Some.is

all : (c : goal.After-self-3-1) → AreThere c.self.inside.ring c.self.inside.filled c.in-Some.begun
all c = there c.self.inside c.args.self.now c.in-Some.begun c.self.invariant c.self.view_is c.in-Some.is c.requires

kept : (c : goal.After-self-3-1) (i : ℕ) (o : HeldObject) → slice_get (objects_in c.self.inside.held.items) i ≡ Some o → octets_in c.end_octets-len.new.ring o ≡ octets_in c.self.inside.ring o
kept c =
    let w = c.self.inside in
    let h = c.in-Some.begun in
    let hs = objects_in w.held.items in
    let p : Settings = w.profile in
    let e-is : h.cut.e ≡ p.e = ap (λ (k : Cut). k.e) (begun c).cut in
    let every : all_kept w ≡ hs ++ h ∷ [] = ap (λ b. hs ++ option_to_list b) c.in-Some.is in
    kept_ended w.ring c.end_octets-len.new.ring p hs h w.free w.filled c.end_octets-len.ensures.ended (begun c).lies.start (omega (arith, e-is, (begun c).sound.least_e)) c.self.invariant.ring_long
    (subst (λ ks. IsRow w.ring p ks w.free) every c.self.invariant.row)
    (cut_more p hs h (λ i k e. placed_cut w.ring p k (c.self.invariant.placed i k e)) (begun c).cut)

placed : (c : goal.After-self-3-1) → IsPlaced c.end_octets-len.new.ring c.self.inside.profile c.in-Some.begun
placed c =
    let w = c.self.inside in
    let h = c.in-Some.begun in
    whole_placed c.end_octets-len.new.ring (round w.ring h.start w.filled) w.profile w.filled (taken_by h - w.filled) h
    (filling_kept w.ring c.end_octets-len.new.ring w.profile w.filled w.filled h c.end_octets-len.ensures.ended.size (begun c).within (begun c)) (all c).long
    (omega (arith, (all c).within, (all c).all)) c.end_octets-len.ensures.ended.octets

-- the lists after one more was put behind them
held_is : (c : goal.After-self-3-1) → c.join_begun-forgotten.new.held.items ≡ c.self.inside.held.items ++ held.Object c.in-Some.begun ∷ []
held_is c = c.join_begun-forgotten.ensures.held ∙ ap (λ b. c.self.inside.held.items ++ map held.Object (option_to_list b)) c.in-Some.is

objects_are : (c : goal.After-self-3-1) → objects_in c.join_begun-forgotten.new.held.items ≡ objects_in c.self.inside.held.items ++ c.in-Some.begun ∷ []
objects_are c = ap objects_in (held_is c) ∙ objects_append c.self.inside.held.items (held.Object c.in-Some.begun ∷ [])

all_is : (c : goal.After-self-3-1) → objects_in c.join_begun-forgotten.new.held.items ++ option_to_list c.join_begun-forgotten.new.begun ≡ all_kept c.self.inside
all_is c =
    ap (λ b. objects_in c.join_begun-forgotten.new.held.items ++ option_to_list b) c.join_begun-forgotten.ensures.begun ∙ append-nil (objects_in c.join_begun-forgotten.new.held.items) ∙ objects_are c
    ∙ ap (λ b. objects_in c.self.inside.held.items ++ option_to_list b) (sym c.in-Some.is)

pub invariant_of-self : goal.invariant_of-self
invariant_of-self c =
    let w = c.self.inside in
    let old = c.self.invariant in
    let h = c.in-Some.begun in
    let es = w.held.items in
    let new = c.end_octets-len.new.ring in
    let long = length-append es (held.Object h ∷ []) in
    let size = sizes_append w.profile es (held.Object h ∷ []) in
    let none = ap (λ (b : Option HeldObject). all_octets (option_to_list b)) c.join_begun-forgotten.ensures.begun in
    let none_long = ap (λ (b : Option HeldObject). length (option_to_list b)) c.join_begun-forgotten.ensures.begun in
    let one = ap (λ (b : Option HeldObject). all_octets (option_to_list b)) c.in-Some.is in
    let one_long = ap (λ (b : Option HeldObject). length (option_to_list b)) c.in-Some.is in
    record {
      ring_long = c.end_octets-len.ensures.ended.size ∙ old.ring_long;
      octets = omega (arith, old.octets, ap (all_sizes w.profile) (held_is c), size, sizes_cons w.profile (held.Object h) [], none, one, octets_cons h []);
      fit = old.fit;
      few = omega (arith, old.few, ap length (held_is c), long, none_long, one_long);
      row = subst (λ ks. IsRow new w.profile ks w.free) (sym (all_is c)) (row_kept w.ring new w.profile (all_kept w) w.free c.end_octets-len.ensures.ended.size old.row);
      placed = subst (λ (ks : List HeldObject). (i : ℕ) (k : HeldObject) → slice_get ks i ≡ Some k → IsPlaced new w.profile k) (sym (objects_are c))
          (placed_more new w.profile (objects_in es) h
          (λ i o e. placed_kept w.ring new w.profile o c.end_octets-len.ensures.ended.size (kept c i o e) (old.placed i o e)) (placed c));
      filling = λ k e. absurd (never k (sym c.join_begun-forgotten.ensures.begun ∙ e));
      room = λ k e. absurd (never k (sym c.join_begun-forgotten.ensures.begun ∙ e));
      counted = omega (arith, old.counted, ap length (held_is c), long, none_long, one_long);
      sized = subst (λ (xs : List Extent). (i : ℕ) (x : Extent) → slice_get xs i ≡ Some x → IsSized x) (sym c.join_begun-forgotten.ensures.extents)
          (sized_behind (c.join_begun-forgotten.result - w.forgotten) (w.extents.items ++ extent.Object c.end_octets-len.result.0 ∷ [])
          (sized_more w.extents.items (extent.Object c.end_octets-len.result.0) old.sized (omega (arith, c.end_octets-len.ensures.len, (begun c).some), omega (arith, c.end_octets-len.ensures.len, (begun c).most))));
      numbered = counted_more w.forgotten c.join_begun-forgotten.result w.extents.items c.join_begun-forgotten.new.extents.items (extent.Object c.end_octets-len.result.0) (w.dropped + length es) (w.dropped + length c.join_begun-forgotten.new.held.items)
          c.join_begun-forgotten.ensures.extents c.join_begun-forgotten.ensures.kept old.numbered (omega (arith, ap length (held_is c), long));
    }
  where
    never : (k : HeldObject) → ◌≡◌ {A = Option HeldObject} None (Some k) → ⊥
    never k e = cc

-- how many are forgotten, by the length of the order
counted_is : (c : goal.After-self-3-1) (n : ℕ) → n ≡ c.self.inside.dropped + length c.self.inside.held.items → IsCounted c.self.inside.forgotten c.join_begun-forgotten.result n
counted_is c n is = by c.join_begun-forgotten.ensures.kept
  where
    by : (c.join_begun-forgotten.result ≡ c.self.inside.forgotten) ⊎ ((c.join_begun-forgotten.result ≡ c.self.inside.forgotten + 1) × (most_kept ≤ length c.self.inside.extents.items))
        → IsCounted c.self.inside.forgotten c.join_begun-forgotten.result n
    by (inl same) = inl same
    by (inr more) = inr (more.0, omega (arith, more.1, is, c.self.invariant.numbered))

pub returns-clause-stands : goal.returns-clause-stands
returns-clause-stands c = λ s by f stands f-is.
    let w = c.self.inside in
    let h = c.in-Some.begun in
    let p : Settings = w.profile in
    let new = c.end_octets-len.new.ring in
    let octets = round w.ring h.start w.filled in
    let here = subst (λ (v : WindowState). Stands v s) (sym c.self.view_is) stands in
    let long : length octets ≡ octets_of h.cut = (all c).long in
    let cut : h.cut ≡ cut_of (length octets) p.e p.b p.max_n = (begun c).cut ∙ ap (λ n. cut_of n p.e p.b p.max_n) (sym long) in
    let same : filling_in w.ring w.filled h ≡ f = is f (sym (seen c) ∙ f-is) in
    let object : object_in new h ≡ Whole h.kind h.info octets = ap (Whole h.kind h.info) (ap (take (octets_of h.cut)) c.end_octets-len.ensures.ended.octets ∙ octets_taken octets (replicate (taken_by h - w.filled) 0) (octets_of h.cut) long) in
    let moved = stands_filling (window_view w) s new None
    (λ n k e. let at = object_there w.held.items n k e in let o = kept c at.0 k at.1 in (placed_kept w.ring new p k c.end_octets-len.ensures.ended.size o (c.self.invariant.placed at.0 k at.1), o)) here in
    let v : WindowState = record (window_view w) { ring = new; filling = None } in
    let index : c.next_index-index.result ≡ next_index s = c.next_index-index.ensures.exact s stands in
    let joined = stands_joined v s by (Whole h.kind h.info octets) (held.Object h) c.join_begun-forgotten.result (shape_of_extent p (extent.Object c.end_octets-len.result.0)) (Some c.end_octets-len.result.1) None
    (counted_is c (next_index s) here.next)
    (ap (λ n. shape_of_extent p (extent.Object n)) (long ∙ sym c.end_octets-len.ensures.len))
    (new_object v s h (Whole h.kind h.info octets) moved (placed c) (sym object) (begun c).fresh)
    refl
    (sym (ap (λ (at : Option Rattle.fec_plan.specs.Points.Position). Rattle.tx_window.specs.Streams.last_or at w.last)
    (ap (λ i. last_in i (shape_of p (Whole h.kind h.info octets))) (sym index)
    ∙ ap (λ (k : Cut). last_in c.next_index-index.result (record { cut = k; closed = all_symbols k; info = is_some h.info })) (sym cut) ∙ c.end_octets-len.ensures.last (is_some h.info))))
    moved in
    let shapes : drop (c.join_begun-forgotten.result - w.forgotten) (map (shape_of_extent p) w.extents.items ++ shape_of_extent p (extent.Object c.end_octets-len.result.0) ∷ []) ≡ map (shape_of_extent p) c.join_begun-forgotten.new.extents.items =
    shapes_more p (c.join_begun-forgotten.result - w.forgotten) w.extents.items c.join_begun-forgotten.new.extents.items (extent.Object c.end_octets-len.result.0) c.join_begun-forgotten.ensures.extents in
    subst (λ (g : Filling). Stands (record (window_view w) {
      ring = new;
      entries = c.join_begun-forgotten.new.held.items;
      forgotten = c.join_begun-forgotten.result;
      shapes = map (shape_of_extent p) c.join_begun-forgotten.new.extents.items;
      filling = option_map (filling_in new w.filled) c.join_begun-forgotten.new.begun;
      last = Some c.end_octets-len.result.1;
    }) (with_entry (filled_entry by g) s)) same
    (subst (λ (b : Option HeldObject). Stands (record (window_view w) {
      ring = new;
      entries = c.join_begun-forgotten.new.held.items;
      forgotten = c.join_begun-forgotten.result;
      shapes = map (shape_of_extent p) c.join_begun-forgotten.new.extents.items;
      filling = option_map (filling_in new w.filled) b;
      last = Some c.end_octets-len.result.1;
    }) (with_entry (record { by = by; object = Whole h.kind h.info octets }) s)) (sym c.join_begun-forgotten.ensures.begun)
    (subst (λ (xs : List Shape). Stands (record (window_view w) {
      ring = new;
      entries = c.join_begun-forgotten.new.held.items;
      forgotten = c.join_begun-forgotten.result;
      shapes = xs;
      filling = None;
      last = Some c.end_octets-len.result.1;
    }) (with_entry (record { by = by; object = Whole h.kind h.info octets }) s)) shapes
    (subst (λ (es : List HeldEntry). Stands (record (window_view w) {
      ring = new;
      entries = es;
      forgotten = c.join_begun-forgotten.result;
      shapes = drop (c.join_begun-forgotten.result - w.forgotten) (map (shape_of_extent p) w.extents.items ++ shape_of_extent p (extent.Object c.end_octets-len.result.0) ∷ []);
      filling = None;
      last = Some c.end_octets-len.result.1;
    }) (with_entry (record { by = by; object = Whole h.kind h.info octets }) s)) (sym (held_is c)) joined)))
  where
    is : (f : Filling) → Some (filling_in c.self.inside.ring c.self.inside.filled c.in-Some.begun) ≡ Some f → filling_in c.self.inside.ring c.self.inside.filled c.in-Some.begun ≡ f
    is f e = cc
