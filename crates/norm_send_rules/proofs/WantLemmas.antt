-- What keeps the wants in order, of the order, and in the window.
use Rattle.std.proofs.Common.{◌≡◌, cond, List, [], ◌∷◌, ◌++◌, Bool, true, false, Option, None, Some, refl, sym, ap, subst, ◌∙◌}
use Rattle.std.specs.Prelude.{filter, reverse, unwrap_or, is_none}
use Rattle.std.proofs.lemmas.List.{reverse-reverse}
use Rattle.std.proofs.lemmas.Grind.{reverse_onto}
use Rattle.norm_base.specs.Settings.{Settings}
use Rattle.norm_base.specs.declared.node.Origin.{Origin}
use Rattle.fec_plan.specs.Points.{Point}
use Rattle.norm_order.specs.First.{first_where}
use Rattle.norm_order.specs.Entries.{Part, Object, Whole, Stream, Entry}
use Rattle.norm_order.specs.Segments.{has_end}
use Rattle.norm_order.specs.Shapes.{shapes_of}
use Rattle.norm_send_rules.specs.SenderState.{SenderState, Instance}
use Rattle.norm_send_rules.specs.Wants.{want_before}
use Rattle.norm_send_rules.specs.InWindow.{stands_behind, last_index, current_shapes}
use Rattle.norm_send_rules.specs.Dropping.{dropped_to}
use Rattle.norm_send_rules.specs.Watermarks.{keeps_oldest, counted_anew}
use Rattle.norm_send_rules.specs.Room.{size_of, window, has_to_go, drop_after, stream_drop}
use Rattle.norm_send_rules.specs.Enqueuing.{open_parts, open_stream, joined}
use Rattle.norm_send_rules.specs.Streaming.{with_last, with_parts, parts_now, used_segments, grown}
use Rattle.norm_send_rules.specs.Laws.{Rise, is_of_order, WantsHold}
use Rattle.norm_send_rules.specs.declared.want.Want.{Want}
use Rattle.norm_send_rules.proofs.ClosingLemmas.{Each, kept_passes}
use Rattle.norm_send_rules.proofs.ShapeLemmas.{Blocks, HaveAll, have_all_joined, have_all_longer}
use Rattle.norm_send_rules.proofs.AskingLemmas.{all_filtered, all_implied, of_more}

-- Steps that leave order, drop point and wants as they were.

abbrev pub Same : SenderState → SenderState → Type 0
Same s t = (t.current ≡ s.current) × (t.wants ≡ s.wants)

pub same_both : (s t u : SenderState) → Same s t → Same t u → Same s u
same_both s t u h k = (k.0 ∙ h.0, k.1 ∙ h.1)

pub same_by : (b : Bool) (s t u : SenderState) → Same s t → Same s u → Same s (elim b [ true ↦ t | false ↦ u ])
same_by true s t u h k = h
same_by false s t u h k = k

-- a step by a test
abbrev pub either : {A : Type 0} → Bool → SenderState × A → SenderState × A → SenderState × A
either b t u = elim b [ true ↦ t | false ↦ u ]

pub same_step : {A : Type 0} (b : Bool) (s : SenderState) (t u : SenderState × A) → Same s t.0 → Same s u.0
    → Same s (either b t u).0
same_step true s t u h k = h
same_step false s t u h k = k

pub anew : (s old new : SenderState) → Same s new → Same s (counted_anew old new)
anew s old new h = same_by (keeps_oldest old new) s new (record new { flushes = 0 }) h h

pub hold_same : (p : Settings) (s t : SenderState) → Same s t → WantsHold p s → WantsHold p t
hold_same p s t same h = record {
  rise = subst Rise (sym same.1) h.rise;
  of_order = subst (λ (i : Instance). Each (is_of_order (shapes_of p i.order)) t.wants) (sym same.0)
      (subst (λ (wants : List Want). Each (is_of_order (shapes_of p s.current.order)) wants) (sym same.1) h.of_order);
  in_window = subst (λ (i : Instance). Each (stands_behind i.drop) t.wants) (sym same.0)
      (subst (λ (wants : List Want). Each (stands_behind s.current.drop) wants) (sym same.1) h.in_window);
}

-- Dropping.

rise_filtered : (test : Want → Bool) (wants : List Want) → Rise wants → Rise (filter test wants)
rise_filtered test [] rise = tt
rise_filtered test (w ∷ wants) rise = go (test w) (all_filtered (λ other. want_before w other ≡ true) test wants rise.0) (rise_filtered test wants rise.1)
  where
    go : (b : Bool) → Each (want_before w) (filter test wants) → Rise (filter test wants) → Rise (cond b (w ∷ filter test wants) (filter test wants))
    go true head rest = (head, rest)
    go false head rest = rest

pub drops : (p : Settings) (point : Point) (s : SenderState) → WantsHold p s → WantsHold p (dropped_to point s)
drops p point s h = record {
  rise = rise_filtered (stands_behind point) s.wants h.rise;
  of_order = all_filtered (λ w. is_of_order (current_shapes p s) w ≡ true) (stands_behind point) s.wants h.of_order;
  in_window = kept_passes (stands_behind point) s.wants;
}

-- Orders that grow.

abbrev with_order : List Entry → SenderState → SenderState
with_order order s = record s { current = record (s.current) { order = order } }

grows : (p : Settings) (s : SenderState) (order : List Entry) → HaveAll (current_shapes p s) (shapes_of p order) → WantsHold p s
    → WantsHold p (with_order order s)
grows p s order all h = record {
  rise = h.rise;
  of_order = all_implied (λ w. is_of_order (current_shapes p s) w ≡ true) (λ w. is_of_order (shapes_of p order) w ≡ true) s.wants
      (λ w e. of_more (current_shapes p s) (shapes_of p order) w all e) h.of_order;
  in_window = h.in_window;
}

pub joins : (p : Settings) → Blocks p → (by : Origin) (object : Object) (s : SenderState) → WantsHold p s → WantsHold p (joined p by object s)
joins p blocks by object s h =
    let room = drop_after s.current.drop (has_to_go p (size_of p object) (window s)) in
    grows p (dropped_to room s) (s.current.order ++ record { by = by; object = object } ∷ [])
    (have_all_joined p blocks s.current.order (record { by = by; object = object } ∷ [])) (drops p room s h)

-- a step that is refused where a fault was found
abbrev pub where_free : {F A : Type 0} → Option F → SenderState → SenderState → (F → A) → A → SenderState × A
where_free found s after refused given = elim found [ Some fault ↦ (s, refused fault) | None ↦ (after, given) ]

pub unless : {F A : Type 0} (p : Settings) (found : Option F) (s after : SenderState) (refused : F → A) (given : A) → WantsHold p s
    → (found ≡ None → WantsHold p after)
    → WantsHold p (where_free found s after refused given).0
unless p None s after refused given h k = k refl
unless p (Some fault) s after refused given h k = h

-- The last entry's stream goes on.

pub with_last_is : (object : Object) (front : List Entry) (last : Entry)
    → with_last object (front ++ last ∷ []) ≡ front ++ record last { object = object } ∷ []
with_last_is object [] last = refl
with_last_is object (x ∷ []) last = refl
with_last_is object (x ∷ y ∷ front) last = ap (λ rest. x ∷ rest) (with_last_is object (y ∷ front) last)

never_some : (parts : List Part) → None ≡ Some parts → ⊥
never_some parts e = cc

same_parts : (xs ys : List Part) → Some xs ≡ Some ys → xs ≡ ys
same_parts xs ys e = cc

-- an open object is a stream that did not end
is_stream : (object : Object) (parts : List Part) → open_parts object ≡ Some parts → (object ≡ Stream parts) × (has_end parts ≡ false)
is_stream (Whole kind info octets) parts e = absurd (never_some parts e)
is_stream (Stream now) parts e = go (has_end now) refl e
  where
    go : (b : Bool) → has_end now ≡ b → elim b [ true ↦ None | false ↦ Some now ] ≡ Some parts → (Stream now ≡ Stream parts) × (has_end parts ≡ false)
    go true is none = absurd (never_some parts none)
    go false is found = let same = same_parts now parts found in (ap Stream same, subst (λ (x : List Part). has_end x ≡ false) same is)

-- the order ends with an open stream of these parts
abbrev pub EndsOpen : List Entry → List Part → Type 0
EndsOpen order parts = (front : List Entry) × (last : Entry) × (order ≡ front ++ last ∷ []) × (last.object ≡ Stream parts) × (has_end parts ≡ false)

pub ends_open : (order : List Entry) (parts : List Part)
    → elim (reverse order) [ [] ↦ None | entry ∷ entries ↦ open_parts entry.object ] ≡ Some parts → EndsOpen order parts
ends_open order parts e = go (reverse order) refl e
  where
    go : (turned : List Entry) → reverse order ≡ turned → elim turned [ [] ↦ None | entry ∷ entries ↦ open_parts entry.object ] ≡ Some parts
        → EndsOpen order parts
    go [] is none = absurd (never_some parts none)
    go (entry ∷ entries) is found = let stream = is_stream entry.object parts found in (
      reverse entries,
      entry,
      sym (reverse-reverse order) ∙ ap reverse is ∙ reverse_onto entries entry [],
      stream.0,
      stream.1,
    )

-- an open stream that goes on has all that it had
pub goes_longer : (p : Settings) → Blocks p → (order : List Entry) (parts more : List Part) → EndsOpen order parts
    → HaveAll (shapes_of p order) (shapes_of p (with_last (Stream (parts ++ more)) order))
goes_longer p blocks order parts more ends =
    subst (λ (order : List Entry). HaveAll (shapes_of p order) (shapes_of p (with_last (Stream (parts ++ more)) order))) (sym ends.2)
    (subst (λ (order : List Entry). HaveAll (shapes_of p (ends.0 ++ ends.1 ∷ [])) (shapes_of p order)) (sym (with_last_is (Stream (parts ++ more)) ends.0 ends.1))
    (have_all_longer p blocks ends.0 ends.1 (record (ends.1) { object = Stream (parts ++ more) }) parts more ends.4 ends.3 refl))

pub goes_on : (p : Settings) → Blocks p → (s : SenderState) (parts more : List Part) → open_stream s ≡ Some parts → WantsHold p s
    → WantsHold p (with_parts (parts ++ more) s)
goes_on p blocks s parts more e h =
    grows p s (with_last (Stream (parts ++ more)) s.current.order) (goes_longer p blocks s.current.order parts more (ends_open s.current.order parts e)) h

-- where a stream is open, its parts now are these, and they go on
goes_on_now : (p : Settings) → Blocks p → (s : SenderState) (more : List Part) → is_none (open_stream s) ≡ false → WantsHold p s
    → WantsHold p (with_parts (parts_now s ++ more) s)
goes_on_now p blocks s more is h = go (open_stream s) refl is
  where
    clash : true ≡ false → ⊥
    clash k = cc

    go : (found : Option (List Part)) → open_stream s ≡ found → is_none found ≡ false → WantsHold p (with_parts (unwrap_or found [] ++ more) s)
    go None e none = absurd (clash none)
    go (Some parts) e there = goes_on p blocks s parts more e h

pub grown_holds : (p : Settings) → Blocks p → (s : SenderState) (more : List Part) → is_none (open_stream s) ≡ false → WantsHold p s
    → WantsHold p (grown p s (parts_now s ++ more))
grown_holds p blocks s more is h =
    let point = stream_drop p s (last_index s) (used_segments p (parts_now s ++ more)) in
    goes_on_now p blocks (dropped_to point s) more is (drops p point s h)

-- a table that no row of applies to
pub no_row : {X : Type 0} (test : Bool) (x : X) (rows : List (Bool × X)) → first_where ((test, x) ∷ rows) ≡ None
    → (test ≡ false) × (first_where rows ≡ None)
unfolding first_where
no_row true x rows e = absurd (some x e)
  where
    some : {X : Type 0} (y : X) → Some y ≡ None → ⊥
    some y h = cc
no_row false x rows e = (refl, e)
