-- What a union holds and collected as the last object of the order, a stream, grows.
use Rattle.std.proofs.Common.{◌≡◌, ℕ, zero, suc, ◌+◌, ◌-◌, ◌*◌, ◌<◌, ◌≤◌, ◌⊎◌, inl, inr, List, [], ◌∷◌, ◌++◌, length, set, get_or, drop, take, Bool, true, false, Option, None, Some, refl, sym, ap, subst, ◌∙◌, arith, flat_map}
use Rattle.std.specs.Prelude.{IfSome, min, filter, nat_lt, ◌==◌, slice_get}
use Rattle.std.specs.List.{AllByRecursion}
use Rattle.std.proofs.lemmas.Bool.{cases_eq}
use Rattle.std.proofs.lemmas.Bool.Decides.{Decides-eqb, Decides-ltb}
use Rattle.std.proofs.lemmas.List.{map-set, drop-set-add, length-set, get_or-set_same, get_or-set_other}
use Rattle.norm_base.specs.Settings.{Settings}
use Rattle.fec_plan.specs.Partition.{Cut, most_blocks, symbol_number}
use Rattle.fec_plan.specs.Points.{point}
use Rattle.fec_plan.specs.declared.position.Position.{Position}
use Rattle.norm_ext.specs.Asking.{Count, asked_counts}
use Rattle.norm_order.specs.Entries.{Part, Object, Stream, Entry}
use Rattle.norm_order.specs.Sets.{with_members}
use Rattle.norm_order.specs.Shapes.{Shape, shape_of, shapes_of}
use Rattle.norm_send_rules.specs.SenderState.{SenderState, Asked}
use Rattle.norm_send_rules.specs.InWindow.{stands_behind, current_shapes, next_index}
use Rattle.norm_send_rules.specs.Asking.{closed_at, shapes_at, as_it_came, asks_for, is_kept, wants_of, counts_of}
use Rattle.norm_send_rules.specs.Closing.{greatest}
use Rattle.norm_send_rules.specs.Streaming.{with_last, with_parts}
use Rattle.norm_send_rules.specs.Wants.{want_before}
use Rattle.norm_send_rules.specs.declared.want.Want.{Want}
use Rattle.nack_union.specs.Kept.{Marked, Kept, Holds, CanGrow, MayGrow, OfLast, grown_to, shape_of_marked}
use Rattle.nack_union.specs.Collected.{Collects, IsKnownIn}
use Rattle.nack_union.proofs.Orders.{same_at}
use Rattle.nack_union.proofs.Rooms.{rooms_set}
use Rattle.nack_union.proofs.Fronts.{fronts_set}
use Rattle.nack_union.proofs.Collecting.{window_shape}
use Rattle.nack_union.proofs.Collections.{collects_kept, any_default}
use Rattle.std.proofs.lemmas.Option.{slice_get_within, get_or_from_slice_get}
use Rattle.nack_union.specs.UnionState.{UnionState, Stands}
use Rattle.nack_union.specs.Laws.{StreamsGrow}
use Rattle.nack_union.specs.Kept.{asked_so_far}

-- an order whose last entry has another object
pub last_set : (p : Settings) (object : Object) (order : List Entry) → shapes_of p (with_last object order) ≡ set (shapes_of p order) (length order - 1) (shape_of p object)
last_set p object [] = refl
last_set p object (entry ∷ []) = refl
last_set p object (entry ∷ next ∷ order) =
    ap (λ (xs : List Shape). shape_of p entry.object ∷ xs)
    (last_set p object (next ∷ order) ∙ ap (λ n. set (shapes_of p (next ∷ order)) n (shape_of p object)) (let e : length (next ∷ order) - 1 ≡ length order = omega arith in e))
    ∙ ap (λ n. set (shapes_of p (entry ∷ next ∷ order)) n (shape_of p object)) (let e : suc (length order) ≡ length (entry ∷ next ∷ order) - 1 = omega arith in e)

pub length-with_last : (object : Object) (order : List Entry) → length (with_last object order) ≡ length order
length-with_last object [] = refl
length-with_last object (entry ∷ []) = refl
length-with_last object (entry ∷ next ∷ order) = ap suc (length-with_last object (next ∷ order))

-- of a shape as many were closed as of another of the same cut
same_shape : (s t : Shape) (was now : ℕ) → t.cut ≡ s.cut → now ≡ was → t.info ≡ s.info
    → (let x : Shape = record t { closed = now } in x) ≡ record s { closed = was }
same_shape s t was now cut is info =
    ap (λ (c : Cut). let x : Shape = record { cut = c; closed = now; info = t.info } in x) cut
    ∙ ap (λ (n : ℕ). let x : Shape = record { cut = s.cut; closed = n; info = t.info } in x) is
    ∙ ap (λ (b : Bool). let x : Shape = record { cut = s.cut; closed = was; info = b } in x) info

-- shapes of which one is longer stood as they did
pub then_same : (last : Option Position) (index n k : ℕ) (xs : List Shape) (x y : Shape) → slice_get xs k ≡ Some x → y.cut ≡ x.cut → y.info ≡ x.info
    → closed_at last (index + k) y ≡ closed_at last (index + k) x → shapes_at last index (take n (set xs k y)) ≡ shapes_at last index (take n xs)
unfolding shapes_at
then_same last index zero k xs x y is cut info closed = refl
then_same last index (suc n) k [] x y is cut info closed = refl
then_same last index (suc n) zero (z ∷ xs) x y is cut info closed =
    ap (λ (s : Shape). s ∷ shapes_at last (index + 1) (take n xs))
    (same_shape z y (closed_at last index z) (closed_at last index y) (cut ∙ ap (λ (s : Shape). s.cut) (sym (same is)))
    (ap (λ i. closed_at last i y) (let e : index ≡ index + 0 = omega arith in e) ∙ closed ∙ ap (λ (s : Shape). closed_at last (index + 0) s) (sym (same is)) ∙ ap (λ i. closed_at last i z) (let e : index + 0 ≡ index = omega arith in e))
    (info ∙ ap (λ (s : Shape). s.info) (sym (same is))))
  where
    same : Some z ≡ Some x → z ≡ x
    same g = cc
then_same last index (suc n) (suc k) (z ∷ xs) x y is cut info closed =
    ap (λ (ss : List Shape). (let s : Shape = record z { closed = closed_at last index z } in s) ∷ ss)
    (then_same last (index + 1) n k xs x y is cut info
    (ap (λ i. closed_at last i y) (let e : index + 1 + k ≡ index + suc k = omega arith in e) ∙ closed ∙ ap (λ i. closed_at last i x) (let e : index + suc k ≡ index + 1 + k = omega arith in e)))

not_true : (b : Bool) → (b ≡ true → ⊥) → b ≡ false
not_true true h = absurd (h refl)
not_true false h = refl

-- what was closed as a request came is closed as before, where the shape is the last one
abbrev by_place : Bool → Bool → ℕ → ℕ → ℕ
by_place here past some all = elim here [ true ↦ some | false ↦ elim past [ true ↦ 0 | false ↦ all ] ]

pub closed_then : (last : Option Position) (index : ℕ) (x y : Shape) → y.cut ≡ x.cut → x.closed ≤ y.closed
    → IfSome last (λ at. (at.index ≤ index) × (at.index ≡ index → symbol_number x.cut at.block at.symbol + 1 ≤ x.closed))
    → closed_at last index y ≡ closed_at last index x
closed_then None index x y cut le known = refl
closed_then (Some at) index x y cut le known = go (cases_eq at.index index)
  where
    go : (at.index ≡ index) ⊎ (at.index ≡ index → ⊥) → closed_at (Some at) index y ≡ closed_at (Some at) index x
    go (inl e) =
        let few = known.1 e in
        let number = ap (λ (c : Cut). symbol_number c at.block at.symbol) cut in
        ap (λ b. by_place b (nat_lt at.index index) (min y.closed (symbol_number y.cut at.block at.symbol + 1)) y.closed) ((Decides-eqb at.index index).1 e)
        ∙ (let m : min y.closed (symbol_number y.cut at.block at.symbol + 1) ≡ min x.closed (symbol_number x.cut at.block at.symbol + 1) = omega (arith, few, number, le) in m)
        ∙ sym (ap (λ b. by_place b (nat_lt at.index index) (min x.closed (symbol_number x.cut at.block at.symbol + 1)) x.closed) ((Decides-eqb at.index index).1 e))
    go (inr ne) =
        let less : at.index < index = let most = known.0 in omega (arith, most, ne) in
        none y less ∙ sym (none x less)
      where
        none : (s : Shape) → at.index < index → closed_at (Some at) index s ≡ 0
        none s less =
            ap (λ b. by_place b (nat_lt at.index index) (min s.closed (symbol_number s.cut at.block at.symbol + 1)) s.closed) (not_true (at.index == index) (λ e. ne ((Decides-eqb at.index index).0 e)))
            ∙ ap (λ b. by_place false b (min s.closed (symbol_number s.cut at.block at.symbol + 1)) s.closed) ((Decides-ltb at.index index).1 less)

flat_all : {X : Type 0} (f g : Asked → List X) (asked : List Asked) → AllByRecursion (λ (a : Asked). f a ≡ g a) asked → flat_map f asked ≡ flat_map g asked
flat_all f g [] same = refl
flat_all f g (a ∷ asked) same = ap (λ xs. xs ++ flat_map f asked) same.0 ∙ ap (λ xs. g a ++ xs) (flat_all f g asked same.1)

-- A stream is the last object of the order and of the window, and has more parts.
module _ (p : Settings) (s : SenderState) (u : Kept) (asked : List Asked) (parts : List Part) (k : ℕ) (d : Marked) (st : Holds p u s) (here : k + 1 ≡ length u.objects)
    (same : (shape_of p (Stream parts)).cut ≡ (get_or u.objects k d).cut) (info : false ≡ (get_or u.objects k d).info) (more : (get_or u.objects k d).closed ≤ (shape_of p (Stream parts)).closed) where
  abbrev new : Marked
  new = record (get_or u.objects k d) { closed = (shape_of p (Stream parts)).closed }

  abbrev grown : Kept
  grown = record u { objects = set u.objects k new }

  abbrev later : SenderState
  later = with_parts parts s

  lt : k < length u.objects
  lt = omega (arith, here)

  place : next_index s - 1 ≡ u.first + k
  place = let next = st.next in omega (arith, next, here)

  shape_new : shape_of p (Stream parts) ≡ shape_of_marked new
  shape_new =
      ap (λ (c : Cut). let x : Shape = record { cut = c; closed = (shape_of p (Stream parts)).closed; info = false } in x) same
      ∙ ap (λ (b : Bool). let x : Shape = record { cut = (get_or u.objects k d).cut; closed = (shape_of p (Stream parts)).closed; info = b } in x) info

  shapes_new : current_shapes p later ≡ set (current_shapes p s) (u.first + k) (shape_of_marked new)
  shapes_new =
      last_set p (Stream parts) s.current.order
      ∙ ap (λ n. set (current_shapes p s) n (shape_of p (Stream parts))) place
      ∙ ap (set (current_shapes p s) (u.first + k)) shape_new

  pub holds_grown : Holds p grown later
  holds_grown = record {
    first = st.first;
    fronts = fronts_set s.current.drop.block u.objects k new d refl st.fronts;
    next = ap (λ n. u.first + n) (length-set u.objects k new) ∙ st.next ∙ sym (length-with_last (Stream parts) s.current.order);
    shapes =
        map-set shape_of_marked u.objects k new ∙ ap (λ xs. set xs k (shape_of_marked new)) st.shapes
        ∙ sym (drop-set-add u.first (current_shapes p s) k (shape_of_marked new)) ∙ ap (drop u.first) (sym shapes_new);
    wants = same_at (λ m. m.wants) u.first k u.objects new d lt refl ∙ st.wants;
    rise = st.rise;
    sent = same_at (λ m. m.sent) u.first k u.objects new d lt refl ∙ st.sent;
    rooms = rooms_set p u.objects k new d refl refl refl st.rooms;
  }

  came_same : (a : Asked) → IsKnownIn u (next_index s) a → as_it_came a (current_shapes p later) ≡ as_it_came a (current_shapes p s)
  came_same a known =
      ap (λ (xs : List Shape). shapes_at a.last 0 (take a.next xs)) shapes_new
      ∙ then_same a.last 0 a.next (u.first + k) (current_shapes p s) (shape_of_marked (get_or u.objects k d)) (shape_of_marked new) (window_shape p s u k d st lt) refl refl
      (closed_then a.last (0 + (u.first + k)) (shape_of_marked (get_or u.objects k d)) (shape_of_marked new) refl more (by a.last known.last))
    where
      by : (last : Option Position)
          → IfSome last (λ at. (at.index < next_index s) × ((j : ℕ) (e : Marked) → j < length u.objects → at.index ≡ u.first + j
          → symbol_number (get_or u.objects j e).cut at.block at.symbol + 1 ≤ (get_or u.objects j e).closed))
          → IfSome last (λ at. (at.index ≤ 0 + (u.first + k)) × (at.index ≡ 0 + (u.first + k)
          → symbol_number (get_or u.objects k d).cut at.block at.symbol + 1 ≤ (get_or u.objects k d).closed))
      by None known = known
      by (Some at) known = ((let less = known.0 in let next = st.next in omega (arith, less, next, here)), λ e. known.1 k d lt (let f : at.index ≡ u.first + k = omega (arith, e) in f))

  all_came : (asked : List Asked) → AllByRecursion (IsKnownIn u (next_index s)) asked
      → AllByRecursion (λ (a : Asked). wants_of (current_shapes p later) a ≡ wants_of (current_shapes p s) a) asked
      × AllByRecursion (λ (a : Asked). counts_of (current_shapes p later) a ≡ counts_of (current_shapes p s) a) asked
  all_came [] known = (tt, tt)
  all_came (a ∷ asked) known =
      let rest = all_came asked known.1 in
      let came = came_same a known.0 in (
        (ap (λ shapes. asks_for shapes a.request) came, rest.0),
        (ap (λ shapes. filter (λ (c : Count). is_kept shapes a.first c.of) (asked_counts a.request)) came, rest.1),
      )

  known_one : (a : Asked) → IsKnownIn u (next_index s) a → IsKnownIn grown (next_index s) a
  known_one a known = record { next = known.next; last = by a.last known.last }
    where
      still : (at : Position) (j : ℕ) (e : Marked) → j < length u.objects → (j ≡ k) ⊎ (j ≡ k → ⊥)
          → symbol_number (get_or u.objects j e).cut at.block at.symbol + 1 ≤ (get_or u.objects j e).closed
          → symbol_number (get_or (set u.objects k new) j e).cut at.block at.symbol + 1 ≤ (get_or (set u.objects k new) j e).closed
      still at j e less (inl at_k) le =
          let now : get_or (set u.objects k new) j e ≡ new = ap (λ i. get_or (set u.objects k new) i e) at_k ∙ get_or-set_same u.objects k new e lt in
          let was : get_or u.objects j e ≡ get_or u.objects k d = ap (λ i. get_or u.objects i e) at_k ∙ any_default u.objects k e d lt in
          let number = ap (λ (m : Marked). symbol_number m.cut at.block at.symbol) now ∙ ap (λ (m : Marked). symbol_number m.cut at.block at.symbol) (sym was) in
          let many = ap (λ (m : Marked). m.closed) now in
          let before = ap (λ (m : Marked). m.closed) was in
          omega (arith, le, number, many, before, more)
      still at j e less (inr other) le =
          subst (λ (m : Marked). symbol_number m.cut at.block at.symbol + 1 ≤ m.closed) (sym (get_or-set_other u.objects k j new e other)) le

      by : (last : Option Position)
          → IfSome last (λ at. (at.index < next_index s) × ((j : ℕ) (e : Marked) → j < length u.objects → at.index ≡ u.first + j
          → symbol_number (get_or u.objects j e).cut at.block at.symbol + 1 ≤ (get_or u.objects j e).closed))
          → IfSome last (λ at. (at.index < next_index s) × ((j : ℕ) (e : Marked) → j < length (set u.objects k new) → at.index ≡ u.first + j
          → symbol_number (get_or (set u.objects k new) j e).cut at.block at.symbol + 1 ≤ (get_or (set u.objects k new) j e).closed))
      by None h = h
      by (Some at) h = (
        h.0,
        λ j e less is. let within : j < length u.objects = let many = length-set u.objects k new in omega (arith, less, many) in still at j e within (cases_eq j k) (h.1 j e within is),
      )

  all_known : (asked : List Asked) → AllByRecursion (IsKnownIn u (next_index s)) asked → AllByRecursion (IsKnownIn grown (next_index s)) asked
  all_known [] known = tt
  all_known (a ∷ asked) known = (known_one a known.0, all_known asked known.1)

  pub collects_grown : Collects p u s asked → Collects p grown later asked
  collects_grown col =
      let still = all_known asked col.known in
      let kept = collects_kept p s u asked k new d lt refl refl refl still col in
      let same_all = all_came asked col.known in
      record {
        earliest = kept.earliest;
        known = subst (λ n. AllByRecursion (IsKnownIn grown n) asked) (sym (length-with_last (Stream parts) s.current.order)) still;
        named = kept.named ∙ ap (λ (ws : List Want). with_members want_before (filter (stands_behind s.current.drop) ws) []) (sym (flat_all (wants_of (current_shapes p later)) (wants_of (current_shapes p s)) asked same_all.0));
        counts = λ j e less block from.
            kept.counts j e less block from
            ∙ ap (λ (cs : List Count). greatest cs (point (u.first + j) block)) (sym (flat_all (counts_of (current_shapes p later)) (counts_of (current_shapes p s)) asked same_all.1));
      }

-- a place within a list has an element
pub some_at : (ms : List Marked) (i : ℕ) → i < length ms → (m : Marked) × (slice_get ms i ≡ Some m)
some_at [] i lt = absurd (omega arith)
some_at (m ∷ ms) zero lt = (m, refl)
some_at (m ∷ ms) (suc i) lt = some_at ms i (omega arith)

-- what may grow can
pub last_can_grow : (closed : ℕ) (u : UnionState) → OfLast (MayGrow u.p closed) u.kept → OfLast (CanGrow closed) u.kept
last_can_grow closed u may = record { some = may.some; last = λ m is. can m (may.last m is) }
  where
    can : (m : Marked) → MayGrow u.p closed m → CanGrow closed m
    can m may = record {
      stream = ap (λ (x : Cut). x.l) may.cut;
      more = may.more;
      room = subst (λ (x : Cut). closed ≤ min (length m.counts) most_blocks * x.b) (sym may.cut) may.room;
    }

-- the law
pub streams_grow : StreamsGrow
streams_grow u s parts m stands there cut info more =
    let k : ℕ = length u.kept.objects - 1 in
    let lt : k < length u.kept.objects = slice_get_within u.kept.objects k m there in
    let same : get_or u.kept.objects k m ≡ m = get_or_from_slice_get u.kept.objects k m m there in
    let grown_m : Marked → Marked = λ (x : Marked). record x { closed = (shape_of u.p (Stream parts)).closed } in
    let here : k + 1 ≡ length u.kept.objects = omega (arith, lt) in
    let of_cut : (shape_of u.p (Stream parts)).cut ≡ (get_or u.kept.objects k m).cut = sym cut ∙ ap (λ (x : Marked). x.cut) (sym same) in
    let of_info : false ≡ (get_or u.kept.objects k m).info = sym info ∙ ap (λ (x : Marked). x.info) (sym same) in
    let of_closed : (get_or u.kept.objects k m).closed ≤ (shape_of u.p (Stream parts)).closed = let is = ap (λ (x : Marked). x.closed) same in omega (arith, more, is) in
    let v : Marked → Kept = λ (x : Marked). record (u.kept) { objects = set u.kept.objects k (grown_m x) } in
    record {
      holds = subst (λ (x : Marked). Holds u.p (v x) (with_parts parts s)) same
          (holds_grown u.p s u.kept (asked_so_far s) parts k m stands.holds here of_cut of_info of_closed);
      collects = subst (λ (x : Marked). Collects u.p (v x) (with_parts parts s) (asked_so_far s)) same
          (collects_grown u.p s u.kept (asked_so_far s) parts k m stands.holds here of_cut of_info of_closed stands.collects);
    }

-- a union whose last object, a stream, grew stands for the state whose stream did
pub union_grown : (u : UnionState) (s : SenderState) (parts : List Part) (closed : ℕ) → OfLast (MayGrow u.p closed) u.kept → closed ≡ (shape_of u.p (Stream parts)).closed
    → (new : UnionState) → ((m : Marked) → slice_get u.kept.objects (length u.kept.objects - 1) ≡ Some m → new ≡ record u { kept = grown_to closed m u.kept })
    → Stands u s → Stands new (with_parts parts s)
union_grown u s parts closed may is new grew stands =
    let k : ℕ = length u.kept.objects - 1 in
    let at = some_at u.kept.objects k (let some = may.some in omega (arith, some)) in
    let m : Marked = at.0 in
    let can = may.last m at.1 in
    subst (λ (v : UnionState). Stands v (with_parts parts s)) (sym (grew m at.1 ∙ ap (λ (n : ℕ). grew_to n m) is))
    (streams_grow u s parts m stands at.1 can.cut can.info (subst (λ (n : ℕ). m.closed ≤ n) is can.more))
  where
    grew_to : ℕ → Marked → UnionState
    grew_to n m = record u { kept = grown_to n m u.kept }
