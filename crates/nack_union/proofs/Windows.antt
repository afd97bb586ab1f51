-- What a union collected stays as objects enter and leave the window.
use Rattle.std.proofs.Common.{◌≡◌, ℕ, zero, suc, ◌+◌, ◌-◌, ◌<◌, ◌≤◌, ◌⊎◌, inl, inr, List, [], ◌∷◌, ◌++◌, map, length, get_or, take, drop, replicate, Bool, true, false, Option, Some, None, refl, sym, ap, subst, ◌∙◌, cond, arith, flat_map}
use Rattle.std.specs.Prelude.{IfSome, not, ◌&&◌, nat_lt, filter, slice_get}
use Rattle.std.specs.List.{AllByRecursion, range_with_len}
use Rattle.std.proofs.lemmas.Bool.{cases_lt, le-ltb}
use Rattle.std.proofs.lemmas.List.{length-drop, length-take, take-append-le, length-append, length-map, map-append, get_or-map, get_or_past}
use Rattle.std.proofs.lemmas.List.FromFn.{length-range_with_len, get_or-range_with_len}
use Rattle.norm_base.specs.Settings.{Settings}
use Rattle.fec_plan.specs.Partition.{symbol_number}
use Rattle.fec_plan.specs.Points.{Point, point, point_before}
use Rattle.fec_plan.specs.declared.position.Position.{Position}
use Rattle.norm_ext.specs.Asking.{Count, asked_counts}
use Rattle.norm_order.specs.Entries.{Entry}
use Rattle.norm_order.specs.Sets.{with_member, with_members}
use Rattle.norm_order.specs.Shapes.{Shape, shape_of, at_index, closed_in}
use Rattle.norm_send_rules.specs.SenderState.{SenderState, Asked}
use Rattle.norm_send_rules.specs.InWindow.{stands_behind, current_shapes, next_index}
use Rattle.norm_send_rules.specs.Asking.{wants_of, counts_of, as_it_came, shapes_at, asks_for, is_kept}
use Rattle.norm_send_rules.specs.Closing.{greatest}
use Rattle.norm_send_rules.specs.Dropping.{dropped_to}
use Rattle.norm_send_rules.specs.Enqueuing.{with_entry}
use Rattle.norm_send_rules.specs.Laws.{Rise}
use Rattle.norm_send_rules.specs.Wants.{want_before}
use Rattle.norm_send_rules.specs.declared.want.Want.{Want}
use Rattle.norm_send_rules.proofs.ClosingLemmas.{rise_more}
use Rattle.nack_union.specs.Kept.{Marked, Kept, Holds, with_object, moved_on, moved_front, from_block}
use Rattle.nack_union.specs.Collected.{Collects, IsKnownIn}
use Rattle.nack_union.proofs.Collecting.{some_greatest, past_end}
use Rattle.nack_union.proofs.Dropped.{filter_twice}
use Rattle.nack_union.proofs.Fronts.{filter_with_want, listed_front, behind_both, some_first}
use Rattle.nack_union.proofs.Standing.{drop_onward, length-moved_front}
use Rattle.nack_union.proofs.Idle.{at_front, at_end, zeros}
use Rattle.nack_union.proofs.Lists.{In, in_flat, in_filter}
use Rattle.nack_union.proofs.Orders.{joined_at}
use Rattle.nack_union.proofs.Unions.{Side, side, in_front, further, there}

-- one that does not pass adds nothing to what passes
passes_not : (test : Want → Bool) (x : Want) (ws : List Want) → test x ≡ false → filter test (with_member want_before x ws) ≡ filter test ws
unfolding with_member
passes_not test x [] e = ap (λ b. cond b (x ∷ []) []) e
passes_not test x (w ∷ ws) e = go (side x w) (passes_not test x ws e)
  where
    go : Side x w → filter test (with_member want_before x ws) ≡ filter test ws → filter test (with_member want_before x (w ∷ ws)) ≡ filter test (w ∷ ws)
    go (inl h) rest = ap (filter test) (in_front x w ws h.0) ∙ ap (λ b. cond b (x ∷ filter test (w ∷ ws)) (filter test (w ∷ ws))) e
    go (inr (inl same)) rest = ap (λ v. filter test (with_member want_before v (w ∷ ws))) same ∙ ap (filter test) (there w ws)
    go (inr (inr h)) rest = ap (filter test) (further x w ws h.0 h.1) ∙ ap (λ zs. cond (test w) (w ∷ zs) zs) rest

-- what stands behind a drop point of a set
filter_set : (d : Point) (xs ws : List Want) → Rise ws
    → filter (stands_behind d) (with_members want_before xs ws) ≡ with_members want_before (filter (stands_behind d) xs) (filter (stands_behind d) ws)
filter_set d [] ws rise = refl
filter_set d (x ∷ xs) ws rise = filter_set d xs (with_member want_before x ws) (rise_more (x ∷ []) ws rise) ∙ go (stands_behind d x) refl
  where
    go : (b : Bool) → stands_behind d x ≡ b
        → with_members want_before (filter (stands_behind d) xs) (filter (stands_behind d) (with_member want_before x ws))
        ≡ with_members want_before (cond b (x ∷ filter (stands_behind d) xs) (filter (stands_behind d) xs)) (filter (stands_behind d) ws)
    go true e = ap (with_members want_before (filter (stands_behind d) xs)) (filter_with_want d x ws e rise)
    go false e = ap (with_members want_before (filter (stands_behind d) xs)) (passes_not (stands_behind d) x ws e)

get_drop : (n : ℕ) (ms : List Marked) (k : ℕ) (d : Marked) → n + k < length ms → get_or (drop n ms) k d ≡ get_or ms (n + k) d
get_drop zero ms k d lt = ap (λ i. get_or ms i d) (let e : k ≡ 0 + k = omega arith in e)
get_drop (suc n) [] k d lt = absurd (omega arith)
get_drop (suc n) (m ∷ ms) k d lt = get_drop n ms k d (omega arith) ∙ ap (λ i. get_or (m ∷ ms) i d) (let e : suc (n + k) ≡ suc n + k = omega arith in e)

-- what is known of requests stays where the first n objects are dropped
known_dropped : (u : Kept) (n many : ℕ) (asked : List Asked) → AllByRecursion (IsKnownIn u many) asked
    → AllByRecursion (IsKnownIn (record u { first = u.first + n; objects = drop n u.objects }) many) asked
known_dropped u n many [] known = tt
known_dropped u n many (a ∷ asked) known = (record { next = known.0.next; last = by a.last known.0.last }, known_dropped u n many asked known.1)
  where
    by : (last : Option Position)
        → IfSome last (λ at. (at.index < many) × ((j : ℕ) (e : Marked) → j < length u.objects → at.index ≡ u.first + j
        → symbol_number (get_or u.objects j e).cut at.block at.symbol + 1 ≤ (get_or u.objects j e).closed))
        → IfSome last (λ at. (at.index < many) × ((j : ℕ) (e : Marked) → j < length (drop n u.objects) → at.index ≡ u.first + n + j
        → symbol_number (get_or (drop n u.objects) j e).cut at.block at.symbol + 1 ≤ (get_or (drop n u.objects) j e).closed))
    by None h = h
    by (Some at) h = (
      h.0,
      λ j e less is.
          let within : n + j < length u.objects = omega (arith, less, length-drop n u.objects) in
          subst (λ (m : Marked). symbol_number m.cut at.block at.symbol + 1 ≤ m.closed) (sym (get_drop n u.objects j e within)) (h.1 (n + j) e within (omega (arith, is))),
    )

-- and where one more object comes behind them
known_joined : (u : Kept) (m : Marked) (many : ℕ) (asked : List Asked) → u.first + length u.objects ≡ many → AllByRecursion (IsKnownIn u many) asked
    → AllByRecursion (IsKnownIn (with_object m u) (many + 1)) asked
known_joined u m many [] all known = tt
known_joined u m many (a ∷ asked) all known =
    (record { next = (let le = known.0.next in omega (arith, le)); last = by a.last known.0.last }, known_joined u m many asked all known.1)
  where
    by : (last : Option Position)
        → IfSome last (λ at. (at.index < many) × ((j : ℕ) (e : Marked) → j < length u.objects → at.index ≡ u.first + j
        → symbol_number (get_or u.objects j e).cut at.block at.symbol + 1 ≤ (get_or u.objects j e).closed))
        → IfSome last (λ at. (at.index < many + 1) × ((j : ℕ) (e : Marked) → j < length (u.objects ++ m ∷ []) → at.index ≡ u.first + j
        → symbol_number (get_or (u.objects ++ m ∷ []) j e).cut at.block at.symbol + 1 ≤ (get_or (u.objects ++ m ∷ []) j e).closed))
    by None h = h
    by (Some at) h = (
      (let lt = h.0 in omega (arith, lt)),
      λ j e less is.
          let within : j < length u.objects = let lt = h.0 in omega (arith, lt, is, all) in
          subst (λ (x : Marked). symbol_number x.cut at.block at.symbol + 1 ≤ x.closed) (sym (at_front u.objects m j e within)) (h.1 j e within is),
    )

-- no request came when the order had more entries
nexts : (u : Kept) (many : ℕ) (asked : List Asked) → AllByRecursion (IsKnownIn u many) asked → AllByRecursion (λ (a : Asked). a.next ≤ many) asked
nexts u many [] known = tt
nexts u many (a ∷ asked) known = (known.0.next, nexts u many asked known.1)

-- and where what lies before a block of the first goes
known_moved : (first : ℕ) (ms : List Marked) (e : Option Point) (block many : ℕ) (asked : List Asked) → AllByRecursion (IsKnownIn (record { first = first; objects = ms; earliest = e }) many) asked
    → AllByRecursion (IsKnownIn (record { first = first; objects = moved_front block ms; earliest = e }) many) asked
known_moved first ms e zero many asked known = known
known_moved first [] e (suc block) many asked known = known
known_moved first (m ∷ ms) e (suc block) many [] known = tt
known_moved first (m ∷ ms) e (suc block) many (a ∷ asked) known =
    (record { next = known.0.next; last = by a.last known.0.last }, known_moved first (m ∷ ms) e (suc block) many asked known.1)
  where
    still : (at : Position) (j : ℕ) (d : Marked) → symbol_number (get_or (m ∷ ms) j d).cut at.block at.symbol + 1 ≤ (get_or (m ∷ ms) j d).closed
        → symbol_number (get_or (moved_on (suc block) m ∷ ms) j d).cut at.block at.symbol + 1 ≤ (get_or (moved_on (suc block) m ∷ ms) j d).closed
    still at zero d le = le
    still at (suc j) d le = le

    by : (last : Option Position)
        → IfSome last (λ at. (at.index < many) × ((j : ℕ) (d : Marked) → j < length (m ∷ ms) → at.index ≡ first + j
        → symbol_number (get_or (m ∷ ms) j d).cut at.block at.symbol + 1 ≤ (get_or (m ∷ ms) j d).closed))
        → IfSome last (λ at. (at.index < many) × ((j : ℕ) (d : Marked) → j < length (moved_on (suc block) m ∷ ms) → at.index ≡ first + j
        → symbol_number (get_or (moved_on (suc block) m ∷ ms) j d).cut at.block at.symbol + 1 ≤ (get_or (moved_on (suc block) m ∷ ms) j d).closed))
    by None h = h
    by (Some at) h = (h.0, λ j d less is. still at j d (h.1 j d less is))

-- the count of a block that is kept stays
count_on : (block at : ℕ) (m : Marked) → m.first ≤ block → block ≤ at → get_or (moved_on block m).counts at 0 ≡ get_or m.counts at 0
count_on block at m onward from = go (cases_lt at (length m.counts + (block - m.first)))
  where
    test : ℕ → ℕ
    test i = from_block block i (get_or m.counts i 0)

    many : length (range_with_len 0 (length m.counts + (block - m.first))) ≡ length m.counts + (block - m.first)
    many = length-range_with_len 0 (length m.counts + (block - m.first))

    go : (at < length m.counts + (block - m.first)) ⊎ (length m.counts + (block - m.first) ≤ at) → get_or (map test (range_with_len 0 (length m.counts + (block - m.first)))) at 0 ≡ get_or m.counts at 0
    go (inl lt) =
        get_or-map test (range_with_len 0 (length m.counts + (block - m.first))) at 0 0 (omega (arith, lt, many))
        ∙ ap test (get_or-range_with_len 0 (length m.counts + (block - m.first)) at 0 lt ∙ (let e : 0 + at ≡ at = omega arith in e))
        ∙ ap (λ b. elim b as (λ _. ℕ) [ true ↦ 0 | false ↦ get_or m.counts at 0 ]) (le-ltb at block from)
    go (inr past) =
        get_or_past (map test (range_with_len 0 (length m.counts + (block - m.first)))) at 0
        (let same = length-map (range_with_len 0 (length m.counts + (block - m.first))) test in omega (arith, past, many, same))
        ∙ sym (get_or_past m.counts at 0 (omega (arith, past)))

counts_on : (block : ℕ) (ms : List Marked) (k : ℕ) (d : Marked) (at : ℕ) → ((m : Marked) (rest : List Marked) → ms ≡ m ∷ rest → m.first ≤ block)
    → (get_or (moved_front block ms) k d).first ≤ at
    → (get_or (get_or (moved_front block ms) k d).counts at 0 ≡ get_or (get_or ms k d).counts at 0) × ((get_or ms k d).first ≤ at)
counts_on zero ms k d at onward from = (refl, from)
counts_on (suc block) [] k d at onward from = (refl, from)
counts_on (suc block) (m ∷ ms) zero d at onward from =
    let low = onward m ms refl in
    (count_on (suc block) at m low from, omega (arith, low, from))
counts_on (suc block) (m ∷ ms) (suc k) d at onward from = (refl, from)

-- the first n objects are dropped, and what lies before a block of the next
pub collects_retired : (p : Settings) (s : SenderState) (u : Kept) (asked : List Asked) (n block : ℕ) → n ≤ length u.objects → (0 < block → n < length u.objects)
    → ((m : Marked) → slice_get u.objects n ≡ Some m → m.first ≤ block) → Holds p u s → Collects p u s asked
    → Collects p (record u { first = u.first + n; objects = moved_front block (drop n u.objects) }) (dropped_to (point (u.first + n) block) s) asked
collects_retired p s u asked n block le some onward st col = record {
  earliest = col.earliest;
  known = known_moved (u.first + n) (drop n u.objects) u.earliest block (next_index s) asked (known_dropped u n (next_index s) asked col.known);
  named =
      sym (listed_front (λ m. m.asked) (point (u.first + n) block) u.first n u.objects (λ k x. refl) refl)
      ∙ ap (filter (stands_behind (point (u.first + n) block))) col.named
      ∙ filter_set (point (u.first + n) block) (filter (stands_behind s.current.drop) all) [] tt
      ∙ ap (λ ws. with_members want_before ws []) (filter_twice s.current.drop (point (u.first + n) block) all
      (behind_both s.current.drop (point (u.first + n) block) (drop_onward p s u n block le some onward st)));
  counts = λ k d lt at from.
      let within : k < length (drop n u.objects) = omega (arith, lt, length-moved_front block (drop n u.objects)) in
      let same = counts_on block (drop n u.objects) k d at (λ m rest e. onward m (some_first u.objects n m rest e)) from in
      let there = get_drop n u.objects k d (omega (arith, within, length-drop n u.objects)) in
      same.0
      ∙ ap (λ (m : Marked). get_or m.counts at 0) there
      ∙ col.counts (n + k) d (omega (arith, within, length-drop n u.objects)) at (subst (λ (m : Marked). m.first ≤ at) there same.1)
      ∙ ap (λ i. greatest (flat_map (counts_of (current_shapes p s)) asked) (point i at)) (let e : u.first + (n + k) ≡ u.first + n + k = omega arith in e);
}
  where
    all : List Want
    all = flat_map (wants_of (current_shapes p s)) asked

-- what requests ask for stays as the order grows
flat_same : {X : Type 0} (f g : Asked → List X) (n : ℕ) (asked : List Asked) → ((a : Asked) → a.next ≤ n → f a ≡ g a) → AllByRecursion (λ (a : Asked). a.next ≤ n) asked
    → flat_map f asked ≡ flat_map g asked
flat_same f g n [] same known = refl
flat_same f g n (a ∷ asked) same known = ap (λ xs. xs ++ flat_map f asked) (same a known.0) ∙ ap (λ xs. g a ++ xs) (flat_same f g n asked same known.1)

came_same : (a : Asked) (shapes : List Shape) (x : Shape) → a.next ≤ length shapes → as_it_came a (shapes ++ x ∷ []) ≡ as_it_came a shapes
came_same a shapes x le = ap (shapes_at a.last 0) (take-append-le a.next shapes (x ∷ []) le)

pub length-shapes_at : (last : Option Position) (index : ℕ) (shapes : List Shape) → length (shapes_at last index shapes) ≡ length shapes
unfolding shapes_at
length-shapes_at last index [] = refl
length-shapes_at last index (x ∷ shapes) = ap suc (length-shapes_at last (index + 1) shapes)

-- a count that is kept is of an object of the order
pub within_order : (shapes : List Shape) (i : ℕ) (test : Shape → Bool) → at_index shapes i false test ≡ true → i < length shapes
within_order shapes i test e = go (slice_get shapes i) refl e
  where
    clash : false ≡ true → ⊥
    clash h = cc

    go : (o : Option Shape) → slice_get shapes i ≡ o → elim o as (λ _. Bool) [ Some x ↦ test x | None ↦ false ] ≡ true → i < length shapes
    go None is h = absurd (clash h)
    go (Some x) is h = past_end shapes i x is

second_of : (b c : Bool) → (b && c) ≡ true → c ≡ true
second_of true c e = e
second_of false c e = absurd (clash e)
  where
    clash : false ≡ true → ⊥
    clash h = cc

kept_within : (p : Settings) (shapes : List Shape) (asked : List Asked) (c : Count) → In c (flat_map (counts_of shapes) asked) → c.of.index < length shapes
kept_within p shapes asked c here =
    let found = in_flat (counts_of shapes) c asked here in
    let kept = (in_filter (λ (c : Count). is_kept (as_it_came found.0 shapes) found.0.first c.of) c (asked_counts found.0.request) found.2).1 in
    let lt = within_order (as_it_came found.0 shapes) c.of.index (λ s. nat_lt 0 (closed_in s c.of.block)) (second_of (not (point_before c.of found.0.first)) _ kept) in
    omega (arith, lt, length-shapes_at found.0.last 0 (take found.0.next shapes), length-take found.0.next shapes)

none_kept : (p : Settings) (shapes : List Shape) (asked : List Asked) (at : Point) → length shapes ≤ at.index → greatest (flat_map (counts_of shapes) asked) at ≡ 0
none_kept p shapes asked at past = go (cases_lt 0 (greatest (flat_map (counts_of shapes) asked) at))
  where
    go : (0 < greatest (flat_map (counts_of shapes) asked) at) ⊎ (greatest (flat_map (counts_of shapes) asked) at ≤ 0) → greatest (flat_map (counts_of shapes) asked) at ≡ 0
    go (inl some) =
        let c = some_greatest (flat_map (counts_of shapes) asked) at some in
        let lt = kept_within p shapes asked c.0 c.1 in
        let same = ap (λ (q : Point). q.index) c.2 in
        absurd (omega (arith, lt, same, past))
    go (inr none) = omega (arith, none)

-- one more object, of which nothing is asked
pub collects_admitted : (p : Settings) (s : SenderState) (u : Kept) (asked : List Asked) (entry : Entry) (m : Marked) (n : ℕ) → m.asked ≡ [] → m.counts ≡ replicate n 0
    → Holds p u s → Collects p u s asked → Collects p (with_object m u) (with_entry entry s) asked
collects_admitted p s u asked entry m n unasked uncounted st col = record {
  earliest = col.earliest;
  known =
      subst (λ n. AllByRecursion (IsKnownIn (with_object m u) n) asked) (sym (length-append s.current.order (entry ∷ [])))
      (known_joined u m (next_index s) asked st.next col.known);
  named = joined_at (λ m. m.asked) u.first u.objects m unasked ∙ col.named ∙ ap (λ ws. with_members want_before (filter (stands_behind s.current.drop) ws) []) (sym wants_same);
  counts = λ k d lt block from. at k d lt block (cases_lt k (length u.objects)) from ∙ ap (λ cs. greatest cs (point (u.first + k) block)) (sym counts_same);
}
  where
    x : Shape
    x = shape_of p entry.object

    grown : current_shapes p (with_entry entry s) ≡ current_shapes p s ++ x ∷ []
    grown = map-append (λ (e : Entry). shape_of p e.object) s.current.order (entry ∷ [])

    many : length (current_shapes p s) ≡ next_index s
    many = length-map s.current.order (λ (e : Entry). shape_of p e.object)

    wants_same : flat_map (wants_of (current_shapes p (with_entry entry s))) asked ≡ flat_map (wants_of (current_shapes p s)) asked
    wants_same =
        flat_same (wants_of (current_shapes p (with_entry entry s))) (wants_of (current_shapes p s)) (next_index s) asked
        (λ a le. ap (λ shapes. wants_of shapes a) grown ∙ ap (λ shapes. asks_for shapes a.request) (came_same a (current_shapes p s) x (omega (arith, le, many)))) (nexts u (next_index s) asked col.known)

    counts_same : flat_map (counts_of (current_shapes p (with_entry entry s))) asked ≡ flat_map (counts_of (current_shapes p s)) asked
    counts_same =
        flat_same (counts_of (current_shapes p (with_entry entry s))) (counts_of (current_shapes p s)) (next_index s) asked
        (λ a le. ap (λ shapes. counts_of shapes a) grown
        ∙ ap (λ shapes. filter (λ (c : Count). is_kept shapes a.first c.of) (asked_counts a.request)) (came_same a (current_shapes p s) x (omega (arith, le, many)))) (nexts u (next_index s) asked col.known)

    at : (k : ℕ) (d : Marked) → k < length (u.objects ++ m ∷ []) → (block : ℕ) → (k < length u.objects) ⊎ (length u.objects ≤ k)
        → (get_or (u.objects ++ m ∷ []) k d).first ≤ block → get_or (get_or (u.objects ++ m ∷ []) k d).counts block 0 ≡ greatest (flat_map (counts_of (current_shapes p s)) asked) (point (u.first + k) block)
    at k d lt block (inl less) from =
        ap (λ (z : Marked). get_or z.counts block 0) (at_front u.objects m k d less)
        ∙ col.counts k d less block (subst (λ (z : Marked). z.first ≤ block) (at_front u.objects m k d less) from)
    at k d lt block (inr past) from =
        ap (λ i. get_or (get_or (u.objects ++ m ∷ []) i d).counts block 0) (let e : k ≡ length u.objects = omega (arith, lt, past, length-append u.objects (m ∷ [])) in e)
        ∙ ap (λ (z : Marked). get_or z.counts block 0) (at_end u.objects m d)
        ∙ ap (λ (cs : List ℕ). get_or cs block 0) uncounted ∙ zeros n block
        ∙ sym (none_kept p (current_shapes p s) asked (point (u.first + k) block) (let next = st.next in omega (arith, next, many, past)))
