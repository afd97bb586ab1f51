-- What a union stands for after a step.
use Rattle.std.proofs.Common.{◌≡◌, ℕ, ◌+◌, ◌<◌, ◌≤◌, ◌⊎◌, inl, inr, List, [], ◌∷◌, ◌++◌, map, length, set, get_or, drop, refl, sym, ap, ◌∙◌, arith, subst}
use Rattle.std.specs.Prelude.{nat_lt, filter, suc, zero, false, slice_get, Some, ◌||◌}
use Rattle.std.specs.List.{list_any}
use Rattle.std.proofs.lemmas.List.{map-append, length-append, length-map, length-set, length-drop, drop-append-le, drop-drop}
use Rattle.std.specs.List.{drop-map}
use Rattle.std.proofs.Math.Seq.{map-set_same}
use Rattle.std.proofs.lemmas.Bool.{cases_lt, lt-ltb}
use Rattle.norm_base.specs.Settings.{Settings}
use Rattle.fec_plan.specs.Partition.{stream_cut}
use Rattle.fec_plan.specs.Points.{point, position}
use Rattle.fec_plan.specs.declared.position.Position.{Position}
use Rattle.norm_order.specs.Entries.{Entry}
use Rattle.norm_order.specs.Sets.{with_member}
use Rattle.norm_order.specs.Shapes.{shape_of, shapes_of}
use Rattle.norm_send_rules.specs.SenderState.{SenderState}
use Rattle.norm_send_rules.specs.Wants.{want_before}
use Rattle.norm_send_rules.specs.InWindow.{stands_behind, current_shapes}
use Rattle.norm_send_rules.specs.Enqueuing.{with_entry}
use Rattle.norm_send_rules.specs.Dropping.{dropped_to}
use Rattle.norm_send_rules.specs.Sending.{noted}
use Rattle.norm_send_rules.specs.Laws.{Rise}
use Rattle.norm_send_rules.specs.declared.want.Want.{Want}
use Rattle.norm_send_rules.specs.declared.want.Want.TheVariants.{Symbol}
use Rattle.norm_send_rules.proofs.ClosingLemmas.{rise_more}
use Rattle.nack_union.specs.Slots.{want_at, symbol_slot}
use Rattle.nack_union.specs.Kept.{Marked, Kept, Holds, HasRoom, FrontsAre, admitted, with_object, listed, shape_of_marked, moved_front}
use Rattle.nack_union.proofs.Rooms.{rooms_set, rooms_joined, rooms_dropped, rooms_moved}
use Rattle.nack_union.proofs.Orders.{put_at, same_at, lowest_at, none_at, joined_at, symbol_at}
use Rattle.nack_union.proofs.Dropped.{symbols_with, filter_twice}
use Rattle.nack_union.proofs.Fronts.{filter_with_want, symbol_behind, fronts_set, fronts_joined, fronts_retired, listed_front, behind_both, NotBehind, front_at, some_first}

-- one object's marks become others, with the same shape
same_shapes : (ms : List Marked) (k : ℕ) (new d : Marked) → shape_of_marked new ≡ shape_of_marked (get_or ms k d)
    → map shape_of_marked (set ms k new) ≡ map shape_of_marked ms
same_shapes ms k new d e = map-set_same shape_of_marked ms k new d e

-- what lies before a block goes of the first
pub length-moved_front : (block : ℕ) (ms : List Marked) → length (moved_front block ms) ≡ length ms
length-moved_front zero ms = refl
length-moved_front (suc block) [] = refl
length-moved_front (suc block) (m ∷ ms) = refl

shapes_moved : (block : ℕ) (ms : List Marked) → map shape_of_marked (moved_front block ms) ≡ map shape_of_marked ms
shapes_moved zero ms = refl
shapes_moved (suc block) [] = refl
shapes_moved (suc block) (m ∷ ms) = refl

first_get : (ms : List Marked) (k : ℕ) (d : Marked) → k < length ms → slice_get ms k ≡ Some (get_or ms k d)
first_get [] k d lt = absurd (omega (arith, lt))
first_get (m ∷ ms) zero d lt = refl
first_get (m ∷ ms) (suc k) d lt = first_get ms k d (omega (arith, lt))

-- the drop point does not fall
pub drop_onward : (p : Settings) (s : SenderState) (u : Kept) (n block : ℕ) → n ≤ length u.objects → (0 < block → n < length u.objects)
    → ((m : Marked) → slice_get u.objects n ≡ Some m → m.first ≤ block) → Holds p u s → NotBehind s.current.drop (point (u.first + n) block)
drop_onward p s u n block le some onward st = (
  (let f = st.first in omega (arith, f)),
  λ same. by (let f = st.first in let e : n ≡ 0 = omega (arith, f, same) in e) (cases_lt n (length u.objects)),
)
  where
    by : n ≡ 0 → (n < length u.objects) ⊎ (length u.objects ≤ n) → s.current.drop.block ≤ block
    by e (inl lt) =
        let low = onward (get_or u.objects n d) (first_get u.objects n d lt) in
        let front = (front_at s.current.drop.block u.objects n d lt st.fronts).1 e in
        omega (arith, low, front)
      where
        d : Marked
        d = admitted (stream_cut 0 0 0) false
    by e (inr none) = let empty = no_fronts u.objects (omega (arith, e, none)) st.fronts in omega (arith, empty)
      where
        no_fronts : (ms : List Marked) → length ms ≡ 0 → FrontsAre s.current.drop.block (map (λ m. m.first) ms) → s.current.drop.block ≡ 0
        no_fronts [] many fronts = fronts
        no_fronts (m ∷ ms) many fronts = absurd (omega (arith, many))

-- a symbol was sent
pub stands_noted : (p : Settings) (s : SenderState) (u : Kept) (k : ℕ) (at : Position) (new d : Marked)
    → k < length u.objects → at.index ≡ u.first + k → (get_or u.objects k d).first ≤ at.block → at.symbol < 256
    → new ≡ record (get_or u.objects k d) { sent = with_member nat_lt (symbol_slot at.block at.symbol) (get_or u.objects k d).sent }
    → Holds p u s → Holds p (record u { objects = set u.objects k new }) (noted (Symbol at) s)
stands_noted p s u k at new d lt index from few is st = record {
  first = st.first;
  fronts = fronts_set s.current.drop.block u.objects k new d (ap (λ (m : Marked). m.first) is) st.fronts;
  next = ap (λ n. u.first + n) (length-set u.objects k new) ∙ st.next;
  shapes = same_shapes u.objects k new d (ap shape_of_marked is) ∙ st.shapes;
  wants = same_at (λ m. m.wants) u.first k u.objects new d lt (ap (λ (m : Marked). m.wants) is) ∙ st.wants;
  rise = subst Rise (sym (symbols_with at s.sent)) (rise_more (Symbol at ∷ []) (map Symbol s.sent) st.rise);
  sent =
      put_at (λ m. m.sent) u.first k (symbol_slot at.block at.symbol) u.objects new d lt (ap (λ (m : Marked). m.sent) is)
      ∙ ap (λ w. with_member want_before w (listed (λ m. m.sent) u.first u.objects)) (symbol_at (u.first + k) at.block at.symbol few ∙ ap (λ i. Symbol (position i at.block at.symbol)) (sym index))
      ∙ ap (with_member want_before (Symbol at)) st.sent
      ∙ sym (filter_with_want s.current.drop (Symbol at) (map Symbol s.sent) (symbol_behind s.current.drop u.first k at u.objects d st.fronts st.first lt index from) st.rise)
      ∙ ap (filter (stands_behind s.current.drop)) (sym (symbols_with at s.sent));
  rooms = rooms_set p u.objects k new d (ap (λ (m : Marked). m.cut) is) (ap (λ (m : Marked). m.first) is) (ap (λ (m : Marked). length m.counts) is) st.rooms;
}

-- the lowest want is taken out
pub stands_next : (p : Settings) (s : SenderState) (u : Kept) (k slot : ℕ) (new d : Marked)
    → k < length u.objects → ((j : ℕ) → j < k → (get_or u.objects j d).wants ≡ [])
    → get_or u.objects k d ≡ record new { wants = slot ∷ new.wants } → Holds p u s
    → (rest : List Want) × (s.wants ≡ want_at (u.first + k) slot ∷ rest) × Holds p (record u { objects = set u.objects k new }) (record s { wants = rest })
stands_next p s u k slot new d lt none is st = (
  listed (λ m. m.wants) u.first (set u.objects k new),
  sym st.wants ∙ lowest_at (λ m. m.wants) u.first k slot u.objects new d lt none (ap (λ (m : Marked). m.wants) is),
  record {
    first = st.first;
    fronts = fronts_set s.current.drop.block u.objects k new d (sym (ap (λ (m : Marked). m.first) is)) st.fronts;
    next = ap (λ n. u.first + n) (length-set u.objects k new) ∙ st.next;
    shapes = same_shapes u.objects k new d (sym (ap shape_of_marked is)) ∙ st.shapes;
    wants = refl;
    rise = st.rise;
    sent = same_at (λ m. m.sent) u.first k u.objects new d lt (sym (ap (λ (m : Marked). m.sent) is)) ∙ st.sent;
    rooms = rooms_set p u.objects k new d (sym (ap (λ (m : Marked). m.cut) is)) (sym (ap (λ (m : Marked). m.first) is)) (sym (ap (λ (m : Marked). length m.counts) is)) st.rooms;
  },
)

-- nothing is wanted
pub stands_idle : (p : Settings) (s : SenderState) (u : Kept) (d : Marked) → ((j : ℕ) → j < length u.objects → (get_or u.objects j d).wants ≡ [])
    → Holds p u s → s.wants ≡ []
stands_idle p s u d none st = sym st.wants ∙ none_at (λ m. m.wants) u.first u.objects d none

-- one more object
pub stands_admitted : (p : Settings) (s : SenderState) (u : Kept) (entry : Entry) (m : Marked) → m.wants ≡ [] → m.sent ≡ [] → m.first ≡ 0 → Holds p u s
    → shape_of p entry.object ≡ shape_of_marked m → HasRoom p m → Holds p (with_object m u) (with_entry entry s)
stands_admitted p s u entry m unwanted unsent start st shape room = record {
  first = st.first;
  fronts = fronts_joined s.current.drop.block u.objects m start st.fronts;
  next =
      let next = st.next in
      omega (arith, next, length-append u.objects (m ∷ []), length-append s.current.order (entry ∷ []));
  shapes =
      map-append shape_of_marked u.objects (m ∷ [])
      ∙ ap (λ xs. xs ++ shape_of_marked m ∷ []) st.shapes
      ∙ ap (λ x. drop u.first (shapes_of p s.current.order) ++ x ∷ []) (sym shape)
      ∙ sym (drop-append-le u.first (shapes_of p s.current.order) (shape_of p entry.object ∷ []) within)
      ∙ ap (drop u.first) (sym (map-append (λ (e : Entry). shape_of p e.object) s.current.order (entry ∷ [])));
  wants = joined_at (λ m. m.wants) u.first u.objects m unwanted ∙ st.wants;
  rise = st.rise;
  sent = joined_at (λ m. m.sent) u.first u.objects m unsent ∙ st.sent;
  rooms = rooms_joined p u.objects m st.rooms room;
}
  where
    within : u.first ≤ length (shapes_of p s.current.order)
    within = let next = st.next in omega (arith, next, length-map s.current.order (λ (e : Entry). shape_of p e.object))

-- the first n objects are dropped, and what lies before a block of the next
pub stands_retired : (p : Settings) (s : SenderState) (u : Kept) (n block : ℕ) → n ≤ length u.objects → (0 < block → n < length u.objects)
    → ((m : Marked) → slice_get u.objects n ≡ Some m → m.first ≤ block) → Holds p u s
    → Holds p (record u { first = u.first + n; objects = moved_front block (drop n u.objects) }) (dropped_to (point (u.first + n) block) s)
stands_retired p s u n block le some onward st = record {
  first = refl;
  fronts = fronts_retired block n s.current.drop.block u.objects st.fronts le some onward;
  next = let next = st.next in omega (arith, next, le, length-drop n u.objects, length-moved_front block (drop n u.objects));
  shapes =
      shapes_moved block (drop n u.objects)
      ∙ sym (drop-map shape_of_marked n u.objects) ∙ ap (drop n) st.shapes ∙ drop-drop n u.first (current_shapes p s);
  wants =
      sym (listed_front (λ m. m.wants) (point (u.first + n) block) u.first n u.objects (λ k x. refl) refl)
      ∙ ap (filter (stands_behind (point (u.first + n) block))) st.wants;
  rise = st.rise;
  sent =
      sym (listed_front (λ m. m.sent) (point (u.first + n) block) u.first n u.objects (λ k x. refl) refl)
      ∙ ap (filter (stands_behind (point (u.first + n) block))) st.sent
      ∙ filter_twice s.current.drop (point (u.first + n) block) (map Symbol s.sent) (behind_both s.current.drop (point (u.first + n) block) (drop_onward p s u n block le some onward st));
  rooms = rooms_moved p block (drop n u.objects) (λ m rest e. onward m (some_first u.objects n m rest e)) (rooms_dropped p n u.objects st.rooms);
}

-- something is wanted of an object exactly where there is a want
pub any_wanted : (index : ℕ) (ms : List Marked) → list_any (λ m. nat_lt 0 (length m.wants)) ms ≡ nat_lt 0 (length (listed (λ m. m.wants) index ms))
any_wanted index [] = refl
any_wanted index (m ∷ ms) = go m.wants (any_wanted (suc index) ms)
  where
    go : (slots : List ℕ) → list_any (λ (n : Marked). nat_lt 0 (length n.wants)) ms ≡ nat_lt 0 (length (listed (λ n. n.wants) (suc index) ms))
        → (nat_lt 0 (length slots) || list_any (λ (n : Marked). nat_lt 0 (length n.wants)) ms)
        ≡ nat_lt 0 (length (map (want_at index) slots ++ listed (λ n. n.wants) (suc index) ms))
    go [] rest = rest
    go (slot ∷ slots) rest =
        ap (λ b. b || list_any (λ (n : Marked). nat_lt 0 (length n.wants)) ms) (lt-ltb 0 (length (slot ∷ slots)) (omega arith))
        ∙ sym (lt-ltb 0 (length (map (want_at index) (slot ∷ slots) ++ listed (λ n. n.wants) (suc index) ms)) (omega arith))
