-- What a union has collected and stands for after requests were added.
use Rattle.std.proofs.Common.{◌≡◌, ℕ, suc, ◌+◌, ◌-◌, ◌<◌, ◌≤◌, ◌⊎◌, inl, inr, List, [], ◌∷◌, ◌++◌, map, length, get_or, Bool, true, false, Option, None, Some, refl, sym, ap, subst, ◌∙◌, arith, flat_map}
use Rattle.std.specs.Prelude.{drop, filter, max, nat_lt, ◌||◌, IfSome, slice_get}
use Rattle.std.specs.List.{AllByRecursion}
use Rattle.std.proofs.lemmas.Bool.{cases_lt, le-ltb}
use Rattle.std.proofs.lemmas.List.{get_or_past, length-map}
use Rattle.std.proofs.lemmas.List.Concat.{flat_map-append}
use Rattle.norm_base.specs.Settings.{Settings}
use Rattle.fec_plan.specs.Partition.{stream_cut, symbol_number}
use Rattle.fec_plan.specs.declared.position.Position.{Position}
use Rattle.norm_order.specs.Entries.{Entry}
use Rattle.fec_plan.specs.Points.{Point, point}
use Rattle.norm_ext.specs.Asking.{Named, named, asked_counts}
use Rattle.norm_ext.specs.Requests.{Request}
use Rattle.norm_order.specs.Sets.{is_member}
use Rattle.norm_order.specs.Shapes.{Shape, shape_of, closed_in, closed_blocks, last_source}
use Rattle.norm_send_rules.specs.SenderState.{SenderState, Asked}
use Rattle.norm_send_rules.specs.InWindow.{stands_behind, current_shapes, next_index, last_index}
use Rattle.norm_send_rules.specs.Asking.{wants_of, counts_of}
use Rattle.norm_send_rules.specs.Closing.{greatest}
use Rattle.norm_send_rules.specs.Hearing.{asked_now}
use Rattle.norm_send_rules.specs.Laws.{Rise}
use Rattle.norm_send_rules.specs.Wants.{want_before}
use Rattle.norm_send_rules.specs.declared.want.Want.{Want}
use Rattle.norm_send_rules.proofs.ClosingLemmas.{rise_more}
use Rattle.nack_union.specs.Slots.{want_at, slot_of_want, stands_from}
use Rattle.nack_union.specs.Kept.{Marked, Kept, Holds, FrontsAre, listed, shape_of_marked, symbols_of_marked, admitted}
use Rattle.nack_union.specs.More.{kept_count}
use Rattle.nack_union.specs.Earliest.{lesser, earliest, earliest_with}
use Rattle.nack_union.specs.Collected.{Collects, IsKnownIn, asked_of}
use Rattle.nack_union.specs.Adding.{IsPlanned, HasAsked, HasAdded, asks_slot, is_asked_slot}
use Rattle.nack_union.proofs.Rooms.{rooms_by}
use Rattle.nack_union.proofs.Orders.{want_there}
use Rattle.nack_union.proofs.Fronts.{slot_behind, slot_kept}
use Rattle.nack_union.proofs.Members.{member_at}
use Rattle.nack_union.proofs.Lists.{In, in_left, in_right, in_either, flat_in, in_flat, filter_in, in_filter, same_set}
use Rattle.nack_union.proofs.Sources.{any_in, in_any, map_in, in_map}
use Rattle.nack_union.proofs.Came.{all_at}
use Rattle.nack_union.proofs.Ends.{own_last, last_owned, marked_ends}
use Rattle.nack_union.proofs.Collecting.{window_shape, past_end}
use Rattle.nack_union.proofs.NamedSymbols.{one_of, of_right}
use Rattle.nack_union.proofs.AskedSlots.{AsksAt, slot_in, in_slot}
use Rattle.nack_union.proofs.AskedCounts.{greatest_both, counts_kept, none_kept}
use Rattle.nack_union.proofs.Risen.{in_set, set_in, rising_self, found_in, is_found, in_listed}

-- what each place has the same of
same_listed : (slots : Marked → List ℕ) (index : ℕ) (new old : List Marked) (d : Marked) → length new ≡ length old
    → ((k : ℕ) → k < length old → slots (get_or new k d) ≡ slots (get_or old k d)) → listed slots index new ≡ listed slots index old
same_listed slots index [] [] d many same = refl
same_listed slots index [] (o ∷ old) d many same = absurd (omega (arith, many))
same_listed slots index (n ∷ new) [] d many same = absurd (omega (arith, many))
same_listed slots index (n ∷ new) (o ∷ old) d many same =
    ap (λ xs. map (want_at index) xs ++ listed slots (suc index) new) (same 0 (omega arith))
    ∙ ap (λ ws. map (want_at index) (slots o) ++ ws) (same_listed slots (suc index) new old d (omega (arith, many)) (λ k lt. same (suc k) (omega arith)))

same_shapes : (new old : List Marked) (d : Marked) → length new ≡ length old
    → ((k : ℕ) → k < length old → shape_of_marked (get_or new k d) ≡ shape_of_marked (get_or old k d)) → map shape_of_marked new ≡ map shape_of_marked old
same_shapes [] [] d many same = refl
same_shapes [] (o ∷ old) d many same = absurd (omega (arith, many))
same_shapes (n ∷ new) [] d many same = absurd (omega (arith, many))
same_shapes (n ∷ new) (o ∷ old) d many same =
    ap (λ (x : Shape). x ∷ map shape_of_marked new) (same 0 (omega arith))
    ∙ ap (λ xs. shape_of_marked o ∷ xs) (same_shapes new old d (omega (arith, many)) (λ k lt. same (suc k) (omega arith)))

same_fronts : (new old : List Marked) (d : Marked) → length new ≡ length old → ((k : ℕ) → k < length old → (get_or new k d).first ≡ (get_or old k d).first)
    → map (λ m. m.first) new ≡ map (λ m. m.first) old
same_fronts [] [] d many same = refl
same_fronts [] (o ∷ old) d many same = absurd (omega (arith, many))
same_fronts (n ∷ new) [] d many same = absurd (omega (arith, many))
same_fronts (n ∷ new) (o ∷ old) d many same =
    ap (λ x. x ∷ map (λ (m : Marked). m.first) new) (same 0 (omega arith))
    ∙ ap (λ xs. o.first ∷ xs) (same_fronts new old d (omega (arith, many)) (λ k lt. same (suc k) (omega arith)))

some_object : Marked
some_object = admitted (stream_cut 0 0 0) false

-- what is asked for changes nothing else
pub stands_added : (p : Settings) (s : SenderState) (old new : Kept) (requests : List Named) → Holds p old s → HasAdded requests old new → Holds p new s
stands_added p s old new requests st h = record {
  first = h.first ∙ st.first;
  fronts = subst (FrontsAre s.current.drop.block) (sym (same_fronts new.objects old.objects some_object h.objects (λ k lt. ap (λ (m : Marked). m.first) (h.each k some_object lt).rest))) st.fronts;
  next = let next = st.next in let first = h.first in let many = h.objects in omega (arith, next, first, many);
  shapes =
      same_shapes new.objects old.objects some_object h.objects (λ k lt. ap shape_of_marked (h.each k some_object lt).rest)
      ∙ st.shapes ∙ ap (λ n. drop n (current_shapes p s)) (sym h.first);
  wants =
      ap (λ n. listed (λ m. m.wants) n new.objects) h.first
      ∙ same_listed (λ m. m.wants) old.first new.objects old.objects some_object h.objects (λ k lt. ap (λ (m : Marked). m.wants) (h.each k some_object lt).rest)
      ∙ st.wants;
  rise = st.rise;
  sent =
      ap (λ n. listed (λ m. m.sent) n new.objects) h.first
      ∙ same_listed (λ m. m.sent) old.first new.objects old.objects some_object h.objects (λ k lt. ap (λ (m : Marked). m.sent) (h.each k some_object lt).rest)
      ∙ st.sent;
  rooms = rooms_by p new.objects old.objects some_object h.objects (λ k lt. (ap (λ (m : Marked). m.cut) (h.each k some_object lt).rest, ap (λ (m : Marked). m.first) (h.each k some_object lt).rest, (h.each k some_object lt).blocks)) st.rooms;
}

known_all : (u : Kept) (n : ℕ) (xs ys : List Asked) → AllByRecursion (IsKnownIn u n) xs → AllByRecursion (IsKnownIn u n) ys → AllByRecursion (IsKnownIn u n) (xs ++ ys)
known_all u n [] ys these those = those
known_all u n (x ∷ xs) ys these those = (these.0, known_all u n xs ys these.1 those)

-- the last closed source symbol is of the order, and of an object of the window it is the last that is closed
last_known : (p : Settings) (s : SenderState) (u : Kept) → Holds p u s → AllByRecursion IsPlanned u.objects
    → IfSome (last_source (current_shapes p s)) (λ at. (at.index < next_index s) × ((k : ℕ) (d : Marked) → k < length u.objects → at.index ≡ u.first + k
    → symbol_number (get_or u.objects k d).cut at.block at.symbol + 1 ≤ (get_or u.objects k d).closed))
last_known p s u st planned = by (last_source (current_shapes p s)) refl
  where
    same_some : (x y : Shape) → Some x ≡ Some y → x ≡ y
    same_some x y e = cc

    none : {A : Position} → None ≡ Some A → ⊥
    none e = cc

    own : (at : Position) → (k : ℕ) × (x : Shape) × (slice_get (current_shapes p s) k ≡ Some x) × (at ≡ own_last (0 + k) x) × (0 < x.closed)
        → (at.index < next_index s) × ((k : ℕ) (d : Marked) → k < length u.objects → at.index ≡ u.first + k
        → symbol_number (get_or u.objects k d).cut at.block at.symbol + 1 ≤ (get_or u.objects k d).closed)
    own at (i, x, there, is, some) = (
      (let past = past_end (current_shapes p s) i x there in let index = ap (λ (q : Position). q.index) is in omega (arith, past, index, length-map s.current.order (λ (e : Entry). shape_of p e.object))),
      λ k d lt at_k.
          let index = ap (λ (q : Position). q.index) is in
          let place : u.first + k ≡ i = omega (arith, index, at_k) in
          let shape : x ≡ shape_of_marked (get_or u.objects k d) =
          same_some x (shape_of_marked (get_or u.objects k d)) (sym there ∙ ap (slice_get (current_shapes p s)) (sym place) ∙ window_shape p s u k d st lt) in
          ends k d lt x at (ap (λ (q : Position). q.block) is) (ap (λ (q : Position). q.symbol) is) some shape,
    )
      where
        ends : (k : ℕ) (d : Marked) → k < length u.objects → (x : Shape) (at : Position) → at.block ≡ closed_blocks x - 1 → at.symbol ≡ closed_in x (closed_blocks x - 1) - 1
            → 0 < x.closed → x ≡ shape_of_marked (get_or u.objects k d)
            → symbol_number (get_or u.objects k d).cut at.block at.symbol + 1 ≤ (get_or u.objects k d).closed
        ends k d lt x at block symbol some shape =
            let m : Marked = get_or u.objects k d in
            let last = marked_ends m (all_at u.objects k d planned lt) (subst (λ (y : Shape). 0 < y.closed) shape some) in
            let number =
            ap (λ b. symbol_number m.cut b at.symbol) (block ∙ ap (λ (y : Shape). closed_blocks y - 1) shape)
            ∙ ap (symbol_number m.cut (closed_blocks (shape_of_marked m) - 1)) (symbol ∙ ap (λ (y : Shape). closed_in y (closed_blocks y - 1) - 1) shape) in
            omega (arith, last, number)

    by : (last : Option Position) → last_source (current_shapes p s) ≡ last
        → IfSome last (λ at. (at.index < next_index s) × ((k : ℕ) (d : Marked) → k < length u.objects → at.index ≡ u.first + k
        → symbol_number (get_or u.objects k d).cut at.block at.symbol + 1 ≤ (get_or u.objects k d).closed))
    by None e = tt
    by (Some at) e = go (last_owned 0 None (current_shapes p s) at e)
      where
        go : (None ≡ Some at) ⊎ ((k : ℕ) × (x : Shape) × (slice_get (current_shapes p s) k ≡ Some x) × (at ≡ own_last (0 + k) x) × (0 < x.closed))
            → (at.index < next_index s) × ((k : ℕ) (d : Marked) → k < length u.objects → at.index ≡ u.first + k
            → symbol_number (get_or u.objects k d).cut at.block at.symbol + 1 ≤ (get_or u.objects k d).closed)
        go (inl h) = absurd (none h)
        go (inr found) = own at found

known_now : (p : Settings) (s : SenderState) (u : Kept) → Holds p u s → AllByRecursion IsPlanned u.objects → (requests : List Named) → AllByRecursion (IsKnownIn u (next_index s)) (map (asked_of p s) requests)
known_now p s u st planned [] = tt
known_now p s u st planned (r ∷ requests) = (record { next = omega arith; last = last_known p s u st planned }, known_now p s u st planned requests)

-- what is known stays where cuts and closed symbols do
known_added : (old new : Kept) (requests : List Named) (n : ℕ) (asked : List Asked) → HasAdded requests old new → AllByRecursion (IsKnownIn old n) asked → AllByRecursion (IsKnownIn new n) asked
known_added old new requests n [] h known = tt
known_added old new requests n (a ∷ asked) h known = (record { next = known.0.next; last = by a.last known.0.last }, known_added old new requests n asked h known.1)
  where
    by : (last : Option Position)
        → IfSome last (λ at. (at.index < n) × ((j : ℕ) (e : Marked) → j < length old.objects → at.index ≡ old.first + j
        → symbol_number (get_or old.objects j e).cut at.block at.symbol + 1 ≤ (get_or old.objects j e).closed))
        → IfSome last (λ at. (at.index < n) × ((j : ℕ) (e : Marked) → j < length new.objects → at.index ≡ new.first + j
        → symbol_number (get_or new.objects j e).cut at.block at.symbol + 1 ≤ (get_or new.objects j e).closed))
    by None know = know
    by (Some at) know = (
      know.0,
      λ j e less is.
          let within : j < length old.objects = let many = h.objects in omega (arith, less, many) in
          let le = know.1 j e within (let first = h.first in omega (arith, is, first)) in
          let rest = (h.each j e within).rest in
          let number = ap (λ (m : Marked). symbol_number m.cut at.block at.symbol) rest in
          let many = ap (λ (m : Marked). m.closed) rest in
          omega (arith, le, number, many),
    )

-- the least index of more requests
later : (p : Settings) (s : SenderState) (found : Option Point) (asked : List Asked) (requests : List Named)
    → earliest_with found (map (λ (a : Asked). a.request) (asked ++ map (asked_of p s) requests)) ≡ earliest_with (earliest_with found (map (λ (a : Asked). a.request) asked)) requests
later p s found [] [] = refl
later p s found [] (r ∷ requests) = later p s (lesser found (earliest r)) [] requests
later p s found (a ∷ asked) requests = later p s (lesser found (earliest a.request)) asked requests

-- A union that collected what was asked, to which requests were added.
module _ (p : Settings) (s : SenderState) (old new : Kept) (asked : List Asked) (requests : List Named)
    (st : Holds p old s) (planned : AllByRecursion IsPlanned old.objects) (now_planned : AllByRecursion IsPlanned new.objects) (col : Collects p old s asked) (h : HasAdded requests old new) where
  abbrev more : List Asked
  more = map (asked_of p s) requests

  abbrev wants : Asked → List Want
  wants = wants_of (current_shapes p s)

  abbrev behind : Want → Bool
  behind = stands_behind s.current.drop

  abbrev collected : Kept → List Want
  collected u = listed (λ m. m.asked) u.first u.objects

  rise_old : Rise (collected old)
  rise_old = subst Rise (sym col.named) (rise_more (filter behind (flat_map wants asked)) [] tt)

  old_at : (k a : ℕ) (d : Marked) → k < length old.objects → is_member want_before (want_at (old.first + k) a) (collected old) ≡ is_member nat_lt a (get_or old.objects k d).asked
  old_at k a d lt = member_at (λ m. m.asked) old.first k a old.objects d lt

  new_at : (k a : ℕ) (d : Marked) → k < length old.objects → stands_from (get_or old.objects k d).first a ≡ true
      → is_member want_before (want_at (old.first + k) a) (collected new)
      ≡ (is_member nat_lt a (get_or old.objects k d).asked || is_asked_slot requests (old.first + k) (get_or old.objects k d) a)
  new_at k a d lt kept =
      ap (λ i. is_member want_before (want_at (i + k) a) (collected new)) (sym h.first)
      ∙ member_at (λ m. m.asked) new.first k a new.objects d (let many = h.objects in omega (arith, many, lt))
      ∙ (h.each k d lt).asked a kept

  -- what was collected before
  from_old : (w : Want) → In w (collected old) → In w (filter behind (flat_map wants (asked ++ more)))
  from_old w here = go (in_set w (filter behind (flat_map wants asked)) [] (subst (In w) col.named here))
    where
      go : In w (filter behind (flat_map wants asked)) ⊎ ⊥ → In w (filter behind (flat_map wants (asked ++ more)))
      go (inl there) =
          let both = in_filter behind w (flat_map wants asked) there in
          filter_in behind w (flat_map wants (asked ++ more))
          (subst (In w) (sym (flat_map-append wants asked more)) (in_left w (flat_map wants asked) (flat_map wants more) both.0)) both.1
      go (inr none) = absurd none

  -- what a request adds
  from_request : (k a : ℕ) → k < length old.objects → stands_from (get_or old.objects k some_object).first a ≡ true → (r : Named) → In r requests → asks_slot r (old.first + k) (get_or old.objects k some_object) a ≡ true
      → In (want_at (old.first + k) a) (filter behind (flat_map wants (asked ++ more)))
  from_request k a lt kept r here asks =
      filter_in behind (want_at (old.first + k) a) (flat_map wants (asked ++ more))
      (subst (In (want_at (old.first + k) a)) (sym (flat_map-append wants asked more))
      (in_right (want_at (old.first + k) a) (flat_map wants asked) (flat_map wants more)
      (flat_in wants (want_at (old.first + k) a) (asked_of p s r) more (map_in (asked_of p s) r requests here)
      (slot_in p s old r some_object st planned k a lt asks))))
      (slot_behind s.current.drop old.first k a old.objects some_object st.fronts st.first lt kept)

  there : (w : Want) → In w (collected new) → In w (filter behind (flat_map wants (asked ++ more)))
  there w here = go (in_listed (λ m. m.asked) new.first new.objects w here)
    where
      go : (k : ℕ) × (a : ℕ) × (k < length new.objects) × (w ≡ want_at (new.first + k) a) → In w (filter behind (flat_map wants (asked ++ more)))
      go (k, a, less, same) = subst (λ v. In v (filter behind (flat_map wants (asked ++ more)))) (sym is) (by (one_of _ _ (sym (new_at k a some_object lt kept) ∙ is_found (want_at (old.first + k) a) (collected new) h.rise (subst (λ v. In v (collected new)) is here))))
        where
          is : w ≡ want_at (old.first + k) a
          is = same ∙ ap (λ i. want_at (i + k) a) h.first

          lt : k < length old.objects
          lt = let many = h.objects in omega (arith, less, many)

          member : is_member nat_lt a (get_or new.objects k some_object).asked ≡ true
          member =
              sym (member_at (λ m. m.asked) new.first k a new.objects some_object less)
              ∙ is_found (want_at (new.first + k) a) (collected new) h.rise (subst (λ v. In v (collected new)) same here)

          kept : stands_from (get_or old.objects k some_object).first a ≡ true
          kept =
              ap (λ n. stands_from n a) (sym (ap (λ (m : Marked). m.first) (h.each k some_object lt).rest))
              ∙ (all_at new.objects k some_object now_planned less).kept a member

          by : (is_member nat_lt a (get_or old.objects k some_object).asked ≡ true) ⊎ (is_asked_slot requests (old.first + k) (get_or old.objects k some_object) a ≡ true)
              → In (want_at (old.first + k) a) (filter behind (flat_map wants (asked ++ more)))
          by (inl before) = from_old (want_at (old.first + k) a) (found_in (want_at (old.first + k) a) (collected old) (old_at k a some_object lt ∙ before))
          by (inr now) =
              let r = any_in (λ r. asks_slot r (old.first + k) (get_or old.objects k some_object) a) requests now in
              from_request k a lt kept r.0 r.1 r.2

  -- what stands at a slot that was collected, or that is asked for now
  found_at : (k a : ℕ) → k < length old.objects → stands_from (get_or old.objects k some_object).first a ≡ true
      → (is_member nat_lt a (get_or old.objects k some_object).asked || is_asked_slot requests (old.first + k) (get_or old.objects k some_object) a) ≡ true
      → In (want_at (old.first + k) a) (collected new)
  found_at k a lt kept e = found_in (want_at (old.first + k) a) (collected new) (new_at k a some_object lt kept ∙ e)

  back_old : (w : Want) → In w (collected old) → In w (collected new)
  back_old w here = go (in_listed (λ m. m.asked) old.first old.objects w here)
    where
      go : (k : ℕ) × (a : ℕ) × (k < length old.objects) × (w ≡ want_at (old.first + k) a) → In w (collected new)
      go (k, a, lt, same) =
          subst (λ v. In v (collected new)) (sym same)
          (found_at k a lt ((all_at old.objects k some_object planned lt).kept a
          (sym (old_at k a some_object lt) ∙ is_found (want_at (old.first + k) a) (collected old) rise_old (subst (λ v. In v (collected old)) same here)))
          (ap (λ b. b || is_asked_slot requests (old.first + k) (get_or old.objects k some_object) a)
          (sym (old_at k a some_object lt) ∙ is_found (want_at (old.first + k) a) (collected old) rise_old (subst (λ v. In v (collected old)) same here))))

  back_request : (w : Want) (r : Named) → In r requests → behind w ≡ true → AsksAt old r some_object w → In w (collected new)
  back_request w r here passes at =
      subst (λ v. In v (collected new)) (want_there (old.first + at.place) w at.named at.index)
      (found_at at.place (slot_of_want w) at.within
      (slot_kept s.current.drop old.first at.place (slot_of_want w) old.objects some_object st.fronts st.first at.within (ap behind (want_there (old.first + at.place) w at.named at.index) ∙ passes))
      (of_right (is_member nat_lt (slot_of_want w) (get_or old.objects at.place some_object).asked) _
      (in_any (λ r. asks_slot r (old.first + at.place) (get_or old.objects at.place some_object) (slot_of_want w)) requests r here at.asks)))

  back : (w : Want) → In w (filter behind (flat_map wants (asked ++ more))) → In w (collected new)
  back w here = by (in_filter behind w (flat_map wants (asked ++ more)) here)
    where
      go : behind w ≡ true → In w (flat_map wants asked) ⊎ In w (flat_map wants more) → In w (collected new)
      go passes (inl before) =
          back_old w (subst (In w) (sym col.named) (set_in w (filter behind (flat_map wants asked)) [] (inl (filter_in behind w (flat_map wants asked) before passes))))
      go passes (inr now) =
          let a = in_flat wants w more now in
          let r = in_map (asked_of p s) a.0 requests a.1 in
          back_request w r.0 r.1 passes (in_slot p s old r.0 some_object st planned w (subst (λ (x : Asked). In w (wants x)) r.2 a.2) passes)

      by : In w (flat_map wants (asked ++ more)) × (behind w ≡ true) → In w (collected new)
      by (all, passes) = go passes (in_either w (flat_map wants asked) (flat_map wants more) (subst (In w) (flat_map-append wants asked more) all))

  count_is : (k : ℕ) (d : Marked) → k < length old.objects → (block : ℕ) → (get_or old.objects k d).first ≤ block
      → get_or (get_or new.objects k d).counts block 0 ≡ greatest (flat_map (counts_of (current_shapes p s)) (asked ++ more)) (point (old.first + k) block)
  count_is k d lt block from =
      go (cases_lt block (length (get_or old.objects k d).counts))
      ∙ sym (greatest_both (flat_map (counts_of (current_shapes p s)) asked) (flat_map (counts_of (current_shapes p s)) more) (point (old.first + k) block))
      ∙ ap (λ cs. greatest cs (point (old.first + k) block)) (sym (flat_map-append (counts_of (current_shapes p s)) asked more))
    where
      each : HasAsked requests (old.first + k) (get_or old.objects k d) (get_or new.objects k d)
      each = h.each k d lt

      plan : IsPlanned (get_or old.objects k d)
      plan = all_at old.objects k d planned lt

      go : (block < length (get_or old.objects k d).counts) ⊎ (length (get_or old.objects k d).counts ≤ block)
          → get_or (get_or new.objects k d).counts block 0
          ≡ max (greatest (flat_map (counts_of (current_shapes p s)) asked) (point (old.first + k) block)) (greatest (flat_map (counts_of (current_shapes p s)) more) (point (old.first + k) block))
      go (inl less) =
          each.counts block from less
          ∙ ap (λ n. max n (kept_count (symbols_of_marked (get_or old.objects k d)) block (greatest (flat_map asked_counts requests) (point (old.first + k) block)))) (col.counts k d lt block from)
          ∙ ap (max (greatest (flat_map (counts_of (current_shapes p s)) asked) (point (old.first + k) block)))
          (counts_kept p s old d st planned requests k block lt from)
      go (inr past) =
          let here = get_or_past (get_or new.objects k d).counts block 0 (let many = each.blocks in omega (arith, past, many)) in
          let before = get_or_past (get_or old.objects k d).counts block 0 past in
          let was = col.counts k d lt block from in
          let now = none_kept p s old d st planned requests k block lt (empty (plan.counts block past)) in
          omega (arith, here, before, was, now)
        where
          empty : closed_in (shape_of_marked (get_or old.objects k d)) block ≡ 0 → nat_lt 0 (closed_in (shape_of_marked (get_or old.objects k d)) block) ≡ false
          empty e = ap (nat_lt 0) e ∙ le-ltb 0 0 (omega arith)

  -- Requests that were added as they came are collected.
  pub collects_more : Collects p new s (asked ++ more)
  collects_more = record {
    earliest = h.earliest ∙ ap (λ found. earliest_with found requests) col.earliest ∙ sym (later p s None asked requests);
    known = known_added old new requests (next_index s) (asked ++ more) h (known_all old (next_index s) asked more col.known (known_now p s old st planned requests));
    named = sym (rising_self (collected new) h.rise) ∙ same_set (collected new) (filter behind (flat_map wants (asked ++ more))) [] there back;
    counts = λ k d lt block from.
        let within : k < length old.objects = let many = h.objects in omega (arith, lt, many) in
        count_is k d within block (subst (λ n. n ≤ block) (ap (λ (m : Marked). m.first) (h.each k d within).rest) from)
        ∙ ap (λ i. greatest (flat_map (counts_of (current_shapes p s)) (asked ++ more)) (point (i + k) block)) (sym h.first);
  }

-- what requests name, as the order stands
pub named_then_asked : (p : Settings) (s : SenderState) (known : ℕ) (requests : List Request) → known ≡ last_index s
    → map (asked_of p s) (map (named p known) requests) ≡ map (asked_now p s) requests
named_then_asked p s known [] is = refl
named_then_asked p s known (r ∷ requests) is =
    ap (λ (n : ℕ). asked_of p s (named p n r) ∷ map (asked_of p s) (map (named p known) requests)) is
    ∙ ap (λ (asked : List Asked). asked_now p s r ∷ asked) (named_then_asked p s known requests is)
