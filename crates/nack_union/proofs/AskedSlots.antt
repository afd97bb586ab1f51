-- What a request asks for by name of an object of the window, by slots and by the rules.
use Rattle.std.proofs.Common.{◌≡◌, ℕ, zero, suc, ◌+◌, ◌-◌, ◌/◌, ◌%◌, ◌<◌, ◌≤◌, ◌⊎◌, inl, inr, List, ◌++◌, map, length, get_or, Bool, true, false, Option, Some, None, refl, sym, ap, subst, ◌∙◌, arith}
use Rattle.std.specs.Prelude.{filter, nat_lt, slice_get, ◌&&◌, ◌||◌}
use Rattle.std.specs.List.{AllByRecursion, range_with_len}
use Rattle.std.proofs.lemmas.Bool.{cases_lt, lt-ltb, ltb-true}
use Rattle.norm_base.specs.Settings.{Settings}
use Rattle.fec_plan.specs.Partition.{IsSound, blocks, encoding_symbols}
use Rattle.fec_plan.specs.Points.{position}
use Rattle.fec_plan.specs.declared.position.Position.{Position}
use Rattle.norm_ext.specs.Asking.{Named, asks_source, asks_info, asked_symbols}
use Rattle.norm_order.specs.Shapes.{Shape, closed_in, closed_blocks, encoded_in, at_index, is_encoded, has_info}
use Rattle.norm_send_rules.specs.SenderState.{SenderState}
use Rattle.norm_send_rules.specs.InWindow.{current_shapes, stands_behind}
use Rattle.norm_send_rules.specs.Asking.{all_sources, as_it_came, wants_of}
use Rattle.nack_union.specs.Collected.{asked_of}
use Rattle.norm_send_rules.specs.Wants.{want_index}
use Rattle.norm_send_rules.specs.declared.want.Want.{Want}
use Rattle.norm_send_rules.specs.declared.want.Want.TheVariants.{Info, Symbol}
use Rattle.fec_plan.proofs.PartitionLemmas.{sources_fit}
use Rattle.nack_union.specs.Slots.{want_at, slot_of_want, IsNamed}
use Rattle.nack_union.specs.Kept.{Marked, Kept, Holds, shape_of_marked, symbols_of_marked}
use Rattle.nack_union.specs.Adding.{IsPlanned, names_symbol, asks_symbol, asks_slot}
use Rattle.nack_union.proofs.Collecting.{past_end}
use Rattle.nack_union.proofs.Counted.{encoded_fits}
use Rattle.nack_union.proofs.Dropped.{not_behind}
use Rattle.nack_union.proofs.Lists.{In, in_left, in_right, in_either, filter_in, in_filter}
use Rattle.nack_union.proofs.Sources.{map_in, in_map, range_in, in_all_sources, all_sources_have}
use Rattle.nack_union.proofs.Wholes.{in_closed, closed_past, encoded_past}
use Rattle.nack_union.proofs.Came.{all_at, came_at, length_came}
use Rattle.nack_union.proofs.Windows.{within_order}
use Rattle.nack_union.proofs.NamedSymbols.{clash, both_of, of_both, one_of, of_left, of_right, slot_asks, named_in, in_named}

-- a place of the window whose slot a request asks for by name
pub record AsksAt (u : Kept) (r : Named) (d : Marked) (w : Want) : Type 0 where
  pub place : ℕ
  pub within : place < length u.objects
  pub index : want_index w ≡ u.first + place
  pub named : IsNamed w
  pub asks : asks_slot r (u.first + place) (get_or u.objects place d) (slot_of_want w) ≡ true

-- A union that stands for a state, at whose moment a request comes.
module _ (p : Settings) (s : SenderState) (u : Kept) (r : Named) (d : Marked) (st : Holds p u s) (planned : AllByRecursion IsPlanned u.objects) where
  abbrev came : List Shape
  came = as_it_came (asked_of p s r) (current_shapes p s)

  abbrev of_sources : List Want
  of_sources = map Symbol (filter (asks_source r) (all_sources 0 came))

  abbrev of_named : List Want
  of_named = map Symbol (filter (is_encoded came) (asked_symbols r))

  abbrev of_infos : List Want
  of_infos = map Info (filter (λ index. has_info came index && asks_info r index) (range_with_len 0 (length came)))

  -- what a test says of an object of the window
  pub test_at : (k : ℕ) → k < length u.objects → (test : Shape → Bool) → at_index came (u.first + k) false test ≡ test (shape_of_marked (get_or u.objects k d))
  test_at k lt test = ap (λ (o : Option Shape). elim o as (λ _. Bool) [ Some x ↦ test x | None ↦ false ]) (came_at p s u r k d st planned lt)

  source_in : (k : ℕ) (at : Position) → k < length u.objects → at.index ≡ u.first + k → at.block < blocks (get_or u.objects k d).cut
      → at.symbol < closed_in (symbols_of_marked (get_or u.objects k d)) at.block → asks_source r at ≡ true → In (Symbol at) (wants_of (current_shapes p s) (asked_of p s r))
  source_in k at lt index block symbol asks =
      in_left (Symbol at) (of_sources ++ of_named) of_infos (in_left (Symbol at) of_sources of_named
      (map_in Symbol at (filter (asks_source r) (all_sources 0 came)) (filter_in (asks_source r) at (all_sources 0 came)
      (all_sources_have 0 came at (u.first + k) (shape_of_marked m) (came_at p s u r k d st planned lt) (record {
        index_is = omega (arith, index);
        block = in_closed m at.block sound block (let some : 0 < closed_in (shape_of_marked m) at.block = omega (arith, symbol) in some);
        symbol = symbol;
      })) asks)))
    where
      m : Marked
      m = get_or u.objects k d

      sound : IsSound m.cut
      sound = (all_at u.objects k d planned lt).sound

  encoded_there : (k : ℕ) (at : Position) → k < length u.objects → at.index ≡ u.first + k → at.block < blocks (get_or u.objects k d).cut
      → at.symbol < encoded_in (symbols_of_marked (get_or u.objects k d)) at.block → names_symbol r at ≡ true → In (Symbol at) (wants_of (current_shapes p s) (asked_of p s r))
  encoded_there k at lt index block symbol names =
      in_left (Symbol at) (of_sources ++ of_named) of_infos (in_right (Symbol at) of_sources of_named
      (map_in Symbol at (filter (is_encoded came) (asked_symbols r)) (filter_in (is_encoded came) at (asked_symbols r) (named_in r at names)
      (ap (λ i. at_index came i false (λ x. nat_lt at.symbol (encoded_in x at.block))) index
      ∙ test_at k lt (λ x. nat_lt at.symbol (encoded_in x at.block))
      ∙ lt-ltb at.symbol (encoded_in (shape_of_marked (get_or u.objects k d)) at.block) symbol))))

  info_in : (k : ℕ) → k < length u.objects → ((get_or u.objects k d).info && asks_info r (u.first + k)) ≡ true → In (Info (u.first + k)) (wants_of (current_shapes p s) (asked_of p s r))
  info_in k lt asks =
      in_right (Info (u.first + k)) (of_sources ++ of_named) of_infos
      (map_in Info (u.first + k) (filter (λ index. has_info came index && asks_info r index) (range_with_len 0 (length came)))
      (filter_in (λ index. has_info came index && asks_info r index) (u.first + k) (range_with_len 0 (length came))
      (range_in (u.first + k) 0 (length came) (omega arith) (let here = past_end came (u.first + k) (shape_of_marked (get_or u.objects k d)) (came_at p s u r k d st planned lt) in omega (arith, here)))
      (ap (λ b. b && asks_info r (u.first + k)) (test_at k lt (λ x. x.info)) ∙ asks)))

  -- what a request asks for at a slot of the window, the rules want
  pub slot_in : (k slot : ℕ) → k < length u.objects → asks_slot r (u.first + k) (get_or u.objects k d) slot ≡ true
      → In (want_at (u.first + k) slot) (wants_of (current_shapes p s) (asked_of p s r))
  slot_in k zero lt asks = info_in k lt asks
  slot_in k (suc n) lt asks =
      let two = both_of _ _ asks in
      let block = ltb-true (n / 256) (blocks (get_or u.objects k d).cut) two.0 in
      go block (one_of _ _ two.1)
    where
      at : Position
      at = position (u.first + k) (n / 256) (n % 256)

      go : n / 256 < blocks (get_or u.objects k d).cut
          → ((nat_lt at.symbol (closed_in (symbols_of_marked (get_or u.objects k d)) at.block) && asks_source r at) ≡ true)
          ⊎ ((nat_lt at.symbol (encoded_in (symbols_of_marked (get_or u.objects k d)) at.block) && names_symbol r at) ≡ true)
          → In (Symbol at) (wants_of (current_shapes p s) (asked_of p s r))
      go block (inl h) = let two = both_of _ _ h in source_in k at lt refl block (ltb-true at.symbol (closed_in (symbols_of_marked (get_or u.objects k d)) at.block) two.0) two.1
      go block (inr h) = let two = both_of _ _ h in encoded_there k at lt refl block (ltb-true at.symbol (encoded_in (symbols_of_marked (get_or u.objects k d)) at.block) two.0) two.1

  -- what stands behind the drop point and in the order is in the window
  place_of : (w : Want) → want_index w < length came → stands_behind s.current.drop w ≡ true → (k : ℕ) × (k < length u.objects) × (want_index w ≡ u.first + k)
  place_of w lt behind = go (cases_lt (want_index w) u.first)
    where
      go : (want_index w < u.first) ⊎ (u.first ≤ want_index w) → (k : ℕ) × (k < length u.objects) × (want_index w ≡ u.first + k)
      go (inl before) = absurd (clash (sym (not_behind s.current.drop w (let f = st.first in omega (arith, f, before))) ∙ behind))
      go (inr le) = (
        want_index w - u.first,
        (let many = length_came p s r in let next = st.next in omega (arith, many, next, lt, le)),
        omega (arith, le),
      )

  symbol_asked : (k : ℕ) (at : Position) → k < length u.objects → at.index ≡ u.first + k → at.block < blocks (get_or u.objects k d).cut
      → at.symbol < 256
      → ((nat_lt at.symbol (closed_in (symbols_of_marked (get_or u.objects k d)) at.block) && asks_source r at) || (nat_lt at.symbol (encoded_in (symbols_of_marked (get_or u.objects k d)) at.block) && names_symbol r at)) ≡ true
      → AsksAt u r d (Symbol at)
  symbol_asked k at lt index block few asks = record {
    place = k;
    within = lt;
    index = index;
    named = few;
    asks =
        slot_asks r (u.first + k) at.block at.symbol (get_or u.objects k d) few
        ∙ ap (λ i. asks_symbol r (symbols_of_marked (get_or u.objects k d)) (position i at.block at.symbol)) (sym index)
        ∙ of_both _ _ (lt-ltb at.block (blocks (get_or u.objects k d).cut) block) asks;
  }

  encoded_few : (k : ℕ) (at : Position) → k < length u.objects → at.symbol < encoded_in (shape_of_marked (get_or u.objects k d)) at.block → at.symbol < 256
  encoded_few k at lt symbol =
      let plan = all_at u.objects k d planned lt in
      less (encoded_fits (shape_of_marked (get_or u.objects k d)) at.block plan.sound) (plan.few at.block)
    where
      less : encoded_in (shape_of_marked (get_or u.objects k d)) at.block ≤ encoding_symbols (get_or u.objects k d).cut at.block
          → encoding_symbols (get_or u.objects k d).cut at.block ≤ 255 → at.symbol < 256
      less fits few = omega (arith, fits, few, symbol)

  source_few : (k : ℕ) (at : Position) → k < length u.objects → at.symbol < closed_in (shape_of_marked (get_or u.objects k d)) at.block → at.symbol < 256
  source_few k at lt symbol =
      let plan = all_at u.objects k d planned lt in
      let fit = sources_fit (get_or u.objects k d).cut at.block plan.sound in
      let few = plan.few at.block in
      omega (arith, symbol, fit, few)

  same_some : (x y : Shape) → Some x ≡ Some y → x ≡ y
  same_some x y e = cc

  from_source : (at : Position) → In at (all_sources 0 came) → asks_source r at ≡ true → stands_behind s.current.drop (Symbol at) ≡ true → AsksAt u r d (Symbol at)
  from_source at here asks behind =
      let found = in_all_sources 0 came at here in
      let in_order = past_end came found.0 found.1 found.2 in
      let at_index-is = found.3.index_is in
      let place = place_of (Symbol at) (omega (arith, in_order, at_index-is)) behind in
      go place.0 place.1 place.2 found.1 (ap (slice_get came) (let e : u.first + place.0 ≡ found.0 = let f = place.2 in omega (arith, f, at_index-is) in e) ∙ found.2) found.3.block found.3.symbol
    where
      go : (k : ℕ) → k < length u.objects → at.index ≡ u.first + k → (x : Shape) → slice_get came (u.first + k) ≡ Some x
          → at.block < closed_blocks x → at.symbol < closed_in x at.block → AsksAt u r d (Symbol at)
      go k lt index x is block symbol =
          let shape = same_some x (shape_of_marked (get_or u.objects k d)) (sym is ∙ came_at p s u r k d st planned lt) in
          let symbol_lt : at.symbol < closed_in (shape_of_marked (get_or u.objects k d)) at.block = subst (λ n. at.symbol < n) (ap (λ y. closed_in y at.block) shape) symbol in
          let few = source_few k at lt symbol_lt in
          by (cases_lt at.block (blocks (get_or u.objects k d).cut)) symbol_lt few
        where
          by : (at.block < blocks (get_or u.objects k d).cut) ⊎ (blocks (get_or u.objects k d).cut ≤ at.block)
              → at.symbol < closed_in (shape_of_marked (get_or u.objects k d)) at.block → at.symbol < 256 → AsksAt u r d (Symbol at)
          by (inl less) symbol_lt few =
              symbol_asked k at lt index less few
              (of_left _ _ (of_both _ _ (lt-ltb at.symbol (closed_in (symbols_of_marked (get_or u.objects k d)) at.block) symbol_lt) asks))
          by (inr past) symbol_lt few = let none = closed_past (get_or u.objects k d) at.block (all_at u.objects k d planned lt) past in absurd (omega (arith, none, symbol_lt))

  from_named : (at : Position) → In at (asked_symbols r) → is_encoded came at ≡ true → stands_behind s.current.drop (Symbol at) ≡ true → AsksAt u r d (Symbol at)
  from_named at here encoded behind =
      let place = place_of (Symbol at) (within_order came at.index (λ x. nat_lt at.symbol (encoded_in x at.block)) encoded) behind in
      go place.0 place.1 place.2 (cases_lt at.block (blocks (get_or u.objects place.0 d).cut))
    where
      go : (k : ℕ) → k < length u.objects → at.index ≡ u.first + k → (at.block < blocks (get_or u.objects k d).cut) ⊎ (blocks (get_or u.objects k d).cut ≤ at.block) → AsksAt u r d (Symbol at)
      go k lt index side = by side
        where
          symbol : at.symbol < encoded_in (shape_of_marked (get_or u.objects k d)) at.block
          symbol = ltb-true at.symbol (encoded_in (shape_of_marked (get_or u.objects k d)) at.block)
              (sym (test_at k lt (λ x. nat_lt at.symbol (encoded_in x at.block))) ∙ ap (λ i. at_index came i false (λ x. nat_lt at.symbol (encoded_in x at.block))) (sym index) ∙ encoded)

          by : (at.block < blocks (get_or u.objects k d).cut) ⊎ (blocks (get_or u.objects k d).cut ≤ at.block) → AsksAt u r d (Symbol at)
          by (inl block) =
              symbol_asked k at lt index block (encoded_few k at lt symbol)
              (of_right _ _ (of_both _ _ (lt-ltb at.symbol (encoded_in (symbols_of_marked (get_or u.objects k d)) at.block) symbol) (in_named r at here)))
          by (inr past) = let none = encoded_past (get_or u.objects k d) at.block (all_at u.objects k d planned lt) past in absurd (omega (arith, none, symbol))

  from_info : (i : ℕ) → (has_info came i && asks_info r i) ≡ true → stands_behind s.current.drop (Info i) ≡ true → AsksAt u r d (Info i)
  from_info i asks behind =
      let place = place_of (Info i) (within_order came i (λ x. x.info) (both_of _ _ asks).0) behind in
      record {
        place = place.0;
        within = place.1;
        index = place.2;
        named = tt;
        asks =
            ap (λ b. b && asks_info r (u.first + place.0)) (sym (test_at place.0 place.1 (λ x. x.info)))
            ∙ ap (λ j. has_info came j && asks_info r j) (sym place.2) ∙ asks;
      }

  -- what the rules want of a request behind the drop point, it asks for at a slot of the window
  pub in_slot : (w : Want) → In w (wants_of (current_shapes p s) (asked_of p s r)) → stands_behind s.current.drop w ≡ true → AsksAt u r d w
  in_slot w here behind = go (in_either w (of_sources ++ of_named) of_infos here)
    where
      symbols : In w of_sources ⊎ In w of_named → AsksAt u r d w
      symbols (inl h) =
          let at = in_map Symbol w (filter (asks_source r) (all_sources 0 came)) h in
          let both = in_filter (asks_source r) at.0 (all_sources 0 came) at.1 in
          subst (AsksAt u r d) (sym at.2) (from_source at.0 both.0 both.1 (sym (ap (stands_behind s.current.drop) at.2) ∙ behind))
      symbols (inr h) =
          let at = in_map Symbol w (filter (is_encoded came) (asked_symbols r)) h in
          let both = in_filter (is_encoded came) at.0 (asked_symbols r) at.1 in
          subst (AsksAt u r d) (sym at.2) (from_named at.0 both.0 both.1 (sym (ap (stands_behind s.current.drop) at.2) ∙ behind))

      go : In w (of_sources ++ of_named) ⊎ In w of_infos → AsksAt u r d w
      go (inl h) = symbols (in_either w of_sources of_named h)
      go (inr h) =
          let i = in_map Info w (filter (λ index. has_info came index && asks_info r index) (range_with_len 0 (length came))) h in
          let both = in_filter (λ index. has_info came index && asks_info r index) i.0 (range_with_len 0 (length came)) i.1 in
          subst (AsksAt u r d) (sym i.2) (from_info i.0 both.1 (sym (ap (stands_behind s.current.drop) i.2) ∙ behind))
