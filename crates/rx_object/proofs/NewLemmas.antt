-- An object of which nothing is held.
use Rattle.std.proofs.Common.{◌≡◌, ℕ, zero, suc, ◌+◌, ◌-◌, ◌<◌, ◌≤◌, List, [], ◌∷◌, ◌++◌, length, take, get_or, replicate, true, false, Option, Some, None, refl, sym, ap, ◌∙◌, subst, arith}
use Rattle.std.specs.Prelude.{◌==◌, ◌||◌, filter, flat_map, is_some, nat_lt, slice_index}
use Rattle.std.specs.List.{range_with_len, slice_range}
use Rattle.std.proofs.lemmas.Bool.{lt-ltb, ne_eqb}
use Rattle.std.proofs.lemmas.List.{take-replicate, drop-replicate, get_or-replicate, length-replicate}
use Rattle.std.proofs.lemmas.List.Concat.{flat_map-cons}
use Rattle.std.proofs.lemmas.List.Sums.{length-filter}
use Rattle.fec_plan.specs.Partition.{Cut, IsSound, blocks, source_symbols, all_symbols, sent_octets}
use Rattle.norm_receive_rules.specs.Holding.{Held}
use Rattle.rx_object.specs.BlockState.{held_at}
use Rattle.rx_object.specs.Places.{AreApart, free_places, has_id}
use Rattle.rx_object.specs.Rows.{start_of, end_of, block_ids, coded_symbol, held_under, held_in, all_held}
use Rattle.rx_object.specs.ObjectSound.{AreShorts, IsBlock}
use Rattle.short_blocks.specs.State.{ShortsState, all_short}
use Rattle.rx_object.proofs.Cuts.{ends_within, some_sources}
use Rattle.rx_object.proofs.Listed.{by_ids}
use Rattle.rx_object.proofs.OneMore.{none_there}

-- ---- places that are all free

abbrev pub frees : ℕ → List ℕ
frees n = replicate n 255

abbrev pub zeros : ℕ → List ℕ
zeros n = replicate n 0

own_part : (n i j : ℕ) → j ≤ n → i ≤ j → slice_range (frees n) i j ≡ frees (j - i)
own_part n i j within le = ap (take (j - i)) (drop-replicate i n 255) ∙ take-replicate (j - i) (n - i) 255 (omega (arith, within, le))

pub free_ids : (c : Cut) (block : ℕ) → IsSound c → is_some c.l ≡ true → block < blocks c → block_ids c (frees (all_symbols c)) block ≡ frees (source_symbols c block)
free_ids c block sound object lt =
    own_part (all_symbols c) (start_of c block) (end_of c block) (ends_within c block sound object lt) (omega arith)
    ∙ ap (λ n. frees n) (let e : end_of c block - start_of c block ≡ source_symbols c block = omega arith in e)

all_kept : (k : ℕ) → filter (λ (id : ℕ). id == 255) (frees k) ≡ frees k
all_kept zero = refl
all_kept (suc k) = ap (λ xs. 255 ∷ xs) (all_kept k)

all_free : (k : ℕ) → free_places (frees k) ≡ k
all_free k = sym (length-filter (λ (id : ℕ). id == 255) (frees k)) ∙ ap length (all_kept k) ∙ length-replicate {A = ℕ} k 255

pub none_has : (id k : ℕ) → id < 255 → has_id id (frees k) ≡ false
none_has id zero small = refl
none_has id (suc k) small = ap (λ b. b || has_id id (frees k)) (ne_eqb 255 id (λ e. omega (arith, e, small))) ∙ none_has id k small

each_free : (k i d : ℕ) → i < k → get_or (frees k) i d ≡ 255
each_free zero i d lt = absurd (omega arith)
each_free (suc k) zero d lt = refl
each_free (suc k) (suc i) d lt = each_free k i d (omega arith)

apart_free : (k : ℕ) → AreApart (frees k)
apart_free k i j d before lt same = each_free k i d (omega (arith, before, lt, length-replicate {A = ℕ} k 255))

pub none_counted : (n i : ℕ) → get_or (zeros n) i 0 ≡ 0
none_counted zero i = refl
none_counted (suc n) zero = refl
none_counted (suc n) (suc i) = none_counted n i

-- ---- nothing is held

empty_slots : (g : ℕ → List Held) (a n : ℕ) → ((m : ℕ) → m < a + n → g m ≡ []) → flat_map g (range_with_len a n) ≡ []
empty_slots g a zero none = refl
empty_slots g a (suc n) none =
    flat_map-cons g a (range_with_len (a + 1) n)
    ∙ ap (λ xs. xs ++ flat_map g (range_with_len (a + 1) n)) (none a (omega arith))
    ∙ empty_slots g (a + 1) n (λ m lt. none m (omega arith))

none_held : (index : ℕ) (c : Cut) (f : ℕ → ℕ → Option (List ℕ)) (block : ℕ) → ((id : ℕ) → id < 255 → f block id ≡ None) → held_in index c f block ≡ []
none_held index c f block none =
    by_ids (λ ids. flat_map (held_under index c block (f block)) ids ≡ [])
    (λ n e. empty_slots (held_under index c block (f block)) 0 n
    (λ m lt. ap (λ (o : Option (List ℕ)). elim o as (λ _. List Held) [ Some octets ↦ held_at index block m (take (sent_octets c block m) octets) ∷ [] | None ↦ [] ]) (none m (omega (arith, e)))))

no_symbol : (c : Cut) (ids octets : List ℕ) (block id : ℕ) → IsSound c → is_some c.l ≡ true → ids ≡ frees (all_symbols c) → block < blocks c → id < 255 → coded_symbol c ids octets block id ≡ None
no_symbol c ids octets block id sound object free lt small =
    none_there c ids octets block id
    (ap (λ xs. has_id id (block_ids c xs block)) free ∙ ap (has_id id) (free_ids c block sound object lt) ∙ none_has id (source_symbols c block) small)

pub new_held : (index : ℕ) (c : Cut) (ids octets : List ℕ) → IsSound c → is_some c.l ≡ true → ids ≡ frees (all_symbols c) → all_held index c (coded_symbol c ids octets) ≡ []
new_held index c ids octets sound object free =
    empty_slots (held_in index c (coded_symbol c ids octets)) 0 (blocks c)
    (λ b lt. none_held index c (coded_symbol c ids octets) b (λ id small. no_symbol c ids octets b id sound object free (omega (arith, lt)) small))

pub new_each : (index : ℕ) (c : Cut) (ids octets counts : List ℕ) (n : ℕ) → IsSound c → is_some c.l ≡ true → ids ≡ frees (all_symbols c) → counts ≡ zeros n
    → (block : ℕ) → block < blocks c → IsBlock index c ids octets counts block
new_each index c ids octets counts n sound object free none_yet block lt =
    let is : block_ids c ids block ≡ frees (source_symbols c block) = ap (λ xs. block_ids c xs block) free ∙ free_ids c block sound object lt in
    let none : slice_index counts block ≡ 0 = ap (λ xs. get_or xs block 0) none_yet ∙ none_counted n block in
    let open_places : free_places (block_ids c ids block) ≡ source_symbols c block = ap free_places is ∙ all_free (source_symbols c block) in
    record {
      apart = subst AreApart (sym is) (apart_free (source_symbols c block));
      count = omega (arith, none, open_places);
      held = ap length (none_held index c (coded_symbol c ids octets) block (λ id small. no_symbol c ids octets block id sound object free lt small)) ∙ sym none;
      coded = λ id small x there. absurd (differ x (sym there ∙ no_symbol c ids octets block id sound object free lt small));
    }
  where
    differ : (x : List ℕ) → ◌≡◌ {A = Option (List ℕ)} (Some x) None → ⊥
    differ x e = cc e

-- ---- all blocks are short

pub new_shorts : (c : Cut) (counts : List ℕ) (n : ℕ) (shorts : ShortsState) → IsSound c → is_some c.l ≡ true → n ≡ blocks c → counts ≡ zeros n → shorts ≡ all_short n → AreShorts c counts shorts
new_shorts c counts n shorts sound object same zeroed is = subst (AreShorts c counts) (sym is) (record {
  start = refl;
  all = length-replicate n true ∙ same;
  short = λ block lt.
      get_or-replicate n (block - 0) true false (omega (arith, lt, same))
      ∙ sym (ap (λ xs. nat_lt (get_or xs block 0) (source_symbols c block)) zeroed
      ∙ ap (λ m. nat_lt m (source_symbols c block)) (none_counted n block)
      ∙ lt-ltb 0 (source_symbols c block) (let some = some_sources c block sound object in omega (arith, some)));
})
