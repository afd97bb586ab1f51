-- Slots and counts of blocks that have numbers.
use Rattle.std.proofs.Common.{◌≡◌, ℕ, zero, suc, ◌+◌, ◌-◌, ◌*◌, ◌/◌, ◌%◌, ◌<◌, ◌≤◌, ◌⊎◌, inl, inr, List, [], ◌∷◌, ◌++◌, map, length, set, get_or, take, Bool, true, false, refl, sym, ◌∙◌, arith, subst}
use Rattle.std.specs.Prelude.{min, nat_lt, nat_le, not, ◌&&◌, ◌||◌}
use Rattle.std.specs.List.{range_with_len, AllByRecursion}
use Rattle.std.proofs.Math.Nat.{div-add-mod}
use Rattle.std.proofs.lemmas.Bool.{cases_eq, cases_lt, cases_order, lt-ltb, le-ltb, le-leb, ltb-true}
use Rattle.std.proofs.lemmas.List.{get_or-set_other}
use Rattle.fec_plan.specs.Partition.{Cut, IsSound, blocks, most_blocks, all_symbols, source_symbols, encoding_symbols, symbol_number}
use Rattle.fec_plan.proofs.PartitionLemmas.{sources_fit}
use Rattle.norm_order.specs.Sets.{with_member, with_members, is_member, Rises}
use Rattle.norm_order.specs.Shapes.{closed_in, encoded_in}
use Rattle.norm_order.proofs.SetLemmas.{all_with}
use Rattle.nack_union.specs.Slots.{symbol_slot}
use Rattle.nack_union.specs.Repairs.{shape_closed, fresh_parities, repair_slots, counted_slots}
use Rattle.nack_union.specs.Kept.{IsRepairable}
use Rattle.nack_union.specs.More.{is_source_slot}
use Rattle.symbol_mask.specs.Words.{in_run}
use Rattle.nack_union.specs.Sound.{HasNumber}
use Rattle.nack_union.proofs.Counted.{encoded_fits, ids_take, ids_filter, ids_range}
use Rattle.symbol_mask.proofs.Puts.{by_tests}
use Rattle.symbol_mask.proofs.Ranges.{no_member}
use Rattle.nack_union.proofs.Streams.{Shifts}
use Rattle.nack_union.proofs.Wholes.{past_closed}

clash : false ≡ true → ⊥
clash h = cc

-- what holds of all of a set holds of a member
pub all_member : (P : ℕ → Type 0) (y : ℕ) (xs : List ℕ) → AllByRecursion P xs → is_member nat_lt y xs ≡ true → P y
all_member P y [] all here = absurd (clash (sym (no_member y) ∙ here))
all_member P y (x ∷ xs) all here = go (cases_order y x) (λ rest. all_member P y xs all.1 rest)
  where
    go : (y ≡ x) ⊎ ((y < x) ⊎ (x < y)) → (is_member nat_lt y xs ≡ true → P y) → P y
    go (inl e) later = subst P (sym e) all.0
    go (inr (inl lt)) later = absurd (clash (sym (by_tests y x xs false true (le-ltb x y (omega (arith, lt))) (lt-ltb y x lt)) ∙ here))
    go (inr (inr lt)) later = later (sym (by_tests y x xs true false (lt-ltb x y lt) (le-ltb y x (omega (arith, lt)))) ∙ here)

-- and what holds of each member of a rising list of all
pub all_from : (P : ℕ → Type 0) (xs : List ℕ) → Rises xs → ((y : ℕ) → is_member nat_lt y xs ≡ true → P y) → AllByRecursion P xs
all_from P [] rises each = tt
all_from P (x ∷ xs) rises each = (
  each x (by_tests x x xs false false (le-ltb x x (omega arith)) (le-ltb x x (omega arith))),
  all_from P xs rises.1 (λ y here.
      let lt = all_member (λ z. x < z) y xs rises.0 here in
      each y (by_tests y x xs true false (lt-ltb x y lt) (le-ltb y x (omega (arith, lt))) ∙ here)),
)

pub all_with_all : (P : ℕ → Type 0) (ns xs : List ℕ) → AllByRecursion P ns → AllByRecursion P xs → AllByRecursion P (with_members nat_lt ns xs)
all_with_all P [] xs these all = all
all_with_all P (n ∷ ns) xs these all = all_with_all P ns (with_member nat_lt n xs) these.1 (all_with P nat_lt n xs these.0 all)

both_all : (P : ℕ → Type 0) (xs ys : List ℕ) → AllByRecursion P xs → AllByRecursion P ys → AllByRecursion P (xs ++ ys)
both_all P [] ys these those = those
both_all P (x ∷ xs) ys these those = (these.0, both_all P xs ys these.1 those)

slots_named : (first block : ℕ) (ids : List ℕ) → first + block < most_blocks → AllByRecursion (λ x. x < 256) ids → AllByRecursion (HasNumber first) (map (symbol_slot block) ids)
slots_named first block [] lt few = tt
slots_named first block (x ∷ ids) lt few = (let small = few.0 in omega (arith, lt, small), slots_named first block ids lt few.1)

-- the slots of a counted block
repair_named : (c : Cut) (closed : ℕ) (sent : List ℕ) (first block count : ℕ) → first + block < most_blocks → IsRepairable c block
    → AllByRecursion (HasNumber first) (repair_slots (shape_closed c closed) sent block count)
repair_named c closed sent first block count lt rep = slots_named first block _ lt (go (nat_le count (length fresh)))
  where
    fresh : List ℕ
    fresh = fresh_parities (shape_closed c closed) sent block

    most : encoded_in (shape_closed c closed) block ≤ 255
    most = at_most (encoded_in (shape_closed c closed) block) (encoding_symbols c block) (encoded_fits (shape_closed c closed) block rep.sound) rep.named
      where
        at_most : (n k : ℕ) → n ≤ k → k ≤ 255 → n ≤ 255
        at_most n k le few = omega (arith, le, few)

    sources : source_symbols c block ≤ 255
    sources = let fit = sources_fit c block rep.sound in let few = rep.named in omega (arith, few, fit)

    within : source_symbols c block + (encoded_in (shape_closed c closed) block - source_symbols c block) ≤ 256
    within = both (source_symbols c block) (encoded_in (shape_closed c closed) block) sources most
      where
        both : (k n : ℕ) → k ≤ 255 → n ≤ 255 → k + (n - k) ≤ 256
        both k n a b = omega (arith, a, b)

    whole : 0 + closed_in (shape_closed c closed) block ≤ 256
    whole = by (source_symbols c block) (closed - symbol_number c block 0) sources
      where
        by : (k n : ℕ) → k ≤ 255 → 0 + min k n ≤ 256
        by k n le = omega (arith, le)

    go : (b : Bool) → AllByRecursion (λ x. x < 256) (elim b as (λ _. List ℕ) [ true ↦ take count fresh | false ↦ range_with_len 0 (closed_in (shape_closed c closed) block) ])
    go true = ids_take count fresh (ids_filter (λ x. not (is_member nat_lt (symbol_slot block x) sent)) (source_symbols c block) (encoded_in (shape_closed c closed) block - source_symbols c block) within)
    go false = ids_range 0 (closed_in (shape_closed c closed) block) whole

none_named : (c : Cut) (closed : ℕ) (sent : List ℕ) (first block count : ℕ) → count ≡ 0 → AllByRecursion (HasNumber first) (repair_slots (shape_closed c closed) sent block count)
none_named c closed sent first block count e =
    subst (λ n. AllByRecursion (HasNumber first) (repair_slots (shape_closed c closed) sent block n)) (sym e)
    (here (nat_le 0 (length (fresh_parities (shape_closed c closed) sent block))) (le-leb 0 (length (fresh_parities (shape_closed c closed) sent block)) (omega arith)))
  where
    here : (b : Bool) → b ≡ true
        → AllByRecursion (HasNumber first) (map (symbol_slot block) (elim b as (λ _. List ℕ) [ true ↦ [] | false ↦ range_with_len 0 (closed_in (shape_closed c closed) block) ]))
    here true f = tt
    here false f = absurd (cc)

pub counted_named : (c : Cut) (closed : ℕ) (sent : List ℕ) (first block : ℕ) (counts : List ℕ)
    → ((j : ℕ) → 0 < get_or counts j 0 → (first + (block + j) < most_blocks) × IsRepairable c (block + j))
    → AllByRecursion (HasNumber first) (counted_slots (shape_closed c closed) sent block counts)
counted_named c closed sent first block [] each = tt
counted_named c closed sent first block (n ∷ counts) each =
    both_all (HasNumber first) (repair_slots (shape_closed c closed) sent block (min n (source_symbols c block))) _ (go (cases_lt 0 n))
    (counted_named c closed sent first (suc block) counts
    (λ j some. subst (λ k. (first + k < most_blocks) × IsRepairable c k) (let e : block + suc j ≡ suc block + j = omega arith in e) (each (suc j) some)))
  where
    go : (0 < n) ⊎ (n ≤ 0) → AllByRecursion (HasNumber first) (repair_slots (shape_closed c closed) sent block (min n (source_symbols c block)))
    go (inl some) =
        let this = subst (λ k. (first + k < most_blocks) × IsRepairable c k) (let e : block + 0 ≡ block = omega arith in e) (each 0 some) in
        repair_named c closed sent first block (min n (source_symbols c block)) this.0 this.1
    go (inr none) = none_named c closed sent first block (min n (source_symbols c block)) (omega (arith, none))

-- a block of which something is closed has a number
pub closed_number : (c : Cut) (closed block : ℕ) → IsSound c → closed ≤ all_symbols c → blocks c ≤ most_blocks → 0 < closed_in (shape_closed c closed) block → block < most_blocks
closed_number c closed block sound few most some = go (cases_lt block (blocks c))
  where
    go : (block < blocks c) ⊎ (blocks c ≤ block) → block < most_blocks
    go (inl lt) = omega (arith, lt, most)
    go (inr past) = let none = past_closed c closed block sound few past in absurd (omega (arith, none, some))

pub source_number : (c : Cut) (closed first slot : ℕ) → Shifts c closed first → IsSound c → closed ≤ all_symbols c → blocks c ≤ most_blocks
    → is_source_slot (shape_closed c (closed - symbol_number c first 0)) slot ≡ true → HasNumber first slot
source_number c closed first zero sh sound few most here = absurd (clash here)
source_number c closed first (suc n) sh sound few most here =
    let some = ltb-true (n % 256) (closed_in (shape_closed c (closed - symbol_number c first 0)) (n / 256)) (second _ _ here) in
    let same = sh.closed_is (n / 256) in
    let lt = closed_number c closed (first + n / 256) sound few most (omega (arith, some, same)) in
    omega (arith, lt, div-add-mod n 256)
  where
    second : (a b : Bool) → (a && b) ≡ true → b ≡ true
    second true b e = e
    second false b e = absurd (cc)

-- what joined by sources has numbers
pub sources_named : (c : Cut) (closed first from to : ℕ) (old new : List ℕ) → Shifts c closed first → IsSound c → closed ≤ all_symbols c → blocks c ≤ most_blocks → Rises new
    → AllByRecursion (HasNumber first) old
    → ((slot : ℕ) → is_member nat_lt slot new ≡ (is_member nat_lt slot old || (is_source_slot (shape_closed c (closed - symbol_number c first 0)) slot && in_run from to slot)))
    → AllByRecursion (HasNumber first) new
sources_named c closed first from to old new sh sound few most rises all more =
    all_from (HasNumber first) new rises (λ y here. go y (is_member nat_lt y old) (is_source_slot (shape_closed c (closed - symbol_number c first 0)) y) (in_run from to y) refl refl (sym (more y) ∙ here))
  where
    go : (y : ℕ) (a s r : Bool) → is_member nat_lt y old ≡ a → is_source_slot (shape_closed c (closed - symbol_number c first 0)) y ≡ s → (a || (s && r)) ≡ true → HasNumber first y
    go y true s r e f h = all_member (HasNumber first) y old all e
    go y false true r e f h = source_number c closed first y sh sound few most f
    go y false false r e f h = absurd (clash h)

-- what moved on
pub moved_named : (first block : ℕ) (old new : List ℕ) → first ≤ block → Rises new → AllByRecursion (HasNumber first) old
    → ((place : ℕ) → is_member nat_lt place new ≡ (is_member nat_lt (place + 256 * (block - first)) old && nat_lt 0 place)) → AllByRecursion (HasNumber block) new
moved_named first block old new le rises all moved =
    all_from (HasNumber block) new rises (λ y here.
    let lt = all_member (HasNumber first) (y + 256 * (block - first)) old all (left _ _ (sym (moved y) ∙ here)) in omega (arith, lt, le))
  where
    left : (a b : Bool) → (a && b) ≡ true → a ≡ true
    left true b e = refl
    left false b e = absurd (cc)

-- one block more is counted
pub count_named : (first place v : ℕ) (counts : List ℕ) → first + place < most_blocks → place < length counts
    → ((block : ℕ) → 0 < get_or counts block 0 → first + block < most_blocks) → (block : ℕ) → 0 < get_or (set counts place v) block 0 → first + block < most_blocks
count_named first place v counts lt within each block some = go (cases_eq block place)
  where
    go : (block ≡ place) ⊎ (block ≡ place → ⊥) → first + block < most_blocks
    go (inl e) = omega (arith, e, lt)
    go (inr ne) = each block (subst (λ n. 0 < n) (get_or-set_other counts place block v 0 ne) some)
