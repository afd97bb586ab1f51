-- Slots and counts of an object that are numbered from the first kept block on.
use Rattle.std.proofs.Common.{◌≡◌, ℕ, zero, suc, ◌+◌, ◌-◌, ◌*◌, ◌/◌, ◌%◌, ◌<◌, ◌≤◌, ◌⊎◌, inl, inr, List, [], ◌∷◌, ◌++◌, map, length, set, get_or, take, replicate, Bool, true, false, refl, sym, ap, ◌∙◌, cond, arith, subst}
use Rattle.std.specs.Prelude.{min, nat_lt, nat_le, not, filter, ◌&&◌, ◌||◌, ◌==◌}
use Rattle.std.specs.List.{range_with_len, list_any, AllByRecursion}
use Rattle.std.proofs.Math.Nat.{div-add-mod}
use Rattle.std.proofs.lemmas.Bool.{cases_lt, lt-ltb, le-ltb, le-leb}
use Rattle.std.proofs.lemmas.List.{map-append, length-append, length-replicate, length-map, get_or-map, ext_get_or, get_or-append_right}
use Rattle.std.proofs.lemmas.List.FromFn.{length-range_with_len, get_or-range_with_len}
use Rattle.fec_plan.specs.Partition.{Cut, IsSound, blocks, all_symbols, source_symbols, symbol_number}
use Rattle.norm_order.specs.Sets.{with_member, with_members, is_member, Rises}
use Rattle.norm_order.specs.Shapes.{Shape, closed_in, encoded_in}
use Rattle.norm_order.proofs.SetLemmas.{same_sets, numbers}
use Rattle.nack_union.specs.Slots.{symbol_slot, stands_from}
use Rattle.nack_union.specs.Repairs.{shape_closed, fresh_symbols, fresh_parities, repair_slots, counted_slots}
use Rattle.nack_union.specs.Kept.{from_block}
use Rattle.nack_union.specs.More.{is_source_slot, is_encoded_slot, is_slot_of}
use Rattle.symbol_mask.specs.Words.{in_run}
use Rattle.nack_union.specs.Sound.{slots_from}
use Rattle.nack_union.specs.Coverage.{HasSources, HasSourcesFrom}
use Rattle.symbol_mask.proofs.Below.{member_passing, from_place}
use Rattle.nack_union.proofs.Coverages.{rising}
use Rattle.symbol_mask.proofs.Puts.{or_false, by_tests, with_puts, other_is}
use Rattle.symbol_mask.proofs.Ranges.{same_filter, no_member}
use Rattle.nack_union.proofs.Idle.{zeros}
use Rattle.nack_union.proofs.Shifted.{member_up, none_before, member_from, with_all_up, rises_up, run_from}
use Rattle.nack_union.proofs.Streams.{Shifts, encoded_is}
use Rattle.nack_union.proofs.Wholes.{past_closed}

clash : false ≡ true → ⊥
clash h = cc

-- the slot of a symbol of a block that is kept
pub symbol_from : (first block symbol : ℕ) → symbol < 256 → first ≤ block → stands_from first (symbol_slot block symbol) ≡ true
symbol_from first block symbol few from = go (256 * block + symbol) refl
  where
    go : (n : ℕ) → n ≡ 256 * block + symbol → stands_from first (n + 1) ≡ true
    go n e =
        ap (stands_from first) (let f : n + 1 ≡ suc n = omega arith in f)
        ∙ ap not (le-ltb (n / 256) first (let high : n / 256 ≡ block = omega (arith, few, e, div-add-mod n 256) in omega (arith, high, from)))

-- slots that are kept lie behind those of earlier blocks
pub stands_behind_start : (first slot : ℕ) → stands_from first slot ≡ true → 0 < slot → 256 * first < slot
stands_behind_start first zero kept some = absurd (omega (arith, some))
stands_behind_start first (suc n) kept some = go (cases_lt (n / 256) first)
  where
    go : (n / 256 < first) ⊎ (first ≤ n / 256) → 256 * first < suc n
    go (inl lt) = absurd (clash (sym (ap not (lt-ltb (n / 256) first lt)) ∙ kept))
    go (inr le) = omega (arith, le, div-add-mod n 256)

pub start_stands : (first slot : ℕ) → 256 * first < slot → stands_from first slot ≡ true
start_stands first zero lt = refl
start_stands first (suc n) lt = ap not (le-ltb (n / 256) first (omega (arith, lt, div-add-mod n 256)))

-- where slot 0 is in no set but of the first block, what is kept is
pub kept_from : (first slot : ℕ) (xs : List ℕ) → (first ≡ 0) ⊎ (is_member nat_lt 0 xs ≡ false) → is_member nat_lt slot (slots_from first xs) ≡ true
    → stands_from first slot ≡ true
kept_from first zero xs plain here = refl
kept_from first (suc n) xs plain here = go (cases_lt (256 * first) (suc n))
  where
    go : (256 * first < suc n) ⊎ (suc n ≤ 256 * first) → stands_from first (suc n) ≡ true
    go (inl lt) = start_stands first (suc n) lt
    go (inr le) = by (cases_lt (suc n) (256 * first))
      where
        by : (suc n < 256 * first) ⊎ (256 * first ≤ suc n) → stands_from first (suc n) ≡ true
        by (inl less) = absurd (clash (sym (none_before (256 * first) (suc n) xs less) ∙ here))
        by (inr same) = at plain
          where
            at : (first ≡ 0) ⊎ (is_member nat_lt 0 xs ≡ false) → stands_from first (suc n) ≡ true
            at (inl e) = absurd (omega (arith, e, le))
            at (inr none) =
                absurd (clash (sym none ∙ ap (λ k. is_member nat_lt k xs) (let e : 0 ≡ suc n - 256 * first = omega (arith, le, same) in e)
                ∙ sym (member_from (256 * first) (suc n) xs same) ∙ here))

-- of a rising set that has a first member slot 0 is none of the others
pub rest_plain : (x : ℕ) (xs : List ℕ) → Rises (x ∷ xs) → is_member nat_lt 0 xs ≡ false
rest_plain x [] rises = no_member 0
rest_plain x (y ∷ ys) rises = let lt = rises.0.0 in by_tests 0 y ys false true (le-ltb y 0 (omega (arith, lt))) (lt-ltb 0 y (omega (arith, lt)))

-- slot 0 stays out of a set
pub plain_with : (x : ℕ) (xs : List ℕ) → 0 < x → is_member nat_lt 0 xs ≡ false → is_member nat_lt 0 (with_member nat_lt x xs) ≡ false
plain_with x xs some none = with_puts 0 x xs ∙ or_false (is_member nat_lt 0 xs) (0 == x) (other_is 0 x (λ e. omega (arith, e, some))) ∙ none

pub plain_all : (ns xs : List ℕ) → AllByRecursion (λ x. 0 < x) ns → is_member nat_lt 0 xs ≡ false → is_member nat_lt 0 (with_members nat_lt ns xs) ≡ false
plain_all [] xs all none = none
plain_all (n ∷ ns) xs all none = plain_all ns (with_member nat_lt n xs) all.1 (plain_with n xs all.0 none)

all_some : (xs : List ℕ) → Rises xs → is_member nat_lt 0 xs ≡ false → AllByRecursion (λ x. 0 < x) xs
all_some [] rises none = tt
all_some (x ∷ xs) rises none = (some (cases_lt 0 x), above xs rises.0)
  where
    some : (0 < x) ⊎ (x ≤ 0) → 0 < x
    some (inl lt) = lt
    some (inr le) = absurd (clash (sym none ∙ by_tests 0 x xs false false (le-ltb x 0 (omega arith)) (le-ltb 0 x le)))

    above : (ys : List ℕ) → AllByRecursion (λ y. x < y) ys → AllByRecursion (λ y. 0 < y) ys
    above [] all = tt
    above (y ∷ ys) all = (let lt = all.0 in omega (arith, lt), above ys all.1)

slots_some : (block : ℕ) (xs : List ℕ) → AllByRecursion (λ x. 0 < x) (map (symbol_slot block) xs)
slots_some block [] = tt
slots_some block (x ∷ xs) = (omega arith, slots_some block xs)

both_some : (xs ys : List ℕ) → AllByRecursion (λ x. 0 < x) xs → AllByRecursion (λ x. 0 < x) ys → AllByRecursion (λ x. 0 < x) (xs ++ ys)
both_some [] ys these those = those
both_some (x ∷ xs) ys these those = (these.0, both_some xs ys these.1 those)

-- all of a set with one more are above 0
put_some : (x : ℕ) (xs : List ℕ) → 0 < x → AllByRecursion (λ y. 0 < y) xs → AllByRecursion (λ y. 0 < y) (with_member nat_lt x xs)
unfolding with_member
put_some x [] some all = (some, tt)
put_some x (y ∷ ys) some all = go (nat_lt x y) (nat_lt y x) (put_some x ys some all.1)
  where
    go : (b d : Bool) → AllByRecursion (λ z. 0 < z) (with_member nat_lt x ys)
        → AllByRecursion (λ z. 0 < z) (elim b as (λ _. List ℕ) [ true ↦ x ∷ y ∷ ys | false ↦ elim d [ true ↦ y ∷ with_member nat_lt x ys | false ↦ y ∷ ys ] ])
    go true d rest = (some, all)
    go false true rest = (all.0, rest)
    go false false rest = all

-- Joined by what was asked for and counted, a set has slot 0 no more than before.
pub counted_plain : (c : Cut) (closed : ℕ) (sent asked wants : List ℕ) (counts : List ℕ) → Rises asked → is_member nat_lt 0 asked ≡ false → is_member nat_lt 0 wants ≡ false
    → is_member nat_lt 0 (with_members nat_lt (with_members nat_lt (counted_slots (shape_closed c closed) sent 0 counts) asked) wants) ≡ false
counted_plain c closed sent asked wants counts rises unasked unwanted =
    plain_all (with_members nat_lt (counted_slots (shape_closed c closed) sent 0 counts) asked) wants (with_some (counted_slots (shape_closed c closed) sent 0 counts) asked (counted_some 0 counts) (all_some asked rises unasked)) unwanted
  where
    counted_some : (block : ℕ) (ns : List ℕ) → AllByRecursion (λ x. 0 < x) (counted_slots (shape_closed c closed) sent block ns)
    counted_some block [] = tt
    counted_some block (n ∷ ns) = both_some _ _ (slots_some block _) (counted_some (suc block) ns)

    with_some : (ns xs : List ℕ) → AllByRecursion (λ x. 0 < x) ns → AllByRecursion (λ x. 0 < x) xs → AllByRecursion (λ x. 0 < x) (with_members nat_lt ns xs)
    with_some [] xs these all = all
    with_some (n ∷ ns) xs these all = with_some ns (with_member nat_lt n xs) these.1 (put_some n xs these.0 all)

-- the closed source symbols of a run of slots
source_up : (q r first b k : ℕ) → (b ≤ first + q → k ≡ 0) → (nat_lt q b && nat_lt r k) ≡ (nat_lt (first + q) b && nat_lt r k)
source_up q r first b k none = go (cases_lt (first + q) b)
  where
    and_false : (x y : Bool) → y ≡ false → (x && y) ≡ false
    and_false true y e = e
    and_false false y e = refl

    go : (first + q < b) ⊎ (b ≤ first + q) → (nat_lt q b && nat_lt r k) ≡ (nat_lt (first + q) b && nat_lt r k)
    go (inl lt) = ap (λ t. t && nat_lt r k) (lt-ltb q b (omega (arith, lt)) ∙ sym (lt-ltb (first + q) b lt))
    go (inr past) =
        let empty : nat_lt r k ≡ false = le-ltb r k (let e = none past in omega (arith, e)) in
        and_false (nat_lt q b) (nat_lt r k) empty ∙ sym (and_false (nat_lt (first + q) b) (nat_lt r k) empty)

source_at : (c : Cut) (closed first n : ℕ) → Shifts c closed first → IsSound c → closed ≤ all_symbols c → 256 * first ≤ n
    → is_source_slot (shape_closed c (closed - symbol_number c first 0)) (suc (n - 256 * first)) ≡ is_source_slot (shape_closed c closed) (suc n)
source_at c closed first n sh sound few le =
    let high : first + (n - 256 * first) / 256 ≡ n / 256 = omega (arith, le, div-add-mod n 256, div-add-mod (n - 256 * first) 256) in
    let low : (n - 256 * first) % 256 ≡ n % 256 = omega (arith, le, div-add-mod n 256, div-add-mod (n - 256 * first) 256) in
    ap (λ k. nat_lt ((n - 256 * first) / 256) (blocks c) && nat_lt ((n - 256 * first) % 256) k) (sh.closed_is ((n - 256 * first) / 256))
    ∙ source_up ((n - 256 * first) / 256) ((n - 256 * first) % 256) first (blocks c) (closed_in (shape_closed c closed) (first + (n - 256 * first) / 256))
    (λ past. past_closed c closed (first + (n - 256 * first) / 256) sound few past)
    ∙ ap (λ b. nat_lt b (blocks c) && nat_lt ((n - 256 * first) % 256) (closed_in (shape_closed c closed) b)) high
    ∙ ap (λ r. nat_lt (n / 256) (blocks c) && nat_lt r (closed_in (shape_closed c closed) (n / 256))) low

-- a closed source symbol stays one as its block is numbered from one on
source_kept : (c : Cut) (closed first n : ℕ) → Shifts c closed first → 256 * first ≤ n → is_source_slot (shape_closed c closed) (suc n) ≡ true
    → is_source_slot (shape_closed c (closed - symbol_number c first 0)) (suc (n - 256 * first)) ≡ true
source_kept c closed first n sh le source =
    let high : n / 256 ≡ first + (n - 256 * first) / 256 = omega (arith, le, div-add-mod n 256, div-add-mod (n - 256 * first) 256) in
    let low : n % 256 ≡ (n - 256 * first) % 256 = omega (arith, le, div-add-mod n 256, div-add-mod (n - 256 * first) 256) in
    ap (λ k. nat_lt ((n - 256 * first) / 256) (blocks c) && nat_lt ((n - 256 * first) % 256) k) (sh.closed_is ((n - 256 * first) / 256))
    ∙ earlier ((n - 256 * first) / 256) first (blocks c) (nat_lt ((n - 256 * first) % 256) (closed_in (shape_closed c closed) (first + (n - 256 * first) / 256)))
    (sym (ap (λ b. nat_lt b (blocks c) && nat_lt (n % 256) (closed_in (shape_closed c closed) b)) high
    ∙ ap (λ r. nat_lt (first + (n - 256 * first) / 256) (blocks c) && nat_lt r (closed_in (shape_closed c closed) (first + (n - 256 * first) / 256))) low) ∙ source)
  where
    earlier : (q first b : ℕ) (t : Bool) → (nat_lt (first + q) b && t) ≡ true → (nat_lt q b && t) ≡ true
    earlier q first b t e = go (cases_lt (first + q) b)
      where
        go : (first + q < b) ⊎ (b ≤ first + q) → (nat_lt q b && t) ≡ true
        go (inl lt) = ap (λ x. x && t) (lt-ltb q b (omega (arith, lt)) ∙ sym (lt-ltb (first + q) b lt)) ∙ e
        go (inr past) = absurd (clash (sym (ap (λ x. x && t) (le-ltb (first + q) b past)) ∙ e))

-- where all closed source symbols are among slots as they are numbered from a block on, those that are kept are among them
pub sources_kept : (c : Cut) (closed first : ℕ) (slots : List ℕ) → Shifts c closed first → HasSources (shape_closed c (closed - symbol_number c first 0)) slots
    → HasSourcesFrom first (shape_closed c closed) (slots_from first slots)
sources_kept c closed first slots sh all zero kept source = absurd (cc)
sources_kept c closed first slots sh all (suc n) kept source =
    let behind = stands_behind_start first (suc n) kept (omega arith) in
    member_from (256 * first) (suc n) slots (omega (arith, behind))
    ∙ ap (λ k. is_member nat_lt k slots) (let at : suc n - 256 * first ≡ suc (n - 256 * first) = omega (arith, behind) in at)
    ∙ all (suc (n - 256 * first)) (source_kept c closed first n sh (omega (arith, behind)) source)

-- the info is numbered alike
pub info_kept : (first : ℕ) (slots : List ℕ) → first ≡ 0 → is_member nat_lt 0 slots ≡ is_member nat_lt 0 (slots_from first slots)
info_kept first slots none =
    ap (λ k. is_member nat_lt k slots) (let e : 0 ≡ 0 - 256 * first = omega arith in e) ∙ sym (member_from (256 * first) 0 slots (omega (arith, none)))

pub sources_more : (c : Cut) (closed first from to : ℕ) (old new : List ℕ) → Shifts c closed first → IsSound c → closed ≤ all_symbols c
    → ((slot : ℕ) → is_member nat_lt slot new ≡ (is_member nat_lt slot old || (is_source_slot (shape_closed c (closed - symbol_number c first 0)) slot && in_run (from - 256 * first) (to - 256 * first) slot)))
    → (slot : ℕ) → stands_from first slot ≡ true
    → is_member nat_lt slot (slots_from first new) ≡ (is_member nat_lt slot (slots_from first old) || (is_source_slot (shape_closed c closed) slot && in_run from to slot))
sources_more c closed first from to old new sh sound few more zero kept = go (cases_lt 0 (256 * first))
  where
    go : (0 < 256 * first) ⊎ (256 * first ≤ 0) → is_member nat_lt 0 (slots_from first new) ≡ (is_member nat_lt 0 (slots_from first old) || false)
    go (inl lt) = none_before (256 * first) 0 new lt ∙ ap (λ b. b || false) (sym (none_before (256 * first) 0 old lt))
    go (inr le) =
        member_from (256 * first) 0 new le
        ∙ ap (λ k. is_member nat_lt k new) (let e : 0 - 256 * first ≡ 0 = omega arith in e)
        ∙ more 0
        ∙ ap (λ k. is_member nat_lt k old || false) (let e : 0 ≡ 0 - 256 * first = omega arith in e)
        ∙ ap (λ b. b || false) (sym (member_from (256 * first) 0 old le))
sources_more c closed first from to old new sh sound few more (suc n) kept =
    let behind = stands_behind_start first (suc n) kept (omega arith) in
    let le : 256 * first ≤ suc n = omega (arith, behind) in
    let at : suc n - 256 * first ≡ suc (n - 256 * first) = omega (arith, behind) in
    member_from (256 * first) (suc n) new le ∙ more (suc n - 256 * first)
    ∙ ap (λ b. b || (is_source_slot (shape_closed c (closed - symbol_number c first 0)) (suc n - 256 * first) && in_run (from - 256 * first) (to - 256 * first) (suc n - 256 * first))) (sym (member_from (256 * first) (suc n) old le))
    ∙ ap (λ b. is_member nat_lt (suc n) (slots_from first old) || (is_source_slot (shape_closed c (closed - symbol_number c first 0)) (suc n - 256 * first) && b)) (run_from (256 * first) from to (suc n) le)
    ∙ ap (λ k. is_member nat_lt (suc n) (slots_from first old) || (is_source_slot (shape_closed c (closed - symbol_number c first 0)) k && in_run from to (suc n))) at
    ∙ ap (λ b. is_member nat_lt (suc n) (slots_from first old) || (b && in_run from to (suc n))) (source_at c closed first n sh sound few (omega (arith, behind)))

-- The repairs of counted blocks.

slots_up : (first block : ℕ) (xs : List ℕ) → map (symbol_slot (first + block)) xs ≡ slots_from first (map (symbol_slot block) xs)
slots_up first block [] = refl
slots_up first block (x ∷ xs) =
    ap (λ k. k ∷ map (symbol_slot (first + block)) xs) (let e : symbol_slot (first + block) x ≡ 256 * first + symbol_slot block x = omega arith in e)
    ∙ ap (λ ys. (256 * first + symbol_slot block x) ∷ ys) (slots_up first block xs)

fresh_up : (c : Cut) (closed first : ℕ) (sent : List ℕ) (block : ℕ) → Shifts c closed first
    → fresh_parities (shape_closed c closed) (slots_from first sent) (first + block) ≡ fresh_parities (shape_closed c (closed - symbol_number c first 0)) sent block
fresh_up c closed first sent block sh =
    same_filter (λ x. not (is_member nat_lt (symbol_slot block x) sent)) (λ x. not (is_member nat_lt (symbol_slot (first + block) x) (slots_from first sent))) _ _
    (λ i le. ap not (ap (λ k. is_member nat_lt k (slots_from first sent)) (let e : symbol_slot (first + block) i ≡ 256 * first + symbol_slot block i = omega arith in e)
    ∙ member_up (256 * first) (symbol_slot block i) sent))
    ∙ ap (λ k. fresh_symbols sent block k (encoded_in (shape_closed c closed) (first + block) - k)) (sym (sh.sources_is block))
    ∙ ap (λ k. fresh_symbols sent block (source_symbols c block) (k - source_symbols c block)) (sym (encoded_is c closed first block sh))

repairs_up : (c : Cut) (closed first : ℕ) (sent : List ℕ) (block count : ℕ) → Shifts c closed first
    → repair_slots (shape_closed c closed) (slots_from first sent) (first + block) count ≡ slots_from first (repair_slots (shape_closed c (closed - symbol_number c first 0)) sent block count)
repairs_up c closed first sent block count sh =
    ap (λ xs. map (symbol_slot (first + block)) (elim (nat_le count (length xs)) as (λ _. List ℕ) [ true ↦ take count xs | false ↦ range_with_len 0 (closed_in (shape_closed c closed) (first + block)) ])) (fresh_up c closed first sent block sh)
    ∙ ap (λ n. map (symbol_slot (first + block)) (elim (nat_le count (length fresh)) as (λ _. List ℕ) [ true ↦ take count fresh | false ↦ range_with_len 0 n ])) (sym (sh.closed_is block))
    ∙ slots_up first block (elim (nat_le count (length fresh)) as (λ _. List ℕ) [ true ↦ take count fresh | false ↦ range_with_len 0 (closed_in (shape_closed c (closed - symbol_number c first 0)) block) ])
  where
    fresh : List ℕ
    fresh = fresh_parities (shape_closed c (closed - symbol_number c first 0)) sent block

counted_up : (c : Cut) (closed first : ℕ) (sent : List ℕ) (block : ℕ) (counts : List ℕ) → Shifts c closed first
    → counted_slots (shape_closed c closed) (slots_from first sent) (first + block) counts ≡ slots_from first (counted_slots (shape_closed c (closed - symbol_number c first 0)) sent block counts)
counted_up c closed first sent block [] sh = refl
counted_up c closed first sent block (n ∷ counts) sh =
    ap (λ k. repair_slots (shape_closed c closed) (slots_from first sent) (first + block) (min n k) ++ counted_slots (shape_closed c closed) (slots_from first sent) (suc (first + block)) counts) (sym (sh.sources_is block))
    ∙ ap (λ xs. xs ++ counted_slots (shape_closed c closed) (slots_from first sent) (suc (first + block)) counts) (repairs_up c closed first sent block (min n (source_symbols c block)) sh)
    ∙ ap (λ k. slots_from first (repair_slots rel sent block (min n (source_symbols c block))) ++ counted_slots (shape_closed c closed) (slots_from first sent) k counts) (let e : suc (first + block) ≡ first + suc block = omega arith in e)
    ∙ ap (λ xs. slots_from first (repair_slots rel sent block (min n (source_symbols c block))) ++ xs) (counted_up c closed first sent (suc block) counts sh)
    ∙ sym (map-append (λ slot. 256 * first + slot) (repair_slots rel sent block (min n (source_symbols c block))) (counted_slots rel sent (suc block) counts))
  where
    rel : Shape
    rel = shape_closed c (closed - symbol_number c first 0)

zeros_ask : (c : Cut) (closed : ℕ) (sent : List ℕ) (block n : ℕ) (counts : List ℕ)
    → counted_slots (shape_closed c closed) sent block (replicate n 0 ++ counts) ≡ counted_slots (shape_closed c closed) sent (n + block) counts
zeros_ask c closed sent block zero counts = ap (λ k. counted_slots (shape_closed c closed) sent k counts) (let e : block ≡ 0 + block = omega arith in e)
zeros_ask c closed sent block (suc n) counts =
    ap (λ k. repair_slots (shape_closed c closed) sent block k ++ counted_slots (shape_closed c closed) sent (suc block) (replicate n 0 ++ counts)) (let e : min 0 (source_symbols c block) ≡ 0 = omega arith in e)
    ∙ ap (λ xs. xs ++ counted_slots (shape_closed c closed) sent (suc block) (replicate n 0 ++ counts)) (here (nat_le 0 (length (fresh_parities (shape_closed c closed) sent block))) (le-leb 0 (length (fresh_parities (shape_closed c closed) sent block)) (omega arith)))
    ∙ zeros_ask c closed sent (suc block) n counts
    ∙ ap (λ k. counted_slots (shape_closed c closed) sent k counts) (let e : n + suc block ≡ suc n + block = omega arith in e)
  where
    here : (b : Bool) → b ≡ true → map (symbol_slot block) (elim b [ true ↦ [] | false ↦ range_with_len 0 (closed_in (shape_closed c closed) block) ]) ≡ []
    here true f = refl
    here false f = absurd (cc)

-- what a closing round makes of the wants
pub closed_up : (c : Cut) (closed first : ℕ) (sent asked wants counts : List ℕ) → Shifts c closed first
    → slots_from first (with_members nat_lt (with_members nat_lt (counted_slots (shape_closed c (closed - symbol_number c first 0)) sent 0 counts) asked) wants)
    ≡ with_members nat_lt (with_members nat_lt (counted_slots (shape_closed c closed) (slots_from first sent) 0 (replicate first 0 ++ counts)) (slots_from first asked)) (slots_from first wants)
closed_up c closed first sent asked wants counts sh =
    sym (with_all_up (256 * first) (with_members nat_lt counted asked) wants)
    ∙ ap (λ xs. with_members nat_lt xs (slots_from first wants)) (sym (with_all_up (256 * first) counted asked))
    ∙ ap (λ xs. with_members nat_lt (with_members nat_lt xs (slots_from first asked)) (slots_from first wants))
    (sym (counted_up c closed first sent 0 counts sh) ∙ sym (zeros_ask c closed (slots_from first sent) 0 first counts))
  where
    counted : List ℕ
    counted = counted_slots (shape_closed c (closed - symbol_number c first 0)) sent 0 counts

-- no slot of a block that is gone is kept
pub not_slot : (s : Shape) (first block symbol slot : ℕ) → block < first → stands_from first slot ≡ true → (is_encoded_slot s slot && is_slot_of block symbol slot) ≡ false
not_slot s first block symbol zero lt kept = refl
not_slot s first block symbol (suc n) lt kept =
    let le = stands_behind_start first (suc n) kept (omega arith) in
    last (is_encoded_slot s (suc n)) (block == n / 256) (symbol == n % 256) (other_is block (n / 256) (λ e. omega (arith, e, lt, le, div-add-mod n 256)))
  where
    last : (a b d : Bool) → b ≡ false → (a && (b && d)) ≡ false
    last true true d e = absurd (cc)
    last true false d e = refl
    last false b d e = refl

-- Counts.

abbrev pub blank : ℕ → List ℕ
blank n = replicate n 0

pub zeros_joined : (first n : ℕ) → blank first ++ blank n ≡ blank (length (blank first ++ blank n))
zeros_joined zero n = ap (λ k. replicate k 0) (sym (length-replicate {A = ℕ} n 0))
zeros_joined (suc first) n = ap (λ xs. 0 ∷ xs) (zeros_joined first n)

pub length-padded : (first : ℕ) (counts : List ℕ) → length (replicate first 0 ++ counts) ≡ first + length counts
length-padded first counts = length-append (replicate first 0) counts ∙ ap (λ n. n + length counts) (length-replicate {A = ℕ} first 0)

pub count_behind : (first block : ℕ) (counts : List ℕ) → first ≤ block → get_or (replicate first 0 ++ counts) block 0 ≡ get_or counts (block - first) 0
count_behind first block counts le = get_or-append_right (replicate first 0) counts first block 0 (length-replicate {A = ℕ} first 0) le

pub no_count : (first block : ℕ) (counts : List ℕ) → block < first → get_or (replicate first 0 ++ counts) block 0 ≡ 0
no_count zero block counts lt = absurd (omega (arith, lt))
no_count (suc first) zero counts lt = refl
no_count (suc first) (suc block) counts lt = no_count first block counts (omega (arith, lt))

pub set_padded : (first place v : ℕ) (counts : List ℕ) → set (replicate first 0 ++ counts) (first + place) v ≡ replicate first 0 ++ set counts place v
set_padded zero place v counts = ap (λ k. set counts k v) (let e : 0 + place ≡ place = omega arith in e)
set_padded (suc first) place v counts = ap (λ k. set (0 ∷ (replicate first 0 ++ counts)) k v) (let e : suc first + place ≡ suc (first + place) = omega arith in e) ∙ ap (λ xs. 0 ∷ xs) (set_padded first place v counts)

pub counts_moved : (first block : ℕ) (old new : List ℕ) → first ≤ block → length new ≡ length old → ((k : ℕ) → get_or new k 0 ≡ get_or old (k + (block - first)) 0)
    → replicate block 0 ++ new ≡ map (λ at. from_block block at (get_or (replicate first 0 ++ old) at 0)) (range_with_len 0 (length (replicate first 0 ++ old) + (block - first)))
counts_moved first block old new le same moved = ext_get_or 0 _ _ long each
  where
    all : ℕ
    all = length (replicate first 0 ++ old) + (block - first)

    test : ℕ → ℕ
    test at = from_block block at (get_or (replicate first 0 ++ old) at 0)

    long : length (replicate block 0 ++ new) ≡ length (map test (range_with_len 0 all))
    long =
        let here = length-padded block new in
        let was = length-padded first old in
        let many = length-map (range_with_len 0 all) test in
        let range = length-range_with_len 0 all in
        omega (arith, here, was, many, range, same, le)

    each : (i : ℕ) → i < length (replicate block 0 ++ new) → get_or (replicate block 0 ++ new) i 0 ≡ get_or (map test (range_with_len 0 all)) i 0
    each i lt = go (cases_lt i block) ∙ sym read
      where
        within : i < all
        within = let here = length-padded block new in let was = length-padded first old in omega (arith, lt, here, was, same, le)

        read : get_or (map test (range_with_len 0 all)) i 0 ≡ test i
        read =
            get_or-map test (range_with_len 0 all) i 0 0 (let range = length-range_with_len 0 all in omega (arith, within, range))
            ∙ ap test (get_or-range_with_len 0 all i 0 within ∙ (let e : 0 + i ≡ i = omega arith in e))

        go : (i < block) ⊎ (block ≤ i) → get_or (replicate block 0 ++ new) i 0 ≡ test i
        go (inl less) = no_count block i new less ∙ sym (ap (λ b. elim b as (λ _. ℕ) [ true ↦ 0 | false ↦ get_or (replicate first 0 ++ old) i 0 ]) (lt-ltb i block less))
        go (inr more) =
            count_behind block i new more ∙ moved (i - block)
            ∙ ap (λ k. get_or old k 0) (let e : i - block + (block - first) ≡ i - first = omega (arith, le, more) in e)
            ∙ sym (count_behind first i old (omega (arith, le, more)))
            ∙ sym (ap (λ b. elim b as (λ _. ℕ) [ true ↦ 0 | false ↦ get_or (replicate first 0 ++ old) i 0 ]) (le-ltb i block more))

-- Sets that moved on.

rises_passing : (test : ℕ → Bool) (xs : List ℕ) → Rises xs → Rises (filter test xs)
rises_passing test [] rises = tt
rises_passing test (x ∷ xs) rises = go (test x) (rises_passing test xs rises.1)
  where
    all : (ys : List ℕ) → AllByRecursion (λ y. x < y) ys → AllByRecursion (λ y. x < y) (filter test ys)
    all [] h = tt
    all (y ∷ ys) h = by (test y) (all ys h.1)
      where
        by : (b : Bool) → AllByRecursion (λ z. x < z) (filter test ys) → AllByRecursion (λ z. x < z) (cond b (y ∷ filter test ys) (filter test ys))
        by true rest = (h.0, rest)
        by false rest = rest

    go : (b : Bool) → Rises (filter test xs) → Rises (cond b (x ∷ filter test xs) (filter test xs))
    go true rest = (all xs rises.0, rest)
    go false rest = rest

pub set_moved : (first block : ℕ) (old new : List ℕ) → first ≤ block → Rises old → Rises new → is_member nat_lt 0 old ≡ false
    → ((place : ℕ) → is_member nat_lt place new ≡ (is_member nat_lt (place + 256 * (block - first)) old && nat_lt 0 place))
    → slots_from block new ≡ filter (stands_from block) (slots_from first old)
set_moved first block old new le rises_old rises_new plain moved =
    same_sets nat_lt (slots_from block new) (filter (stands_from block) (slots_from first old)) numbers
    (rising _ (rises_up (256 * block) new rises_new)) (rising _ (rises_passing (stands_from block) (slots_from first old) up)) each
  where
    up : Rises (slots_from first old)
    up = rises_up (256 * first) old rises_old

    and_false : (a b : Bool) → b ≡ false → (a && b) ≡ false
    and_false true b e = e
    and_false false b e = refl

    none_and : (a b : Bool) → a ≡ false → (a && b) ≡ false
    none_and true b e = absurd (cc)
    none_and false b e = refl

    passing : (slot : ℕ) → is_member nat_lt slot (filter (stands_from block) (slots_from first old)) ≡ (is_member nat_lt slot (slots_from first old) && stands_from block slot)
    passing slot = member_passing (stands_from block) slot (slots_from first old) up

    not_from : (slot : ℕ) → 0 < slot → slot ≤ 256 * block → stands_from block slot ≡ false
    not_from zero some less = absurd (omega (arith, some))
    not_from (suc n) some less = ap not (lt-ltb (n / 256) block (omega (arith, less, div-add-mod n 256)))

    each : (slot : ℕ) → is_member nat_lt slot (slots_from block new) ≡ is_member nat_lt slot (filter (stands_from block) (slots_from first old))
    each slot = go (cases_lt (256 * block) slot) (cases_lt 0 slot) ∙ sym (passing slot)
      where
        -- slot 0 of the first block
        low : slot ≤ 0 → is_member nat_lt slot (slots_from first old) ≡ false
        low none = by (cases_lt slot (256 * first))
          where
            by : (slot < 256 * first) ⊎ (256 * first ≤ slot) → is_member nat_lt slot (slots_from first old) ≡ false
            by (inl lt) = none_before (256 * first) slot old lt
            by (inr ge) =
                member_from (256 * first) slot old ge
                ∙ ap (λ k. is_member nat_lt k old) (let e : slot - 256 * first ≡ 0 = omega (arith, none) in e) ∙ plain

        before : slot ≤ 256 * block → is_member nat_lt slot (slots_from block new) ≡ false
        before less = by (cases_lt slot (256 * block))
          where
            by : (slot < 256 * block) ⊎ (256 * block ≤ slot) → is_member nat_lt slot (slots_from block new) ≡ false
            by (inl lt) = none_before (256 * block) slot new lt
            by (inr ge) =
                member_from (256 * block) slot new ge ∙ moved (slot - 256 * block)
                ∙ and_false _ (nat_lt 0 (slot - 256 * block)) (le-ltb 0 (slot - 256 * block) (omega (arith, less)))

        and_true : (a b : Bool) → b ≡ true → (a && b) ≡ a
        and_true true b e = e
        and_true false b e = refl

        go : (256 * block < slot) ⊎ (slot ≤ 256 * block) → (0 < slot) ⊎ (slot ≤ 0)
            → is_member nat_lt slot (slots_from block new) ≡ (is_member nat_lt slot (slots_from first old) && stands_from block slot)
        go (inl lt) some =
            member_from (256 * block) slot new (omega (arith, lt)) ∙ moved (slot - 256 * block)
            ∙ and_true _ (nat_lt 0 (slot - 256 * block)) (lt-ltb 0 (slot - 256 * block) (omega (arith, lt)))
            ∙ ap (λ k. is_member nat_lt k old) (let e : slot - 256 * block + 256 * (block - first) ≡ slot - 256 * first = omega (arith, lt, le) in e)
            ∙ sym (member_from (256 * first) slot old (omega (arith, lt, le)))
            ∙ sym (and_true _ (stands_from block slot) (start_stands block slot lt))
        go (inr less) (inl some) = before less ∙ sym (and_false _ (stands_from block slot) (not_from slot some less))
        go (inr less) (inr none) = before less ∙ sym (none_and _ (stands_from block slot) (low none))

-- those that were taken out before are below, so that as many are left
pub as_many : (count : ℕ) (old mid new : List ℕ) → Rises old → Rises new → mid ≡ filter (from_place (256 * count + 1)) old
    → ((place : ℕ) → is_member nat_lt place new ≡ (is_member nat_lt (place + 256 * count) mid && nat_lt 0 place)) → length new ≡ length mid
as_many count old mid new rises_old rises_new is moved =
    sym (length-map new (λ place. 256 * count + place))
    ∙ ap length (same_sets nat_lt (map (λ place. 256 * count + place) new) mid numbers (rising _ (rises_up (256 * count) new rises_new))
    (rising _ (subst Rises (sym is) (rises_passing (from_place (256 * count + 1)) old rises_old))) each)
  where
    there : (place : ℕ) → is_member nat_lt place mid ≡ (is_member nat_lt place old && from_place (256 * count + 1) place)
    there place = ap (is_member nat_lt place) is ∙ member_passing (from_place (256 * count + 1)) place old rises_old

    and_false : (a b : Bool) → b ≡ false → (a && b) ≡ false
    and_false true b e = e
    and_false false b e = refl

    and_true : (a b : Bool) → b ≡ true → (a && b) ≡ a
    and_true true b e = e
    and_true false b e = refl

    each : (place : ℕ) → is_member nat_lt place (map (λ place. 256 * count + place) new) ≡ is_member nat_lt place mid
    each place = go (cases_lt (256 * count) place)
      where
        go : (256 * count < place) ⊎ (place ≤ 256 * count) → is_member nat_lt place (map (λ place. 256 * count + place) new) ≡ is_member nat_lt place mid
        go (inl lt) =
            member_from (256 * count) place new (omega (arith, lt)) ∙ moved (place - 256 * count)
            ∙ and_true _ (nat_lt 0 (place - 256 * count)) (lt-ltb 0 (place - 256 * count) (omega (arith, lt)))
            ∙ ap (λ k. is_member nat_lt k mid) (let e : place - 256 * count + 256 * count ≡ place = omega (arith, lt) in e)
        go (inr le) = before (cases_lt place (256 * count)) ∙ sym (there place ∙ and_false _ (from_place (256 * count + 1) place) (ap not (lt-ltb place (256 * count + 1) (omega (arith, le)))))
          where
            before : (place < 256 * count) ⊎ (256 * count ≤ place) → is_member nat_lt place (map (λ place. 256 * count + place) new) ≡ false
            before (inl lt) = none_before (256 * count) place new lt
            before (inr ge) =
                member_from (256 * count) place new ge ∙ moved (place - 256 * count)
                ∙ and_false _ (nat_lt 0 (place - 256 * count)) (le-ltb 0 (place - 256 * count) (omega (arith, le)))

-- a set of which what was below is gone, moved down: as moved down at once
pub twice_moved : (count : ℕ) (old mid new : List ℕ) → Rises old → mid ≡ filter (from_place (256 * count + 1)) old
    → ((place : ℕ) → is_member nat_lt place new ≡ (is_member nat_lt (place + 256 * count) mid && nat_lt 0 place))
    → (place : ℕ) → is_member nat_lt place new ≡ (is_member nat_lt (place + 256 * count) old && nat_lt 0 place)
twice_moved count old mid new rises is moved place =
    moved place
    ∙ ap (λ b. b && nat_lt 0 place) (ap (is_member nat_lt (place + 256 * count)) is ∙ member_passing (from_place (256 * count + 1)) (place + 256 * count) old rises)
    ∙ go (cases_lt 0 place)
  where
    both : (a b c : Bool) → b ≡ true → ((a && b) && c) ≡ (a && c)
    both true b c e = ap (λ t. t && c) e
    both false b c e = refl

    none : (a b c : Bool) → c ≡ false → ((a && b) && c) ≡ (a && c)
    none true true c e = refl
    none true false c e = sym e
    none false b c e = refl

    go : (0 < place) ⊎ (place ≤ 0)
        → ((is_member nat_lt (place + 256 * count) old && from_place (256 * count + 1) (place + 256 * count)) && nat_lt 0 place) ≡ (is_member nat_lt (place + 256 * count) old && nat_lt 0 place)
    go (inl lt) = both _ _ _ (ap not (le-ltb (place + 256 * count) (256 * count + 1) (omega (arith, lt))))
    go (inr le) = none _ _ _ (le-ltb 0 place (omega (arith, le)))

-- something is gone where fewer are left
pub any_by_length : (test : ℕ → Bool) (xs : List ℕ) → list_any (λ x. not (test x)) xs ≡ nat_lt (length (filter test xs)) (length xs)
any_by_length test xs = go xs
  where
    most : (ys : List ℕ) → length (filter test ys) ≤ length ys
    most [] = omega arith
    most (y ∷ ys) = by (test y) (most ys)
      where
        by : (b : Bool) → length (filter test ys) ≤ length ys → length (cond b (y ∷ filter test ys) (filter test ys)) ≤ length (y ∷ ys)
        by true le = omega (arith, le)
        by false le = omega (arith, le)

    step : (n m : ℕ) → nat_lt n m ≡ nat_lt (suc n) (suc m)
    step n m = side (cases_lt n m)
      where
        side : (n < m) ⊎ (m ≤ n) → nat_lt n m ≡ nat_lt (suc n) (suc m)
        side (inl lt) = lt-ltb n m lt ∙ sym (lt-ltb (suc n) (suc m) (omega (arith, lt)))
        side (inr le) = le-ltb n m le ∙ sym (le-ltb (suc n) (suc m) (omega (arith, le)))

    go : (ys : List ℕ) → list_any (λ x. not (test x)) ys ≡ nat_lt (length (filter test ys)) (length ys)
    go [] = sym (le-ltb 0 0 (omega arith))
    go (y ∷ ys) = by (test y) (go ys)
      where
        by : (b : Bool) → list_any (λ x. not (test x)) ys ≡ nat_lt (length (filter test ys)) (length ys)
            → (not b || list_any (λ x. not (test x)) ys) ≡ nat_lt (length (cond b (y ∷ filter test ys) (filter test ys))) (length (y ∷ ys))
        by true rest = rest ∙ step (length (filter test ys)) (length ys)
        by false rest = let le = most ys in sym (lt-ltb (length (filter test ys)) (length (y ∷ ys)) (omega (arith, le)))

pub less_more : (m gone : ℕ) → nat_lt 0 gone ≡ nat_lt m (m + gone)
less_more m gone = go (cases_lt 0 gone)
  where
    go : (0 < gone) ⊎ (gone ≤ 0) → nat_lt 0 gone ≡ nat_lt m (m + gone)
    go (inl lt) = lt-ltb 0 gone lt ∙ sym (lt-ltb m (m + gone) (omega (arith, lt)))
    go (inr le) = le-ltb 0 gone le ∙ sym (le-ltb m (m + gone) (omega (arith, le)))

-- of nothing nothing is left
pub none_moved : (count : ℕ) (old new : List ℕ) → old ≡ [] → ((place : ℕ) → is_member nat_lt place new ≡ (is_member nat_lt (place + 256 * count) old && nat_lt 0 place)) → new ≡ []
none_moved count old [] none moved = refl
none_moved count old (x ∷ xs) none moved =
    absurd (clash (sym (moved x ∙ ap (λ (ys : List ℕ). is_member nat_lt (x + 256 * count) ys && nat_lt 0 x) none ∙ ap (λ b. b && nat_lt 0 x) (no_member (x + 256 * count)))
    ∙ by_tests x x xs false false (le-ltb x x (omega arith)) (le-ltb x x (omega arith))))

pub zeros_moved : (count : ℕ) (old new : List ℕ) → old ≡ blank (length old) → length new ≡ length old → ((k : ℕ) → get_or new k 0 ≡ get_or old (k + count) 0) → new ≡ blank (length new)
zeros_moved count old new none same moved =
    ext_get_or 0 new (blank (length new)) (sym (length-replicate {A = ℕ} (length new) 0))
    (λ i lt. moved i ∙ ap (λ (xs : List ℕ). get_or xs (i + count) 0) none ∙ zeros (length old) (i + count) ∙ sym (zeros (length new) i))

-- slot 0 is none that moved
pub plain_moved : (count : ℕ) (old new : List ℕ) → ((place : ℕ) → is_member nat_lt place new ≡ (is_member nat_lt (place + 256 * count) old && nat_lt 0 place)) → is_member nat_lt 0 new ≡ false
plain_moved count old new moved = moved 0 ∙ ap (λ b. is_member nat_lt (0 + 256 * count) old && b) (le-ltb 0 0 (omega arith)) ∙ and_no (is_member nat_lt (0 + 256 * count) old)
  where
    and_no : (a : Bool) → (a && false) ≡ false
    and_no true = refl
    and_no false = refl
