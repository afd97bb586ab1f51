-- What of an object a round asks for, by slots alone and by runs of whole blocks.
use Rattle.std.proofs.Common.{◌≡◌, ℕ, zero, suc, ◌+◌, ◌*◌, ◌/◌, ◌%◌, ◌<◌, ◌≤◌, ◌⊎◌, inl, inr, List, [], ◌∷◌, length, set, get_or, true, false, refl, sym, ap, ◌∙◌, arith, take}
use Rattle.std.specs.Prelude.{◌==◌, ◌&&◌, ◌||◌, not, nat_lt, filter, max, replicate, Bool}
use Rattle.std.specs.List.{range_with_len, AllByRecursion}
use Rattle.std.proofs.Math.Nat.{div-add-mod}
use Rattle.std.proofs.lemmas.Bool.{cases_eq, cases_lt, lt-ltb, le-ltb, ltb-true}
use Rattle.std.proofs.lemmas.Bool.Decides.{nat_tests}
use Rattle.fec_plan.specs.Partition.{Cut, blocks}
use Rattle.norm_order.specs.Shapes.{Shape, closed_in, is_full}
use Rattle.nack_union.specs.Repairs.{shape_closed}
use Rattle.norm_order.specs.Sets.{is_member, with_member, Rises, IsRising}
use Rattle.norm_order.proofs.SetLemmas.{same_sets, numbers}
use Rattle.nack_union.specs.Slots.{slots, symbol_slot}
use Rattle.nack_union.specs.More.{is_source_slot, is_below}
use Rattle.symbol_mask.specs.Words.{in_run}
use Rattle.nack_union.specs.Coverage.{HasSources, farthest, lies_in_run, is_run_slot, covered_slots, is_in_blocks}
use Rattle.symbol_mask.proofs.Ranges.{filter_member, filter_with, no_filter, no_member}
use Rattle.symbol_mask.proofs.Rises.{rises_filter}
use Rattle.symbol_mask.proofs.Filled.{none_past}
use Rattle.nack_union.proofs.Counted.{same_within}
use Rattle.nack_union.proofs.Wholes.{full_grown}
use Rattle.symbol_mask.proofs.Puts.{with_puts, same_is, other_is, or_false}

-- the farthest of one end more
pub farthest_more : (ends : List ℕ) (n : ℕ) → farthest (take (suc n) ends) ≡ max (farthest (take n ends)) (get_or ends n 0)
farthest_more [] zero = refl
farthest_more [] (suc n) = refl
farthest_more (e ∷ ends) zero = let h : max e 0 ≡ max 0 e = omega arith in h
farthest_more (e ∷ ends) (suc n) = joined e _ _ _ (farthest_more ends n)
  where
    joined : (e a b c : ℕ) → a ≡ max b c → max e a ≡ max (max e b) c
    joined e a b c h = omega (arith, h)

-- an end that is raised counts from its place on
raised_within : (ends : List ℕ) (i v n : ℕ) → i < length ends → i < n
    → farthest (take n (set ends i (max (get_or ends i 0) v))) ≡ max (farthest (take n ends)) v
raised_within [] i v n lt within = absurd (omega arith)
raised_within (e ∷ ends) zero v zero lt within = absurd (omega arith)
raised_within (e ∷ ends) zero v (suc n) lt within = swap e v (farthest (take n ends))
  where
    swap : (e v f : ℕ) → max (max e v) f ≡ max (max e f) v
    swap e v f = omega arith
raised_within (e ∷ ends) (suc i) v zero lt within = absurd (omega arith)
raised_within (e ∷ ends) (suc i) v (suc n) lt within = joined e _ _ _ (raised_within ends i v n (omega arith) (omega arith))
  where
    joined : (e a b c : ℕ) → a ≡ max b c → max e a ≡ max (max e b) c
    joined e a b c h = omega (arith, h)

raised_past : (ends : List ℕ) (i v n : ℕ) → n ≤ i → farthest (take n (set ends i v)) ≡ farthest (take n ends)
raised_past [] i v n past = refl
raised_past (e ∷ ends) i v zero past = refl
raised_past (e ∷ ends) zero v (suc n) past = absurd (omega arith)
raised_past (e ∷ ends) (suc i) v (suc n) past = ap (max e) (raised_past ends i v n (omega arith))

pub lies_raised : (ends : List ℕ) (first behind block : ℕ) → first < length ends
    → lies_in_run (set ends first (max (get_or ends first 0) behind)) block ≡ (lies_in_run ends block || (not (nat_lt block first) && nat_lt block behind))
lies_raised ends first behind block lt = go (cases_lt block first)
  where
    later : (block f behind : ℕ) → first ≤ block → nat_lt block (max f behind) ≡ (nat_lt block f || (not (nat_lt block first) && nat_lt block behind))
    later block f behind le = grind (arith, nat_tests)

    before : (a : Bool) → block < first → a ≡ (a || (not (nat_lt block first) && nat_lt block behind))
    before true le = refl
    before false le = grind (arith, nat_tests)

    go : (block < first) ⊎ (first ≤ block)
        → lies_in_run (set ends first (max (get_or ends first 0) behind)) block ≡ (lies_in_run ends block || (not (nat_lt block first) && nat_lt block behind))
    go (inl under) = ap (nat_lt block) (raised_past ends first _ (suc block) (omega arith)) ∙ before _ under
    go (inr from) = ap (nat_lt block) (raised_within ends first behind (suc block) lt (omega arith)) ∙ later block (farthest (take (suc block) ends)) behind from

-- where it ends with whole blocks, all that lie in runs are whole
pub runs_raised : (c : Shape) (ends : List ℕ) (first behind v block : ℕ) → first < length ends → v ≡ max (get_or ends first 0) behind
    → ((block : ℕ) → lies_in_run ends block ≡ true → is_full c block ≡ true) → ((block : ℕ) → block < behind → is_full c block ≡ true)
    → lies_in_run (set ends first v) block ≡ true → is_full c block ≡ true
runs_raised c ends first behind v block lt is runs whole lies =
    go (lies_in_run ends block) (not (nat_lt block first)) (nat_lt block behind) refl refl
    (sym (lies_raised ends first behind block lt) ∙ ap (λ n. lies_in_run (set ends first n) block) (sym is) ∙ lies)
  where
    go : (a b d : Bool) → lies_in_run ends block ≡ a → nat_lt block behind ≡ d → (a || (b && d)) ≡ true → is_full c block ≡ true
    go true b d e f h = runs block e
    go false true true e f h = whole block (ltb-true block behind f)
    go false true false e f h = absurd (cc)
    go false false d e f h = absurd (cc)

-- a run of blocks more
run_slot_more : (c : Shape) (ends : List ℕ) (first behind slot : ℕ) → first < length ends
    → is_run_slot c (set ends first (max (get_or ends first 0) behind)) slot ≡ (is_run_slot c ends slot || (is_source_slot c slot && is_in_blocks first behind slot))
run_slot_more c ends first behind zero lt = refl
run_slot_more c ends first behind (suc n) lt =
    ap (λ b. is_source_slot c (suc n) && b) (lies_raised ends first behind (n / 256) lt) ∙ spread (is_source_slot c (suc n)) _ _
  where
    spread : (s a b : Bool) → (s && (a || b)) ≡ ((s && a) || (s && b))
    spread true a b = refl
    spread false a b = refl

-- which slots are covered
pub covered_is : (c : Shape) (ends alone : List ℕ) (slot : ℕ)
    → is_member nat_lt slot (covered_slots c ends alone) ≡ (nat_lt slot (slots (blocks c.cut)) && (is_member nat_lt slot alone || is_run_slot c ends slot))
unfolding covered_slots
covered_is c ends alone slot = go (cases_lt slot (slots (blocks c.cut)))
  where
    go : (slot < slots (blocks c.cut)) ⊎ (slots (blocks c.cut) ≤ slot)
        → is_member nat_lt slot (filter (λ slot. is_member nat_lt slot alone || is_run_slot c ends slot) (range_with_len 0 (slots (blocks c.cut))))
        ≡ (nat_lt slot (slots (blocks c.cut)) && (is_member nat_lt slot alone || is_run_slot c ends slot))
    go (inl lt) =
        filter_member (λ slot. is_member nat_lt slot alone || is_run_slot c ends slot) slot 0 (slots (blocks c.cut)) (omega arith) (omega arith)
        ∙ ap (λ b. b && (is_member nat_lt slot alone || is_run_slot c ends slot)) (sym (lt-ltb slot (slots (blocks c.cut)) lt))
    go (inr past) =
        none_past (λ slot. is_member nat_lt slot alone || is_run_slot c ends slot) slot 0 (slots (blocks c.cut)) (omega arith)
        ∙ ap (λ b. b && (is_member nat_lt slot alone || is_run_slot c ends slot)) (sym (le-ltb slot (slots (blocks c.cut)) past))

-- the info is there by itself alone
pub info_covered : (c : Shape) (ends alone : List ℕ) → is_member nat_lt 0 (covered_slots c ends alone) ≡ is_member nat_lt 0 alone
info_covered c ends alone = covered_is c ends alone 0 ∙ ap (λ b. b && (is_member nat_lt 0 alone || false)) (lt-ltb 0 (slots (blocks c.cut)) (omega arith)) ∙ or_no (is_member nat_lt 0 alone)
  where
    or_no : (a : Bool) → (a || false) ≡ a
    or_no true = refl
    or_no false = refl

source_within : (c : Shape) (slot : ℕ) → is_source_slot c slot ≡ true → nat_lt slot (slots (blocks c.cut)) ≡ true
source_within c zero e = absurd (cc)
source_within c (suc n) e = by (nat_lt (n / 256) (blocks c.cut)) (nat_lt (n % 256) (closed_in c (n / 256))) refl e
  where
    by : (a b : Bool) → a ≡ nat_lt (n / 256) (blocks c.cut) → (a && b) ≡ true → nat_lt (suc n) (slots (blocks c.cut)) ≡ true
    by true b is e = grind (arith, nat_tests, div-add-mod n 256)
    by false b is e = absurd (cc)

-- Slots that lie in the object join those that are alone, or those of runs.
joins_alone : (l a r s i : Bool) → (s ≡ true → l ≡ true) → (l && ((a || (s && i)) || r)) ≡ ((l && (a || r)) || (s && i))
joins_alone true true r s i within = refl
joins_alone true false true true true within = refl
joins_alone true false false true true within = refl
joins_alone true false true true false within = refl
joins_alone true false false true false within = refl
joins_alone true false true false i within = refl
joins_alone true false false false i within = refl
joins_alone false a r true i within = let e = within refl in absurd (cc)
joins_alone false a r false i within = refl

joins_runs : (l a r s i : Bool) → (s ≡ true → l ≡ true) → (l && (a || (r || (s && i)))) ≡ ((l && (a || r)) || (s && i))
joins_runs true true r s i within = refl
joins_runs true false r s i within = refl
joins_runs false a r true i within = let e = within refl in absurd (cc)
joins_runs false a r false i within = refl

pub part_more : (c : Shape) (ends alone new : List ℕ) (from to : ℕ)
    → ((slot : ℕ) → is_member nat_lt slot new ≡ (is_member nat_lt slot alone || (is_source_slot c slot && in_run from to slot)))
    → (slot : ℕ) → is_member nat_lt slot (covered_slots c ends new) ≡ (is_member nat_lt slot (covered_slots c ends alone) || (is_source_slot c slot && in_run from to slot))
part_more c ends alone new from to more slot =
    covered_is c ends new slot
    ∙ ap (λ b. nat_lt slot (slots (blocks c.cut)) && (b || is_run_slot c ends slot)) (more slot)
    ∙ joins_alone (nat_lt slot (slots (blocks c.cut))) (is_member nat_lt slot alone) (is_run_slot c ends slot) (is_source_slot c slot) (in_run from to slot) (source_within c slot)
    ∙ ap (λ b. b || (is_source_slot c slot && in_run from to slot)) (sym (covered_is c ends alone slot))

pub blocks_more : (c : Shape) (ends alone new : List ℕ) (first behind : ℕ) → first < length ends → new ≡ set ends first (max (get_or ends first 0) behind)
    → (slot : ℕ) → is_member nat_lt slot (covered_slots c new alone) ≡ (is_member nat_lt slot (covered_slots c ends alone) || (is_source_slot c slot && is_in_blocks first behind slot))
blocks_more c ends alone new first behind lt is slot =
    covered_is c new alone slot
    ∙ ap (λ b. nat_lt slot (slots (blocks c.cut)) && (is_member nat_lt slot alone || b)) (ap (λ (es : List ℕ). is_run_slot c es slot) is ∙ run_slot_more c ends first behind slot lt)
    ∙ joins_runs (nat_lt slot (slots (blocks c.cut))) (is_member nat_lt slot alone) (is_run_slot c ends slot) (is_source_slot c slot) (is_in_blocks first behind slot) (source_within c slot)
    ∙ ap (λ b. b || (is_source_slot c slot && is_in_blocks first behind slot)) (sym (covered_is c ends alone slot))

-- one slot more
pub slot_more : (c : Shape) (ends alone : List ℕ) (slot : ℕ) → slot < slots (blocks c.cut)
    → covered_slots c ends (with_member nat_lt slot alone) ≡ with_member nat_lt slot (covered_slots c ends alone)
unfolding covered_slots
slot_more c ends alone slot lt =
    filter_with (λ i. is_member nat_lt i alone || is_run_slot c ends i) (λ i. is_member nat_lt i (with_member nat_lt slot alone) || is_run_slot c ends i)
    slot 0 (slots (blocks c.cut)) (omega arith) (omega arith)
    (ap (λ b. b || is_run_slot c ends slot) (with_puts slot slot alone ∙ ap (λ b. is_member nat_lt slot alone || b) (same_is slot slot refl) ∙ or_true (is_member nat_lt slot alone)))
    (λ i ne. ap (λ b. b || is_run_slot c ends i) (with_puts i slot alone ∙ or_false (is_member nat_lt i alone) (i == slot) (other_is i slot ne)))
  where
    or_true : (a : Bool) → (a || true) ≡ true
    or_true true = refl
    or_true false = refl

-- they rise, and no more of them are there than slots
pub covered_rise : (c : Shape) (ends alone : List ℕ) → Rises (covered_slots c ends alone)
unfolding covered_slots
covered_rise c ends alone = rises_filter (λ slot. is_member nat_lt slot alone || is_run_slot c ends slot) 0 (slots (blocks c.cut))

by_tests : (n : ℕ) (ns : List ℕ) → AllByRecursion (λ m. n < m) ns → AllByRecursion (λ m. nat_lt n m ≡ true) ns
by_tests n [] all = tt
by_tests n (m ∷ ns) all = (lt-ltb n m all.0, by_tests n ns all.1)

pub rising : (ns : List ℕ) → Rises ns → IsRising nat_lt ns
rising [] rises = tt
rising (n ∷ ns) rises = (by_tests n ns rises.0, rising ns rises.1)

-- where the runs joined the slots that are alone, these are all
pub all_alone : (c : Shape) (ends alone new : List ℕ) → ((slot : ℕ) → is_member nat_lt slot new ≡ (is_member nat_lt slot alone || is_run_slot c ends slot))
    → Rises new → ((slot : ℕ) → slots (blocks c.cut) ≤ slot → is_member nat_lt slot new ≡ false) → new ≡ covered_slots c ends alone
all_alone c ends alone new filled rises within =
    same_sets nat_lt new (covered_slots c ends alone) numbers (rising new rises) (rising _ (covered_rise c ends alone)) (λ slot. go slot (cases_lt slot (slots (blocks c.cut))))
  where
    go : (slot : ℕ) → (slot < slots (blocks c.cut)) ⊎ (slots (blocks c.cut) ≤ slot) → is_member nat_lt slot new ≡ is_member nat_lt slot (covered_slots c ends alone)
    go slot (inl lt) =
        filled slot
        ∙ ap (λ b. b && (is_member nat_lt slot alone || is_run_slot c ends slot)) (sym (lt-ltb slot (slots (blocks c.cut)) lt)) ∙ sym (covered_is c ends alone slot)
    go slot (inr past) =
        within slot past
        ∙ ap (λ b. b && (is_member nat_lt slot alone || is_run_slot c ends slot)) (sym (le-ltb slot (slots (blocks c.cut)) past)) ∙ sym (covered_is c ends alone slot)

-- no slot is covered where none is alone and no run ends anywhere
no_end : (n k : ℕ) → farthest (take k (replicate n 0)) ≡ 0
no_end zero zero = refl
no_end zero (suc k) = refl
no_end (suc n) zero = refl
no_end (suc n) (suc k) = ap (max 0) (no_end n k)

pub no_lies : (n block : ℕ) → lies_in_run (replicate n 0) block ≡ false
no_lies n block = ap (nat_lt block) (no_end n (suc block)) ∙ le-ltb block 0 (omega arith)

no_run : (c : Shape) (n slot : ℕ) → is_run_slot c (replicate n 0) slot ≡ false
no_run c n zero = refl
no_run c n (suc m) = ap (λ k. is_source_slot c (suc m) && nat_lt (m / 256) k) (no_end n (suc (m / 256))) ∙ by (is_source_slot c (suc m)) _ (le-ltb (m / 256) 0 (omega arith))
  where
    by : (s b : Bool) → b ≡ false → (s && b) ≡ false
    by true b e = e
    by false b e = refl

pub none_covered : (c : Shape) (ends alone : List ℕ) (n : ℕ) → ends ≡ replicate n 0 → alone ≡ [] → covered_slots c ends alone ≡ []
unfolding covered_slots
none_covered c ends alone n zeros none =
    no_filter (λ slot. is_member nat_lt slot alone || is_run_slot c ends slot) 0 (slots (blocks c.cut))
    (λ i le lt. ap (λ (xs : List ℕ). is_member nat_lt i xs || is_run_slot c ends i) none ∙ ap (λ b. b || is_run_slot c ends i) (no_member i)
    ∙ ap (λ (es : List ℕ). is_run_slot c es i) zeros ∙ no_run c n i)

-- where blocks that lie in runs are whole, the slots stay as more is closed
run_grown : (c : Cut) (was now : ℕ) (ends : List ℕ) → was ≤ now → ((block : ℕ) → lies_in_run ends block ≡ true → is_full (shape_closed c was) block ≡ true)
    → (slot : ℕ) → is_run_slot (shape_closed c now) ends slot ≡ is_run_slot (shape_closed c was) ends slot
run_grown c was now ends le runs zero = refl
run_grown c was now ends le runs (suc n) = go (lies_in_run ends (n / 256)) refl
  where
    none : (s t l : Bool) → l ≡ false → (s && l) ≡ (t && l)
    none s t true e = absurd (cc)
    none true true false e = refl
    none true false false e = refl
    none false true false e = refl
    none false false false e = refl

    go : (l : Bool) → lies_in_run ends (n / 256) ≡ l → is_run_slot (shape_closed c now) ends (suc n) ≡ is_run_slot (shape_closed c was) ends (suc n)
    go true e = ap (λ k. (nat_lt (n / 256) (blocks c) && nat_lt (n % 256) k) && lies_in_run ends (n / 256)) (full_grown c was now (n / 256) le (runs (n / 256) e)).0
    go false e = none (is_source_slot (shape_closed c now) (suc n)) (is_source_slot (shape_closed c was) (suc n)) (lies_in_run ends (n / 256)) e

pub covered_grown : (c : Cut) (was now : ℕ) (ends alone : List ℕ) → was ≤ now → ((block : ℕ) → lies_in_run ends block ≡ true → is_full (shape_closed c was) block ≡ true)
    → covered_slots (shape_closed c now) ends alone ≡ covered_slots (shape_closed c was) ends alone
unfolding covered_slots
covered_grown c was now ends alone le runs =
    same_within (λ slot. is_member nat_lt slot alone || is_run_slot (shape_closed c was) ends slot) (λ slot. is_member nat_lt slot alone || is_run_slot (shape_closed c now) ends slot)
    0 (slots (blocks c)) (λ slot from to. ap (λ b. is_member nat_lt slot alone || b) (run_grown c was now ends le runs slot))

-- The source symbols of one block more that lies in a run, or that lies in none.
block_here : (n m k j b : ℕ) (l : Bool) → j ≤ 256 → b < m → n / 256 ≡ b → k ≡ j → l ≡ true
    → ((((nat_lt (n / 256) m && nat_lt (n % 256) k) && l) && nat_lt (n / 256) b) || in_run (256 * b + 0 + 1) (256 * b + 0 + 1 + j) (suc n))
    ≡ (((nat_lt (n / 256) m && nat_lt (n % 256) k) && l) && nat_lt (n / 256) (b + 1))
block_here n m k j b true few lt at is lies = grind (arith, nat_tests, div-add-mod n 256)
block_here n m k j b false few lt at is lies = absurd (cc)

block_there : (n b j : ℕ) (s : Bool) → j ≤ 256 → (n / 256 ≡ b → ⊥)
    → ((s && nat_lt (n / 256) b) || in_run (256 * b + 0 + 1) (256 * b + 0 + 1 + j) (suc n)) ≡ (s && nat_lt (n / 256) (b + 1))
block_there n b j s few ne = grind (arith, nat_tests, div-add-mod n 256)

pub run_block : (c : Shape) (ends : List ℕ) (slot b j : ℕ) → j ≡ closed_in c b → j ≤ 256 → b < blocks c.cut → b < farthest (take (suc b) ends)
    → ((is_run_slot c ends slot && is_below b slot) || in_run (256 * b + 0 + 1) (256 * b + 0 + 1 + j) slot) ≡ (is_run_slot c ends slot && is_below (b + 1) slot)
run_block c ends zero b j is few lt lies = grind (arith, nat_tests)
run_block c ends (suc n) b j is few lt lies = go (cases_eq (n / 256) b)
  where
    go : (n / 256 ≡ b) ⊎ (n / 256 ≡ b → ⊥)
        → ((is_run_slot c ends (suc n) && nat_lt (n / 256) b) || in_run (256 * b + 0 + 1) (256 * b + 0 + 1 + j) (suc n)) ≡ (is_run_slot c ends (suc n) && nat_lt (n / 256) (b + 1))
    go (inl e) =
        block_here n (blocks c.cut) (closed_in c (n / 256)) j b (lies_in_run ends (n / 256)) few lt e (ap (closed_in c) e ∙ sym is)
        (ap (lies_in_run ends) e ∙ lt-ltb b _ lies)
    go (inr ne) = block_there n b j (is_run_slot c ends (suc n)) few ne

pub no_run_block : (c : Shape) (ends : List ℕ) (slot b : ℕ) → farthest (take (suc b) ends) ≤ b
    → (is_run_slot c ends slot && is_below b slot) ≡ (is_run_slot c ends slot && is_below (b + 1) slot)
no_run_block c ends zero b none = refl
no_run_block c ends (suc n) b none = go (cases_eq (n / 256) b)
  where
    empty : (s l x y : Bool) → l ≡ false → ((s && l) && x) ≡ ((s && l) && y)
    empty true true x y e = absurd (cc)
    empty true false x y e = refl
    empty false l x y e = refl

    apart : (s : Bool) → (n / 256 ≡ b → ⊥) → (s && nat_lt (n / 256) b) ≡ (s && nat_lt (n / 256) (b + 1))
    apart s ne = grind (arith, nat_tests)

    go : (n / 256 ≡ b) ⊎ (n / 256 ≡ b → ⊥) → (is_run_slot c ends (suc n) && nat_lt (n / 256) b) ≡ (is_run_slot c ends (suc n) && nat_lt (n / 256) (b + 1))
    go (inl e) = empty (is_source_slot c (suc n)) (lies_in_run ends (n / 256)) _ _ (ap (lies_in_run ends) e ∙ le-ltb b _ none)
    go (inr ne) = apart (is_run_slot c ends (suc n)) ne

-- no block yet, and all blocks
pub no_block : (c : Shape) (ends : List ℕ) (slot : ℕ) → (is_run_slot c ends slot && is_below 0 slot) ≡ false
no_block c ends zero = refl
no_block c ends (suc n) = by (is_run_slot c ends (suc n)) _ (le-ltb (n / 256) 0 (omega arith))
  where
    by : (s b : Bool) → b ≡ false → (s && b) ≡ false
    by true b e = e
    by false b e = refl

pub all_blocks : (c : Shape) (ends : List ℕ) (slot b : ℕ) → ((block : ℕ) → b ≤ block → closed_in c block ≡ 0) → (is_run_slot c ends slot && is_below b slot) ≡ is_run_slot c ends slot
all_blocks c ends zero b none = refl
all_blocks c ends (suc n) b none = go (cases_lt (n / 256) b)
  where
    all : (r t : Bool) → t ≡ true → (r && t) ≡ r
    all true t e = e
    all false t e = refl

    by : (x y l t : Bool) → y ≡ false → (((x && y) && l) && t) ≡ ((x && y) && l)
    by true true l t e = absurd (cc)
    by true false l t e = refl
    by false y l t e = refl

    go : (n / 256 < b) ⊎ (b ≤ n / 256) → (is_run_slot c ends (suc n) && nat_lt (n / 256) b) ≡ is_run_slot c ends (suc n)
    go (inl lt) = all (is_run_slot c ends (suc n)) (nat_lt (n / 256) b) (lt-ltb (n / 256) b lt)
    go (inr past) =
        by (nat_lt (n / 256) (blocks c.cut)) (nat_lt (n % 256) (closed_in c (n / 256))) (lies_in_run ends (n / 256)) (nat_lt (n / 256) b)
        (ap (nat_lt (n % 256)) (none (n / 256) past) ∙ le-ltb (n % 256) 0 (omega arith))

pub run_step : (c : Shape) (ends : List ℕ) (slot b : ℕ) (wanted : Bool) → closed_in c b ≤ 256 → b < blocks c.cut → wanted ≡ nat_lt b (farthest (take (suc b) ends))
    → ((is_run_slot c ends slot && is_below b slot) || (wanted && in_run (symbol_slot b 0) (symbol_slot b 0 + closed_in c b) slot)) ≡ (is_run_slot c ends slot && is_below (b + 1) slot)
run_step c ends slot b true few lt is = run_block c ends slot b (closed_in c b) refl few lt (ltb-true b _ (sym is))
run_step c ends slot b false few lt is = or_false _ false refl ∙ no_run_block c ends slot b (not_below (cases_lt b (farthest (take (suc b) ends))))
  where
    not_below : (b < farthest (take (suc b) ends)) ⊎ (farthest (take (suc b) ends) ≤ b) → farthest (take (suc b) ends) ≤ b
    not_below (inl less) = let e = is ∙ lt-ltb b _ less in absurd (cc)
    not_below (inr le) = le

-- where runs were filled and what is alone was moved down, less is covered by as much
pub covered_moved : (c new : Shape) (ends none alone moved : List ℕ) (n count : ℕ) → new.cut ≡ c.cut → none ≡ replicate n 0
    → ((place : ℕ) → is_member nat_lt place moved ≡ (is_member nat_lt (place + 64 * (4 * count)) (covered_slots c ends alone) && nat_lt 0 place))
    → (slot : ℕ) → is_member nat_lt slot (covered_slots new none moved) ≡ (is_member nat_lt (slot + 256 * count) (covered_slots c ends alone) && nat_lt 0 slot)
covered_moved c new ends none alone moved n count cut zeros down slot =
    covered_is new none moved slot
    ∙ ap (λ b. nat_lt slot (slots (blocks new.cut)) && (is_member nat_lt slot moved || b)) (ap (λ (es : List ℕ). is_run_slot new es slot) zeros ∙ no_run new n slot)
    ∙ ap (λ b. nat_lt slot (slots (blocks new.cut)) && (b || false))
    (down slot ∙ ap (λ m. is_member nat_lt m (covered_slots c ends alone) && nat_lt 0 slot) (let e : slot + 64 * (4 * count) ≡ slot + 256 * count = omega arith in e))
    ∙ ap (λ (k : Cut). nat_lt slot (slots (blocks k)) && ((is_member nat_lt (slot + 256 * count) (covered_slots c ends alone) && nat_lt 0 slot) || false)) cut
    ∙ go (nat_lt slot (slots (blocks c.cut))) (is_member nat_lt (slot + 256 * count) (covered_slots c ends alone)) (nat_lt 0 slot) within
  where
    first : (a b : Bool) → (a && b) ≡ true → a ≡ true
    first true b e = refl
    first false b e = absurd (cc)

    within : is_member nat_lt (slot + 256 * count) (covered_slots c ends alone) ≡ true → nat_lt slot (slots (blocks c.cut)) ≡ true
    within e =
        let there = ltb-true (slot + 256 * count) (slots (blocks c.cut)) (first _ _ (sym (covered_is c ends alone (slot + 256 * count)) ∙ e)) in
        lt-ltb slot (slots (blocks c.cut)) (omega (arith, there))

    go : (l m z : Bool) → (m ≡ true → l ≡ true) → (l && ((m && z) || false)) ≡ (m && z)
    go true true true within = refl
    go true true false within = refl
    go true false z within = refl
    go false true z within = absurd (let e = within refl in cc)
    go false false z within = refl

-- Where all closed source symbols are among slots, they stay among them as more join, and as a run of all joined.
or_true : (a b : Bool) → a ≡ true → (a || b) ≡ true
or_true true b e = refl
or_true false b e = absurd (cc)

pub sources_stay : (c : Shape) (old new : List ℕ) (more : ℕ → Bool) → ((slot : ℕ) → is_member nat_lt slot new ≡ (is_member nat_lt slot old || more slot))
    → HasSources c old → HasSources c new
sources_stay c old new more joined all slot source = joined slot ∙ or_true (is_member nat_lt slot old) (more slot) (all slot source)

pub with_stays : (c : Shape) (slots : List ℕ) (x : ℕ) → HasSources c slots → HasSources c (with_member nat_lt x slots)
with_stays c slots x = sources_stay c slots (with_member nat_lt x slots) (λ slot. slot == x) (λ slot. with_puts slot x slots)

true_or : (a b : Bool) → b ≡ true → (a || b) ≡ true
true_or true b e = refl
true_or false b e = e

both_true : (a b : Bool) → a ≡ true → b ≡ true → (a && b) ≡ true
both_true true b e f = f
both_true false b e f = absurd (cc)

-- a closed source symbol lies before the slots behind the room
source_in_room : (c : Shape) (room slot : ℕ) → ((block : ℕ) → room ≤ block → closed_in c block ≡ 0) → is_source_slot c slot ≡ true → in_run 1 (slots room) slot ≡ true
source_in_room c room zero behind source = absurd (cc)
source_in_room c room (suc n) behind source = go (cases_lt (n / 256) room)
  where
    some : (a b : Bool) → (a && b) ≡ true → b ≡ true
    some true b e = e
    some false b e = absurd (cc)

    go : (n / 256 < room) ⊎ (room ≤ n / 256) → in_run 1 (slots room) (suc n) ≡ true
    go (inl lt) = both_true _ _ (ap not (le-ltb (suc n) 1 (omega arith))) (lt-ltb (suc n) (slots room) (omega (arith, lt, div-add-mod n 256)))
    go (inr past) =
        absurd (let less = ltb-true (n % 256) (closed_in c (n / 256)) (some (nat_lt (n / 256) (blocks c.cut)) _ source) in
        let none = behind (n / 256) past in omega (arith, less, none))

pub sources_joined : (c : Shape) (old new : List ℕ) (room from to : ℕ) → ((block : ℕ) → room ≤ block → closed_in c block ≡ 0) → from ≤ 1 → slots room ≤ to
    → ((slot : ℕ) → is_member nat_lt slot new ≡ (is_member nat_lt slot old || (is_source_slot c slot && in_run from to slot))) → HasSources c new
sources_joined c old new room from to behind low high joined slot source =
    joined slot
    ∙ true_or (is_member nat_lt slot old) _ (both_true _ _ source (wider slot (source_in_room c room slot behind source)))
  where
    wider : (slot : ℕ) → in_run 1 (slots room) slot ≡ true → in_run from to slot ≡ true
    wider slot e = grind (arith, nat_tests)
