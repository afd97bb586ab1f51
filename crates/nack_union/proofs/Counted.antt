-- The repairs of counted blocks, by slots and by the rules.
use Rattle.std.proofs.Common.{◌≡◌, ℕ, zero, suc, ◌+◌, ◌-◌, ◌*◌, ◌<◌, ◌≤◌, ◌⊎◌, inl, inr, List, [], ◌∷◌, ◌++◌, map, length, get_or, take, Bool, true, false, refl, sym, ap, subst, ◌∙◌, cond, arith, Option, Some, None}
use Rattle.std.specs.Prelude.{nat_lt, nat_le, not, filter, min, ◌&&◌, ◌==◌}
use Rattle.std.specs.List.{range_with_len, AllByRecursion}
use Rattle.std.proofs.Math.Nat.{mul-le-mul_right}
use Rattle.std.proofs.lemmas.Bool.{cases_lt, lt-leb, le-leb}
use Rattle.std.proofs.lemmas.List.{map-append, length-map, take-map}
use Rattle.fec_plan.specs.Partition.{Cut, IsSound, blocks, source_symbols, encoding_symbols, all_symbols, symbol_number}
use Rattle.fec_plan.specs.Points.{Point, point, position, position_before}
use Rattle.fec_plan.specs.declared.position.Position.{Position}
use Rattle.norm_order.specs.Sets.{is_member}
use Rattle.norm_order.specs.Shapes.{Shape, closed_in, encoded_in}
use Rattle.norm_send_rules.specs.SenderState.{SenderState}
use Rattle.norm_send_rules.specs.Closing.{repairs, fresh_parity, block_wants}
use Rattle.norm_send_rules.specs.declared.want.Want.{Want}
use Rattle.norm_send_rules.specs.declared.want.Want.TheVariants.{Symbol}
use Rattle.fec_plan.proofs.PartitionLemmas.{sources_within, sources_fit}
use Rattle.nack_union.specs.Slots.{want_at, symbol_slot}
use Rattle.nack_union.specs.Repairs.{fresh_parities, repair_slots, counted_slots}
use Rattle.nack_union.specs.Kept.{Marked, shape_of_marked, symbols_of_marked, listed, IsCounted, IsRepairable}
use Rattle.nack_union.specs.Rounds.{counted_of, asked_from}
use Rattle.nack_union.proofs.Orders.{symbol_at}
use Rattle.nack_union.proofs.Closings.{asked_slots}

-- the slots of an object hold what a state has sent of it
abbrev pub HasSent : SenderState → ℕ → Marked → Type 0
HasSent s index m = (block symbol : ℕ) → m.first ≤ block → symbol < 256 → is_member nat_lt (symbol_slot block symbol) m.sent ≡ is_member position_before (position index block symbol) s.sent

-- a block's source symbols lie within the object
pub block_fits : (c : Cut) (block : ℕ) → IsSound c → block < blocks c → symbol_number c block 0 + source_symbols c block ≤ all_symbols c
block_fits c block sound lt = go c.l lt refl
  where
    go : (l : Option ℕ) → block < blocks (record c { l = l }) → c.l ≡ l
        → symbol_number (record c { l = l }) block 0 + source_symbols (record c { l = l }) block ≤ all_symbols (record c { l = l })
    go (Some n) less e = sources_within (record c { l = Some n }) block (subst (λ (l : Option ℕ). IsSound (record c { l = l })) e sound) refl less
    go None less e = let one : (block + 1) * c.b ≤ 16777216 * c.b = mul-le-mul_right c.b (omega arith) in omega (arith, one)

-- a block has no more encoded symbols than it may have
pub encoded_fits : (s : Shape) (block : ℕ) → IsSound s.cut → encoded_in s block ≤ encoding_symbols s.cut block
encoded_fits s block sound = go (closed_in s block == source_symbols s.cut block)
  where
    go : (b : Bool) → (elim b as (λ _. ℕ) [ true ↦ encoding_symbols s.cut block | false ↦ closed_in s block ]) ≤ encoding_symbols s.cut block
    go true = omega arith
    go false = let fit = sources_fit s.cut block sound in omega (arith, fit)

-- a filter of a range, where a test asks for numbers from one on
pub same_within : (p q : ℕ → Bool) (a n : ℕ) → ((i : ℕ) → a ≤ i → i < a + n → q i ≡ p i) → filter q (range_with_len a n) ≡ filter p (range_with_len a n)
same_within p q a zero same = refl
same_within p q a (suc n) same =
    ap (λ b. cond b (a ∷ filter q (range_with_len (a + 1) n)) (filter q (range_with_len (a + 1) n))) (same a (omega arith) (omega arith))
    ∙ ap (λ xs. cond (p a) (a ∷ xs) xs) (same_within p q (a + 1) n (λ i le lt. same i (omega arith) (omega arith)))

and_true : (b c : Bool) → b ≡ true → (b && c) ≡ c
and_true true c e = refl
and_true false c e = absurd (cc)

and_false : (b c : Bool) → b ≡ false → (b && c) ≡ false
and_false true c e = absurd (cc)
and_false false c e = refl

from_on : (t : ℕ → Bool) (k a n : ℕ) → a ≤ k → filter (λ x. nat_le k x && t x) (range_with_len a n) ≡ filter t (range_with_len k ((a + n) - k))
from_on t k a zero le = ap (λ c. filter t (range_with_len k c)) (let e : 0 ≡ (a + 0) - k = omega arith in e)
from_on t k a (suc n) le = go (cases_lt a k) (λ lt. from_on t k (a + 1) n (omega arith))
  where
    go : (a < k) ⊎ (k ≤ a) → (a < k → filter (λ x. nat_le k x && t x) (range_with_len (a + 1) n) ≡ filter t (range_with_len k ((a + 1 + n) - k)))
        → filter (λ x. nat_le k x && t x) (range_with_len a (suc n)) ≡ filter t (range_with_len k ((a + suc n) - k))
    go (inl lt) rest =
        ap (λ b. cond b (a ∷ filter (λ x. nat_le k x && t x) (range_with_len (a + 1) n)) (filter (λ x. nat_le k x && t x) (range_with_len (a + 1) n)))
        (and_false (nat_le k a) (t a) (lt-leb k a lt))
        ∙ rest lt
        ∙ ap (λ c. filter t (range_with_len k c)) (let e : (a + 1 + n) - k ≡ (a + suc n) - k = omega arith in e)
    go (inr ge) rest =
        same_within t (λ x. nat_le k x && t x) a (suc n) (λ i above under. and_true (nat_le k i) (t i) (le-leb k i (omega arith)))
        ∙ ap (λ j. filter t (range_with_len j (suc n))) (let e : a ≡ k = omega arith in e)
        ∙ ap (λ c. filter t (range_with_len k c)) (let e : suc n ≡ (a + suc n) - k = omega arith in e)

filter_over : (f : ℕ → Position) (q : Position → Bool) (xs : List ℕ) → filter q (map f xs) ≡ map f (filter (λ x. q (f x)) xs)
filter_over f q [] = refl
filter_over f q (x ∷ xs) = go (q (f x)) (filter_over f q xs)
  where
    go : (b : Bool) → filter q (map f xs) ≡ map f (filter (λ x. q (f x)) xs)
        → cond b (f x ∷ filter q (map f xs)) (filter q (map f xs)) ≡ map f (cond b (x ∷ filter (λ x. q (f x)) xs) (filter (λ x. q (f x)) xs))
    go true rest = ap (λ ys. f x ∷ ys) rest
    go false rest = rest

-- the fresh parity symbols of a block are those that its slots say
fresh_are : (s : SenderState) (index : ℕ) (m : Marked) (block : ℕ) → m.first ≤ block → HasSent s index m → encoded_in (symbols_of_marked m) block ≤ 255
    → fresh_parity s (point index block) (shape_of_marked m) ≡ map (position index block) (fresh_parities (symbols_of_marked m) m.sent block)
fresh_are s index m block from has few =
    filter_over (position index block) (λ symbol. nat_le (source_symbols m.cut block) symbol.symbol && not (is_member position_before symbol s.sent)) (range_with_len 0 (encoded_in (symbols_of_marked m) block))
    ∙ ap (map (position index block))
    (from_on (λ x. not (is_member position_before (position index block x) s.sent)) (source_symbols m.cut block) 0 (encoded_in (symbols_of_marked m) block) (omega arith)
    ∙ ap (λ c. filter (λ x. not (is_member position_before (position index block x) s.sent)) (range_with_len (source_symbols m.cut block) c))
    (less (encoded_in (symbols_of_marked m) block) (source_symbols m.cut block))
    ∙ sym (same_within (λ x. not (is_member position_before (position index block x) s.sent)) (λ x. not (is_member nat_lt (symbol_slot block x) m.sent)) (source_symbols m.cut block) (encoded_in (symbols_of_marked m) block - source_symbols m.cut block)
    (λ i above under. ap not (has block i from (id_fits i (source_symbols m.cut block) (encoded_in (symbols_of_marked m) block) few above under)))))
  where
    less : (n k : ℕ) → (0 + n) - k ≡ n - k
    less n k = omega arith

    id_fits : (i k n : ℕ) → n ≤ 255 → k ≤ i → i < k + (n - k) → i < 256
    id_fits i k n few above under = omega arith

-- Ids of 8 bits.

pub ids_take : (n : ℕ) (xs : List ℕ) → AllByRecursion (λ x. x < 256) xs → AllByRecursion (λ x. x < 256) (take n xs)
ids_take zero xs all = tt
ids_take (suc n) [] all = tt
ids_take (suc n) (x ∷ xs) all = (all.0, ids_take n xs all.1)

pub ids_filter : (t : ℕ → Bool) (a n : ℕ) → a + n ≤ 256 → AllByRecursion (λ x. x < 256) (filter t (range_with_len a n))
ids_filter t a zero le = tt
ids_filter t a (suc n) le = go (t a) (ids_filter t (a + 1) n (omega arith))
  where
    go : (b : Bool) → AllByRecursion (λ x. x < 256) (filter t (range_with_len (a + 1) n))
        → AllByRecursion (λ x. x < 256) (cond b (a ∷ filter t (range_with_len (a + 1) n)) (filter t (range_with_len (a + 1) n)))
    go true rest = (omega arith, rest)
    go false rest = rest

pub ids_range : (a n : ℕ) → a + n ≤ 256 → AllByRecursion (λ x. x < 256) (range_with_len a n)
ids_range a zero le = tt
ids_range a (suc n) le = (omega arith, ids_range (a + 1) n (omega arith))

-- the symbols at slots of a block
symbols_are : (index block : ℕ) (xs : List ℕ) → AllByRecursion (λ x. x < 256) xs
    → map (want_at index) (map (symbol_slot block) xs) ≡ map Symbol (map (position index block) xs)
symbols_are index block [] all = refl
symbols_are index block (x ∷ xs) all =
    ap (λ w. w ∷ map (want_at index) (map (symbol_slot block) xs)) (symbol_at index block x all.0)
    ∙ ap (λ ws. Symbol (position index block x) ∷ ws) (symbols_are index block xs all.1)

-- the repairs of a counted block are those that its slots say
repairs_are : (s : SenderState) (index : ℕ) (m : Marked) (block count : ℕ) → m.first ≤ block → HasSent s index m → IsSound m.cut → encoding_symbols m.cut block ≤ 255
    → map (want_at index) (repair_slots (symbols_of_marked m) m.sent block count) ≡ repairs s (point index block) (shape_of_marked m) count
repairs_are s index m block count from has sound few =
    go (nat_le count (length fresh))
    ∙ ap (λ n. elim (nat_le count n) as (λ _. List Want) [ true ↦ map Symbol (take count (map (position index block) fresh)) | false ↦ block_wants (point index block) (shape_of_marked m) ]) (sym (length-map fresh (position index block)))
    ∙ ap (λ xs. elim (nat_le count (length xs)) as (λ _. List Want) [ true ↦ map Symbol (take count xs) | false ↦ block_wants (point index block) (shape_of_marked m) ]) (sym (fresh_are s index m block from has most))
  where
    fresh : List ℕ
    fresh = fresh_parities (symbols_of_marked m) m.sent block

    most : encoded_in (symbols_of_marked m) block ≤ 255
    most = at_most (encoded_in (symbols_of_marked m) block) (encoding_symbols m.cut block) (encoded_fits (symbols_of_marked m) block sound) few
      where
        at_most : (n k : ℕ) → n ≤ k → k ≤ 255 → n ≤ 255
        at_most n k le few = omega arith

    sources : source_symbols m.cut block ≤ 255
    sources = let fit = sources_fit m.cut block sound in omega (arith, few, fit)

    within : source_symbols m.cut block + (encoded_in (symbols_of_marked m) block - source_symbols m.cut block) ≤ 256
    within = both (source_symbols m.cut block) (encoded_in (symbols_of_marked m) block) sources most
      where
        both : (k n : ℕ) → k ≤ 255 → n ≤ 255 → k + (n - k) ≤ 256
        both k n a b = omega arith

    closed : 0 + closed_in (symbols_of_marked m) block ≤ 256
    closed = by (source_symbols m.cut block) (m.closed - symbol_number m.cut block 0) sources
      where
        by : (k n : ℕ) → k ≤ 255 → 0 + min k n ≤ 256
        by k n le = omega arith

    go : (b : Bool)
        → map (want_at index) (map (symbol_slot block) (elim b [ true ↦ take count fresh | false ↦ range_with_len 0 (closed_in (symbols_of_marked m) block) ]))
        ≡ elim b as (λ _. List Want) [ true ↦ map Symbol (take count (map (position index block) fresh)) | false ↦ block_wants (point index block) (shape_of_marked m) ]
    go true =
        symbols_are index block (take count fresh) (ids_take count fresh (ids_filter (λ x. not (is_member nat_lt (symbol_slot block x) m.sent)) (source_symbols m.cut block) (encoded_in (symbols_of_marked m) block - source_symbols m.cut block) within))
        ∙ ap (map Symbol) (sym (take-map (position index block) count fresh))
    go false = symbols_are index block (range_with_len 0 (closed_in (symbols_of_marked m) block)) (ids_range 0 (closed_in (symbols_of_marked m) block) closed)

-- a count of 0 asks for nothing
pub none_asked : (s : SenderState) (at : Point) (shape : Shape) (count : ℕ) → count ≡ 0 → repairs s at shape count ≡ []
none_asked s at shape count e =
    ap (repairs s at shape) e ∙ there (nat_le 0 (length (fresh_parity s at shape))) (le-leb 0 (length (fresh_parity s at shape)) (omega arith))
  where
    there : (b : Bool) → b ≡ true → elim b as (λ _. List Want) [ true ↦ [] | false ↦ block_wants at shape ] ≡ []
    there true f = refl
    there false f = absurd (cc)

none_repaired : (s : SenderState) (index : ℕ) (m : Marked) (block count : ℕ) → count ≡ 0
    → map (want_at index) (repair_slots (symbols_of_marked m) m.sent block count) ≡ repairs s (point index block) (shape_of_marked m) count
none_repaired s index m block count e =
    ap (λ n. map (want_at index) (repair_slots (symbols_of_marked m) m.sent block n)) e
    ∙ here (nat_le 0 (length (fresh_parities (symbols_of_marked m) m.sent block))) (le-leb 0 (length (fresh_parities (symbols_of_marked m) m.sent block)) (omega arith))
    ∙ sym (none_asked s (point index block) (shape_of_marked m) count e)
  where
    here : (b : Bool) → b ≡ true
        → map (want_at index) (map (symbol_slot block) (elim b [ true ↦ [] | false ↦ range_with_len 0 (closed_in (symbols_of_marked m) block) ])) ≡ []
    here true f = refl
    here false f = absurd (cc)

-- those of the counted blocks from one on
counted_are : (s : SenderState) (index : ℕ) (m : Marked) → HasSent s index m → (block : ℕ) (counts : List ℕ)
    → ((j : ℕ) → 0 < get_or counts j 0 → (m.first ≤ block + j) × IsRepairable m.cut (block + j))
    → map (want_at index) (counted_slots (symbols_of_marked m) m.sent block counts) ≡ counted_of s index m block counts
counted_are s index m has block [] repairable = refl
counted_are s index m has block (c ∷ counts) repairable =
    map-append (want_at index) (repair_slots (symbols_of_marked m) m.sent block (min c (source_symbols m.cut block))) (counted_slots (symbols_of_marked m) m.sent (suc block) counts)
    ∙ ap (λ ws. ws ++ map (want_at index) (counted_slots (symbols_of_marked m) m.sent (suc block) counts)) (go (cases_lt 0 c))
    ∙ ap (λ ws. repairs s (point index block) (shape_of_marked m) (min c (source_symbols m.cut block)) ++ ws)
    (counted_are s index m has (suc block) counts (λ j some. subst (λ n. (m.first ≤ n) × IsRepairable m.cut n) (let e : block + suc j ≡ suc block + j = omega arith in e) (repairable (suc j) some)))
  where
    go : (0 < c) ⊎ (c ≤ 0) → map (want_at index) (repair_slots (symbols_of_marked m) m.sent block (min c (source_symbols m.cut block))) ≡ repairs s (point index block) (shape_of_marked m) (min c (source_symbols m.cut block))
    go (inl some) =
        let this : (m.first ≤ block) × IsRepairable m.cut block = subst (λ n. (m.first ≤ n) × IsRepairable m.cut n) (let e : block + 0 ≡ block = omega arith in e) (repairable 0 some) in
        repairs_are s index m block (min c (source_symbols m.cut block)) this.0 has this.1.sound this.1.named
    go (inr none) = none_repaired s index m block (min c (source_symbols m.cut block)) (omega (arith, none))

-- what the slots of all objects ask for is what the round asks for
pub asked_are : (s : SenderState) (index : ℕ) (ms : List Marked) (d : Marked) → ((k : ℕ) → k < length ms → HasSent s (index + k) (get_or ms k d)) → AllByRecursion IsCounted ms
    → listed asked_slots index ms ≡ asked_from s index ms
asked_are s index [] d has all = refl
asked_are s index (m ∷ ms) d has all =
    ap (λ ws. ws ++ listed asked_slots (suc index) ms)
    (map-append (want_at index) m.asked (counted_slots (symbols_of_marked m) m.sent 0 m.counts)
    ∙ ap (λ ws. map (want_at index) m.asked ++ ws) (counted_are s index m (subst (λ i. HasSent s i m) (let e : index + 0 ≡ index = omega arith in e) (has 0 (omega arith))) 0 m.counts (λ j some. subst (λ n. (m.first ≤ n) × IsRepairable m.cut n) (let e : j ≡ 0 + j = omega arith in e) (all.0 j some))))
    ∙ ap (λ ws. (map (want_at index) m.asked ++ counted_of s index m 0 m.counts) ++ ws)
    (asked_are s (suc index) ms d (λ k lt. subst (λ i. HasSent s i (get_or ms k d)) (let e : index + suc k ≡ suc index + k = omega arith in e) (has (suc k) (omega arith))) all.1)
