-- The numbers of an object: which of its blocks have closed symbols, and how many.
use Rattle.std.proofs.Common.{◌≡◌, ℕ, ◌+◌, ◌-◌, ◌*◌, ◌/◌, ◌%◌, ◌<◌, ◌≤◌, ◌⊎◌, inl, inr, Bool, true, false, refl, sym, ap, ◌∙◌, length, arith, Option, Some, None}
use Rattle.std.specs.Prelude.{nat_lt, min, ◌==◌, if◌then◌else◌}
use Rattle.std.proofs.Math.Nat.{mul-le-mul_right, lt_of_mul-lt-mul_right, div-mul-le_self}
use Rattle.std.proofs.lemmas.Nat.{div-add-mod', le-div}
use Rattle.std.proofs.lemmas.Bool.{cases_lt, le-ltb}
use Rattle.std.proofs.lemmas.Bool.Decides.{Decides-eqb, nat_tests}
use Rattle.std.proofs.lemmas.Grind.{div_ceil_times}
use Rattle.fec_plan.specs.Partition.{Cut, IsSound, symbols_in, blocks_in, large_block, small_block, larger_blocks, block_size, symbols_before, blocks, source_symbols, encoding_symbols, all_symbols, symbol_number}
use Rattle.fec_plan.proofs.CutLemmas.{some_blocks, large_most}
use Rattle.norm_order.specs.Shapes.{closed_in, encoded_in, is_full, closed_blocks}
use Rattle.nack_union.specs.Repairs.{shape_closed}
use Rattle.fec_plan.proofs.PartitionLemmas.{some_sources}
use Rattle.nack_union.specs.Slots.{slots, symbol_slot}
use Rattle.nack_union.specs.Kept.{Marked, shape_of_marked}
use Rattle.nack_union.specs.Adding.{IsPlanned}
use Rattle.nack_union.proofs.Counted.{block_fits}

-- all blocks together have all symbols
to_end : (a r n rest t large : ℕ) → a * n + r ≡ t → n ≤ r + rest → large ≡ a + min 1 r → t ≤ r * large + rest * a
to_end a r n rest t large is le large-is = go (cases_lt 0 r)
  where
    all : n * a ≤ (r + rest) * a
    all = mul-le-mul_right a le

    go : (0 < r) ⊎ (r ≤ 0) → t ≤ r * large + rest * a
    go (inl some) = let two = ap (λ x. r * x) (let m : large ≡ a + 1 = omega (arith, large-is, some) in m) in omega (arith, is, all, two)
    go (inr none) =
        let zero-is : r ≡ 0 = omega (arith, none) in
        let two : (r + rest) * a ≡ (0 + rest) * a = ap (λ x. (x + rest) * a) zero-is in
        omega (arith, is, all, two, zero-is)

larger_is : (t n : ℕ) → larger_blocks t n ≡ t % n
larger_is t n = omega (arith, div-add-mod' t n)

-- behind the last block lies no symbol
behind_all : (t n block : ℕ) → 0 < n → n ≤ block → t ≤ symbols_before t n block
behind_all t n block some le =
    let few = larger_is t n in
    let one = ap (λ x. x * large_block t n) (let m : min block (larger_blocks t n) ≡ larger_blocks t n = omega (arith, few, le, some) in m) in
    let all = to_end (t / n) (larger_blocks t n) n (block - larger_blocks t n) t (large_block t n) (omega (arith, div-add-mod' t n)) (omega (arith, le)) (ap (λ r. t / n + min 1 r) (sym few)) in
    omega (arith, one, all)

-- the last block ends an object
last_whole : (t n : ℕ) → 0 < n → t ≤ symbols_before t n (n - 1) + block_size t n (n - 1)
last_whole t n some = with_rest (n - 1 - larger_blocks t n) refl (nat_lt (n - 1) (larger_blocks t n)) (le-ltb (n - 1) (larger_blocks t n) (omega (arith, few, some)))
  where
    few : larger_blocks t n ≡ t % n
    few = larger_is t n

    with_rest : (rest : ℕ) → n - 1 - larger_blocks t n ≡ rest → (test : Bool) → test ≡ false
        → t ≤ min (n - 1) (larger_blocks t n) * large_block t n + (n - 1 - larger_blocks t n) * small_block t n + (if test then large_block t n else small_block t n)
    with_rest rest is true e = absurd (cc)
    with_rest rest is false e =
        let one = ap (λ x. x * large_block t n) (let m : min (n - 1) (larger_blocks t n) ≡ larger_blocks t n = omega (arith, few, some) in m) in
        let two = ap (λ x. x * small_block t n) is in
        let all = to_end (t / n) (larger_blocks t n) n (rest + 1) t (large_block t n) (omega (arith, div-add-mod' t n)) (omega (arith, is)) (ap (λ r. t / n + min 1 r) (sym few)) in
        omega (arith, one, two, all)

-- of a cut
past_all : (c : Cut) (block : ℕ) → IsSound c → blocks c ≤ block → all_symbols c ≤ symbol_number c block 0
past_all c block sound past = go c.l sound.some past
  where
    go : (l : Option ℕ) → 0 < all_symbols (record c { l = l }) → blocks (record c { l = l }) ≤ block → all_symbols (record c { l = l }) ≤ symbol_number (record c { l = l }) block 0
    go (Some n) some le = let all = behind_all (symbols_in n c.e) (blocks_in (symbols_in n c.e) c.b) block (some_blocks (symbols_in n c.e) c.b some sound.least_b) le in omega (arith, all)
    go None some le = let all : 16777216 * c.b ≤ block * c.b = mul-le-mul_right c.b le in omega (arith, all)

pub last_ends : (c : Cut) → IsSound c → all_symbols c ≤ symbol_number c (blocks c - 1) 0 + source_symbols c (blocks c - 1)
last_ends c sound = go c.l sound.some
  where
    go : (l : Option ℕ) → 0 < all_symbols (record c { l = l })
        → all_symbols (record c { l = l }) ≤ symbol_number (record c { l = l }) (blocks (record c { l = l }) - 1) 0 + source_symbols (record c { l = l }) (blocks (record c { l = l }) - 1)
    go (Some n) some = let all = last_whole (symbols_in n c.e) (blocks_in (symbols_in n c.e) c.b) (some_blocks (symbols_in n c.e) c.b some sound.least_b) in omega (arith, all)
    go None some = omega arith

-- a block of which something is closed is among those that have closed symbols
pub in_closed : (m : Marked) (block : ℕ) → IsSound m.cut → block < blocks m.cut → 0 < closed_in (shape_of_marked m) block → block < closed_blocks (shape_of_marked m)
in_closed m block sound lt some = go m.cut.l lt some
  where
    go : (l : Option ℕ) → block < blocks (record (m.cut) { l = l })
        → 0 < min (source_symbols (record (m.cut) { l = l }) block) (m.closed - symbol_number (record (m.cut) { l = l }) block 0)
        → block < closed_blocks (record { cut = record (m.cut) { l = l }; closed = m.closed; info = m.info })
    go (Some n) less more = less
    go None less more =
        let up = (div_ceil_times m.closed m.cut.b sound.least_b).0 in
        lt_of_mul-lt-mul_right m.cut.b (omega (arith, up, more))

-- a block that the object has not has no symbols
pub past_closed : (c : Cut) (closed block : ℕ) → IsSound c → closed ≤ all_symbols c → blocks c ≤ block → closed_in (shape_closed c closed) block ≡ 0
past_closed c closed block sound few past = none (source_symbols c block) closed (all_symbols c) (symbol_number c block 0) few (past_all c block sound past)
  where
    none : (size closed all first : ℕ) → closed ≤ all → all ≤ first → min size (closed - first) ≡ 0
    none size closed all first few le = omega arith

pub closed_past : (m : Marked) (block : ℕ) → IsPlanned m → blocks m.cut ≤ block → closed_in (shape_of_marked m) block ≡ 0
closed_past m block plan past = past_closed m.cut m.closed block plan.sound plan.closed past

-- one of which nothing is closed has no encoded symbols
pub encoded_none : (m : Marked) (block : ℕ) → IsSound m.cut → closed_in (shape_of_marked m) block ≡ 0 → encoded_in (shape_of_marked m) block ≡ 0
encoded_none m block sound none = go (closed_in (shape_of_marked m) block == source_symbols m.cut block) refl
  where
    go : (b : Bool) → (closed_in (shape_of_marked m) block == source_symbols m.cut block) ≡ b
        → (elim b as (λ _. ℕ) [ true ↦ encoding_symbols m.cut block | false ↦ closed_in (shape_of_marked m) block ]) ≡ 0
    go true e =
        let same = (Decides-eqb (closed_in (shape_of_marked m) block) (source_symbols m.cut block)).0 e in
        let some = some_sources m.cut block sound in
        absurd (omega (arith, none, same, some))
    go false e = none

pub encoded_past : (m : Marked) (block : ℕ) → IsPlanned m → blocks m.cut ≤ block → encoded_in (shape_of_marked m) block ≡ 0
encoded_past m block plan past = encoded_none m block plan.sound (closed_past m block plan past)

-- no block has more source symbols than it may
pub sources_most : (c : Cut) (block : ℕ) → IsSound c → source_symbols c block ≤ c.b
sources_most c block sound = go c.l sound.some
  where
    by : (t n : ℕ) (test : Bool) → large_block t n ≤ c.b → (if test then large_block t n else small_block t n) ≤ c.b
    by t n true le = le
    by t n false le = omega (arith, le)

    go : (l : Option ℕ) → 0 < all_symbols (record c { l = l }) → source_symbols (record c { l = l }) block ≤ c.b
    go (Some n) some =
        by (symbols_in n c.e) (blocks_in (symbols_in n c.e) c.b) (nat_lt block (larger_blocks (symbols_in n c.e) (blocks_in (symbols_in n c.e) c.b)))
        (large_most (symbols_in n c.e) c.b some sound.least_b)
    go None some = omega arith

-- the first block is among the largest
size_most : (b first : Bool) (small large : ℕ) → small ≤ large → (b ≡ true → first ≡ true) → (if b then large else small) ≤ (if first then large else small)
size_most true true small large le before = omega arith
size_most true false small large le before = let e = before refl in absurd (cc)
size_most false true small large le before = le
size_most false false small large le before = omega arith

first_sources : (c : Cut) (block : ℕ) → source_symbols c block ≤ source_symbols c 0
first_sources c block = go c.l
  where
    before : (larger : ℕ) → nat_lt block larger ≡ true → nat_lt 0 larger ≡ true
    before larger e = grind (arith, nat_tests)

    go : (l : Option ℕ) → source_symbols (record c { l = l }) block ≤ source_symbols (record c { l = l }) 0
    go (Some n) =
        size_most (nat_lt block (larger_blocks (symbols_in n c.e) (blocks_in (symbols_in n c.e) c.b))) (nat_lt 0 (larger_blocks (symbols_in n c.e) (blocks_in (symbols_in n c.e) c.b)))
        (small_block (symbols_in n c.e) (blocks_in (symbols_in n c.e) c.b)) (large_block (symbols_in n c.e) (blocks_in (symbols_in n c.e) c.b)) (omega arith)
        (before (larger_blocks (symbols_in n c.e) (blocks_in (symbols_in n c.e) c.b)))
    go None = omega arith

-- a symbol's id has 8 bits, where those of the first block have
pub few_encoded : (c : Cut) (block : ℕ) → IsSound c → encoding_symbols c 0 ≤ 255 → encoding_symbols c block ≤ 255
few_encoded c block sound few =
    let le : source_symbols c block * c.max_n ≤ source_symbols c 0 * c.max_n = mul-le-mul_right c.max_n (first_sources c block) in
    let some : 0 < c.b = let least = sound.least_b in omega (arith, least) in
    let down = div-mul-le_self (source_symbols c block * c.max_n) c.b in
    let most = le-div (encoding_symbols c block) (source_symbols c 0 * c.max_n) c.b some (omega (arith, le, down)) in
    omega (arith, most, few)

-- an encoded symbol has a slot, where blocks of which something is closed have room
pub room_there : (m : Marked) (block symbol : ℕ) → IsSound m.cut → ((block : ℕ) → length m.counts ≤ block → closed_in (shape_of_marked m) block ≡ 0)
    → symbol < encoded_in (shape_of_marked m) block → symbol < 256 → symbol_slot block symbol < slots (length m.counts)
room_there m block symbol sound behind lt named = go (cases_lt block (length m.counts))
  where
    go : (block < length m.counts) ⊎ (length m.counts ≤ block) → symbol_slot block symbol < slots (length m.counts)
    go (inl less) = omega arith
    go (inr past) = absurd (let none = encoded_none m block sound (behind block past) in omega (arith, none))

pub slot_there : (m : Marked) (block symbol : ℕ) → IsPlanned m → symbol < encoded_in (shape_of_marked m) block → symbol < 256 → symbol_slot block symbol < slots (length m.counts)
slot_there m block symbol plan lt named = room_there m block symbol plan.sound plan.counts lt named

-- the blocks before one have no more symbols than as many of the first
number_most : (c : Cut) (block : ℕ) → symbol_number c block 0 ≤ block * source_symbols c 0
number_most c block = go c.l
  where
    by : (larger small large : ℕ) (test : Bool) → nat_lt 0 larger ≡ test → small ≤ large
        → min block larger * large + (block - larger) * small + 0 ≤ block * (if test then large else small)
    by larger small large true e le =
        let rest : small * (block - larger) ≤ large * (block - larger) = mul-le-mul_right (block - larger) le in
        let all = ap (λ x. x * large) (let m : min block larger + (block - larger) ≡ block = omega arith in m) in
        omega (arith, rest, all)
    by larger small large false e le =
        let none : larger ≡ 0 = grind (arith, nat_tests) in
        let one = ap (λ x. x * large) (let m : min block larger ≡ 0 = omega (arith, none) in m) in
        let two = ap (λ x. x * small) (let m : block - larger ≡ block = omega (arith, none) in m) in
        omega (arith, one, two)

    go : (l : Option ℕ) → symbol_number (record c { l = l }) block 0 ≤ block * source_symbols (record c { l = l }) 0
    go (Some n) =
        by (larger_blocks (symbols_in n c.e) (blocks_in (symbols_in n c.e) c.b)) (small_block (symbols_in n c.e) (blocks_in (symbols_in n c.e) c.b)) (large_block (symbols_in n c.e) (blocks_in (symbols_in n c.e) c.b))
        (nat_lt 0 (larger_blocks (symbols_in n c.e) (blocks_in (symbols_in n c.e) c.b))) refl (omega arith)
    go None = omega arith

full_by : (size closed first : ℕ) → first + size ≤ closed → (min size (closed - first) == size) ≡ true
full_by size closed first le = (Decides-eqb (min size (closed - first)) size).1 (let m : min size (closed - first) ≡ size = omega (arith, le) in m)

-- where all symbols are closed, each block is whole
pub all_whole : (c : Cut) (closed block : ℕ) → IsSound c → all_symbols c ≤ closed → block < blocks c → is_full (shape_closed c closed) block ≡ true
all_whole c closed block sound all lt = full_by (source_symbols c block) closed (symbol_number c block 0) (let fits = block_fits c block sound lt in omega (arith, fits, all))

-- and so are as many first blocks as would be if each were as large as the first
pub first_whole : (c : Cut) (closed block : ℕ) → 0 < source_symbols c 0 → block < closed / source_symbols c 0 → is_full (shape_closed c closed) block ≡ true
first_whole c closed block some lt =
    full_by (source_symbols c block) closed (symbol_number c block 0)
    (let number = number_most c block in
    let size = first_sources c block in
    let up : (block + 1) * source_symbols c 0 ≤ closed / source_symbols c 0 * source_symbols c 0 = mul-le-mul_right (source_symbols c 0) (omega (arith, lt)) in
    let down = div-mul-le_self closed (source_symbols c 0) in
    omega (arith, number, size, up, down))

-- a block that is whole stays as it is as more is closed
pub full_grown : (c : Cut) (was now block : ℕ) → was ≤ now → is_full (shape_closed c was) block ≡ true
    → (closed_in (shape_closed c now) block ≡ closed_in (shape_closed c was) block) × (is_full (shape_closed c now) block ≡ true)
full_grown c was now block le full =
    let e : min (source_symbols c block) (was - symbol_number c block 0) ≡ source_symbols c block = (Decides-eqb (closed_in (shape_closed c was) block) (source_symbols c block)).0 full in
    let same : min (source_symbols c block) (now - symbol_number c block 0) ≡ min (source_symbols c block) (was - symbol_number c block 0) = omega (arith, e, le) in
    (same, (Decides-eqb (closed_in (shape_closed c now) block) (source_symbols c block)).1 (same ∙ e))

-- nothing of a stream is closed behind the blocks in which it is closed
pub stream_room : (c : Cut) (closed room block : ℕ) → c.l ≡ None → closed ≤ room * c.b → room ≤ block → closed_in (shape_closed c closed) block ≡ 0
stream_room c closed room block is le past = go c.l is
  where
    go : (l : Option ℕ) → l ≡ None → min (source_symbols (record c { l = l }) block) (closed - symbol_number (record c { l = l }) block 0) ≡ 0
    go (Some n) e = absurd (cc)
    go None e = let up : room * c.b ≤ block * c.b = mul-le-mul_right c.b past in omega (arith, le, up)
