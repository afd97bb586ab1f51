-- Where the blocks of an object lie among its places.
use Rattle.std.proofs.Common.{◌≡◌, ℕ, zero, suc, ◌+◌, ◌-◌, ◌*◌, ◌<◌, ◌≤◌, Bool, true, false, refl, sym, ap, ◌∙◌, arith, Option, Some, None}
use Rattle.std.specs.Prelude.{min, is_some, if◌then◌else◌}
use Rattle.std.proofs.Math.Nat.{min-le_left}
use Rattle.std.proofs.lemmas.Grind.{div_ceil_times}
use Rattle.fec_plan.specs.Partition.{Cut, IsSound, symbols_in, blocks_in, blocks, source_symbols, all_symbols, sent_octets}
use Rattle.fec_plan.proofs.CutLemmas.{some_blocks}
use Rattle.fec_plan.proofs.CoverLemmas.{before_step, all_before, none_before, blocks_are_even_law}
use Rattle.rx_object.specs.Rows.{start_of, end_of}

pub start_none : (c : Cut) → is_some c.l ≡ true → start_of c 0 ≡ 0
start_none c object = go c.l object
  where
    go : (l : Option ℕ) → is_some l ≡ true → start_of (record { l = l; e = c.e; b = c.b; max_n = c.max_n }) 0 ≡ 0
    go (Some l) some = let none = none_before (symbols_in l c.e) (blocks_in (symbols_in l c.e) c.b) in omega (arith, none)
    go None some = absurd (cc some)

pub start_next : (c : Cut) (block : ℕ) → is_some c.l ≡ true → start_of c (block + 1) ≡ end_of c block
start_next c block object = go c.l object
  where
    go : (l : Option ℕ) → is_some l ≡ true → start_of (record { l = l; e = c.e; b = c.b; max_n = c.max_n }) (block + 1) ≡ end_of (record { l = l; e = c.e; b = c.b; max_n = c.max_n }) block
    go (Some l) some = let step = before_step (symbols_in l c.e) (blocks_in (symbols_in l c.e) c.b) block in omega (arith, step)
    go None some = absurd (cc some)

pub start_all : (c : Cut) → IsSound c → is_some c.l ≡ true → start_of c (blocks c) ≡ all_symbols c
start_all c sound object = go c.l object sound.some
  where
    go : (l : Option ℕ) → is_some l ≡ true → 0 < all_symbols (record { l = l; e = c.e; b = c.b; max_n = c.max_n })
        → start_of (record { l = l; e = c.e; b = c.b; max_n = c.max_n }) (blocks (record { l = l; e = c.e; b = c.b; max_n = c.max_n })) ≡ all_symbols (record { l = l; e = c.e; b = c.b; max_n = c.max_n })
    go (Some l) some most =
        let whole = all_before (symbols_in l c.e) (blocks_in (symbols_in l c.e) c.b) (some_blocks (symbols_in l c.e) c.b most sound.least_b) in
        omega (arith, whole)
    go None some most = absurd (cc some)

start_later : (c : Cut) (block d : ℕ) → is_some c.l ≡ true → end_of c block ≤ start_of c (block + 1 + d)
start_later c block zero object = let e = start_next c block object in let f = ap (start_of c) (let z : block + 1 + 0 ≡ block + 1 = omega arith in z) in omega (arith, e, f)
start_later c block (suc d) object =
    let more = start_later c block d object in
    let e = start_next c (block + 1 + d) object in
    let f = ap (start_of c) (let z : block + 1 + suc d ≡ block + 1 + d + 1 = omega arith in z) in
    omega (arith, more, e, f)

-- a block ends where a later one starts, or before
pub ends_before : (c : Cut) (block other : ℕ) → is_some c.l ≡ true → block < other → end_of c block ≤ start_of c other
ends_before c block other object lt =
    let more = start_later c block (other - (block + 1)) object in
    let f = ap (start_of c) (let z : block + 1 + (other - (block + 1)) ≡ other = omega (arith, lt) in z) in
    omega (arith, more, f)

-- a block lies within the object
pub ends_within : (c : Cut) (block : ℕ) → IsSound c → is_some c.l ≡ true → block < blocks c → end_of c block ≤ all_symbols c
ends_within c block sound object lt = let e = ends_before c block (blocks c) object lt in let f = start_all c sound object in omega (arith, e, f)

pub last_ends : (c : Cut) → IsSound c → is_some c.l ≡ true → 0 < blocks c → end_of c (blocks c - 1) ≡ all_symbols c
last_ends c sound object some =
    sym (start_next c (blocks c - 1) object) ∙ ap (start_of c) (let z : blocks c - 1 + 1 ≡ blocks c = omega (arith, some) in z) ∙ start_all c sound object

pub some_blocks_of : (c : Cut) → IsSound c → 0 < blocks c
some_blocks_of c sound = go c.l sound.some
  where
    go : (l : Option ℕ) → 0 < all_symbols (record { l = l; e = c.e; b = c.b; max_n = c.max_n }) → 0 < blocks (record { l = l; e = c.e; b = c.b; max_n = c.max_n })
    go (Some n) some = some_blocks (symbols_in n c.e) c.b some sound.least_b
    go None some = omega arith

pub some_sources : (c : Cut) (block : ℕ) → IsSound c → is_some c.l ≡ true → 1 ≤ source_symbols c block
some_sources c block sound object = go c.l sound object
  where
    go : (l : Option ℕ) → IsSound (record { l = l; e = c.e; b = c.b; max_n = c.max_n }) → is_some l ≡ true → 1 ≤ source_symbols (record { l = l; e = c.e; b = c.b; max_n = c.max_n }) block
    go (Some l) s some = (blocks_are_even_law l c.e c.b c.max_n s block).0
    go None s some = absurd (cc some)

pub few_sources : (c : Cut) (block : ℕ) → IsSound c → is_some c.l ≡ true → source_symbols c block ≤ c.b
few_sources c block sound object = go c.l sound object
  where
    go : (l : Option ℕ) → IsSound (record { l = l; e = c.e; b = c.b; max_n = c.max_n }) → is_some l ≡ true → source_symbols (record { l = l; e = c.e; b = c.b; max_n = c.max_n }) block ≤ c.b
    go (Some l) s some = (blocks_are_even_law l c.e c.b c.max_n s block).1
    go None s some = absurd (cc some)

-- the octets of all places
pub few_octets : (c : Cut) → IsSound c → is_some c.l ≡ true → ((l : ℕ) → c.l ≡ Some l → l ≤ 16777216) → all_symbols c * c.e ≤ 16778616
few_octets c sound object most = go c.l object most
  where
    go : (l : Option ℕ) → is_some l ≡ true → ((n : ℕ) → l ≡ Some n → n ≤ 16777216) → all_symbols (record { l = l; e = c.e; b = c.b; max_n = c.max_n }) * c.e ≤ 16778616
    go (Some l) some most =
        let up = (div_ceil_times l c.e (omega (arith, sound.least_e))).1 in
        let few = most l refl in
        omega (arith, up, few, sound.most_e)
    go None some most = absurd (cc some)

-- a symbol of an object is sent with no more octets than e
pub sent_most : (c : Cut) (block symbol : ℕ) → is_some c.l ≡ true → sent_octets c block symbol ≤ c.e
sent_most c block symbol object = go c.l object
  where
    by : (test : Bool) (n : ℕ) → (if test then min c.e n else c.e) ≤ c.e
    by true n = min-le_left c.e n
    by false n = omega arith

    go : (l : Option ℕ) → is_some l ≡ true → sent_octets (record { l = l; e = c.e; b = c.b; max_n = c.max_n }) block symbol ≤ c.e
    go (Some n) o = by _ _
    go None o = absurd (cc o)
