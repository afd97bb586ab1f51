-- The numbers of a sound cut: what its blocks have, and where their symbols lie.
use Rattle.std.proofs.Common.{◌≡◌, ℕ, ◌+◌, ◌-◌, ◌*◌, ◌/◌, ◌%◌, ◌<◌, ◌≤◌, inl, inr, Bool, true, false, refl, sym, ap, ◌∙◌, arith, Option, Some, None}
use Rattle.std.specs.Prelude.{nat_lt, min, if◌then◌else◌, IsSome}
use Rattle.std.proofs.Math.Nat.{mul-le-mul_right, mul-le-mul_left}
use Rattle.std.proofs.lemmas.Nat.{div-add-mod', le-div}
use Rattle.std.proofs.lemmas.Bool.{cases_lt, ltb-true, ltb-false}
use Rattle.std.proofs.lemmas.Grind.{div_ceil_times}
use Rattle.fec_plan.specs.Partition.{Cut, IsSound, symbols_in, blocks_in, large_block, small_block, larger_blocks, block_size, symbols_before, blocks, source_symbols, encoding_symbols, all_symbols, symbol_number, sent_octets}
use Rattle.fec_plan.proofs.CutLemmas.{some_blocks}

-- ---- so many symbols in so many blocks

-- how many blocks are larger
larger_is : (t n : ℕ) → larger_blocks t n ≡ t % n
larger_is t n = omega (arith, div-add-mod' t n)

-- a larger block and all before it
first_blocks : (a r n block : ℕ) → block < r → r < n → block * (a + 1) + (a + 1) ≤ a * n + r
first_blocks a r n block lt few =
    let one : (block + 1) * (a + 1) ≤ r * (a + 1) = mul-le-mul_right (a + 1) (omega arith) in
    let two : a * r ≤ a * n = mul-le-mul_left a (omega arith) in
    omega (arith, one, two)

-- a smaller block and all before it
last_blocks : (a r n block : ℕ) → r ≤ block → block < n → r * (a + 1) + (block - r) * a + a ≤ a * n + r
last_blocks a r n block le lt = with_rest (block - r) (omega arith)
  where
    with_rest : (rest : ℕ) → r + rest < n → r * (a + 1) + rest * a + a ≤ a * n + r
    with_rest rest few =
        let one : (r + rest + 1) * a ≤ n * a = mul-le-mul_right a (omega arith) in
        omega (arith, one)

within_by : (a r n block t large : ℕ) (test : Bool) → a * n + r ≡ t → r < n → block < n → large ≡ a + min 1 r → nat_lt block r ≡ test
    → min block r * large + (block - r) * a + (if test then large else a) ≤ t
within_by a r n block t large true is few lt large-is e =
    let less = ltb-true block r e in
    let one = ap (λ x. x * large) (let m : min block r ≡ block = omega arith in m) in
    let two = ap (λ x. block * x) (let m : large ≡ a + 1 = omega arith in m) in
    let three = ap (λ x. x * a) (let m : block - r ≡ 0 = omega arith in m) in
    let whole = first_blocks a r n block less few in
    omega (arith, one, two, three, whole)
within_by a r n block t large false is few lt large-is e =
    let more = ltb-false block r e in
    let one = ap (λ x. x * large) (let m : min block r ≡ r = omega arith in m) in
    let two = times large-is in
    let whole = last_blocks a r n block more lt in
    omega (arith, one, two, whole)
  where
    times : large ≡ a + min 1 r → r * large ≡ r * (a + 1)
    times l = elim (cases_lt 0 r) [
      | inl some ↦ ap (λ x. r * x) (let m : large ≡ a + 1 = omega arith in m)
      | inr none ↦ ap (λ x. x * large) (let z : r ≡ 0 = omega arith in z) ∙ sym (ap (λ x. x * (a + 1)) (let z : r ≡ 0 = omega arith in z) ∙ (let z : 0 * (a + 1) ≡ 0 * large = omega arith in z))
    ]

-- a block of an object lies within it
pub block_within : (t n block : ℕ) → 0 < n → block < n → symbols_before t n block + block_size t n block ≤ t
block_within t n block some lt =
    within_by (t / n) (larger_blocks t n) n block t (large_block t n) (nat_lt block (larger_blocks t n))
    (omega (arith, div-add-mod' t n)) (omega (arith, larger_is t n)) lt (ap (λ r. t / n + min 1 r) (sym (larger_is t n))) refl

large_no_less : (t n : ℕ) → small_block t n ≤ large_block t n
large_no_less t n = omega arith

either_some : (test : Bool) (a large : ℕ) → 1 ≤ a → a ≤ large → 1 ≤ (if test then large else a)
either_some true a large some le = omega arith
either_some false a large some le = some

-- each block has a source symbol
pub block_some : (t n block : ℕ) → 0 < n → n ≤ t → 1 ≤ block_size t n block
block_some t n block some le =
    either_some (nat_lt block (larger_blocks t n)) (small_block t n) (large_block t n) (le-div 1 t n some (omega arith)) (large_no_less t n)

-- no more blocks than symbols
few_blocks : (t b : ℕ) → 1 ≤ b → blocks_in t b ≤ t
few_blocks t b some =
    elim (cases_lt t (blocks_in t b)) [
      | inl more ↦
          let one : (t + 1) * b ≤ blocks_in t b * b = mul-le-mul_right b (omega arith) in
          let two : t * 1 ≤ t * b = mul-le-mul_left t some in
          let three = (div_ceil_times t b some).1 in
          absurd (omega (arith, one, two, three))
      | inr le ↦ le
    ]

-- ---- a cut

pub some_sources : (c : Cut) (block : ℕ) → IsSound c → 1 ≤ source_symbols c block
some_sources c block sound = go c.l sound.some
  where
    go : (l : Option ℕ) → 0 < elim l [ Some n ↦ symbols_in n c.e | None ↦ Rattle.fec_plan.specs.Partition.most_blocks * c.b ]
        → 1 ≤ elim l [ Some n ↦ block_size (symbols_in n c.e) (blocks_in (symbols_in n c.e) c.b) block | None ↦ c.b ]
    go (Some n) some =
        block_some (symbols_in n c.e) (blocks_in (symbols_in n c.e) c.b) block
        (some_blocks (symbols_in n c.e) c.b some sound.least_b) (few_blocks (symbols_in n c.e) c.b sound.least_b)
    go None some = sound.least_b

pub sources_fit : (c : Cut) (block : ℕ) → IsSound c → source_symbols c block ≤ encoding_symbols c block
sources_fit c block sound =
    le-div (source_symbols c block) (source_symbols c block * c.max_n) c.b sound.least_b (mul-le-mul_left (source_symbols c block) sound.max_n)

pub some_blocks_of : (c : Cut) → IsSound c → 0 < blocks c
some_blocks_of c sound = go c.l sound.some
  where
    go : (l : Option ℕ) → 0 < elim l [ Some n ↦ symbols_in n c.e | None ↦ Rattle.fec_plan.specs.Partition.most_blocks * c.b ]
        → 0 < blocks (record { l = l; e = c.e; b = c.b; max_n = c.max_n })
    go (Some n) some = some_blocks (symbols_in n c.e) c.b some sound.least_b
    go None some = omega arith

-- the source symbols of a block of an object are among the object's
pub sources_within : (c : Cut) (block : ℕ) → IsSound c → IsSome c.l → block < blocks c
    → symbol_number c block 0 + source_symbols c block ≤ all_symbols c
sources_within c block sound object lt = go c.l object sound.some lt
  where
    go : (l : Option ℕ) → IsSome l → 0 < elim l [ Some n ↦ symbols_in n c.e | None ↦ Rattle.fec_plan.specs.Partition.most_blocks * c.b ]
        → block < blocks (record { l = l; e = c.e; b = c.b; max_n = c.max_n })
        → symbol_number (record { l = l; e = c.e; b = c.b; max_n = c.max_n }) block 0 + source_symbols (record { l = l; e = c.e; b = c.b; max_n = c.max_n }) block
        ≤ all_symbols (record { l = l; e = c.e; b = c.b; max_n = c.max_n })
    go (Some n) o some less =
        omega (arith, block_within (symbols_in n c.e) (blocks_in (symbols_in n c.e) c.b) block (some_blocks (symbols_in n c.e) c.b some sound.least_b) less)
    go None o some less = absurd (cc)

-- a source symbol's number counts from the block's first
pub number_from_first : (c : Cut) (block symbol : ℕ) → symbol_number c block symbol ≡ symbol_number c block 0 + symbol
number_from_first c block symbol = go c.l
  where
    go : (l : Option ℕ) → symbol_number (record { l = l; e = c.e; b = c.b; max_n = c.max_n }) block symbol
        ≡ symbol_number (record { l = l; e = c.e; b = c.b; max_n = c.max_n }) block 0 + symbol
    go (Some n) = omega arith
    go None = omega arith

-- no symbol of an object has more octets than e
pub sent_most : (c : Cut) (block symbol : ℕ) → IsSome c.l → sent_octets c block symbol ≤ c.e
sent_most c block symbol object = go c.l object
  where
    by : (test : Bool) (n : ℕ) → (if test then min c.e n else c.e) ≤ c.e
    by true n = omega arith
    by false n = omega arith

    go : (l : Option ℕ) → IsSome l → sent_octets (record { l = l; e = c.e; b = c.b; max_n = c.max_n }) block symbol ≤ c.e
    go (Some n) o = by _ _
    go None o = absurd (cc)

-- the octets of a source symbol of an object lie among the padded octets
pub octets_within : (c : Cut) (block symbol : ℕ) → IsSound c → IsSome c.l → block < blocks c → symbol < source_symbols c block
    → symbol_number c block symbol * c.e + c.e ≤ all_symbols c * c.e
octets_within c block symbol sound object lt less =
    let one : symbol_number c block symbol + 1 ≤ all_symbols c = omega (arith, number_from_first c block symbol, sources_within c block sound object lt) in
    omega (arith, mul-le-mul_right c.e one)

-- the octets of a block of an object lie among the padded octets
pub block_octets_within : (c : Cut) (block : ℕ) → IsSound c → IsSome c.l → block < blocks c
    → symbol_number c block 0 * c.e + source_symbols c block * c.e ≤ all_symbols c * c.e
block_octets_within c block sound object lt = omega (arith, mul-le-mul_right c.e (sources_within c block sound object lt))
