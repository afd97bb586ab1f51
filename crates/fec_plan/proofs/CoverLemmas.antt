-- Blocks and symbols cover an object.
use Rattle.std.proofs.Common.{◌≡◌, ℕ, zero, suc, ◌+◌, ◌-◌, ◌*◌, ◌/◌, ◌%◌, ◌<◌, ◌≤◌, [], ◌∷◌, refl, sym, ap, ◌∙◌, arith, inl, inr, lt-ltb}
use Rattle.std.specs.Prelude.{min}
use Rattle.std.specs.List.{sum_by, range_with_len}
use Rattle.std.proofs.lemmas.Bool.{cases_lt, le-ltb}
use Rattle.std.proofs.lemmas.List.Sums.{sum_by-append}
use Rattle.std.proofs.lemmas.Grind.{div_ceil_times}
use Rattle.std.proofs.Math.Nat.{add-mul, mul_comm, mul-le-mul_left, mul-le-mul_right}
use Rattle.fec_plan.specs.Partition.{Cut, cut_of, source_symbols, symbol_number, sent_octets, symbols_in, blocks_in, large_block, small_block, larger_blocks, block_size, symbols_before}
use Rattle.fec_plan.specs.Covering.{sum_below, block_octets, BlocksCover, SymbolsCover, AllButLastAreFull, BlocksAreEven}
use Rattle.fec_plan.proofs.CutLemmas.{some_blocks, large_most}

-- a function that grows by another is its sum
grows : (f g : ℕ → ℕ) (top : ℕ) → ((j : ℕ) → j < top → f (j + 1) ≡ f j + g j) → (a n : ℕ) → a + n ≤ top → f a + sum_by g (range_with_len a n) ≡ f (a + n)
grows f g top step a zero within = let e : f (a + 0) ≡ f a = ap f (let z : a + 0 ≡ a = omega arith in z) in omega (arith, e)
grows f g top step a (suc n) within =
    let rest = grows f g top step (a + 1) n (omega (arith, within)) in
    let here = step a (omega (arith, within)) in
    let e : f (a + suc n) ≡ f (a + 1 + n) = ap f (let z : a + suc n ≡ a + 1 + n = omega arith in z) in
    let one : sum_by g (a ∷ []) ≡ g a = (let z : 0 + g a ≡ g a = omega arith in z) in
    let opened : sum_by g (range_with_len a (suc n)) ≡ sum_by g (a ∷ []) + sum_by g (range_with_len (a + 1) n) = sum_by-append g (a ∷ []) (range_with_len (a + 1) n) in
    omega (arith, rest, here, e, opened, one)

grows_from_none : (f g : ℕ → ℕ) (n : ℕ) → ((j : ℕ) → j < n → f (j + 1) ≡ f j + g j) → f 0 + sum_below n g ≡ f n
grows_from_none f g n step = grows f g n step 0 n (omega arith) ∙ ap f (let z : 0 + n ≡ n = omega arith in z)

-- ---- symbols in blocks

size_large : (t n block : ℕ) → block < larger_blocks t n → block_size t n block ≡ large_block t n
size_large t n block h = rw (lt-ltb block (larger_blocks t n) h) refl

size_small : (t n block : ℕ) → larger_blocks t n ≤ block → block_size t n block ≡ small_block t n
size_small t n block h = rw (le-ltb block (larger_blocks t n) h) refl

-- what stands before a block, in larger and in smaller blocks
pub before_large : (t n j : ℕ) → j ≤ larger_blocks t n → symbols_before t n j ≡ j * large_block t n
before_large t n j h =
    let most : min j (larger_blocks t n) ≡ j = omega arith in
    let none : j - larger_blocks t n ≡ 0 = omega arith in
    let z : j * large_block t n + 0 * small_block t n ≡ j * large_block t n = omega arith in
    rw (most, none) z

pub before_small : (t n j : ℕ) → larger_blocks t n ≤ j → symbols_before t n j ≡ larger_blocks t n * large_block t n + (j - larger_blocks t n) * small_block t n
before_small t n j h = let most : min j (larger_blocks t n) ≡ larger_blocks t n = omega arith in rw most refl

more : (x y : ℕ) → (x + 1) * y ≡ x * y + y
more x y = add-mul x 1 y ∙ (let z : x * y + 1 * y ≡ x * y + y = omega arith in z)

pub before_step : (t n j : ℕ) → symbols_before t n (j + 1) ≡ symbols_before t n j + block_size t n j
before_step t n j =
    let i : ℕ = larger_blocks t n in
    elim (cases_lt j i) [
      | inl low ↦
          before_large t n (j + 1) (omega (arith, low)) ∙ more j (large_block t n)
          ∙ ap (λ (x : ℕ). x + large_block t n) (sym (before_large t n j (omega (arith, low))))
          ∙ ap (λ (x : ℕ). symbols_before t n j + x) (sym (size_large t n j low))
      | inr high ↦
          let up : j + 1 - i ≡ (j - i) + 1 = omega (arith, high) in
          before_small t n (j + 1) (omega (arith, high))
          ∙ ap (λ (x : ℕ). i * large_block t n + x * small_block t n) up
          ∙ ap (λ (x : ℕ). i * large_block t n + x) (more (j - i) (small_block t n))
          ∙ (let z : i * large_block t n + ((j - i) * small_block t n + small_block t n) ≡ i * large_block t n + (j - i) * small_block t n + small_block t n = omega arith in z)
          ∙ ap (λ (x : ℕ). x + small_block t n) (sym (before_small t n j high))
          ∙ ap (λ (x : ℕ). symbols_before t n j + x) (sym (size_small t n j high))
    ]

-- how many blocks are larger
larger_is : (t n : ℕ) → 0 < n → larger_blocks t n ≡ t % n
larger_is t n some = let parts : t / n * n ≡ n * (t / n) = mul_comm (t / n) n in omega (arith, parts, some)

pub all_before : (t n : ℕ) → 0 < n → symbols_before t n n ≡ t
all_before t n some =
    let s : ℕ = t / n in
    let r : ℕ = t % n in
    let is : larger_blocks t n ≡ r = larger_is t n some in
    let below : r < n = omega (arith, some) in
    let whole : t ≡ n * s + r = omega (arith, some) in
    let parts : n * s ≡ r * s + (n - r) * s = ap (λ (x : ℕ). x * s) (let z : n ≡ r + (n - r) = omega (arith, below) in z) ∙ add-mul r (n - r) s in
    let first : r * large_block t n ≡ r * s + r =
    elim (cases_lt 0 r) [
      | inl has ↦ (let one : large_block t n ≡ s + 1 = omega (arith, has) in ap (λ (x : ℕ). r * x) one ∙ mul_comm r (s + 1) ∙ more s r ∙ ap (λ (x : ℕ). x + r) (mul_comm s r))
      | inr none ↦ (let z : r ≡ 0 = omega (arith, none) in rw z (omega arith))
    ] in
    before_small t n n (omega (arith, is, below))
    ∙ rw (is, first) (omega (arith, whole, parts))

-- ---- octets in symbols

more_octets : (l e x : ℕ) → min l (x + e) ≡ min l x + min e (l - x)
more_octets l e x = omega arith

-- the octets of a block's symbols are those of the object between what stands before it and what stands before the next
block_sum : (l e b max_n block : ℕ)
    → let c : Cut = cut_of l e b max_n in
    let before : ℕ = symbols_before (symbols_in l e) (blocks_in (symbols_in l e) b) block in
    min l ((before + 0) * e) + block_octets c block ≡ min l ((before + source_symbols c block) * e)
block_sum l e b max_n block =
    let c : Cut = cut_of l e b max_n in
    let before : ℕ = symbols_before (symbols_in l e) (blocks_in (symbols_in l e) b) block in
    let k : ℕ = source_symbols c block in
    grows_from_none (λ s. min l ((before + s) * e)) (sent_octets c block) k
    (λ s below.
    let next : (before + (s + 1)) * e ≡ (before + s) * e + e = ap (λ (x : ℕ). x * e) (let z : before + (s + 1) ≡ before + s + 1 = omega arith in z) ∙ more (before + s) e in
    let sent : sent_octets c block s ≡ min e (l - (before + s) * e) = rw (lt-ltb s k below) refl in
    ap (min l) next ∙ more_octets l e ((before + s) * e) ∙ ap (λ (x : ℕ). min l ((before + s) * e) + x) (sym sent))

pub none_before : (t n : ℕ) → symbols_before t n 0 ≡ 0
none_before t n = before_large t n 0 (omega arith) ∙ (let z : 0 * large_block t n ≡ 0 = omega arith in z)

pub blocks_cover_law : BlocksCover
blocks_cover_law l e b max_n is =
    let t : ℕ = symbols_in l e in
    let n : ℕ = blocks_in t b in
    let sum = grows_from_none (symbols_before t n) (source_symbols (cut_of l e b max_n)) n (λ j below. before_step t n j) in
    let whole = all_before t n (some_blocks t b is.some (omega (arith, is.least_b))) in
    let none = none_before t n in
    omega (arith, sum, whole, none)

pub symbols_cover_law : SymbolsCover
symbols_cover_law l e b max_n is =
    let t : ℕ = symbols_in l e in
    let n : ℕ = blocks_in t b in
    let sum = grows_from_none (λ j. min l (symbols_before t n j * e)) (block_octets (cut_of l e b max_n)) n
    (λ j below.
    let one = block_sum l e b max_n j in
    let none : symbols_before t n j + 0 ≡ symbols_before t n j = omega arith in
    let next = before_step t n j in
    ap (λ (x : ℕ). min l (x * e)) next ∙ sym one ∙ ap (λ (x : ℕ). min l (x * e) + block_octets (cut_of l e b max_n) j) none) in
    let whole = all_before t n (some_blocks t b is.some (omega (arith, is.least_b))) in
    let last : min l (symbols_before t n n * e) ≡ l =
    ap (λ (x : ℕ). min l (x * e)) whole
    ∙ (let up : l ≤ t * e = (div_ceil_times l e (omega (arith, is.least_e))).0 in let z : min l (t * e) ≡ l = omega (arith, up) in z) in
    let first : min l (symbols_before t n 0 * e) ≡ 0 = ap (λ (x : ℕ). min l (x * e)) (none_before t n) ∙ (let z : min l (0 * e) ≡ 0 = omega arith in z) in
    omega (arith, sum, last, first)

pub all_but_last_are_full_law : AllButLastAreFull
all_but_last_are_full_law l e b max_n is block symbol there more-follow =
    let t : ℕ = symbols_in l e in
    let c : Cut = cut_of l e b max_n in
    let number : ℕ = symbol_number c block symbol in
    let down : t * e < l + e = (div_ceil_times l e (omega (arith, is.least_e))).1 in
    let below : (number + 2) * e ≤ t * e = mul-le-mul_right e (let z : number + 2 ≤ t = omega (arith, more-follow) in z) in
    let two : (number + 2) * e ≡ number * e + (e + e) = add-mul number 2 e ∙ (let z : number * e + 2 * e ≡ number * e + (e + e) = omega arith in z) in
    let full : min e (l - number * e) ≡ e = omega (arith, down, below, two) in
    rw (lt-ltb symbol (source_symbols c block) there) full

-- there are no more blocks than symbols
pub few_blocks : (t b : ℕ) → 0 < t → 0 < b → blocks_in t b ≤ t
few_blocks t b some large =
    elim (cases_lt t (blocks_in t b)) [
      | inl many ↦
          let down : blocks_in t b * b < t + b = (div_ceil_times t b large).1 in
          let up : (t + 1) * b ≤ blocks_in t b * b = mul-le-mul_right b (let z : t + 1 ≤ blocks_in t b = omega (arith, many) in z) in
          let each : t * 1 ≤ t * b = mul-le-mul_left t (let z : 1 ≤ b = omega (arith, large) in z) in
          let next = more t b in
          absurd (omega (arith, down, up, each, next))
      | inr few ↦ few
    ]

pub small_some : (t n : ℕ) → 0 < n → n ≤ t → 1 ≤ small_block t n
small_some t n some few =
    elim (cases_lt 0 (small_block t n)) [
      | inl has ↦ omega (arith, has)
      | inr none ↦
          let zero-is : small_block t n ≡ 0 = omega (arith, none) in
          let product : n * (t / n) ≡ n * 0 = ap (λ (x : ℕ). n * x) zero-is in
          absurd (omega (arith, product, some, few))
    ]

pub between : (t n block : ℕ) → (small_block t n ≤ block_size t n block) × (block_size t n block ≤ large_block t n)
between t n block =
    elim (cases_lt block (larger_blocks t n)) [
      | inl low ↦ (let z = size_large t n block low in (omega (arith, z), omega (arith, z)))
      | inr high ↦ (let z = size_small t n block high in (omega (arith, z), omega (arith, z)))
    ]

falls : (t n block : ℕ) → block_size t n (suc block) ≤ block_size t n block
falls t n block =
    elim (cases_lt block (larger_blocks t n)) [
      | inl low ↦ (let z = size_large t n block low in let y = between t n (suc block) in omega (arith, z, y.1))
      | inr high ↦ (let z = size_small t n block high in let y = size_small t n (suc block) (omega (arith, high)) in omega (arith, z, y))
    ]

pub blocks_are_even_law : BlocksAreEven
blocks_are_even_law l e b max_n is block =
    let t : ℕ = symbols_in l e in
    let n : ℕ = blocks_in t b in
    let large : 0 < b = omega (arith, is.least_b) in
    let some = some_blocks t b is.some large in
    let least = small_some t n some (few_blocks t b is.some large) in
    let here = between t n block in
    let next = between t n (suc block) in
    let most = large_most t b is.some large in (
      omega (arith, least, here.0),
      omega (arith, most, here.1),
      falls t n block,
      omega (arith, here.1, next.0),
    )
