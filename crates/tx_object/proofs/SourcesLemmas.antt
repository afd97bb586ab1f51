-- The source symbols of an object in order: each stands at its number.
use Rattle.std.proofs.Common.{◌≡◌, ℕ, zero, suc, ◌+◌, ◌-◌, ◌<◌, ◌≤◌, ◌⊎◌, inl, inr, Bool, refl, sym, ap, ◌∙◌, subst, arith, Option, Some, None, List, [], ◌∷◌, ◌++◌, length, length-append}
use Rattle.std.specs.Prelude.{slice_get, flat_map, min}
use Rattle.std.specs.List.{range_with_len}
use Rattle.std.proofs.lemmas.Bool.{cases_lt}
use Rattle.std.proofs.lemmas.Grind.{flat_map-append}
use Rattle.std.proofs.lemmas.List.FromFn.{length-map-range_with_len}
use Rattle.fec_plan.specs.declared.position.Position.{Position}
use Rattle.fec_plan.specs.Points.{position}
use Rattle.fec_plan.specs.Partition.{cut_of, IsSound, symbols_in, blocks_in, symbols_before, block_size, blocks, source_symbols, symbol_number, all_symbols}
use Rattle.fec_plan.proofs.CoverLemmas.{before_step, none_before, all_before}
use Rattle.fec_plan.proofs.CutLemmas.{some_blocks}
use Rattle.norm_order.specs.Shapes.{Shape, symbols_of, sources_in, closed_in, closed_blocks}
use Rattle.fec_plan.proofs.PartitionLemmas.{block_within}

pub get_front : {X : Type 0} (xs ys : List X) (k : ℕ) → k < length xs → slice_get (xs ++ ys) k ≡ slice_get xs k
get_front [] ys k lt = absurd (omega arith)
get_front (x ∷ xs) ys zero lt = refl
get_front (x ∷ xs) ys (suc k) lt = get_front xs ys k (omega arith)

pub get_back : {X : Type 0} (xs ys : List X) (k : ℕ) → length xs ≤ k → slice_get (xs ++ ys) k ≡ slice_get ys (k - length xs)
get_back [] ys k le = ap (slice_get ys) (let e : k ≡ k - 0 = omega arith in e)
get_back (x ∷ xs) ys zero le = absurd (omega arith)
get_back (x ∷ xs) ys (suc k) le = get_back xs ys k (omega arith) ∙ ap (slice_get ys) (let e : k - length xs ≡ suc k - length (x ∷ xs) = omega arith in e)

-- the n numbers from a on
pub in_range : (a n k : ℕ) → k < n → slice_get (range_with_len a n) k ≡ Some (a + k)
in_range a zero k lt = absurd (omega arith)
in_range a (suc n) zero lt = ap Some (let e : a ≡ a + 0 = omega arith in e)
in_range a (suc n) (suc k) lt = in_range (a + 1) n k (omega arith) ∙ ap Some (let e : a + 1 + k ≡ a + suc k = omega arith in e)

range_more : (a n : ℕ) → range_with_len a (suc n) ≡ range_with_len a n ++ (a + n) ∷ []
range_more a zero = ap (λ x. x ∷ []) (let e : a ≡ a + 0 = omega arith in e)
range_more a (suc n) = ap (λ xs. a ∷ xs) (range_more (a + 1) n ∙ ap (λ x. range_with_len (a + 1) n ++ x ∷ []) (let e : a + 1 + n ≡ a + suc n = omega arith in e))

-- ---- blocks of some sizes

abbrev in_blocks : ℕ → (ℕ → ℕ) → ℕ → List Position
in_blocks index size n = flat_map (λ block. symbols_of index (size block) block) (range_with_len 0 n)

blocks_more : (index : ℕ) (size : ℕ → ℕ) (n : ℕ) → in_blocks index size (suc n) ≡ in_blocks index size n ++ symbols_of index (size n) n
blocks_more index size n =
    ap (flat_map (λ block. symbols_of index (size block) block)) (range_more 0 n ∙ ap (λ x. range_with_len 0 n ++ x ∷ []) (let e : 0 + n ≡ n = omega arith in e))
    ∙ flat_map-append (λ block. symbols_of index (size block) block) (range_with_len 0 n) (n ∷ [])
    ∙ ap (λ xs. in_blocks index size n ++ xs) (one index size n)
  where
    one : (index : ℕ) (size : ℕ → ℕ) (n : ℕ) → flat_map (λ block. symbols_of index (size block) block) (n ∷ []) ≡ symbols_of index (size n) n
    one index size n = Rattle.std.proofs.lemmas.List.append-nil (symbols_of index (size n) n)

symbol_at : (index n block k : ℕ) → k < n → slice_get (symbols_of index n block) k ≡ Some (position index block k)
symbol_at index n block k lt =
    Rattle.std.proofs.lemmas.Option.slice_get-map (λ symbol. position index block symbol) (range_with_len 0 n) k
    ∙ ap (Rattle.std.specs.Prelude.option_map (λ symbol. position index block symbol)) (in_range 0 n k lt ∙ ap Some (let e : 0 + k ≡ k = omega arith in e))

symbols_long : (index n block : ℕ) → length (symbols_of index n block) ≡ n
symbols_long index n block = length-map-range_with_len (λ symbol. position index block symbol) 0 n

-- how many symbols stand before each block
abbrev Counts : (ℕ → ℕ) → (ℕ → ℕ) → Type 0
Counts size before = (before 0 ≡ 0) × ((n : ℕ) → before (suc n) ≡ before n + size n)

blocks_long : (index : ℕ) (size before : ℕ → ℕ) (n : ℕ) → Counts size before → length (in_blocks index size n) ≡ before n
blocks_long index size before zero counts = sym counts.0
blocks_long index size before (suc n) counts =
    ap length (blocks_more index size n) ∙ length-append (in_blocks index size n) (symbols_of index (size n) n)
    ∙ ap (λ k. k + length (symbols_of index (size n) n)) (blocks_long index size before n counts)
    ∙ ap (λ k. before n + k) (symbols_long index (size n) n)
    ∙ sym (counts.1 n)

-- what stands at a place: a symbol of this object, at its number
pub record StandsAt (object : ℕ) (size before : ℕ → ℕ) (at : Position) (k : ℕ) : Type 0 where
  pub index : at.index ≡ object
  pub number : before at.block + at.symbol ≡ k
  pub below : at.symbol < size at.block

blocks_at : (index : ℕ) (size before : ℕ → ℕ) (n k : ℕ) (at : Position) → Counts size before → slice_get (in_blocks index size n) k ≡ Some at → StandsAt index size before at k
blocks_at index size before zero k at counts e = absurd (cc)
blocks_at index size before (suc n) k at counts e = go (blocks_at index size before n k at counts) (cases_lt k (before n))
  where
    long : length (in_blocks index size n) ≡ before n
    long = blocks_long index size before n counts

    here : slice_get (in_blocks index size n ++ symbols_of index (size n) n) k ≡ Some at
    here = ap (λ xs. slice_get xs k) (sym (blocks_more index size n)) ∙ e

    last : before n ≤ k → (k - before n < size n) ⊎ (size n ≤ k - before n) → StandsAt index size before at k
    last le (inl lt) =
        let found : slice_get (symbols_of index (size n) n) (k - before n) ≡ Some at =
        ap (λ m. slice_get (symbols_of index (size n) n) (k - m)) (sym long) ∙ sym (get_back (in_blocks index size n) (symbols_of index (size n) n) k (omega (arith, long))) ∙ here in
        let same : position index n (k - before n) ≡ at = is (position index n (k - before n)) at (sym (symbol_at index (size n) n (k - before n) lt) ∙ found) in
        record {
          index = ap (λ (x : Position). x.index) (sym same);
          number = ap (λ (x : Position). before x.block + x.symbol) (sym same) ∙ (let e : before n + (k - before n) ≡ k = omega arith in e);
          below = subst (λ (x : Position). x.symbol < size x.block) same lt;
        }
      where
        is : (x y : Position) → Some x ≡ Some y → x ≡ y
        is x y f = cc
    last le (inr past) =
        let none = Rattle.std.proofs.lemmas.Option.slice_get_past (symbols_of index (size n) n) (k - before n) (omega (arith, symbols_long index (size n) n)) in
        let found : slice_get (symbols_of index (size n) n) (k - before n) ≡ Some at =
        ap (λ m. slice_get (symbols_of index (size n) n) (k - m)) (sym long) ∙ sym (get_back (in_blocks index size n) (symbols_of index (size n) n) k (omega (arith, long))) ∙ here in
        absurd (never at (sym none ∙ found))
      where
        never : (x : Position) → ◌≡◌ {A = Option Position} None (Some x) → ⊥
        never x f = cc

    go : (slice_get (in_blocks index size n) k ≡ Some at → StandsAt index size before at k) → (k < before n) ⊎ (before n ≤ k) → StandsAt index size before at k
    go earlier (inl lt) = earlier (sym (get_front (in_blocks index size n) (symbols_of index (size n) n) k (omega (arith, long))) ∙ here)
    go earlier (inr le) = last le (cases_lt (k - before n) (size n))

grows : (size before : ℕ → ℕ) (a n : ℕ) → Counts size before → before a ≤ before (a + n)
grows size before a zero counts = let e = ap before (let z : a ≡ a + 0 = omega arith in z) in omega (arith, e)
grows size before a (suc n) counts =
    let e = ap before (let z : a + suc n ≡ suc (a + n) = omega arith in z) in omega (arith, e, counts.1 (a + n), grows size before a n counts)

blocks_found : (index : ℕ) (size before : ℕ → ℕ) (n block symbol : ℕ) → Counts size before → block < n → symbol < size block
    → slice_get (in_blocks index size n) (before block + symbol) ≡ Some (position index block symbol)
blocks_found index size before zero block symbol counts lt less = absurd (omega arith)
blocks_found index size before (suc n) block symbol counts lt less = ap (λ xs. slice_get xs (before block + symbol)) (blocks_more index size n) ∙ go (blocks_found index size before n block symbol counts) (cases_lt block n)
  where
    long : length (in_blocks index size n) ≡ before n
    long = blocks_long index size before n counts

    go : (block < n → symbol < size block → slice_get (in_blocks index size n) (before block + symbol) ≡ Some (position index block symbol))
        → (block < n) ⊎ (n ≤ block) → slice_get (in_blocks index size n ++ symbols_of index (size n) n) (before block + symbol) ≡ Some (position index block symbol)
    go found (inl earlier) =
        let up : before (suc block) ≤ before n = let g = grows size before (suc block) (n - suc block) counts in
        let e = ap before (let z : suc block + (n - suc block) ≡ n = omega arith in z) in omega (arith, g, e) in
        get_front (in_blocks index size n) (symbols_of index (size n) n) (before block + symbol) (omega (arith, long, up, counts.1 block))
        ∙ found earlier less
    go found (inr past) =
        let same : block ≡ n = omega arith in
        get_back (in_blocks index size n) (symbols_of index (size n) n) (before block + symbol) (omega (arith, long, ap before same))
        ∙ ap (slice_get (symbols_of index (size n) n)) (let e : before block + symbol - length (in_blocks index size n) ≡ symbol = omega (arith, long, ap before same) in e)
        ∙ symbol_at index (size n) n symbol (omega (arith, ap size same))
        ∙ ap (λ b. Some (position index b symbol)) (sym same)

-- ---- an object's

abbrev whole_shape : ℕ → ℕ → ℕ → ℕ → Bool → Shape
whole_shape l e b max_n info = record { cut = cut_of l e b max_n; closed = all_symbols (cut_of l e b max_n); info = info }

counted : (l e b : ℕ) → Counts (block_size (symbols_in l e) (blocks_in (symbols_in l e) b)) (symbols_before (symbols_in l e) (blocks_in (symbols_in l e) b))
counted l e b = (
  none_before (symbols_in l e) (blocks_in (symbols_in l e) b),
  λ n. ap (symbols_before (symbols_in l e) (blocks_in (symbols_in l e) b)) (let z : suc n ≡ n + 1 = omega arith in z) ∙ before_step (symbols_in l e) (blocks_in (symbols_in l e) b) n,
)

flat_same : {X : Type 0} (f g : ℕ → List X) (a n : ℕ) → ((k : ℕ) → k < n → f (a + k) ≡ g (a + k)) → flat_map f (range_with_len a n) ≡ flat_map g (range_with_len a n)
flat_same f g a zero same = refl
flat_same f g a (suc n) same =
    ap (λ xs. xs ++ flat_map f (range_with_len (a + 1) n)) (let e : a + 0 ≡ a = omega arith in subst (λ k. f k ≡ g k) e (same 0 (omega arith)))
    ∙ ap (λ xs. g a ++ xs) (flat_same f g (a + 1) n (λ k lt. let e : a + suc k ≡ a + 1 + k = omega arith in subst (λ m. f m ≡ g m) e (same (suc k) (omega arith))))

sources_are : (index l e b max_n : ℕ) (info : Bool) → IsSound (cut_of l e b max_n)
    → sources_in index (whole_shape l e b max_n info) ≡ in_blocks index (block_size (symbols_in l e) (blocks_in (symbols_in l e) b)) (blocks_in (symbols_in l e) b)
sources_are index l e b max_n info sound =
    flat_same (λ block. symbols_of index (closed_in (whole_shape l e b max_n info) block) block)
    (λ block. symbols_of index (block_size (symbols_in l e) (blocks_in (symbols_in l e) b) block) block) 0 (blocks_in (symbols_in l e) b)
    (λ k lt. ap (λ n. symbols_of index n (0 + k)) (full (block_size t n (0 + k)) t (symbols_before t n (0 + k)) (block_within t n (0 + k) (some_blocks t b sound.some sound.least_b) (omega arith))))
  where
    t : ℕ
    t = symbols_in l e

    n : ℕ
    n = blocks_in (symbols_in l e) b

    full : (size all first : ℕ) → first + size ≤ all → min size (all - (first + 0)) ≡ size
    full size all first le = omega arith

pub sources_long : (index l e b max_n : ℕ) (info : Bool) → IsSound (cut_of l e b max_n)
    → length (sources_in index (whole_shape l e b max_n info)) ≡ all_symbols (cut_of l e b max_n)
sources_long index l e b max_n info sound =
    ap length (sources_are index l e b max_n info sound)
    ∙ blocks_long index _ (symbols_before (symbols_in l e) (blocks_in (symbols_in l e) b)) (blocks_in (symbols_in l e) b) (counted l e b)
    ∙ all_before (symbols_in l e) (blocks_in (symbols_in l e) b) (some_blocks (symbols_in l e) b sound.some sound.least_b)

-- the symbol at a place has this number, and no other place has it
pub source_at : (index l e b max_n : ℕ) (info : Bool) (k : ℕ) (at : Position) → IsSound (cut_of l e b max_n)
    → slice_get (sources_in index (whole_shape l e b max_n info)) k ≡ Some at
    → ((at.index ≡ index) × (symbol_number (cut_of l e b max_n) at.block at.symbol ≡ k)) × (at.symbol < source_symbols (cut_of l e b max_n) at.block)
source_at index l e b max_n info k at sound found =
    let is = blocks_at index _ (symbols_before (symbols_in l e) (blocks_in (symbols_in l e) b)) (blocks_in (symbols_in l e) b) k at (counted l e b)
    (ap (λ xs. slice_get xs k) (sym (sources_are index l e b max_n info sound)) ∙ found) in
    ((is.index, is.number), is.below)

-- a source symbol stands at its number
pub source_found : (index l e b max_n : ℕ) (info : Bool) (block symbol : ℕ) → IsSound (cut_of l e b max_n)
    → block < blocks (cut_of l e b max_n) → symbol < source_symbols (cut_of l e b max_n) block
    → slice_get (sources_in index (whole_shape l e b max_n info)) (symbol_number (cut_of l e b max_n) block symbol) ≡ Some (position index block symbol)
source_found index l e b max_n info block symbol sound there less =
    ap (λ xs. slice_get xs (symbol_number (cut_of l e b max_n) block symbol)) (sources_are index l e b max_n info sound)
    ∙ blocks_found index _ (symbols_before (symbols_in l e) (blocks_in (symbols_in l e) b)) (blocks_in (symbols_in l e) b) block symbol (counted l e b) there less

-- each symbol of an object has the object's index, whatever the shape
pub source_index : (index : ℕ) (s : Shape) (k : ℕ) (at : Position) → slice_get (sources_in index s) k ≡ Some at → at.index ≡ index
source_index index s k at found =
    (blocks_at index (closed_in s) (λ n. length (in_blocks index (closed_in s) n)) (closed_blocks s) k at (refl, grown) found).index
  where
    grown : (n : ℕ) → length (in_blocks index (closed_in s) (suc n)) ≡ length (in_blocks index (closed_in s) n) + closed_in s n
    grown n =
        ap length (blocks_more index (closed_in s) n) ∙ length-append (in_blocks index (closed_in s) n) (symbols_of index (closed_in s n) n)
        ∙ ap (λ m. length (in_blocks index (closed_in s) n) + m) (symbols_long index (closed_in s n) n)
