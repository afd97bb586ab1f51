-- How many infos and encoded symbols an entry has, by the sizes of its blocks.
use Rattle.std.proofs.Common.{◌≡◌, ℕ, zero, suc, ◌+◌, ◌-◌, ◌*◌, ◌/◌, ◌%◌, ◌<◌, ◌≤◌, ◌⊎◌, inl, inr, Bool, true, false, refl, sym, ap, ◌∙◌, subst, arith, Option, Some, None, List, length, take}
use Rattle.std.specs.Prelude.{min, nat_lt, is_some, ◌==◌}
use Rattle.std.specs.Int.{div_ceil}
use Rattle.std.specs.List.{sum_by, range_with_len}
use Rattle.std.proofs.lemmas.Bool.{cases_lt, lt-ltb, le-ltb}
use Rattle.std.proofs.lemmas.List.Sums.{sum_by-cons}
use Rattle.std.proofs.lemmas.Nat.{div-add-mod'}
use Rattle.std.proofs.Math.Nat.{mod-lt, mod-eq-sub-div-mul}
use Rattle.norm_base.specs.Settings.{Settings}
use Rattle.norm_base.specs.declared.kinds.Kind.{Kind}
use Rattle.fec_plan.specs.Partition.{Cut, IsSound, cut_of, stream_cut, blocks, source_symbols, encoding_symbols, symbols_in, blocks_in, larger_blocks, large_block, small_block, block_size}
use Rattle.norm_order.specs.Entries.{Part, Whole, Stream}
use Rattle.norm_order.specs.Shapes.{shape_of, encoded_in, closed_in, closed_blocks, is_full}
use Rattle.stream_buffer.specs.StreamState.{StreamState, StandsFor, closed_segments}
use Rattle.tx_object.specs.Held.{HeldObject, octets_of, octets_in}
use Rattle.tx_object.specs.Placed.{object_in}
use Rattle.tx_object.proofs.HeldLemmas.{taken, refused}
use Rattle.stream_buffer.proofs.KnowsLemmas.{closed_of, counted, full_is, not_full}
use Rattle.tx_window.specs.EntryState.{EntryReads, IsObject}
use Rattle.tx_window.specs.EntryRepairable.{repairable_from}
use Rattle.tx_window.proofs.EntryObjects.{closed_here, same_eqb}

-- ---- sums over numbers in a row

-- the same at each number
sum_same : (f g : ℕ → ℕ) (a n : ℕ) → ((k : ℕ) → a ≤ k → k < a + n → f k ≡ g k) → sum_by f (range_with_len a n) ≡ sum_by g (range_with_len a n)
sum_same f g a zero same = refl
sum_same f g a (suc n) same =
    sum_by-cons f a (range_with_len (a + 1) n)
    ∙ ap (λ x. x + sum_by f (range_with_len (a + 1) n)) (same a (omega arith) (omega arith))
    ∙ ap (λ x. g a + x) (sum_same f g (a + 1) n (λ k le lt. same k (omega (arith, le)) (omega (arith, lt))))
    ∙ sym (sum_by-cons g a (range_with_len (a + 1) n))

sum_flat : (f : ℕ → ℕ) (a n x : ℕ) → ((k : ℕ) → a ≤ k → k < a + n → f k ≡ x) → sum_by f (range_with_len a n) ≡ n * x
sum_flat f a zero x is = let z : 0 ≡ 0 * x = omega arith in z
sum_flat f a (suc n) x is =
    let one : suc n * x ≡ x + n * x = omega arith in
    omega (arith, sum_by-cons f a (range_with_len (a + 1) n), is a (omega arith) (omega arith), sum_flat f (a + 1) n x (λ k le lt. is k (omega (arith, le)) (omega (arith, lt))), one)

sum_split : (f : ℕ → ℕ) (a m n : ℕ) → sum_by f (range_with_len a (m + n)) ≡ sum_by f (range_with_len a m) + sum_by f (range_with_len (a + m) n)
sum_split f a zero n =
    ap (λ k. sum_by f (range_with_len a k)) (let z : 0 + n ≡ n = omega arith in z)
    ∙ ap (λ k. sum_by f (range_with_len k n)) (let z : a ≡ a + 0 = omega arith in z) ∙ (let z : sum_by f (range_with_len (a + 0) n) ≡ 0 + sum_by f (range_with_len (a + 0) n) = omega arith in z)
sum_split f a (suc m) n =
    let where_is = ap (λ k. sum_by f (range_with_len k n)) (let z : a + 1 + m ≡ a + suc m = omega arith in z) in
    let more = ap (λ k. sum_by f (range_with_len a k)) (let z : suc m + n ≡ suc (m + n) = omega arith in z) in
    omega (arith, more, sum_by-cons f a (range_with_len (a + 1) (m + n)), sum_by-cons f a (range_with_len (a + 1) m), sum_split f (a + 1) m n, where_is)

-- ---- an object's

cut_is : (c : Cut) (l : ℕ) → c.l ≡ Some l → c ≡ cut_of l c.e c.b c.max_n
cut_is c l is = ap (λ (o : Option ℕ). record { l = o; e = c.e; b = c.b; max_n = c.max_n }) is

size_large : (t n block : ℕ) → block < larger_blocks t n → block_size t n block ≡ large_block t n
size_large t n block h = rw (lt-ltb block (larger_blocks t n) h) refl

size_small : (t n block : ℕ) → larger_blocks t n ≤ block → block_size t n block ≡ small_block t n
size_small t n block h = rw (le-ltb block (larger_blocks t n) h) refl

in_sizes : (l e b max_n : ℕ) → let c = cut_of l e b max_n in let larger = symbols_in l e % blocks c in larger ≤ blocks c
    → sum_by (encoding_symbols c) (range_with_len 0 (blocks c)) ≡ larger * encoding_symbols c 0 + (blocks c - larger) * encoding_symbols c (blocks c - 1)
in_sizes l e b max_n le =
    ap (λ k. sum_by f (range_with_len 0 k)) (let z : n ≡ larger + (n - larger) = omega (arith, le) in z)
    ∙ sum_split f 0 larger (n - larger)
    ∙ ap (λ x. x + sum_by f (range_with_len (0 + larger) (n - larger))) (sum_flat f 0 larger (f 0) first)
    ∙ ap (λ x. larger * f 0 + x) (sum_flat f (0 + larger) (n - larger) (f (n - 1)) last)
  where
    f : ℕ → ℕ
    f = encoding_symbols (cut_of l e b max_n)

    t : ℕ
    t = symbols_in l e

    n : ℕ
    n = blocks_in t b

    larger : ℕ
    larger = t % n

    many : larger ≡ larger_blocks t n
    many = mod-eq-sub-div-mul t n

    of : ℕ → ℕ
    of size = size * max_n / b

    first : (k : ℕ) → 0 ≤ k → k < 0 + larger → f k ≡ f 0
    first k from lt = ap of (size_large t n k (omega (arith, lt, many)) ∙ sym (size_large t n 0 (omega (arith, lt, many))))

    last : (k : ℕ) → 0 + larger ≤ k → k < 0 + larger + (n - larger) → f k ≡ f (n - 1)
    last k from lt = ap of (size_small t n k (omega (arith, from, many)) ∙ sym (size_small t n (n - 1) (omega (arith, from, lt, many))))

-- as the call counts it
pub by_sizes : (c : Cut) (len e wide symbols count larger first last : ℕ) → c.l ≡ Some len → wide ≡ e → e ≡ c.e → symbols ≡ div_ceil len wide → count ≡ blocks c → larger ≡ symbols % count → larger ≤ count
    → first ≡ encoding_symbols c 0 → last ≡ encoding_symbols c (count - 1)
    → larger * first + (count - larger) * last ≡ sum_by (encoding_symbols c) (range_with_len 0 (blocks c))
by_sizes c len e wide symbols count larger first last object wide-is e-is symbols-is count-is larger-is le first-is last-is =
    ap (λ x. x * first + (count - x) * last) larger-here
    ∙ ap (λ k. symbols_in len c.e % k * first + (k - symbols_in len c.e % k) * last) count-is
    ∙ ap (λ x. symbols_in len c.e % blocks c * x + (blocks c - symbols_in len c.e % blocks c) * last) first-is
    ∙ ap (λ x. symbols_in len c.e % blocks c * encoding_symbols c 0 + (blocks c - symbols_in len c.e % blocks c) * x) (last-is ∙ ap (λ k. encoding_symbols c (k - 1)) count-is)
    ∙ subst (λ (k : Cut). symbols_in len c.e % blocks k * encoding_symbols k 0 + (blocks k - symbols_in len c.e % blocks k) * encoding_symbols k (blocks k - 1) ≡ sum_by (encoding_symbols k) (range_with_len 0 (blocks k)))
    (sym (cut_is c len object)) (sym (in_sizes len c.e c.b c.max_n within))
  where
    many : symbols ≡ symbols_in len c.e
    many = symbols-is ∙ ap (div_ceil len) (wide-is ∙ e-is)

    larger-here : larger ≡ symbols_in len c.e % count
    larger-here = larger-is ∙ ap (λ t. t % count) many

    within : symbols_in len c.e % blocks (cut_of len c.e c.b c.max_n) ≤ blocks (cut_of len c.e c.b c.max_n)
    within =
        subst (λ (k : Cut). symbols_in len c.e % blocks k ≤ blocks k) (cut_is c len object)
        (subst (λ k. symbols_in len c.e % k ≤ k) count-is (omega (arith, le, larger-here)))

encoded_here : (p : Settings) (kind : Kind) (info : Option (List ℕ)) (octets : List ℕ) (block : ℕ) → IsSound (cut_of (length octets) p.e p.b p.max_n)
    → block < blocks (cut_of (length octets) p.e p.b p.max_n)
    → encoded_in (shape_of p (Whole kind info octets)) block ≡ encoding_symbols (cut_of (length octets) p.e p.b p.max_n) block
encoded_here p kind info octets block sound there =
    taken (is_full (shape_of p (Whole kind info octets)) block) _ _
    (same_eqb (closed_in (shape_of p (Whole kind info octets)) block) (source_symbols (shape_of p (Whole kind info octets)).cut block) (closed_here p kind info octets block sound there))

abbrev pub info_count : Bool → ℕ
info_count info = elim info as (λ x. ℕ) [ true ↦ 1 | false ↦ 0 ]

pub object_has : (r : EntryReads) (h : HeldObject) → IsObject r h
    → repairable_from (shape_of r.p r.object) 0 ≡ info_count (is_some h.info) + sum_by (encoding_symbols h.cut) (range_with_len 0 (blocks h.cut))
object_has r h is =
    ap (λ (o : Rattle.norm_order.specs.Entries.Object). repairable_from (shape_of r.p o) 0) is.object
    ∙ ap (λ k. info_count (is_some h.info) + sum_by (encoded_in (shape_of r.p (object_in r.ring h))) (range_with_len 0 k)) (let z : blocks c - 0 ≡ blocks c = omega arith in z)
    ∙ ap (λ k. info_count (is_some h.info) + k)
    (sum_same (encoded_in (shape_of r.p (object_in r.ring h))) (encoding_symbols c) 0 (blocks c)
    (λ k from lt. encoded_here r.p h.kind h.info (take (octets_of h.cut) (octets_in r.ring h)) k sound (omega (arith, lt))))
    ∙ ap (λ (k : Cut). info_count (is_some h.info) + sum_by (encoding_symbols k) (range_with_len 0 (blocks k))) (sym is.placed.holds.cut)
  where
    c : Cut
    c = cut_of (length (take (octets_of h.cut) (octets_in r.ring h))) r.p.e r.p.b r.p.max_n

    sound : IsSound c
    sound = subst IsSound is.placed.holds.cut is.placed.sound

-- ---- a stream's

ceil_is : (m b r : ℕ) → r < b → div_ceil (m * b + r) b ≡ m + min 1 r
ceil_is m b r lt = go (div-add-mod' (m * b + r) b) (mod-lt (m * b + r) (let z : 0 < b = omega (arith, lt) in z))
  where
    quotient : (x y q s : ℕ) → q * x + s ≡ y * x + r → s < x → r < x → (q ≡ y) × (s ≡ r)
    quotient x y q s same less more = elim (cases_lt q y) [
      | inl low ↦ absurd (let z = Rattle.std.proofs.Math.Nat.mul-le-mul_right x (let w : q + 1 ≤ y = omega (arith, low) in w) in omega (arith, z, same, less, (let e : (q + 1) * x ≡ q * x + x = omega arith in e)))
      | inr ge ↦ elim (cases_lt y q) [
        | inl high ↦ absurd (let z = Rattle.std.proofs.Math.Nat.mul-le-mul_right x (let w : y + 1 ≤ q = omega (arith, high) in w) in omega (arith, z, same, more, (let e : (y + 1) * x ≡ y * x + x = omega arith in e)))
        | inr le ↦
            let e : q ≡ y = omega (arith, ge, le) in
            (e, omega (arith, same, ap (λ k. k * x) e))
      ]
    ]

    go : (m * b + r) / b * b + (m * b + r) % b ≡ m * b + r → (m * b + r) % b < b → div_ceil (m * b + r) b ≡ m + min 1 r
    go same less =
        let is = quotient b m ((m * b + r) / b) ((m * b + r) % b) same less lt in
        omega (arith, is.0, is.1)

-- blocks that are full, and the segments of the open one
full_and_open : (p : Settings) (parts : List Part) (first q r : ℕ) → closed_of p parts ≡ (first + q) * p.b + r → r < p.b
    → sum_by (encoded_in (shape_of p (Stream parts))) (range_with_len first (closed_blocks (shape_of p (Stream parts)) - first))
    ≡ q * encoding_symbols (stream_cut p.e p.b p.max_n) first + r
full_and_open p parts first q r many lt =
    ap (λ k. sum_by f (range_with_len first k)) (let z : closed_blocks (shape_of p (Stream parts)) - first ≡ q + min 1 r = omega (arith, count) in z)
    ∙ sum_split f first q (min 1 r)
    ∙ ap (λ x. x + sum_by f (range_with_len (first + q) (min 1 r))) (sum_flat f first q n full)
    ∙ ap (λ x. q * n + x) (rest (cases_lt 0 r))
  where
    f : ℕ → ℕ
    f = encoded_in (shape_of p (Stream parts))

    n : ℕ
    n = encoding_symbols (stream_cut p.e p.b p.max_n) first

    count : closed_blocks (shape_of p (Stream parts)) ≡ first + q + min 1 r
    count = ap (λ k. div_ceil k p.b) many ∙ ceil_is (first + q) p.b r lt

    full : (k : ℕ) → first ≤ k → k < first + q → f k ≡ n
    full k from below =
        taken (is_full (shape_of p (Stream parts)) k) _ _ (full_is p parts k
        (let up = Rattle.std.proofs.Math.Nat.mul-le-mul_right p.b (let w : k + 1 ≤ first + q = omega (arith, below) in w) in
        omega (arith, up, many, (let e : (k + 1) * p.b ≡ k * p.b + p.b = omega arith in e))))

    rest : (0 < r) ⊎ (r ≤ 0) → sum_by f (range_with_len (first + q) (min 1 r)) ≡ r
    rest (inr none) = ap (λ k. sum_by f (range_with_len (first + q) k)) (let z : min 1 r ≡ 0 = omega (arith, none) in z) ∙ (let z : 0 ≡ r = omega (arith, none) in z)
    rest (inl some) =
        ap (λ k. sum_by f (range_with_len (first + q) k)) (let z : min 1 r ≡ 1 = omega (arith, some) in z)
        ∙ (let z : 0 + f (first + q) ≡ f (first + q) = omega arith in z)
        ∙ refused (is_full (shape_of p (Stream parts)) (first + q)) _ _ (not_full p parts (first + q) (omega (arith, lt)) (omega (arith, many, lt)))
        ∙ (let z : min p.b (closed_of p parts - ((first + q) * p.b + 0)) ≡ r = omega (arith, many, lt) in z)

-- as the call counts it
pub by_segments : (p : Settings) (parts : List Part) (s : StreamState) (plan : Cut) (sources b segments closed first from kept encoded wide : ℕ) → StandsFor p parts s → IsSound plan → plan ≡ s.cut → first ≡ s.first
    → sources ≡ source_symbols plan first → b ≡ sources → segments ≡ closed_segments s → closed ≡ segments → from ≡ first → kept ≡ closed - from * b
    → encoded ≡ encoding_symbols plan first → wide ≡ encoded
    → kept / b * wide + kept % b ≡ repairable_from (shape_of p (Stream parts)) s.first
by_segments p parts s plan sources b segments closed first from kept encoded wide st sound plan-is first-is sources-is b-is segments-is closed-is from-is kept-is encoded-is wide-is =
    ap (λ k. kept / b * k + kept % b) (wide-is ∙ encoded-is ∙ ap (λ (c : Cut). encoding_symbols c first) (plan-is ∙ st.cut))
    ∙ sym (full_and_open p parts first (kept / b) (kept % b) many (subst (λ k. kept % b < k) b-here (mod-lt kept some)))
    ∙ (let z : in_all first ≡ 0 + in_all first = omega arith in z)
    ∙ ap (λ k. 0 + in_all k) first-is
  where
    in_all : ℕ → ℕ
    in_all k = sum_by (encoded_in (shape_of p (Stream parts))) (range_with_len k (closed_blocks (shape_of p (Stream parts)) - k))

    b-here : b ≡ p.b
    b-here = b-is ∙ sources-is ∙ ap (λ (c : Cut). source_symbols c first) (plan-is ∙ st.cut)

    some : 0 < b
    some = omega (arith, sound.least_b, ap (λ (c : Cut). c.b) (plan-is ∙ st.cut), b-here)

    many : closed_of p parts ≡ (first + kept / b) * p.b + kept % b
    many =
        let cut : s.cut.b ≡ p.b = ap (λ (c : Cut). c.b) st.cut in
        let here : closed_segments s ≡ s.first * p.b + length s.rows = ap (λ k. s.first * k + length s.rows) cut in
        let gone : from * b ≡ s.first * p.b = ap (λ k. k * b) (from-is ∙ first-is) ∙ ap (λ k. s.first * k) b-here in
        let left : kept / b * p.b ≡ kept / b * b = ap (λ k. kept / b * k) (sym b-here) in
        let front : first * p.b ≡ s.first * p.b = ap (λ k. k * p.b) first-is in
        let both : (first + kept / b) * p.b ≡ first * p.b + kept / b * p.b = Rattle.std.proofs.Math.Nat.add-mul first (kept / b) p.b in
        omega (arith, counted p parts s st, here, gone, left, front, both, div-add-mod' kept b, kept-is, closed-is, segments-is)
