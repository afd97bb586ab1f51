-- Pieces of one length in a row are the list that they were cut from, whatever stands behind its end in the last.
use Rattle.std.proofs.Common.{◌≡◌, ℕ, zero, suc, ◌+◌, ◌-◌, ◌*◌, ◌<◌, ◌≤◌, sym, ap, ◌∙◌, subst, arith, List, ◌++◌, length, take, drop}
use Rattle.std.specs.List.{flat_map, range_with_len}
use Rattle.std.proofs.lemmas.Grind.{div_ceil_times}
use Rattle.std.proofs.lemmas.List.{length-take, take_all, append_assoc, append-nil}
use Rattle.std.proofs.Math.Seq.{take-append-add, take-add}
use Rattle.std.proofs.Math.Nat.{add-mul, mul-le-mul_right}
use Rattle.fec_plan.specs.Partition.{symbols_in, block_size, symbols_before}
use Rattle.fec_plan.proofs.CoverLemmas.{before_step, all_before}

-- these octets begin as the first `number` pieces of e octets do, up to the object's length
abbrev pub IsFront : ℕ → List ℕ → ℕ → List ℕ → Type 0
IsFront e octets number front = take (length octets) front ≡ take (number * e) octets

-- a piece more
pub piece : (e : ℕ) (octets : List ℕ) (number : ℕ) (front next : List ℕ) → number * e < length octets → IsFront e octets number front
    → take (length octets - number * e) next ≡ take e (drop (number * e) octets) → IsFront e octets (number + 1) (front ++ next)
piece e octets number front next lt is more =
    let l : ℕ = length octets in
    let at : ℕ = number * e in
    let same : length (take l front) ≡ length (take at octets) = ap (λ (xs : List ℕ). length xs) is in
    let long : length front ≡ at = omega (arith, same, length-take l front, length-take at octets, lt) in
    let whole : front ≡ take at octets = sym (take_all l front (omega (arith, long, lt))) ∙ is in
    let end : (number + 1) * e ≡ at + e = add-mul number 1 e ∙ (let z : at + 1 * e ≡ at + e = omega arith in z) in
    ap (λ n. take n (front ++ next)) (let z : l ≡ length front + (l - at) = omega (arith, long, lt) in z)
    ∙ take-append-add front next (l - at)
    ∙ ap (λ xs. front ++ xs) more
    ∙ ap (λ xs. xs ++ take e (drop at octets)) whole
    ∙ sym (take-add at e octets)
    ∙ ap (λ n. take n octets) (sym end)

-- what holds of a front, and is kept by each piece, holds after them all
pub walked : (P : ℕ → List ℕ → Type 0) (f : ℕ → List ℕ) (top : ℕ) → ((j : ℕ) (front : List ℕ) → j < top → P j front → P (j + 1) (front ++ f j))
    → (a n : ℕ) → a + n ≤ top → (front : List ℕ) → P a front → P (a + n) (front ++ flat_map f (range_with_len a n))
walked P f top step a zero within front h =
    subst (λ (xs : List ℕ). P (a + 0) xs) (sym (append-nil front)) (subst (λ (i : ℕ). P i front) (let z : a ≡ a + 0 = omega arith in z) h)
walked P f top step a (suc n) within front h =
    let next = walked P f top step (a + 1) n (omega (arith, within)) (front ++ f a) (step a front (omega (arith, within)) h) in
    subst (λ (xs : List ℕ). P (a + suc n) xs) (append_assoc front (f a) (flat_map f (range_with_len (a + 1) n)))
    (subst (λ (i : ℕ). P i ((front ++ f a) ++ flat_map f (range_with_len (a + 1) n))) (let z : a + 1 + n ≡ a + suc n = omega arith in z) next)

-- ---- numbers of symbols

before_rises : (t n block more : ℕ) → symbols_before t n block ≤ symbols_before t n (block + more)
before_rises t n block zero = let e : symbols_before t n (block + 0) ≡ symbols_before t n block = ap (symbols_before t n) (let z : block + 0 ≡ block = omega arith in z) in omega (arith, e)
before_rises t n block (suc more) =
    let e : symbols_before t n (block + suc more) ≡ symbols_before t n (block + more + 1) = ap (symbols_before t n) (let z : block + suc more ≡ block + more + 1 = omega arith in z) in
    let step = before_step t n (block + more) in
    let rest = before_rises t n block more in
    omega (arith, e, step, rest)

-- a source symbol of a block has a number below that of all symbols
pub number_low : (t n block symbol : ℕ) → block < n → symbol < block_size t n block → symbols_before t n block + symbol < t
number_low t n block symbol lt within =
    let step = before_step t n block in
    let rises = before_rises t n (block + 1) (n - (block + 1)) in
    let e : symbols_before t n (block + 1 + (n - (block + 1))) ≡ symbols_before t n n = ap (symbols_before t n) (let z : block + 1 + (n - (block + 1)) ≡ n = omega (arith, lt) in z) in
    let all = all_before t n (omega (arith, lt)) in
    omega (arith, step, rises, e, all, within)

-- a symbol begins before the object's end
pub begins_within : (l e number : ℕ) → 0 < e → number < symbols_in l e → number * e < l
begins_within l e number some lt =
    let down : symbols_in l e * e < l + e = (div_ceil_times l e some).1 in
    let up : (number + 1) * e ≤ symbols_in l e * e = mul-le-mul_right e (let z : number + 1 ≤ symbols_in l e = omega (arith, lt) in z) in
    let next : (number + 1) * e ≡ number * e + 1 * e = add-mul number 1 e in
    omega (arith, down, up, next)
