-- Segments by their numbers, and ranges of numbers in pieces.
use Rattle.std.proofs.Common.{◌≡◌, ℕ, zero, suc, ◌+◌, ◌-◌, ◌*◌, ◌%◌, ◌<◌, ◌≤◌, Bool, true, false, refl, ap, ◌∙◌, arith, List, ◌∷◌, ◌++◌, take, drop, map}
use Rattle.std.specs.Prelude.{replicate, ◌&&◌}
use Rattle.std.specs.List.{range_with_len, list_all}
use Rattle.std.proofs.lemmas.List.{drop-map, map-append}
use Rattle.std.proofs.lemmas.List.FromFn.{take-map-range_with_len}
use Rattle.std.proofs.lemmas.Nat.{div-mul-add, mod-mul-add}
use Rattle.fec_plan.specs.Points.{Position, position}
use Rattle.stream_buffer.specs.HeldState.{place_of, was_sent, marks_of}

-- the segment that stands at a symbol of a block
pub place_is : (index b block symbol : ℕ) → symbol < b → place_of index b (block * b + symbol) ≡ position index block symbol
place_is index b block symbol lt =
    ap (λ k. position index k ((block * b + symbol) % b)) (div-mul-add block b symbol lt) ∙ ap (position index block) (mod-mul-add block b symbol lt)

pub range_split : (a m n : ℕ) → range_with_len a (m + n) ≡ range_with_len a m ++ range_with_len (a + m) n
range_split a zero n = ap (range_with_len a) (let e : zero + n ≡ n = omega arith in e) ∙ ap (λ k. range_with_len k n) (let e : a ≡ a + zero = omega arith in e)
range_split a (suc m) n =
    ap (range_with_len a) (let e : suc m + n ≡ suc (m + n) = omega arith in e)
    ∙ ap (λ xs. a ∷ xs) (range_split (a + 1) m n ∙ ap (λ k. range_with_len (a + 1) m ++ range_with_len k n) (let e : a + 1 + m ≡ a + suc m = omega arith in e))

drop_range : (a n k : ℕ) → k ≤ n → drop k (range_with_len a n) ≡ range_with_len (a + k) (n - k)
drop_range a n zero le =
    ap (λ k. range_with_len k n) (let e : a ≡ a + zero = omega arith in e) ∙ ap (range_with_len (a + zero)) (let e : n ≡ n - zero = omega arith in e)
drop_range a zero (suc k) le = absurd (omega arith)
drop_range a (suc n) (suc k) le =
    drop_range (a + 1) n k (omega arith)
    ∙ ap (λ j. range_with_len j (n - k)) (let e : a + 1 + k ≡ a + suc k = omega arith in e)
    ∙ ap (range_with_len (a + suc k)) (let e : n - k ≡ suc n - suc k = omega arith in e)

pub marks_dropped : (index b : ℕ) (sent : List Position) (from count k : ℕ) → k ≤ count → drop k (marks_of index b sent from count) ≡ marks_of index b sent (from + k) (count - k)
marks_dropped index b sent from count k le =
    drop-map (was_sent index b sent) k (range_with_len from count) ∙ ap (map (was_sent index b sent)) (drop_range from count k le)

pub marks_taken : (index b : ℕ) (sent : List Position) (from count k : ℕ) → k ≤ count → take k (marks_of index b sent from count) ≡ marks_of index b sent from k
marks_taken index b sent from count k le = take-map-range_with_len (was_sent index b sent) from count k le

pub marks_more : (index b : ℕ) (sent : List Position) (from m n : ℕ) → marks_of index b sent from (m + n) ≡ marks_of index b sent from m ++ marks_of index b sent (from + m) n
marks_more index b sent from m n =
    ap (map (was_sent index b sent)) (range_split from m n) ∙ map-append (was_sent index b sent) (range_with_len from m) (range_with_len (from + m) n)

-- numbers of which none passes
pub none_pass : (f : ℕ → Bool) (a n : ℕ) → ((k : ℕ) → a ≤ k → k < a + n → f k ≡ false) → map f (range_with_len a n) ≡ replicate n false
none_pass f a zero fails = refl
none_pass f a (suc n) fails =
    ap (λ b. b ∷ map f (range_with_len (a + 1) n)) (fails a (omega arith) (omega arith))
    ∙ ap (λ bs. false ∷ bs) (none_pass f (a + 1) n (λ k low high. fails k (omega arith) (omega arith)))

-- numbers of which all pass
pub all_pass : (f : ℕ → Bool) (a n : ℕ) → ((k : ℕ) → a ≤ k → k < a + n → f k ≡ true) → list_all f (range_with_len a n) ≡ true
all_pass f a zero passes = refl
all_pass f a (suc n) passes =
    ap (λ b. b && list_all f (range_with_len (a + 1) n)) (passes a (omega arith) (omega arith))
    ∙ all_pass f (a + 1) n (λ k low high. passes k (omega arith) (omega arith))

-- two tests that say the same, of numbers that are some apart
pub all_same : (f g : ℕ → Bool) (a c n : ℕ) → ((k : ℕ) → k < n → f (a + k) ≡ g (c + k)) → list_all f (range_with_len a n) ≡ list_all g (range_with_len c n)
all_same f g a c zero same = refl
all_same f g a c (suc n) same =
    ap (λ b. b && list_all f (range_with_len (a + 1) n)) (ap f (let e : a ≡ a + 0 = omega arith in e) ∙ same 0 (omega arith) ∙ ap g (let e : c + 0 ≡ c = omega arith in e))
    ∙ ap (λ b. g c && b) (all_same f g (a + 1) (c + 1) n (λ k lt.
    ap f (let e : a + 1 + k ≡ a + suc k = omega arith in e) ∙ same (suc k) (omega arith) ∙ ap g (let e : c + suc k ≡ c + 1 + k = omega arith in e)))

-- so many blocks fewer are so many segments fewer
pub times_less : (x y b : ℕ) → y ≤ x → (x - y) * b ≡ x * b - y * b
times_less x y b le =
    let whole : x * b ≡ (y + (x - y)) * b = ap (λ n. n * b) (let e : x ≡ y + (x - y) = omega arith in e) in
    let parts : (y + (x - y)) * b ≡ y * b + (x - y) * b = omega arith in
    omega (arith, whole, parts)

-- the number of a symbol, by the first block that is kept
pub place_at : (first block b f g x symbol : ℕ) → f ≡ first → g ≡ b → x ≡ symbol → first * b ≤ block * b → first ≤ block → first * b + ((block - f) * g + x) ≡ block * b + symbol
place_at first block b f g x symbol f-is g-is x-is low le =
    let same : (block - f) * g ≡ block * b - first * b = ap (λ n. (block - n) * g) f-is ∙ ap (λ n. (block - first) * n) g-is ∙ times_less block first b le in
    omega (arith, same, low, x-is)
