-- What is handed up of symbols that are padded in a row: as far as the object goes, the padding does not show.
use Rattle.std.proofs.Common.{◌≡◌, ◌-◌, ℕ, zero, suc, ◌+◌, ◌*◌, ◌<◌, ◌≤◌, ◌⊎◌, inl, inr, List, [], ◌∷◌, ◌++◌, length, map, take, drop, replicate, refl, sym, ap, ◌∙◌, subst, arith}
use Rattle.std.specs.Prelude.{flat_map}
use Rattle.std.specs.List.{concat, range_with_len, slice_range}
use Rattle.std.proofs.Math.Nat.{add-mul, suc-mul}
use Rattle.std.proofs.lemmas.List.{append-nil, drop-drop, take-append-le}
use Rattle.std.proofs.lemmas.List.Concat.{flat_map-cons}
use Rattle.norm_order.specs.Symbols.{padded}

take_over : (n : ℕ) (xs ys : List ℕ) → take n (xs ++ ys) ≡ take n xs ++ take (n - length xs) ys
take_over n [] ys = ap (λ m. take m ys) (let e : n ≡ n - 0 = omega arith in e) ∙ take_none n (take (n - 0) ys)
  where
    take_none : (n : ℕ) (zs : List ℕ) → zs ≡ take n [] ++ zs
    take_none zero zs = refl
    take_none (suc n) zs = refl
take_over zero (x ∷ xs) ys = ap (λ m. take m ys) (let e : 0 ≡ 0 - length (x ∷ xs) = omega arith in e)
take_over (suc n) (x ∷ xs) ys =
    ap (λ zs. x ∷ zs) (take_over n xs ys) ∙ ap (λ m. x ∷ (take n xs ++ take m ys)) (let e : n - length xs ≡ suc n - length (x ∷ xs) = omega arith in e)

-- each symbol is a whole one, or reaches as far as is taken
abbrev pub Covers : ℕ → ℕ → List (List ℕ) → Type 0
Covers size l [] = Unit {0}
Covers size l (s ∷ ss) = ((length s ≡ size) ⊎ (l ≤ length s)) × Covers size (l - size) ss

assoc : (xs ys zs : List ℕ) → (xs ++ ys) ++ zs ≡ xs ++ (ys ++ zs)
assoc [] ys zs = refl
assoc (x ∷ xs) ys zs = ap (λ r. x ∷ r) (assoc xs ys zs)

pub covered : (size l : ℕ) (ss : List (List ℕ)) (r r' : List ℕ) → Covers size l ss → take (l - length ss * size) r ≡ take (l - length ss * size) r'
    → take l (concat ss ++ r) ≡ take l (concat (map (padded size) ss) ++ r')
covered size l [] r r' covers same =
    ap (λ n. take n r) (let e : l ≡ l - 0 * size = omega arith in e) ∙ same ∙ ap (λ n. take n r') (let e : l - 0 * size ≡ l = omega arith in e)
covered size l (s ∷ ss) r r' covers same =
    ap (take l) (assoc s (concat ss) r)
    ∙ go covers.0
    (covered size (l - size) ss r r' covers.1
    (ap (λ n. take n r) (let e : l - size - length ss * size ≡ l - length (s ∷ ss) * size = omega (arith, suc-mul (length ss) size) in e)
    ∙ same
    ∙ ap (λ n. take n r') (let e : l - length (s ∷ ss) * size ≡ l - size - length ss * size = omega (arith, suc-mul (length ss) size) in e)))
    ∙ sym (ap (take l) (assoc (padded size s) (concat (map (padded size) ss)) r'))
  where
    go : (length s ≡ size) ⊎ (l ≤ length s) → take (l - size) (concat ss ++ r) ≡ take (l - size) (concat (map (padded size) ss) ++ r')
        → take l (s ++ (concat ss ++ r)) ≡ take l (padded size s ++ (concat (map (padded size) ss) ++ r'))
    go (inl whole) rest =
        take_over l s (concat ss ++ r)
        ∙ ap (λ n. take l s ++ take (l - n) (concat ss ++ r)) whole
        ∙ ap (λ xs. take l s ++ xs) rest
        ∙ ap (λ n. take l s ++ take (l - n) (concat (map (padded size) ss) ++ r')) (sym whole)
        ∙ sym (take_over l s (concat (map (padded size) ss) ++ r'))
        ∙ ap (λ xs. take l (xs ++ (concat (map (padded size) ss) ++ r'))) (sym (ap (λ n. s ++ replicate n 0) (let none : size - length s ≡ 0 = omega (arith, whole) in none) ∙ append-nil s))
    go (inr enough) rest =
        take-append-le l s (concat ss ++ r) enough
        ∙ sym (ap (take l) (assoc s (replicate (size - length s) 0) (concat (map (padded size) ss) ++ r'))
        ∙ take-append-le l s (replicate (size - length s) 0 ++ (concat (map (padded size) ss) ++ r')) enough)

pub covers_range : (size l : ℕ) (f : ℕ → List ℕ) (j n : ℕ) → ((m : ℕ) → m < j + n → (length (f m) ≡ size) ⊎ (l - m * size ≤ length (f m))) → Covers size (l - j * size) (map f (range_with_len j n))
covers_range size l f j zero each = tt
covers_range size l f j (suc n) each = (
  each j (omega arith),
  subst (λ m. Covers size m (map f (range_with_len (j + 1) n))) (let e : l - (j + 1) * size ≡ l - j * size - size = omega (arith, add-mul j 1 size) in e)
      (covers_range size l f (j + 1) n (λ m lt. each m (omega arith))),
)

-- ---- blocks

-- blocks of which each goes on to the next, as far as is taken
pub blocks_covered : (size l : ℕ) (start : ℕ → ℕ) (ss : ℕ → List (List ℕ)) (f row : ℕ → List ℕ) (a n : ℕ)
    → ((b : ℕ) → b < a + n → f b ≡ concat (ss b)) → ((b : ℕ) → b < a + n → row b ≡ concat (map (padded size) (ss b)))
    → ((b : ℕ) → b < a + n → Covers size (l - start b * size) (ss b)) → ((b : ℕ) → b < a + n → start (b + 1) ≡ start b + length (ss b))
    → take (l - start a * size) (flat_map f (range_with_len a n)) ≡ take (l - start a * size) (flat_map row (range_with_len a n))
blocks_covered size l start ss f row a zero fs rows covers next = refl
blocks_covered size l start ss f row a (suc n) fs rows covers next =
    ap (take (l - start a * size)) (flat_map-cons f a (range_with_len (a + 1) n) ∙ ap (λ xs. xs ++ flat_map f (range_with_len (a + 1) n)) (fs a (omega arith)))
    ∙ covered size (l - start a * size) (ss a) (flat_map f (range_with_len (a + 1) n)) (flat_map row (range_with_len (a + 1) n)) (covers a (omega arith))
    (ap (λ m. take m (flat_map f (range_with_len (a + 1) n))) far
    ∙ blocks_covered size l start ss f row (a + 1) n (λ b lt. fs b (omega arith)) (λ b lt. rows b (omega arith)) (λ b lt. covers b (omega arith)) (λ b lt. next b (omega arith))
    ∙ ap (λ m. take m (flat_map row (range_with_len (a + 1) n))) (sym far))
    ∙ ap (take (l - start a * size)) (sym (flat_map-cons row a (range_with_len (a + 1) n) ∙ ap (λ xs. xs ++ flat_map row (range_with_len (a + 1) n)) (rows a (omega arith))))
  where
    far : l - start a * size - length (ss a) * size ≡ l - start (a + 1) * size
    far =
        let sum : start (a + 1) * size ≡ (start a + length (ss a)) * size = ap (λ m. m * size) (next a (omega arith)) in
        omega (arith, sum, add-mul (start a) (length (ss a)) size)

take_both : (p q : ℕ) (xs : List ℕ) → take p xs ++ take q (drop p xs) ≡ take (p + q) xs
take_both zero q xs = ap (λ n. take n xs) (let e : q ≡ 0 + q = omega arith in e)
take_both (suc p) q [] = nothing q ∙ sym (nothing (suc p + q))
  where
    nothing : (n : ℕ) → ◌≡◌ {A = List ℕ} (take n []) []
    nothing zero = refl
    nothing (suc n) = refl
take_both (suc p) q (x ∷ xs) = ap (λ ys. x ∷ ys) (take_both p q xs) ∙ ap (λ n. take n (x ∷ xs)) (let e : suc (p + q) ≡ suc p + q = omega arith in e)

parts_join : (xs : List ℕ) (i j m : ℕ) → i ≤ j → j ≤ m → slice_range xs i j ++ slice_range xs j m ≡ slice_range xs i m
parts_join xs i j m le le' =
    ap (λ n. take (j - i) (drop i xs) ++ take (m - j) (drop n xs)) (let e : j ≡ i + (j - i) = omega (arith, le) in e)
    ∙ ap (λ ys. take (j - i) (drop i xs) ++ take (m - j) ys) (sym (drop-drop (j - i) i xs))
    ∙ take_both (j - i) (m - j) (drop i xs)
    ∙ ap (λ n. take n (drop i xs)) (let e : j - i + (m - j) ≡ m - i = omega (arith, le, le') in e)

-- parts one behind the other are the whole
pub rows_join : (xs : List ℕ) (start : ℕ → ℕ) (row : ℕ → List ℕ) (a n : ℕ) → ((b : ℕ) → b < a + n → start b ≤ start (b + 1)) → ((b : ℕ) → b < a + n → row b ≡ slice_range xs (start b) (start (b + 1)))
    → (start a ≤ start (a + n)) × (flat_map row (range_with_len a n) ≡ slice_range xs (start a) (start (a + n)))
rows_join xs start row a zero rising parts =
    let same : start a ≡ start (a + 0) = ap start (let e : a ≡ a + 0 = omega arith in e) in
    (omega (arith, same), ap (λ n. take n (drop (start a) xs)) (let e : 0 ≡ start (a + 0) - start a = omega (arith, same) in e))
rows_join xs start row a (suc n) rising parts =
    let more = rows_join xs start row (a + 1) n (λ b lt. rising b (omega arith)) (λ b lt. parts b (omega arith)) in
    let first = rising a (omega arith) in
    let same : start (a + 1 + n) ≡ start (a + suc n) = ap start (let e : a + 1 + n ≡ a + suc n = omega arith in e) in
    let le = more.0 in (
      omega (arith, first, le, same),
      flat_map-cons row a (range_with_len (a + 1) n)
          ∙ ap (λ ys. ys ++ flat_map row (range_with_len (a + 1) n)) (parts a (omega arith))
          ∙ ap (λ ys. slice_range xs (start a) (start (a + 1)) ++ ys) more.1
          ∙ parts_join xs (start a) (start (a + 1)) (start (a + 1 + n)) first le
          ∙ ap (slice_range xs (start a)) same,
    )
