-- What a symbol that is put into a free place changes.
use Rattle.std.proofs.Common.{◌≡◌, ◌-◌, ℕ, zero, suc, ◌+◌, ◌*◌, ◌<◌, ◌≤◌, ◌⊎◌, inl, inr, List, [], ◌∷◌, ◌++◌, length, replicate, take, drop, set, get_or, cond, Option, Some, None, Bool, true, false, refl, sym, ap, ◌∙◌, arith}
use Rattle.std.specs.Prelude.{◌==◌, ◌≢◌, filter, slice_index, EachIndex, MatchOption, IsSome}
use Rattle.std.specs.List.{concat}
use Rattle.std.proofs.lemmas.Bool.{eqb-true, eq-eqb, ne_eqb, cases_eq}
use Rattle.std.proofs.lemmas.List.{length-append, length-replicate, length-take, length-drop, take-append-le, drop-append-le, take-take, drop-take, drop-drop, take_at, drop_at, take-append-drop, get_or-set_same, get_or-set_other, length-set}
use Rattle.std.proofs.lemmas.List.Sums.{length-filter}
use Rattle.std.proofs.Math.Nat.{suc-mul, mul-le-mul_right}
use Rattle.gf_field.specs.Symbol.{given}
use Rattle.norm_order.specs.Symbols.{padded}
use Rattle.rx_object.specs.Places.{pieces, free_places, AreApart, has_id, with_one}

-- ---- ids

-- an id that does not lie there is at no place
pub absent : (q : ℕ) (ids : List ℕ) → has_id q ids ≡ false → (i d : ℕ) → i < length ids → get_or ids i d ≢ q
absent q [] none i d lt e = absurd (omega arith)
absent q (x ∷ xs) none i d lt e = go (absent q xs) (x == q) refl i lt e
  where
    go : (has_id q xs ≡ false → (i d : ℕ) → i < length xs → get_or xs i d ≢ q) → (b : Bool) → (x == q) ≡ b → (i : ℕ) → i < length (x ∷ xs) → get_or (x ∷ xs) i d ≡ q → ⊥
    go rest b same zero lt e = absurd (cc (none, eq-eqb x q e))
    go rest true same (suc i) lt e = absurd (cc (none, same))
    go rest false same (suc i) lt e = rest (cc (none, same)) i d (omega arith) e

-- where no place is free, none is
pub none_free : (ids : List ℕ) → ((i : ℕ) → i < length ids → get_or ids i 0 ≢ 255) → free_places ids ≡ 0
none_free ids each = sym (length-filter (λ id. id == 255) ids) ∙ ap length (none_of ids each)
  where
    none_of : (ids : List ℕ) → ((i : ℕ) → i < length ids → get_or ids i 0 ≢ 255) → filter (λ id. id == 255) ids ≡ []
    none_of [] each = refl
    none_of (x ∷ xs) each =
        ap (λ b. cond b (x ∷ filter (λ id. id == 255) xs) (filter (λ id. id == 255) xs)) (ne_eqb x 255 (each 0 (omega arith)))
        ∙ none_of xs (λ i lt. each (suc i) (omega arith))

-- where none is free, each place has a symbol
pub all_taken : (ids : List ℕ) → free_places ids ≡ 0 → (i d : ℕ) → i < length ids → get_or ids i d ≢ 255
all_taken ids none i d lt = taken ids (length-filter (λ id. id == 255) ids ∙ none) i lt
  where
    taken : (ids : List ℕ) → length (filter (λ id. id == 255) ids) ≡ 0 → (i : ℕ) → i < length ids → get_or ids i d ≢ 255
    taken [] none i lt e = absurd (omega arith)
    taken (x ∷ xs) none i lt e = go (x == 255) refl none i lt e (taken xs)
      where
        go : (b : Bool) → (x == 255) ≡ b → length (cond b (x ∷ filter (λ id. id == 255) xs) (filter (λ id. id == 255) xs)) ≡ 0
            → (i : ℕ) → i < length (x ∷ xs) → get_or (x ∷ xs) i d ≡ 255
            → (length (filter (λ id. id == 255) xs) ≡ 0 → (i : ℕ) → i < length xs → get_or xs i d ≢ 255) → ⊥
        go true same none i lt e rest = absurd (omega (arith, none))
        go false same none zero lt e rest = absurd (cc (same, eq-eqb x 255 e))
        go false same none (suc i) lt e rest = rest none i (omega arith) e

-- where a place is free, there is one
pub some_places : (ids : List ℕ) → 1 ≤ free_places ids → 1 ≤ length ids
some_places [] some = absurd (omega (arith, some, length-filter (λ id. id == 255) []))
some_places (x ∷ xs) some = omega arith

pub some_free : (ids : List ℕ) (o : Option ℕ) → 0 < free_places ids
    → MatchOption o (EachIndex ids (λ i. slice_index ids i ≢ 255)) (λ i. (i < length ids) × (slice_index ids i ≡ 255)) → IsSome o
some_free ids (Some i) some found = refl
some_free ids None some found = absurd (let none = none_free ids found in omega (arith, some, none))

pub apart_with : (q : ℕ) (ids : List ℕ) (p : ℕ) → AreApart ids → has_id q ids ≡ false → p < length ids → AreApart (set ids p q)
apart_with q ids p apart new within i j d before lt same =
    go (cases_eq i p) (cases_eq j p)
  where
    there : j < length ids
    there = omega (arith, length-set ids p q)

    go : (i ≡ p) ⊎ (i ≢ p) → (j ≡ p) ⊎ (j ≢ p) → get_or (set ids p q) i d ≡ 255
    go (inl e) (inl f) = absurd (omega arith)
    go (inl e) (inr f) =
        absurd (absent q ids new j d there
        (sym (get_or-set_other ids p j q d f) ∙ sym same ∙ ap (λ n. get_or (set ids p q) n d) e ∙ get_or-set_same ids p q d within))
    go (inr e) (inl f) =
        absurd (absent q ids new i d (omega (arith, there))
        (sym (get_or-set_other ids p i q d e) ∙ same ∙ ap (λ n. get_or (set ids p q) n d) f ∙ get_or-set_same ids p q d within))
    go (inr e) (inr f) =
        get_or-set_other ids p i q d e
        ∙ apart i j d before there (sym (get_or-set_other ids p i q d e) ∙ same ∙ get_or-set_other ids p j q d f)

-- ---- symbols in a row

pub length-padded : (size : ℕ) (octets : List ℕ) → length octets ≤ size → length (padded size octets) ≡ size
length-padded size octets le = omega (arith, length-append octets (replicate (size - length octets) 0), length-replicate {A = ℕ} (size - length octets) 0)

pub length-pieces : (size k : ℕ) (row : List ℕ) → length (pieces size k row) ≡ k
unfolding pieces
length-pieces size zero row = refl
length-pieces size (suc k) row = ap suc (length-pieces size k (drop size row))

pub concat_pieces : (size k : ℕ) (row : List ℕ) → length row ≡ k * size → concat (pieces size k row) ≡ row
unfolding pieces
concat_pieces size zero [] long = refl
concat_pieces size zero (x ∷ xs) long = absurd (omega arith)
concat_pieces size (suc k) row long =
    ap (λ xs. take size row ++ xs) (concat_pieces size k (drop size row) (omega (arith, length-drop size row)))
    ∙ take-append-drop size row

first_put : (size k : ℕ) (row new : List ℕ) → length new ≡ size
    → ◌≡◌ {A = List (List ℕ)} (take size (new ++ drop size row) ∷ pieces size k (drop size (new ++ drop size row))) (new ∷ pieces size k (drop size row))
first_put size k row new fits =
    ap (λ xs. xs ∷ pieces size k (drop size (new ++ drop size row))) (take_at new (drop size row) size fits)
    ∙ ap (λ xs. new ∷ pieces size k xs) (drop_at new (drop size row) size fits)

-- a row after a write to one place
pub pieces_put : (size k p a w : ℕ) (row new : List ℕ) → length row ≡ k * size → a ≡ p * size → w ≡ size → p < k → length new ≡ size
    → pieces size k (take a row ++ (new ++ drop w (drop a row))) ≡ set (pieces size k row) p new
unfolding pieces
pieces_put size zero p a w row new long at wide below fits = absurd (omega arith)
pieces_put size (suc k) zero a w row new long at wide below fits =
    let none : a ≡ 0 = omega (arith, at) in
    ap (λ n. pieces size (suc k) (take n row ++ (new ++ drop w (drop n row)))) none
    ∙ ap (λ n. pieces size (suc k) (new ++ drop n row)) wide
    ∙ first_put size k row new fits
pieces_put size (suc k) (suc p) a w row new long at wide below fits =
    let b : ℕ = p * size in
    let sum : a ≡ size + b = omega (arith, at, suc-mul p size) in
    let enough : size ≤ length (take a row) = omega (arith, length-take a row, long, sum, room) in
    ap (λ xs. xs ∷ pieces size k (drop size (take a row ++ (new ++ drop w (drop a row)))))
    (take-append-le size (take a row) (new ++ drop w (drop a row)) enough ∙ take-take size a row (omega (arith, sum)))
    ∙ ap (λ xs. take size row ∷ pieces size k xs)
    (drop-append-le size (take a row) (new ++ drop w (drop a row)) enough
    ∙ ap (λ n. drop size (take n row) ++ (new ++ drop w (drop n row))) sum
    ∙ ap (λ xs. xs ++ (new ++ drop w (drop (size + b) row))) (drop-take size b row)
    ∙ ap (λ xs. take b (drop size row) ++ (new ++ drop w xs)) (sym (drop-drop b size row)))
    ∙ ap (λ xs. take size row ∷ xs) (pieces_put size k p b w (drop size row) new (omega (arith, length-drop size row, long, suc-mul k size)) refl wide (omega arith) fits)
  where
    room : size ≤ length row
    room = omega (arith, long, suc-mul k size)

-- ---- symbols by their ids

flipped : (m n : ℕ) → (m == n) ≡ (n == m)
flipped m n = go (m == n) (n == m) refl refl
  where
    go : (b c : Bool) → (m == n) ≡ b → (n == m) ≡ c → b ≡ c
    go true true e f = refl
    go false false e f = refl
    go true false e f = absurd (cc (f, eq-eqb n m (sym (eqb-true m n e))))
    go false true e f = absurd (cc (e, eq-eqb m n (sym (eqb-true n m f))))

pub given_with : (q id p : ℕ) (ids : List ℕ) (xs : List (List ℕ)) (x : List ℕ) → length xs ≡ length ids → p < length ids → get_or ids p 0 ≡ 255
    → has_id q ids ≡ false → id < 255 → given (set ids p q) (set xs p x) id ≡ with_one q x (given ids xs) id
unfolding given
given_with q id p [] xs x long below free new small = absurd (omega arith)
given_with q id p (i ∷ is) [] x long below free new small = absurd (omega arith)
given_with q id zero (i ∷ is) (y ∷ ys) x long below free new small = go (q == id) (id == q) (i == id) (flipped q id) (ne_eqb i id (λ e. omega (arith, e, free)))
  where
    go : (b c d : Bool) → b ≡ c → d ≡ false
        → ◌≡◌ {A = Option (List ℕ)} (elim b [ true ↦ Some x | false ↦ given is ys id ])
        (elim c [ true ↦ Some x | false ↦ elim d [ true ↦ Some y | false ↦ given is ys id ] ])
    go b c true e f = absurd (cc f)
    go true true false e f = refl
    go false false false e f = refl
    go true false false e f = absurd (cc e)
    go false true false e f = absurd (cc e)
given_with q id (suc p) (i ∷ is) (y ∷ ys) x long below free new small =
    go (i == id) (id == q) refl refl (given (set is p q) (set ys p x) id)
    (given_with q id p is ys x (omega arith) (omega arith) free (tail_new (i == q) refl) small)
  where
    tail_new : (b : Bool) → (i == q) ≡ b → has_id q is ≡ false
    tail_new true e = absurd (cc (new, e))
    tail_new false e = cc (new, e)

    go : (b c : Bool) → (i == id) ≡ b → (id == q) ≡ c → (h : Option (List ℕ))
        → ◌≡◌ {A = Option (List ℕ)} h (elim c [ true ↦ Some x | false ↦ given is ys id ])
        → ◌≡◌ {A = Option (List ℕ)} (elim b [ true ↦ Some y | false ↦ h ])
        (elim c [ true ↦ Some x | false ↦ elim b [ true ↦ Some y | false ↦ given is ys id ] ])
    go true true e f h more = absurd (absent q (i ∷ is) new 0 0 (omega arith) (eqb-true i id e ∙ eqb-true id q f))
    go true false e f h more = refl
    go false true e f h more = more
    go false false e f h more = more

-- ---- a symbol that is kept

pub kept_symbols : (size q p w : ℕ) (ids row new payload : List ℕ) → length row ≡ length ids * size → p < length ids → get_or ids p 0 ≡ 255 → has_id q ids ≡ false
    → w ≡ size → length payload ≤ size → new ≡ padded (length (take w (drop (p * size) row))) payload → (id : ℕ) → id < 255
    → given (set ids p q) (pieces size (length ids) (take (p * size) row ++ (new ++ drop w (drop (p * size) row)))) id
    ≡ with_one q (padded size payload) (given ids (pieces size (length ids) row)) id
kept_symbols size q p w ids row new payload long within free none wide fits is id small =
    let over : suc p * size ≤ length ids * size = mul-le-mul_right size (omega (arith, within)) in
    let count : length (take w (drop (p * size) row)) ≡ size =
    omega (arith, length-take w (drop (p * size) row), length-drop (p * size) row, long, wide, over, suc-mul p size) in
    let whole : new ≡ padded size payload = is ∙ ap (λ n. padded n payload) count in
    ap (λ xs. given (set ids p q) xs id)
    (pieces_put size (length ids) p (p * size) w row new long refl wide within (ap length whole ∙ length-padded size payload fits)
    ∙ ap (set (pieces size (length ids) row) p) whole)
    ∙ given_with q id p ids (pieces size (length ids) row) (padded size payload) (length-pieces size (length ids) row) within free none small
