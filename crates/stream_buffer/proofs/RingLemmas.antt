-- Rows of a ring, and what is put into one.
use Rattle.std.proofs.Common.{◌≡◌, ℕ, zero, suc, ◌+◌, ◌-◌, ◌*◌, ◌/◌, ◌%◌, ◌<◌, ◌≤◌, ◌⊎◌, inl, inr, refl, sym, ap, ◌∙◌, subst, arith, List, [], ◌∷◌, ◌++◌, length, length-append, append-nil, take, drop, map, replicate, get_or}
use Rattle.std.specs.Prelude.{slice_get, Some}
use Rattle.std.specs.List.{range_with_len, concat}
use Rattle.std.proofs.Math.Seq.{take-append-add, take-add}
use Rattle.std.proofs.Math.ListN.{drop_of_length-le}
use Rattle.std.proofs.Math.Nat.{mul-le-mul_right, suc-mul, mod-add-div', mod-lt}
use Rattle.std.proofs.lemmas.Bool.{cases_lt}
use Rattle.std.proofs.lemmas.List.{take_all, length-drop, length-take, length-replicate, get_or-take, get_or-drop, get_or_append_left, get_or-append_right, drop-drop, ext_get_or}
use Rattle.std.proofs.lemmas.List.FromFn.{length-map-range_with_len, get_or-map-range_with_len, map-range_with_len_more, take-map-range_with_len}
use Rattle.std.proofs.lemmas.Option.{slice_get-get_or}
use Rattle.stream_buffer.specs.RowsState.{over, row_at, rows_in, filling_in}
use Rattle.norm_order.specs.Symbols.{padded}

-- ---- octets put over others

pub length-over : (start : ℕ) (piece xs : List ℕ) → start + length piece ≤ length xs → length (over start piece xs) ≡ length xs
length-over start piece xs fits = omega (
  arith,
  fits,
  length-append (take start xs ++ piece) (drop (start + length piece) xs),
  length-append (take start xs) piece,
  length-take start xs,
  length-drop (start + length piece) xs,
)

front_long : (start : ℕ) (piece xs : List ℕ) → start + length piece ≤ length xs → length (take start xs ++ piece) ≡ start + length piece
front_long start piece xs fits = omega (arith, fits, length-append (take start xs) piece, length-take start xs)

before_over : (start : ℕ) (piece xs : List ℕ) (i : ℕ) → start + length piece ≤ length xs → i < start
    → get_or (over start piece xs) i 0 ≡ get_or xs i 0
before_over start piece xs i fits lt =
    get_or_append_left (take start xs ++ piece) (drop (start + length piece) xs) 0 i (omega (arith, lt, front_long start piece xs fits))
    ∙ get_or_append_left (take start xs) piece 0 i (omega (arith, lt, fits, length-take start xs))
    ∙ get_or-take start xs i 0 lt

in_over : (start : ℕ) (piece xs : List ℕ) (i : ℕ) → start + length piece ≤ length xs → start ≤ i → i < start + length piece
    → get_or (over start piece xs) i 0 ≡ get_or piece (i - start) 0
in_over start piece xs i fits ge lt =
    get_or_append_left (take start xs ++ piece) (drop (start + length piece) xs) 0 i (omega (arith, lt, front_long start piece xs fits))
    ∙ get_or-append_right (take start xs) piece start i 0 (omega (arith, fits, length-take start xs)) ge

behind_over : (start : ℕ) (piece xs : List ℕ) (i : ℕ) → start + length piece ≤ length xs → start + length piece ≤ i
    → get_or (over start piece xs) i 0 ≡ get_or xs i 0
behind_over start piece xs i fits ge =
    get_or-append_right (take start xs ++ piece) (drop (start + length piece) xs) (start + length piece) i 0 (front_long start piece xs fits) ge
    ∙ get_or-drop (start + length piece) xs (i - (start + length piece)) 0
    ∙ ap (λ k. get_or xs k 0) (let same : start + length piece + (i - (start + length piece)) ≡ i = omega (arith, ge) in same)

-- ---- a row

pub length-row : (size : ℕ) (ring : List ℕ) (place : ℕ) → place * size + size ≤ length ring → length (row_at size ring place) ≡ size
length-row size ring place fits = omega (arith, fits, length-take size (drop (place * size) ring), length-drop (place * size) ring)

read_row : (size : ℕ) (ring : List ℕ) (place i : ℕ) → i < size → get_or (row_at size ring place) i 0 ≡ get_or ring (place * size + i) 0
read_row size ring place i lt = get_or-take size (drop (place * size) ring) i 0 lt ∙ get_or-drop (place * size) ring i 0

-- another row stays
pub row_other : (size : ℕ) (ring piece : List ℕ) (start other : ℕ) → start + length piece ≤ length ring → other * size + size ≤ length ring
    → (other * size + size ≤ start) ⊎ (start + length piece ≤ other * size)
    → row_at size (over start piece ring) other ≡ row_at size ring other
row_other size ring piece start other fits within apart =
    ext_get_or 0 (row_at size (over start piece ring) other) (row_at size ring other) (long ∙ sym (length-row size ring other within))
    (λ i lt.
    let under : i < size = omega (arith, lt, long) in
    read_row size (over start piece ring) other i under ∙ go i under apart ∙ sym (read_row size ring other i under))
  where
    long : length (row_at size (over start piece ring) other) ≡ size
    long = length-row size (over start piece ring) other (omega (arith, within, length-over start piece ring fits))

    go : (i : ℕ) → i < size → (other * size + size ≤ start) ⊎ (start + length piece ≤ other * size)
        → get_or (over start piece ring) (other * size + i) 0 ≡ get_or ring (other * size + i) 0
    go i lt (inl front) = before_over start piece ring (other * size + i) fits (omega (arith, lt, front))
    go i lt (inr back) = behind_over start piece ring (other * size + i) fits (omega (arith, lt, back))

-- and its own row has the piece
pub row_here : (size : ℕ) (ring piece : List ℕ) (place at : ℕ) → at + length piece ≤ size → place * size + size ≤ length ring
    → row_at size (over (place * size + at) piece ring) place ≡ over at piece (row_at size ring place)
row_here size ring piece place at within room =
    ext_get_or 0 (row_at size (over start piece ring) place) (over at piece (row_at size ring place))
    (long ∙ sym (length-over at piece (row_at size ring place) fits_row ∙ row_long))
    (λ i lt. let under : i < size = omega (arith, lt, long) in read_row size (over start piece ring) place i under ∙ go i under (cases_lt i at) (cases_lt i (at + length piece)))
  where
    start : ℕ
    start = place * size + at

    fits : place * size + at + length piece ≤ length ring
    fits = omega (arith, within, room)

    row_long : length (row_at size ring place) ≡ size
    row_long = length-row size ring place room

    fits_row : at + length piece ≤ length (row_at size ring place)
    fits_row = omega (arith, within, row_long)

    long : length (row_at size (over start piece ring) place) ≡ size
    long = length-row size (over start piece ring) place (omega (arith, room, length-over (place * size + at) piece ring fits))

    go : (i : ℕ) → i < size → (i < at) ⊎ (at ≤ i) → (i < at + length piece) ⊎ (at + length piece ≤ i)
        → get_or (over (place * size + at) piece ring) (place * size + i) 0 ≡ get_or (over at piece (row_at size ring place)) i 0
    go i lt (inl front) any =
        before_over (place * size + at) piece ring (place * size + i) fits (omega (arith, front))
        ∙ sym (before_over at piece (row_at size ring place) i fits_row front ∙ read_row size ring place i lt)
    go i lt (inr ge) (inl inside) =
        in_over (place * size + at) piece ring (place * size + i) fits (omega (arith, ge)) (omega (arith, inside))
        ∙ ap (λ k. get_or piece k 0) (let same : place * size + i - (place * size + at) ≡ i - at = omega (arith, ge) in same)
        ∙ sym (in_over at piece (row_at size ring place) i fits_row ge inside)
    go i lt (inr ge) (inr back) =
        behind_over (place * size + at) piece ring (place * size + i) fits (omega (arith, back))
        ∙ sym (behind_over at piece (row_at size ring place) i fits_row back ∙ read_row size ring place i lt)

-- ---- the segment that fills

-- octets that join it
pub filled_more : (filled : ℕ) (row piece : List ℕ) → 8 + filled + length piece ≤ length row
    → filling_in (filled + length piece) (over (8 + filled) piece row) ≡ filling_in filled row ++ piece
filled_more filled row piece fits =
    ext_get_or 0 (filling_in (filled + length piece) (over (8 + filled) piece row)) (filling_in filled row ++ piece) (long ∙ sym both)
    (λ i lt. let under : i < filled + length piece = omega (arith, lt, long) in
    get_or-take (filled + length piece) (drop 8 (over (8 + filled) piece row)) i 0 under
    ∙ get_or-drop 8 (over (8 + filled) piece row) i 0
    ∙ go i under (cases_lt i filled))
  where
    long : length (filling_in (filled + length piece) (over (8 + filled) piece row)) ≡ filled + length piece
    long = omega (
      arith,
      fits,
      length-take (filled + length piece) (drop 8 (over (8 + filled) piece row)),
      length-drop 8 (over (8 + filled) piece row),
      length-over (8 + filled) piece row fits,
    )

    front : length (filling_in filled row) ≡ filled
    front = omega (arith, fits, length-take filled (drop 8 row), length-drop 8 row)

    both : length (filling_in filled row ++ piece) ≡ filled + length piece
    both = omega (arith, front, length-append (filling_in filled row) piece)

    go : (i : ℕ) → i < filled + length piece → (i < filled) ⊎ (filled ≤ i)
        → get_or (over (8 + filled) piece row) (8 + i) 0 ≡ get_or (filling_in filled row ++ piece) i 0
    go i lt (inl less) =
        before_over (8 + filled) piece row (8 + i) fits (omega (arith, less))
        ∙ sym
        (get_or_append_left (filling_in filled row) piece 0 i (omega (arith, less, front))
        ∙ get_or-take filled (drop 8 row) i 0 less
        ∙ get_or-drop 8 row i 0)
    go i lt (inr ge) =
        in_over (8 + filled) piece row (8 + i) fits (omega (arith, ge)) (omega (arith, lt))
        ∙ ap (λ k. get_or piece k 0) (let same : 8 + i - (8 + filled) ≡ i - filled = omega (arith, ge) in same)
        ∙ sym (get_or-append_right (filling_in filled row) piece filled i 0 front ge)

pub length-filling : (filled : ℕ) (row : List ℕ) → 8 + filled ≤ length row → length (filling_in filled row) ≡ filled
length-filling filled row fits = omega (arith, fits, length-take filled (drop 8 row), length-drop 8 row)

abbrev pub zeros : ℕ → List ℕ
zeros m = replicate m 0

-- its place before it and zeros behind it
pub sealed_row : (filled size : ℕ) (row place : List ℕ) → length row ≡ size → 8 + filled ≤ size → length place ≡ 8
    → over (8 + filled) (zeros (size - (8 + filled))) (over 0 place row) ≡ padded size (place ++ filling_in filled row)
sealed_row filled size row place long fits eight =
    ap (λ back. take (8 + filled) (over 0 place row) ++ zeros (size - (8 + filled)) ++ back) nothing
    ∙ append-nil (take (8 + filled) (over 0 place row) ++ zeros (size - (8 + filled)))
    ∙ ap (λ front. front ++ zeros (size - (8 + filled))) front
    ∙ ap (λ n. (place ++ filling_in filled row) ++ zeros n) (let same : size - (8 + filled) ≡ size - length (place ++ filling_in filled row) =
    omega (arith, fits, long, eight, length-append place (filling_in filled row), length-filling filled row (omega (arith, fits, long))) in same)
  where
    nothing : drop (8 + filled + length (zeros (size - (8 + filled)))) (over 0 place row) ≡ []
    nothing = drop_of_length-le (over 0 place row) (omega (arith, fits, long, eight, length-replicate {A = ℕ} (size - (8 + filled)) 0, length-over 0 place row (omega (arith, fits, long, eight))))

    front : take (8 + filled) (over 0 place row) ≡ place ++ filling_in filled row
    front =
        ap (λ n. take (n + filled) (place ++ drop (0 + length place) row)) (sym eight)
        ∙ take-append-add place (drop (0 + length place) row) filled
        ∙ ap (λ n. place ++ take filled (drop n row)) (let same : 0 + length place ≡ 8 = omega (arith, eight) in same)

-- ---- the rows of segments by their numbers

-- numbers that lie within one round have different places
pub other_place : (room n m : ℕ) → 0 < room → n < m → m < n + room → n % room ≡ m % room → ⊥
other_place room n m some lt near same = go (cases_lt (n / room) (m / room))
  where
    go : (n / room < m / room) ⊎ (m / room ≤ n / room) → ⊥
    go (inl more) =
        let step = mul-le-mul_right room more in
        omega (arith, same, near, step, suc-mul (n / room) room, mod-add-div' n room, mod-add-div' m room)
    go (inr less) = let step = mul-le-mul_right room less in omega (arith, same, lt, step, mod-add-div' n room, mod-add-div' m room)

-- places that differ have rows that lie apart
pub rows_apart : (size place other : ℕ) → (place ≡ other → ⊥) → (other * size + size ≤ place * size) ⊎ (place * size + size ≤ other * size)
rows_apart size place other differ = go (cases_lt other place)
  where
    go : (other < place) ⊎ (place ≤ other) → (other * size + size ≤ place * size) ⊎ (place * size + size ≤ other * size)
    go (inl lt) = inl (let step = mul-le-mul_right size lt in omega (arith, step, suc-mul other size))
    go (inr le) = go_more (cases_lt place other)
      where
        go_more : (place < other) ⊎ (other ≤ place) → (other * size + size ≤ place * size) ⊎ (place * size + size ≤ other * size)
        go_more (inl lt) = inr (let step = mul-le-mul_right size lt in omega (arith, step, suc-mul place size))
        go_more (inr ge) = absurd (differ (omega (arith, le, ge)))

pub place_fits : (room size n : ℕ) → 0 < room → n % room * size + size ≤ room * size
place_fits room size n some =
    let step = mul-le-mul_right size (mod-lt n some) in omega (arith, step, suc-mul (n % room) size)

same_map : (f g : ℕ → List ℕ) (a n : ℕ) → ((i : ℕ) → a ≤ i → i < a + n → f i ≡ g i) → map f (range_with_len a n) ≡ map g (range_with_len a n)
same_map f g a zero same = refl
same_map f g a (suc n) same =
    ap (λ x. x ∷ map f (range_with_len (a + 1) n)) (same a (omega arith) (omega arith))
    ∙ ap (λ xs. g a ∷ xs) (same_map f g (a + 1) n (λ i le lt. same i (omega (arith, le)) (omega (arith, lt))))

-- what is put into the row behind them leaves the rows of kept segments
pub rows_kept : (size room : ℕ) (ring piece : List ℕ) (first closed at : ℕ) → 0 < room → length ring ≡ room * size
    → first ≤ closed → closed < first + room → at + length piece ≤ size
    → rows_in size room (over (closed % room * size + at) piece ring) first (closed - first) ≡ rows_in size room ring first (closed - first)
rows_kept size room ring piece first closed at some long from within fits =
    same_map (λ n. row_at size (over (closed % room * size + at) piece ring) (n % room)) (λ n. row_at size ring (n % room)) first (closed - first)
    (λ n le lt.
    row_other size ring piece (closed % room * size + at) (n % room) (omega (arith, fits, long, place_fits room size closed some))
    (omega (arith, long, place_fits room size n some))
    (go n (rows_apart size (closed % room) (n % room) (λ same. other_place room n closed some (omega (arith, lt, from)) (omega (arith, le, within)) (sym same)))))
  where
    go : (n : ℕ) → (n % room * size + size ≤ closed % room * size) ⊎ (closed % room * size + size ≤ n % room * size)
        → (n % room * size + size ≤ closed % room * size + at) ⊎ (closed % room * size + at + length piece ≤ n % room * size)
    go n (inl front) = inl (omega (arith, front))
    go n (inr back) = inr (omega (arith, back, fits))

-- one more row
pub one_more : (size room : ℕ) (ring : List ℕ) (first closed : ℕ) → first ≤ closed
    → rows_in size room ring first (closed + 1 - first) ≡ rows_in size room ring first (closed - first) ++ row_at size ring (closed % room) ∷ []
one_more size room ring first closed from =
    ap (λ n. rows_in size room ring first n) (let same : closed + 1 - first ≡ closed - first + 1 = omega (arith, from) in same)
    ∙ map-range_with_len_more (λ n. row_at size ring (n % room)) first (closed - first) closed (omega (arith, from))

drop_range : (f : ℕ → List ℕ) (a n k : ℕ) → k ≤ n → drop k (map f (range_with_len a n)) ≡ map f (range_with_len (a + k) (n - k))
drop_range f a zero zero le = refl
drop_range f a (suc n) zero le =
    ap (λ b. map f (range_with_len b (suc n))) (let same : a ≡ a + 0 = omega arith in same)
    ∙ ap (λ m. map f (range_with_len (a + 0) m)) (let same : suc n ≡ suc n - 0 = omega arith in same)
drop_range f a zero (suc k) le = absurd (omega (arith, le))
drop_range f a (suc n) (suc k) le =
    drop_range f (a + 1) n k (omega (arith, le))
    ∙ ap (λ b. map f (range_with_len b (n - k))) (let same : a + 1 + k ≡ a + suc k = omega arith in same)
    ∙ ap (λ m. map f (range_with_len (a + suc k) m)) (let same : n - k ≡ suc n - suc k = omega arith in same)

-- fewer rows
pub fewer : (size room : ℕ) (ring : List ℕ) (first to closed : ℕ) → first ≤ to → to ≤ closed
    → drop (to - first) (rows_in size room ring first (closed - first)) ≡ rows_in size room ring to (closed - to)
fewer size room ring first to closed from le =
    drop_range (λ n. row_at size ring (n % room)) first (closed - first) (to - first) (omega (arith, from, le))
    ∙ ap (λ a. rows_in size room ring a (closed - first - (to - first))) (let same : first + (to - first) ≡ to = omega (arith, from) in same)
    ∙ ap (λ n. rows_in size room ring to n) (let same : closed - first - (to - first) ≡ closed - to = omega (arith, from, le) in same)

-- the row of a segment
pub row_of_number : (size room : ℕ) (ring : List ℕ) (first closed number : ℕ) → first ≤ number → number < closed
    → slice_get (rows_in size room ring first (closed - first)) (number - first) ≡ Some (row_at size ring (number % room))
row_of_number size room ring first closed number from lt =
    slice_get-get_or (rows_in size room ring first (closed - first)) (number - first) []
    (omega (arith, from, lt, length-map-range_with_len (λ n. row_at size ring (n % room)) first (closed - first)))
    ∙ ap Some (get_or-map-range_with_len (λ n. row_at size ring (n % room)) first (closed - first) (number - first) number [] (omega (arith, from, lt)) (omega (arith, from)))

-- ---- rows that lie behind each other

next_place : (room n : ℕ) → 0 < room → n % room + 1 < room → (n + 1) % room ≡ n % room + 1
next_place room n some lt = go (cases_lt (n / room) ((n + 1) / room))
  where
    rest : (n + 1) % room < room
    rest = mod-lt (n + 1) some

    here : n % room + n / room * room ≡ n
    here = mod-add-div' n room

    there : (n + 1) % room + (n + 1) / room * room ≡ n + 1
    there = mod-add-div' (n + 1) room

    go : (n / room < (n + 1) / room) ⊎ ((n + 1) / room ≤ n / room) → (n + 1) % room ≡ n % room + 1
    go (inl more) = absurd (let step = mul-le-mul_right room more in omega (arith, lt, step, suc-mul (n / room) room, here, there))
    go (inr less) = go_less (cases_lt ((n + 1) / room) (n / room))
      where
        go_less : ((n + 1) / room < n / room) ⊎ (n / room ≤ (n + 1) / room) → (n + 1) % room ≡ n % room + 1
        go_less (inl fewer) = absurd (let step = mul-le-mul_right room fewer in omega (arith, rest, step, suc-mul ((n + 1) / room) room, here, there))
        go_less (inr same) =
            let one : n / room ≡ (n + 1) / room = omega (arith, less, same) in
            let back : n % room + (n + 1) / room * room ≡ n = subst (λ q. n % room + q * room ≡ n) one here in
            omega (arith, back, there)

joined_rows : (size room : ℕ) (ring : List ℕ) (number count : ℕ) → 0 < room → number % room + count ≤ room
    → concat (rows_in size room ring number count) ≡ take (count * size) (drop (number % room * size) ring)
joined_rows size room ring number zero some fits = ap (λ n. take n (drop (number % room * size) ring)) (let same : 0 ≡ 0 * size = omega arith in same)
joined_rows size room ring number (suc zero) some fits =
    append-nil (row_at size ring (number % room)) ∙ ap (λ n. take n (drop (number % room * size) ring)) (let same : size ≡ 1 * size = omega arith in same)
joined_rows size room ring number (suc (suc count)) some fits =
    let place = next_place room number some (omega (arith, fits)) in
    ap (λ xs. row_at size ring (number % room) ++ xs)
    (joined_rows size room ring (number + 1) (suc count) some (omega (arith, fits, place))
    ∙ ap (λ k. take (suc count * size) (drop (k * size) ring)) place
    ∙ ap (λ k. take (suc count * size) (drop k ring)) (let same : (number % room + 1) * size ≡ number % room * size + size = omega arith in same)
    ∙ ap (take (suc count * size)) (sym (drop-drop size (number % room * size) ring)))
    ∙ sym (take-add size (suc count * size) (drop (number % room * size) ring))
    ∙ ap (λ n. take n (drop (number % room * size) ring)) (let same : size + suc count * size ≡ suc (suc count) * size = omega (arith, suc-mul (suc count) size) in same)

-- the rows of so many closed segments, in a row
pub run_of : (size room : ℕ) (ring : List ℕ) (first closed number count : ℕ) → 0 < room → first ≤ number → number + count ≤ closed
    → number % room + count ≤ room
    → concat (take count (drop (number - first) (rows_in size room ring first (closed - first)))) ≡ take (count * size) (drop (number % room * size) ring)
run_of size room ring first closed number count some from to whole =
    ap (λ rows. concat (take count rows)) (fewer size room ring first number closed from (omega (arith, to)))
    ∙ ap concat (take-map-range_with_len (λ n. row_at size ring (n % room)) number (closed - number) count (omega (arith, to)))
    ∙ joined_rows size room ring number count some whole

-- a vector's octets after a write of all of them
pub kept_back : (new old : List ℕ) (n : ℕ) → length new ≡ length old → n ≡ length old → take n (new ++ drop (length new) old) ≡ new
kept_back new old n same n-is =
    ap (λ (xs : List ℕ). take n (new ++ xs)) (drop_of_length-le old (omega (arith, same)))
    ∙ ap (take n) (append-nil new)
    ∙ take_all n new (omega (arith, same, n-is))
