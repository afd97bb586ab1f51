-- What the calls of a buffer do to what it keeps.
use Rattle.std.proofs.Common.{◌≡◌, ℕ, zero, suc, ◌+◌, ◌-◌, ◌*◌, ◌/◌, ◌%◌, ◌<◌, ◌≤◌, ◌⊎◌, inl, inr, List, [], ◌∷◌, ◌++◌, length, take, drop, map, true, refl, sym, ap, ◌∙◌, arith, append_assoc, append-nil, length-append, length-drop}
use Rattle.std.specs.Prelude.{min}
use Rattle.std.specs.Int.{div_ceil}
use Rattle.std.proofs.Math.ListN.{drop_of_length-le}
use Rattle.std.proofs.Math.Nat.{mul-div_cancel, mod-eq_of_lt, mod-add-mod, mod-add-div', div-mul-le_self}
use Rattle.std.proofs.lemmas.Bool.{cases_lt}
use Rattle.std.proofs.lemmas.Nat.{le-div}
use Rattle.std.proofs.lemmas.List.{take_all, length-take, length-map, map-append}
use Rattle.norm_order.specs.Segments.{pieces, full_pieces, all_pieces, placed}
use Rattle.fec_plan.specs.Partition.{place_octets}
use Rattle.norm_order.specs.Symbols.{padded, segment_octets}
use Rattle.norm_order.proofs.SegmentLemmas.{joined}
use Rattle.norm_order.proofs.StreamLemmas.{length-placed}
use Rattle.stream_buffer.specs.RowsState.{RowsState}
use Rattle.stream_buffer.specs.StreamState.{StreamState, closed_segments, coded, behind_full}
use Rattle.stream_buffer.specs.StreamMoves.{with_octets, cut_here, ended_here}
use Rattle.stream_buffer.proofs.CuttingLemmas.{more_full, length-behind, length-pieces, short_full, short_behind, short_all, full-more, behind-more, placed-more}

abbrev pub one_row : ℕ → ℕ → List ℕ → List (List ℕ)
one_row e offset octets = coded e (record { offset = offset; octets = octets }) ∷ []

abbrev pub state_of : StreamState → List (List ℕ) → List ℕ → ℕ → StreamState
state_of s rows filling octets = record s { rows = rows; filling = filling; octets = octets }

abbrev rows_of : ℕ → ℕ → List (List ℕ) → List (List ℕ)
rows_of e offset lists = map (coded e) (placed offset lists)

-- ---- one segment

whole : (e : ℕ) (xs : List ℕ) → 0 < e → length xs ≡ e → length xs / e ≡ 1
whole e xs some is = ap (λ n. n / e) (let one : length xs ≡ 1 * e = omega (arith, is) in one) ∙ mul-div_cancel 1 some

one_piece : (e : ℕ) (xs : List ℕ) → length xs ≤ e → pieces e 1 xs ≡ xs ∷ []
unfolding pieces
one_piece e xs le = ap (λ ys. ys ∷ []) (take_all e xs le)

full_one : (e : ℕ) (xs : List ℕ) → 0 < e → length xs ≡ e → full_pieces e xs ≡ xs ∷ []
full_one e xs some is = ap (λ n. pieces e n xs) (whole e xs some is) ∙ one_piece e xs (omega (arith, is))

behind_one : (e : ℕ) (xs : List ℕ) → 0 < e → length xs ≡ e → behind_full e xs ≡ []
behind_one e xs some is = ap (λ n. drop (n * e) xs) (whole e xs some is) ∙ drop_of_length-le xs (omega (arith, is))

all_one : (e : ℕ) (xs : List ℕ) → 0 < length xs → length xs < e → all_pieces e xs ≡ xs ∷ []
all_one e xs some lt = ap (λ n. pieces e n xs) (short_all e xs lt ∙ (let one : min 1 (length xs) ≡ 1 = omega (arith, some) in one)) ∙ one_piece e xs (omega (arith, lt))

all_none : (e : ℕ) (xs : List ℕ) → 0 < e → length xs ≡ 0 → all_pieces e xs ≡ []
unfolding pieces
all_none e xs some is = ap (λ n. pieces e n xs) (short_all e xs (omega (arith, is, some)) ∙ (let none : min 1 (length xs) ≡ 0 = omega (arith, is) in none))

row_one : (e offset : ℕ) (xs : List ℕ) → rows_of e offset (xs ∷ []) ≡ one_row e offset xs
unfolding placed
row_one e offset xs = refl

row_none : (e offset : ℕ) → rows_of e offset [] ≡ []
unfolding placed
row_none e offset = refl

pub no_octets : (xs : List ℕ) → length xs ≡ 0 → xs ≡ []
no_octets [] is = refl
no_octets (x ∷ xs) is = absurd (omega (arith, is))

-- octets that fill the open segment
pub filled_full : (s : StreamState) (piece : List ℕ) (offset : ℕ) → 0 < s.cut.e → length s.filling ≤ s.octets → length s.filling + length piece ≡ s.cut.e
    → offset ≡ s.octets + length piece - s.cut.e
    → state_of s (s.rows ++ one_row s.cut.e offset (s.filling ++ piece)) [] (s.octets + length piece) ≡ with_octets piece s
filled_full s piece offset some counted is at =
    ap (λ n. state_of s (s.rows ++ one_row s.cut.e n since) [] o) (let same : offset ≡ s.octets - length s.filling = omega (arith, at, counted, is) in same)
    ∙ ap (λ rows. state_of s (s.rows ++ rows) [] o) (sym (row_one s.cut.e (s.octets - length s.filling) since))
    ∙ ap (λ lists. state_of s (s.rows ++ rows_of s.cut.e (s.octets - length s.filling) lists) [] o) (sym (full_one s.cut.e since some long))
    ∙ ap (λ xs. state_of s (s.rows ++ rows_of s.cut.e (s.octets - length s.filling) (full_pieces s.cut.e since)) xs o) (sym (behind_one s.cut.e since some long))
  where
    since : List ℕ
    since = s.filling ++ piece

    o : ℕ
    o = s.octets + length piece

    long : length (s.filling ++ piece) ≡ s.cut.e
    long = length-append s.filling piece ∙ is

-- octets that do not fill it
pub filled_part : (s : StreamState) (piece : List ℕ) → length s.filling + length piece < s.cut.e
    → state_of s s.rows (s.filling ++ piece) (s.octets + length piece) ≡ with_octets piece s
filled_part s piece lt =
    ap (λ rows. state_of s rows since o) (sym (append-nil s.rows))
    ∙ ap (λ rows. state_of s (s.rows ++ rows) since o) (sym (row_none s.cut.e (s.octets - length s.filling)))
    ∙ ap (λ lists. state_of s (s.rows ++ rows_of s.cut.e (s.octets - length s.filling) lists) since o) (sym (short_full s.cut.e since short))
    ∙ ap (λ xs. state_of s (s.rows ++ rows_of s.cut.e (s.octets - length s.filling) (full_pieces s.cut.e since)) xs o) (sym (short_behind s.cut.e since short))
  where
    since : List ℕ
    since = s.filling ++ piece

    o : ℕ
    o = s.octets + length piece

    short : length (s.filling ++ piece) < s.cut.e
    short = omega (arith, lt, length-append s.filling piece)

-- the segment that fills is closed
pub cut_some : (s : StreamState) (offset : ℕ) → 0 < length s.filling → length s.filling < s.cut.e → offset ≡ s.octets - length s.filling
    → state_of s (s.rows ++ one_row s.cut.e offset s.filling) [] s.octets ≡ cut_here s
cut_some s offset some lt at =
    ap (λ n. state_of s (s.rows ++ one_row s.cut.e n s.filling) [] s.octets) at
    ∙ ap (λ rows. state_of s (s.rows ++ rows) [] s.octets) (sym (row_one s.cut.e (s.octets - length s.filling) s.filling))
    ∙ ap (λ lists. state_of s (s.rows ++ rows_of s.cut.e (s.octets - length s.filling) lists) [] s.octets) (sym (all_one s.cut.e s.filling some lt))

pub cut_none : (s : StreamState) → 0 < s.cut.e → length s.filling ≡ 0 → s ≡ cut_here s
cut_none s some is =
    ap (λ rows. state_of s rows s.filling s.octets) (sym (append-nil s.rows))
    ∙ ap (λ rows. state_of s (s.rows ++ rows) s.filling s.octets) (sym (row_none s.cut.e (s.octets - length s.filling)))
    ∙ ap (λ lists. state_of s (s.rows ++ rows_of s.cut.e (s.octets - length s.filling) lists) s.filling s.octets) (sym (all_none s.cut.e s.filling some is))
    ∙ ap (λ xs. state_of s (s.rows ++ rows_of s.cut.e (s.octets - length s.filling) (all_pieces s.cut.e s.filling)) xs s.octets) (no_octets s.filling is)

-- ---- octets in two writes

length-joined : (e n : ℕ) (xs : List ℕ) → n * e ≤ length xs → length (joined (pieces e n xs)) ≡ n * e
unfolding pieces
length-joined e zero xs le = let none : 0 ≡ zero * e = omega arith in none
length-joined e (suc n) xs le =
    let is : suc n * e ≡ e + n * e = omega arith in
    let rest = length-joined e n (drop e xs) (omega (arith, is, le, length-drop e xs)) in
    omega (arith, is, le, rest, length-append (take e xs) (joined (pieces e n (drop e xs))), length-take e xs)

pub with_more : (s : StreamState) (a b : List ℕ) → 0 < s.cut.e → length s.filling ≤ s.octets → with_octets (a ++ b) s ≡ with_octets b (with_octets a s)
with_more s a b some counted =
    ap (λ (xs : List ℕ). state_of s (s.rows ++ rows_of e off (full_pieces e xs)) (behind_full e xs) (s.octets + length (a ++ b))) (sym (append_assoc s.filling a b))
    ∙ ap (λ lists. state_of s (s.rows ++ rows_of e off lists) (behind_full e ((s.filling ++ a) ++ b)) (s.octets + length (a ++ b))) (full-more e (s.filling ++ a) b some)
    ∙ ap (λ xs. state_of s (s.rows ++ rows_of e off (first ++ second)) xs (s.octets + length (a ++ b))) (behind-more e (s.filling ++ a) b some)
    ∙ ap (λ n. state_of s (s.rows ++ rows_of e off (first ++ second)) last n) (let same : s.octets + length (a ++ b) ≡ s.octets + length a + length b = omega (arith, length-append a b) in same)
    ∙ ap (λ segments. state_of s (s.rows ++ map (coded e) segments) last n) (placed-more off first second)
    ∙ ap (λ rows. state_of s (s.rows ++ rows) last n) (map-append (coded e) (placed off first) (placed (off + length (joined first)) second))
    ∙ ap (λ rows. state_of s rows last n) (sym (append_assoc s.rows (rows_of e off first) (rows_of e (off + length (joined first)) second)))
    ∙ ap (λ o. state_of s ((s.rows ++ rows_of e off first) ++ rows_of e o second) last n) behind
  where
    e : ℕ
    e = s.cut.e

    off : ℕ
    off = s.octets - length s.filling

    n : ℕ
    n = s.octets + length a + length b

    first : List (List ℕ)
    first = full_pieces s.cut.e (s.filling ++ a)

    second : List (List ℕ)
    second = full_pieces s.cut.e (behind_full s.cut.e (s.filling ++ a) ++ b)

    last : List ℕ
    last = behind_full s.cut.e (behind_full s.cut.e (s.filling ++ a) ++ b)

    behind : s.octets - length s.filling + length (joined (full_pieces s.cut.e (s.filling ++ a))) ≡ s.octets + length a - length (behind_full s.cut.e (s.filling ++ a))
    behind = omega (
      arith,
      counted,
      length-joined s.cut.e (length (s.filling ++ a) / s.cut.e) (s.filling ++ a) (div-mul-le_self (length (s.filling ++ a)) s.cut.e),
      length-behind s.cut.e (s.filling ++ a),
      mod-add-div' (length (s.filling ++ a)) s.cut.e,
      length-append s.filling a,
    )

-- how many rows octets need, in two writes
pub used_more : (s : StreamState) (a : List ℕ) (n : ℕ) → 0 < s.cut.e
    → length (with_octets a s).rows + div_ceil (length (with_octets a s).filling + n) s.cut.e ≡ length s.rows + div_ceil (length s.filling + (length a + n)) s.cut.e
used_more s a n some = omega (arith, rows, filling, full, left)
  where
    e : ℕ
    e = s.cut.e

    m : ℕ
    m = length s.filling + length a

    count : length (s.filling ++ a) ≡ length s.filling + length a
    count = length-append s.filling a

    rows : length (with_octets a s).rows ≡ length s.rows + (length s.filling + length a) / s.cut.e
    rows =
        length-append s.rows (rows_of s.cut.e (s.octets - length s.filling) (full_pieces s.cut.e (s.filling ++ a)))
        ∙ ap (λ k. length s.rows + k)
        (length-map (placed (s.octets - length s.filling) (full_pieces s.cut.e (s.filling ++ a))) (coded s.cut.e)
        ∙ length-placed (s.octets - length s.filling) (full_pieces s.cut.e (s.filling ++ a))
        ∙ length-pieces s.cut.e (length (s.filling ++ a) / s.cut.e) (s.filling ++ a)
        ∙ ap (λ k. k / s.cut.e) count)

    filling : div_ceil (length (with_octets a s).filling + n) s.cut.e ≡ div_ceil ((length s.filling + length a) % s.cut.e + n) s.cut.e
    filling = ap (λ k. div_ceil (k + n) s.cut.e) (length-behind s.cut.e (s.filling ++ a) ∙ ap (λ k. k % s.cut.e) count)

    again : length s.filling + (length a + n) ≡ length s.filling + length a + n
    again = omega arith

    full : (length s.filling + (length a + n)) / s.cut.e ≡ (length s.filling + length a) / s.cut.e + ((length s.filling + length a) % s.cut.e + n) / s.cut.e
    full = ap (λ k. k / s.cut.e) again ∙ more_full s.cut.e (length s.filling + length a) n some

    left : (length s.filling + (length a + n)) % s.cut.e ≡ ((length s.filling + length a) % s.cut.e + n) % s.cut.e
    left = ap (λ k. k % s.cut.e) again ∙ sym (mod-add-mod (length s.filling + length a) s.cut.e n)

-- ---- over the rows

-- the rows, whose open segment was closed with this offset
abbrev pub sealed : ℕ → RowsState → RowsState
sealed offset r = record r { rows = r.rows ++ padded r.size (segment_octets (record { offset = offset; octets = r.filling })) ∷ []; filling = [] }

-- a buffer with these rows
abbrev pub over_rows : StreamState → ℕ → RowsState → StreamState
over_rows s octets r = state_of s r.rows r.filling octets

pub sealed_is : (s : StreamState) (r : RowsState) (offset octets : ℕ) → r.size ≡ s.cut.e + place_octets
    → over_rows s octets (sealed offset r) ≡ state_of s (r.rows ++ one_row s.cut.e offset r.filling) [] octets
sealed_is s r offset octets is =
    ap (λ n. state_of s (r.rows ++ padded n (segment_octets (record { offset = offset; octets = r.filling })) ∷ []) [] octets) is

-- ---- octets that are written piece by piece

some_pieces : (n e : ℕ) → 0 < n → 0 < e → 0 < div_ceil n e
some_pieces n e some some_e = go (cases_lt n e)
  where
    go : (n < e) ⊎ (e ≤ n) → 0 < div_ceil n e
    go (inl lt) = let m : n % e ≡ n = mod-eq_of_lt lt in omega (arith, m, some)
    go (inr le) = let one = le-div 1 n e some_e (let same : 1 * e ≤ n = omega (arith, le) in same) in omega (arith, one)

-- what is left, written here, leads to where all leads, and needs the room that is left
pub record Pours (s old : StreamState) (rest octets : List ℕ) : Type 0 where
  pub goes : with_octets rest s ≡ with_octets octets old
  pub used : length s.rows + div_ceil (length s.filling + length rest) s.cut.e ≡ length old.rows + div_ceil (length old.filling + length octets) old.cut.e

pub pours_row : (s old : StreamState) (rest octets : List ℕ) → Pours s old rest octets → 0 < length rest → 0 < s.cut.e
    → length old.rows + div_ceil (length old.filling + length octets) old.cut.e ≤ old.blocks * old.cut.b → length s.rows < s.blocks * s.cut.b
pours_row s old rest octets p some some_e room =
    let blocks : s.blocks * s.cut.b ≡ old.blocks * old.cut.b =
    ap (λ (v : StreamState). v.blocks * v.cut.b) p.goes in
    omega (arith, blocks, p.used, room, some_pieces (length s.filling + length rest) s.cut.e (omega (arith, some)) some_e)

pub pours_named : (s old : StreamState) (rest octets : List ℕ) → Pours s old rest octets → 0 < length rest → 0 < s.cut.e
    → closed_segments old + div_ceil (length old.filling + length octets) old.cut.e ≤ 16777216 * old.cut.b → closed_segments s < 16777216 * s.cut.b
pours_named s old rest octets p some some_e room =
    let b : s.cut.b ≡ old.cut.b = ap (λ (v : StreamState). v.cut.b) p.goes in
    let from : s.first * s.cut.b ≡ old.first * old.cut.b = ap (λ (v : StreamState). v.first * v.cut.b) p.goes in
    omega (arith, b, from, p.used, room, some_pieces (length s.filling + length rest) s.cut.e (omega (arith, some)) some_e)

pub pours_few : (s old : StreamState) (rest octets : List ℕ) → Pours s old rest octets → s.octets + length rest ≡ old.octets + length octets
pours_few s old rest octets p = ap (λ (v : StreamState). v.octets) p.goes

pub pours_open : (s old : StreamState) (rest octets : List ℕ) → Pours s old rest octets → s.ended ≡ old.ended
pours_open s old rest octets p = ap (λ (v : StreamState). v.ended) p.goes

-- a piece was written
pub pours_on : (s old new : StreamState) (piece behind rest octets : List ℕ) → Pours s old rest octets → 0 < s.cut.e → length s.filling ≤ s.octets
    → piece ++ behind ≡ rest → new ≡ with_octets piece s → Pours new old behind octets
pours_on s old new piece behind rest octets p some counted both is = record {
  goes =
      ap (with_octets behind) is
      ∙ sym (with_more s piece behind some counted)
      ∙ ap (λ xs. with_octets xs s) both
      ∙ p.goes;
  used =
      ap (λ (v : StreamState). length v.rows + div_ceil (length v.filling + length behind) v.cut.e) is
      ∙ used_more s piece (length behind) some
      ∙ ap (λ n. length s.rows + div_ceil (length s.filling + n) s.cut.e) (sym (length-append piece behind) ∙ ap length both)
      ∙ p.used;
}

-- nothing is left
pub poured : (s old : StreamState) (octets : List ℕ) → Pours s old [] octets → length s.filling < s.cut.e → s ≡ with_octets octets old
poured s old octets p short =
    ap (λ xs. state_of s s.rows xs s.octets) (sym (append-nil s.filling))
    ∙ ap (λ n. state_of s s.rows (s.filling ++ []) n) (let same : s.octets ≡ s.octets + length {A = ℕ} [] = omega arith in same)
    ∙ filled_part s [] (omega (arith, short))
    ∙ p.goes

-- ---- the end

pub cut_rows : (s : StreamState) → length s.filling < s.cut.e → length (cut_here s).rows ≡ length s.rows + min 1 (length s.filling)
cut_rows s lt =
    length-append s.rows (rows_of s.cut.e (s.octets - length s.filling) (all_pieces s.cut.e s.filling))
    ∙ ap (λ k. length s.rows + k)
    (length-map (placed (s.octets - length s.filling) (all_pieces s.cut.e s.filling)) (coded s.cut.e)
    ∙ length-placed (s.octets - length s.filling) (all_pieces s.cut.e s.filling)
    ∙ length-pieces s.cut.e (div_ceil (length s.filling) s.cut.e) s.filling
    ∙ short_all s.cut.e s.filling lt)

joined_all : (e : ℕ) (xs : List ℕ) → length xs < e → length (joined (all_pieces e xs)) ≡ length xs
joined_all e xs lt = go (cases_lt 0 (length xs))
  where
    go : (0 < length xs) ⊎ (length xs ≤ 0) → length (joined (all_pieces e xs)) ≡ length xs
    go (inl some) = ap (λ lists. length (joined lists)) (all_one e xs some lt) ∙ ap length (append-nil xs)
    go (inr none) = ap (λ lists. length (joined lists)) (all_none e xs (omega (arith, lt)) (omega (arith, none))) ∙ (let same : 0 ≡ length xs = omega (arith, none) in same)

abbrev pub ends_with : StreamState → List (List ℕ) → StreamState
ends_with s rows = record (state_of s rows [] s.octets) { ended = true }

pub ended_is : (s : StreamState) → length s.filling < s.cut.e → length s.filling ≤ s.octets
    → ends_with s ((cut_here s).rows ++ one_row s.cut.e s.octets []) ≡ ended_here s
ended_is s lt counted =
    ap (λ n. ends_with s ((cut_here s).rows ++ one_row s.cut.e n [])) (let same : s.octets ≡ s.octets - length s.filling + length (joined (all_pieces s.cut.e s.filling)) = omega (arith, counted, joined_all s.cut.e s.filling lt) in same)
    ∙ ap (λ rows. ends_with s ((cut_here s).rows ++ rows)) (sym (row_one s.cut.e at []))
    ∙ ap (ends_with s) (append_assoc s.rows (rows_of s.cut.e off all) (rows_of s.cut.e at ([] ∷ [])))
    ∙ ap (λ rows. ends_with s (s.rows ++ rows)) (sym (map-append (coded s.cut.e) (placed off all) (placed at ([] ∷ []))))
    ∙ ap (λ segments. ends_with s (s.rows ++ map (coded s.cut.e) segments)) (sym (placed-more off all ([] ∷ [])))
  where
    off : ℕ
    off = s.octets - length s.filling

    all : List (List ℕ)
    all = all_pieces s.cut.e s.filling

    at : ℕ
    at = s.octets - length s.filling + length (joined (all_pieces s.cut.e s.filling))
