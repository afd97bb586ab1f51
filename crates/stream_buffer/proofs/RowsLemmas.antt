-- What the calls of a ring of rows do to what it is seen as.
use Rattle.std.proofs.Common.{◌≡◌, ℕ, ◌+◌, ◌-◌, ◌*◌, ◌%◌, ◌<◌, ◌≤◌, ap, ◌∙◌, arith, List, [], ◌∷◌, ◌++◌, length}
use Rattle.std.proofs.lemmas.List.{length-replicate}
use Rattle.std.proofs.lemmas.List.FromFn.{length-map-range_with_len}
use Rattle.norm_order.specs.Symbols.{padded}
use Rattle.stream_buffer.specs.RowsState.{RowsState, RowsSound, rows_view, over, row_at, rows_in, filling_in}
use Rattle.stream_buffer.specs.declared.rows.Rows.TheInside.{Inside}
use Rattle.stream_buffer.proofs.RingLemmas.{length-over, length-row, row_here, filled_more, length-filling, zeros, sealed_row, place_fits, rows_kept, one_more}

pub here_fits : (r : Inside) → RowsSound r → r.closed % r.room * r.size + r.size ≤ length r.ring.items
here_fits r s = omega (arith, s.ring, place_fits r.room r.size r.closed s.some)

pub row_long : (r : Inside) → RowsSound r → length (row_at r.size r.ring.items (r.closed % r.room)) ≡ r.size
row_long r s = length-row r.size r.ring.items (r.closed % r.room) (here_fits r s)

pub filled_long : (r : Inside) → RowsSound r → length (rows_view r).filling ≡ r.filled
filled_long r s = length-filling r.filled (row_at r.size r.ring.items (r.closed % r.room)) (omega (arith, s.fits, row_long r s))

pub many : (r : Inside) → length (rows_view r).rows ≡ r.closed - r.first
many r = length-map-range_with_len (λ n. row_at r.size r.ring.items (n % r.room)) r.first (r.closed - r.first)

abbrev pub state_with : RowsState → ℕ → List (List ℕ) → List ℕ → RowsState
state_with v first rows filling = record v { first = first; rows = rows; filling = filling }

pub by_fields : (v : RowsState) (first : ℕ) (rows others : List (List ℕ)) (filling other : List ℕ) → rows ≡ others → filling ≡ other
    → state_with v first rows filling ≡ state_with v first others other
by_fields v first rows others filling other r f = ap (λ x. state_with v first x filling) r ∙ ap (state_with v first others) f

-- octets joined the segment that fills
pub after_fill : (r : Inside) (piece octets : List ℕ) (start : ℕ) → RowsSound r → start ≡ r.closed % r.room * r.size + (8 + r.filled)
    → octets ≡ over start piece r.ring.items → 8 + r.filled + length piece ≤ r.size → r.closed < r.first + r.room
    → state_with (rows_view r) r.first (rows_in r.size r.room octets r.first (r.closed - r.first)) (filling_in (r.filled + length piece) (row_at r.size octets (r.closed % r.room)))
    ≡ state_with (rows_view r) r.first (rows_view r).rows ((rows_view r).filling ++ piece)
after_fill r piece octets start s at is fits free =
    let there : octets ≡ over (r.closed % r.room * r.size + (8 + r.filled)) piece r.ring.items = is ∙ ap (λ n. over n piece r.ring.items) at in
    by_fields (rows_view r) r.first
    (rows_in r.size r.room octets r.first (r.closed - r.first)) (rows_view r).rows
    (filling_in (r.filled + length piece) (row_at r.size octets (r.closed % r.room))) ((rows_view r).filling ++ piece)
    (ap (λ (xs : List ℕ). rows_in r.size r.room xs r.first (r.closed - r.first)) there
    ∙ rows_kept r.size r.room r.ring.items piece r.first r.closed (8 + r.filled) s.some s.ring s.from free fits)
    (ap (λ (xs : List ℕ). filling_in (r.filled + length piece) (row_at r.size xs (r.closed % r.room))) there
    ∙ ap (filling_in (r.filled + length piece)) (row_here r.size r.ring.items piece (r.closed % r.room) (8 + r.filled) fits (here_fits r s))
    ∙ filled_more r.filled (row_at r.size r.ring.items (r.closed % r.room)) piece (omega (arith, fits, row_long r s)))

-- the segment that fills was closed
pub after_seal : (r : Inside) (place mid octets : List ℕ) (start : ℕ) → RowsSound r → start ≡ r.closed % r.room * r.size → length place ≡ 8
    → mid ≡ over start place r.ring.items → octets ≡ over (start + (8 + r.filled)) (zeros (r.size - (8 + r.filled))) mid → r.closed < r.first + r.room
    → rows_in r.size r.room octets r.first (r.closed + 1 - r.first) ≡ (rows_view r).rows ++ padded r.size (place ++ (rows_view r).filling) ∷ []
after_seal r place mid octets start s at eight first second free =
    one_more r.size r.room octets r.first r.closed s.from
    ∙ ap (λ xs. xs ++ row_at r.size octets (r.closed % r.room) ∷ []) kept
    ∙ ap (λ row. (rows_view r).rows ++ row ∷ []) row
  where
    left : ℕ
    left = r.size - (8 + r.filled)

    long_zeros : length (zeros (r.size - (8 + r.filled))) ≡ r.size - (8 + r.filled)
    long_zeros = length-replicate {A = ℕ} (r.size - (8 + r.filled)) 0

    fits_zeros : 8 + r.filled + length (zeros (r.size - (8 + r.filled))) ≤ r.size
    fits_zeros = omega (arith, long_zeros, s.fits)

    fits_place : 0 + length place ≤ r.size
    fits_place = omega (arith, eight, s.fits)

    mid_is : mid ≡ over (r.closed % r.room * r.size + 0) place r.ring.items
    mid_is = first ∙ ap (λ n. over n place r.ring.items) (omega (arith, at))

    long_mid : length mid ≡ length r.ring.items
    long_mid = ap length mid_is ∙ length-over (r.closed % r.room * r.size + 0) place r.ring.items (omega (arith, fits_place, here_fits r s))

    octets_is : octets ≡ over (r.closed % r.room * r.size + (8 + r.filled)) (zeros (r.size - (8 + r.filled))) mid
    octets_is = second ∙ ap (λ n. over (n + (8 + r.filled)) (zeros (r.size - (8 + r.filled))) mid) at

    kept : rows_in r.size r.room octets r.first (r.closed - r.first) ≡ (rows_view r).rows
    kept =
        ap (λ (xs : List ℕ). rows_in r.size r.room xs r.first (r.closed - r.first)) octets_is
        ∙ rows_kept r.size r.room mid (zeros (r.size - (8 + r.filled))) r.first r.closed (8 + r.filled) s.some (long_mid ∙ s.ring) s.from free fits_zeros
        ∙ ap (λ (xs : List ℕ). rows_in r.size r.room xs r.first (r.closed - r.first)) mid_is
        ∙ rows_kept r.size r.room r.ring.items place r.first r.closed 0 s.some s.ring s.from free fits_place

    row : row_at r.size octets (r.closed % r.room) ≡ padded r.size (place ++ (rows_view r).filling)
    row =
        ap (λ (xs : List ℕ). row_at r.size xs (r.closed % r.room)) octets_is
        ∙ row_here r.size mid (zeros (r.size - (8 + r.filled))) (r.closed % r.room) (8 + r.filled) fits_zeros (omega (arith, long_mid, here_fits r s))
        ∙ ap (over (8 + r.filled) (zeros (r.size - (8 + r.filled))))
        (ap (λ (xs : List ℕ). row_at r.size xs (r.closed % r.room)) mid_is
        ∙ row_here r.size r.ring.items place (r.closed % r.room) 0 fits_place (here_fits r s))
        ∙ sealed_row r.filled r.size (row_at r.size r.ring.items (r.closed % r.room)) place (row_long r s) s.fits eight
