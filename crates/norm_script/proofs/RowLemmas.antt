use Rattle.std.proofs.Common.{◌≡◌, ◌∙◌, sym, ap, ◌+◌, ◌*◌, ◌-◌, ◌/◌, ◌%◌, ◌≤◌, ◌<◌, ℕ, List, [], ◌∷◌, ◌++◌, length, Some, None, true, false, refl, arith, codes, map, take, length-append, append_assoc, slice_index, nat_eq}
use Rattle.std.specs.Prelude.{slice_index_or, OnErr, Result, Ok, Err}
use Rattle.std.specs.List.{concat, range_with_len}
use Rattle.std.proofs.lemmas.Bool.{eq-eqb}
use Rattle.std.proofs.lemmas.Fmt.{decimal_digit}
use Rattle.std.proofs.lemmas.List.{append-nil, get_or_append_left, get_or-append_right, take_more, take_all}
use Rattle.std.proofs.lemmas.List.Folds.{concat-append}
use Rattle.std.proofs.lemmas.List.FromFn.{map-range_with_len_more, length-map-range_with_len, get_or-map-range_with_len}
use Rattle.hex.specs.Hex.{encode_with, encode_lower, lower_digits}
use Rattle.norm_base.specs.Told.{Pieces, gained, written_of, GainsFront, front_piece}
use Rattle.norm_script.specs.Generated.{generated_settings, generated_octets, setting_piece, command_piece, generated_pieces, generate_text, StopsWithin}
use Rattle.norm_script.proofs.WordLemmas.{hex-length}
use Rattle.norm_script.proofs.GeneratedLemmas.{pieces-text}

-- The rows of the generated script, as they are put together.

encode_append : (t xs ys : List ℕ) → encode_with t (xs ++ ys) ≡ encode_with t xs ++ encode_with t ys
unfolding encode_with
encode_append t [] ys = refl
encode_append t (x ∷ xs) ys = ap (λ more. slice_index t (x / 16) ∷ slice_index t (x % 16) ∷ more) (encode_append t xs ys)

pub no_octets : (row : List ℕ) → row ≡ row ++ encode_lower []
unfolding encode_with
no_octets row = sym (append-nil row)

pub one_more_octet : (f : ℕ → ℕ) (start row after : List ℕ) (j octet : ℕ) → row ≡ start ++ encode_lower (map f (range_with_len 0 j)) → octet ≡ f j
    → after ≡ row ++ encode_lower (octet ∷ []) → after ≡ start ++ encode_lower (map f (range_with_len 0 (j + 1)))
one_more_octet f start row after j octet so_far is put =
    let more = ap encode_lower (map-range_with_len_more f 0 j j (omega arith)) ∙ encode_append lower_digits (map f (range_with_len 0 j)) (f j ∷ []) in
    let whole = append_assoc start (encode_lower (map f (range_with_len 0 j))) (encode_lower (f j ∷ [])) in
    let same = ap (λ o. encode_lower (o ∷ [])) is in
    put ∙ ap (λ r. r ++ encode_lower (octet ∷ [])) so_far ∙ ap (λ e. (start ++ encode_lower (map f (range_with_len 0 j))) ++ e) same ∙ whole
    ∙ ap (λ e. start ++ e) (sym more)

pub room_so_far : (f : ℕ → ℕ) (start row : List ℕ) (j : ℕ) → row ≡ start ++ encode_lower (map f (range_with_len 0 j)) → length row ≡ length start + 2 * j
room_so_far f start row j is =
    ap length is ∙ length-append start (encode_lower (map f (range_with_len 0 j)))
    ∙ ap (λ n. length start + n) (hex-length (map f (range_with_len 0 j)) ∙ ap (λ n. 2 * n) (length-map-range_with_len f 0 j))

pub octets_few : (n p i : ℕ) → length (encode_lower (generated_octets n p i)) ≤ 1000
octets_few n p i =
    let k = 1 + (n + 37 * p + 101 * i) % 500 in
    let len = hex-length (generated_octets n p i) ∙ ap (λ n. 2 * n) (length-map-range_with_len (λ j. (n + p + i + j) % 256) 0 k) in
    omega (arith, len)

pub mark_row : (n k : ℕ) → k < 300 → k % 100 % 10 ≡ 9 → (48 + (k / 100 + 1)) ∷ codes " mark\n" ≡ command_piece n k
mark_row n k h e = let tenth : nat_eq (k % 100 % 10) 9 ≡ true = eq-eqb (k % 100 % 10) 9 e in rw (decimal_digit (k / 100 + 1) (omega arith), tenth) refl

pub data_row : (n k : ℕ) → k < 300 → (k % 100 % 10 ≡ 9 → ⊥)
    → (48 + (k / 100 + 1)) ∷ codes " data " ++ (encode_lower (generated_octets n (k / 100 + 1) (k % 100)) ++ 10 ∷ []) ≡ command_piece n k
data_row n k h e =
    let other : nat_eq (k % 100 % 10) 9 ≡ false = grind arith in
    rw (decimal_digit (k / 100 + 1) (omega arith), other) refl

-- the rows in their order

pub piece-of_setting : (n k : ℕ) → k < 11 → slice_index_or (map setting_piece (generated_settings n)) k [] ≡ slice_index_or (generated_pieces n) k []
unfolding generated_pieces
piece-of_setting n k h = sym (get_or_append_left (map setting_piece (generated_settings n)) (map (command_piece n) (range_with_len 0 300)) [] k h)

pub piece-of_command : (n k : ℕ) → 11 ≤ k → k < 311 → command_piece n (k - 11) ≡ slice_index_or (generated_pieces n) k []
unfolding generated_pieces
piece-of_command n k low high =
    sym (get_or-append_right (map setting_piece (generated_settings n)) (map (command_piece n) (range_with_len 0 300)) 11 k [] refl low
    ∙ get_or-map-range_with_len (command_piece n) 0 300 (k - 11) (k - 11) [] (omega arith) (omega arith))

pub pieces_count : (n : ℕ) → length (generated_pieces n) ≡ 311
unfolding generated_pieces
pieces_count n =
    length-append (map setting_piece (generated_settings n)) (map (command_piece n) (range_with_len 0 300))
    ∙ ap (λ m. 11 + m) (length-map-range_with_len (command_piece n) 0 300)

gained_gained : (told : Pieces) (xs ys : List (List ℕ)) → gained (gained told xs) ys ≡ gained told (xs ++ ys)
gained_gained None xs ys = refl
gained_gained (Some old) xs ys = ap Some (append_assoc old xs ys)

-- one more row is written
pub row_written : (told now after : Pieces) (n k : ℕ) (row : List ℕ) → k < 311 → now ≡ gained told (take k (generated_pieces n))
    → row ≡ slice_index_or (generated_pieces n) k [] → after ≡ gained now (row ∷ []) → after ≡ gained told (take (k + 1) (generated_pieces n))
row_written told now after n k row h so_far is wrote =
    let inside : k < length (generated_pieces n) = omega (arith, pieces_count n) in
    wrote ∙ ap (λ t. gained t (row ∷ [])) so_far ∙ gained_gained told (take k (generated_pieces n)) (row ∷ [])
    ∙ ap (λ r. gained told (take k (generated_pieces n) ++ r ∷ [])) is ∙ ap (gained told) (sym (take_more (generated_pieces n) k [] inside))

pub all_written : (told now : Pieces) (n k : ℕ) → 311 ≤ k → now ≡ gained told (take k (generated_pieces n)) → now ≡ gained told (generated_pieces n)
all_written told now n k h is = is ∙ ap (gained told) (take_all k (generated_pieces n) (omega (arith, pieces_count n)))

-- a write failed within a row
pub stops : (told now after : Pieces) (n k : ℕ) (row : List ℕ) → k < 311 → now ≡ gained told (take k (generated_pieces n))
    → row ≡ slice_index_or (generated_pieces n) k [] → GainsFront now after row → StopsWithin (generated_pieces n) told after
stops told now after n k row h so_far is front = (
  k,
  omega (arith, pieces_count n),
  (
    front.0,
    front.1 ∙ ap (λ t. gained t (front_piece front.0 row)) so_far
        ∙ ap (λ r. gained (gained told (take k (generated_pieces n))) (front_piece front.0 r)) is,
  ),
)

pub at_err : {T E : Type 0} (r : Result T E) (P : Type 0) → P → OnErr r P
at_err (Ok x) P p = tt
at_err (Err e) P p = p

text_gained : (told : Pieces) (pieces : List (List ℕ)) → written_of (gained told pieces) ≡ gained (written_of told) (concat pieces)
text_gained None pieces = refl
text_gained (Some old) pieces = ap Some (concat-append old pieces)

pub text_written : (told now : Pieces) (n : ℕ) → now ≡ gained told (generated_pieces n) → written_of now ≡ gained (written_of told) (generate_text n)
text_written told now n is =
    ap written_of is ∙ text_gained told (generated_pieces n) ∙ ap (gained (written_of told)) (pieces-text n)
