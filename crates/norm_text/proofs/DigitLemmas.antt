-- Digits of octets, lane by lane.
use Rattle.std.proofs.Common.{◌≡◌, ℕ, zero, suc, ◌+◌, ◌-◌, ◌*◌, ◌/◌, ◌%◌, ◌<◌, List, [], ◌∷◌, ◌++◌, length, get_or, map, take, drop, slice_index, refl, sym, ap, ◌∙◌, arith, append_assoc, append-nil, bit_and}
use borrow.Rule.Slice.PartMut.{put_mid, post_of}
use Rattle.std.specs.List.{flat_map, range_with_len}
use Rattle.std.proofs.lemmas.List.{drop_all, get_or_append_left, get_or-append_right, get_or-map, length-map, take_at, drop_at}
use Rattle.hex.specs.Hex.{encode_with, encode_lower, lower_digits}
use Rattle.hex.proofs.Pairs.{encode_with-drop}
use Rattle.hex.proofs.HexLemmas.{length-encode_with}
use Rattle.std.proofs.lemmas.Nat.{and_mask}

-- the places that interleaved lanes come from: one of the first vector, and the same of the second, from lane `at` on
abbrev pub pairs_from : ℕ → ℕ → List ℕ
pairs_from at n = flat_map (λ i. i ∷ (i + 64) ∷ []) (range_with_len at n)

pub interleaved : (t high low lanes : List ℕ) (at n : ℕ) → length lanes ≡ 64 → high ≡ map (λ x. slice_index t (x / 16)) lanes → low ≡ map (λ x. slice_index t (x % 16)) lanes
    → at + n ≡ 64 → map (λ k. get_or (high ++ low) k 0) (pairs_from at n) ≡ encode_with t (drop at lanes)
unfolding encode_with
interleaved t high low lanes at zero long h l ends =
    sym (ap (encode_with t) (drop_all at lanes (omega arith)))
interleaved t high low lanes at (suc n) long h l ends =
    let high_long : length high ≡ 64 = ap (λ xs. length xs) h ∙ length-map lanes (λ x. slice_index t (x / 16)) ∙ long in
    let within : at < length lanes = omega arith in
    let first : get_or (high ++ low) at 0 ≡ slice_index t (slice_index lanes at / 16) =
    get_or_append_left high low 0 at (omega arith) ∙ ap (λ xs. get_or xs at 0) h ∙ get_or-map (λ x. slice_index t (x / 16)) lanes at 0 0 within in
    let second : get_or (high ++ low) (at + 64) 0 ≡ slice_index t (slice_index lanes at % 16) =
    get_or-append_right high low 64 (at + 64) 0 high_long (omega arith)
    ∙ ap (λ k. get_or low k 0) (let back : at + 64 - 64 ≡ at = omega arith in back)
    ∙ ap (λ xs. get_or xs at 0) l ∙ get_or-map (λ x. slice_index t (x % 16)) lanes at 0 0 within in
    let rest : List ℕ = map (λ k. get_or (high ++ low) k 0) (pairs_from (at + 1) n) in
    ap (λ x. x ∷ get_or (high ++ low) (at + 64) 0 ∷ rest) first
    ∙ ap (λ y. slice_index t (slice_index lanes at / 16) ∷ y ∷ rest) second
    ∙ ap (λ more. slice_index t (slice_index lanes at / 16) ∷ slice_index t (slice_index lanes at % 16) ∷ more) (interleaved t high low lanes (at + 1) n long h l (omega arith))
    ∙ sym (encode_with-drop t lanes at within)

-- an octet's low half under the mask
pub masked : (v : List ℕ) → map (λ x. bit_and x 15) v ≡ map (λ x. x % 16) v
masked [] = refl
masked (x ∷ xs) =
    ap (λ y. y ∷ map (λ z. bit_and z 15) xs) (and_mask x 4) ∙ ap (λ ys. x % 16 ∷ ys) (masked xs)

pub encode-append : (t xs ys : List ℕ) → encode_with t (xs ++ ys) ≡ encode_with t xs ++ encode_with t ys
unfolding encode_with
encode-append t [] ys = refl
encode-append t (x ∷ xs) ys = ap (λ more. slice_index t (x / 16) ∷ slice_index t (x % 16) ∷ more) (encode-append t xs ys)

-- the digits of octets with others behind them begin with theirs
pub front_digits : (lanes octets others : List ℕ) → lanes ≡ octets ++ others → take (2 * length octets) (encode_lower lanes) ≡ encode_lower octets
front_digits lanes octets others is =
    ap (λ xs. take (2 * length octets) (encode_lower xs)) is
    ∙ ap (take (2 * length octets)) (encode-append lower_digits octets others)
    ∙ take_at (encode_lower octets) (encode_lower others) (2 * length octets) (length-encode_with lower_digits octets)

-- the digits of a front and of what is behind it
pub parted_digits : (octets front behind text after : List ℕ) → octets ≡ front ++ behind → after ≡ text ++ encode_lower front
    → after ++ encode_lower behind ≡ text ++ encode_lower octets
parted_digits octets front behind text after is put =
    ap (λ ds. ds ++ encode_lower behind) put
    ∙ append_assoc text (encode_lower front) (encode_lower behind)
    ∙ ap (λ ds. text ++ ds) (sym (encode-append lower_digits front behind) ∙ ap encode_lower (sym is))

-- both halves are put over what stood there
pub halves_put : (front behind first second rest : List ℕ) → first ≡ front → second ≡ behind → length front ≡ 64 → length behind ≡ 64 → length rest ≡ 64
    → put_mid 64 64 (first ++ rest) second ≡ front ++ behind
halves_put front behind first second rest f s front_long behind_long rest_long =
    let long : length first ≡ 64 = ap (λ xs. length xs) f ∙ front_long in
    ap (λ xs. xs ++ (second ++ post_of 64 64 (first ++ rest))) (take_at first rest 64 long ∙ f)
    ∙ ap (λ xs. front ++ (second ++ drop 64 xs)) (drop_at first rest 64 long)
    ∙ ap (λ xs. front ++ (second ++ xs)) (drop_all 64 rest (omega arith))
    ∙ ap (λ xs. front ++ xs) (append-nil second ∙ s)

-- no octets have no digits
pub no_digits : (text octets : List ℕ) → octets ≡ [] → text ≡ text ++ encode_lower octets
unfolding encode_with
no_digits text octets none = sym (append-nil text) ∙ ap (λ xs. text ++ encode_lower xs) (sym none)
