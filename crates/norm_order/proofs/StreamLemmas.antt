-- A stream that goes on keeps its closed segments.
use Rattle.std.proofs.Common.{◌≡◌, ℕ, zero, suc, ◌+◌, ◌-◌, ◌*◌, ◌/◌, ◌%◌, ◌<◌, ◌≤◌, List, [], ◌∷◌, ◌++◌, length, take, drop, map, false, refl, sym, ap, subst, ◌∙◌, arith, append_assoc, append-nil, length-append, length-drop}
use Rattle.std.specs.Prelude.{min}
use Rattle.std.specs.Int.{div_ceil}
use Rattle.std.proofs.lemmas.List.{take-append-le, drop-append-le, map-append}
use Rattle.std.proofs.lemmas.Nat.{le-div}
use Rattle.std.proofs.Math.Nat.{div-mul-le_self}
use Rattle.norm_order.specs.Entries.{Part, Write, Cut, End}
use Rattle.norm_order.specs.Segments.{pieces, full_pieces, all_pieces, closed_from, Segment, placed, has_end}

abbrev pub Begins : {X : Type 0} → List X → List X → Type 0
Begins {X} front whole = (rest : List X) × (whole ≡ front ++ rest)

begins_both : {X : Type 0} (xs ys zs : List X) → Begins xs ys → Begins ys zs → Begins xs zs
begins_both xs ys zs h k = (h.0 ++ k.0, k.1 ∙ ap (λ front. front ++ k.0) h.1 ∙ append_assoc xs h.0 k.0)

begins_longer : {X : Type 0} (xs ys more : List X) → Begins xs ys → Begins xs (ys ++ more)
begins_longer xs ys more h = begins_both xs ys (ys ++ more) h (more, refl)

less_octets : (e n long : ℕ) → suc n * e ≤ long → n * e ≤ long - e
less_octets e n long le = let is : suc n * e ≡ e + n * e = omega arith in omega arith

first_octets : (e n long : ℕ) → suc n * e ≤ long → e ≤ long
first_octets e n long le = let is : suc n * e ≡ e + n * e = omega arith in omega arith

pieces_begin : (e n m : ℕ) (xs ys : List ℕ) → n ≤ m → n * e ≤ length xs → Begins (pieces e n xs) (pieces e m (xs ++ ys))
unfolding pieces
pieces_begin e zero m xs ys le within = (pieces e m (xs ++ ys), refl)
pieces_begin e (suc n) zero xs ys le within = absurd (omega arith)
pieces_begin e (suc n) (suc m) xs ys le within =
    let long = first_octets e n (length xs) within in
    let more = pieces_begin e n m (drop e xs) ys (omega arith)
    (let fewer = less_octets e n (length xs) within in let h : n * e ≤ length (drop e xs) = omega (arith, length-drop e xs, fewer) in h) in (
      more.0,
      ap (λ piece. piece ∷ pieces e m (drop e (xs ++ ys))) (take-append-le e xs ys long)
          ∙ ap (λ rest. take e xs ∷ pieces e m rest) (drop-append-le e xs ys long)
          ∙ ap (λ rest. take e xs ∷ rest) more.1,
    )

div_grows : (e m n : ℕ) → 0 < e → m ≤ n → m / e ≤ n / e
div_grows e m n e_pos le = le-div (m / e) n e e_pos (let h = div-mul-le_self m e in omega arith)

full_begins : (e : ℕ) (xs ys : List ℕ) → 0 < e → Begins (full_pieces e xs) (full_pieces e (xs ++ ys))
full_begins e xs ys e_pos = pieces_begin e (length xs / e) (length (xs ++ ys) / e) xs ys
    (div_grows e (length xs) (length (xs ++ ys)) e_pos (let h : length xs ≤ length (xs ++ ys) = omega (arith, length-append xs ys) in h))
    (div-mul-le_self (length xs) e)

all_begins : (e : ℕ) (xs : List ℕ) → Begins (full_pieces e xs) (all_pieces e xs)
all_begins e xs = subst (λ octets. Begins (full_pieces e xs) (pieces e (div_ceil (length xs) e) octets)) (append-nil xs)
    (pieces_begin e (length xs / e) (div_ceil (length xs) e) xs [] (let h : length xs / e ≤ length xs / e + min 1 (length xs % e) = omega arith in h) (div-mul-le_self (length xs) e))

full_first : (e : ℕ) (since : List ℕ) (parts : List Part) → 0 < e → Begins (full_pieces e since) (closed_from e since parts)
unfolding closed_from
full_first e since [] e_pos = ([], sym (append-nil (full_pieces e since)))
full_first e since (Write by octets ∷ parts) e_pos =
    begins_both (full_pieces e since) (full_pieces e (since ++ octets)) (closed_from e (since ++ octets) parts)
    (full_begins e since octets e_pos) (full_first e (since ++ octets) parts e_pos)
full_first e since (Cut ∷ parts) e_pos = begins_longer (full_pieces e since) (all_pieces e since) (closed_from e [] parts) (all_begins e since)
full_first e since (End ∷ parts) e_pos = begins_longer (full_pieces e since) (all_pieces e since) ([] ∷ []) (all_begins e since)

-- the closed segments of an open stream begin those of the stream with more parts
pub closed_begin : (e : ℕ) (since : List ℕ) (parts more : List Part) → 0 < e → has_end parts ≡ false
    → Begins (closed_from e since parts) (closed_from e since (parts ++ more))
unfolding closed_from has_end
closed_begin e since [] more e_pos unended = full_first e since more e_pos
closed_begin e since (Write by octets ∷ parts) more e_pos unended = closed_begin e (since ++ octets) parts more e_pos unended
closed_begin e since (Cut ∷ parts) more e_pos unended =
    let rest = closed_begin e [] parts more e_pos unended in (
      rest.0,
      ap (λ closed. all_pieces e since ++ closed) rest.1 ∙ sym (append_assoc (all_pieces e since) (closed_from e [] parts) rest.0),
    )
closed_begin e since (End ∷ parts) more e_pos unended = cc

-- and so there are no fewer
pub closed_grow : (e : ℕ) (parts more : List Part) → 0 < e → has_end parts ≡ false
    → length (closed_from e [] parts) ≤ length (closed_from e [] (parts ++ more))
closed_grow e parts more e_pos unended =
    let h = closed_begin e [] parts more e_pos unended in omega (arith, ap length h.1, length-append (closed_from e [] parts) h.0)

placed_front : (offset : ℕ) (front rest : List (List ℕ)) → Begins (placed offset front) (placed offset (front ++ rest))
unfolding placed
placed_front offset [] rest = (placed offset rest, refl)
placed_front offset (x ∷ front) rest = let more = placed_front (offset + length x) front rest in (
  more.0,
  ap (λ (all : List Segment). record { offset = offset; octets = x } ∷ all) more.1,
)

pub placed_begin : (offset : ℕ) (xs ys : List (List ℕ)) → Begins xs ys → Begins (placed offset xs) (placed offset ys)
placed_begin offset xs ys h = subst (λ all. Begins (placed offset xs) (placed offset all)) (sym h.1) (placed_front offset xs h.0)

pub length-placed : (offset : ℕ) (xs : List (List ℕ)) → length (placed offset xs) ≡ length xs
unfolding placed
length-placed offset [] = refl
length-placed offset (x ∷ xs) = ap suc (length-placed (offset + length x) xs)

pub take_of_front : {X : Type 0} (n : ℕ) (xs ys : List X) → Begins xs ys → n ≤ length xs → take n ys ≡ take n xs
take_of_front n xs ys h le = ap (take n) h.1 ∙ take-append-le n xs h.0 le

pub map_begin : {X Y : Type 0} (f : X → Y) (xs ys : List X) → Begins xs ys → Begins (map f xs) (map f ys)
map_begin f xs ys h = (map f h.0, ap (map f) h.1 ∙ map-append f xs h.0)
