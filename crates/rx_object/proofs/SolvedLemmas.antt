-- Of a block that is solved, each symbol that was there is the encoded one of the sources that are there now.
use Rattle.std.proofs.Common.{◌≡◌, ℕ, zero, suc, ◌+◌, ◌*◌, ◌<◌, ◌≤◌, ◌⊎◌, inl, inr, List, [], ◌∷◌, length, take, drop, get_or, Option, Some, None, Bool, true, false, refl, sym, ap, ◌∙◌, subst, arith}
use Rattle.std.specs.Prelude.{◌||◌, ◌==◌, ◌≢◌, slice_index, EachIndex}
use Rattle.std.specs.List.{AllByRecursion}
use Rattle.std.proofs.lemmas.Bool.{eqb-true, eq-eqb, cases_lt, cases_order, ne_eqb}
use Rattle.std.proofs.lemmas.List.{length-take, length-drop, get_or-take, get_or-drop, get_or_default, get_or_past}
use Rattle.std.proofs.Math.Nat.{suc-mul}
use Rattle.gf_field.specs.Element.{AreElements}
use Rattle.gf_field.specs.Symbol.{AreSymbols, AreIds, encoded_symbol, given}
use Rattle.norm_base.specs.Octets.{AreOctets}
use Rattle.rs_block.specs.Column.{column}
use Rattle.rs_block.specs.Codeword.{Codeword, AreSources, GoesThroughAt, IsSymbol}
use Rattle.gf_field.proofs.Places.{elements_of_octets}
use Rattle.rs_block.proofs.Formula.{length-column, get_or-column}
use Rattle.rs_block.proofs.Words.{column-octets, codeword_exists}
use Rattle.rs_block.proofs.Functions.{function_laws}
use Rattle.rx_object.specs.Places.{AreApart, pieces, has_id, free_places, encoded_among, symbol_in, with_one}
use Rattle.rx_object.proofs.FreePlaces.{all_taken, concat_pieces, length-pieces}

-- where each source symbol lies at its own place, the row is the sources
pub own_sources : (k size : ℕ) (ids row : List ℕ) → AreIds k 255 ids → EachIndex ids (λ i. slice_index ids i ≡ i) → AreOctets row → AreSources k size ids row row
own_sources k size ids row are own octets t lt =
    let most : k ≤ 255 = most_own (cases_lt 255 k) in
    let w : (word : List ℕ) × Codeword k 255 (column k size row t) word =
    codeword_exists k 255 (column k size row t) most (omega arith) (length-column k size row t) (column-octets k size row t octets) in
    record {
      word = w.0;
      is = w.1;
      meets = λ i less.
          ap (λ n. get_or w.0 n 0) (own i (omega (arith, are.count, less))) ∙ w.1.starts i less ∙ get_or-column k size row t i less;
    }
  where
    most_own : (255 < k) ⊎ (k ≤ 255) → k ≤ 255
    most_own (inr le) = le
    most_own (inl more) =
        let there : 255 < length ids = omega (arith, are.count, more) in
        let it = own 255 there in
        let below = are.below 255 0 there in
        absurd (omega (arith, it, below))

-- ---- the symbols of a row

pub bytes_take : (n : ℕ) (xs : List ℕ) → AreOctets xs → AreOctets (take n xs)
bytes_take n xs octets i = elim (cases_lt i n) [
  | inl lt ↦ (let e = get_or-take n xs i 0 lt in let b = octets i in omega (arith, e, b))
  | inr le ↦ (let e = get_or_past (take n xs) i 0 (omega (arith, length-take n xs, le)) in omega (arith, e))
]

pub bytes_drop : (n : ℕ) (xs : List ℕ) → AreOctets xs → AreOctets (drop n xs)
bytes_drop n xs octets i = let e = get_or-drop n xs i 0 in let b = octets (n + i) in omega (arith, e, b)

sizes_of : (size k : ℕ) (row : List ℕ) → length row ≡ k * size → AllByRecursion (λ s. length s ≡ size) (pieces size k row)
unfolding pieces
sizes_of size zero row long = tt
sizes_of size (suc k) row long = (
  omega (arith, length-take size row, long, suc-mul k size),
  sizes_of size k (drop size row) (omega (arith, length-drop size row, long, suc-mul k size)),
)

octets_of : (size k : ℕ) (row : List ℕ) → AreOctets row → AllByRecursion AreElements (pieces size k row)
unfolding pieces
octets_of size zero row octets = tt
octets_of size (suc k) row octets = (elements_of_octets (take size row) (bytes_take size row octets), octets_of size k (drop size row) (bytes_drop size row octets))

pub symbols_are : (size k : ℕ) (row : List ℕ) → length row ≡ k * size → AreOctets row → AreSymbols k size (pieces size k row)
symbols_are size k row long octets = record { count = length-pieces size k row; sizes = sizes_of size k row long; octets = octets_of size k row octets }

piece_octet : (size k i t : ℕ) (row : List ℕ) → length row ≡ k * size → i < k → t < size → get_or (get_or (pieces size k row) i []) t 0 ≡ get_or row (i * size + t) 0
unfolding pieces
piece_octet size zero i t row long less lt = absurd (omega arith)
piece_octet size (suc k) zero t row long less lt =
    get_or-take size row t 0 lt ∙ ap (λ n. get_or row n 0) (let e : t ≡ 0 * size + t = omega arith in e)
piece_octet size (suc k) (suc i) t row long less lt =
    piece_octet size k i t (drop size row) (omega (arith, length-drop size row, long, suc-mul k size)) (omega arith) lt
    ∙ get_or-drop size row (i * size + t) 0
    ∙ ap (λ n. get_or row n 0) (let e : size + (i * size + t) ≡ suc i * size + t = omega (arith, suc-mul i size) in e)

piece_long : (size k i : ℕ) (row : List ℕ) → length row ≡ k * size → i < k → length (get_or (pieces size k row) i []) ≡ size
unfolding pieces
piece_long size zero i row long less = absurd (omega arith)
piece_long size (suc k) zero row long less = omega (arith, length-take size row, long, suc-mul k size)
piece_long size (suc k) (suc i) row long less = piece_long size k i (drop size row) (omega (arith, length-drop size row, long, suc-mul k size)) (omega arith)

-- ---- solving

-- the symbol at a place is the encoded one
pub encoded_there : (k size : ℕ) (ids row solved : List ℕ) → k ≤ 255 → AreIds k 255 ids → length row ≡ k * size → length solved ≡ k * size → AreOctets solved
    → AreSources k size ids row solved → (i : ℕ) → i < k → get_or (pieces size k row) i [] ≡ encoded_symbol size (pieces size k solved) (get_or ids i 0)
encoded_there k size ids row solved most are long long' octets sources i less =
    function_laws.encoded_only k 255 size (get_or ids i 0) (pieces size k solved) (get_or (pieces size k row) i []) most (omega arith)
    (are.below i 0 (omega (arith, are.count, less))) (symbols_are size k solved long' octets) (piece_long size k i row long less)
    (subst (λ xs. IsSymbol k 255 size xs (get_or ids i 0) (get_or (pieces size k row) i [])) (sym (concat_pieces size k solved long'))
    (λ t lt.
    let g : GoesThroughAt k size ids row solved t = sources t lt in
    record { word = g.word; is = g.is; octet = piece_octet size k i t row long less lt ∙ sym (g.meets i less) }))

-- what is encoded where each is, under an id
pub encoded_given : (size id : ℕ) (ids : List ℕ) (xs sources : List (List ℕ)) → length xs ≡ length ids
    → ((i : ℕ) → i < length ids → get_or xs i [] ≡ encoded_symbol size sources (get_or ids i 0))
    → encoded_among size ids sources id ≡ given ids xs id
unfolding given
encoded_given size id [] xs sources long each = refl
encoded_given size id (i ∷ is) [] sources long each = absurd (omega arith)
encoded_given size id (i ∷ is) (x ∷ xs) sources long each =
    go (i == id) refl (encoded_given size id is xs sources (omega arith) (λ j lt. each (suc j) (omega arith)))
  where
    go : (b : Bool) → (i == id) ≡ b → encoded_among size is sources id ≡ given is xs id
        → ◌≡◌ {A = Option (List ℕ)} (elim (b || has_id id is) [ true ↦ Some (encoded_symbol size sources id) | false ↦ None ])
        (elim b [ true ↦ Some x | false ↦ given is xs id ])
    go true e rest = ap (λ n. Some (encoded_symbol size sources n)) (sym (eqb-true i id e)) ∙ ap Some (sym (each 0 (omega arith)))
    go false e rest = rest

pub solved_given : (k size : ℕ) (ids row solved : List ℕ) → k ≤ 255 → AreIds k 255 ids → length row ≡ k * size → length solved ≡ k * size → AreOctets solved
    → AreSources k size ids row solved → (id : ℕ) → encoded_among size ids (pieces size k solved) id ≡ given ids (pieces size k row) id
solved_given k size ids row solved most are long long' octets sources id =
    encoded_given size id ids (pieces size k row) (pieces size k solved) (length-pieces size k row ∙ sym are.count)
    (λ i lt. encoded_there k size ids row solved most are long long' octets sources i (omega (arith, are.count, lt)))

-- ---- a block with one symbol more

open_in : (size : ℕ) (ids row : List ℕ) (id : ℕ) → 0 < free_places ids → symbol_in size ids row id ≡ given ids (pieces size (length ids) row) id
open_in size ids row id some = go (free_places ids == 0) (ne_eqb (free_places ids) 0 (λ e. omega (arith, e, some)))
  where
    go : (b : Bool) → b ≡ false
        → ◌≡◌ {A = Option (List ℕ)} (elim b [ true ↦ encoded_among size ids (pieces size (length ids) row) id | false ↦ given ids (pieces size (length ids) row) id ])
        (given ids (pieces size (length ids) row) id)
    go true e = absurd (cc e)
    go false e = refl

pub full_in : (size : ℕ) (ids row : List ℕ) (id : ℕ) → free_places ids ≡ 0 → symbol_in size ids row id ≡ encoded_among size ids (pieces size (length ids) row) id
full_in size ids row id none = go (free_places ids == 0) (eq-eqb (free_places ids) 0 none)
  where
    go : (b : Bool) → b ≡ true
        → ◌≡◌ {A = Option (List ℕ)} (elim b [ true ↦ encoded_among size ids (pieces size (length ids) row) id | false ↦ given ids (pieces size (length ids) row) id ])
        (encoded_among size ids (pieces size (length ids) row) id)
    go true e = refl
    go false e = absurd (cc e)

pub with_one_same : (q id : ℕ) (x : List ℕ) (f g : ℕ → Option (List ℕ)) → f id ≡ g id → with_one q x f id ≡ with_one q x g id
with_one_same q id x f g same = go (id == q)
  where
    go : (b : Bool) → ◌≡◌ {A = Option (List ℕ)} (elim b [ true ↦ Some x | false ↦ f id ]) (elim b [ true ↦ Some x | false ↦ g id ])
    go true = refl
    go false = same

pub put_done : (k size q : ℕ) (ids after row kept solved x : List ℕ) → length ids ≡ k → length after ≡ k → AreIds k 255 after → free_places after ≡ 0 → free_places ids ≡ free_places after + 1
    → length kept ≡ k * size → length solved ≡ k * size → k ≤ 255 → AreOctets solved → AreSources k size after kept solved
    → ((id : ℕ) → id < 255 → given after (pieces size k kept) id ≡ with_one q x (given ids (pieces size k row)) id)
    → (id : ℕ) → id < 255 → symbol_in size after solved id ≡ with_one q x (symbol_in size ids row) id
put_done k size q ids after row kept solved x count count' are none lacks long long' most octets sources symbols id small =
    full_in size after solved id none
    ∙ ap (λ n. encoded_among size after (pieces size n solved) id) count'
    ∙ solved_given k size after kept solved most are long long' octets sources id
    ∙ symbols id small
    ∙ with_one_same q id x (given ids (pieces size k row)) (symbol_in size ids row)
    (ap (λ n. given ids (pieces size n row) id) (sym count) ∙ sym (open_in size ids row id (omega (arith, lacks))))

-- the ids of a block of which no place is free are different ones of symbols
pub taken_ids : (ids : List ℕ) → AreApart ids → AreOctets ids → free_places ids ≡ 0 → AreIds (length ids) 255 ids
taken_ids ids apart octets none = record {
  count = refl;
  different = λ i j d before there same.
      absurd (all_taken ids none i d (omega (arith, before, there)) (apart i j d before there same));
  below = λ i d lt.
      let small = octets i in
      let zero_is = get_or_default ids i d 0 lt in
      let other = all_taken ids none i d lt in
      less_of (cases_order (get_or ids i d) 255) other small zero_is;
}
  where
    less_of : {n m : ℕ} → (n ≡ 255) ⊎ ((n < 255) ⊎ (255 < n)) → n ≢ 255 → m < 256 → n ≡ m → n < 255
    less_of (inl e) other small is = absurd (other e)
    less_of (inr (inl less)) other small is = less
    less_of (inr (inr more)) other small is = absurd (omega (arith, more, small, is))

pub put_last : (width size q : ℕ) (ids after row kept solved x : List ℕ) → width ≡ size → length ids ≤ 255
    → length after ≡ length ids → AreIds (length after) 255 after → free_places ids ≡ free_places after + 1 → free_places after ≡ 0
    → length row ≡ length ids * size → length kept ≡ length row → length solved ≡ length kept → AreOctets solved → AreSources (length after) width after kept solved
    → ((id : ℕ) → id < 255 → given after (pieces size (length ids) kept) id ≡ with_one q x (given ids (pieces size (length ids) row)) id)
    → (id : ℕ) → id < 255 → symbol_in size after solved id ≡ with_one q x (symbol_in size ids row) id
put_last width size q ids after row kept solved x wide most count are lacks none long kept_long solved_long octets sources symbols =
    put_done (length ids) size q ids after row kept solved x refl count (subst (λ n. AreIds n 255 after) count are) none lacks
    (kept_long ∙ long) (solved_long ∙ kept_long ∙ long) most octets
    (subst (λ n. AreSources n size after kept solved) count (subst (λ n. AreSources (length after) n after kept solved) wide sources)) symbols
