-- What a block is seen as, from what is kept of it.
use Rattle.std.proofs.Common.{◌≡◌, ◌-◌, ℕ, zero, suc, ◌+◌, ◌%◌, ◌<◌, ◌≤◌, ◌⊎◌, inl, inr, List, [], ◌∷◌, ◌++◌, length, map, replicate, take, drop, get_or, cond, Option, Some, None, Bool, true, false, refl, sym, ap, ◌∙◌, subst, arith}
use Rattle.std.specs.Prelude.{◌==◌, ◌||◌, ◌≢◌, insert, nat_lt, find, bit_xor}
use Rattle.std.specs.List.{AllByRecursion, list_any}
use Rattle.std.specs.Int.Bits.{xor_zero_l}
use Rattle.std.proofs.lemmas.Bool.{cases_order, lt-ltb, eq-eqb, eqb-true, ne_eqb}
use Rattle.std.proofs.lemmas.List.{length-append, length-map, length-replicate, length-take, append-nil, take_at, get_or_default, ext_get_or}
use Rattle.gf_field.specs.Element.{AreElements}
use Rattle.gf_field.specs.Product.{product, shifts, sum_at_bits}
use Rattle.gf_field.specs.Power.{power}
use Rattle.gf_field.specs.Interpolation.{coefficient}
use Rattle.gf_field.specs.Symbol.{AreSymbols, AreIds, scaled_onto, weighted_symbols, symbol_at, given, encoded_symbol, solved_symbol, solved_sources}
use Rattle.gf_field.proofs.Products.{product-zero}
use Rattle.gf_field.proofs.Symbols.{length-symbol_at, length-solved_sources, solved_sources-at, solved_sources-sizes, symbol_laws}
use Rattle.norm_ext.specs.Numbers.{number}
use Rattle.norm_order.specs.Sets.{with_member, Rises}
use Rattle.norm_order.specs.Symbols.{padded}
use Rattle.rx_stream.specs.BlockState.{Came, came_before, has_id, lacks, came_under, source_of}
use Rattle.rx_stream.specs.BlockSound.{sent_of, part_of, came_as, coded, listed, AreWhole, BlockSound, block_of, settled}
use Rattle.rx_stream.specs.BlockMoves.{IsPlace, IsSent, IsCoded, IsRow, MayCome, with_came}
use Rattle.rs_block.proofs.InRows.{AreLong, long_at}
use Rattle.rx_stream.proofs.Solving.{encoded_again}
use Rattle.rx_stream.proofs.Inserting.{IsNew, listed_more, below_more, sizes_more, octets_more, whole_more, rises_more, one_more, pair_at, risen, are_ids}

-- ---- ids

pub length-listed : (k size : ℕ) (ids : List ℕ) (rows : List (List ℕ)) → length rows ≡ length ids → length (listed k size ids rows) ≡ length ids
unfolding listed
length-listed k size [] rows count = refl
length-listed k size (id ∷ ids) [] count = absurd (omega arith)
length-listed k size (id ∷ ids) (row ∷ rows) count = ap suc (length-listed k size ids rows (omega arith))

pub any_listed : (k size id : ℕ) (ids : List ℕ) (rows : List (List ℕ)) → length rows ≡ length ids
    → list_any (λ (c : Came). c.id == id) (listed k size ids rows) ≡ list_any (λ (x : ℕ). x == id) ids
unfolding listed
any_listed k size id [] rows count = refl
any_listed k size id (x ∷ ids) [] count = absurd (omega arith)
any_listed k size id (x ∷ ids) (row ∷ rows) count = ap (λ b. (x == id) || b) (any_listed k size id ids rows (omega arith))

-- as many are coded as came
pub length-coded : (k size : ℕ) (ids : List ℕ) (rows : List (List ℕ)) → length rows ≡ length ids → length (coded k size ids rows) ≡ length ids
length-coded k size ids rows count = go (k - length ids == 0)
  where
    go : (b : Bool) → length (elim b as (λ _. List (List ℕ)) [ true ↦ map (encoded_symbol size rows) ids | false ↦ rows ]) ≡ length ids
    go true = length-map ids (encoded_symbol size rows)
    go false = count

pub block_has : (k size id : ℕ) (ids : List ℕ) (rows : List (List ℕ)) → length rows ≡ length ids → has_id (block_of k size ids rows) id ≡ list_any (λ (x : ℕ). x == id) ids
block_has k size id ids rows count = any_listed k size id ids (coded k size ids rows) (length-coded k size ids rows count)

pub block_lacks : (k size : ℕ) (ids : List ℕ) (rows : List (List ℕ)) → length rows ≡ length ids → lacks (block_of k size ids rows) ≡ k - length ids
block_lacks k size ids rows count = ap (λ n. k - n) (length-listed k size ids (coded k size ids rows) (length-coded k size ids rows count))

new_ids : (id : ℕ) (ids : List ℕ) → list_any (λ (x : ℕ). x == id) ids ≡ false → IsNew id ids
new_ids id [] none = tt
new_ids id (x ∷ ids) none = go (x == id) refl none (new_ids id ids)
  where
    go : (b : Bool) → (x == id) ≡ b → (b || list_any (λ (y : ℕ). y == id) ids) ≡ false → (list_any (λ (y : ℕ). y == id) ids ≡ false → IsNew id ids)
        → ((x == id) ≡ false) × IsNew id ids
    go true e f rest = absurd (cc f)
    go false e f rest = (e, rest f)

-- ---- while some are lacking, and once none is

pub coded_open : (k size : ℕ) (ids : List ℕ) (rows : List (List ℕ)) → length ids < k → coded k size ids rows ≡ rows
coded_open k size ids rows lt = ap (λ b. elim b as (λ _. List (List ℕ)) [ true ↦ map (encoded_symbol size rows) ids | false ↦ rows ]) (ne_eqb (k - length ids) 0 (λ e. omega (arith, e, lt)))

pub coded_done : (k size : ℕ) (ids : List ℕ) (rows : List (List ℕ)) → k ≤ length ids → coded k size ids rows ≡ map (encoded_symbol size rows) ids
coded_done k size ids rows le = ap (λ b. elim b as (λ _. List (List ℕ)) [ true ↦ map (encoded_symbol size rows) ids | false ↦ rows ]) (eq-eqb (k - length ids) 0 (omega (arith, le)))

pub settled_open : (k size : ℕ) (ids : List ℕ) (rows : List (List ℕ)) → length ids < k → rows ≡ settled k size ids rows
settled_open k size ids rows lt = ap (λ b. elim b as (λ _. List (List ℕ)) [ true ↦ solved_sources size ids rows | false ↦ rows ]) (sym (ne_eqb (k - length ids) 0 (λ e. omega (arith, e, lt))))

pub settled_done : (k size : ℕ) (ids : List ℕ) (rows : List (List ℕ)) → k ≤ length ids → solved_sources size ids rows ≡ settled k size ids rows
settled_done k size ids rows le = ap (λ b. elim b as (λ _. List (List ℕ)) [ true ↦ solved_sources size ids rows | false ↦ rows ]) (sym (eq-eqb (k - length ids) 0 (omega (arith, le))))

-- solving the rows changes nothing of what came
pub coded_settled : (k size : ℕ) (ids : List ℕ) (rows : List (List ℕ)) → k ≤ 255 → length ids ≤ k → (length ids ≡ k → AreIds k 255 ids) → (length ids ≡ k → AreSymbols k size rows)
    → AllByRecursion AreElements (settled k size ids rows) → coded k size ids (settled k size ids rows) ≡ rows
coded_settled k size ids rows most few are symbols elements = go (cases_order (length ids) k)
  where
    go : (length ids ≡ k) ⊎ ((length ids < k) ⊎ (k < length ids)) → coded k size ids (settled k size ids rows) ≡ rows
    go (inl e) =
        coded_done k size ids (settled k size ids rows) (omega (arith, e))
        ∙ ap (λ (xs : List (List ℕ)). map (encoded_symbol size xs) ids) (sym (settled_done k size ids rows (omega (arith, e))))
        ∙ encoded_again k size ids rows most (are e) (symbols e) (subst (AllByRecursion AreElements) (sym (settled_done k size ids rows (omega (arith, e)))) elements)
    go (inr (inl lt)) = coded_open k size ids (settled k size ids rows) lt ∙ sym (settled_open k size ids rows lt)
    go (inr (inr gt)) = absurd (omega (arith, gt, few))

-- ---- a symbol that comes

number_front : (xs ys : List ℕ) → 2 ≤ length xs → number 2 0 (xs ++ ys) ≡ number 2 0 xs
number_front [] ys le = absurd (omega arith)
number_front (a ∷ []) ys le = absurd (omega arith)
number_front (a ∷ b ∷ xs) ys le = refl

-- what is sent of a source symbol, as it is coded
sent_whole : (size : ℕ) (payload : List ℕ) → 8 ≤ length payload → 8 + number 2 0 payload ≡ length payload → length payload ≤ size → sent_of size (padded size payload) ≡ length payload
sent_whole size payload le is most =
    let front : number 2 0 (padded size payload) ≡ number 2 0 payload = number_front payload (replicate (size - length payload) 0) (omega (arith, le)) in
    omega (arith, front, is, most)

whole_row : (k size id : ℕ) (payload : List ℕ) → IsSent k size id payload → part_of k size id (padded size payload) ≡ payload
whole_row k size id payload sent = go (nat_lt id k) sent
  where
    go : (c : Bool) → elim c as (λ _. Type 0) [ true ↦ (8 ≤ length payload) × (8 + number 2 0 payload ≡ length payload) × (length payload ≤ size) | false ↦ length payload ≡ size ]
        → elim c as (λ _. List ℕ) [ true ↦ take (sent_of size (padded size payload)) (padded size payload) | false ↦ padded size payload ] ≡ payload
    go true s =
        ap (λ n. take n (padded size payload)) (sent_whole size payload s.0 s.1 s.2)
        ∙ take_at payload (replicate (size - length payload) 0) (length payload) refl
    go false s = ap (λ n. payload ++ replicate n 0) (let none : size - length payload ≡ 0 = omega (arith, s) in none) ∙ append-nil payload

sent_short : (k size id : ℕ) (payload : List ℕ) → IsSent k size id payload → length payload ≤ size
sent_short k size id payload sent = go (nat_lt id k) sent
  where
    go : (c : Bool) → elim c as (λ _. Type 0) [ true ↦ (8 ≤ length payload) × (8 + number 2 0 payload ≡ length payload) × (length payload ≤ size) | false ↦ length payload ≡ size ] → length payload ≤ size
    go true s = s.2
    go false s = omega (arith, s)

pub length-padded : (size : ℕ) (octets : List ℕ) → length octets ≤ size → length (padded size octets) ≡ size
length-padded size octets le = omega (arith, length-append octets (replicate (size - length octets) 0), length-replicate {A = ℕ} (size - length octets) 0)

padded_elements : (n : ℕ) (xs : List ℕ) → AreElements xs → AreElements (xs ++ replicate n 0)
padded_elements zero [] all = tt
padded_elements (suc n) [] all = (omega arith, padded_elements n [] tt)
padded_elements n (x ∷ xs) all = (all.0, padded_elements n xs all.1)

-- what stands beside one another once a symbol came
pub record Kept (k size id : ℕ) (payload : List ℕ) (ids after : List ℕ) (rows kept : List (List ℕ)) : Type 0 where
  pub count : length kept ≡ length after
  pub few : length after ≤ k
  pub rising : Rises after
  pub below : AllByRecursion (λ (x : ℕ). x < 255) after
  pub sizes : AreLong size kept
  pub octets : AllByRecursion AreElements kept
  pub whole : AreWhole k size after kept
  pub came : listed k size after kept ≡ (with_came id payload (block_of k size ids rows)).came

pub kept_is : (k size id place : ℕ) (payload ids after : List ℕ) (rows kept : List (List ℕ)) (row : List ℕ) → BlockSound k size ids rows → MayCome (block_of k size ids rows) id payload
    → AreElements payload → IsPlace id ids place → row ≡ padded size payload → after ≡ insert ids place id → kept ≡ insert rows place row → Kept k size id payload ids after rows kept
kept_is k size id place payload ids after rows kept row s m elements p row_is ids_are rows_are =
    subst (λ xs. Kept k size id payload ids xs rows kept) (sym ids_are)
    (subst (λ ys. Kept k size id payload ids (insert ids place id) rows ys) (sym (rows_are ∙ ap (insert rows place) row_is))
    (record {
      count = one_more rows place (padded size payload) (let w = p.within in let n = s.count in omega (arith, w, n)) ∙ ap (λ n. n + 1) s.count ∙ sym (one_more ids place id p.within);
      few = (let n = one_more ids place id p.within in omega (arith, n, opened));
      rising = rises_more id ids place p new s.rising;
      below = below_more ids place id s.below m.small;
      sizes = sizes_more size rows place (padded size payload) s.sizes (length-padded size payload short);
      octets = octets_more rows place (padded size payload) s.octets (padded_elements (size - length payload) payload elements);
      whole = whole_more k size id (padded size payload) ids rows place s.count (subst (AreWhole k size ids) is_open s.whole) (ap (padded size) back);
      came = listed_more k size id (padded size payload) ids rows place s.count p new
          ∙ ap (λ (c : Came). with_member came_before c (listed k size ids rows)) (ap (λ xs. record { id = id; octets = xs }) back)
          ∙ ap (λ xs. with_member came_before (record { id = id; octets = payload }) (listed k size ids xs)) (sym is_open);
    }))
  where
    short : length payload ≤ size
    short = sent_short k size id payload m.sent

    back : part_of k size id (padded size payload) ≡ payload
    back = whole_row k size id payload m.sent

    opened : length ids < k
    opened = (let l = m.lacks in let e = block_lacks k size ids rows s.count in omega (arith, l, e))

    is_open : coded k size ids rows ≡ rows
    is_open = coded_open k size ids rows opened

    new : IsNew id ids
    new = new_ids id ids (sym (block_has k size id ids rows s.count) ∙ m.new)

-- the ids are those of a block, and the rows its symbols, where none is lacking
pub full_ids : (k size id : ℕ) (payload ids after : List ℕ) (rows kept : List (List ℕ)) → Kept k size id payload ids after rows kept → length after ≡ k → AreIds k 255 after
full_ids k size id payload ids after rows kept h e = are_ids k after e h.rising h.below

pub full_rows : (k size id : ℕ) (payload ids after : List ℕ) (rows kept : List (List ℕ)) → Kept k size id payload ids after rows kept → length after ≡ k → AreSymbols k size kept
full_rows k size id payload ids after rows kept h e = record { count = h.count ∙ e; sizes = h.sizes; octets = h.octets }

long_settled : (k size : ℕ) (ids : List ℕ) (rows : List (List ℕ)) → length rows ≡ length ids → length ids ≤ k → AreLong size rows → (length ids ≡ k → AreSymbols k size rows)
    → (length (settled k size ids rows) ≡ length ids) × AreLong size (settled k size ids rows)
long_settled k size ids rows count few sizes symbols = go (cases_order (length ids) k)
  where
    go : (length ids ≡ k) ⊎ ((length ids < k) ⊎ (k < length ids)) → (length (settled k size ids rows) ≡ length ids) × AreLong size (settled k size ids rows)
    go (inl e) =
        let same = settled_done k size ids rows (omega (arith, e)) in
        (ap length (sym same) ∙ length-solved_sources size ids rows, subst (AreLong size) same (solved_sources-sizes k size ids rows (symbols e)))
    go (inr (inl lt)) = let same = settled_open k size ids rows lt in (ap length (sym same) ∙ count, subst (AreLong size) same sizes)
    go (inr (inr gt)) = absurd (omega (arith, gt, few))

pub sound_after : (k size id : ℕ) (payload ids after : List ℕ) (rows kept new : List (List ℕ)) → BlockSound k size ids rows → Kept k size id payload ids after rows kept
    → new ≡ settled k size after kept → AllByRecursion AreElements new → BlockSound k size after new
sound_after k size id payload ids after rows kept new s h is elements =
    subst (BlockSound k size after) (sym is)
    (record {
      some = s.some;
      most = s.most;
      least = s.least;
      room = s.room;
      count = both.0;
      few = h.few;
      rising = h.rising;
      below = h.below;
      sizes = both.1;
      octets = subst (AllByRecursion AreElements) is elements;
      whole = subst (AreWhole k size after) (sym same) h.whole;
    })
  where
    both : (length (settled k size after kept) ≡ length after) × AreLong size (settled k size after kept)
    both = long_settled k size after kept h.count h.few h.sizes (full_rows k size id payload ids after rows kept h)

    same : coded k size after (settled k size after kept) ≡ kept
    same = coded_settled k size after kept s.most h.few (full_ids k size id payload ids after rows kept h) (full_rows k size id payload ids after rows kept h)
        (subst (AllByRecursion AreElements) is elements)

pub came_after : (k size id : ℕ) (payload ids after : List ℕ) (rows kept new : List (List ℕ)) → BlockSound k size ids rows → Kept k size id payload ids after rows kept
    → new ≡ settled k size after kept → AllByRecursion AreElements new → block_of k size after new ≡ with_came id payload (block_of k size ids rows)
came_after k size id payload ids after rows kept new s h is elements =
    ap (λ (xs : List (List ℕ)). block_of k size after xs) is
    ∙ ap (λ (xs : List (List ℕ)). record { k = k; size = size; came = listed k size after xs }) same
    ∙ ap (λ (cs : List Came). record { k = k; size = size; came = cs }) h.came
  where
    same : coded k size after (settled k size after kept) ≡ kept
    same = coded_settled k size after kept s.most h.few (full_ids k size id payload ids after rows kept h) (full_rows k size id payload ids after rows kept h)
        (subst (AllByRecursion AreElements) is elements)

-- ---- a source symbol

-- the octets that are sent of symbols
abbrev pub parts : ℕ → ℕ → List ℕ → List (List ℕ) → List (List ℕ)
parts k size ids rows = map (λ (c : Came). c.octets) (listed k size ids rows)

ids_listed : (k size : ℕ) (ids : List ℕ) (rows : List (List ℕ)) → length rows ≡ length ids → map (λ (c : Came). c.id) (listed k size ids rows) ≡ ids
unfolding listed
ids_listed k size [] rows count = refl
ids_listed k size (id ∷ ids) [] count = absurd (omega arith)
ids_listed k size (id ∷ ids) (row ∷ rows) count = ap (λ xs. id ∷ xs) (ids_listed k size ids rows (omega arith))

parts_whole : (k size : ℕ) (ids : List ℕ) (rows : List (List ℕ)) → length rows ≡ length ids → AreWhole k size ids rows → map (padded size) (parts k size ids rows) ≡ rows
unfolding listed
parts_whole k size [] [] count all = refl
parts_whole k size [] (r ∷ rows) count all = absurd (omega arith)
parts_whole k size (id ∷ ids) [] count all = absurd (omega arith)
parts_whole k size (id ∷ ids) (row ∷ rows) count all =
    ap (λ x. x ∷ map (padded size) (parts k size ids rows)) all.0 ∙ ap (λ xs. row ∷ xs) (parts_whole k size ids rows (omega arith) all.1)

came_given : (k size symbol : ℕ) (ids : List ℕ) (rows : List (List ℕ)) → length rows ≡ length ids → came_under (listed k size ids rows) symbol ≡ given ids (parts k size ids rows) symbol
unfolding listed given
came_given k size symbol [] rows count = refl
came_given k size symbol (id ∷ ids) [] count = absurd (omega arith)
came_given k size symbol (id ∷ ids) (row ∷ rows) count = go (id == symbol) (came_given k size symbol ids rows (omega arith))
  where
    octets_in : Option Came → Option (List ℕ)
    octets_in found = elim found [ Some c ↦ Some c.octets | None ↦ None ]

    go : (b : Bool) → came_under (listed k size ids rows) symbol ≡ given ids (parts k size ids rows) symbol
        → octets_in (cond b (Some (came_as k size id row)) (find (λ (c : Came). c.id == symbol) (listed k size ids rows)))
        ≡ elim b as (λ _. Option (List ℕ)) [ true ↦ Some (part_of k size id row) | false ↦ given ids (parts k size ids rows) symbol ]
    go true e = refl
    go false e = e

-- the part of a source symbol has all that is sent of it
part_sent : (k size symbol : ℕ) (row : List ℕ) → symbol < k → 8 ≤ size → length row ≡ size → length (part_of k size symbol row) ≡ sent_of size row
part_sent k size symbol row lt least long =
    ap (λ b. length (elim b as (λ _. List ℕ) [ true ↦ take (sent_of size row) row | false ↦ row ])) (lt-ltb symbol k lt)
    ∙ omega (arith, length-take (sent_of size row) row, long, least)

-- where a symbol was given, its part was
pub record GivenPart (k size symbol : ℕ) (ids : List ℕ) (rows : List (List ℕ)) (part : List ℕ) : Type 0 where
  pub row : List ℕ
  pub is : given ids rows symbol ≡ Some row
  pub part_is : part ≡ part_of k size symbol row
  pub long : length row ≡ size

given_part : (k size symbol : ℕ) (ids : List ℕ) (rows : List (List ℕ)) (part : List ℕ) → length rows ≡ length ids → AreLong size rows
    → given ids (parts k size ids rows) symbol ≡ Some part → GivenPart k size symbol ids rows part
unfolding listed given
given_part k size symbol [] rows part count all e = absurd (cc e)
given_part k size symbol (id ∷ ids) [] part count all e = absurd (omega arith)
given_part k size symbol (id ∷ ids) (row ∷ rows) part count all e = go (id == symbol) refl e (given_part k size symbol ids rows part (omega arith) all.1)
  where
    go : (b : Bool) → (id == symbol) ≡ b
        → elim b as (λ _. Option (List ℕ)) [ true ↦ Some (part_of k size id row) | false ↦ given ids (parts k size ids rows) symbol ] ≡ Some part
        → (given ids (parts k size ids rows) symbol ≡ Some part → GivenPart k size symbol ids rows part)
        → GivenPart k size symbol (id ∷ ids) (row ∷ rows) part
    go true f g rest = record {
      row = row;
      is = ap (λ b. elim b as (λ _. Option (List ℕ)) [ true ↦ Some row | false ↦ given ids rows symbol ]) f;
      part_is = sym (let e : part_of k size id row ≡ part = cc g in e) ∙ ap (λ n. part_of k size n row) (eqb-true id symbol f);
      long = all.0;
    }
    go false f g rest = (let h = rest g in record {
      row = h.row;
      is = ap (λ b. elim b as (λ _. Option (List ℕ)) [ true ↦ Some row | false ↦ given ids rows symbol ]) f ∙ h.is;
      part_is = h.part_is;
      long = h.long;
    })

-- zeros behind a symbol change nothing
padded_onto : (c n : ℕ) (xs ys : List ℕ) → scaled_onto (shifts 8 (c % 256)) (xs ++ replicate n 0) ys ≡ scaled_onto (shifts 8 (c % 256)) xs ys
unfolding scaled_onto product
padded_onto c n xs [] = refl
padded_onto c zero [] (y ∷ ys) = refl
padded_onto c (suc n) [] (y ∷ ys) =
    ap (λ v. bit_xor v y ∷ scaled_onto (shifts 8 (c % 256)) (replicate n 0) ys) (product-zero c)
    ∙ ap (λ v. v ∷ scaled_onto (shifts 8 (c % 256)) (replicate n 0) ys) (xor_zero_l y)
    ∙ ap (λ vs. y ∷ vs) (padded_onto c n [] ys ∙ onto_nil ys)
  where
    onto_nil : (ys : List ℕ) → scaled_onto (shifts 8 (c % 256)) [] ys ≡ ys
    onto_nil [] = refl
    onto_nil (y ∷ ys) = refl
padded_onto c n (x ∷ xs) (y ∷ ys) = ap (λ vs. bit_xor (sum_at_bits (shifts 8 (c % 256)) x) y ∷ vs) (padded_onto c n xs ys)

padded_weighted : (size : ℕ) (places ms : List ℕ) (symbols : List (List ℕ)) (x : ℕ) → weighted_symbols size places ms (map (padded size) symbols) x ≡ weighted_symbols size places ms symbols x
unfolding weighted_symbols
padded_weighted size places [] symbols x = refl
padded_weighted size places (m ∷ ms) [] x = refl
padded_weighted size places (m ∷ ms) (s ∷ ss) x =
    padded_onto (coefficient places m x) (size - length s) s (weighted_symbols size places ms (map (padded size) ss) x)
    ∙ ap (scaled_onto (shifts 8 (coefficient places m x % 256)) s) (padded_weighted size places ms ss x)

whole_padded : (size : ℕ) (xs : List ℕ) → length xs ≡ size → padded size xs ≡ xs
whole_padded size xs long = ap (λ n. xs ++ replicate n 0) (let none : size - length xs ≡ 0 = omega (arith, long) in none) ∙ append-nil xs

given_padded : (k size symbol : ℕ) (ids : List ℕ) (rows : List (List ℕ)) → length rows ≡ length ids → given ids (parts k size ids rows) symbol ≡ None → given ids rows symbol ≡ None
unfolding listed given
given_padded k size symbol [] rows count e = refl
given_padded k size symbol (id ∷ ids) [] count e = refl
given_padded k size symbol (id ∷ ids) (row ∷ rows) count e = go (id == symbol) e (given_padded k size symbol ids rows (omega arith))
  where
    go : (b : Bool) → elim b as (λ _. Option (List ℕ)) [ true ↦ Some (part_of k size id row) | false ↦ given ids (parts k size ids rows) symbol ] ≡ None
        → (given ids (parts k size ids rows) symbol ≡ None → given ids rows symbol ≡ None)
        → elim b as (λ _. Option (List ℕ)) [ true ↦ Some row | false ↦ given ids rows symbol ] ≡ None
    go true f rest = absurd (cc f)
    go false f rest = rest f

symbols_same : (k size : ℕ) (ids : List ℕ) (rows : List (List ℕ)) (places : List ℕ) (x : ℕ) → length rows ≡ length ids → AreWhole k size ids rows
    → symbol_at size places (parts k size ids rows) x ≡ symbol_at size places rows x
unfolding symbol_at
symbols_same k size ids rows places x count whole =
    sym (padded_weighted size places places (parts k size ids rows) x) ∙ ap (λ xs. weighted_symbols size places places xs x) (parts_whole k size ids rows count whole)

whole_given : (k size : ℕ) (ids : List ℕ) (rows : List (List ℕ)) (symbol : ℕ) (row : List ℕ) → length rows ≡ length ids → AreWhole k size ids rows
    → given ids rows symbol ≡ Some row → padded size (part_of k size symbol row) ≡ row
unfolding given
whole_given k size [] rows symbol row count all e = absurd (cc e)
whole_given k size (id ∷ ids) [] symbol row count all e = absurd (omega arith)
whole_given k size (id ∷ ids) (r ∷ rows) symbol row count all e = go (id == symbol) refl e (whole_given k size ids rows symbol row (omega arith) all.1)
  where
    go : (b : Bool) → (id == symbol) ≡ b → elim b as (λ _. Option (List ℕ)) [ true ↦ Some r | false ↦ given ids rows symbol ] ≡ Some row
        → (given ids rows symbol ≡ Some row → padded size (part_of k size symbol row) ≡ row) → padded size (part_of k size symbol row) ≡ row
    go true f g rest =
        let same : r ≡ row = cc g in
        ap (λ n. padded size (part_of k size n row)) (sym (eqb-true id symbol f)) ∙ ap (λ x. padded size (part_of k size id x)) (sym same) ∙ all.0 ∙ same
    go false f g rest = rest g

-- what the parts give of a source symbol is what the rows give, without zeros
solved_coded : (k size symbol : ℕ) (ids : List ℕ) (rows : List (List ℕ)) → symbol < k → 8 ≤ size → length rows ≡ length ids → AreLong size rows → AreWhole k size ids rows
    → IsCoded size (solved_symbol size ids rows symbol) (solved_symbol size ids (parts k size ids rows) symbol)
unfolding solved_symbol
solved_coded k size symbol ids rows lt least count sizes whole = go (given ids (parts k size ids rows) symbol) refl
  where
    by_given : List (List ℕ) → Option (List ℕ) → List ℕ
    by_given xs o = elim o [ Some s ↦ s | None ↦ symbol_at size (map power ids) xs (power symbol) ]

    go : (o : Option (List ℕ)) → given ids (parts k size ids rows) symbol ≡ o → IsCoded size (by_given rows (given ids rows symbol)) (by_given (parts k size ids rows) (given ids (parts k size ids rows) symbol))
    go (Some part) e =
        let g = given_part k size symbol ids rows part count sizes e in
        subst (λ o. IsCoded size (by_given rows (given ids rows symbol)) (by_given (parts k size ids rows) o)) (sym e)
        (subst (λ o. IsCoded size (by_given rows o) part) (sym g.is)
        (record {
          is = ap (padded size) g.part_is ∙ whole_given k size ids rows symbol g.row count whole g.is;
          sent = (let n = part_sent k size symbol g.row lt least g.long in let m = ap length g.part_is in omega (arith, n, m));
        }))
    go None e =
        subst (λ o. IsCoded size (by_given rows (given ids rows symbol)) (by_given (parts k size ids rows) o)) (sym e)
        (subst (λ o. IsCoded size (by_given rows o) (symbol_at size (map power ids) (parts k size ids rows) (power symbol))) (sym (given_padded k size symbol ids rows count e))
        (record {
          is = whole_padded size _ (length-symbol_at size (map power ids) (parts k size ids rows) (power symbol))
              ∙ symbols_same k size ids rows (map power ids) (power symbol) count whole;
          sent = (let n = length-symbol_at size (map power ids) (parts k size ids rows) (power symbol) in omega (arith, n, least));
        }))

-- ---- a block's row

source_done : (k size symbol : ℕ) (ids : List ℕ) (rows : List (List ℕ)) → length rows ≡ length ids → k ≤ length ids
    → source_of (block_of k size ids rows) symbol ≡ Some (solved_symbol size ids (parts k size ids (map (encoded_symbol size rows) ids)) symbol)
source_done k size symbol ids rows count le =
    ap (λ b. elim b as (λ _. Option (List ℕ)) [ true ↦ Some (solved_symbol size (map (λ (c : Came). c.id) came) (map (λ (c : Came). c.octets) came) symbol) | false ↦ came_under came symbol ])
    (eq-eqb (k - length came) 0 (let n = length-listed k size ids (coded k size ids rows) (length-coded k size ids rows count) in omega (arith, n, le)))
    ∙ ap (λ xs. Some (solved_symbol size xs (parts k size ids (coded k size ids rows)) symbol)) (ids_listed k size ids (coded k size ids rows) (length-coded k size ids rows count))
    ∙ ap (λ xs. Some (solved_symbol size ids (parts k size ids xs) symbol)) (coded_done k size ids rows le)
  where
    came : List Came
    came = listed k size ids (coded k size ids rows)

pub source_open : (k size symbol : ℕ) (ids : List ℕ) (rows : List (List ℕ)) → length rows ≡ length ids → length ids < k
    → source_of (block_of k size ids rows) symbol ≡ given ids (parts k size ids rows) symbol
source_open k size symbol ids rows count lt =
    ap (λ b. elim b as (λ _. Option (List ℕ)) [ true ↦ Some (solved_symbol size (map (λ (c : Came). c.id) came) (map (λ (c : Came). c.octets) came) symbol) | false ↦ came_under came symbol ])
    (ne_eqb (k - length came) 0 (λ e. let n = length-listed k size ids (coded k size ids rows) (length-coded k size ids rows count) in omega (arith, n, lt, e)))
    ∙ ap (λ xs. came_under (listed k size ids xs) symbol) (coded_open k size ids rows lt)
    ∙ came_given k size symbol ids rows count
  where
    came : List Came
    came = listed k size ids (coded k size ids rows)

pub row_done : (k size symbol : ℕ) (ids : List ℕ) (rows : List (List ℕ)) (row : List ℕ) → BlockSound k size ids rows → length ids ≡ k → symbol < k → row ≡ get_or rows symbol row
    → IsRow size (source_of (block_of k size ids rows) symbol) (Some row)
row_done k size symbol ids rows row s e lt read =
    subst (λ o. IsRow size o (Some row)) (sym (source_done k size symbol ids rows s.count (omega (arith, e))))
    (subst (λ x. IsCoded size x (solved_symbol size ids (parts k size ids enc) symbol)) (here ∙ there)
    (solved_coded k size symbol ids enc lt s.least (length-map ids (encoded_symbol size rows)) sizes (subst (AreWhole k size ids) (coded_done k size ids rows (omega (arith, e))) s.whole)))
  where
    enc : List (List ℕ)
    enc = map (encoded_symbol size rows) ids

    are : AreIds k 255 ids
    are = are_ids k ids e s.rising s.below

    symbols : AreSymbols k size rows
    symbols = record { count = s.count ∙ e; sizes = s.sizes; octets = s.octets }

    long : (xs : List ℕ) → AreLong size (map (encoded_symbol size rows) xs)
    long [] = tt
    long (x ∷ xs) = (symbol_laws.size size x rows, long xs)

    sizes : AreLong size (map (encoded_symbol size rows) ids)
    sizes = long ids

    here : solved_symbol size ids (map (encoded_symbol size rows) ids) symbol ≡ get_or rows symbol []
    here =
        sym (solved_sources-at size symbol ids (map (encoded_symbol size rows) ids) (omega (arith, e, lt)))
        ∙ ap (λ xs. get_or xs symbol []) (symbol_laws.solved k size ids rows s.most symbols are)

    there : get_or rows symbol [] ≡ row
    there = get_or_default rows symbol [] row (let n = s.count in omega (arith, n, e, lt)) ∙ sym read

rows_at : (ids : List ℕ) (rows : List (List ℕ)) (i : ℕ) (d : List ℕ) → length rows ≡ length ids → Rises ids → i < length ids → given ids rows (get_or ids i 0) ≡ Some (get_or rows i d)
unfolding given
rows_at [] rows i d count all lt = absurd (omega arith)
rows_at (id ∷ ids) [] i d count all lt = absurd (omega arith)
rows_at (id ∷ ids) (row ∷ rows) zero d count all lt = ap (λ b. elim b as (λ _. Option (List ℕ)) [ true ↦ Some row | false ↦ given ids rows id ]) (eq-eqb id id refl)
rows_at (id ∷ ids) (row ∷ rows) (suc i) d count all lt =
    ap (λ b. elim b as (λ _. Option (List ℕ)) [ true ↦ Some row | false ↦ given ids rows (get_or ids i 0) ])
    (ne_eqb id (get_or ids i 0) (λ e. let p = pair_at id ids all.0 i 0 (omega arith) in omega (arith, p, e)))
    ∙ rows_at ids rows i d (omega arith) all.1 (omega arith)

part_given : (k size symbol : ℕ) (ids : List ℕ) (rows : List (List ℕ)) (row : List ℕ) → length rows ≡ length ids → given ids rows symbol ≡ Some row
    → given ids (parts k size ids rows) symbol ≡ Some (part_of k size symbol row)
unfolding listed given
part_given k size symbol [] rows row count e = absurd (cc e)
part_given k size symbol (id ∷ ids) [] row count e = absurd (omega arith)
part_given k size symbol (id ∷ ids) (r ∷ rows) row count e = go (id == symbol) refl e (part_given k size symbol ids rows row (omega arith))
  where
    go : (b : Bool) → (id == symbol) ≡ b → elim b as (λ _. Option (List ℕ)) [ true ↦ Some r | false ↦ given ids rows symbol ] ≡ Some row
        → (given ids rows symbol ≡ Some row → given ids (parts k size ids rows) symbol ≡ Some (part_of k size symbol row))
        → elim b as (λ _. Option (List ℕ)) [ true ↦ Some (part_of k size id r) | false ↦ given ids (parts k size ids rows) symbol ] ≡ Some (part_of k size symbol row)
    go true f g rest =
        let same : r ≡ row = cc g in
        ap (λ n. Some (part_of k size n r)) (eqb-true id symbol f) ∙ ap (λ x. Some (part_of k size symbol x)) same
    go false f g rest = rest g

none_given : (ids : List ℕ) (rows : List (List ℕ)) (symbol : ℕ) → ((i : ℕ) → i < length ids → get_or ids i 0 ≢ symbol) → given ids rows symbol ≡ None
unfolding given
none_given [] rows symbol each = refl
none_given (id ∷ ids) [] symbol each = refl
none_given (id ∷ ids) (row ∷ rows) symbol each =
    ap (λ b. elim b as (λ _. Option (List ℕ)) [ true ↦ Some row | false ↦ given ids rows symbol ]) (ne_eqb id symbol (each 0 (omega arith)))
    ∙ none_given ids rows symbol (λ i lt. each (suc i) (omega arith))

pub row_open : (k size symbol place : ℕ) (ids : List ℕ) (rows : List (List ℕ)) (row : List ℕ) → BlockSound k size ids rows → length ids < k → symbol < k → place < length ids
    → get_or ids place 0 ≡ symbol → row ≡ get_or rows place row → IsRow size (source_of (block_of k size ids rows) symbol) (Some row)
row_open k size symbol place ids rows row s lacking lt within at read =
    subst (λ o. IsRow size o (Some row)) (sym (source_open k size symbol ids rows s.count lacking ∙ part_given k size symbol ids rows row s.count here))
    (record {
      is = whole_given k size ids rows symbol row s.count (subst (AreWhole k size ids) (coded_open k size ids rows lacking) s.whole) here;
      sent = (let n = part_sent k size symbol row lt s.least (ap length read ∙ long_at size rows s.sizes place row (let c = s.count in omega (arith, c, within))) in omega (arith, n));
    })
  where
    here : given ids rows symbol ≡ Some row
    here = ap (given ids rows) (sym at) ∙ rows_at ids rows place row s.count s.rising within ∙ ap Some (sym read)

pub row_none : (k size symbol : ℕ) (ids : List ℕ) (rows : List (List ℕ)) → BlockSound k size ids rows → length ids < k → ((i : ℕ) → i < length ids → get_or ids i 0 ≢ symbol)
    → IsRow size (source_of (block_of k size ids rows) symbol) None
row_none k size symbol ids rows s lacking each =
    subst (λ o. IsRow size o None) (sym (source_open k size symbol ids rows s.count lacking ∙ none_given ids (parts k size ids rows) symbol each)) tt

-- ---- at the fields

pub view_empty : (k size : ℕ) (ids : List ℕ) (rows : List (List ℕ)) → ids ≡ [] → block_of k size ids rows ≡ record { k = k; size = size; came = [] }
unfolding listed
view_empty k size ids rows none = ap (λ xs. block_of k size xs rows) none

pub none_came : (k size : ℕ) (ids : List ℕ) (rows : List (List ℕ)) → length ids ≡ 0 → (block_of k size ids rows).came ≡ []
unfolding listed
none_came k size [] rows none = refl
none_came k size (id ∷ ids) rows none = absurd (omega arith)

pub back_again : (len : ℕ) (new old : List (List ℕ)) → length new ≡ len → take len (new ++ drop (length new) old) ≡ new
back_again len new old long = take_at new (drop (length new) old) len long

-- ---- a block whose own source symbols came

at_least : (ids : List ℕ) → Rises ids → (i : ℕ) → i < length ids → i ≤ get_or ids i 0
at_least ids all zero lt = omega arith
at_least ids all (suc i) lt = (let le = at_least ids all i (omega arith) in let more = risen ids all i (suc i) 0 (omega arith) lt in omega (arith, le, more))

apart_by : (ids : List ℕ) → Rises ids → (d i : ℕ) → i + d < length ids → get_or ids i 0 + d ≤ get_or ids (i + d) 0
apart_by ids all zero i lt = (let e = ap (λ n. get_or ids n 0) (let f : i + 0 ≡ i = omega arith in f) in omega (arith, e))
apart_by ids all (suc d) i lt =
    let le = apart_by ids all d i (omega arith) in
    let more = risen ids all (i + d) (suc (i + d)) 0 (omega arith) (omega arith) in
    let e = ap (λ n. get_or ids n 0) (let f : i + suc d ≡ suc (i + d) = omega arith in f) in
    omega (arith, le, more, e)

-- ids that rise are all their own where the last one is
pub own_by_last : (ids : List ℕ) (last : ℕ) → Rises ids → last + 1 ≡ length ids → get_or ids last 0 ≡ last → (i : ℕ) → i < length ids → get_or ids i 0 ≡ i
own_by_last ids last all at is i lt =
    let low = at_least ids all i lt in
    let high = apart_by ids all (last - i) i (omega (arith, at, lt)) in
    let e = ap (λ n. get_or ids n 0) (let f : i + (last - i) ≡ last = omega (arith, at, lt) in f) in
    omega (arith, low, high, e, is, at, lt)

solved_where : (size : ℕ) (ids : List ℕ) (rows : List (List ℕ)) (j : ℕ) (x : List ℕ) → given ids rows j ≡ Some x → solved_symbol size ids rows j ≡ x
unfolding solved_symbol
solved_where size ids rows j x e = ap (λ (o : Option (List ℕ)). elim o as (λ _. List ℕ) [ Some s ↦ s | None ↦ symbol_at size (map power ids) rows (power j) ]) e

pub own_settled : (k size : ℕ) (ids : List ℕ) (rows : List (List ℕ)) → k ≤ length ids → length rows ≡ length ids → Rises ids → ((i : ℕ) → i < length ids → get_or ids i 0 ≡ i)
    → rows ≡ settled k size ids rows
own_settled k size ids rows le count all own =
    ext_get_or [] rows (solved_sources size ids rows) (count ∙ sym (length-solved_sources size ids rows))
    (λ j lt.
    let within : j < length ids = omega (arith, lt, count) in
    sym (solved_sources-at size j ids rows within
    ∙ solved_where size ids rows j (get_or rows j []) (ap (given ids rows) (sym (own j within)) ∙ rows_at ids rows j [] count all within)))
    ∙ settled_done k size ids rows le
