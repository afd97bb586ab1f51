-- Symbols in rows, solved in place.
use Rattle.std.proofs.Common.{◌≡◌, ◌≢◌, ℕ, zero, suc, ◌+◌, ◌*◌, ◌<◌, ◌≤◌, ◌⊎◌, inl, inr, List, [], ◌∷◌, length, map, get_or, refl, sym, ap, ◌∙◌, subst, arith}
use Rattle.std.specs.List.{AllByRecursion, concat, swap}
use Rattle.std.proofs.Math.ListN.{set}
use Rattle.std.proofs.lemmas.Bool.{cases_order, ne_eqb}
use Rattle.std.proofs.lemmas.Bool.Decides.{Decides-eqb}
use Rattle.std.specs.Prelude.{IsPermutation, nat_eq}
use Rattle.std.proofs.lemmas.List.{get_or-map, length-map, ext_get_or}
use Rattle.std.proofs.lemmas.List.Edits.{Swapped, swap_is, swapped_from_swap, length-swap}
use Rattle.std.proofs.lemmas.List.Sorted.{All-permutation}
use Rattle.std.proofs.lemmas.Map.Keys.{IsDistinct-IsPermutation}
use Rattle.std.proofs.lemmas.Map.Made.{AllPairs-from_IsDistinct}
use Rattle.gf_field.specs.Element.{AreElements}
use Rattle.gf_field.specs.Symbol.{AreSymbols, AreIds, encoded_symbol, solved_sources}
use Rattle.gf_field.proofs.Places.{distinct_from_pairs}
use Rattle.gf_field.proofs.Symbols.{length-solved_sources, solved_sources-sizes}
use Rattle.rs_block.specs.Codeword.{GoesThroughAt}
use Rattle.rs_block.proofs.Functions.{concat-at, function_laws, length-concat}
use Rattle.rs_block.proofs.InRows.{AreLong, long_at, same_rows}
use Rattle.rx_stream.specs.SameBlock.{SameBlock}

-- ---- symbols that change places

flips : (x y : ℕ) → nat_eq x y ≡ nat_eq y x
flips x y = go (cases_order x y)
  where
    go : (x ≡ y) ⊎ ((x < y) ⊎ (y < x)) → nat_eq x y ≡ nat_eq y x
    go (inl e) = ap (λ z. nat_eq z y) e ∙ ap (λ z. nat_eq y z) (sym e)
    go (inr (inl lt)) = ne_eqb x y (λ e. omega (arith, e, lt)) ∙ sym (ne_eqb y x (λ e. omega (arith, e, lt)))
    go (inr (inr lt)) = ne_eqb x y (λ e. omega (arith, e, lt)) ∙ sym (ne_eqb y x (λ e. omega (arith, e, lt)))

-- where the symbol at i came to lie
record LiesAt (k i : ℕ) (ids : List ℕ) (rows : List (List ℕ)) (moved_ids : List ℕ) (moved_rows : List (List ℕ)) : Type 0 where
  pub place : ℕ
  pub within : place < k
  pub id : get_or moved_ids place 0 ≡ get_or ids i 0
  pub row : get_or moved_rows place [] ≡ get_or rows i []

-- symbols that all lie in some row still give the same sources
moved_sources : (k size : ℕ) (ids moved_ids : List ℕ) (rows moved_rows : List (List ℕ)) → k ≤ 255 → AreIds k 255 ids → AreIds k 255 moved_ids
    → AreSymbols k size rows → AreSymbols k size moved_rows → ((i : ℕ) → i < k → LiesAt k i ids rows moved_ids moved_rows)
    → solved_sources size moved_ids moved_rows ≡ solved_sources size ids rows
moved_sources k size ids moved_ids rows moved_rows most are moved_are symbols moved_symbols at =
    same_rows size sources (solved_sources size ids rows) sizes (solved_sources-sizes k size ids rows symbols)
    (count ∙ sym are.count ∙ sym (length-solved_sources size ids rows))
    (function_laws.solved_only k size ids rows (concat sources) most symbols are (length-concat size sources sizes ∙ ap (λ n. n * size) count)
    (λ t t_lt.
    let g : GoesThroughAt k size moved_ids (concat moved_rows) (concat sources) t = function_laws.solved k size moved_ids moved_rows most moved_symbols moved_are t t_lt in
    record {
      word = g.word;
      is = g.is;
      meets = λ i lt. met g.word t t_lt g.meets i lt (at i lt);
    }))
  where
    sources : List (List ℕ)
    sources = solved_sources size moved_ids moved_rows

    sizes : AreLong size (solved_sources size moved_ids moved_rows)
    sizes = solved_sources-sizes k size moved_ids moved_rows moved_symbols

    count : length (solved_sources size moved_ids moved_rows) ≡ k
    count = length-solved_sources size moved_ids moved_rows ∙ moved_are.count

    met : (word : List ℕ) (t : ℕ) → t < size → ((i : ℕ) → i < k → get_or word (get_or moved_ids i 0) 0 ≡ get_or (concat moved_rows) (i * size + t) 0)
        → (i : ℕ) → i < k → LiesAt k i ids rows moved_ids moved_rows → get_or word (get_or ids i 0) 0 ≡ get_or (concat rows) (i * size + t) 0
    met word t t_lt meets i lt h =
        ap (λ n. get_or word n 0) (sym h.id) ∙ meets h.place h.within
        ∙ concat-at size h.place t moved_rows moved_symbols.sizes (let n = moved_symbols.count in let m = h.within in omega (arith, n, m)) t_lt
        ∙ ap (λ s. get_or s t 0) h.row
        ∙ sym (concat-at size i t rows symbols.sizes (let n = symbols.count in omega (arith, n, lt)) t_lt)

all_at : {X : Type 0} (P : X → Type 0) (xs : List X) (i : ℕ) (d : X) → AllByRecursion P xs → i < length xs → P (get_or xs i d)
all_at P [] i d all lt = absurd (omega arith)
all_at P (x ∷ xs) zero d all lt = all.0
all_at P (x ∷ xs) (suc i) d all lt = all_at P xs i d all.1 (omega arith)

all_set : {X : Type 0} (P : X → Type 0) (xs : List X) (i : ℕ) (x : X) → AllByRecursion P xs → P x → AllByRecursion P (set xs i x)
all_set P [] i x all one = tt
all_set P (y ∷ ys) zero x all one = (one, all.1)
all_set P (y ∷ ys) (suc i) x all one = (all.0, all_set P ys i x all.1 one)

all_swapped : (P : List ℕ → Type 0) (xs : List (List ℕ)) (a b : ℕ) → AllByRecursion P xs → a < length xs → b < length xs → AllByRecursion P (swap xs a b)
all_swapped P xs a b all a_lt b_lt =
    subst (AllByRecursion P) (swap_is xs a b [] a_lt b_lt)
    (all_set P (set xs a (get_or xs b [])) b (get_or xs a []) (all_set P xs a (get_or xs b []) all (all_at P xs b [] all b_lt)) (all_at P xs a [] all a_lt))

-- where two that change places come to lie
swapped_at : (k a b i : ℕ) (ids moved_ids : List ℕ) (rows moved_rows : List (List ℕ)) → a < k → b < k → i < k
    → Swapped (λ n. get_or ids n 0) (λ n. get_or moved_ids n 0) a b → Swapped (λ n. get_or rows n []) (λ n. get_or moved_rows n []) a b
    → LiesAt k i ids rows moved_ids moved_rows
swapped_at k a b i ids moved_ids rows moved_rows a_lt b_lt lt p q = go (cases_order i a) (cases_order i b)
  where
    away : (i ≢ a) → (i ≢ b) → LiesAt k i ids rows moved_ids moved_rows
    away x y = record { place = i; within = lt; id = p.2 i x y; row = q.2 i x y }

    go : (i ≡ a) ⊎ ((i < a) ⊎ (a < i)) → (i ≡ b) ⊎ ((i < b) ⊎ (b < i)) → LiesAt k i ids rows moved_ids moved_rows
    go (inl e) other = record {
      place = b;
      within = b_lt;
      id = p.1 ∙ ap (λ n. get_or ids n 0) (sym e);
      row = q.1 ∙ ap (λ n. get_or rows n []) (sym e);
    }
    go (inr x) (inl e) = record {
      place = a;
      within = a_lt;
      id = p.0 ∙ ap (λ n. get_or ids n 0) (sym e);
      row = q.0 ∙ ap (λ n. get_or rows n []) (sym e);
    }
    go (inr (inl x)) (inr (inl y)) = away (λ e. omega (arith, e, x)) (λ e. omega (arith, e, y))
    go (inr (inl x)) (inr (inr y)) = away (λ e. omega (arith, e, x)) (λ e. omega (arith, e, y))
    go (inr (inr x)) (inr (inl y)) = away (λ e. omega (arith, e, x)) (λ e. omega (arith, e, y))
    go (inr (inr x)) (inr (inr y)) = away (λ e. omega (arith, e, x)) (λ e. omega (arith, e, y))

pub same_kept : (k size : ℕ) (ids : List ℕ) (rows : List (List ℕ)) → AreIds k 255 ids → AreSymbols k size rows → SameBlock k size ids rows ids rows
same_kept k size ids rows are symbols = record { ids_are = are; symbols_are = symbols; sources = refl }

pub same_on : (k size : ℕ) (ids moved_ids last_ids : List ℕ) (rows moved_rows last_rows : List (List ℕ)) → SameBlock k size ids rows moved_ids moved_rows
    → SameBlock k size moved_ids moved_rows last_ids last_rows → SameBlock k size ids rows last_ids last_rows
same_on k size ids moved_ids last_ids rows moved_rows last_rows p q =
    record { ids_are = q.ids_are; symbols_are = q.symbols_are; sources = q.sources ∙ p.sources }

pub same_swapped : (k size a b : ℕ) (ids moved_ids : List ℕ) (rows moved_rows : List (List ℕ)) → k ≤ 255 → AreIds k 255 ids → AreSymbols k size rows → a < k → b < k
    → moved_ids ≡ swap ids a b → IsPermutation ids moved_ids → moved_rows ≡ swap rows a b → SameBlock k size ids rows moved_ids moved_rows
same_swapped k size a b ids moved_ids rows moved_rows most are symbols a_lt b_lt ids_is other_order rows_is =
    record {
      ids_are = moved_are;
      symbols_are = moved_symbols;
      sources = moved_sources k size ids moved_ids rows moved_rows most are moved_are symbols moved_symbols
          (λ i lt.
          swapped_at k a b i ids moved_ids rows moved_rows a_lt b_lt lt
          (swapped_from_swap ids moved_ids a b 0 (omega (arith, are.count, a_lt)) (omega (arith, are.count, b_lt)) ids_is)
          (swapped_from_swap rows moved_rows a b [] (omega (arith, symbols.count, a_lt)) (omega (arith, symbols.count, b_lt)) rows_is));
    }
  where
    moved_are : AreIds k 255 moved_ids
    moved_are = record {
      count = ap (λ xs. length xs) ids_is ∙ length-swap ids a b ∙ are.count;
      different = AllPairs-from_IsDistinct Decides-eqb moved_ids
          (IsDistinct-IsPermutation nat_eq flips ids moved_ids other_order (distinct_from_pairs ids are.different));
      below = All-permutation (λ j. j < 255) ids moved_ids other_order are.below;
    }

    moved_symbols : AreSymbols k size moved_rows
    moved_symbols = subst (AreSymbols k size) (sym rows_is)
        (record {
          count = length-swap rows a b ∙ symbols.count;
          sizes = all_swapped (λ (s : List ℕ). length s ≡ size) rows a b symbols.sizes (omega (arith, symbols.count, a_lt)) (omega (arith, symbols.count, b_lt));
          octets = all_swapped AreElements rows a b symbols.octets (omega (arith, symbols.count, a_lt)) (omega (arith, symbols.count, b_lt));
        })

-- ---- solving

-- what came is encoded of the sources that it gives
pub encoded_again : (k size : ℕ) (ids : List ℕ) (rows : List (List ℕ)) → k ≤ 255 → AreIds k 255 ids → AreSymbols k size rows
    → AllByRecursion AreElements (solved_sources size ids rows) → map (encoded_symbol size (solved_sources size ids rows)) ids ≡ rows
encoded_again k size ids rows most are symbols elements =
    ext_get_or [] (map (encoded_symbol size sources) ids) rows (length-map ids (encoded_symbol size sources) ∙ are.count ∙ sym symbols.count)
    (λ i lt.
    let within : i < length ids = omega (arith, length-map ids (encoded_symbol size sources), lt) in
    get_or-map (encoded_symbol size sources) ids i 0 [] within
    ∙ sym (function_laws.encoded_only k 255 size (get_or ids i 0) sources (get_or rows i []) most (omega arith)
    (are.below i 0 within) sources_are (long_at size rows symbols.sizes i [] (omega (arith, symbols.count, are.count, within)))
    (λ t t_lt.
    let g : GoesThroughAt k size ids (concat rows) (concat sources) t = function_laws.solved k size ids rows most symbols are t t_lt in
    record {
      word = g.word;
      is = g.is;
      octet = sym (concat-at size i t rows symbols.sizes (omega (arith, symbols.count, are.count, within)) t_lt) ∙ sym (g.meets i (omega (arith, are.count, within)));
    })))
  where
    sources : List (List ℕ)
    sources = solved_sources size ids rows

    sources_are : AreSymbols k size (solved_sources size ids rows)
    sources_are = record {
      count = length-solved_sources size ids rows ∙ are.count;
      sizes = solved_sources-sizes k size ids rows symbols;
      octets = elements;
    }
