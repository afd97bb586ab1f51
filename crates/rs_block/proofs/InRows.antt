-- A block that is solved in the rows of its symbols.
use Rattle.std.proofs.Common.{◌≡◌, ◌≢◌, ℕ, zero, suc, ◌+◌, ◌*◌, ◌<◌, ◌≤◌, ◌⊎◌, inl, inr, refl, sym, ap, ◌∙◌, subst, arith, List, [], ◌∷◌, length, get_or, take, drop}
use Rattle.std.specs.List.{AllByRecursion, concat}
use Rattle.std.proofs.Math.ListN.{set}
use Rattle.std.proofs.Math.Nat.{mul-le-mul_right}
use Rattle.std.proofs.lemmas.Bool.{cases_lt}
use Rattle.std.proofs.lemmas.List.{get_or_default, get_or_past, get_or-set_same, get_or-set_other, length-set, take_at, drop_at}
use Rattle.gf_field.specs.Element.{AreElements}
use Rattle.gf_field.specs.Symbol.{AreSymbols, AreIds, solved_sources}
use Rattle.gf_field.proofs.Symbols.{length-solved_sources, solved_sources-sizes}
use Rattle.rs_block.specs.Codeword.{AreSources}
use Rattle.rs_block.proofs.Functions.{length-concat, concat-at, function_laws}

-- the sizes of rows
abbrev pub AreLong : ℕ → List (List ℕ) → Type 0
AreLong size rows = AllByRecursion (λ (row : List ℕ). length row ≡ size) rows

pub long_at : (size : ℕ) (rows : List (List ℕ)) → AreLong size rows → (i : ℕ) (d : List ℕ) → i < length rows → length (get_or rows i d) ≡ size
long_at size [] all i d lt = absurd (omega arith)
long_at size (r ∷ rows) all zero d lt = all.0
long_at size (r ∷ rows) all (suc i) d lt = long_at size rows all.1 i d (omega arith)

-- the octets of one row, as they stand among those of all
pub row_octet : (size i t : ℕ) (rows : List (List ℕ)) (row octets : List ℕ) → AreLong size rows → i < length rows → row ≡ get_or rows i row → octets ≡ row → t < length octets
    → get_or octets t 0 ≡ get_or (concat rows) (i * size + t) 0
row_octet size i t rows row octets long lt is same t_lt =
    let whole : octets ≡ get_or rows i [] = same ∙ is ∙ get_or_default rows i row [] lt in
    let wide : length octets ≡ size = ap (λ xs. length xs) whole ∙ long_at size rows long i [] lt in
    ap (λ xs. get_or xs t 0) whole ∙ sym (concat-at size i t rows long lt (omega arith))

-- ---- a row that is written over

all_set : (P : List ℕ → Type 0) (rows : List (List ℕ)) (i : ℕ) (row : List ℕ) → AllByRecursion P rows → P row → AllByRecursion P (set rows i row)
all_set P [] i row all one = tt
all_set P (r ∷ rows) zero row all one = (one, all.1)
all_set P (r ∷ rows) (suc i) row all one = (all.0, all_set P rows i row all.1 one)

pub symbols_set : (k size i : ℕ) (rows : List (List ℕ)) (row symbol : List ℕ) → row ≡ symbol → length symbol ≡ size → AreElements symbol
    → AreSymbols k size rows → AreSymbols k size (set rows i row)
symbols_set k size i rows row symbol is long octets are = record {
  count = length-set rows i row ∙ are.count;
  sizes = all_set (λ (s : List ℕ). length s ≡ size) rows i row are.sizes (ap (λ xs. length xs) is ∙ long);
  octets = all_set AreElements rows i row are.octets (subst AreElements (sym is) octets);
}

pub set_here : (size i t : ℕ) (rows : List (List ℕ)) (row symbol : List ℕ) → row ≡ symbol → length symbol ≡ size → AreLong size rows → i < length rows → t < size
    → get_or (concat (set rows i row)) (i * size + t) 0 ≡ get_or symbol t 0
set_here size i t rows row symbol is wide long lt t_lt =
    concat-at size i t (set rows i row) (all_set (λ (s : List ℕ). length s ≡ size) rows i row long (ap (λ xs. length xs) is ∙ wide)) (omega (arith, length-set rows i row)) t_lt
    ∙ ap (λ s. get_or s t 0) (get_or-set_same rows i row [] lt ∙ is)

pub set_others : (size i m t : ℕ) (rows : List (List ℕ)) (row symbol : List ℕ) → row ≡ symbol → length symbol ≡ size → AreLong size rows → m ≢ i → t < size
    → get_or (concat (set rows i row)) (m * size + t) 0 ≡ get_or (concat rows) (m * size + t) 0
set_others size i m t rows row symbol is wide long differ t_lt = go (cases_lt m (length rows))
  where
    now : List (List ℕ)
    now = set rows i row

    sizes : AreLong size (set rows i row)
    sizes = all_set (λ (s : List ℕ). length s ≡ size) rows i row long (ap (λ xs. length xs) is ∙ wide)

    go : (m < length rows) ⊎ (length rows ≤ m) → get_or (concat (set rows i row)) (m * size + t) 0 ≡ get_or (concat rows) (m * size + t) 0
    go (inl lt) =
        concat-at size m t now sizes (omega (arith, length-set rows i row)) t_lt
        ∙ ap (λ s. get_or s t 0) (get_or-set_other rows i m row [] differ)
        ∙ sym (concat-at size m t rows long lt t_lt)
    go (inr past) =
        let most : length rows * size ≤ m * size = mul-le-mul_right size past in
        get_or_past (concat now) (m * size + t) 0
        (let long_now : length (concat now) ≡ length rows * size = length-concat size now sizes ∙ ap (λ n. n * size) (length-set rows i row) in omega arith)
        ∙ sym (get_or_past (concat rows) (m * size + t) 0
        (let long_then : length (concat rows) ≡ length rows * size = length-concat size rows long in omega arith))

-- ---- rows that are solved

-- rows of one size are known by their octets
pub same_rows : (size : ℕ) (xs ys : List (List ℕ)) → AreLong size xs → AreLong size ys → length xs ≡ length ys → concat xs ≡ concat ys → xs ≡ ys
same_rows size [] [] a b n e = refl
same_rows size [] (y ∷ ys) a b n e = absurd (omega arith)
same_rows size (x ∷ xs) [] a b n e = absurd (omega arith)
same_rows size (x ∷ xs) (y ∷ ys) a b n e =
    let first : x ≡ y = sym (take_at x (concat xs) size a.0) ∙ ap (take size) e ∙ take_at y (concat ys) size b.0 in
    let rest : concat xs ≡ concat ys = sym (drop_at x (concat xs) size a.0) ∙ ap (drop size) e ∙ drop_at y (concat ys) size b.0 in
    ap (λ r. r ∷ xs) first ∙ ap (λ rs. y ∷ rs) (same_rows size xs ys a.1 b.1 (omega arith) rest)

pub rows_solved : (k size : ℕ) (ids : List ℕ) (rows now : List (List ℕ)) → k ≤ 255 → AreIds k 255 ids → AreSymbols k size rows → AreSymbols k size now
    → AreSources k size ids (concat rows) (concat now) → now ≡ solved_sources size ids rows
rows_solved k size ids rows now most are symbols symbols_now sources =
    same_rows size now (solved_sources size ids rows) symbols_now.sizes (solved_sources-sizes k size ids rows symbols)
    (symbols_now.count ∙ sym are.count ∙ sym (length-solved_sources size ids rows))
    (function_laws.solved_only k size ids rows (concat now) most symbols are
    (length-concat size now symbols_now.sizes ∙ ap (λ n. n * size) symbols_now.count) sources)
