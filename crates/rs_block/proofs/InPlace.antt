-- A block that is solved in its own row.
use Rattle.std.proofs.Common.{◌≡◌, ◌≢◌, ℕ, ◌+◌, ◌*◌, ◌<◌, ◌≤◌, ◌⊎◌, inl, inr, sym, ap, ◌∙◌, arith, List, ◌++◌, length, get_or, take, drop, map}
use Rattle.std.proofs.Math.Nat.{mul-le-mul_right}
use Rattle.std.proofs.lemmas.Bool.{cases_lt, cases_order}
use Rattle.std.proofs.lemmas.List.{get_or-drop}
use Rattle.std.proofs.lemmas.Slice.{drop-put_mid}
use Rattle.norm_base.specs.Octets.{AreOctets}
use Rattle.gf_field.specs.Power.{power}
use Rattle.gf_field.specs.Interpolation.{interpolated}
use Rattle.rs_block.specs.Aside.{LieIn}
use Rattle.rs_block.specs.Codeword.{AreIds}
use Rattle.rs_block.specs.Column.{column}
use Rattle.rs_block.proofs.Parts.{before_part}
use Rattle.rs_block.proofs.Words.{given_octet}

-- the symbols of the other places, after one was written over
pub others_stay : (size i k m t : ℕ) (xs ys : List ℕ) → k ≡ size → i * size + size ≤ length xs → length ys ≡ size → m ≢ i → t < size
    → get_or (take (i * size) xs ++ (ys ++ drop k (drop (i * size) xs))) (m * size + t) 0 ≡ get_or xs (m * size + t) 0
others_stay size i k m t xs ys wide fits long differ lt = go (cases_order m i)
  where
    go : (m ≡ i) ⊎ ((m < i) ⊎ (i < m)) → get_or (take (i * size) xs ++ (ys ++ drop k (drop (i * size) xs))) (m * size + t) 0 ≡ get_or xs (m * size + t) 0
    go (inl same) = absurd (differ same)
    go (inr (inl less)) =
        before_part xs ys (drop k (drop (i * size) xs)) (i * size) (m * size + t) (omega (arith, mul-le-mul_right size less)) (omega arith)
    go (inr (inr more)) =
        sym (get_or-drop (m * size) (take (i * size) xs ++ (ys ++ drop k (drop (i * size) xs))) t 0)
        ∙ ap (λ zs. get_or zs t 0) (drop-put_mid (i * size) k xs ys (m * size) (omega (arith, mul-le-mul_right size more)) (omega arith) (omega arith))
        ∙ get_or-drop (m * size) xs t 0

-- what lies aside of the places below i that have another symbol
abbrev pub IsAside : ℕ → List ℕ → List ℕ → ℕ → List ℕ → Type 0
IsAside size ids row i aside =
    (m t : ℕ) → m < i → t < size → get_or ids m 0 ≢ m → get_or aside (m * size + t) 0 ≡ get_or row (m * size + t) 0

-- the places below j have their source symbols, and no place whose symbol is its own was written
pub record AreSolved (size : ℕ) (ids symbols : List ℕ) (j : ℕ) (row : List ℕ) : Type 0 where
  pub octets : AreOctets symbols
  pub own : (m t : ℕ) → m < length ids → t < size → get_or ids m 0 ≡ m → get_or row (m * size + t) 0 ≡ get_or symbols (m * size + t) 0
  pub done : (m t : ℕ) → m < j → t < size → get_or row (m * size + t) 0 ≡ interpolated (map power ids) (column (length ids) size symbols t) (power m)

-- one place more, whose symbol is its own
pub solved_own : (size j : ℕ) (ids symbols row : List ℕ) → AreIds (length ids) 255 ids → j < length ids → get_or ids j 0 ≡ j
    → AreSolved size ids symbols j row → AreSolved size ids symbols (j + 1) row
solved_own size j ids symbols row are within own before = record {
  octets = before.octets;
  own = before.own;
  done = λ m t m_lt t_lt. go m t m_lt t_lt (cases_lt m j);
}
  where
    go : (m t : ℕ) → m < j + 1 → t < size → (m < j) ⊎ (j ≤ m) → get_or row (m * size + t) 0 ≡ interpolated (map power ids) (column (length ids) size symbols t) (power m)
    go m t m_lt t_lt (inl h) = before.done m t h t_lt
    go m t m_lt t_lt (inr h) =
        let same : m ≡ j = omega arith in
        let is : get_or ids m 0 ≡ m = ap (λ n. get_or ids n 0) same ∙ own ∙ sym same in
        before.own m t (omega arith) t_lt is ∙ given_octet ids symbols size m m t are before.octets (omega arith) is

-- one place more, which was written over
pub solved_more : (size j : ℕ) (ids symbols row next symbol : List ℕ) → (get_or ids j 0 ≢ j)
    → ((t : ℕ) → t < size → get_or symbol t 0 ≡ interpolated (map power ids) (column (length ids) size symbols t) (power j))
    → ((t : ℕ) → t < size → get_or next (j * size + t) 0 ≡ get_or symbol t 0)
    → ((m t : ℕ) → m ≢ j → t < size → get_or next (m * size + t) 0 ≡ get_or row (m * size + t) 0)
    → AreSolved size ids symbols j row → AreSolved size ids symbols (j + 1) next
solved_more size j ids symbols row next symbol other is here others before = record {
  octets = before.octets;
  own = λ m t m_lt t_lt own. others m t (λ e. absurd (other (ap (λ n. get_or ids n 0) (sym e) ∙ own ∙ e))) t_lt ∙ before.own m t m_lt t_lt own;
  done = λ m t m_lt t_lt. go m t m_lt t_lt (cases_lt m j);
}
  where
    go : (m t : ℕ) → m < j + 1 → t < size → (m < j) ⊎ (j ≤ m) → get_or next (m * size + t) 0 ≡ interpolated (map power ids) (column (length ids) size symbols t) (power m)
    go m t m_lt t_lt (inl h) = others m t (λ e. absurd (omega (arith, e))) t_lt ∙ before.done m t h t_lt
    go m t m_lt t_lt (inr h) =
        let same : m ≡ j = omega arith in
        ap (λ n. get_or next (n * size + t) 0) same ∙ here t t_lt ∙ is t t_lt
        ∙ ap (λ n. interpolated (map power ids) (column (length ids) size symbols t) (power n)) (sym same)

-- where the symbols lie while some places are written over
pub lie_still : (size j : ℕ) (ids symbols row aside : List ℕ) → AreSolved size ids symbols j row → LieIn size ids symbols symbols aside → LieIn size ids symbols row aside
lie_still size j ids symbols row aside solved lie = record { own = solved.own; displaced = lie.displaced }
