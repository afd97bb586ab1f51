-- A part of a list that is written over.
use Rattle.std.proofs.Common.{◌≡◌, ℕ, ◌+◌, ◌-◌, ◌*◌, ◌<◌, ◌≤◌, ◌⊎◌, inl, inr, sym, ap, ◌∙◌, arith, List, ◌++◌, length, get_or, take}
use Rattle.std.proofs.Math.ListN.{get_or-append}
use Rattle.std.proofs.Math.Nat.{mul-le-mul_right}
use Rattle.std.proofs.lemmas.Bool.{cases_lt}
use Rattle.std.proofs.lemmas.List.{get_or-take, get_or-append_right, length-take-le}

pub before_part : (xs ys zs : List ℕ) (a i : ℕ) → i < a → a ≤ length xs → get_or (take a xs ++ (ys ++ zs)) i 0 ≡ get_or xs i 0
before_part xs ys zs a i lt h =
    get_or-append (take a xs) (ys ++ zs) 0 i (omega (arith, length-take-le a xs h)) ∙ get_or-take a xs i 0 lt

in_part : (xs ys zs : List ℕ) (a i : ℕ) → i < length ys → a ≤ length xs → get_or (take a xs ++ (ys ++ zs)) (a + i) 0 ≡ get_or ys i 0
in_part xs ys zs a i lt h =
    get_or-append_right (take a xs) (ys ++ zs) a (a + i) 0 (length-take-le a xs h) (omega arith)
    ∙ ap (λ n. get_or (ys ++ zs) n 0) (let e : a + i - a ≡ i = omega arith in e)
    ∙ get_or-append ys zs 0 i lt

-- rows of `size` numbers, written one after the other: row m has the value P m t at place t
pub rows_go_on : (P : ℕ → ℕ → ℕ) (size j start : ℕ) (out part zs : List ℕ) → start ≡ j * size → start + size ≤ length out → length part ≡ size
    → ((m t : ℕ) → m < j → t < size → get_or out (m * size + t) 0 ≡ P m t) → ((t : ℕ) → t < size → get_or part t 0 ≡ P j t)
    → (m t : ℕ) → m < j + 1 → t < size → get_or (take start out ++ (part ++ zs)) (m * size + t) 0 ≡ P m t
rows_go_on P size j start out part zs is fits len before here m t m_lt t_lt = go (cases_lt m j)
  where
    go : (m < j) ⊎ (j ≤ m) → get_or (take start out ++ (part ++ zs)) (m * size + t) 0 ≡ P m t
    go (inl h) =
        before_part out part zs start (m * size + t) (omega (arith, mul-le-mul_right size h)) (omega arith) ∙ before m t h t_lt
    go (inr h) =
        let same : m ≡ j = omega arith in
        let at : m * size + t ≡ start + t = ap (λ n. n * size + t) same ∙ ap (λ n. n + t) (sym is) in
        ap (λ n. get_or (take start out ++ (part ++ zs)) n 0) at
        ∙ in_part out part zs start t (omega arith) (omega arith)
        ∙ here t t_lt ∙ ap (λ n. P n t) (sym same)
