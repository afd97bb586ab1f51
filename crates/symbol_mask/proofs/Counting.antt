-- How many members a set has.
use Rattle.std.proofs.Common.{◌≡◌, ℕ, suc, ◌<◌, ◌⊎◌, inl, inr, List, [], ◌∷◌, length, Bool, true, false, refl, ap, ◌∙◌, arith}
use Rattle.std.specs.Prelude.{not, nat_lt}
use Rattle.std.proofs.lemmas.Bool.{cases_order, le-ltb}
use Rattle.norm_order.specs.Sets.{with_member, is_member}

-- one more where a bit says so
abbrev pub more : Bool → ℕ → ℕ
more true n = n
more false n = suc n

-- A set with one more member has one more, where it was none before.
pub length-with_member : (x : ℕ) (xs : List ℕ) → length (with_member nat_lt x xs) ≡ more (is_member nat_lt x xs) (length xs)
unfolding with_member is_member
length-with_member x [] = refl
length-with_member x (y ∷ ys) = go (nat_lt x y) (nat_lt y x) (cases_order x y) refl refl (length-with_member x ys)
  where
    more_suc : (b : Bool) (n : ℕ) → suc (more b n) ≡ more b (suc n)
    more_suc true n = refl
    more_suc false n = refl

    both : (x ≡ y) ⊎ ((x < y) ⊎ (y < x)) → nat_lt x y ≡ true → nat_lt y x ≡ true → ⊥
    both (inl h) e f = let g = le-ltb x y (omega arith) in cc
    both (inr (inl h)) e f = let g = le-ltb y x (omega arith) in cc
    both (inr (inr h)) e f = let g = le-ltb x y (omega arith) in cc

    go : (b c : Bool) → (x ≡ y) ⊎ ((x < y) ⊎ (y < x)) → nat_lt x y ≡ b → nat_lt y x ≡ c
        → length (with_member nat_lt x ys) ≡ more (is_member nat_lt x ys) (length ys)
        → length (elim b as (λ _. List ℕ) [ true ↦ x ∷ y ∷ ys | false ↦ elim c [ true ↦ y ∷ with_member nat_lt x ys | false ↦ y ∷ ys ] ])
        ≡ more (elim c as (λ _. Bool) [ true ↦ is_member nat_lt x ys | false ↦ not b ]) (suc (length ys))
    go true true order e f rest = absurd (both order e f)
    go true false order e f rest = refl
    go false true order e f rest = ap suc rest ∙ more_suc (is_member nat_lt x ys) (length ys)
    go false false order e f rest = refl

pub not_true : (b : Bool) → not b ≡ true → b ≡ false
not_true true e = absurd (cc)
not_true false e = refl

pub not_false : (b : Bool) → not b ≡ false → b ≡ true
not_false true e = refl
not_false false e = absurd (cc)
