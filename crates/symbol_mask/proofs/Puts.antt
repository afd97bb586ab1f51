-- Whether a slot is a member of a set with one more.
use Rattle.std.proofs.Common.{◌≡◌, ℕ, ◌<◌, ◌⊎◌, inl, inr, List, [], ◌∷◌, Bool, true, false, refl, sym, ap, ◌∙◌, arith}
use Rattle.std.specs.Prelude.{◌==◌, ◌||◌, not, nat_lt}
use Rattle.std.proofs.lemmas.Bool.{cases_order, lt-ltb, le-ltb}
use Rattle.std.proofs.lemmas.Bool.Decides.{nat_tests}
use Rattle.norm_order.specs.Sets.{with_member, is_member}
use Rattle.norm_order.proofs.SetLemmas.{in_front, again, behind, alone}
use Rattle.symbol_mask.proofs.Ranges.{no_member}

pub same_is : (x y : ℕ) → x ≡ y → (x == y) ≡ true
same_is x y e = grind (arith, nat_tests)

pub other_is : (x y : ℕ) → (x ≡ y → ⊥) → (x == y) ≡ false
other_is x y e = grind (arith, nat_tests)

pub or_false : (a b : Bool) → b ≡ false → (a || b) ≡ a
or_false true b e = refl
or_false false b e = e

pub by_tests : (x y : ℕ) (ys : List ℕ) (b c : Bool) → nat_lt y x ≡ b → nat_lt x y ≡ c
    → is_member nat_lt x (y ∷ ys) ≡ elim b as (λ _. Bool) [ true ↦ is_member nat_lt x ys | false ↦ not c ]
unfolding is_member
by_tests x y ys b c e f =
    ap (λ (d : Bool). elim d as (λ _. Bool) [ true ↦ is_member nat_lt x ys | false ↦ not (nat_lt x y) ]) e
    ∙ ap (λ (d : Bool). elim b as (λ _. Bool) [ true ↦ is_member nat_lt x ys | false ↦ not d ]) f

is_here : (x y : ℕ) (ys : List ℕ) → x ≡ y → is_member nat_lt x (y ∷ ys) ≡ true
is_here x y ys e = by_tests x y ys false false (le-ltb y x (omega arith)) (le-ltb x y (omega arith))

is_less : (x y : ℕ) (ys : List ℕ) → x < y → is_member nat_lt x (y ∷ ys) ≡ false
is_less x y ys lt = by_tests x y ys false true (le-ltb y x (omega arith)) (lt-ltb x y lt)

pub is_more : (x y : ℕ) (ys : List ℕ) → y < x → is_member nat_lt x (y ∷ ys) ≡ is_member nat_lt x ys
is_more x y ys lt = by_tests x y ys true false (lt-ltb y x lt) (le-ltb x y (omega arith))

alone_is : (x y : ℕ) → is_member nat_lt x (y ∷ []) ≡ (x == y)
alone_is x y = go (cases_order x y)
  where
    go : (x ≡ y) ⊎ ((x < y) ⊎ (y < x)) → is_member nat_lt x (y ∷ []) ≡ (x == y)
    go (inl e) = is_here x y [] e ∙ sym (same_is x y e)
    go (inr (inl lt)) = is_less x y [] lt ∙ sym (other_is x y (λ e. omega arith))
    go (inr (inr lt)) = is_more x y [] lt ∙ no_member x ∙ sym (other_is x y (λ e. omega arith))

-- a new first member
front_is : (x y v : ℕ) (ys : List ℕ) → y < v → (x ≡ y) ⊎ ((x < y) ⊎ (y < x))
    → is_member nat_lt x (y ∷ v ∷ ys) ≡ (is_member nat_lt x (v ∷ ys) || x == y)
front_is x y v ys below (inl e) =
    is_here x y (v ∷ ys) e ∙ sym (same_is x y e) ∙ sym (ap (λ b. b || x == y) (is_less x v ys (omega arith)))
front_is x y v ys below (inr (inl lt)) =
    is_less x y (v ∷ ys) lt ∙ sym (is_less x v ys (omega arith)) ∙ sym (or_false _ (x == y) (other_is x y (λ e. omega arith)))
front_is x y v ys below (inr (inr lt)) = is_more x y (v ∷ ys) lt ∙ sym (or_false _ (x == y) (other_is x y (λ e. omega arith)))

-- one that was there
there_is : (x y v : ℕ) (ys : List ℕ) → y ≡ v → (x ≡ y) ⊎ ((x < y) ⊎ (y < x))
    → is_member nat_lt x (v ∷ ys) ≡ (is_member nat_lt x (v ∷ ys) || x == y)
there_is x y v ys same (inl e) = is_here x v ys (e ∙ same) ∙ sym (ap (λ b. b || x == y) (is_here x v ys (e ∙ same)))
there_is x y v ys same (inr (inl lt)) = sym (or_false _ (x == y) (other_is x y (λ e. omega arith)))
there_is x y v ys same (inr (inr lt)) = sym (or_false _ (x == y) (other_is x y (λ e. omega arith)))

-- one further on
behind_is : (x y v : ℕ) (ys : List ℕ) → v < y → (x ≡ v) ⊎ ((x < v) ⊎ (v < x))
    → is_member nat_lt x (with_member nat_lt y ys) ≡ (is_member nat_lt x ys || x == y)
    → is_member nat_lt x (v ∷ with_member nat_lt y ys) ≡ (is_member nat_lt x (v ∷ ys) || x == y)
behind_is x y v ys above (inl e) rest = is_here x v _ e ∙ sym (ap (λ b. b || x == y) (is_here x v ys e))
behind_is x y v ys above (inr (inl lt)) rest =
    is_less x v _ lt ∙ sym (other_is x y (λ e. omega arith)) ∙ sym (ap (λ b. b || x == y) (is_less x v ys lt))
behind_is x y v ys above (inr (inr lt)) rest = is_more x v _ lt ∙ rest ∙ sym (ap (λ b. b || x == y) (is_more x v ys lt))

pub with_puts : (x y : ℕ) (ys : List ℕ) → is_member nat_lt x (with_member nat_lt y ys) ≡ (is_member nat_lt x ys || x == y)
with_puts x y [] = ap (is_member nat_lt x) (alone y) ∙ alone_is x y ∙ sym (ap (λ b. b || x == y) (no_member x))
with_puts x y (v ∷ ys) = go (cases_order y v) (with_puts x y ys)
  where
    go : (y ≡ v) ⊎ ((y < v) ⊎ (v < y)) → is_member nat_lt x (with_member nat_lt y ys) ≡ (is_member nat_lt x ys || x == y)
        → is_member nat_lt x (with_member nat_lt y (v ∷ ys)) ≡ (is_member nat_lt x (v ∷ ys) || x == y)
    go (inl e) rest =
        ap (λ u. is_member nat_lt x (with_member nat_lt u (v ∷ ys))) e ∙ ap (is_member nat_lt x) (again v ys) ∙ there_is x y v ys e (cases_order x y)
    go (inr (inl lt)) rest = ap (is_member nat_lt x) (in_front y v ys lt) ∙ front_is x y v ys lt (cases_order x y)
    go (inr (inr lt)) rest = ap (is_member nat_lt x) (behind v y ys lt) ∙ behind_is x y v ys lt (cases_order x v) rest
