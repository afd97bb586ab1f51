-- Sets as the numbers of a range that pass a test.
use Rattle.std.proofs.Common.{◌≡◌, ℕ, zero, suc, ◌+◌, ◌<◌, ◌≤◌, ◌⊎◌, inl, inr, List, [], ◌∷◌, Bool, true, false, refl, sym, ap, ◌∙◌, cond, arith}
use Rattle.std.specs.Prelude.{not, filter, nat_lt}
use Rattle.std.specs.List.{range_with_len}
use Rattle.std.proofs.lemmas.Bool.{cases_order, lt-ltb, le-ltb}
use Rattle.norm_order.specs.Sets.{with_member, is_member}
use Rattle.norm_order.proofs.SetLemmas.{in_front, again, behind, alone}

first_below : (p : ℕ → Bool) (m a n : ℕ) → m < a → with_member nat_lt m (filter p (range_with_len a n)) ≡ m ∷ filter p (range_with_len a n)
first_below p m a zero lt = alone m
first_below p m a (suc n) lt = go (p a) (first_below p m (a + 1) n (omega arith))
  where
    go : (b : Bool) → with_member nat_lt m (filter p (range_with_len (a + 1) n)) ≡ m ∷ filter p (range_with_len (a + 1) n)
        → with_member nat_lt m (cond b (a ∷ filter p (range_with_len (a + 1) n)) (filter p (range_with_len (a + 1) n)))
        ≡ m ∷ cond b (a ∷ filter p (range_with_len (a + 1) n)) (filter p (range_with_len (a + 1) n))
    go true rest = in_front m a _ lt
    go false rest = rest

-- two tests that agree on a range
pub same_filter : (p q : ℕ → Bool) (a n : ℕ) → ((i : ℕ) → a ≤ i → q i ≡ p i) → filter q (range_with_len a n) ≡ filter p (range_with_len a n)
same_filter p q a zero same = refl
same_filter p q a (suc n) same =
    ap (λ b. cond b (a ∷ filter q (range_with_len (a + 1) n)) (filter q (range_with_len (a + 1) n))) (same a (omega arith))
    ∙ ap (λ xs. cond (p a) (a ∷ xs) xs) (same_filter p q (a + 1) n (λ i le. same i (omega arith)))

-- no number passes
pub no_filter : (p : ℕ → Bool) (a n : ℕ) → ((i : ℕ) → a ≤ i → i < a + n → p i ≡ false) → filter p (range_with_len a n) ≡ []
no_filter p a zero none = refl
no_filter p a (suc n) none =
    ap (λ b. cond b (a ∷ filter p (range_with_len (a + 1) n)) (filter p (range_with_len (a + 1) n))) (none a (omega arith) (omega arith))
    ∙ no_filter p (a + 1) n (λ i le lt. none i (omega arith) (omega arith))

-- one more number passes
pub filter_with : (p q : ℕ → Bool) (x a n : ℕ) → a ≤ x → x < a + n → q x ≡ true → ((i : ℕ) → (i ≡ x → ⊥) → q i ≡ p i)
    → filter q (range_with_len a n) ≡ with_member nat_lt x (filter p (range_with_len a n))
filter_with p q x a zero le lt here there = absurd (omega arith)
filter_with p q x a (suc n) le lt here there =
    go (cases_order a x) (λ below. filter_with p q x (a + 1) n (omega arith) (omega arith) here there)
  where
    at_it : a ≡ x → (b : Bool) → x ∷ filter p (range_with_len (a + 1) n) ≡ with_member nat_lt x (cond b (a ∷ filter p (range_with_len (a + 1) n)) (filter p (range_with_len (a + 1) n)))
    at_it e true = sym (ap (λ y. with_member nat_lt x (y ∷ filter p (range_with_len (a + 1) n))) e ∙ again x _)
    at_it e false = sym (first_below p x (a + 1) n (omega arith))

    before_it : a < x → (b : Bool) → filter q (range_with_len (a + 1) n) ≡ with_member nat_lt x (filter p (range_with_len (a + 1) n))
        → cond b (a ∷ filter q (range_with_len (a + 1) n)) (filter q (range_with_len (a + 1) n))
        ≡ with_member nat_lt x (cond b (a ∷ filter p (range_with_len (a + 1) n)) (filter p (range_with_len (a + 1) n)))
    before_it below true rest = ap (λ xs. a ∷ xs) rest ∙ sym (behind a x _ below)
    before_it below false rest = rest

    go : (a ≡ x) ⊎ ((a < x) ⊎ (x < a)) → (a < x → filter q (range_with_len (a + 1) n) ≡ with_member nat_lt x (filter p (range_with_len (a + 1) n)))
        → cond (q a) (a ∷ filter q (range_with_len (a + 1) n)) (filter q (range_with_len (a + 1) n))
        ≡ with_member nat_lt x (cond (p a) (a ∷ filter p (range_with_len (a + 1) n)) (filter p (range_with_len (a + 1) n)))
    go (inl e) rest =
        ap (λ b. cond b (a ∷ filter q (range_with_len (a + 1) n)) (filter q (range_with_len (a + 1) n))) (ap q e ∙ here)
        ∙ ap (λ y. y ∷ filter q (range_with_len (a + 1) n)) e
        ∙ ap (λ xs. x ∷ xs) (same_filter p q (a + 1) n (λ i above. there i (λ same. omega arith)))
        ∙ at_it e (p a)
    go (inr (inl below)) rest =
        ap (λ b. cond b (a ∷ filter q (range_with_len (a + 1) n)) (filter q (range_with_len (a + 1) n))) (there a (λ same. omega arith))
        ∙ before_it below (p a) (rest below)
    go (inr (inr above)) rest = absurd (omega arith)

-- the lowest number that passes, and those that pass beside it
pub filter_lowest : (p q : ℕ → Bool) (x a n : ℕ) → a ≤ x → x < a + n → p x ≡ true → ((i : ℕ) → a ≤ i → i < x → p i ≡ false)
    → q x ≡ false → ((i : ℕ) → (i ≡ x → ⊥) → q i ≡ p i) → filter p (range_with_len a n) ≡ x ∷ filter q (range_with_len a n)
filter_lowest p q x a zero le lt here low gone there = absurd (omega arith)
filter_lowest p q x a (suc n) le lt here low gone there =
    go (cases_order a x) (λ below. filter_lowest p q x (a + 1) n (omega arith) (omega arith) here (λ i above under. low i (omega arith) under) gone there)
  where
    go : (a ≡ x) ⊎ ((a < x) ⊎ (x < a)) → (a < x → filter p (range_with_len (a + 1) n) ≡ x ∷ filter q (range_with_len (a + 1) n))
        → cond (p a) (a ∷ filter p (range_with_len (a + 1) n)) (filter p (range_with_len (a + 1) n))
        ≡ x ∷ cond (q a) (a ∷ filter q (range_with_len (a + 1) n)) (filter q (range_with_len (a + 1) n))
    go (inl e) rest =
        ap (λ b. cond b (a ∷ filter p (range_with_len (a + 1) n)) (filter p (range_with_len (a + 1) n))) (ap p e ∙ here)
        ∙ ap (λ y. y ∷ filter p (range_with_len (a + 1) n)) e
        ∙ ap (λ xs. x ∷ xs) (sym (same_filter p q (a + 1) n (λ i above. there i (λ same. omega arith))))
        ∙ ap (λ b. x ∷ cond b (a ∷ filter q (range_with_len (a + 1) n)) (filter q (range_with_len (a + 1) n))) (sym (ap q e ∙ gone))
    go (inr (inl below)) rest =
        ap (λ b. cond b (a ∷ filter p (range_with_len (a + 1) n)) (filter p (range_with_len (a + 1) n))) (low a (omega arith) below)
        ∙ rest below
        ∙ ap (λ b. x ∷ cond b (a ∷ filter q (range_with_len (a + 1) n)) (filter q (range_with_len (a + 1) n))) (sym (there a (λ same. omega arith) ∙ low a (omega arith) below))
    go (inr (inr above)) rest = absurd (omega arith)

-- whether x is a member of a list that begins with y, by what the two comparisons say
member_first : (x y : ℕ) (ys : List ℕ) (b c : Bool) → nat_lt y x ≡ b → nat_lt x y ≡ c
    → is_member nat_lt x (y ∷ ys) ≡ elim b as (λ _. Bool) [ true ↦ is_member nat_lt x ys | false ↦ not c ]
unfolding is_member
member_first x y ys b c e f =
    ap (λ (d : Bool). elim d as (λ _. Bool) [ true ↦ is_member nat_lt x ys | false ↦ not (nat_lt x y) ]) e
    ∙ ap (λ (d : Bool). elim b as (λ _. Bool) [ true ↦ is_member nat_lt x ys | false ↦ not d ]) f

pub no_member : (x : ℕ) → is_member nat_lt x [] ≡ false
unfolding is_member
no_member x = refl

none_above : (p : ℕ → Bool) (x m n : ℕ) → x < m → is_member nat_lt x (filter p (range_with_len m n)) ≡ false
none_above p x m zero lt = no_member x
none_above p x m (suc n) lt = go (p m) (none_above p x (m + 1) n (omega arith))
  where
    go : (b : Bool) → is_member nat_lt x (filter p (range_with_len (m + 1) n)) ≡ false
        → is_member nat_lt x (cond b (m ∷ filter p (range_with_len (m + 1) n)) (filter p (range_with_len (m + 1) n))) ≡ false
    go true rest = member_first x m _ false true (le-ltb m x (omega arith)) (lt-ltb x m lt)
    go false rest = rest

-- what passes is a member
pub filter_member : (p : ℕ → Bool) (x a n : ℕ) → a ≤ x → x < a + n → is_member nat_lt x (filter p (range_with_len a n)) ≡ p x
filter_member p x a zero le lt = absurd (omega arith)
filter_member p x a (suc n) le lt = go (cases_order a x) (λ below. filter_member p x (a + 1) n (omega arith) (omega arith))
  where
    at_it : a ≡ x → (b : Bool) → is_member nat_lt x (cond b (a ∷ filter p (range_with_len (a + 1) n)) (filter p (range_with_len (a + 1) n))) ≡ b
    at_it e true = member_first x a _ false false (le-ltb a x (omega arith)) (le-ltb x a (omega arith))
    at_it e false = none_above p x (a + 1) n (omega arith)

    before_it : a < x → (b : Bool) → is_member nat_lt x (filter p (range_with_len (a + 1) n)) ≡ p x
        → is_member nat_lt x (cond b (a ∷ filter p (range_with_len (a + 1) n)) (filter p (range_with_len (a + 1) n))) ≡ p x
    before_it below true rest = member_first x a _ true false (lt-ltb a x below) (le-ltb x a (omega arith)) ∙ rest
    before_it below false rest = rest

    go : (a ≡ x) ⊎ ((a < x) ⊎ (x < a)) → (a < x → is_member nat_lt x (filter p (range_with_len (a + 1) n)) ≡ p x)
        → is_member nat_lt x (cond (p a) (a ∷ filter p (range_with_len (a + 1) n)) (filter p (range_with_len (a + 1) n))) ≡ p x
    go (inl e) rest = at_it e (p a) ∙ ap p e
    go (inr (inl below)) rest = before_it below (p a) (rest below)
    go (inr (inr above)) rest = absurd (omega arith)
