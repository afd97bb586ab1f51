-- What tests find in a list, and what a filter keeps of it.
use Rattle.std.proofs.Common.{◌≡◌, zero, suc, List, [], ◌∷◌, cond, Bool, true, false, None, Some, refl, sym, ap, subst, ◌∙◌, arith, inl, inr}
use Rattle.std.specs.Prelude.{◌||◌, ◌&&◌, find, filter, Contains, ◌⊎◌}
use Rattle.std.specs.List.{list_any, list_all}
use Rattle.std.proofs.lemmas.Option.{none-some, same_Some}

pub clash : false ≡ true → ⊥
clash e = cc

pub at_head : {X : Type 0} (x : X) (xs : List X) → Contains (x ∷ xs) x
at_head x xs = (zero, omega arith, refl)

pub in_tail : {X : Type 0} (y : X) (xs : List X) (x : X) → Contains xs x → Contains (y ∷ xs) x
in_tail y xs x has = (suc has.0, (let lt = has.1 in omega (arith, lt)), has.2)

pub in_nothing : {X : Type 0} (x : X) → Contains [] x → ⊥
in_nothing x has = let lt = has.1 in omega (arith, lt)

pub either_in : {X : Type 0} (y : X) (xs : List X) (x : X) → Contains (y ∷ xs) x → (y ≡ x) ⊎ Contains xs x
either_in y xs x (zero, lt, is) = inl is
either_in y xs x (suc k, lt, is) = inr (k, omega (arith, lt), is)

-- one that passes
abbrev pub Passes : {X : Type 0} → (X → Bool) → Bool → List X → Type 0
Passes {X} test b xs = (x : X) × Contains xs x × (test x ≡ b)

later : {X : Type 0} (test : X → Bool) (b : Bool) (y : X) (xs : List X) → Passes test b xs → Passes test b (y ∷ xs)
later test b y xs found = (found.0, in_tail y xs found.0 found.1, found.2)

pub any_found : {X : Type 0} (test : X → Bool) (xs : List X) → list_any test xs ≡ true → Passes test true xs
any_found test [] e = absurd (clash e)
any_found {X} test (x ∷ xs) e = go (test x) refl e (any_found test xs)
  where
    go : (b : Bool) → test x ≡ b → (b || list_any test xs) ≡ true → (list_any test xs ≡ true → Passes test true xs) → Passes test true (x ∷ xs)
    go true is f more = (x, at_head x xs, is)
    go false is f more = later test true x xs (more f)

pub any_finds : {X : Type 0} (test : X → Bool) (xs : List X) (x : X) → Contains xs x → test x ≡ true → list_any test xs ≡ true
any_finds test [] x has is = absurd (in_nothing x has)
any_finds {X} test (y ∷ xs) x has is = go (either_in y xs x has) (any_finds test xs x)
  where
    onward : (b c : Bool) → c ≡ true → (b || c) ≡ true
    onward true c e = refl
    onward false c e = e

    go : (y ≡ x) ⊎ Contains xs x → (Contains xs x → test x ≡ true → list_any test xs ≡ true) → (test y || list_any test xs) ≡ true
    go (inl same) more = ap (λ b. b || list_any test xs) (ap test same ∙ is)
    go (inr there) more = onward (test y) (list_any test xs) (more there is)

pub all_broken : {X : Type 0} (test : X → Bool) (xs : List X) → list_all test xs ≡ false → Passes test false xs
all_broken test [] e = absurd (clash (sym e))
all_broken {X} test (x ∷ xs) e = go (test x) refl e (all_broken test xs)
  where
    go : (b : Bool) → test x ≡ b → (b && list_all test xs) ≡ false → (list_all test xs ≡ false → Passes test false xs) → Passes test false (x ∷ xs)
    go true is f more = later test false x xs (more f)
    go false is f more = (x, at_head x xs, is)

pub all_breaks : {X : Type 0} (test : X → Bool) (xs : List X) (x : X) → Contains xs x → test x ≡ false → list_all test xs ≡ false
all_breaks test [] x has is = absurd (in_nothing x has)
all_breaks {X} test (y ∷ xs) x has is = go (either_in y xs x has) (all_breaks test xs x)
  where
    onward : (b c : Bool) → c ≡ false → (b && c) ≡ false
    onward true c e = e
    onward false c e = refl

    go : (y ≡ x) ⊎ Contains xs x → (Contains xs x → test x ≡ false → list_all test xs ≡ false) → (test y && list_all test xs) ≡ false
    go (inl same) more = ap (λ b. b && list_all test xs) (ap test same ∙ is)
    go (inr there) more = onward (test y) (list_all test xs) (more there is)

pub all_pass : {X : Type 0} (test : X → Bool) (xs : List X) (x : X) → list_all test xs ≡ true → Contains xs x → test x ≡ true
all_pass {X} test xs x all has = go (test x) refl
  where
    go : (b : Bool) → test x ≡ b → test x ≡ true
    go true is = is
    go false is = absurd (clash (sym (all_breaks test xs x has is) ∙ all))

pub first_found : {X : Type 0} (test : X → Bool) (xs : List X) (x : X) → find test xs ≡ Some x → Contains xs x × (test x ≡ true)
first_found test [] x e = absurd (none-some x e)
first_found {X} test (y ∷ xs) x e = go (test y) refl e (first_found test xs x)
  where
    go : (b : Bool) → test y ≡ b → cond b (Some y) (find test xs) ≡ Some x → (find test xs ≡ Some x → Contains xs x × (test x ≡ true)) → Contains (y ∷ xs) x × (test x ≡ true)
    go true is f more =
        let same = same_Some y x f in
        (subst (λ z. Contains (y ∷ xs) z) same (at_head y xs), sym (ap test same) ∙ is)
    go false is f more = let found = more f in (in_tail y xs x found.0, found.1)

pub none_found : {X : Type 0} (test : X → Bool) (xs : List X) (x : X) → find test xs ≡ None → Contains xs x → test x ≡ false
none_found test [] x e has = absurd (in_nothing x has)
none_found {X} test (y ∷ xs) x e has = go (test y) refl e (either_in y xs x has) (none_found test xs x)
  where
    go : (b : Bool) → test y ≡ b → cond b (Some y) (find test xs) ≡ None → (y ≡ x) ⊎ Contains xs x → (find test xs ≡ None → Contains xs x → test x ≡ false)
        → test x ≡ false
    go true is f either more = absurd (none-some y (sym f))
    go false is f (inl same) more = sym (ap test same) ∙ is
    go false is f (inr there) more = more f there

pub is_kept : {X : Type 0} (test : X → Bool) (xs : List X) (x : X) → Contains (filter test xs) x → Contains xs x × (test x ≡ true)
is_kept test [] x has = absurd (in_nothing x has)
is_kept {X} test (y ∷ xs) x has = go (test y) refl has (is_kept test xs x)
  where
    go : (b : Bool) → test y ≡ b → Contains (cond b (y ∷ filter test xs) (filter test xs)) x → (Contains (filter test xs) x → Contains xs x × (test x ≡ true))
        → Contains (y ∷ xs) x × (test x ≡ true)
    go true is there more = here (either_in y (filter test xs) x there)
      where
        here : (y ≡ x) ⊎ Contains (filter test xs) x → Contains (y ∷ xs) x × (test x ≡ true)
        here (inl same) = (subst (λ z. Contains (y ∷ xs) z) same (at_head y xs), sym (ap test same) ∙ is)
        here (inr behind) = let found = more behind in (in_tail y xs x found.0, found.1)
    go false is there more = let found = more there in (in_tail y xs x found.0, found.1)

pub keeps : {X : Type 0} (test : X → Bool) (xs : List X) (x : X) → Contains xs x → test x ≡ true → Contains (filter test xs) x
keeps test [] x has is = absurd (in_nothing x has)
keeps {X} test (y ∷ xs) x has is = go (test y) refl (either_in y xs x has) (keeps test xs x)
  where
    go : (b : Bool) → test y ≡ b → (y ≡ x) ⊎ Contains xs x → (Contains xs x → test x ≡ true → Contains (filter test xs) x)
        → Contains (cond b (y ∷ filter test xs) (filter test xs)) x
    go true was (inl same) more = subst (λ z. Contains (y ∷ filter test xs) z) same (at_head y (filter test xs))
    go true was (inr there) more = in_tail y (filter test xs) x (more there is)
    go false was (inl same) more = absurd (clash (sym was ∙ ap test same ∙ is))
    go false was (inr there) more = more there is
