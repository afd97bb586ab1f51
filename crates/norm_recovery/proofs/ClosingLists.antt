-- What is in a list, what fewer pass, and sets that grow.
use Rattle.std.proofs.Common.{◌≡◌, ℕ, zero, suc, ◌+◌, ◌<◌, ◌≤◌, cond, List, [], ◌∷◌, ◌++◌, length, map, filter, Bool, true, false, refl, sym, ap, ◌∙◌, subst, arith, ◌⊎◌, inl, inr, flat_map}
use Rattle.std.specs.Prelude.{Contains, ◌&&◌, ◌||◌, not}
use Rattle.std.specs.List.{AllByRecursion, list_all, list_any, range_with_len}
use Rattle.norm_order.specs.Sets.{is_member, with_member, with_members, Sides, Below, Same, Above}
use Rattle.norm_order.proofs.SetLemmas.{self_in}
use Rattle.norm_send_rules.specs.Wants.{want_before}
use Rattle.norm_send_rules.specs.declared.want.Want.{Want}
use Rattle.norm_safety.proofs.EntryLemmas.{clash}
use Rattle.norm_recovery.proofs.LeftFalls.{wants_compare, still_member}
use Rattle.norm_recovery.proofs.LeftStays.{more_pass}

-- ---- what is there

-- it is one of these
abbrev pub In : {X : Type 0} → X → List X → Type 0
In x [] = ⊥
In x (y ∷ ys) = (x ≡ y) ⊎ In x ys

pub in_left : {X : Type 0} (x : X) (xs ys : List X) → In x xs → In x (xs ++ ys)
in_left x [] ys h = absurd h
in_left x (y ∷ xs) ys (inl same) = inl same
in_left x (y ∷ xs) ys (inr more) = inr (in_left x xs ys more)

pub in_right : {X : Type 0} (x : X) (xs ys : List X) → In x ys → In x (xs ++ ys)
in_right x [] ys h = h
in_right x (y ∷ xs) ys h = inr (in_right x xs ys h)

pub in_either : {X : Type 0} (x : X) (xs ys : List X) → In x (xs ++ ys) → In x xs ⊎ In x ys
in_either x [] ys h = inr h
in_either x (y ∷ xs) ys (inl same) = inl (inl same)
in_either {X} x (y ∷ xs) ys (inr more) = go (in_either x xs ys more)
  where
    go : In x xs ⊎ In x ys → In x (y ∷ xs) ⊎ In x ys
    go (inl there) = inl (inr there)
    go (inr there) = inr there

pub in_map : {X Y : Type 0} (f : X → Y) (x : X) (xs : List X) → In x xs → In (f x) (map f xs)
in_map f x [] h = absurd h
in_map f x (y ∷ xs) (inl same) = inl (ap f same)
in_map f x (y ∷ xs) (inr more) = inr (in_map f x xs more)

pub of_map : {X Y : Type 0} (f : X → Y) (y : Y) (xs : List X) → In y (map f xs) → (x : X) × In x xs × (y ≡ f x)
of_map f y [] h = absurd h
of_map f y (x ∷ xs) (inl same) = (x, inl refl, same)
of_map f y (x ∷ xs) (inr more) = let found = of_map f y xs more in (found.0, inr found.1, found.2)

pub in_flat : {X Y : Type 0} (f : X → List Y) (x : X) (y : Y) (xs : List X) → In x xs → In y (f x) → In y (flat_map f xs)
in_flat f x y [] h there = absurd h
in_flat {X} {Y} f x y (z ∷ xs) (inl same) there = in_left y (f z) (flat_map f xs) (let I : X → Type 0 = λ u. In y (f u) in subst I same there)
in_flat f x y (z ∷ xs) (inr more) there = in_right y (f z) (flat_map f xs) (in_flat f x y xs more there)

pub of_flat : {X Y : Type 0} (f : X → List Y) (y : Y) (xs : List X) → In y (flat_map f xs) → (x : X) × In x xs × In y (f x)
of_flat f y [] h = absurd h
of_flat {X} {Y} f y (x ∷ xs) h = go (in_either y (f x) (flat_map f xs) h) (of_flat f y xs)
  where
    go : In y (f x) ⊎ In y (flat_map f xs) → (In y (flat_map f xs) → (z : X) × In z xs × In y (f z)) → (z : X) × In z (x ∷ xs) × In y (f z)
    go (inl own) more = (x, inl refl, own)
    go (inr there) more = let found = more there in (found.0, inr found.1, found.2)

pub in_kept : {X : Type 0} (test : X → Bool) (x : X) (xs : List X) → test x ≡ true → In x xs → In x (filter test xs)
in_kept test x [] e h = absurd h
in_kept {X} test x (y ∷ xs) e h = go (test y) refl h (in_kept test x xs e)
  where
    go : (b : Bool) → test y ≡ b → (x ≡ y) ⊎ In x xs → (In x xs → In x (filter test xs)) → In x (cond b (y ∷ filter test xs) (filter test xs))
    go true is (inl same) rest = inl same
    go true is (inr more) rest = inr (rest more)
    go false is (inl same) rest = absurd (clash (sym is ∙ ap test (sym same) ∙ e))
    go false is (inr more) rest = rest more

pub of_kept : {X : Type 0} (test : X → Bool) (x : X) (xs : List X) → In x (filter test xs) → In x xs × (test x ≡ true)
of_kept test x [] h = absurd h
of_kept {X} test x (y ∷ xs) h = go (test y) refl h (of_kept test x xs)
  where
    go : (b : Bool) → test y ≡ b → In x (cond b (y ∷ filter test xs) (filter test xs)) → (In x (filter test xs) → In x xs × (test x ≡ true))
        → In x (y ∷ xs) × (test x ≡ true)
    go true is (inl same) rest = (inl same, ap test same ∙ is)
    go true is (inr more) rest = let found = rest more in (inr found.0, found.1)
    go false is more rest = let found = rest more in (inr found.0, found.1)

pub in_all : {X : Type 0} (P : X → Type 0) (x : X) (xs : List X) → AllByRecursion P xs → In x xs → P x
in_all P x [] all h = absurd h
in_all P x (y ∷ xs) all (inl same) = subst P (sym same) all.0
in_all P x (y ∷ xs) all (inr more) = in_all P x xs all.1 more

pub in_contained : {X : Type 0} (x : X) (xs : List X) → Contains xs x → In x xs
in_contained x [] (k, lt, e) = absurd (omega (arith, lt))
in_contained x (y ∷ xs) (zero, lt, e) = inl (sym e)
in_contained x (y ∷ xs) (suc k, lt, e) = inr (in_contained x xs (k, omega (arith, lt), e))

-- one that passes, where one does
pub of_any : {X : Type 0} (test : X → Bool) (xs : List X) → list_any test xs ≡ true → (x : X) × In x xs × (test x ≡ true)
of_any test [] e = absurd (clash e)
of_any {X} test (x ∷ xs) e = go (test x) refl e (of_any test xs)
  where
    go : (b : Bool) → test x ≡ b → (b || list_any test xs) ≡ true → (list_any test xs ≡ true → (y : X) × In y xs × (test y ≡ true))
        → (y : X) × In y (x ∷ xs) × (test y ≡ true)
    go true is f more = (x, inl refl, is)
    go false is f more = let found = more f in (found.0, inr found.1, found.2)

pub no_any : {X : Type 0} (test : X → Bool) (x : X) (xs : List X) → list_any test xs ≡ false → In x xs → test x ≡ false
no_any test x [] e h = absurd h
no_any {X} test x (y ∷ xs) e h = go (test y) refl e h (no_any test x xs)
  where
    go : (b : Bool) → test y ≡ b → (b || list_any test xs) ≡ false → (x ≡ y) ⊎ In x xs → (list_any test xs ≡ false → In x xs → test x ≡ false) → test x ≡ false
    go true is f either more = absurd (clash (sym f))
    go false is f (inl same) more = ap test same ∙ is
    go false is f (inr there) more = more f there

-- one that does not pass, where not all do
pub of_not_all : {X : Type 0} (test : X → Bool) (xs : List X) → list_all test xs ≡ false → (x : X) × In x xs × (test x ≡ false)
of_not_all test [] e = absurd (clash (sym e))
of_not_all {X} test (x ∷ xs) e = go (test x) refl e (of_not_all test xs)
  where
    go : (b : Bool) → test x ≡ b → (b && list_all test xs) ≡ false → (list_all test xs ≡ false → (y : X) × In y xs × (test y ≡ false))
        → (y : X) × In y (x ∷ xs) × (test y ≡ false)
    go true is f more = let found = more f in (found.0, inr found.1, found.2)
    go false is f more = (x, inl refl, is)

pub of_all : {X : Type 0} (test : X → Bool) (x : X) (xs : List X) → list_all test xs ≡ true → In x xs → test x ≡ true
of_all test x [] e h = absurd h
of_all {X} test x (y ∷ xs) e h = go (test y) refl e h (of_all test x xs)
  where
    go : (b : Bool) → test y ≡ b → (b && list_all test xs) ≡ true → (x ≡ y) ⊎ In x xs → (list_all test xs ≡ true → In x xs → test x ≡ true) → test x ≡ true
    go true is f (inl same) more = ap test same ∙ is
    go true is f (inr there) more = more f there
    go false is f either more = absurd (clash f)

-- ---- numbers of a range

pub in_range : (n from count : ℕ) → from ≤ n → n < from + count → In n (range_with_len from count)
in_range n from zero le lt = absurd (omega (arith, le, lt))
in_range n from (suc count) le lt = go (lies from n le) (λ more. in_range n (from + 1) count more (omega (arith, lt)))
  where
    lies : (a b : ℕ) → a ≤ b → (b ≡ a) ⊎ (a + 1 ≤ b)
    lies zero zero le = inl refl
    lies zero (suc b) le = inr (omega arith)
    lies (suc a) zero le = absurd (omega (arith, le))
    lies (suc a) (suc b) le = next (lies a b (omega (arith, le)))
      where
        next : (b ≡ a) ⊎ (a + 1 ≤ b) → (suc b ≡ suc a) ⊎ (suc a + 1 ≤ suc b)
        next (inl same) = inl (ap suc same)
        next (inr less) = inr (omega (arith, less))

    go : (n ≡ from) ⊎ (from + 1 ≤ n) → (from + 1 ≤ n → In n (range_with_len (from + 1) count)) → In n (range_with_len from (suc count))
    go (inl same) more = inl same
    go (inr less) more = inr (more less)

pub of_range : (n from count : ℕ) → In n (range_with_len from count) → (from ≤ n) × (n < from + count)
of_range n from zero h = absurd h
of_range n from (suc count) (inl same) = (omega (arith, same), omega (arith, same))
of_range n from (suc count) (inr more) = let found = of_range n (from + 1) count more in
    let least = found.0 in let most = found.1 in (omega (arith, least), omega (arith, most))

-- ---- counts

-- what passes one test passes another, and one passes that alone
pub fewer_pass : {X : Type 0} (test other : X → Bool) (x : X) (xs : List X) → ((y : X) → test y ≡ true → other y ≡ true) → In x xs → test x ≡ false
    → other x ≡ true → length (filter test xs) < length (filter other xs)
fewer_pass test other x [] implies h fails passes = absurd h
fewer_pass {X} test other x (y ∷ xs) implies h fails passes =
    go (test y) (other y) refl refl h (implies y) (more_pass test other xs implies) (λ more. fewer_pass test other x xs implies more fails passes)
  where
    go : (a b : Bool) → test y ≡ a → other y ≡ b → (x ≡ y) ⊎ In x xs → (a ≡ true → b ≡ true) → length (filter test xs) ≤ length (filter other xs)
        → (In x xs → length (filter test xs) < length (filter other xs))
        → length (cond a (y ∷ filter test xs) (filter test xs)) < length (cond b (y ∷ filter other xs) (filter other xs))
    go true b is was (inl same) f le more = absurd (clash (sym fails ∙ ap test same ∙ is))
    go false true is was (inl same) f le more = omega (arith, le)
    go false false is was (inl same) f le more = absurd (clash (sym was ∙ ap other (sym same) ∙ passes))
    go true true is was (inr there) f le more = let less = more there in omega (arith, less)
    go true false is was (inr there) f le more = absurd (clash (f refl))
    go false true is was (inr there) f le more = omega (arith, le)
    go false false is was (inr there) f le more = more there

-- so it is of what a function gives
pub more_mapped : {X Y : Type 0} (f : X → Y) (test other : Y → Bool) (xs : List X) → ((x : X) → test (f x) ≡ true → other (f x) ≡ true)
    → length (filter test (map f xs)) ≤ length (filter other (map f xs))
more_mapped f test other [] implies = omega arith
more_mapped {X} {Y} f test other (x ∷ xs) implies = go (test (f x)) (other (f x)) (implies x) (more_mapped f test other xs implies)
  where
    go : (a b : Bool) → (a ≡ true → b ≡ true) → length (filter test (map f xs)) ≤ length (filter other (map f xs))
        → length (cond a (f x ∷ filter test (map f xs)) (filter test (map f xs))) ≤ length (cond b (f x ∷ filter other (map f xs)) (filter other (map f xs)))
    go true true g le = omega (arith, le)
    go true false g le = absurd (clash (g refl))
    go false true g le = omega (arith, le)
    go false false g le = le

-- if the first k of a range pass, no fewer pass of the range
pub many_pass : {X : Type 0} (f : ℕ → X) (test : X → Bool) (k n from : ℕ) → k ≤ n → ((i : ℕ) → from ≤ i → i < from + k → test (f i) ≡ true)
    → k ≤ length (filter test (map f (range_with_len from n)))
many_pass f test zero n from le each = omega arith
many_pass f test (suc k) zero from le each = absurd (omega (arith, le))
many_pass {X} f test (suc k) (suc n) from le each =
    go (test (f from)) (each from (omega arith) (omega arith))
    (many_pass f test k n (from + 1) (omega (arith, le)) (λ i least most. each i (omega (arith, least)) (omega (arith, most))))
  where
    rest : List X
    rest = filter test (map f (range_with_len (from + 1) n))

    go : (b : Bool) → b ≡ true → k ≤ length rest → suc k ≤ length (cond b (f from ∷ rest) rest)
    go true e more = omega (arith, more)
    go false e more = absurd (clash e)

-- a number of a range that fails, or all pass
pub some_fails : (test : ℕ → Bool) (count from : ℕ)
    → ((i : ℕ) × (from ≤ i) × (i < from + count) × (test i ≡ false)) ⊎ ((i : ℕ) → from ≤ i → i < from + count → test i ≡ true)
some_fails test zero from = inr (λ i least most. absurd (omega (arith, least, most)))
some_fails test (suc count) from = go (test from) refl (some_fails test count (from + 1))
  where
    Fails : Type 0
    Fails = (i : ℕ) × (from ≤ i) × (i < from + suc count) × (test i ≡ false)

    go : (b : Bool) → test from ≡ b
        → ((i : ℕ) × (from + 1 ≤ i) × (i < from + 1 + count) × (test i ≡ false)) ⊎ ((i : ℕ) → from + 1 ≤ i → i < from + 1 + count → test i ≡ true)
        → Fails ⊎ ((i : ℕ) → from ≤ i → i < from + suc count → test i ≡ true)
    go false is either = inl (from, omega arith, omega arith, is)
    go true is (inl found) = let least = found.1 in let most = found.2 in inl (found.0, omega (arith, least), omega (arith, most), found.3)
    go true is (inr all) = inr (λ i least most. by i (test i) refl least most)
      where
        by : (i : ℕ) (b : Bool) → test i ≡ b → from ≤ i → i < from + suc count → b ≡ true
        by i true e least most = refl
        by i false e least most =
            let differ : i ≡ from → ⊥ = λ same. clash (sym e ∙ ap test same ∙ is) in
            absurd (clash (sym e ∙ all i (omega (arith, least, differ)) (omega (arith, most))))

-- ---- sets of wants

-- who is a member is there
pub member_in : (y : Want) (ws : List Want) → is_member want_before y ws ≡ true → In y ws
unfolding is_member
member_in y [] e = absurd (clash e)
member_in y (x ∷ ws) e = go (want_before x y) (want_before y x) (wants_compare.sides x y) refl refl e (member_in y ws)
  where
    step : Bool → Bool → Bool
    step b c = elim b as (λ _. Bool) [ true ↦ is_member want_before y ws | false ↦ not c ]

    go : (b c : Bool) → Sides want_before x y → want_before x y ≡ b → want_before y x ≡ c → step b c ≡ true → (is_member want_before y ws ≡ true → In y ws) → In y (x ∷ ws)
    go true c side is other f more = inr (more f)
    go false true side is other f more = absurd (clash f)
    go false false (Below lt gt) is other f more = absurd (clash (sym is ∙ lt))
    go false false (Same lt gt same) is other f more = inl (sym same)
    go false false (Above lt gt) is other f more = absurd (clash (sym other ∙ gt))

-- who is there was there, or joined
in_with : (y x : Want) (ws : List Want) → In y (with_member want_before x ws) → (y ≡ x) ⊎ In y ws
unfolding with_member
in_with y x [] (inl same) = inl same
in_with y x [] (inr none) = absurd none
in_with y x (v ∷ ws) h = go (want_before x v) (want_before v x) h (in_with y x ws)
  where
    go : (b c : Bool) → In y (elim b as (λ _. List Want) [ true ↦ x ∷ v ∷ ws | false ↦ elim c as (λ _. List Want) [ true ↦ v ∷ with_member want_before x ws | false ↦ v ∷ ws ] ])
        → (In y (with_member want_before x ws) → (y ≡ x) ⊎ In y ws) → (y ≡ x) ⊎ In y (v ∷ ws)
    go true c (inl same) more = inl same
    go true c (inr there) more = inr there
    go false true (inl same) more = inr (inl same)
    go false true (inr there) more = by (more there)
      where
        by : (y ≡ x) ⊎ In y ws → (y ≡ x) ⊎ In y (v ∷ ws)
        by (inl same) = inl same
        by (inr rest) = inr (inr rest)
    go false false there more = inr there

pub of_members : (y : Want) (more ws : List Want) → In y (with_members want_before more ws) → In y more ⊎ In y ws
of_members y [] ws h = inr h
of_members y (x ∷ more) ws h = go (of_members y more (with_member want_before x ws) h) (in_with y x ws)
  where
    go : In y more ⊎ In y (with_member want_before x ws) → (In y (with_member want_before x ws) → (y ≡ x) ⊎ In y ws) → In y (x ∷ more) ⊎ In y ws
    go (inl there) rest = inl (inr there)
    go (inr there) rest = by (rest there)
      where
        by : (y ≡ x) ⊎ In y ws → In y (x ∷ more) ⊎ In y ws
        by (inl same) = inl (inl same)
        by (inr own) = inr own

-- who joins is a member then
pub member_with : (y : Want) (more ws : List Want) → In y more → is_member want_before y (with_members want_before more ws) ≡ true
member_with y [] ws h = absurd h
member_with y (x ∷ more) ws (inl same) =
    still_member y more (with_member want_before x ws)
    (ap (λ (z : Want). is_member want_before z (with_member want_before x ws)) same ∙ self_in want_before x ws wants_compare)
member_with y (x ∷ more) ws (inr there) = member_with y more (with_member want_before x ws) there

-- with one more it is as it was, or longer by one
put_grows : (x : Want) (ws : List Want) → (with_member want_before x ws ≡ ws) ⊎ (length (with_member want_before x ws) ≡ suc (length ws))
unfolding with_member
put_grows x [] = inr refl
put_grows x (v ∷ ws) = go (want_before x v) (want_before v x) (put_grows x ws)
  where
    put : Bool → Bool → List Want
    put b c = elim b as (λ _. List Want) [ true ↦ x ∷ v ∷ ws | false ↦ elim c as (λ _. List Want) [ true ↦ v ∷ with_member want_before x ws | false ↦ v ∷ ws ] ]

    go : (b c : Bool) → (with_member want_before x ws ≡ ws) ⊎ (length (with_member want_before x ws) ≡ suc (length ws))
        → (put b c ≡ v ∷ ws) ⊎ (length (put b c) ≡ suc (length (v ∷ ws)))
    go true c more = inr refl
    go false true (inl same) = inl (ap (λ (rest : List Want). v ∷ rest) same)
    go false true (inr more) = inr (ap suc more)
    go false false more = inl refl

pub sets_grow : (more ws : List Want) → (with_members want_before more ws ≡ ws) ⊎ (length ws < length (with_members want_before more ws))
sets_grow [] ws = inl refl
sets_grow (x ∷ more) ws = go (put_grows x ws) (sets_grow more (with_member want_before x ws))
  where
    one : List Want
    one = with_member want_before x ws

    all : List Want
    all = with_members want_before more one

    go : (one ≡ ws) ⊎ (length one ≡ suc (length ws)) → (all ≡ one) ⊎ (length one < length all) → (all ≡ ws) ⊎ (length ws < length all)
    go (inl same) (inl rest) = inl (rest ∙ same)
    go (inl same) (inr lt) = inr (let e = ap (λ (xs : List Want). length xs) same in omega (arith, lt, e))
    go (inr long) (inl rest) = inr (let e = ap (λ (xs : List Want). length xs) rest in omega (arith, long, e))
    go (inr long) (inr lt) = inr (omega (arith, long, lt))

-- with a member that it had not a set is longer
pub grows_with : (y : Want) (more ws : List Want) → is_member want_before y (with_members want_before more ws) ≡ true → is_member want_before y ws ≡ false
    → length ws < length (with_members want_before more ws)
grows_with y more ws now was = go (sets_grow more ws)
  where
    go : (with_members want_before more ws ≡ ws) ⊎ (length ws < length (with_members want_before more ws)) → length ws < length (with_members want_before more ws)
    go (inl same) = absurd (clash (sym was ∙ ap (is_member want_before y) (sym same) ∙ now))
    go (inr lt) = lt
