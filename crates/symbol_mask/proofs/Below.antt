-- Members of a rising set that lie below a place, or behind it.
use Rattle.std.proofs.Common.{◌≡◌, ℕ, ◌<◌, ◌≤◌, ◌⊎◌, inl, inr, List, [], ◌∷◌, Bool, true, false, refl, sym, ap, ◌∙◌, arith, cond}
use Rattle.std.specs.Prelude.{not, nat_lt, filter, ◌&&◌}
use Rattle.std.specs.List.{AllByRecursion}
use Rattle.std.proofs.lemmas.Bool.{cases_lt, cases_order, lt-ltb, le-ltb}
use Rattle.norm_order.specs.Sets.{with_member, is_member, Rises}
use Rattle.norm_order.proofs.SetLemmas.{in_front, alone}
use Rattle.symbol_mask.proofs.Ranges.{no_member}
use Rattle.std.specs.Prelude.{Option, None, Some, MatchOption}
use Rattle.symbol_mask.proofs.Puts.{by_tests}

-- those that are not below a place
abbrev pub from_place : ℕ → ℕ → Bool
from_place limit place = not (nat_lt place limit)

-- a number that lies before all of a list is put in front
pub put_first : (x : ℕ) (xs : List ℕ) → AllByRecursion (λ y. x < y) xs → with_member nat_lt x xs ≡ x ∷ xs
put_first x [] all = alone x
put_first x (y ∷ ys) all = in_front x y ys all.0

pub kept_all : (limit x : ℕ) (xs : List ℕ) → limit ≤ x → AllByRecursion (λ y. x < y) xs → filter (from_place limit) xs ≡ xs
kept_all limit x [] le all = refl
kept_all limit x (y ∷ ys) le all =
    ap (λ b. cond b (y ∷ filter (from_place limit) ys) (filter (from_place limit) ys)) (ap not (le-ltb y limit (let lt = all.0 in omega (arith, le, lt))))
    ∙ ap (λ zs. y ∷ zs) (kept_all limit x ys le all.1)

-- where the first is not below the place, none is
pub from_first : (limit x : ℕ) (xs : List ℕ) → limit ≤ x → AllByRecursion (λ y. x < y) xs → filter (from_place limit) (x ∷ xs) ≡ x ∷ xs
from_first limit x xs le all =
    ap (λ b. cond b (x ∷ filter (from_place limit) xs) (filter (from_place limit) xs)) (ap not (le-ltb x limit le))
    ∙ ap (λ zs. x ∷ zs) (kept_all limit x xs le all)

-- one that is below goes
pub below_gone : (limit x : ℕ) (xs : List ℕ) → x < limit → filter (from_place limit) (x ∷ xs) ≡ filter (from_place limit) xs
below_gone limit x xs lt = ap (λ b. cond b (x ∷ filter (from_place limit) xs) (filter (from_place limit) xs)) (ap not (lt-ltb x limit lt))

-- behind the first of a rising list the first is none
none_before_all : (x : ℕ) (xs : List ℕ) → AllByRecursion (λ y. x < y) xs → is_member nat_lt x xs ≡ false
none_before_all x [] all = no_member x
none_before_all x (y ∷ ys) all = by_tests x y ys false true (le-ltb y x (let lt = all.0 in omega (arith, lt))) (lt-ltb x y all.0)

-- a set without its first member 0
pub zero_taken : (xs ys : List ℕ) → xs ≡ 0 ∷ ys → Rises xs → (place : ℕ) → is_member nat_lt place ys ≡ (is_member nat_lt place xs && nat_lt 0 place)
zero_taken [] ys e rises place = absurd (cc)
zero_taken (x ∷ xs) ys e rises place = go (cases_lt 0 place)
  where
    tail : xs ≡ ys
    tail = cc

    head : x ≡ 0
    head = cc

    and_true : (a b : Bool) → b ≡ true → a ≡ (a && b)
    and_true true b f = sym f
    and_true false b f = refl

    and_false : (a b : Bool) → b ≡ false → false ≡ (a && b)
    and_false true b f = sym f
    and_false false b f = refl

    go : (0 < place) ⊎ (place ≤ 0) → is_member nat_lt place ys ≡ (is_member nat_lt place (x ∷ xs) && nat_lt 0 place)
    go (inl lt) =
        ap (is_member nat_lt place) (sym tail)
        ∙ sym (by_tests place x xs true false (lt-ltb x place (omega (arith, lt, head))) (le-ltb place x (omega (arith, lt, head))))
        ∙ and_true (is_member nat_lt place (x ∷ xs)) (nat_lt 0 place) (lt-ltb 0 place lt)
    go (inr le) =
        ap (is_member nat_lt place) (sym tail)
        ∙ ap (λ n. is_member nat_lt n xs) (let f : place ≡ x = omega (arith, le, head) in f)
        ∙ none_before_all x xs rises.0
        ∙ and_false (is_member nat_lt place (x ∷ xs)) (nat_lt 0 place) (le-ltb 0 place le)

-- a set of which 0 is no member
pub zero_none : (xs : List ℕ) → is_member nat_lt 0 xs ≡ false → (place : ℕ) → is_member nat_lt place xs ≡ (is_member nat_lt place xs && nat_lt 0 place)
zero_none xs none place = go (cases_lt 0 place)
  where
    and_true : (a b : Bool) → b ≡ true → a ≡ (a && b)
    and_true true b f = sym f
    and_true false b f = refl

    and_none : (a b : Bool) → a ≡ false → a ≡ (a && b)
    and_none true b f = absurd (cc)
    and_none false b f = refl

    go : (0 < place) ⊎ (place ≤ 0) → is_member nat_lt place xs ≡ (is_member nat_lt place xs && nat_lt 0 place)
    go (inl lt) = and_true (is_member nat_lt place xs) (nat_lt 0 place) (lt-ltb 0 place lt)
    go (inr le) = and_none (is_member nat_lt place xs) (nat_lt 0 place) (ap (λ n. is_member nat_lt n xs) (let f : place ≡ 0 = omega (arith, le) in f) ∙ none)

-- what passes a test of a rising set
pub member_passing : (test : ℕ → Bool) (place : ℕ) (xs : List ℕ) → Rises xs → is_member nat_lt place (filter test xs) ≡ (is_member nat_lt place xs && test place)
member_passing test place [] rises = no_member place ∙ sym (ap (λ b. b && test place) (no_member place))
member_passing test place (x ∷ xs) rises = go (test x) refl (cases_order place x) (member_passing test place xs rises.1)
  where
    and_same : (a b c : Bool) → b ≡ c → a ≡ true → c ≡ (a && b)
    and_same true b c e f = sym e
    and_same false b c e f = absurd (cc)

    none_and : (a b : Bool) → a ≡ false → (a && b) ≡ false
    none_and true b e = absurd (cc)
    none_and false b e = refl

    and_none : (a b : Bool) → b ≡ false → (a && b) ≡ false
    and_none true b e = e
    and_none false b e = refl

    here : place ≡ x → is_member nat_lt place (x ∷ xs) ≡ true
    here e = by_tests place x xs false false (le-ltb x place (omega (arith, e))) (le-ltb place x (omega (arith, e)))

    less : place < x → (ys : List ℕ) → is_member nat_lt place (x ∷ ys) ≡ false
    less lt ys = by_tests place x ys false true (le-ltb x place (omega (arith, lt))) (lt-ltb place x lt)

    more : x < place → (ys : List ℕ) → is_member nat_lt place (x ∷ ys) ≡ is_member nat_lt place ys
    more lt ys = by_tests place x ys true false (lt-ltb x place lt) (le-ltb place x (omega (arith, lt)))

    below_all : (ys : List ℕ) → AllByRecursion (λ y. x < y) ys → place ≤ x → is_member nat_lt place ys ≡ false
    below_all [] all le = no_member place
    below_all (y ∷ ys) all le = by_tests place y ys false true (le-ltb y place (let lt = all.0 in omega (arith, le, lt))) (lt-ltb place y (let lt = all.0 in omega (arith, le, lt)))

    go : (b : Bool) → test x ≡ b → (place ≡ x) ⊎ ((place < x) ⊎ (x < place)) → is_member nat_lt place (filter test xs) ≡ (is_member nat_lt place xs && test place)
        → is_member nat_lt place (cond b (x ∷ filter test xs) (filter test xs)) ≡ (is_member nat_lt place (x ∷ xs) && test place)
    go true e (inl same) rest =
        by_tests place x (filter test xs) false false (le-ltb x place (omega (arith, same))) (le-ltb place x (omega (arith, same)))
        ∙ and_same (is_member nat_lt place (x ∷ xs)) (test place) true (ap test same ∙ e) (here same)
    go true e (inr (inl lt)) rest = less lt (filter test xs) ∙ sym (none_and (is_member nat_lt place (x ∷ xs)) (test place) (less lt xs))
    go true e (inr (inr lt)) rest = more lt (filter test xs) ∙ rest ∙ ap (λ b. b && test place) (sym (more lt xs))
    go false e (inl same) rest =
        rest ∙ none_and (is_member nat_lt place xs) (test place) (below_all xs rises.0 (omega (arith, same)))
        ∙ sym (and_none (is_member nat_lt place (x ∷ xs)) (test place) (ap test same ∙ e))
    go false e (inr (inl lt)) rest =
        rest ∙ none_and (is_member nat_lt place xs) (test place) (below_all xs rises.0 (omega (arith, lt)))
        ∙ sym (none_and (is_member nat_lt place (x ∷ xs)) (test place) (less lt xs))
    go false e (inr (inr lt)) rest = rest ∙ ap (λ b. b && test place) (sym (more lt xs))

-- where 0 is a member it is taken out
pub taken_zero : (o : Option ℕ) (xs ys : List ℕ) → MatchOption o ((xs ≡ []) × (ys ≡ [])) (λ place. xs ≡ place ∷ ys) → is_member nat_lt 0 xs ≡ true → Rises xs
    → (place : ℕ) → is_member nat_lt place ys ≡ (is_member nat_lt place xs && nat_lt 0 place)
taken_zero None xs ys none here rises place = absurd (clash (sym (ap (is_member nat_lt 0) none.0 ∙ no_member 0) ∙ here))
  where
    clash : false ≡ true → ⊥
    clash h = cc
taken_zero (Some x) xs ys is here rises place = go (cases_lt 0 x)
  where
    clash : false ≡ true → ⊥
    clash h = cc

    go : (0 < x) ⊎ (x ≤ 0) → is_member nat_lt place ys ≡ (is_member nat_lt place xs && nat_lt 0 place)
    go (inl lt) =
        absurd (clash (sym (ap (is_member nat_lt 0) is ∙ by_tests 0 x ys false true (le-ltb x 0 (omega (arith, lt))) (lt-ltb 0 x lt)) ∙ here))
    go (inr le) = zero_taken xs ys (is ∙ ap (λ n. n ∷ ys) (let f : x ≡ 0 = omega (arith, le) in f)) rises place
