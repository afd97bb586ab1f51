-- Sets of which each member was moved up by the same number.
use Rattle.std.proofs.Common.{◌≡◌, ℕ, ◌+◌, ◌-◌, ◌<◌, ◌≤◌, List, [], ◌∷◌, map, Bool, true, false, refl, sym, ap, ◌∙◌, arith}
use Rattle.std.specs.Prelude.{not, nat_lt}
use Rattle.std.specs.List.{AllByRecursion}
use Rattle.std.proofs.lemmas.Bool.{lt-ltb, le-ltb}
use Rattle.std.proofs.lemmas.Bool.Decides.{nat_tests}
use Rattle.norm_order.specs.Sets.{with_member, with_members, is_member, Rises}
use Rattle.symbol_mask.specs.Words.{in_run}

-- the members from a number on
abbrev pub moved_up : ℕ → List ℕ → List ℕ
moved_up f xs = map (λ place. f + place) xs

same_order : (f a b : ℕ) → nat_lt (f + a) (f + b) ≡ nat_lt a b
same_order f a b = grind (arith, nat_tests)

by_first : (b c d e g h : Bool) → b ≡ d → c ≡ e → g ≡ h
    → elim b as (λ _. Bool) [ true ↦ g | false ↦ not c ] ≡ elim d as (λ _. Bool) [ true ↦ h | false ↦ not e ]
by_first b c d e g h p q r =
    ap (λ x. elim x as (λ _. Bool) [ true ↦ g | false ↦ not c ]) p
    ∙ ap (λ x. elim d as (λ _. Bool) [ true ↦ g | false ↦ not x ]) q
    ∙ ap (λ x. elim d as (λ _. Bool) [ true ↦ x | false ↦ not e ]) r

pub member_up : (f n : ℕ) (xs : List ℕ) → is_member nat_lt (f + n) (moved_up f xs) ≡ is_member nat_lt n xs
unfolding is_member
member_up f n [] = refl
member_up f n (x ∷ xs) = by_first _ _ _ _ _ _ (same_order f x n) (same_order f n x) (member_up f n xs)

pub none_before : (f n : ℕ) (xs : List ℕ) → n < f → is_member nat_lt n (moved_up f xs) ≡ false
unfolding is_member
none_before f n [] lt = refl
none_before f n (x ∷ xs) lt =
    by_first (nat_lt (f + x) n) (nat_lt n (f + x)) false true _ _ (le-ltb (f + x) n (omega arith)) (lt-ltb n (f + x) (omega arith)) refl

-- a place from there on
pub member_from : (f place : ℕ) (xs : List ℕ) → f ≤ place → is_member nat_lt place (moved_up f xs) ≡ is_member nat_lt (place - f) xs
member_from f place xs le =
    ap (λ n. is_member nat_lt n (moved_up f xs)) (let e : place ≡ f + (place - f) = omega (arith, le) in e) ∙ member_up f (place - f) xs

-- where a number is put, by how two stand to each other
abbrev sides : Bool → Bool → List ℕ → List ℕ → List ℕ → List ℕ
sides b c u v w = elim b as (λ _. List ℕ) [ true ↦ u | false ↦ elim c [ true ↦ v | false ↦ w ] ]

by_sides : (b c d e : Bool) (u v w x : List ℕ) → b ≡ d → c ≡ e → v ≡ x → sides b c u v w ≡ sides d e u x w
by_sides b c d e u v w x p q r =
    ap (λ (t : Bool). sides t c u v w) p
    ∙ ap (λ (t : Bool). sides d t u v w) q
    ∙ ap (λ (t : List ℕ). sides d e u t w) r

up_by : (f : ℕ) (b c : Bool) (u v w : List ℕ) → moved_up f (sides b c u v w) ≡ sides b c (moved_up f u) (moved_up f v) (moved_up f w)
up_by f true c u v w = refl
up_by f false true u v w = refl
up_by f false false u v w = refl

pub with_up : (f n : ℕ) (xs : List ℕ) → with_member nat_lt (f + n) (moved_up f xs) ≡ moved_up f (with_member nat_lt n xs)
unfolding with_member
with_up f n [] = refl
with_up f n (x ∷ xs) =
    by_sides (nat_lt (f + n) (f + x)) (nat_lt (f + x) (f + n)) (nat_lt n x) (nat_lt x n) ((f + n) ∷ (f + x) ∷ moved_up f xs)
    ((f + x) ∷ with_member nat_lt (f + n) (moved_up f xs)) ((f + x) ∷ moved_up f xs) ((f + x) ∷ moved_up f (with_member nat_lt n xs))
    (same_order f n x) (same_order f x n) (ap (λ (ys : List ℕ). (f + x) ∷ ys) (with_up f n xs))
    ∙ sym (up_by f (nat_lt n x) (nat_lt x n) (n ∷ x ∷ xs) (x ∷ with_member nat_lt n xs) (x ∷ xs))

pub with_from : (f place : ℕ) (xs : List ℕ) → f ≤ place → moved_up f (with_member nat_lt (place - f) xs) ≡ with_member nat_lt place (moved_up f xs)
with_from f place xs le =
    sym (with_up f (place - f) xs) ∙ ap (λ n. with_member nat_lt n (moved_up f xs)) (let e : f + (place - f) ≡ place = omega (arith, le) in e)

pub with_all_up : (f : ℕ) (ns xs : List ℕ) → with_members nat_lt (moved_up f ns) (moved_up f xs) ≡ moved_up f (with_members nat_lt ns xs)
with_all_up f [] xs = refl
with_all_up f (n ∷ ns) xs = ap (with_members nat_lt (moved_up f ns)) (with_up f n xs) ∙ with_all_up f ns (with_member nat_lt n xs)

all_up : (f x : ℕ) (xs : List ℕ) → AllByRecursion (λ y. x < y) xs → AllByRecursion (λ y. f + x < y) (moved_up f xs)
all_up f x [] all = tt
all_up f x (y ∷ xs) all = (let lt = all.0 in let h : f + x < f + y = omega (arith, lt) in h, all_up f x xs all.1)

pub rises_up : (f : ℕ) (xs : List ℕ) → Rises xs → Rises (moved_up f xs)
rises_up f [] rises = tt
rises_up f (x ∷ xs) rises = (all_up f x xs rises.0, rises_up f xs rises.1)

-- a run, counted from a number on
pub run_from : (f from to place : ℕ) → f ≤ place → in_run (from - f) (to - f) (place - f) ≡ in_run from to place
run_from f from to place le = grind (arith, nat_tests)
