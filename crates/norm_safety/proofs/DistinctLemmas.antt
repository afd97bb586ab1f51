-- Tests of each element, and of lists without repetitions.
use Rattle.std.proofs.Common.{◌≡◌, List, [], ◌∷◌, Bool, true, false, not, refl, sym}
use Rattle.std.specs.Prelude.{◌||◌}
use Rattle.std.specs.Bool.{Decides}
use Rattle.std.specs.List.{list_all, list_any, IsDistinct, AllByRecursion}
use Rattle.norm_safety.specs.OnceEach.{are_distinct}
use Rattle.norm_safety.proofs.FrontLemmas.{both, of_both}

clash : false ≡ true → ⊥
clash e = cc

-- a test of each element
pub each_decides : {X : Type 0} (test : X → Bool) (P : X → Type 0) → ((x : X) → Decides (test x) (P x)) → (xs : List X)
    → Decides (list_all test xs) (AllByRecursion P xs)
each_decides test P each [] = (λ e. tt, λ all. refl)
each_decides test P each (x ∷ xs) =
    let rest = each_decides test P each xs in (
      λ e. let two = both (test x) (list_all test xs) e in ((each x).0 two.0, rest.0 two.1),
      λ all. of_both (test x) (list_all test xs) ((each x).1 all.0) (rest.1 all.1),
    )

neither : (a b : Bool) → not (a || b) ≡ true → (a ≡ false) × (not b ≡ true)
neither true b e = absurd (clash e)
neither false b e = (refl, e)

of_neither : (a b : Bool) → a ≡ false → not b ≡ true → not (a || b) ≡ true
of_neither true b e f = absurd (clash (sym e))
of_neither false b e f = f

none_decides : {X : Type 0} (test : X → Bool) (xs : List X) → Decides (not (list_any test xs)) (AllByRecursion (λ x. test x ≡ false) xs)
none_decides test [] = (λ e. tt, λ all. refl)
none_decides test (x ∷ xs) =
    let rest = none_decides test xs in (
      λ e. let two = neither (test x) (list_any test xs) e in (two.0, rest.0 two.1),
      λ all. of_neither (test x) (list_any test xs) all.0 (rest.1 all.1),
    )

pub distinct_decides : {X : Type 0} (same : X → X → Bool) (xs : List X) → Decides (are_distinct same xs) (IsDistinct same xs)
unfolding are_distinct IsDistinct
distinct_decides same [] = (λ e. tt, λ all. refl)
distinct_decides same (x ∷ xs) =
    let head = none_decides (same x) xs in
    let rest = distinct_decides same xs in (
      λ e. let two = both (not (list_any (same x) xs)) (are_distinct same xs) e in (head.0 two.0, rest.0 two.1),
      λ all. of_both (not (list_any (same x) xs)) (are_distinct same xs) (head.1 all.0) (rest.1 all.1),
    )
