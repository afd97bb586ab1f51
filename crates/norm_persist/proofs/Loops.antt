-- Loops over accounts: one more is passed over, or settles it.
use Rattle.std.proofs.Common.{◌≡◌, ℕ, ◌+◌, ◌<◌, ◌≤◌, List, ◌∷◌, length, drop, get_or, cond, Bool, true, false, None, Some, refl, sym, ap, ◌∙◌}
use Rattle.std.specs.Prelude.{◌||◌, ◌&&◌, not, find, filter}
use Rattle.std.specs.List.{list_any, list_all}
use Rattle.std.proofs.lemmas.List.{at_drop_more, drop_all}
use Rattle.norm_persist.proofs.Tests.{clash}

-- the test and the filter of an element, from what was said of them
said : {X : Type 0} (test member : X → Bool) (x y : X) (lists is : Bool) → y ≡ x → lists ≡ member y → is ≡ test y → (b : Bool) → (lists && is) ≡ b → (member x && test x) ≡ b
said test member x y lists is same l t b e =
    ap (λ c. c && test x) (ap member (sym same) ∙ sym l) ∙ ap (λ c. lists && c) (ap test (sym same) ∙ sym t) ∙ e

passed_any : {X : Type 0} (test : X → Bool) (x : X) (rest : List X) (member : Bool) → (member && test x) ≡ false → list_any test (cond member (x ∷ rest) rest) ≡ list_any test rest
passed_any test x rest true e = ap (λ b. b || list_any test rest) e
passed_any test x rest false e = refl

passed_find : {X : Type 0} (test : X → Bool) (x : X) (rest : List X) (member : Bool) → (member && test x) ≡ false → find test (cond member (x ∷ rest) rest) ≡ find test rest
passed_find test x rest true e = ap (λ b. cond b (Some x) (find test rest)) e
passed_find test x rest false e = refl

back : (b : Bool) → not b ≡ false → b ≡ true
back true e = refl
back false e = absurd (clash (sym e))

turned : (b : Bool) → not b ≡ true → b ≡ false
turned false e = refl
turned true e = absurd (clash e)

passed_all : {X : Type 0} (test : X → Bool) (x : X) (rest : List X) (member : Bool) → (member && not (test x)) ≡ false → list_all test (cond member (x ∷ rest) rest) ≡ list_all test rest
passed_all test x rest true e = ap (λ b. b && list_all test rest) (back (test x) e)
passed_all test x rest false e = refl

found_any : {X : Type 0} (test : X → Bool) (x : X) (rest : List X) (member : Bool) → (member && test x) ≡ true → list_any test (cond member (x ∷ rest) rest) ≡ true
found_any test x rest true e = ap (λ b. b || list_any test rest) e
found_any test x rest false e = absurd (clash e)

found_find : {X : Type 0} (test : X → Bool) (x : X) (rest : List X) (member : Bool) → (member && test x) ≡ true → find test (cond member (x ∷ rest) rest) ≡ Some x
found_find test x rest true e = ap (λ b. cond b (Some x) (find test rest)) e
found_find test x rest false e = absurd (clash e)

broken_all : {X : Type 0} (test : X → Bool) (x : X) (rest : List X) (member : Bool) → (member && not (test x)) ≡ true → list_all test (cond member (x ∷ rest) rest) ≡ false
broken_all test x rest true e = ap (λ b. b && list_all test rest) (turned (test x) e)
broken_all test x rest false e = absurd (clash e)

-- the element at a place of a loop, y as it was read, and what was asked of it
module _ {X : Type 0} (test member : X → Bool) (xs : List X) (i : ℕ) (d y : X) (lists is : Bool) (lt : i < length xs) (same : y ≡ get_or xs i d) (l : lists ≡ member y) where
  pub any_on : is ≡ test y → (lists && is) ≡ false → list_any test (filter member (drop i xs)) ≡ list_any test (filter member (drop (i + 1) xs))
  any_on t e =
      at_drop_more (λ ys. list_any test (filter member ys)) xs i d lt
      ∙ passed_any test (get_or xs i d) _ (member (get_or xs i d)) (said test member (get_or xs i d) y lists is same l t false e)

  pub any_here : is ≡ test y → (lists && is) ≡ true → list_any test (filter member (drop i xs)) ≡ true
  any_here t e =
      at_drop_more (λ ys. list_any test (filter member ys)) xs i d lt
      ∙ found_any test (get_or xs i d) _ (member (get_or xs i d)) (said test member (get_or xs i d) y lists is same l t true e)

  pub find_on : is ≡ test y → (lists && is) ≡ false → find test (filter member (drop i xs)) ≡ find test (filter member (drop (i + 1) xs))
  find_on t e =
      at_drop_more (λ ys. find test (filter member ys)) xs i d lt
      ∙ passed_find test (get_or xs i d) _ (member (get_or xs i d)) (said test member (get_or xs i d) y lists is same l t false e)

  pub find_here : is ≡ test y → (lists && is) ≡ true → find test (filter member (drop i xs)) ≡ Some y
  find_here t e =
      at_drop_more (λ ys. find test (filter member ys)) xs i d lt
      ∙ found_find test (get_or xs i d) _ (member (get_or xs i d)) (said test member (get_or xs i d) y lists is same l t true e)
      ∙ ap Some (sym same)

  pub all_on : is ≡ test y → (lists && not is) ≡ false → list_all test (filter member (drop i xs)) ≡ list_all test (filter member (drop (i + 1) xs))
  all_on t e =
      at_drop_more (λ ys. list_all test (filter member ys)) xs i d lt
      ∙ passed_all test (get_or xs i d) _ (member (get_or xs i d)) (said (λ x. not (test x)) member (get_or xs i d) y lists (not is) same l (ap not t) false e)

  pub all_here : is ≡ test y → (lists && not is) ≡ true → list_all test (filter member (drop i xs)) ≡ false
  all_here t e =
      at_drop_more (λ ys. list_all test (filter member ys)) xs i d lt
      ∙ broken_all test (get_or xs i d) _ (member (get_or xs i d)) (said (λ x. not (test x)) member (get_or xs i d) y lists (not is) same l (ap not t) true e)

-- what two tests together say
pub not_second : (a b : Bool) → b ≡ false → (a && b) ≡ false
not_second true b e = e
not_second false b e = refl

pub not_first : (a b : Bool) → a ≡ false → (a && b) ≡ false
not_first true b e = absurd (clash (sym e))
not_first false b e = refl

pub yes_both : (a b : Bool) → a ≡ true → b ≡ true → (a && b) ≡ true
yes_both true b p q = q
yes_both false b p q = absurd (clash p)

-- at the end of a loop
pub all_end : {X : Type 0} (test member : X → Bool) (xs : List X) (i : ℕ) → length xs ≤ i → list_all test (filter member (drop i xs)) ≡ true
all_end test member xs i end = ap (λ ys. list_all test (filter member ys)) (drop_all i xs end)

pub find_end : {X : Type 0} (test member : X → Bool) (xs : List X) (i : ℕ) → length xs ≤ i → find test (filter member (drop i xs)) ≡ None
find_end test member xs i end = ap (λ ys. find test (filter member ys)) (drop_all i xs end)
