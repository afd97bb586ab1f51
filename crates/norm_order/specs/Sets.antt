-- Sets as lists that rise by one order, without repetitions, so that equal sets are equal lists.
use Rattle.std.specs.Prelude.{◌≡◌, ◌<◌, ℕ, Bool, true, false, not, List, [], ◌∷◌, fold, ⊤}
use Rattle.std.specs.List.{AllByRecursion}

-- the set with one more member
unfoldable pub with_member : {X : Type 0} → (X → X → Bool) → X → List X → List X
with_member before x [] = x ∷ []
with_member before x (y ∷ ys) = elim (before x y) [
  | true ↦ x ∷ y ∷ ys
  | false ↦ elim (before y x) [ true ↦ y ∷ with_member before x ys | false ↦ y ∷ ys ]
]

-- the set with these members too
abbrev pub with_members : {X : Type 0} → (X → X → Bool) → List X → List X → List X
with_members before more members = fold (λ set x. with_member before x set) members more

-- x is a member
unfoldable pub is_member : {X : Type 0} → (X → X → Bool) → X → List X → Bool
is_member before x [] = false
is_member before x (y ∷ ys) = elim (before y x) [ true ↦ is_member before x ys | false ↦ not (before x y) ]

-- each is before all that follow it
abbrev pub IsRising : {X : Type 0} → (X → X → Bool) → List X → Type 0
IsRising before [] = ⊤
IsRising before (x ∷ xs) = AllByRecursion (λ y. before x y ≡ true) xs × IsRising before xs

-- each number is below all that follow it
abbrev pub Rises : List ℕ → Type 0
Rises [] = ⊤
Rises (n ∷ ns) = AllByRecursion (λ m. n < m) ns × Rises ns

-- where two stand to each other, by the tests that sets make
pub data Sides {X : Type 0} (before : X → X → Bool) (x y : X) : Type 0 where
  Below : before x y ≡ true → before y x ≡ false → Sides before x y
  Same : before x y ≡ false → before y x ≡ false → x ≡ y → Sides before x y
  Above : before x y ≡ false → before y x ≡ true → Sides before x y

-- an order compares all, and goes through
pub record Compares {X : Type 0} (before : X → X → Bool) : Type 0 where
  pub sides : (x y : X) → Sides before x y
  pub through : (x y z : X) → before x y ≡ true → before y z ≡ true → before x z ≡ true

-- What is promised of sets by an order that compares all: with one more member a set rises as before, has that member, and
-- of any other says what it said; and two sets with the same members are equal.
pub record SetLaws {X : Type 0} (before : X → X → Bool) : Type 0 where
  pub rises : (x : X) (set : List X) → IsRising before set → IsRising before (with_member before x set)
  pub itself : (x : X) (set : List X) → is_member before x (with_member before x set) ≡ true
  pub others : (y x : X) (set : List X) → (y ≡ x → ⊥) → is_member before y (with_member before x set) ≡ is_member before y set
  pub same : (set other : List X) → IsRising before set → IsRising before other
      → ((x : X) → is_member before x set ≡ is_member before x other) → set ≡ other
