-- Sets as lists that rise by an order that compares all: one more member, and whether one is there.
use Rattle.std.proofs.Common.{◌≡◌, ℕ, ◌<◌, inl, inr, Bool, true, false, refl, sym, ap, ◌∙◌, subst, arith, List, [], ◌∷◌}
use Rattle.std.specs.Prelude.{nat_lt, not}
use Rattle.std.specs.List.{AllByRecursion}
use Rattle.std.proofs.lemmas.Bool.{cases_lt, lt-ltb, le-ltb, ltb-true}
use Rattle.fec_plan.specs.OrderLaws.{PositionsAreOrdered}
use Rattle.fec_plan.specs.Points.{position_before}
use Rattle.fec_plan.proofs.PositionLemmas.{positions_are_ordered}
use Rattle.norm_order.specs.Sets.{with_member, is_member, IsRising, Sides, Below, Same, Above, Compares, SetLaws}

-- one step of a set, by the two tests
abbrev put_by : {X : Type 0} → (X → X → Bool) → Bool → Bool → X → X → List X → List X
put_by {X = X} order before behind x y ys = elim before as (λ v. List X) [
  | true ↦ x ∷ y ∷ ys
  | false ↦ elim behind as (λ v. List X) [ true ↦ y ∷ with_member order x ys | false ↦ y ∷ ys ]
]

abbrev there_by : {X : Type 0} → (X → X → Bool) → Bool → Bool → X → List X → Bool
there_by order behind before x ys = elim behind as (λ v. Bool) [ true ↦ is_member order x ys | false ↦ not before ]

put_step : {X : Type 0} (o : X → X → Bool) (x y : X) (ys : List X) → with_member o x (y ∷ ys) ≡ put_by o (o x y) (o y x) x y ys
unfolding with_member
put_step o x y ys = refl

there_step : {X : Type 0} (o : X → X → Bool) (x y : X) (ys : List X) → is_member o x (y ∷ ys) ≡ there_by o (o y x) (o x y) x ys
unfolding is_member
there_step o x y ys = refl

not_itself : {X : Type 0} (o : X → X → Bool) (x : X) → Compares o → o x x ≡ false
not_itself o x law = go (law.sides x x)
  where
    go : Sides o x x → o x x ≡ false
    go (Below lt gt) = gt
    go (Same lt gt same) = lt
    go (Above lt gt) = lt

first_there : {X : Type 0} (o : X → X → Bool) (x : X) (ys : List X) → Compares o → is_member o x (x ∷ ys) ≡ true
first_there o x ys law =
    there_step o x x ys ∙ ap (λ b. there_by o b (o x x) x ys) (not_itself o x law) ∙ ap not (not_itself o x law)

pub self_in : {X : Type 0} (o : X → X → Bool) (x : X) (ys : List X) → Compares o → is_member o x (with_member o x ys) ≡ true
unfolding with_member
self_in o x [] law = first_there o x [] law
self_in o x (y ∷ ys) law = go (law.sides x y) (self_in o x ys law)
  where
    go : Sides o x y → is_member o x (with_member o x ys) ≡ true → is_member o x (with_member o x (y ∷ ys)) ≡ true
    go (Below lt gt) more =
        ap (is_member o x) (put_step o x y ys ∙ ap (λ b. put_by o b (o y x) x y ys) lt) ∙ first_there o x (y ∷ ys) law
    go (Same lt gt same) more =
        ap (is_member o x) (put_step o x y ys ∙ ap (λ b. put_by o b (o y x) x y ys) lt ∙ ap (λ b. put_by o false b x y ys) gt)
        ∙ ap (λ z. is_member o x (z ∷ ys)) (sym same) ∙ first_there o x ys law
    go (Above lt gt) more =
        ap (is_member o x) (put_step o x y ys ∙ ap (λ b. put_by o b (o y x) x y ys) lt ∙ ap (λ b. put_by o false b x y ys) gt)
        ∙ there_step o x y (with_member o x ys)
        ∙ ap (λ b. there_by o b (o x y) x (with_member o x ys)) gt
        ∙ more

-- another one in front changes nothing for one that is before or behind it
pub others_in : {X : Type 0} (o : X → X → Bool) (q x : X) (ys : List X) → Compares o → (q ≡ x → ⊥) → is_member o q (with_member o x ys) ≡ is_member o q ys
unfolding with_member is_member
others_in o q x [] law apart = go (law.sides q x)
  where
    go : Sides o q x → is_member o q (x ∷ []) ≡ false
    go (Below lt gt) = there_step o q x [] ∙ ap (λ b. there_by o b (o q x) q []) gt ∙ ap not lt
    go (Same lt gt same) = absurd (apart same)
    go (Above lt gt) = there_step o q x [] ∙ ap (λ b. there_by o b (o q x) q []) gt
others_in o q x (y ∷ ys) law apart = go (law.sides x y) (law.sides q x) (others_in o q x ys law apart)
  where
    below : o q x ≡ true → o x y ≡ true → Sides o q y → (o y q ≡ false) × (o q y ≡ true)
    below first then (Below lt gt) = (gt, lt)
    below first then (Same lt gt same) = absurd (never (sym lt ∙ law.through q x y first then))
      where
        never : false ≡ true → ⊥
        never e = cc
    below first then (Above lt gt) = absurd (never (sym lt ∙ law.through q x y first then))
      where
        never : false ≡ true → ⊥
        never e = cc

    go : Sides o x y → Sides o q x → is_member o q (with_member o x ys) ≡ is_member o q ys
        → is_member o q (with_member o x (y ∷ ys)) ≡ is_member o q (y ∷ ys)
    go (Same lt gt same) side more = ap (is_member o q) (put_step o x y ys ∙ ap (λ b. put_by o b (o y x) x y ys) lt ∙ ap (λ b. put_by o false b x y ys) gt)
    go (Above lt gt) side more =
        ap (is_member o q) (put_step o x y ys ∙ ap (λ b. put_by o b (o y x) x y ys) lt ∙ ap (λ b. put_by o false b x y ys) gt)
        ∙ there_step o q y (with_member o x ys)
        ∙ inner (o y q)
        ∙ sym (there_step o q y ys)
      where
        inner : (b : Bool) → there_by o b (o q y) q (with_member o x ys) ≡ there_by o b (o q y) q ys
        inner true = more
        inner false = refl
    go (Below lt gt) (Same l g same) more = absurd (apart same)
    go (Below lt gt) (Above l g) more =
        ap (is_member o q) (put_step o x y ys ∙ ap (λ b. put_by o b (o y x) x y ys) lt)
        ∙ there_step o q x (y ∷ ys)
        ∙ ap (λ b. there_by o b (o q x) q (y ∷ ys)) g
    go (Below lt gt) (Below l g) more =
        let far = below l lt (law.sides q y) in
        ap (is_member o q) (put_step o x y ys ∙ ap (λ b. put_by o b (o y x) x y ys) lt)
        ∙ there_step o q x (y ∷ ys)
        ∙ ap (λ b. there_by o b (o q x) q (y ∷ ys)) g
        ∙ ap not l
        ∙ sym (there_step o q y ys ∙ ap (λ b. there_by o b (o q y) q ys) far.0 ∙ ap not far.1)

-- ---- one more member, by where it goes

pub alone_in : {X : Type 0} (o : X → X → Bool) (x : X) → with_member o x [] ≡ x ∷ []
unfolding with_member
alone_in o x = refl

pub first_in : {X : Type 0} (o : X → X → Bool) (x y : X) (ys : List X) → o x y ≡ true → with_member o x (y ∷ ys) ≡ x ∷ y ∷ ys
first_in o x y ys e = put_step o x y ys ∙ ap (λ b. put_by o b (o y x) x y ys) e

pub further_in : {X : Type 0} (o : X → X → Bool) (x y : X) (ys : List X) → o x y ≡ false → o y x ≡ true
    → with_member o x (y ∷ ys) ≡ y ∷ with_member o x ys
further_in o x y ys e f = put_step o x y ys ∙ ap (λ b. put_by o b (o y x) x y ys) e ∙ ap (λ b. put_by o false b x y ys) f

pub again_in : {X : Type 0} (o : X → X → Bool) (x : X) (ys : List X) → o x x ≡ false → with_member o x (x ∷ ys) ≡ x ∷ ys
again_in o x ys e = put_step o x x ys ∙ ap (λ b. put_by o b b x x ys) e

-- what holds of all and of one more holds of the set with it
pub all_with : {X : Type 0} (P : X → Type 0) (o : X → X → Bool) (x : X) (xs : List X) → P x → AllByRecursion P xs
    → AllByRecursion P (with_member o x xs)
unfolding with_member
all_with P o x [] h all = (h, tt)
all_with {X} P o x (y ∷ xs) h all = go (o x y) (o y x) (all_with P o x xs h all.1)
  where
    go : (b c : Bool) → AllByRecursion P (with_member o x xs) → AllByRecursion P (put_by o b c x y xs)
    go true c more = (h, all)
    go false true more = (all.0, more)
    go false false more = all

-- what follows what is further is further too
all_further : {X : Type 0} (o : X → X → Bool) (x y : X) (ys : List X) → Compares o → o x y ≡ true
    → AllByRecursion (λ z. o y z ≡ true) ys → AllByRecursion (λ z. o x z ≡ true) ys
all_further o x y [] law lt all = tt
all_further o x y (z ∷ ys) law lt all = (law.through x y z lt all.0, all_further o x y ys law lt all.1)

-- a rising list with one more member rises
pub rises_with : {X : Type 0} (o : X → X → Bool) (x : X) (ys : List X) → Compares o → IsRising o ys → IsRising o (with_member o x ys)
unfolding with_member
rises_with o x [] law rise = (tt, tt)
rises_with {X} o x (y ∷ ys) law rise = go (o x y) (o y x) refl refl (rises_with o x ys law rise.1)
  where
    go : (b c : Bool) → o x y ≡ b → o y x ≡ c → IsRising o (with_member o x ys) → IsRising o (put_by o b c x y ys)
    go true c e f more = ((e, all_further o x y ys law e rise.0), rise)
    go false true e f more = (all_with (λ z. o y z ≡ true) o x ys f rise.0, more)
    go false false e f more = rise

-- ---- equal sets are equal lists

not_true : (b : Bool) → (b ≡ true → ⊥) → b ≡ false
not_true true never = absurd (never refl)
not_true false never = refl

clash : false ≡ true → ⊥
clash e = cc

-- none before the first of a rising list, nor the one before it, is a member of the rest
none_before : {X : Type 0} (o : X → X → Bool) (q : X) (ys : List X) → Compares o → AllByRecursion (λ y. o q y ≡ true) ys → is_member o q ys ≡ false
unfolding is_member
none_before o q [] law all = refl
none_before o q (y ∷ ys) law all = go (law.sides q y)
  where
    go : Sides o q y → is_member o q (y ∷ ys) ≡ false
    go (Below lt gt) = there_step o q y ys ∙ ap (λ b. there_by o b (o q y) q ys) gt ∙ ap not lt
    go (Same lt gt same) = absurd (clash (sym lt ∙ all.0))
    go (Above lt gt) = absurd (clash (sym lt ∙ all.0))

first_of_both : {X : Type 0} (o : X → X → Bool) (x y : X) (xs ys : List X) → Compares o → IsRising o (y ∷ ys)
    → is_member o x (y ∷ ys) ≡ true → o x y ≡ true → ⊥
first_of_both o x y xs ys law rise here lt =
    clash (sym (none_before o x (y ∷ ys) law (lt, all_further o x y ys law lt rise.0)) ∙ here)

pub same_sets : {X : Type 0} (o : X → X → Bool) (xs ys : List X) → Compares o → IsRising o xs → IsRising o ys
    → ((q : X) → is_member o q xs ≡ is_member o q ys) → xs ≡ ys
unfolding is_member
same_sets o [] [] law rise rises same = refl
same_sets o [] (y ∷ ys) law rise rises same = absurd (clash (same y ∙ first_there o y ys law))
same_sets o (x ∷ xs) [] law rise rises same = absurd (clash (sym (same x) ∙ first_there o x xs law))
same_sets {X} o (x ∷ xs) (y ∷ ys) law rise rises same = go (law.sides x y) (same_sets o xs ys law rise.1 rises.1)
  where
    go : Sides o x y → (((q : X) → is_member o q xs ≡ is_member o q ys) → xs ≡ ys) → x ∷ xs ≡ y ∷ ys
    go (Below lt gt) rest = absurd (first_of_both o x y xs ys law rises (sym (same x) ∙ first_there o x xs law) lt)
    go (Above lt gt) rest = absurd (first_of_both o y x ys xs law rise (same y ∙ first_there o y ys law) gt)
    go (Same lt gt is) rest = ap (λ z. z ∷ xs) is ∙ ap (λ zs. y ∷ zs) (rest tails)
      where
        behind_x : AllByRecursion (λ z. o x z ≡ true) ys
        behind_x = all_same is
          where
            all_same : x ≡ y → AllByRecursion (λ z. o x z ≡ true) ys
            all_same e = subst (λ w. AllByRecursion (λ z. o w z ≡ true) ys) (sym e) rises.0

        in_rest : (q : X) (zs : List X) → Sides o q x → AllByRecursion (λ z. o x z ≡ true) zs → (is_member o q zs ≡ true → is_member o q (x ∷ zs) ≡ true)
            × (o x q ≡ true → is_member o q (x ∷ zs) ≡ is_member o q zs) × ((o x q ≡ false) → is_member o q zs ≡ false)
        in_rest q zs (Below l g) all = (
          λ here. absurd (clash (sym (none_before o q zs law (all_further o q x zs law l all)) ∙ here)),
          λ f. absurd (clash (sym g ∙ f)),
          λ f. none_before o q zs law (all_further o q x zs law l all),
        )
        in_rest q zs (Same l g e) all = (
          λ here. absurd (clash (sym (none_before o q zs law (subst (λ w. AllByRecursion (λ z. o w z ≡ true) zs) (sym e) all)) ∙ here)),
          λ f. absurd (clash (sym g ∙ f)),
          λ f. none_before o q zs law (subst (λ w. AllByRecursion (λ z. o w z ≡ true) zs) (sym e) all),
        )
        in_rest q zs (Above l g) all = (
          λ here. there_step o q x zs ∙ ap (λ b. there_by o b (o q x) q zs) g ∙ here,
          λ f. there_step o q x zs ∙ ap (λ b. there_by o b (o q x) q zs) g,
          λ f. absurd (clash (sym f ∙ g)),
        )

        tails : (q : X) → is_member o q xs ≡ is_member o q ys
        tails q = by (o x q) refl
          where
            front : is_member o q (x ∷ xs) ≡ is_member o q (x ∷ ys)
            front = same q ∙ ap (λ z. is_member o q (z ∷ ys)) (sym is)

            by : (b : Bool) → o x q ≡ b → is_member o q xs ≡ is_member o q ys
            by true e = sym ((in_rest q xs (law.sides q x) rise.0).1 e) ∙ front ∙ (in_rest q ys (law.sides q x) behind_x).1 e
            by false e = (in_rest q xs (law.sides q x) rise.0).2 e ∙ sym ((in_rest q ys (law.sides q x) behind_x).2 e)

-- ---- numbers and positions

pub numbers : Compares nat_lt
numbers = record {
  sides = λ x y. elim (cases_lt x y) [
    | inl below ↦ Below (lt-ltb x y below) (le-ltb y x (omega arith))
    | inr le ↦ elim (cases_lt y x) [
      | inl above ↦ Above (le-ltb x y le) (lt-ltb y x above)
      | inr ge ↦ Same (le-ltb x y le) (le-ltb y x ge) (omega arith)
    ]
  ];
  through = λ x y z a b. lt-ltb x z (let p = ltb-true x y a in let q = ltb-true y z b in omega arith);
}

pub positions : Compares position_before
positions = record {
  sides = λ a b. elim (all.total a b) [
    | inl same ↦
        Same (ap (λ c. position_before c b) same ∙ all.never_itself b) (ap (position_before b) same ∙ all.never_itself b) same
    | inr rest ↦ elim rest [ inl lt ↦ Below lt (all.one_way a b lt) | inr gt ↦ Above (all.one_way b a gt) gt ]
  ];
  through = all.transitive;
}
  where
    all : PositionsAreOrdered
    all = positions_are_ordered

-- ---- sets of numbers

pub in_front : (m x : ℕ) (xs : List ℕ) → m < x → with_member nat_lt m (x ∷ xs) ≡ m ∷ x ∷ xs
in_front m x xs lt = first_in nat_lt m x xs (lt-ltb m x lt)

pub again : (m : ℕ) (xs : List ℕ) → with_member nat_lt m (m ∷ xs) ≡ m ∷ xs
again m xs = again_in nat_lt m xs (le-ltb m m (omega arith))

pub behind : (m x : ℕ) (xs : List ℕ) → m < x → with_member nat_lt x (m ∷ xs) ≡ m ∷ with_member nat_lt x xs
behind m x xs lt = further_in nat_lt x m xs (le-ltb x m (omega arith)) (lt-ltb m x lt)

pub alone : (m : ℕ) → with_member nat_lt m [] ≡ m ∷ []
alone m = alone_in nat_lt m

-- what is promised of sets by an order
pub set_laws : {X : Type 0} (o : X → X → Bool) → Compares o → SetLaws o
set_laws o law = record {
  rises = λ x set rise. rises_with o x set law rise;
  itself = λ x set. self_in o x set law;
  others = λ q x set apart. others_in o q x set law apart;
  same = λ set other rise rises both. same_sets o set other law rise rises both;
}

pub sets_of_numbers : SetLaws nat_lt
sets_of_numbers = set_laws nat_lt numbers

pub sets_of_positions : SetLaws position_before
sets_of_positions = set_laws position_before positions
