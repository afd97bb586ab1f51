-- A symbol that comes between those before it and those behind it.
use Rattle.std.proofs.Common.{◌≡◌, ◌-◌, ℕ, zero, suc, ◌+◌, ◌<◌, ◌≤◌, ◌⊎◌, inl, inr, List, [], ◌∷◌, length, take, drop, get_or, Bool, true, false, refl, sym, ap, ◌∙◌, arith}
use Rattle.std.specs.Prelude.{◌==◌, ◌||◌, insert, nat_lt}
use Rattle.std.specs.List.{list_any, AllByRecursion}
use Rattle.std.proofs.lemmas.Bool.{cases_order, lt-ltb, le-ltb, eq-eqb, ne_eqb, ltb-true}
use Rattle.std.proofs.lemmas.List.{length-append, length-take, length-drop}
use Rattle.std.proofs.lemmas.List.Elements.{All-from_recursion}
use Rattle.gf_field.specs.Element.{AreElements}
use Rattle.gf_field.specs.Symbol.{AreIds}
use Rattle.norm_order.specs.Sets.{with_member, Rises}
use Rattle.norm_order.specs.Symbols.{padded}
use Rattle.rx_stream.specs.BlockState.{Came, came_before}
use Rattle.rx_stream.specs.BlockMoves.{IsPlace}
use Rattle.rx_stream.specs.BlockSound.{part_of, came_as, listed, AreWhole}

-- an id is not among these
abbrev pub IsNew : ℕ → List ℕ → Type 0
IsNew id ids = AllByRecursion (λ (x : ℕ). (x == id) ≡ false) ids

place_rest : (id y place : ℕ) (ids : List ℕ) → IsPlace id (y ∷ ids) (suc place) → IsPlace id ids place
place_rest id y place ids p = record {
  within = (let w = p.within in omega (arith, w));
  before = λ i lt. p.before (suc i) (omega (arith, lt));
  behind = λ lt. p.behind (omega (arith, lt));
}

-- ---- a list with one more

joined_came : Bool → Bool → Came → Came → List Came → List Came
joined_came b c x y ys = elim b [
  | true ↦ x ∷ y ∷ ys
  | false ↦ elim c [ true ↦ y ∷ with_member came_before x ys | false ↦ y ∷ ys ]
]

in_front : (x y : Came) (ys : List Came) → came_before x y ≡ true → with_member came_before x (y ∷ ys) ≡ x ∷ y ∷ ys
unfolding with_member joined_came
in_front x y ys e = ap (λ b. joined_came b (came_before y x) x y ys) e

behind_it : (x y : Came) (ys : List Came) → came_before x y ≡ false → came_before y x ≡ true → with_member came_before x (y ∷ ys) ≡ y ∷ with_member came_before x ys
unfolding with_member joined_came
behind_it x y ys e f = ap (λ b. joined_came b (came_before y x) x y ys) e ∙ ap (λ b. joined_came false b x y ys) f

pub listed_more : (k size id : ℕ) (row : List ℕ) (ids : List ℕ) (rows : List (List ℕ)) (place : ℕ) → length rows ≡ length ids → IsPlace id ids place → IsNew id ids
    → listed k size (insert ids place id) (insert rows place row) ≡ with_member came_before (came_as k size id row) (listed k size ids rows)
unfolding listed with_member
listed_more k size id row [] rows zero count p new = refl
listed_more k size id row [] rows (suc place) count p new = absurd (let w = p.within in omega (arith, w))
listed_more k size id row (y ∷ ids) [] place count p new = absurd (omega arith)
listed_more k size id row (y ∷ ids) (r ∷ rows) zero count p new =
    let le : id ≤ y = p.behind (omega arith) in
    sym (in_front (came_as k size id row) (came_as k size y r) (listed k size ids rows) (lt-ltb id y (above y id le new.0)))
  where
    above : (y id : ℕ) → id ≤ y → (y == id) ≡ false → id < y
    above y id le other = go (cases_order y id)
      where
        go : (y ≡ id) ⊎ ((y < id) ⊎ (id < y)) → id < y
        go (inl e) = absurd (let f : true ≡ false = sym (eq-eqb y id e) ∙ other in cc f)
        go (inr (inl lt)) = absurd (omega (arith, le, lt))
        go (inr (inr lt)) = lt
listed_more k size id row (y ∷ ids) (r ∷ rows) (suc place) count p new =
    let lt : y < id = p.before 0 (omega arith) in
    ap (λ cs. came_as k size y r ∷ cs) (listed_more k size id row ids rows place (omega arith) (place_rest id y place ids p) new.1)
    ∙ sym (behind_it (came_as k size id row) (came_as k size y r) (listed k size ids rows) (le-ltb id y (omega (arith, lt))) (lt-ltb y id lt))

-- ---- what the parts of a block keep

all_insert : (P : ℕ → Type 0) (xs : List ℕ) (place x : ℕ) → AllByRecursion P xs → P x → AllByRecursion P (insert xs place x)
all_insert P [] zero x all here = (here, tt)
all_insert P [] (suc place) x all here = (here, tt)
all_insert P (y ∷ xs) zero x all here = (here, all)
all_insert P (y ∷ xs) (suc place) x all here = (all.0, all_insert P xs place x all.1 here)

pub below_more : (ids : List ℕ) (place id : ℕ) → AllByRecursion (λ (x : ℕ). x < 255) ids → id < 255 → AllByRecursion (λ (x : ℕ). x < 255) (insert ids place id)
below_more ids place id all small = all_insert (λ (x : ℕ). x < 255) ids place id all small

pub sizes_more : (size : ℕ) (rows : List (List ℕ)) (place : ℕ) (row : List ℕ) → AllByRecursion (λ (r : List ℕ). length r ≡ size) rows → length row ≡ size
    → AllByRecursion (λ (r : List ℕ). length r ≡ size) (insert rows place row)
sizes_more size [] zero row all long = (long, tt)
sizes_more size [] (suc place) row all long = (long, tt)
sizes_more size (r ∷ rows) zero row all long = (long, all)
sizes_more size (r ∷ rows) (suc place) row all long = (all.0, sizes_more size rows place row all.1 long)

pub octets_more : (rows : List (List ℕ)) (place : ℕ) (row : List ℕ) → AllByRecursion AreElements rows → AreElements row → AllByRecursion AreElements (insert rows place row)
octets_more [] zero row all here = (here, tt)
octets_more [] (suc place) row all here = (here, tt)
octets_more (r ∷ rows) zero row all here = (here, all)
octets_more (r ∷ rows) (suc place) row all here = (all.0, octets_more rows place row all.1 here)

pub whole_more : (k size id : ℕ) (row : List ℕ) (ids : List ℕ) (rows : List (List ℕ)) (place : ℕ) → length rows ≡ length ids → AreWhole k size ids rows
    → padded size (part_of k size id row) ≡ row → AreWhole k size (insert ids place id) (insert rows place row)
whole_more k size id row [] [] zero count all here = (here, tt)
whole_more k size id row [] [] (suc place) count all here = (here, tt)
whole_more k size id row [] (r ∷ rows) place count all here = absurd (omega arith)
whole_more k size id row (y ∷ ids) [] place count all here = absurd (omega arith)
whole_more k size id row (y ∷ ids) (r ∷ rows) zero count all here = (here, all)
whole_more k size id row (y ∷ ids) (r ∷ rows) (suc place) count all here = (all.0, whole_more k size id row ids rows place (omega arith) all.1 here)

all_above : (id y : ℕ) (ids : List ℕ) → id < y → AllByRecursion (λ (m : ℕ). y < m) ids → AllByRecursion (λ (m : ℕ). id < m) ids
all_above id y [] lt all = tt
all_above id y (x ∷ ids) lt all = ((let a = all.0 in omega (arith, a, lt)), all_above id y ids lt all.1)

above_here : (y id : ℕ) → id ≤ y → (y == id) ≡ false → id < y
above_here y id le other = go (cases_order y id)
  where
    go : (y ≡ id) ⊎ ((y < id) ⊎ (id < y)) → id < y
    go (inl e) = absurd (let f : true ≡ false = sym (eq-eqb y id e) ∙ other in cc f)
    go (inr (inl lt)) = absurd (omega (arith, le, lt))
    go (inr (inr lt)) = lt

pub rises_more : (id : ℕ) (ids : List ℕ) (place : ℕ) → IsPlace id ids place → IsNew id ids → Rises ids → Rises (insert ids place id)
rises_more id [] zero p new all = (tt, tt)
rises_more id [] (suc place) p new all = absurd (let w = p.within in omega (arith, w))
rises_more id (y ∷ ids) zero p new all =
    let lt : id < y = above_here y id (p.behind (omega arith)) new.0 in
    ((lt, all_above id y ids lt all.0), all)
rises_more id (y ∷ ids) (suc place) p new all =
    (all_insert (λ (m : ℕ). y < m) ids place id all.0 (p.before 0 (omega arith)), rises_more id ids place (place_rest id y place ids p) new.1 all.1)

pub one_more : {X : Type 0} (xs : List X) (place : ℕ) (x : X) → place ≤ length xs → length (insert xs place x) ≡ length xs + 1
one_more xs place x le = omega (arith, length-append (take place xs) (x ∷ drop place xs), length-take place xs, length-drop place xs)

-- ---- ids that rise

pub pair_at : (x : ℕ) (ids : List ℕ) → AllByRecursion (λ (m : ℕ). x < m) ids → (j d : ℕ) → j < length ids → x < get_or ids j d
pair_at x [] all j d lt = absurd (omega arith)
pair_at x (y ∷ ids) all zero d lt = all.0
pair_at x (y ∷ ids) all (suc j) d lt = pair_at x ids all.1 j d (omega arith)

pub risen : (ids : List ℕ) → Rises ids → (i j d : ℕ) → i < j → j < length ids → get_or ids i d < get_or ids j d
risen [] all i j d lt within = absurd (omega arith)
risen (y ∷ ids) all zero zero d lt within = absurd (omega arith)
risen (y ∷ ids) all zero (suc j) d lt within = pair_at y ids all.0 j d (omega arith)
risen (y ∷ ids) all (suc i) zero d lt within = absurd (omega arith)
risen (y ∷ ids) all (suc i) (suc j) d lt within = risen ids all.1 i j d (omega arith) (omega arith)

pub are_ids : (k : ℕ) (ids : List ℕ) → length ids ≡ k → Rises ids → AllByRecursion (λ (x : ℕ). x < 255) ids → AreIds k 255 ids
are_ids k ids count all below = record {
  count = count;
  different = λ i j d lt within same. (let r = risen ids all i j d lt within in absurd (omega (arith, r, same)));
  below = All-from_recursion (λ (x : ℕ). x < 255) ids below;
}

-- ---- an id above all

last_above : (ids : List ℕ) (id last : ℕ) → Rises ids → last + 1 ≡ length ids → get_or ids last 0 < id → AllByRecursion (λ (x : ℕ). x < id) ids
last_above [] id last all at lt = tt
last_above (y ∷ []) id zero all at lt = (lt, tt)
last_above (y ∷ []) id (suc last) all at lt = absurd (omega arith)
last_above (y ∷ z ∷ ids) id zero all at lt = absurd (omega arith)
last_above (y ∷ z ∷ ids) id (suc last) all at lt =
    let rest = last_above (z ∷ ids) id last all.1 (omega (arith, at)) lt in
    let first = all.0.0 in
    let here = rest.0 in
    ((omega (arith, first, here)), rest)

pub above_all : (ids : List ℕ) (id : ℕ) → Rises ids → nat_lt (get_or ids (length ids - 1) 0) id ≡ true → AllByRecursion (λ (x : ℕ). x < id) ids
above_all [] id all e = tt
above_all (y ∷ ids) id all e = last_above (y ∷ ids) id (length ids) all (omega arith) (ltb-true (get_or (y ∷ ids) (length ids) 0) id (same ∙ e))
  where
    same : nat_lt (get_or (y ∷ ids) (length ids) 0) id ≡ nat_lt (get_or (y ∷ ids) (length (y ∷ ids) - 1) 0) id
    same = ap (λ n. nat_lt (get_or (y ∷ ids) n 0) id) (let f : length ids ≡ length (y ∷ ids) - 1 = omega arith in f)

pub none_above : (ids : List ℕ) (id : ℕ) → AllByRecursion (λ (x : ℕ). x < id) ids → false ≡ list_any (λ (x : ℕ). x == id) ids
none_above [] id all = refl
none_above (y ∷ ids) id all =
    none_above ids id all.1 ∙ sym (ap (λ b. b || list_any (λ (x : ℕ). x == id) ids) (ne_eqb y id (λ e. let lt = all.0 in omega (arith, lt, e))))

below_at : (ids : List ℕ) (id : ℕ) → AllByRecursion (λ (x : ℕ). x < id) ids → (i : ℕ) → i < length ids → get_or ids i 0 < id
below_at [] id all i lt = absurd (omega arith)
below_at (y ∷ ids) id all zero lt = all.0
below_at (y ∷ ids) id all (suc i) lt = below_at ids id all.1 i (omega arith)

pub last_place : (ids : List ℕ) (id : ℕ) → AllByRecursion (λ (x : ℕ). x < id) ids → IsPlace id ids (length ids)
last_place ids id all = record {
  within = omega arith;
  before = below_at ids id all;
  behind = λ lt. absurd (omega (arith, lt));
}

pub none_all : (ids : List ℕ) (id : ℕ) → length ids ≡ 0 → AllByRecursion (λ (x : ℕ). x < id) ids
none_all [] id e = tt
none_all (y ∷ ids) id e = absurd (omega arith)
