-- The test of hand-ups that go through an order.
use Rattle.std.proofs.Common.{◌≡◌, ℕ, zero, suc, cond, ◌+◌, ◌<◌, ◌⊎◌, inl, inr, List, [], ◌∷◌, ◌++◌, length, take, drop, map, Bool, true, false, Option, None, Some, refl, sym, ap, subst, ◌∙◌, arith, append-nil, length-append, length-take}
use Rattle.std.specs.Prelude.{◌==◌, ◌&&◌}
use Rattle.std.specs.Bool.{Decides}
use Rattle.std.specs.List.{common_prefix_len, AllByRecursion}
use Rattle.std.proofs.lemmas.Bool.{cases_lt}
use Rattle.std.proofs.lemmas.Bool.Decides.{Decides-eqb}
use Rattle.std.proofs.lemmas.List.{take-append-drop, take_all}
use Rattle.std.proofs.lemmas.List.Sums.{common_prefix_len-le}
use Rattle.std.proofs.Math.Seq.{drop-append_seam}
use Rattle.norm_base.specs.Settings.{Settings}
use Rattle.fec_plan.specs.Points.{Point}
use Rattle.norm_order.specs.declared.up.Up.{Up}
use Rattle.norm_order.specs.declared.up.Up.TheVariants as up
use Rattle.norm_order.specs.Entries.{Object, Whole, Stream, Entry}
use Rattle.norm_order.specs.Segments.{Segment, segments}
use Rattle.norm_order.specs.Upto.{segment_up as part_up, parts_of}
use Rattle.norm_safety.specs.Fronts.{same_up}
use Rattle.norm_safety.specs.InOrder.{is_stream_object, may_be_lost, IsLess, IsHandedOf, GoesThrough, Stops, Hands, Loses, Within, behind_loss, behind_object, parts_handed, behind, goes_through}
use Rattle.norm_safety.proofs.FrontLemmas.{both, of_both, ups_same, up_itself}

clash : false ≡ true → ⊥
clash e = cc

-- How many elements two lists begin with alike.

abbrev common : List Up → List Up → ℕ
common xs ys = common_prefix_len same_up xs ys

-- so many elements are alike
common_take : (xs ys : List Up) → take (common xs ys) xs ≡ take (common xs ys) ys
common_take [] ys = refl
common_take (x ∷ xs) [] = refl
common_take (x ∷ xs) (y ∷ ys) = go (same_up x y) refl (common_take xs ys)
  where
    go : (b : Bool) → same_up x y ≡ b → take (common xs ys) xs ≡ take (common xs ys) ys
        → take (cond b (1 + common xs ys) 0) (x ∷ xs) ≡ take (cond b (1 + common xs ys) 0) (y ∷ ys)
    go true e rest = ap (λ n. take n (x ∷ xs)) one ∙ ap (λ more. x ∷ more) rest ∙ ap (λ z. z ∷ take (common xs ys) ys) (ups_same x y e) ∙ sym (ap (λ n. take n (y ∷ ys)) one)
      where
        one : 1 + common xs ys ≡ suc (common xs ys)
        one = omega arith
    go false e rest = refl

common_more : (x y : Up) (xs ys : List Up) → same_up x y ≡ true → common (x ∷ xs) (y ∷ ys) ≡ suc (common xs ys)
common_more x y xs ys e = ap (λ b. cond b (1 + common xs ys) 0) e ∙ one
  where
    one : 1 + common xs ys ≡ suc (common xs ys)
    one = omega arith

-- a list that goes on behind another
common_all : (xs rest : List Up) → common xs (xs ++ rest) ≡ length xs
common_all [] rest = refl
common_all (x ∷ xs) rest = common_more x x xs (xs ++ rest) (up_itself x) ∙ ap suc (common_all xs rest)

-- two lists that part behind a front
common_front : (front xs ys : List Up) → common xs ys ≡ 0 → common (front ++ xs) (front ++ ys) ≡ length front
common_front [] xs ys e = e
common_front (x ∷ front) xs ys e = common_more x x (front ++ xs) (front ++ ys) (up_itself x) ∙ ap suc (common_front front xs ys e)

common_of_none : (xs : List Up) → common xs [] ≡ 0
common_of_none [] = refl
common_of_none (x ∷ xs) = refl

common_of_other : (x y : Up) (xs ys : List Up) → same_up x y ≡ false → common (x ∷ xs) (y ∷ ys) ≡ 0
common_of_other x y xs ys e = ap (λ b. cond b (1 + common xs ys) 0) e

-- Among an object's parts there is no loss.

abbrev NoLoss : ℕ → List Up → Type 0
NoLoss index ups = AllByRecursion (λ x. same_up x (up.Lost index) ≡ false) ups

segment_no_loss : (index lost : ℕ) (s : Segment) → same_up (part_up index s) (up.Lost lost) ≡ false
segment_no_loss index lost s = go s.octets
  where
    go : (octets : List ℕ) → same_up (elim octets [ [] ↦ up.StreamEnd index | octet ∷ more ↦ up.StreamBytes index s.offset (octet ∷ more) ]) (up.Lost lost) ≡ false
    go [] = refl
    go (octet ∷ more) = refl

segments_no_loss : (index lost : ℕ) (all : List Segment) → NoLoss lost (map (part_up index) all)
segments_no_loss index lost [] = tt
segments_no_loss index lost (s ∷ all) = (segment_no_loss index lost s, segments_no_loss index lost all)

parts_no_loss : (p : Settings) (index lost : ℕ) (object : Object) → NoLoss lost (parts_of p index object)
parts_no_loss p index lost (Whole kind info octets) = (refl, tt)
parts_no_loss p index lost (Stream parts) = (refl, segments_no_loss index lost (segments p.e parts))

next_no_loss : (lost : ℕ) (front : List Up) (next : Up) (rest : List Up) → NoLoss lost (front ++ next ∷ rest) → same_up next (up.Lost lost) ≡ false
next_no_loss lost [] next rest all = all.0
next_no_loss lost (x ∷ front) next rest all = next_no_loss lost front next rest all.1

-- What follows an object.

goes_by : (p : Settings) (dropped : Point) (index : ℕ) (entry : Entry) (order : List Entry) (handed rest : List Up)
    → behind p dropped index entry.object handed ≡ Some rest → goes_through p dropped (suc index) order rest ≡ true
    → goes_through p dropped index (entry ∷ order) handed ≡ true
unfolding goes_through
goes_by p dropped index entry order [] rest e through = refl
goes_by p dropped index entry order (x ∷ handed) rest e through =
    ap (λ (found : Option (List Up)). elim found [ Some more ↦ goes_through p dropped (suc index) order more | None ↦ false ]) e ∙ through

goes_nowhere : (p : Settings) (dropped : Point) (index : ℕ) (order : List Entry) → goes_through p dropped index order [] ≡ true
unfolding goes_through
goes_nowhere p dropped index [] = refl
goes_nowhere p dropped index (entry ∷ order) = refl

-- by how many parts were handed up, and whether those were all
abbrev after : Bool → Settings → Point → ℕ → Object → ℕ → List Up → Option (List Up)
after all p dropped index object n left = elim all [
  | true ↦ Some left
  | false ↦ elim left [ [] ↦ Some [] | next ∷ rest ↦ behind_loss p dropped index object n (next ∷ rest) ]
]

behind_by : (p : Settings) (dropped : Point) (index : ℕ) (object : Object) (handed : List Up) (n : ℕ) (all : Bool) (left : List Up)
    → parts_handed p index object handed ≡ n → (n == length (parts_of p index object)) ≡ all → drop n handed ≡ left
    → behind p dropped index object handed ≡ after all p dropped index object n left
behind_by p dropped index object handed n all left is full rest =
    ap (λ m. behind_object p dropped index object m handed) is
    ∙ ap (λ b. after b p dropped index object n (drop n handed)) full
    ∙ ap (λ more. after all p dropped index object n more) rest

behind_all : (p : Settings) (dropped : Point) (index : ℕ) (object : Object) (rest : List Up)
    → behind p dropped index object (parts_of p index object ++ rest) ≡ Some rest
behind_all p dropped index object rest =
    behind_by p dropped index object (parts_of p index object ++ rest) (length (parts_of p index object)) true rest
    (common_all (parts_of p index object) rest) ((Decides-eqb (length (parts_of p index object)) (length (parts_of p index object))).1 refl)
    (drop-append_seam (parts_of p index object) rest)

not_all : (front : List Up) (next : Up) (rest whole : List Up) → whole ≡ front ++ next ∷ rest → (length front == length whole) ≡ false
not_all front next rest whole e = go (length front == length whole) refl
  where
    go : (b : Bool) → (length front == length whole) ≡ b → b ≡ false
    go true same = absurd (let is : length front ≡ length whole = (Decides-eqb (length front) (length whole)).0 same in longer (ap length e) is)
      where
        longer : length whole ≡ length (front ++ next ∷ rest) → length front ≡ length whole → ⊥
        longer h k = omega (arith, length-append front (next ∷ rest))
    go false same = refl

behind_lost : (p : Settings) (dropped : Point) (index : ℕ) (object : Object) (front rest : List Up) → IsLess front (parts_of p index object)
    → may_be_lost p dropped index object (length front) ≡ true
    → behind p dropped index object (front ++ up.Lost index ∷ rest) ≡ Some rest
behind_lost p dropped index object front rest less lost =
    let parted = common_of_other less.0 (up.Lost index) less.1 rest
    (next_no_loss index front less.0 less.1 (subst (NoLoss index) less.2 (parts_no_loss p index index object))) in
    behind_by p dropped index object (front ++ up.Lost index ∷ rest) (length front) false (up.Lost index ∷ rest)
    (ap (λ parts. common parts (front ++ up.Lost index ∷ rest)) less.2 ∙ common_front front (less.0 ∷ less.1) (up.Lost index ∷ rest) parted)
    (not_all front less.0 less.1 (parts_of p index object) less.2) (drop-append_seam front (up.Lost index ∷ rest))
    ∙ ap (λ b. elim b [ true ↦ Some rest | false ↦ None ])
    (of_both (index == index) (may_be_lost p dropped index object (length front)) ((Decides-eqb index index).1 refl) lost)

behind_within : (p : Settings) (dropped : Point) (index : ℕ) (object : Object) (front : List Up) → IsLess front (parts_of p index object)
    → behind p dropped index object front ≡ Some []
behind_within p dropped index object front less =
    behind_by p dropped index object front (length front) false []
    (ap (λ parts. common parts front) less.2 ∙ ap (common (front ++ less.0 ∷ less.1)) (sym (append-nil front))
    ∙ common_front front (less.0 ∷ less.1) [] (common_of_none (less.0 ∷ less.1)))
    (not_all front less.0 less.1 (parts_of p index object) less.2)
    (ap (drop (length front)) (sym (append-nil front)) ∙ drop-append_seam front [])

-- none of the parts of data or a file, or not all of a stream
less_of : (p : Settings) (index : ℕ) (object : Object) (front : List Up) → IsHandedOf p index object front → IsLess front (parts_of p index object)
less_of p index (Whole kind info octets) front none =
    (up.Object index kind info octets, [], ap (λ list. list ++ up.Object index kind info octets ∷ []) (sym none))
less_of p index (Stream parts) front less = less

passes : (p : Settings) (dropped : Point) (index : ℕ) (order : List Entry) (handed : List Up) → GoesThrough p dropped index order handed
    → goes_through p dropped index order handed ≡ true
passes p dropped index order handed (Stops {index = i} {order = o}) = goes_nowhere p dropped i o
passes p dropped index order handed (Hands {index = i} {order = o} {rest = rest} entry through) =
    goes_by p dropped i entry o (parts_of p i entry.object ++ rest) rest (behind_all p dropped i entry.object rest) (passes p dropped (suc i) o rest through)
passes p dropped index order handed (Loses {index = i} {order = o} {rest = rest} entry front of lost through) =
    goes_by p dropped i entry o (front ++ up.Lost i ∷ rest) rest (behind_lost p dropped i entry.object front rest (less_of p i entry.object front of) lost)
    (passes p dropped (suc i) o rest through)
passes p dropped index order handed (Within {index = i} {order = o} entry front stream of) =
    goes_by p dropped i entry o front [] (behind_within p dropped i entry.object front (less_of p i entry.object front of)) (goes_nowhere p dropped (suc i) o)

-- What the test finds is what the relation says.

less_take : (n : ℕ) (whole : List Up) → n < length whole → IsLess (take n whole) whole
less_take n [] lt = absurd (none lt)
  where
    none : n < 0 → ⊥
    none h = omega arith
less_take zero (x ∷ whole) lt = (x, whole, refl)
less_take (suc n) (x ∷ whole) lt = let less = less_take n whole (omega arith) in (less.0, less.1, ap (λ rest. x ∷ rest) less.2)

handed_of : (p : Settings) (index : ℕ) (object : Object) (n : ℕ) → n < length (parts_of p index object)
    → IsHandedOf p index object (take n (parts_of p index object))
handed_of p index (Whole kind info octets) n lt = ap (λ m. take m (up.Object index kind info octets ∷ [])) (zero_of lt)
  where
    zero_of : n < 1 → n ≡ 0
    zero_of h = omega arith
handed_of p index (Stream parts) n lt = less_take n (parts_of p index (Stream parts)) lt

-- what may stand before the rest of the hand-ups
abbrev Follows : Settings → Point → ℕ → Object → List Up → List Up → Type 0
Follows p dropped index object handed rest =
    (handed ≡ parts_of p index object ++ rest)
    ⊎ (((front : List Up) × (handed ≡ front ++ up.Lost index ∷ rest) × IsHandedOf p index object front
    × (may_be_lost p dropped index object (length front) ≡ true))
    ⊎ (((is_stream_object object ≡ true) × IsHandedOf p index object handed) ⊎ (handed ≡ [])))

same_rest : (xs ys : List Up) → Some xs ≡ Some ys → xs ≡ ys
same_rest xs ys e = cc

no_rest : (ys : List Up) → None ≡ Some ys → ⊥
no_rest ys e = cc

parted : (n : ℕ) (handed front left : List Up) → take n handed ≡ front → drop n handed ≡ left → handed ≡ front ++ left
parted n handed front left first rest = sym (take-append-drop n handed) ∙ ap (λ xs. xs ++ drop n handed) first ∙ ap (λ ys. front ++ ys) rest

only_a_front : (p : Settings) (dropped : Point) (index : ℕ) (object : Object) (handed rest : List Up) (n : ℕ)
    → n < length (parts_of p index object) → handed ≡ take n (parts_of p index object) → Follows p dropped index object handed rest
only_a_front p dropped index (Whole kind info octets) handed rest n lt e =
    inr (inr (inr (e ∙ handed_of p index (Whole kind info octets) n lt)))
only_a_front p dropped index (Stream parts) handed rest n lt e =
    inr (inr (inl (refl, subst (λ (xs : List Up). IsHandedOf p index (Stream parts) xs) (sym e) (handed_of p index (Stream parts) n lt))))

front_lost : (p : Settings) (dropped : Point) (index : ℕ) (object : Object) (handed rest : List Up) (n : ℕ) (next : Up) (more : List Up)
    → n < length (parts_of p index object) → handed ≡ take n (parts_of p index object) ++ next ∷ more
    → behind_loss p dropped index object n (next ∷ more) ≡ Some rest → Follows p dropped index object handed rest
front_lost p dropped index object handed rest n (up.Lost lost) more lt e found = go (lost == index && may_be_lost p dropped index object n) refl found
  where
    front : List Up
    front = take n (parts_of p index object)

    long : length front ≡ n
    long = omega (arith, length-take n (parts_of p index object))

    go : (b : Bool) → (lost == index && may_be_lost p dropped index object n) ≡ b → elim b [ true ↦ Some more | false ↦ None ] ≡ Some rest
        → Follows p dropped index object handed rest
    go false is none = absurd (no_rest rest none)
    go true is some = let two = both (lost == index) (may_be_lost p dropped index object n) is in inr (inl (
      front,
      e ∙ ap (λ i. front ++ up.Lost i ∷ more) ((Decides-eqb lost index).0 two.0) ∙ ap (λ xs. front ++ up.Lost index ∷ xs) (same_rest more rest some),
      handed_of p index object n lt,
      ap (λ m. may_be_lost p dropped index object m) long ∙ two.1,
    ))
front_lost p dropped index object handed rest n _ more lt e found = absurd (no_rest rest found)

follows : (p : Settings) (dropped : Point) (index : ℕ) (object : Object) (handed rest : List Up)
    → behind p dropped index object handed ≡ Some rest → Follows p dropped index object handed rest
follows p dropped index object handed rest found = go (n == length parts) (drop n handed) refl refl found
  where
    parts : List Up
    parts = parts_of p index object

    n : ℕ
    n = parts_handed p index object handed

    fewer : (n == length parts) ≡ false → n < length parts
    fewer e = elim (cases_lt n (length parts)) [
      | inl lt ↦ lt
      | inr ge ↦ absurd (let most = (common_prefix_len-le same_up parts handed).0 in let is : n ≡ length parts = omega arith in clash (sym e ∙ (Decides-eqb n (length parts)).1 is))
    ]

    whole : (n == length parts) ≡ true → take n parts ≡ parts
    whole e = let is = (Decides-eqb n (length parts)).0 e in take_all n parts (omega arith)

    go : (all : Bool) (left : List Up) → (n == length parts) ≡ all → drop n handed ≡ left → after all p dropped index object n left ≡ Some rest
        → Follows p dropped index object handed rest
    go true left e rests some = inl (parted n handed parts left (sym (common_take parts handed) ∙ whole e) rests ∙ ap (λ xs. parts ++ xs) (same_rest left rest some))
    go false [] e rests some = only_a_front p dropped index object handed rest n (fewer e)
        (parted n handed (take n parts) [] (sym (common_take parts handed)) rests ∙ append-nil (take n parts))
    go false (next ∷ more) e rests some = front_lost p dropped index object handed rest n next more (fewer e)
        (parted n handed (take n parts) (next ∷ more) (sym (common_take parts handed)) rests) some

goes_as : (p : Settings) (dropped : Point) (index : ℕ) (entry : Entry) (order : List Entry) (handed rest : List Up)
    → Follows p dropped index entry.object handed rest → GoesThrough p dropped (suc index) order rest → GoesThrough p dropped index (entry ∷ order) handed
goes_as p dropped index entry order handed rest (inl all) through =
    subst (λ (xs : List Up). GoesThrough p dropped index (entry ∷ order) xs) (sym all) (Hands entry through)
goes_as p dropped index entry order handed rest (inr (inl lost)) through =
    subst (λ (xs : List Up). GoesThrough p dropped index (entry ∷ order) xs) (sym lost.1) (Loses entry lost.0 lost.2 lost.3 through)
goes_as p dropped index entry order handed rest (inr (inr (inl within))) through = Within entry handed within.0 within.1
goes_as p dropped index entry order handed rest (inr (inr (inr none))) through =
    subst (λ (xs : List Up). GoesThrough p dropped index (entry ∷ order) xs) (sym none) Stops

through_of : (p : Settings) (dropped : Point) (index : ℕ) (order : List Entry) (handed : List Up) → goes_through p dropped index order handed ≡ true
    → GoesThrough p dropped index order handed
unfolding goes_through
through_of p dropped index order [] e = Stops
through_of p dropped index [] (x ∷ handed) e = absurd (clash e)
through_of p dropped index (entry ∷ order) (x ∷ handed) e =
    go (behind p dropped index entry.object (x ∷ handed)) refl e (λ rest through. through_of p dropped (suc index) order rest through)
  where
    go : (found : Option (List Up)) → behind p dropped index entry.object (x ∷ handed) ≡ found
        → elim found [ Some rest ↦ goes_through p dropped (suc index) order rest | None ↦ false ] ≡ true
        → ((rest : List Up) → goes_through p dropped (suc index) order rest ≡ true → GoesThrough p dropped (suc index) order rest)
        → GoesThrough p dropped index (entry ∷ order) (x ∷ handed)
    go None is none later = absurd (clash none)
    go (Some rest) is through later =
        goes_as p dropped index entry order (x ∷ handed) rest (follows p dropped index entry.object (x ∷ handed) rest is) (later rest through)

pub through_decides : (p : Settings) (dropped : Point) (index : ℕ) (order : List Entry) (handed : List Up)
    → Decides (goes_through p dropped index order handed) (GoesThrough p dropped index order handed)
through_decides p dropped index order handed = (through_of p dropped index order handed, passes p dropped index order handed)
