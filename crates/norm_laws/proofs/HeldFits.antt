-- A message of an object of the sender's window has a plan that is known, or is taken up: there is room for it.
use Rattle.std.proofs.Common.{◌≡◌, ℕ, zero, suc, ◌+◌, ◌-◌, ◌*◌, ◌/◌, ◌<◌, ◌≤◌, cond, List, [], ◌∷◌, length, drop, Bool, true, false, Option, None, Some, refl, sym, ap, ◌∙◌, subst, arith, ◌⊎◌, inl, inr}
use Rattle.std.specs.Prelude.{slice_get, filter, find, not, nat_lt, nat_le, is_some, is_none, ◌==◌, ◌&&◌, ◌||◌, IsSomeAnd}
use Rattle.std.specs.Bool.{beq}
use Rattle.std.specs.List.{AllByRecursion}
use Rattle.std.proofs.lemmas.Bool.Decides.{Decides-eqb, Decides-ltb}
use Rattle.std.proofs.lemmas.Option.{slice_get_within}
use Rattle.norm_base.specs.Settings.{Settings, InRange}
use Rattle.fec_plan.specs.Partition.{Cut, first_fault}
use Rattle.fec_plan.specs.Points.{Point, point_of, point_before}
use Rattle.fec_plan.proofs.PointLemmas.{behind_point}
use Rattle.norm_ext.specs.declared.fti.Fti.{Fti}
use Rattle.norm_order.specs.Entries.{Object, Whole, Stream, Entry}
use Rattle.norm_order.specs.First.{first_where}
use Rattle.norm_order.specs.Sets.{with_member}
use Rattle.norm_receive_rules.specs.Fitting.{most_ahead, room_of, room_taken, same_plan, is_known_plan, is_away, is_unfit, fit_of, fitted, plan_before, lets_put}
use Rattle.norm_receive_rules.specs.Holding.{Holding, Plan, new_plan}
use Rattle.norm_receive_rules.specs.Plans.{cut_by, says_stream, plan_of, is_over}
use Rattle.norm_receive_rules.specs.declared.words.Fit.{Fit}
use Rattle.norm_receive_rules.specs.declared.words.Fit.TheVariants as fit
use Rattle.norm_send_rules.specs.Messages.{fti_of_object, object_flags}
use Rattle.norm_send_rules.specs.Room.{size_of}
use Rattle.norm_safety.specs.InOrder.{is_stream_object}
use Rattle.norm_safety.proofs.Holding.{IsPlanOf, found_plan, some_and}
use Rattle.norm_safety.proofs.SizedOrders.{IsSized}
use Rattle.norm_laws.proofs.HeldLengths.{PlanIs, says_its, its_cut, no_fault, not_le, not_lt, neither}
use Rattle.norm_laws.proofs.HeldRoom.{total, sum_is_total, sizes, Fits}
use Rattle.norm_laws.proofs.HeldStays.{Apart}

clash : false ≡ true → ⊥
clash e = cc

-- What a receiver is that a message of the window comes to: its plans are those of the order, one for each object, and its hand-up point
-- is not before the window.
pub record Ready (p : Settings) (order : List Entry) (d : Point) (h : Holding) : Type 0 where
  pub plans : AllByRecursion (IsPlanOf p order) h.plans
  pub apart : Apart h.plans
  pub front : point_before (point_of h.point) d ≡ false

-- the objects before the hand-up point's are all before the window
pub ready_index : (p : Settings) (order : List Entry) (d : Point) (h : Holding) → Ready p order d h → d.index ≤ h.point.index
ready_index p order d h ready = go (behind_point (point_of h.point) d ready.front)
  where
    go : (d.index < h.point.index) ⊎ ((d.index ≡ h.point.index) × (d.block ≤ h.point.block)) → d.index ≤ h.point.index
    go (inl lt) = omega (arith, lt)
    go (inr (same, le)) = omega (arith, same)

same_entry : (x y : Entry) → Some x ≡ Some y → x ≡ y
same_entry x y e = cc

same_self : (n : ℕ) → (n == n) ≡ true
same_self n = (Decides-eqb n n).1 refl

both : (a b : Bool) → a ≡ true → b ≡ true → (a && b) ≡ true
both true b e f = f
both false b e f = absurd (clash e)

-- a plan of the order is that of the entry at its index
pub plan_is : (p : Settings) (order : List Entry) (x : Entry) (plan : Plan) → IsPlanOf p order plan → slice_get order plan.index ≡ Some x → PlanIs p x.object plan.fti plan.flags
plan_is p order x plan is found =
    let entry = some_and _ (slice_get order plan.index) is in
    let P : Entry → Type 0 = λ y. PlanIs p y.object plan.fti plan.flags in
    subst P (same_entry entry.0 x (sym entry.1 ∙ found)) (record { fti = entry.2.0; flags = entry.2.1 })

-- ---- room

-- how many octets a plan takes
abbrev plan_room : Settings → Plan → ℕ
plan_room p plan = room_of p plan.fti plan.flags

-- as many as its object
room_is : (p : Settings) (object : Object) (f : Fti) (flags : ℕ) → PlanIs p object f flags → room_of p f flags ≡ size_of p object
room_is p object f flags is = ap by_kind (says_its object flags is.flags) ∙ ap (λ (g : Fti). by_length (is_stream_object object) g.l) is.fti ∙ its object
  where
    by_length : Bool → ℕ → ℕ
    by_length b l = elim b [ true ↦ p.blocks * p.b * p.e | false ↦ l ]

    by_kind : Bool → ℕ
    by_kind b = by_length b f.l

    its : (o : Object) → elim (is_stream_object o) as (λ _. ℕ) [ true ↦ p.blocks * p.b * p.e | false ↦ (fti_of_object p o).l ] ≡ size_of p o
    its (Whole kind info octets) = refl
    its (Stream parts) = refl

-- a plan takes the room of the entry at its index, among entries from an index on
abbrev TakesOf : Settings → ℕ → List Entry → Plan → Type 0
TakesOf p first entries plan = (first ≤ plan.index) × IsSomeAnd (slice_get entries (plan.index - first)) (λ (x : Entry). plan_room p plan ≡ size_of p x.object)

next_takes : (p : Settings) (first : ℕ) (x : Entry) (entries : List Entry) (plan : Plan) → first < plan.index → TakesOf p first (x ∷ entries) plan → TakesOf p (suc first) entries plan
next_takes p first x entries plan lt is =
    let S : ℕ → Type 0 = λ i. IsSomeAnd (slice_get (x ∷ entries) i) (λ (y : Entry). plan_room p plan ≡ size_of p y.object) in
    (omega (arith, lt), subst S (let z : plan.index - first ≡ suc (plan.index - suc first) = omega (arith, lt) in z) is.1)

first_takes : (p : Settings) (first : ℕ) (x : Entry) (entries : List Entry) (plan : Plan) → plan.index ≤ first → TakesOf p first (x ∷ entries) plan → plan_room p plan ≡ size_of p x.object
first_takes p first x entries plan le is =
    let S : ℕ → Type 0 = λ i. IsSomeAnd (slice_get (x ∷ entries) i) (λ (y : Entry). plan_room p plan ≡ size_of p y.object) in
    subst S (let z : plan.index - first ≡ 0 = omega (arith, le) in z) is.1

all_next : (p : Settings) (first : ℕ) (x : Entry) (entries : List Entry) (plans : List Plan) → AllByRecursion (λ (plan : Plan). first < plan.index) plans
    → AllByRecursion (TakesOf p first (x ∷ entries)) plans → AllByRecursion (TakesOf p (suc first) entries) plans
all_next p first x entries [] above all = tt
all_next p first x entries (plan ∷ plans) above all = (next_takes p first x entries plan above.0 all.0, all_next p first x entries plans above.1 all.1)

all_above : (first : ℕ) (q : Plan) (plans : List Plan) → first ≤ q.index → AllByRecursion (λ (plan : Plan). q.index < plan.index) plans
    → AllByRecursion (λ (plan : Plan). first < plan.index) plans
all_above first q [] le all = tt
all_above first q (plan ∷ plans) le all = ((let lt = all.0 in omega (arith, le, lt)), all_above first q plans le all.1)

at_or_behind : (a b : ℕ) → (a < b) ⊎ (b ≤ a)
at_or_behind a b = go (nat_lt a b) refl
  where
    go : (t : Bool) → nat_lt a b ≡ t → (a < b) ⊎ (b ≤ a)
    go true e = inl ((Decides-ltb a b).0 e)
    go false e = inr (let no : a < b → ⊥ = λ lt. clash (sym e ∙ (Decides-ltb a b).1 lt) in omega (arith, no))

-- different plans take no more than all entries
covered : (p : Settings) (first : ℕ) (entries : List Entry) (plans : List Plan) → Apart plans → AllByRecursion (TakesOf p first entries) plans
    → total (plan_room p) plans ≤ sizes p entries
covered p first entries [] apart all = omega arith
covered p first [] (q ∷ plans) apart all = absurd all.0.1
covered p first (x ∷ entries) (q ∷ plans) apart all =
    go (at_or_behind first q.index) (λ every. covered p (suc first) entries (q ∷ plans) apart every) (λ every. covered p (suc first) entries plans apart.1 every)
  where
    go : (first < q.index) ⊎ (q.index ≤ first)
        → (AllByRecursion (TakesOf p (suc first) entries) (q ∷ plans) → total (plan_room p) (q ∷ plans) ≤ sizes p entries)
        → (AllByRecursion (TakesOf p (suc first) entries) plans → total (plan_room p) plans ≤ sizes p entries)
        → total (plan_room p) (q ∷ plans) ≤ sizes p (x ∷ entries)
    go (inl lt) all_of rest_of =
        let above = all_above first q plans (omega (arith, lt)) apart.0 in
        let le = all_of (all_next p first x entries (q ∷ plans) (lt, above) all) in
        omega (arith, le)
    go (inr le) all_of rest_of =
        let low = all.0.0 in
        let above = all_above first q plans low apart.0 in
        let rest = rest_of (all_next p first x entries plans above all.1) in
        let own = first_takes p first x entries q le all.0 in
        omega (arith, rest, own)

-- and so they do with one more
covered_more : (p : Settings) (first : ℕ) (entries : List Entry) (plans : List Plan) (new : Plan) → Apart plans → AllByRecursion (TakesOf p first entries) plans
    → TakesOf p first entries new → AllByRecursion (λ (q : Plan). q.index ≡ new.index → ⊥) plans → total (plan_room p) plans + plan_room p new ≤ sizes p entries
covered_more p first [] plans new apart all is none = absurd is.1
covered_more p first (x ∷ entries) plans new apart all is none =
    go (at_or_behind first new.index) plans apart all none (λ qs rise every takes others. covered_more p (suc first) entries qs new rise every takes others)
  where
    More : Type 0
    More = (qs : List Plan) → Apart qs → AllByRecursion (TakesOf p (suc first) entries) qs → TakesOf p (suc first) entries new
        → AllByRecursion (λ (q : Plan). q.index ≡ new.index → ⊥) qs → total (plan_room p) qs + plan_room p new ≤ sizes p entries

    go : (first < new.index) ⊎ (new.index ≤ first) → (plans : List Plan) → Apart plans → AllByRecursion (TakesOf p first (x ∷ entries)) plans
        → AllByRecursion (λ (q : Plan). q.index ≡ new.index → ⊥) plans → More → total (plan_room p) plans + plan_room p new ≤ sizes p (x ∷ entries)
    go (inl lt) [] apart all none more =
        let le = more [] tt tt (next_takes p first x entries new lt is) tt in omega (arith, le)
    go (inl lt) (q ∷ plans) apart all none more = by_place (at_or_behind first q.index)
      where
        by_place : (first < q.index) ⊎ (q.index ≤ first) → total (plan_room p) (q ∷ plans) + plan_room p new ≤ sizes p (x ∷ entries)
        by_place (inl less) =
            let above = all_above first q plans (omega (arith, less)) apart.0 in
            let le = more (q ∷ plans) apart (all_next p first x entries (q ∷ plans) (less, above) all)
            (next_takes p first x entries new lt is) none in omega (arith, le)
        by_place (inr at) =
            let low = all.0.0 in
            let above = all_above first q plans low apart.0 in
            let own = first_takes p first x entries q at all.0 in
            let le = more plans apart.1 (all_next p first x entries plans above all.1) (next_takes p first x entries new lt is) none.1 in
            omega (arith, le, own)
    go (inr le) plans apart all none more =
        let low = is.0 in
        let own = first_takes p first x entries new le is in
        let rest = covered p (suc first) entries plans apart (all_next p first x entries plans (each plans all none) all) in
        omega (arith, rest, own)
      where
        each : (qs : List Plan) → AllByRecursion (TakesOf p first (x ∷ entries)) qs → AllByRecursion (λ (q : Plan). q.index ≡ new.index → ⊥) qs
            → AllByRecursion (λ (plan : Plan). first < plan.index) qs
        each [] every not_it = tt
        each (q ∷ qs) every not_it = (
          by_number (at_or_behind first q.index) not_it.0 every.0.0 is.0,
          each qs every.1 not_it.1,
        )
          where
            by_number : (first < q.index) ⊎ (q.index ≤ first) → (q.index ≡ new.index → ⊥) → first ≤ q.index → first ≤ new.index → first < q.index
            by_number (inl lt) other least same = lt
            by_number (inr at) other least same = absurd (other (omega (arith, at, least, same, le)))

-- what stands from an index on, by its place
from_place : (n i : ℕ) (order : List Entry) → n ≤ i → slice_get (drop n order) (i - n) ≡ slice_get order i
from_place zero i order le = ap (slice_get order) (let z : i - 0 ≡ i = omega arith in z)
from_place (suc n) zero order le = absurd (omega arith)
from_place (suc n) (suc i) [] le = refl
from_place (suc n) (suc i) (x ∷ order) le =
    ap (slice_get (drop n order)) (let z : suc i - suc n ≡ i - n = omega arith in z) ∙ from_place n i order (omega arith)

-- a plan of the order from the window's begin on
takes : (p : Settings) (order : List Entry) (n : ℕ) (plan : Plan) (x : Entry) → n ≤ plan.index → slice_get order plan.index ≡ Some x → PlanIs p x.object plan.fti plan.flags
    → TakesOf p n (drop n order) plan
takes p order n plan x le found is =
    let S : Option Entry → Type 0 = λ o. IsSomeAnd o (λ (y : Entry). plan_room p plan ≡ size_of p y.object) in
    (le, subst S (sym (from_place n plan.index order le ∙ found)) (room_is p x.object plan.fti plan.flags is))

-- the plans that are not over take room of the window
plans_take : (p : Settings) (order : List Entry) (n point : ℕ) (plans : List Plan) → n ≤ point → AllByRecursion (IsPlanOf p order) plans
    → AllByRecursion (TakesOf p n (drop n order)) (filter (λ (plan : Plan). not (nat_lt plan.index point)) plans)
plans_take p order n point [] le all = tt
plans_take p order n point (plan ∷ plans) le all = go (nat_lt plan.index point) refl (plans_take p order n point plans le all.1)
  where
    rest : List Plan
    rest = filter (λ (plan : Plan). not (nat_lt plan.index point)) plans

    go : (b : Bool) → nat_lt plan.index point ≡ b → AllByRecursion (TakesOf p n (drop n order)) rest → AllByRecursion (TakesOf p n (drop n order)) (cond (not b) (plan ∷ rest) rest)
    go true e more = more
    go false e more =
        let entry = some_and _ (slice_get order plan.index) all.0 in
        let no : plan.index < point → ⊥ = λ lt. clash (sym e ∙ (Decides-ltb plan.index point).1 lt) in
        (takes p order n plan entry.0 (omega (arith, le, no)) entry.1 (record { fti = entry.2.0; flags = entry.2.1 }), more)

all_fewer : (P : Plan → Type 0) (test : Plan → Bool) (plans : List Plan) → AllByRecursion P plans → AllByRecursion P (filter test plans)
all_fewer P test [] all = tt
all_fewer P test (plan ∷ plans) all = go (test plan) (all_fewer P test plans all.1)
  where
    go : (b : Bool) → AllByRecursion P (filter test plans) → AllByRecursion P (cond b (plan ∷ filter test plans) (filter test plans))
    go true more = (all.0, more)
    go false more = more

fewer_apart : (test : Plan → Bool) (plans : List Plan) → Apart plans → Apart (filter test plans)
fewer_apart test [] h = tt
fewer_apart test (plan ∷ plans) h = go (test plan) (fewer_apart test plans h.1)
  where
    go : (b : Bool) → Apart (filter test plans) → Apart (cond b (plan ∷ filter test plans) (filter test plans))
    go true more = (all_fewer (λ (y : Plan). plan.index < y.index) test plans h.0, more)
    go false more = more

-- an index at which no plan is found is no plan's
not_found : (index : ℕ) (plans : List Plan) → find (λ (plan : Plan). plan.index == index) plans ≡ None → AllByRecursion (λ (q : Plan). q.index ≡ index → ⊥) plans
not_found index [] e = tt
not_found index (plan ∷ plans) e = go (plan.index == index) refl e (not_found index plans)
  where
    some_none : (x : Plan) → Some x ≡ None → ⊥
    some_none x h = cc

    go : (b : Bool) → (plan.index == index) ≡ b → cond b (Some plan) (find (λ (q : Plan). q.index == index) plans) ≡ None
        → (find (λ (q : Plan). q.index == index) plans ≡ None → AllByRecursion (λ (q : Plan). q.index ≡ index → ⊥) plans)
        → AllByRecursion (λ (q : Plan). q.index ≡ index → ⊥) (plan ∷ plans)
    go true is h more = absurd (some_none plan h)
    go false is h more = ((λ same. clash (sym is ∙ (Decides-eqb plan.index index).1 same)), more h)

-- ---- how transmission information fits

-- the plan of an entry that is known
pub record Known (p : Settings) (object : Object) (s : Holding) (index : ℕ) : Type 0 where
  pub plan : Plan
  pub found : plan_of s index ≡ Some plan
  pub is : PlanIs p object plan.fti plan.flags

-- the word by the three tests
abbrev word_of : Bool → Bool → Bool → Fit
word_of a b c = elim (first_where ((a, fit.Known) ∷ (b, fit.Away) ∷ (c, fit.Unfit) ∷ [])) [ Some word ↦ word | None ↦ fit.Taken ]

word_known : (a b c : Bool) → a ≡ true → word_of a b c ≡ fit.Known
unfolding first_where
word_known true b c e = refl
word_known false b c e = absurd (clash e)

word_taken : (a b c : Bool) → a ≡ false → b ≡ false → c ≡ false → word_of a b c ≡ fit.Taken
unfolding first_where
word_taken true b c e f g = absurd (clash (sym e))
word_taken false true c e f g = absurd (clash (sym f))
word_taken false false true e f g = absurd (clash (sym g))
word_taken false false false e f g = refl

or_right : (a b : Bool) → b ≡ true → (a || b) ≡ true
or_right true b e = refl
or_right false b e = e

same_bit : (a b : Bool) → a ≡ b → beq a b ≡ true
same_bit true true e = refl
same_bit true false e = absurd (clash (sym e))
same_bit false true e = absurd (clash e)
same_bit false false e = refl

-- the plan of an object is the same as its transmission information
same_as : (p : Settings) (object : Object) (flags : ℕ) (plan : Plan) → 4 * (flags / 4) ≡ object_flags object → PlanIs p object plan.fti plan.flags
    → same_plan (fti_of_object p object) flags plan ≡ true
same_as p object flags plan says is =
    ap by_fti is.fti
    ∙ both (f.e == f.e && f.b == f.b && f.max_n == f.max_n && beq (says_stream flags) (says_stream plan.flags)) (says_stream flags || f.l == f.l)
    (both (f.e == f.e && f.b == f.b && f.max_n == f.max_n) (beq (says_stream flags) (says_stream plan.flags))
    (both (f.e == f.e && f.b == f.b) (f.max_n == f.max_n) (both (f.e == f.e) (f.b == f.b) (same_self f.e) (same_self f.b)) (same_self f.max_n))
    (same_bit (says_stream flags) (says_stream plan.flags) (says_its object flags says ∙ sym (says_its object plan.flags is.flags))))
    (or_right (says_stream flags) (f.l == f.l) (same_self f.l))
  where
    f : Fti
    f = fti_of_object p object

    by_fti : Fti → Bool
    by_fti g =
        f.e == g.e && f.b == g.b && f.max_n == g.max_n && beq (says_stream flags) (says_stream plan.flags)
        && (says_stream flags || f.l == g.l)

-- a plan that is taken up is found
new_there : (new : Plan) (plans : List Plan) → AllByRecursion (λ (q : Plan). q.index ≡ new.index → ⊥) plans
    → find (λ (q : Plan). q.index == new.index) (with_member plan_before new plans) ≡ Some new
unfolding with_member
new_there new [] none = ap (λ (b : Bool). cond b (Some new) None) (same_self new.index)
new_there new (q ∷ plans) none = go (plan_before new q) (plan_before q new) refl refl (new_there new plans none.1)
  where
    found : List Plan → Option Plan
    found qs = find (λ (q : Plan). q.index == new.index) qs

    differs : (q.index == new.index) ≡ false
    differs = by (q.index == new.index) refl
      where
        by : (b : Bool) → (q.index == new.index) ≡ b → (q.index == new.index) ≡ false
        by true e = absurd (none.0 ((Decides-eqb q.index new.index).0 e))
        by false e = e

    go : (b c : Bool) → plan_before new q ≡ b → plan_before q new ≡ c → found (with_member plan_before new plans) ≡ Some new
        → found (elim b as (λ _. List Plan) [
          | true ↦ new ∷ q ∷ plans
          | false ↦ elim c [ true ↦ q ∷ with_member plan_before new plans | false ↦ q ∷ plans ]
        ]) ≡ Some new
    go true c e f more = ap (λ (b : Bool). cond b (Some new) (found (q ∷ plans))) (same_self new.index)
    go false true e f more = ap (λ (b : Bool). cond b (Some q) (found (with_member plan_before new plans))) differs ∙ more
    go false false e f more =
        let a : new.index < q.index → ⊥ = λ lt. clash (sym e ∙ (Decides-ltb new.index q.index).1 lt) in
        let b : q.index < new.index → ⊥ = λ lt. clash (sym f ∙ (Decides-ltb q.index new.index).1 lt) in
        absurd (none.0 (omega (arith, a, b)))

-- What becomes of transmission information of the window: it lets the message be put, and the object is over, or its plan is known then.
pub record FitsIn (p : Settings) (object : Object) (index : ℕ) (flags : ℕ) (h : Holding) : Type 0 where
  pub lets : lets_put (fit_of p h index (fti_of_object p object) flags) ≡ true
  pub known : (is_over h index ≡ true) ⊎ Known p object (fitted (fit_of p h index (fti_of_object p object) flags) index (fti_of_object p object) flags h) index

pub fits_in : (p : Settings) → InRange p → (order : List Entry) (d : Point) (h : Holding) (x : Entry) (index flags : ℕ) → Fits p order d → Ready p order d h
    → slice_get order index ≡ Some x → IsSized p x.object → 4 * (flags / 4) ≡ object_flags x.object → FitsIn p x.object index flags h
fits_in p range order d h x index flags fits ready found sized says = go (is_over h index) refl (plan_of h index) refl
  where
    f : Fti
    f = fti_of_object p x.object

    K : Fit → Type 0
    K word = (lets_put word ≡ true) × ((is_over h index ≡ true) ⊎ Known p x.object (fitted word index f flags h) index)

    in_word : (word : Fit) → fit_of p h index f flags ≡ word → K word → FitsIn p x.object index flags h
    in_word word e k = let both = subst K (sym e) k in record { lets = both.0; known = both.1 }

    new_is : PlanIs p x.object f flags
    new_is = record { fti = refl; flags = says }

    -- a new plan of the window is not away
    not_away : is_over h index ≡ false → plan_of h index ≡ None → is_away p h index f flags ≡ false
    not_away over none =
        let n : ℕ = d.index in
        let low : n ≤ h.point.index = ready_index p order d h ready in
        let no : index < h.point.index → ⊥ = λ lt. clash (sym over ∙ (Decides-ltb index h.point.index).1 lt) in
        let within : index < length order = slice_get_within order index x found in
        let few = fits.few in
        let test : Plan → Bool = λ plan. not (nat_lt plan.index h.point.index) in
        let room = covered_more p n (drop n order) (filter test h.plans) (new_plan index f flags) (fewer_apart test h.plans ready.apart)
        (plans_take p order n h.point.index h.plans low ready.plans) (takes p order n (new_plan index f flags) x (omega (arith, low, no)) found new_is)
        (all_fewer (λ (q : Plan). q.index ≡ index → ⊥) test h.plans (not_found index h.plans none)) in
        let is_total = sum_is_total (plan_room p) (filter test h.plans) in
        let all = fits.room in
        let taken : room_taken p h + room_of p f flags ≤ p.octets = omega (arith, room, is_total, all) in
        neither (nat_le (h.point.index + most_ahead) index) (is_none (plan_of h index) && nat_lt p.octets (room_taken p h + room_of p f flags))
        (not_le (h.point.index + most_ahead) index (omega (arith, low, within, few, range.window.1)))
        (ap (λ (b : Bool). is_none (plan_of h index) && b) (not_lt p.octets (room_taken p h + room_of p f flags) taken) ∙ none_both (is_none (plan_of h index)))
      where
        none_both : (a : Bool) → (a && false) ≡ false
        none_both true = refl
        none_both false = refl

    not_unfit : plan_of h index ≡ None → is_unfit p h index f flags ≡ false
    not_unfit none =
        neither (is_some (first_fault (cut_by f flags)) || is_some (plan_of h index)) (not (f.e == p.e && f.b == p.b && f.max_n == p.max_n))
        (neither (is_some (first_fault (cut_by f flags))) (is_some (plan_of h index))
        (ap (λ (c : Cut). is_some (first_fault c)) (its_cut p x.object f flags new_is) ∙ no_fault p range x.object sized)
        (ap (λ (o : Option Plan). is_some o) none))
        (ap not (both (p.e == p.e && p.b == p.b) (p.max_n == p.max_n) (both (p.e == p.e) (p.b == p.b) (same_self p.e) (same_self p.b)) (same_self p.max_n)))

    not_known : is_over h index ≡ false → plan_of h index ≡ None → (is_over h index || is_known_plan h index f flags) ≡ false
    not_known over none =
        neither (is_over h index) (is_known_plan h index f flags) over
        (ap (λ (o : Option Plan). elim o as (λ _. Bool) [ Some plan ↦ same_plan f flags plan | None ↦ false ]) none)

    go : (over : Bool) → is_over h index ≡ over → (o : Option Plan) → plan_of h index ≡ o → FitsIn p x.object index flags h
    go true e o is =
        in_word fit.Known
        (word_known (is_over h index || is_known_plan h index f flags) (is_away p h index f flags) (is_unfit p h index f flags)
        (ap (λ (b : Bool). b || is_known_plan h index f flags) e))
        (refl, inl e)
    go false e (Some plan) is =
        let of = found_plan (IsPlanOf p order) h.plans index plan ready.plans is in
        let its = plan_is p order x plan of.0 (ap (slice_get order) of.1 ∙ found) in
        let same : is_known_plan h index f flags ≡ true =
        ap (λ (o : Option Plan). elim o as (λ _. Bool) [ Some plan ↦ same_plan f flags plan | None ↦ false ]) is ∙ same_as p x.object flags plan says its in
        in_word fit.Known
        (word_known (is_over h index || is_known_plan h index f flags) (is_away p h index f flags) (is_unfit p h index f flags)
        (or_right (is_over h index) (is_known_plan h index f flags) same))
        (refl, inr (record { plan = plan; found = is; is = its }))
    go false e None is =
        in_word fit.Taken
        (word_taken (is_over h index || is_known_plan h index f flags) (is_away p h index f flags) (is_unfit p h index f flags)
        (not_known e is) (not_away e is) (not_unfit is))
        (refl, inr (record { plan = new_plan index f flags; found = new_there (new_plan index f flags) h.plans (not_found index h.plans is); is = new_is }))
