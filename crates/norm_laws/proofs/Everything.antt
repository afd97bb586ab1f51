-- A receiver that has all source symbols and infos of an order, lost nothing and handed up as far as it can, handed up everything.
use Rattle.std.proofs.Common.{◌≡◌, ℕ, zero, suc, ◌+◌, ◌-◌, ◌*◌, ◌<◌, ◌≤◌, List, [], ◌∷◌, ◌++◌, length, take, drop, get_or, true, Option, None, Some, refl, sym, ap, ◌∙◌, subst, append_assoc, arith, ◌⊎◌, inl, inr}
use Rattle.std.specs.Prelude.{slice_get, nat_lt, min}
use Rattle.std.specs.Int.{div_ceil}
use Rattle.std.specs.List.{AllByRecursion}
use Rattle.std.proofs.lemmas.Bool.{cases_lt}
use Rattle.std.proofs.lemmas.Bool.Decides.{Decides-ltb}
use Rattle.std.proofs.lemmas.Grind.{div_ceil_times}
use Rattle.std.proofs.lemmas.List.{append-nil, take_all, take-append-drop, length-take, length-drop}
use Rattle.norm_base.specs.Settings.{Settings, InRange}
use Rattle.fec_plan.specs.Partition.{symbols_in}
use Rattle.fec_plan.specs.Points.{Point, position}
use Rattle.fec_plan.specs.declared.position.Position.{Position}
use Rattle.norm_order.specs.Entries.{Part, Object, Whole, Stream, Entry}
use Rattle.norm_order.specs.Segments.{closed_from}
use Rattle.norm_order.specs.Shapes.{shape_of, closed_in}
use Rattle.norm_order.specs.Upto.{parts_of, all_parts}
use Rattle.norm_order.specs.declared.up.Up.{Up}
use Rattle.norm_receive_rules.specs.HandingUp.{hands_one}
use Rattle.norm_receive_rules.specs.Holding.{Holding}
use Rattle.norm_safety.proofs.ClosedLemmas.{ended_empty}
use Rattle.norm_safety.proofs.EndedLemmas.{OnlyLast}
use Rattle.norm_safety.proofs.GoesOn.{IsFinished}
use Rattle.norm_safety.proofs.Holding.{IsPlanOf, HoldsOf}
use Rattle.norm_safety.proofs.Passed.{AreFinished, StandsIn, StandsAt, begun, length-parts}
use Rattle.norm_safety.proofs.SizedOrders.{IsSized, AreSized}
use Rattle.norm_safety.proofs.Spoken.{sized_at}
use Rattle.norm_safety.proofs.Through.{Handed}
use Rattle.norm_laws.specs.HandedUp.{closed_parts, everything_from, everything}
use Rattle.norm_laws.proofs.HeldWhole.{object_goes, stream_goes}
use Rattle.norm_laws.proofs.HeldWords.{HasSymbol, HasInfo}

-- ---- the object at the hand-up point

-- each closed source symbol of an object is had, and its info
pub record EntryHad (p : Settings) (h : Holding) (index : ℕ) (object : Object) : Type 0 where
  pub symbols : (block symbol : ℕ) → nat_lt symbol (closed_in (shape_of p object) block) ≡ true → HasSymbol h (position index block symbol)
  pub info : (shape_of p object).info ≡ true → HasInfo h index

-- a segment that is closed is a closed source symbol
closed_segment : (p : Settings) (parts : List Part) (block symbol : ℕ) → symbol < p.b → block * p.b + symbol < length (closed_from p.e [] parts)
    → nat_lt symbol (closed_in (shape_of p (Stream parts)) block) ≡ true
closed_segment p parts block symbol lt less =
    let some : symbol < min p.b (length (closed_from p.e [] parts) - (block * p.b + 0)) = omega (arith, lt, less) in
    (Decides-ltb symbol (closed_in (shape_of p (Stream parts)) block)).1 some

-- a stream of which all closed segments are had stands at its end
pub at_end : (p : Settings) → InRange p → (order : List Entry) (h : Holding) (x : Entry) (parts : List Part) → AllByRecursion (IsPlanOf p order) h.plans
    → slice_get order h.point.index ≡ Some x → x.object ≡ Stream parts → StandsIn p (Stream parts) h.point.block h.point.symbol
    → EntryHad p h h.point.index (Stream parts) → hands_one p h ≡ None → h.point.block * p.b + h.point.symbol ≡ length (closed_from p.e [] parts)
at_end p range order h x parts plans found is stands had stuck = go (cases_lt (h.point.block * p.b + h.point.symbol) (length (closed_from p.e [] parts)))
  where
    le : h.point.block * p.b + h.point.symbol ≤ length (closed_from p.e [] parts)
    le = stands.1

    go : (h.point.block * p.b + h.point.symbol < length (closed_from p.e [] parts)) ⊎ (length (closed_from p.e [] parts) ≤ h.point.block * p.b + h.point.symbol)
        → h.point.block * p.b + h.point.symbol ≡ length (closed_from p.e [] parts)
    go (inl lt) =
        absurd (stream_goes p order h x parts plans found is
        (had.symbols h.point.block h.point.symbol (closed_segment p parts h.point.block h.point.symbol stands.0 lt)) stuck)
    go (inr ge) = (let less = le in omega (arith, less, ge))

no_octets : (xs : List ℕ) → xs ≡ [] → 0 < length xs → ⊥
no_octets [] e lt = omega (arith, lt)
no_octets (x ∷ xs) e lt = some x xs e
  where
    some : (x : ℕ) (xs : List ℕ) → (x ∷ xs) ≡ [] → ⊥
    some x xs e = cc

-- the hand-up point lies within no finished object of which all is had
pub not_finished : (p : Settings) → InRange p → (order : List Entry) (h : Holding) (x : Entry) → AllByRecursion (IsPlanOf p order) h.plans
    → slice_get order h.point.index ≡ Some x → IsSized p x.object → StandsIn p x.object h.point.block h.point.symbol
    → EntryHad p h h.point.index x.object → hands_one p h ≡ None → IsFinished x.object → ⊥
not_finished p range order h x plans found sized stands had stuck done = go x.object refl stands had done
  where
    go : (object : Object) → x.object ≡ object → StandsIn p object h.point.block h.point.symbol → EntryHad p h h.point.index object → IsFinished object → ⊥
    go (Whole kind info octets) is stands had done =
        let E : Object → Type 0 = λ o. EntryHad p h h.point.index o in
        let own = subst E (sym is) had in
        object_goes p range order h x kind info octets plans found is sized stands.0 stands.1 own.symbols own.info stuck
    go (Stream parts) is stands had done =
        let end = at_end p range order h x parts plans found is stands had stuck in
        let empty = ended_empty p.e [] parts done in
        let lt : empty.last < h.point.block * p.b + h.point.symbol = (let long = empty.long in omega (arith, end, long)) in
        no_octets (get_or (closed_from p.e [] parts) empty.last []) empty.empty (stands.2 empty.last lt)

-- ---- everything of an order

-- more entries
everything_more : (p : Settings) (n : ℕ) (xs ys : List Entry) → everything_from p n (xs ++ ys) ≡ everything_from p n xs ++ everything_from p (n + length xs) ys
unfolding everything_from
everything_more p n [] ys = ap (λ (m : ℕ). everything_from p m ys) (let z : n ≡ n + 0 = omega arith in z)
everything_more p n (x ∷ xs) ys =
    ap (λ (us : List Up). closed_parts p n x.object ++ us) (everything_more p (n + 1) xs ys)
    ∙ sym (append_assoc (closed_parts p n x.object) (everything_from p (n + 1) xs) (everything_from p (n + 1 + length xs) ys))
    ∙ ap (λ (m : ℕ). (closed_parts p n x.object ++ everything_from p (n + 1) xs) ++ everything_from p m ys) (let z : n + 1 + length xs ≡ n + suc (length xs) = omega arith in z)

-- the parts of an object of which so many source symbols are closed
abbrev parts_by : ℕ → List Up → List Up
parts_by closed parts = elim closed [ zero ↦ [] | suc n ↦ parts ]

some_closed : (closed : ℕ) (parts : List Up) → 0 < closed → parts_by closed parts ≡ parts
some_closed zero parts lt = absurd (omega (arith, lt))
some_closed (suc n) parts lt = refl

-- a finished object has a closed source symbol
pub finished_closed : (p : Settings) → InRange p → (object : Object) → IsSized p object → IsFinished object → 0 < (shape_of p object).closed
finished_closed p range (Whole kind info octets) sized done = go (cases_lt 0 (symbols_in (length octets) p.e))
  where
    go : (0 < symbols_in (length octets) p.e) ⊎ (symbols_in (length octets) p.e ≤ 0) → 0 < symbols_in (length octets) p.e
    go (inl lt) = lt
    go (inr none) =
        let e_pos : 0 < p.e = (let least = range.e.0 in omega (arith, least)) in
        let up : length octets ≤ div_ceil (length octets) p.e * p.e = (div_ceil_times (length octets) p.e e_pos).0 in
        let zero_is : div_ceil (length octets) p.e * p.e ≡ 0 * p.e = ap (λ m. m * p.e) (let z : div_ceil (length octets) p.e ≡ 0 = omega (arith, none) in z) in
        let some = sized.0 in
        absurd (omega (arith, up, zero_is, some))
finished_closed p range (Stream parts) sized done = (let long = (ended_empty p.e [] parts done).long in omega (arith, long))

-- of finished objects everything is all their parts
all_closed : (p : Settings) → InRange p → (n : ℕ) (entries : List Entry) → AreSized p entries → AreFinished entries → everything_from p n entries ≡ all_parts p n entries
unfolding everything_from all_parts
all_closed p range n [] sized done = refl
all_closed p range n (x ∷ entries) sized done =
    ap (λ (us : List Up). us ++ everything_from p (n + 1) entries)
    (some_closed (shape_of p x.object).closed (parts_of p n x.object) (finished_closed p range x.object sized.0 done.0))
    ∙ ap (λ (us : List Up). parts_of p n x.object ++ us) (all_closed p range (n + 1) entries sized.1 done.1)

sized_take : (p : Settings) (n : ℕ) (order : List Entry) → AreSized p order → AreSized p (take n order)
sized_take p zero order all = tt
sized_take p (suc n) [] all = tt
sized_take p (suc n) (x ∷ order) all = (all.0, sized_take p n order all.1)

none_behind : (order : List Entry) (n : ℕ) → slice_get order n ≡ None → drop n order ≡ []
none_behind [] zero e = refl
none_behind [] (suc n) e = refl
none_behind (x ∷ order) zero e = absurd (some x e)
  where
    some : (y : Entry) → Some y ≡ None → ⊥
    some y e = cc
none_behind (x ∷ order) (suc n) e = none_behind order n e

entry_next : (order : List Entry) (n : ℕ) (x : Entry) → slice_get order n ≡ Some x → drop n order ≡ x ∷ drop (suc n) order
entry_next [] n x e = absurd (none x e)
  where
    none : (y : Entry) → None ≡ Some y → ⊥
    none y e = cc
entry_next (y ∷ order) zero x e = ap (λ (z : Entry). z ∷ order) (same y x e)
  where
    same : (a b : Entry) → Some a ≡ Some b → a ≡ b
    same a b e = cc
entry_next (y ∷ order) (suc n) x e = entry_next order n x e

-- what was begun of nothing
begun_none : (p : Settings) (index n : ℕ) → begun p index n None ≡ []
begun_none p index zero = refl
begun_none p index (suc n) = refl

-- what was begun of a stream that stands at its end
begun_all : (p : Settings) (index n : ℕ) (x : Entry) (parts : List Part) → x.object ≡ Stream parts → n ≡ length (closed_from p.e [] parts)
    → begun p index n (Some x) ≡ closed_parts p index x.object
begun_all p index zero x parts is end =
    let long : (shape_of p x.object).closed ≡ 0 = ap (λ (o : Object). (shape_of p o).closed) is ∙ sym end in
    sym (ap (λ (m : ℕ). parts_by m (parts_of p index x.object)) long)
begun_all p index (suc n) x parts is end =
    let closed : 0 < (shape_of p x.object).closed =
    (let long : (shape_of p x.object).closed ≡ suc n = ap (λ (o : Object). (shape_of p o).closed) is ∙ sym end in omega (arith, long)) in
    let many : length (parts_of p index x.object) ≡ suc (length (closed_from p.e [] parts)) =
    ap (λ (o : Object). length (parts_of p index o)) is ∙ length-parts p index parts in
    take_all (suc (suc n)) (parts_of p index x.object) (omega (arith, many, end))
    ∙ sym (some_closed (shape_of p x.object).closed (parts_of p index x.object) closed)

-- all closed source symbols and infos of an order are had
abbrev pub AllHad : Settings → List Entry → Holding → Type 0
AllHad p order h = (index : ℕ) (x : Entry) → slice_get order index ≡ Some x → EntryHad p h index x.object

pub everything_handed : (p : Settings) → InRange p → (order : List Entry) (d : Point) (taken : List Up) (due : Option Position) (h : Holding) → AreSized p order
    → OnlyLast order → HoldsOf p order d taken due h → h.lost ≡ [] → AllHad p order h → hands_one p h ≡ None → taken ++ h.ups ≡ everything p order
unfolding everything_from
everything_handed p range order d taken due h sized last holds none had stuck =
    gone.all ∙ ap (λ (us : List Up). us ++ begun p i n (slice_get order i)) (clean.1 ∙ sym (all_closed p range 0 (take i order) (sized_take p i order sized) clean.0))
    ∙ ap (λ (us : List Up). everything_from p 0 (take i order) ++ us) (at_point (slice_get order i) refl)
    ∙ sym (everything_more p 0 (take i order) (drop i order))
    ∙ ap (everything_from p 0) (take-append-drop i order)
  where
    gone : Handed p order d h.lost (taken ++ h.ups) h.point
    gone = holds.gone

    i : ℕ
    i = h.point.index

    n : ℕ
    n = h.point.block * p.b + h.point.symbol

    clean : AreFinished (take i order) × (gone.before ≡ all_parts p 0 (take i order))
    clean = gone.clean none

    long : 0 + length (take i order) ≡ i
    long = (let within = gone.within in let few = length-take i order in omega (arith, within, few))

    stands : (x : Entry) → slice_get order i ≡ Some x → StandsIn p x.object h.point.block h.point.symbol
    stands x found = let S : Option Entry → Type 0 = λ o. StandsAt p o h.point.block h.point.symbol in subst S found gone.stands

    open_end : (x : Entry) → slice_get order i ≡ Some x → IsFinished x.object → ⊥
    open_end x found done =
        not_finished p range order h x holds.plans found (sized_at p order i x sized found) (stands x found) (had i x found) stuck done

    by_object : (x : Entry) → slice_get order i ≡ Some x → (o : Object) → x.object ≡ o → begun p i n (Some x) ≡ closed_parts p i x.object
    by_object x found (Whole kind info octets) is = absurd (open_end x found (let F : Object → Type 0 = λ o. IsFinished o in subst F (sym is) tt))
    by_object x found (Stream parts) is =
        let S : Object → Type 0 = λ o. StandsIn p o h.point.block h.point.symbol in
        let E : Object → Type 0 = λ o. EntryHad p h i o in
        begun_all p i n x parts is (at_end p range order h x parts holds.plans found is (subst S is (stands x found)) (subst E is (had i x found)) stuck)

    alone : (x : Entry) → slice_get order i ≡ Some x → drop (suc i) order ≡ []
    alone x found = go (cases_lt (suc i) (length order))
      where
        nothing : (xs : List Entry) → length xs ≡ 0 → xs ≡ []
        nothing [] e = refl
        nothing (y ∷ xs) e = absurd (omega (arith, e))

        go : (suc i < length order) ⊎ (length order ≤ suc i) → drop (suc i) order ≡ []
        go (inl lt) = absurd (open_end x found (last i x found lt))
        go (inr ge) = nothing (drop (suc i) order) (let few = length-drop (suc i) order in omega (arith, few, ge))

    at_point : (found : Option Entry) → slice_get order i ≡ found → begun p i n found ≡ everything_from p (0 + length (take i order)) (drop i order)
    at_point None e =
        begun_none p i n ∙ ap (everything_from p (0 + length (take i order))) (sym (none_behind order i e))
    at_point (Some x) e =
        by_object x e x.object refl ∙ sym (append-nil (closed_parts p i x.object))
        ∙ ap (λ (m : ℕ). closed_parts p m x.object ++ []) (sym long)
        ∙ ap (everything_from p (0 + length (take i order))) (sym (entry_next order i x e ∙ ap (λ (xs : List Entry). x ∷ xs) (alone x e)))
