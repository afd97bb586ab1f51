-- Everything up to the last closed source symbol of an order is all that is handed up of it, but for a stream that only begins.
use Rattle.std.proofs.Common.{◌≡◌, ℕ, zero, suc, ◌+◌, ◌<◌, List, [], ◌∷◌, ◌++◌, length, take, Bool, true, false, Option, None, Some, refl, sym, ap, ◌∙◌, subst, arith, ◌⊎◌, inl, inr}
use Rattle.std.specs.Prelude.{map, slice_get, ◌==◌}
use Rattle.std.proofs.lemmas.Bool.Decides.{Decides-eqb}
use Rattle.std.proofs.lemmas.List.{append-nil, length-append, take_all}
use Rattle.std.proofs.Math.Seq.{take-append_seam}
use Rattle.norm_base.specs.Settings.{Settings, InRange}
use Rattle.fec_plan.specs.Points.{reaches}
use Rattle.fec_plan.specs.declared.position.Position.{Position}
use Rattle.fec_plan.proofs.PositionLemmas.{reached}
use Rattle.norm_order.specs.declared.up.Up.{Up}
use Rattle.norm_order.specs.declared.up.Up.TheVariants as up
use Rattle.norm_order.specs.Entries.{Part, Object, Whole, Stream, Entry}
use Rattle.norm_order.specs.Segments.{closed_from, placed}
use Rattle.norm_order.specs.Shapes.{Shape, shape_of, shapes_of, last_in, last_from, last_source}
use Rattle.norm_order.specs.Upto.{segment_up, parts_of, all_parts, ends_at, parts_through, upto}
use Rattle.norm_order.proofs.GoingOnLemmas.{last_there}
use Rattle.norm_order.proofs.UptoLemmas.{there, found_front, kept_within}
use Rattle.norm_safety.specs.LastUpto.{IsAllOf, LastUpto}
use Rattle.norm_safety.specs.Laws.{OfLawfulRuns}
use Rattle.norm_safety.proofs.EndedLemmas.{OnlyLast}
use Rattle.norm_safety.proofs.EntryLemmas.{ends}
use Rattle.norm_safety.proofs.GoesOn.{IsFinished}
use Rattle.norm_safety.proofs.OrderRun.{run_of}
use Rattle.norm_safety.proofs.Passed.{length-parts}
use Rattle.norm_safety.proofs.Released.{last_position, some_closed, last_of_end, shapes_end, shapes_many, last_number}
use Rattle.norm_safety.proofs.SenderHolds.{current_sized}
use Rattle.norm_safety.proofs.SizedOrders.{IsSized, AreSized}
use Rattle.norm_safety.proofs.Spoken.{sized_at}
use Rattle.norm_safety.proofs.Stood.{all_parts_end}

-- ---- the last entry, of which something is closed

closed_last : (index : ℕ) (s : Shape) → 0 < s.closed → last_in index s ≡ Some (last_position index s)
closed_last index s some = go (s.closed == 0) refl
  where
    go : (b : Bool) → (s.closed == 0) ≡ b → (elim b [ true ↦ None | false ↦ Some (last_position index s) ]) ≡ Some (last_position index s)
    go true e = let none = (Decides-eqb s.closed 0).0 e in absurd (omega (arith, some, none))
    go false e = refl

order_last : (p : Settings) (front : List Entry) (x : Entry) → 0 < (shape_of p x.object).closed
    → last_source (shapes_of p (front ++ x ∷ [])) ≡ Some (last_position (length front) (shape_of p x.object))
order_last p front x some =
    let many = shapes_many p front in
    ap (λ (ss : List Shape). last_from 0 None ss) (shapes_end p front x)
    ∙ last_of_end None 0 (length front) (shapes_of p front) (shape_of p x.object) (last_position (length front) (shape_of p x.object)) (omega arith)
    (closed_last (length front) (shape_of p x.object) some)

-- all parts of it stand up to its last closed symbol
all_of_last : (p : Settings) → InRange p → (index : ℕ) (o : Object) → 0 < (shape_of p o).closed
    → parts_through p (last_position index (shape_of p o)) o ≡ parts_of p index o
all_of_last p range index (Stream parts) some =
    let closed : ℕ = length (closed_from p.e [] parts) in
    let number = last_number p.b closed (omega (arith, range.b.0)) some in
    let long = length-parts p index parts in
    take_all _ (parts_of p index (Stream parts)) (omega (arith, number, long, some))
all_of_last p range index (Whole kind info octets) some =
    let at : Position = last_position index (shape_of p (Whole kind info octets)) in
    let ends : ends_at p (Whole kind info octets) at ≡ true =
    ap (λ (o : Option Position). elim o [ Some l ↦ reaches at l | None ↦ false ]) (closed_last index (shape_of p (Whole kind info octets)) some)
    ∙ reached at at (inr (refl, inr (refl, omega arith))) in
    ap (λ (b : Bool). elim b [ true ↦ parts_of p index (Whole kind info octets) | false ↦ [] ]) ends

upto_end : (p : Settings) → InRange p → (front : List Entry) (x : Entry) → 0 < (shape_of p x.object).closed
    → upto p (front ++ x ∷ []) (last_position (length front) (shape_of p x.object)) ≡ all_parts p 0 (front ++ x ∷ [])
upto_end p range front x some =
    let at : Position = last_position (length front) (shape_of p x.object) in
    ap (λ (o : Option Entry). all_parts p 0 (take (length front) (front ++ x ∷ [])) ++ there p at o) (last_there front x)
    ∙ ap (λ (es : List Entry). all_parts p 0 es ++ parts_through p at x.object) (take-append_seam front (x ∷ []))
    ∙ ap (λ (us : List Up). all_parts p 0 front ++ us) (all_of_last p range (length front) x.object some)
    ∙ sym (all_parts_end p 0 (length front) front x (omega arith))

same_position : (a b : Position) → Some a ≡ Some b → a ≡ b
same_position a b e = cc

none_position : (a : Position) → None ≡ Some a → ⊥
none_position a e = cc

closed_end : (p : Settings) → InRange p → (front : List Entry) (x : Entry) (at : Position) → 0 < (shape_of p x.object).closed
    → last_source (shapes_of p (front ++ x ∷ [])) ≡ Some at → IsAllOf p (front ++ x ∷ []) at
closed_end p range front x at some e =
    let last : Position = last_position (length front) (shape_of p x.object) in
    let is : at ≡ last = same_position at last (sym e ∙ order_last p front x some) in
    record {
      rest = [];
      beginning = inl refl;
      whole = append-nil (upto p (front ++ x ∷ []) at) ∙ ap (λ (a : Position). upto p (front ++ x ∷ []) a) is ∙ upto_end p range front x some;
    }

-- ---- the last entry, of which nothing is closed

none_of_end : (found : Option Position) (first : ℕ) (shapes : List Shape) (s : Shape) → s.closed ≡ 0
    → last_from first found (shapes ++ s ∷ []) ≡ last_from first found shapes
unfolding last_from
none_of_end found first [] s none =
    ap (λ (b : Bool). by (elim b [ true ↦ None | false ↦ Some (last_position first s) ])) ((Decides-eqb s.closed 0).1 none)
  where
    by : Option Position → Option Position
    by own = elim own [ Some at ↦ Some at | None ↦ found ]
none_of_end found first (x ∷ shapes) s none = none_of_end (by (last_in first x)) (first + 1) shapes s none
  where
    by : Option Position → Option Position
    by own = elim own [ Some at ↦ Some at | None ↦ found ]

nothing_closed : (p : Settings) (n : ℕ) (parts : List Part) → length (closed_from p.e [] parts) ≡ 0
    → parts_of p n (Stream parts) ≡ up.StreamOpen n ∷ []
unfolding placed
nothing_closed p n parts none = go (closed_from p.e [] parts) none
  where
    go : (segments : List (List ℕ)) → length segments ≡ 0 → up.StreamOpen n ∷ map (segment_up n) (placed 0 segments) ≡ up.StreamOpen n ∷ []
    go [] e = refl
    go (x ∷ segments) e = absurd (omega arith)

nothing_last : (p : Settings) → last_source (shapes_of p []) ≡ None
unfolding last_from
nothing_last p = refl

some_of : (n : ℕ) → (n ≡ 0 → ⊥) → 0 < n
some_of zero not = absurd (not refl)
some_of (suc n) not = omega arith

-- what the last entry's beginning follows is all of the others
begun_end : (p : Settings) → InRange p → (front : List Entry) (x : Entry) (parts : List Part) (at : Position) → AreSized p (front ++ x ∷ [])
    → OnlyLast (front ++ x ∷ []) → x.object ≡ Stream parts → length (closed_from p.e [] parts) ≡ 0
    → last_source (shapes_of p (front ++ x ∷ [])) ≡ Some at → IsAllOf p (front ++ x ∷ []) at
begun_end p range front x parts at sized only is none e = go (ends front)
  where
    before : last_source (shapes_of p front) ≡ Some at
    before =
        sym (none_of_end None 0 (shapes_of p front) (shape_of p x.object) (ap (λ (o : Object). (shape_of p o).closed) is ∙ none))
        ∙ ap (λ (ss : List Shape). last_from 0 None ss) (sym (shapes_end p front x)) ∙ e

    behind : all_parts p 0 (front ++ x ∷ []) ≡ all_parts p 0 front ++ up.StreamOpen (length front) ∷ []
    behind =
        all_parts_end p 0 (length front) front x (omega arith)
        ∙ ap (λ (o : Object). all_parts p 0 front ++ parts_of p (length front) o) is
        ∙ ap (λ (ups : List Up). all_parts p 0 front ++ ups) (nothing_closed p (length front) parts none)

    whole : (others : List Entry) (y : Entry) → front ≡ others ++ y ∷ [] → upto p (front ++ x ∷ []) at ≡ all_parts p 0 front
    whole others y same =
        let found : slice_get front (length others) ≡ Some y = ap (λ (es : List Entry). slice_get es (length others)) same ∙ last_there others y in
        let long = ap (λ (es : List Entry). length es) same ∙ length-append others (y ∷ []) in
        let all = length-append front (x ∷ []) in
        let inside = found_front front (x ∷ []) (length others) y found in
        let done : IsFinished y.object = only (length others) y inside (omega (arith, long, all)) in
        let some = some_of (shape_of p y.object).closed (some_closed p range y.object (sized_at p (front ++ x ∷ []) (length others) y sized inside) done) in
        let last : Position = last_position (length others) (shape_of p y.object) in
        let here : at ≡ last = same_position at last (sym before ∙ ap (λ (es : List Entry). last_source (shapes_of p es)) same ∙ order_last p others y some) in
        ap (λ (a : Position). upto p (front ++ x ∷ []) a) here
        ∙ kept_within p front (x ∷ []) last y found
        ∙ ap (λ (es : List Entry). upto p es last) same
        ∙ upto_end p range others y some
        ∙ ap (all_parts p 0) (sym same)

    go : (front ≡ []) ⊎ ((others : List Entry) × (y : Entry) × (front ≡ others ++ y ∷ [])) → IsAllOf p (front ++ x ∷ []) at
    go (inl nothing) =
        absurd (none_position at (sym (nothing_last p) ∙ ap (λ (es : List Entry). last_source (shapes_of p es)) (sym nothing) ∙ before))
    go (inr (others, y, same)) = record {
      rest = up.StreamOpen (length front) ∷ [];
      beginning = inr (length front, refl);
      whole = ap (λ (ups : List Up). ups ++ up.StreamOpen (length front) ∷ []) (whole others y same) ∙ sym behind;
    }

-- ---- the whole order

at_end : (p : Settings) → InRange p → (front : List Entry) (x : Entry) (at : Position) → AreSized p (front ++ x ∷ []) → OnlyLast (front ++ x ∷ [])
    → last_source (shapes_of p (front ++ x ∷ [])) ≡ Some at → IsAllOf p (front ++ x ∷ []) at
at_end p range front x at sized only e = go (shape_of p x.object).closed refl x.object refl
  where
    own : IsSized p x.object
    own = sized_at p (front ++ x ∷ []) (length front) x sized (last_there front x)

    go : (n : ℕ) → (shape_of p x.object).closed ≡ n → (o : Object) → x.object ≡ o → IsAllOf p (front ++ x ∷ []) at
    go (suc n) is o same = closed_end p range front x at (omega (arith, is)) e
    go zero is (Whole kind info octets) same =
        let S : Object → Type 0 = λ o. IsSized p o in
        absurd (some_closed p range (Whole kind info octets) (subst S same own) tt (sym (ap (λ (o : Object). (shape_of p o).closed) same) ∙ is))
    go zero is (Stream parts) same =
        begun_end p range front x parts at sized only same (sym (ap (λ (o : Object). (shape_of p o).closed) same) ∙ is) e

all_of : (p : Settings) → InRange p → (order : List Entry) (at : Position) → AreSized p order → OnlyLast order
    → last_source (shapes_of p order) ≡ Some at → IsAllOf p order at
all_of p range order at sized only e = go (ends order)
  where
    go : (order ≡ []) ⊎ ((front : List Entry) × (x : Entry) × (order ≡ front ++ x ∷ [])) → IsAllOf p order at
    go (inl nothing) = absurd (none_position at (sym (nothing_last p) ∙ ap (λ (es : List Entry). last_source (shapes_of p es)) (sym nothing) ∙ e))
    go (inr (front, x, is)) =
        let A : List Entry → Type 0 = λ es. IsAllOf p es at in
        let S : List Entry → Type 0 = λ es. AreSized p es in
        let O : List Entry → Type 0 = λ es. OnlyLast es in
        let L : List Entry → Type 0 = λ es. last_source (shapes_of p es) ≡ Some at in
        subst A (sym is) (at_end p range front x at (subst S is sized) (subst O is only) (subst L is e))

pub last_upto : OfLawfulRuns LastUpto
last_upto p range events lawful are at e =
    let h = (run_of p range events lawful are).holds.sender in
    all_of p range _ at (current_sized p _ h) h.ends e
