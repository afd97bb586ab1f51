-- What stands before a position was handed up: kept as hand-ups go on and as the order grows.
use Rattle.std.proofs.Common.{◌≡◌, ℕ, zero, suc, ◌+◌, ◌-◌, ◌*◌, ◌<◌, ◌≤◌, List, [], ◌∷◌, ◌++◌, length, take, drop, Bool, true, false, Option, None, Some, refl, sym, ap, ◌∙◌, subst, append_assoc, arith, ◌⊎◌, inl, inr}
use Rattle.std.specs.Prelude.{slice_get, nat_lt, IfSome}
use Rattle.std.proofs.lemmas.Bool.Decides.{Decides-ltb}
use Rattle.std.proofs.Math.Seq.{take-add}
use Rattle.std.proofs.Math.Nat.{mul-le-mul_right, add-mul}
use Rattle.std.proofs.lemmas.List.{append-nil, take-append-drop}
use Rattle.norm_base.specs.Settings.{Settings}
use Rattle.fec_plan.specs.Points.{position_before}
use Rattle.fec_plan.specs.declared.position.Position.{Position}
use Rattle.fec_plan.proofs.PositionLemmas.{before_decides, Before}
use Rattle.norm_order.specs.Entries.{Object, Whole, Stream, Entry}
use Rattle.norm_order.specs.Shapes.{Shape, shape_of, shapes_of, closed_in, is_source}
use Rattle.norm_order.specs.Upto.{parts_of, all_parts, ends_at, parts_through, upto}
use Rattle.norm_order.specs.declared.up.Up.{Up}
use Rattle.norm_order.proofs.UptoLemmas.{there, source_entry, same_entry, nothing_there}
use Rattle.norm_safety.specs.Fronts.{IsFront}
use Rattle.norm_safety.proofs.GoesOn.{OrderLater, source_later, upto_later}
use Rattle.norm_safety.proofs.Passed.{StandsIn, StandsAt, begun}

-- the position is a source symbol of the order, and everything before it was handed up
abbrev pub Stood : Settings → List Entry → List Up → Position → Type 0
Stood p order ups at = (is_source (shapes_of p order) at ≡ true) × IsFront (upto p order at) ups

-- the same of a position that may be there: of an acknowledgement that is due, and of a listing
abbrev pub Due : Settings → List Entry → List Up → Option Position → Type 0
Due p order ups due = IfSome due (Stood p order ups)

-- more is handed up
pub stood_more : (p : Settings) (order : List Entry) (ups more : List Up) (at : Position) → Stood p order ups at → Stood p order (ups ++ more) at
stood_more p order ups more at (source, (rest, is)) =
    (source, (rest ++ more, ap (λ (xs : List Up). xs ++ more) is ∙ append_assoc (upto p order at) rest more))

pub due_more : (p : Settings) (order : List Entry) (ups more : List Up) (due : Option Position) → Due p order ups due → Due p order (ups ++ more) due
due_more p order ups more None h = h
due_more p order ups more (Some at) h = stood_more p order ups more at h

-- the order goes on
pub stood_grown : (p : Settings) → 0 < p.e → (order later : List Entry) (ups : List Up) (at : Position) → OrderLater order later → Stood p order ups at → Stood p later ups at
stood_grown p some order later ups at on (source, (rest, is)) =
    (source_later p order later at some on source, (rest, is ∙ ap (λ (xs : List Up). xs ++ rest) (sym (upto_later p order later at some on source))))

pub due_grown : (p : Settings) → 0 < p.e → (order later : List Entry) (ups : List Up) (due : Option Position) → OrderLater order later → Due p order ups due
    → Due p later ups due
due_grown p some order later ups None on h = h
due_grown p some order later ups (Some at) on h = stood_grown p some order later ups at on h

-- one entry more has its parts at the end
pub all_parts_end : (p : Settings) (first n : ℕ) (order : List Entry) (x : Entry) → n ≡ first + length order
    → all_parts p first (order ++ x ∷ []) ≡ all_parts p first order ++ parts_of p n x.object
unfolding all_parts
all_parts_end p first n [] x e =
    append-nil (parts_of p first x.object) ∙ ap (λ (i : ℕ). parts_of p i x.object) (let is : first ≡ n = omega arith in is)
all_parts_end p first n (y ∷ order) x e =
    ap (λ (xs : List Up). parts_of p first y.object ++ xs) (all_parts_end p (first + 1) n order x (omega arith))
    ∙ sym (append_assoc (parts_of p first y.object) (all_parts p (first + 1) order) (parts_of p n x.object))

-- the parts of an entry and those before it are a front of those before a later one
pub entries_front : (p : Settings) (first n : ℕ) (order : List Entry) (i j : ℕ) (x : Entry) → slice_get order i ≡ Some x → i < j → n ≡ first + i
    → IsFront (all_parts p first (take i order) ++ parts_of p n x.object) (all_parts p first (take j order))
unfolding all_parts
entries_front p first n [] i j x e lt is = absurd (nothing_there x e)
entries_front p first n (y ∷ order) i zero x e lt is = absurd (omega arith)
entries_front p first n (y ∷ order) zero (suc j) x e lt is = (
  all_parts p (first + 1) (take j order),
  ap (λ (m : ℕ). parts_of p m y.object ++ all_parts p (first + 1) (take j order)) (let same : first ≡ n = omega arith in same)
      ∙ ap (λ (z : Entry). parts_of p n z.object ++ all_parts p (first + 1) (take j order)) (same_entry y x e),
)
entries_front p first n (y ∷ order) (suc i) (suc j) x e lt is =
    let more = entries_front p (first + 1) n order i j x e (omega arith) (omega arith) in (
      more.0,
      ap (λ (xs : List Up). parts_of p first y.object ++ xs) more.1
          ∙ sym (append_assoc (parts_of p first y.object) (all_parts p (first + 1) (take i order) ++ parts_of p n x.object) more.0)
          ∙ ap (λ (xs : List Up). xs ++ more.0) (sym (append_assoc (parts_of p first y.object) (all_parts p (first + 1) (take i order)) (parts_of p n x.object))),
    )

-- the parts through a position are a front of all of an entry's
part_front : (p : Settings) (at : Position) (object : Object) → IsFront (parts_through p at object) (parts_of p at.index object)
part_front p at (Whole kind info octets) = go (ends_at p (Whole kind info octets) at)
  where
    go : (b : Bool) → IsFront (elim b [ true ↦ parts_of p at.index (Whole kind info octets) | false ↦ [] ]) (parts_of p at.index (Whole kind info octets))
    go true = ([], refl)
    go false = (parts_of p at.index (Whole kind info octets), refl)
part_front p at (Stream parts) =
    let n : ℕ = 2 + (at.block * p.b + at.symbol) in
    (drop n (parts_of p at.index (Stream parts)), sym (take-append-drop n (parts_of p at.index (Stream parts))))

joined : (a t r b s all : List Up) → b ≡ t ++ r → all ≡ (a ++ b) ++ s → all ≡ (a ++ t) ++ (r ++ s)
joined a t r b s all h k =
    k ∙ ap (λ (xs : List Up). (a ++ xs) ++ s) h ∙ append_assoc a (t ++ r) s ∙ ap (λ (xs : List Up). a ++ xs) (append_assoc t r s)
    ∙ sym (append_assoc a t (r ++ s))

-- Where all entries before one were handed up, so was everything before each position of them.
pub stood_before : (p : Settings) (order : List Entry) (n : ℕ) (ups : List Up) (at : Position) → is_source (shapes_of p order) at ≡ true → at.index < n
    → ups ≡ all_parts p 0 (take n order) → Stood p order ups at
stood_before p order n ups at source lt is =
    let found = source_entry p order at.index (λ (s : Shape). nat_lt at.symbol (closed_in s at.block)) source in
    let x : Entry = found.0 in
    let all = entries_front p 0 at.index order at.index n x found.1.0 lt (omega arith) in
    let part = part_front p at x.object in (
      source,
      (
        part.0 ++ all.0,
        is ∙ joined (all_parts p 0 (take at.index order)) (parts_through p at x.object) part.0 (parts_of p at.index x.object) all.0
            (all_parts p 0 (take n order)) part.1 all.1
            ∙ ap (λ (o : Option Entry). (all_parts p 0 (take at.index order) ++ there p at o) ++ (part.0 ++ all.0)) (sym found.1.0),
      ),
    )

-- what stands at a place of a list, in a longer front
front_of_front : (n m : ℕ) (xs : List Up) → n ≤ m → IsFront (take n xs) (take m xs)
front_of_front n m xs le =
    (take (m - n) (drop n xs), ap (λ (k : ℕ). take k xs) (let z : m ≡ n + (m - n) = omega (arith, le) in z) ∙ take-add n (m - n) xs)

-- Where all entries before a place in an order were handed up, and its segments up to there, so was everything before each position
-- before that place.
pub stood_behind : (p : Settings) (order : List Entry) (point : Position) (ups : List Up) (at : Position) → is_source (shapes_of p order) at ≡ true
    → position_before at point ≡ true → StandsAt p (slice_get order point.index) point.block point.symbol
    → ups ≡ all_parts p 0 (take point.index order) ++ begun p point.index (point.block * p.b + point.symbol) (slice_get order point.index)
    → Stood p order ups at
stood_behind p order point ups at source e stands is = go ((before_decides at point).0 e)
  where
    found : (entry : Entry) × (slice_get order at.index ≡ Some entry) × (nat_lt at.symbol (closed_in (shape_of p entry.object) at.block) ≡ true)
    found = let f = source_entry p order at.index (λ (s : Shape). nat_lt at.symbol (closed_in s at.block)) source in (f.0, f.1.0, f.1.1)

    earlier : at.index < point.index → Stood p order ups at
    earlier lt =
        let S : List Up → Type 0 = λ us. Stood p order us at in
        subst S (sym is) (stood_more p order (all_parts p 0 (take point.index order)) _ at (stood_before p order point.index (all_parts p 0 (take point.index order)) at source lt refl))

    -- of the stream that is being handed up
    within : at.index ≡ point.index → (at.block < point.block) ⊎ ((at.block ≡ point.block) × (at.symbol < point.symbol)) → Stood p order ups at
    within same less = by_object found.0.object refl stands_here
      where
        x : Entry
        x = found.0

        here : slice_get order point.index ≡ Some x
        here = ap (slice_get order) (sym same) ∙ found.1

        stands_here : StandsIn p x.object point.block point.symbol
        stands_here = let T : Option Entry → Type 0 = λ o. StandsAt p o point.block point.symbol in subst T here stands

        nothing : point.block ≡ 0 → point.symbol ≡ 0 → (at.block < point.block) ⊎ ((at.block ≡ point.block) × (at.symbol < point.symbol)) → ⊥
        nothing b s (inl lt) = omega (arith, b, lt)
        nothing b s (inr both) = let lt = both.1 in omega (arith, s, lt)

        number : at.symbol < p.b → (at.block < point.block) ⊎ ((at.block ≡ point.block) × (at.symbol < point.symbol))
            → at.block * p.b + at.symbol < point.block * p.b + point.symbol
        number low (inl lt) =
            let up_to : (at.block + 1) * p.b ≤ point.block * p.b = mul-le-mul_right p.b (let z : at.block + 1 ≤ point.block = omega (arith, lt) in z) in
            let next : (at.block + 1) * p.b ≡ at.block * p.b + 1 * p.b = add-mul at.block 1 p.b in
            omega (arith, up_to, next, low)
        number low (inr both) =
            let e : at.block * p.b ≡ point.block * p.b = ap (λ (n : ℕ). n * p.b) both.0 in
            let lt = both.1 in
            omega (arith, e, lt)

        by_object : (o : Object) → x.object ≡ o → StandsIn p o point.block point.symbol → Stood p order ups at
        by_object (Whole kind info octets) object h = absurd (nothing h.0 h.1 less)
        by_object (Stream parts) object h = by_number (point.block * p.b + point.symbol) refl
          where
            low : at.symbol < p.b
            low =
                let C : Object → Type 0 = λ o. nat_lt at.symbol (closed_in (shape_of p o) at.block) ≡ true in
                let lt = (Decides-ltb at.symbol (closed_in (shape_of p (Stream parts)) at.block)).0 (subst C object found.2) in omega (arith, lt)

            by_number : (n : ℕ) → point.block * p.b + point.symbol ≡ n → Stood p order ups at
            by_number zero k = let lt = number low less in absurd (omega (arith, lt, k))
            by_number (suc n) k =
                let lt = number low less in
                let all : List Up = parts_of p point.index x.object in
                let front = front_of_front (2 + (at.block * p.b + at.symbol)) (suc (suc n)) all (omega (arith, lt, k)) in
                let through : there p at (slice_get order at.index) ≡ take (2 + (at.block * p.b + at.symbol)) all =
                ap (there p at) found.1 ∙ ap (λ (o : Object). parts_through p at o) object
                ∙ ap (λ (o : Object). take (2 + (at.block * p.b + at.symbol)) (parts_of p at.index o)) (sym object)
                ∙ ap (λ (i : ℕ). take (2 + (at.block * p.b + at.symbol)) (parts_of p i x.object)) same in
                let upto_is : upto p order at ≡ all_parts p 0 (take point.index order) ++ take (2 + (at.block * p.b + at.symbol)) all =
                ap (λ (us : List Up). all_parts p 0 (take at.index order) ++ us) through
                ∙ ap (λ (i : ℕ). all_parts p 0 (take i order) ++ take (2 + (at.block * p.b + at.symbol)) all) same in (
                  source,
                  (
                    front.0,
                    is ∙ ap (λ (o : Option Entry). all_parts p 0 (take point.index order) ++ begun p point.index (point.block * p.b + point.symbol) o) here
                        ∙ ap (λ (m : ℕ). all_parts p 0 (take point.index order) ++ begun p point.index m (Some x)) k
                        ∙ ap (λ (us : List Up). all_parts p 0 (take point.index order) ++ us) front.1
                        ∙ sym (append_assoc (all_parts p 0 (take point.index order)) (take (2 + (at.block * p.b + at.symbol)) all) front.0)
                        ∙ ap (λ (us : List Up). us ++ front.0) (sym upto_is),
                  ),
                )

    go : Before at point → Stood p order ups at
    go (inl (inl lt)) = earlier lt
    go (inl (inr (same, lt))) = within same (inl lt)
    go (inr ((same, block), lt)) = within same (inr (block, lt))
