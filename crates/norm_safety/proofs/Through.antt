-- Hand-ups that passed entries and stand within the next go through the order, and so does each front of them; and they stay so as
-- the order goes on.
use Rattle.std.proofs.Common.{◌≡◌, ℕ, zero, suc, ◌+◌, ◌*◌, ◌<◌, ◌≤◌, List, [], ◌∷◌, ◌++◌, length, take, drop, true, false, Option, None, Some, refl, sym, ap, ◌∙◌, subst, append_assoc, arith, ◌⊎◌, inl, inr}
use Rattle.std.specs.Prelude.{slice_get}
use Rattle.std.proofs.lemmas.List.{append-nil, take_all}
use Rattle.norm_base.specs.Settings.{Settings}
use Rattle.fec_plan.specs.Points.{Point}
use Rattle.fec_plan.specs.declared.position.Position.{Position}
use Rattle.norm_order.specs.Entries.{Part, Object, Whole, Stream, Entry}
use Rattle.norm_order.specs.Segments.{closed_from}
use Rattle.norm_order.specs.Upto.{parts_of, all_parts}
use Rattle.norm_order.specs.declared.up.Up.{Up}
use Rattle.norm_order.specs.declared.up.Up.TheVariants as up
use Rattle.norm_safety.specs.InOrder.{GoesThrough, Stops, Hands, Loses, Within, IsLess, IsHandedOf, is_stream_object}
use Rattle.norm_safety.proofs.ClosedLemmas.{split_at}
use Rattle.norm_safety.proofs.Passed.{AreFinished, Passed, StandsIn, StandsAt, begun, length-parts}

-- ---- a front goes through

head_of : (a b : Up) (xs ys : List Up) → (a ∷ xs) ≡ (b ∷ ys) → a ≡ b
head_of a b xs ys e = cc

tail_of : (a b : Up) (xs ys : List Up) → (a ∷ xs) ≡ (b ∷ ys) → xs ≡ ys
tail_of a b xs ys e = cc

none_some : (x : Up) (xs : List Up) → [] ≡ (x ∷ xs) → ⊥
none_some x xs e = cc

-- Of two fronts of a list one is a front of the other.
pub data Fronts (xs ys a b : List Up) : Type 0 where
  Longer : (more : List Up) → ys ≡ xs ++ more → a ≡ more ++ b → Fronts xs ys a b
  Shorter : (next : Up) (more : List Up) → xs ≡ ys ++ next ∷ more → b ≡ (next ∷ more) ++ a → Fronts xs ys a b

pub fronts : (xs ys a b : List Up) → xs ++ a ≡ ys ++ b → Fronts xs ys a b
fronts [] ys a b e = Longer ys refl e
fronts (x ∷ xs) [] a b e = Shorter x xs refl (sym e)
fronts (x ∷ xs) (y ∷ ys) a b e = go (fronts xs ys a b (tail_of x y (xs ++ a) (ys ++ b) e))
  where
    same : x ≡ y
    same = head_of x y (xs ++ a) (ys ++ b) e

    go : Fronts xs ys a b → Fronts (x ∷ xs) (y ∷ ys) a b
    go (Longer more is rest) = Longer more (ap (λ (z : Up). z ∷ ys) (sym same) ∙ ap (λ (zs : List Up). x ∷ zs) is) rest
    go (Shorter next more is rest) = Shorter next more (ap (λ (zs : List Up). x ∷ zs) is ∙ ap (λ (z : Up). z ∷ (ys ++ next ∷ more)) same) rest

-- a front of what stands before a loss, or within a stream, is such
less_front : (xs ys rest : List Up) → IsLess (xs ++ rest) ys → IsLess xs ys
less_front xs ys [] (next, more, is) = (next, more, is ∙ ap (λ (zs : List Up). zs ++ next ∷ more) (append-nil xs))
less_front xs ys (r ∷ rest) (next, more, is) = (r, rest ++ next ∷ more, is ∙ append_assoc xs (r ∷ rest) (next ∷ more))

-- a front that is shorter than an entry's parts
pub within_entry : (p : Settings) (drop : Point) (index : ℕ) (order : List Entry) (entry : Entry) (front : List Up)
    → IsLess front (parts_of p index entry.object) → GoesThrough p drop index (entry ∷ order) front
within_entry p drop index order entry front less = go entry.object refl less
  where
    short : (front : List Up) (a next : Up) (more : List Up) → (a ∷ []) ≡ front ++ next ∷ more → front ≡ []
    short [] a next more e = refl
    short (x ∷ front) a next more e = absurd (some front (tail_of a x [] (front ++ next ∷ more) e))
      where
        some : (front : List Up) → [] ≡ front ++ next ∷ more → ⊥
        some [] e = cc
        some (y ∷ front) e = cc

    go : (o : Object) → entry.object ≡ o → IsLess front (parts_of p index o) → GoesThrough p drop index (entry ∷ order) front
    go (Whole kind info octets) is (next, more, e) =
        let G : List Up → Type 0 = λ xs. GoesThrough p drop index (entry ∷ order) xs in
        subst G (sym (short front (up.Object index kind info octets) next more e)) Stops
    go (Stream parts) is h =
        let H : Object → Type 0 = λ o. IsHandedOf p index o front in
        Within entry front (ap is_stream_object is) (subst H (sym is) h)

through_front : (p : Settings) (drop : Point) (index : ℕ) (order : List Entry) (all front rest : List Up) → all ≡ front ++ rest
    → GoesThrough p drop index order all → GoesThrough p drop index order front
through_front p drop index order [] front rest e Stops = let G : List Up → Type 0 = λ xs. GoesThrough p drop index order xs in subst G (sym (nothing front e)) Stops
  where
    nothing : (front : List Up) → [] ≡ front ++ rest → front ≡ []
    nothing [] e = refl
    nothing (x ∷ front) e = absurd (none_some x (front ++ rest) e)
through_front p drop index (_ ∷ order) _ front rest e (Hands {rest = others} entry goes) =
    go (λ more is. through_front p drop (suc index) order others more rest is goes) (fronts (parts_of p index entry.object) front others rest e)
  where
    go : ((more : List Up) → others ≡ more ++ rest → GoesThrough p drop (suc index) order more)
        → Fronts (parts_of p index entry.object) front others rest → GoesThrough p drop index (entry ∷ order) front
    go later (Longer more is behind) =
        let G : List Up → Type 0 = λ xs. GoesThrough p drop index (entry ∷ order) xs in subst G (sym is) (Hands entry (later more behind))
    go later (Shorter next more is behind) = within_entry p drop index order entry front (next, more, is)
through_front p drop index (_ ∷ order) _ front rest e (Loses {rest = others} entry part of may goes) =
    go (λ more is. through_front p drop (suc index) order others more rest is goes) (fronts part front (up.Lost index ∷ others) rest e)
  where
    is_part : (xs : List Up) (o : Object) → entry.object ≡ o → IsHandedOf p index o part → (next : Up) (more : List Up) → part ≡ xs ++ next ∷ more
        → GoesThrough p drop index (entry ∷ order) xs
    is_part xs (Whole kind info octets) is of next more e = absurd (some xs (sym of ∙ e))
      where
        some : (xs : List Up) → [] ≡ xs ++ next ∷ more → ⊥
        some [] e = cc
        some (y ∷ xs) e = cc
    is_part xs (Stream parts) is of next more e =
        let L : List Up → Type 0 = λ ys. IsLess ys (parts_of p index (Stream parts)) in
        let O : Object → Type 0 = λ o. IsLess xs (parts_of p index o) in
        within_entry p drop index order entry xs (subst O (sym is) (less_front xs (parts_of p index (Stream parts)) (next ∷ more) (subst L e of)))

    all_of : (xs : List Up) → xs ≡ part → GoesThrough p drop index (entry ∷ order) xs
    all_of xs e = by_object entry.object refl of
      where
        by_object : (o : Object) → entry.object ≡ o → IsHandedOf p index o part → GoesThrough p drop index (entry ∷ order) xs
        by_object (Whole kind info octets) is of =
            let G : List Up → Type 0 = λ ys. GoesThrough p drop index (entry ∷ order) ys in subst G (sym (e ∙ of)) Stops
        by_object (Stream parts) is of =
            let O : Object → Type 0 = λ o. IsLess part (parts_of p index o) in
            let G : List Up → Type 0 = λ ys. GoesThrough p drop index (entry ∷ order) ys in
            subst G (sym e) (within_entry p drop index order entry part (subst O (sym is) of))

    go : ((more : List Up) → others ≡ more ++ rest → GoesThrough p drop (suc index) order more)
        → Fronts part front (up.Lost index ∷ others) rest → GoesThrough p drop index (entry ∷ order) front
    go later (Longer [] is behind) = all_of front (is ∙ append-nil part)
    go later (Longer (x ∷ more) is behind) =
        let G : List Up → Type 0 = λ xs. GoesThrough p drop index (entry ∷ order) xs in
        let first : up.Lost index ≡ x = head_of (up.Lost index) x others (more ++ rest) behind in
        let loses : GoesThrough p drop index (entry ∷ order) (part ++ up.Lost index ∷ more) =
        Loses entry part of may (later more (tail_of (up.Lost index) x others (more ++ rest) behind)) in
        subst G (sym (is ∙ ap (λ (z : Up). part ++ z ∷ more) (sym first))) loses
    go later (Shorter next more is behind) = is_part front entry.object refl of next more is
through_front p drop index (_ ∷ order) _ front rest e (Within entry all stream of) = by_object entry.object refl of
  where
    by_object : (o : Object) → entry.object ≡ o → IsHandedOf p index o all → GoesThrough p drop index (entry ∷ order) front
    by_object (Whole kind info octets) is of =
        let S : Object → Type 0 = λ o. is_stream_object o ≡ true in absurd (never (subst S is stream))
      where
        never : false ≡ true → ⊥
        never e = cc
    by_object (Stream parts) is of =
        let L : List Up → Type 0 = λ ys. IsLess ys (parts_of p index (Stream parts)) in
        let O : Object → Type 0 = λ o. IsLess front (parts_of p index o) in
        within_entry p drop index order entry front (subst O (sym is) (less_front front (parts_of p index (Stream parts)) rest (subst L e of)))

-- ---- hand-ups that passed entries, and stand within the next

-- one more entry of an order
pub take_next : (order : List Entry) (n : ℕ) (x : Entry) → slice_get order n ≡ Some x → take (suc n) order ≡ take n order ++ x ∷ []
take_next [] n x e = absurd (none_some x e)
  where
    none_some : (y : Entry) → None ≡ Some y → ⊥
    none_some y e = cc
take_next (y ∷ order) zero x e = ap (λ (z : Entry). z ∷ []) (same y x e)
  where
    same : (a b : Entry) → Some a ≡ Some b → a ≡ b
    same a b e = cc
take_next (y ∷ order) (suc n) x e = ap (λ (xs : List Entry). y ∷ xs) (take_next order n x e)

-- fewer than all of a list are less
pub take_less : (n : ℕ) (xs : List Up) → n < length xs → IsLess (take n xs) xs
take_less n [] lt = absurd (omega arith)
take_less zero (x ∷ xs) lt = (x, xs, refl)
take_less (suc n) (x ∷ xs) lt = let less = take_less n xs (omega arith) in (less.0, less.1, ap (λ (ys : List Up). x ∷ ys) less.2)

entry_next : (order : List Entry) (n : ℕ) (x : Entry) → slice_get order n ≡ Some x → drop n order ≡ x ∷ drop (suc n) order
entry_next [] n x e = absurd (none x e)
  where
    none : (y : Entry) → None ≡ Some y → ⊥
    none y e = cc
entry_next (y ∷ order) zero x e = ap (λ (z : Entry). z ∷ order) (same y x e)
  where
    same : (a b : Entry) → Some a ≡ Some b → a ≡ b
    same a b e = cc
entry_next (y ∷ order) (suc n) x e = entry_next order n x e

passed_through : (p : Settings) (d : Point) (index n : ℕ) (order : List Entry) (before tail : List Up) → n ≤ length order
    → Passed p d index (take n order) before → GoesThrough p d (index + n) (drop n order) tail → GoesThrough p d index order (before ++ tail)
passed_through p d index zero order before tail le h goes =
    let G : List Up → Type 0 = λ xs. GoesThrough p d index order (xs ++ tail) in
    let I : ℕ → Type 0 = λ i. GoesThrough p d i order tail in
    subst G (sym h) (subst I (let z : index + 0 ≡ index = omega arith in z) goes)
passed_through p d index (suc n) [] before tail le h goes = absurd (omega arith)
passed_through p d index (suc n) (x ∷ order) before tail le (inl (rest, is, done, more)) goes =
    let G : List Up → Type 0 = λ xs. GoesThrough p d index (x ∷ order) xs in
    let I : ℕ → Type 0 = λ i. GoesThrough p d i (drop n order) tail in
    let next = passed_through p d (suc index) n order rest tail (omega arith) more (subst I (let z : index + suc n ≡ suc index + n = omega arith in z) goes) in
    subst G (sym (ap (λ (xs : List Up). xs ++ tail) is ∙ append_assoc (parts_of p index x.object) rest tail)) (Hands x next)
passed_through p d index (suc n) (x ∷ order) before tail le (inr (front, rest, is, of, may, more)) goes =
    let G : List Up → Type 0 = λ xs. GoesThrough p d index (x ∷ order) xs in
    let I : ℕ → Type 0 = λ i. GoesThrough p d i (drop n order) tail in
    let next = passed_through p d (suc index) n order rest tail (omega arith) more (subst I (let z : index + suc n ≡ suc index + n = omega arith in z) goes) in
    subst G (sym (ap (λ (xs : List Up). xs ++ tail) is ∙ append_assoc front (up.Lost index ∷ rest) tail)) (Loses x front of may next)

-- what was handed up of a stream goes through it
begun_through : (p : Settings) (d : Point) (order : List Entry) (index block symbol : ℕ) → StandsAt p (slice_get order index) block symbol
    → GoesThrough p d index (drop index order) (begun p index (block * p.b + symbol) (slice_get order index))
begun_through p d order index block symbol h = go (slice_get order index) refl h (block * p.b + symbol) refl
  where
    of_stream : (x : Entry) (parts : List Part) → x.object ≡ Stream parts → slice_get order index ≡ Some x → (n : ℕ)
        → suc n ≤ length (closed_from p.e [] parts) → GoesThrough p d index (drop index order) (take (suc (suc n)) (parts_of p index x.object))
    of_stream x parts is found n le =
        let G : List Entry → Type 0 = λ xs. GoesThrough p d index xs (take (suc (suc n)) (parts_of p index x.object)) in
        let long : length (parts_of p index x.object) ≡ suc (length (closed_from p.e [] parts)) =
        ap (λ (o : Object). length (parts_of p index o)) is ∙ length-parts p index parts in
        subst G (sym (entry_next order index x found)) (by_length long (split_at (length (closed_from p.e [] parts)) (suc n)))
      where
        by_length : length (parts_of p index x.object) ≡ suc (length (closed_from p.e [] parts))
            → (suc n < length (closed_from p.e [] parts)) ⊎ (length (closed_from p.e [] parts) ≤ suc n)
            → GoesThrough p d index (x ∷ drop (suc index) order) (take (suc (suc n)) (parts_of p index x.object))
        by_length long (inl less) =
            within_entry p d index (drop (suc index) order) x (take (suc (suc n)) (parts_of p index x.object))
            (take_less (suc (suc n)) (parts_of p index x.object) (omega (arith, long, less)))
        by_length long (inr all) =
            let G : List Up → Type 0 = λ xs. GoesThrough p d index (x ∷ drop (suc index) order) xs in
            let whole : take (suc (suc n)) (parts_of p index x.object) ≡ parts_of p index x.object ++ [] =
            take_all (suc (suc n)) (parts_of p index x.object) (omega (arith, long, all)) ∙ sym (append-nil (parts_of p index x.object)) in
            subst G (sym whole) (Hands x Stops)

    none : (b s : ℕ) → b ≡ 0 → s ≡ 0 → b * p.b + s ≡ 0
    none b s e f = (let z : 0 * p.b + 0 ≡ 0 = omega arith in ap (λ (n : ℕ). n * p.b + s) e ∙ ap (λ (n : ℕ). 0 * p.b + n) f ∙ z)

    zero_suc : (n : ℕ) → 0 ≡ suc n → ⊥
    zero_suc n e = cc

    go : (found : Option Entry) → slice_get order index ≡ found → StandsAt p found block symbol → (n : ℕ) → block * p.b + symbol ≡ n
        → GoesThrough p d index (drop index order) (begun p index n found)
    go found e h zero same = Stops
    go None e h (suc n) same = Stops
    go (Some x) e h (suc n) same = by_object x.object refl h
      where
        by_object : (o : Object) → x.object ≡ o → StandsIn p o block symbol
            → GoesThrough p d index (drop index order) (take (suc (suc n)) (parts_of p index x.object))
        by_object (Whole kind info octets) is stands = absurd (zero_suc n (sym (none block symbol stands.0 stands.1) ∙ same))
        by_object (Stream parts) is stands = of_stream x parts is e n (let le = stands.1 in omega (arith, le, same))

-- Hand-ups passed all entries before a position, and stand there; where nothing was lost they are all parts of those entries.
pub record Handed (p : Settings) (order : List Entry) (d : Point) (lost : List ℕ) (ups : List Up) (at : Position) : Type 0 where
  pub within : at.index ≤ length order
  pub stands : StandsAt p (slice_get order at.index) at.block at.symbol
  pub before : List Up
  pub passed : Passed p d 0 (take at.index order) before
  pub all : ups ≡ before ++ begun p at.index (at.block * p.b + at.symbol) (slice_get order at.index)
  pub clean : lost ≡ [] → AreFinished (take at.index order) × (before ≡ all_parts p 0 (take at.index order))

-- they, and each front of them, go through the order
pub handed_through : (p : Settings) (order : List Entry) (d : Point) (lost : List ℕ) (ups : List Up) (at : Position) → Handed p order d lost ups at
    → GoesThrough p d 0 order ups
handed_through p order d lost ups at h =
    let G : List Up → Type 0 = λ xs. GoesThrough p d 0 order xs in
    let I : ℕ → Type 0 = λ i. GoesThrough p d i (drop at.index order) (begun p at.index (at.block * p.b + at.symbol) (slice_get order at.index)) in
    subst G (sym h.all) (passed_through p d 0 at.index order h.before _ h.within h.passed
    (subst I (let z : at.index ≡ 0 + at.index = omega arith in z) (begun_through p d order at.index at.block at.symbol h.stands)))

pub front_through : (p : Settings) (order : List Entry) (d : Point) (front rest : List Up) → GoesThrough p d 0 order (front ++ rest)
    → GoesThrough p d 0 order front
front_through p order d front rest h = through_front p d 0 order (front ++ rest) front rest refl h
