-- Orders that go on: what stays of them.
use Rattle.std.proofs.Common.{◌≡◌, ℕ, zero, suc, ◌<◌, ◌≤◌, List, [], ◌∷◌, ◌++◌, length, take, Bool, true, false, None, Some, refl, sym, ap, ◌∙◌, subst, arith, ◌⊎◌, inl, inr}
use Rattle.std.specs.Prelude.{slice_get, nat_lt}
use Rattle.std.proofs.lemmas.List.{append-nil}
use Rattle.norm_base.specs.Settings.{Settings}
use Rattle.norm_base.specs.declared.node.Origin.{Origin}
use Rattle.fec_plan.specs.declared.position.Position.{Position}
use Rattle.norm_order.specs.Entries.{Part, Write, Cut, End, Object, Whole, Stream, Entry}
use Rattle.norm_order.specs.Segments.{closed_from, has_end}
use Rattle.norm_order.specs.Shapes.{Shape, shapes_of, closed_in, at_index, is_source}
use Rattle.norm_order.specs.Upto.{upto}
use Rattle.norm_order.specs.Later.{ObjectLater, OrderLater}
use Rattle.norm_order.specs.Laws.{with_stream, OrdersGrow}
use Rattle.norm_order.proofs.StreamLemmas.{Begins, closed_begin}
use Rattle.norm_order.proofs.UptoLemmas.{kept_as_order_grows}
use Rattle.norm_order.proofs.GoingOnLemmas.{kept_as_stream_goes_on}

clash : false ≡ true → ⊥
clash e = cc

-- ---- objects

pub object_itself : (o : Object) → ObjectLater o o
object_itself (Whole kind info octets) = refl
object_itself (Stream parts) = ([], ap Stream (sym (append-nil parts)), λ e. refl)

pub has_end_more : (parts more : List Part) → has_end parts ≡ true → has_end (parts ++ more) ≡ true
unfolding has_end
has_end_more [] more e = absurd (clash e)
has_end_more (Write by octets ∷ parts) more e = has_end_more parts more e
has_end_more (Cut ∷ parts) more e = has_end_more parts more e
has_end_more (End ∷ parts) more e = refl

-- a stream that ended stays
ended_stays : (parts : List Part) (later : Object) → has_end parts ≡ true → ObjectLater (Stream parts) later → later ≡ Stream parts
ended_stays parts later ended (more, is, none) =
    is ∙ ap (λ (xs : List Part). Stream (parts ++ xs)) (none ended) ∙ ap Stream (append-nil parts)

-- the closed segments stay as the first ones
pub closed_later : (e : ℕ) (parts more : List Part) → 0 < e → (has_end parts ≡ true → more ≡ [])
    → Begins (closed_from e [] parts) (closed_from e [] (parts ++ more))
closed_later e parts more some none = go (has_end parts) refl
  where
    go : (b : Bool) → has_end parts ≡ b → Begins (closed_from e [] parts) (closed_from e [] (parts ++ more))
    go false unended = closed_begin e [] parts more some unended
    go true ended =
        let same : parts ++ more ≡ parts = ap (λ (xs : List Part). parts ++ xs) (none ended) ∙ append-nil parts in
        ([], ap (closed_from e []) same ∙ sym (append-nil (closed_from e [] parts)))

-- ---- orders

pub order_itself : (order : List Entry) → OrderLater order order
order_itself [] = tt
order_itself (x ∷ []) = (refl, object_itself x.object)
order_itself (x ∷ z ∷ order) = (refl, order_itself (z ∷ order))

-- the entry at a place is there later, and goes on
pub later_entry : (order later : List Entry) (i : ℕ) (x : Entry) → OrderLater order later → slice_get order i ≡ Some x
    → (y : Entry) × (slice_get later i ≡ Some y) × (y.by ≡ x.by) × ObjectLater x.object y.object
later_entry [] later i x h e = absurd (nothing x e)
  where
    nothing : (x : Entry) → None ≡ Some x → ⊥
    nothing x e = cc
later_entry (x ∷ []) [] i y h e = absurd h
later_entry (x ∷ []) (z ∷ later) zero y h e =
    let L : Entry → Type 0 = λ x. (z.by ≡ x.by) × ObjectLater x.object z.object in
    let on = subst L (same x y e) h in (z, refl, on.0, on.1)
  where
    same : (a b : Entry) → Some a ≡ Some b → a ≡ b
    same a b e = cc
later_entry (x ∷ []) (z ∷ later) (suc i) y h e = absurd (nothing y e)
  where
    nothing : (x : Entry) → None ≡ Some x → ⊥
    nothing x e = cc
later_entry (x ∷ w ∷ order) [] i y h e = absurd h
later_entry (x ∷ w ∷ order) (z ∷ later) zero y h e =
    let L : Entry → Type 0 = λ x. (z.by ≡ x.by) × ObjectLater x.object z.object in
    let S : Entry → Type 0 = λ z. (z.by ≡ x.by) × ObjectLater x.object z.object in
    let on = subst L (same x y e) (subst S (sym h.0) (refl, object_itself x.object)) in (z, refl, on.0, on.1)
  where
    same : (a b : Entry) → Some a ≡ Some b → a ≡ b
    same a b e = cc
later_entry (x ∷ w ∷ order) (z ∷ later) (suc i) y h e = later_entry (w ∷ order) later i y h.1 e

pub later_long : (order later : List Entry) → OrderLater order later → length order ≤ length later
later_long [] later h = omega arith
later_long (x ∷ []) [] h = absurd h
later_long (x ∷ []) (y ∷ later) h = omega arith
later_long (x ∷ z ∷ order) [] h = absurd h
later_long (x ∷ z ∷ order) (y ∷ later) h = let le = later_long (z ∷ order) later h.1 in omega arith

-- what stands before a place of them goes on as well
pub later_take : (n : ℕ) (order later : List Entry) → OrderLater order later → OrderLater (take n order) (take n later)
later_take zero order later h = tt
later_take (suc n) [] later h = tt
later_take (suc n) (x ∷ []) [] h = absurd h
later_take (suc zero) (x ∷ []) (y ∷ later) h = h
later_take (suc (suc n)) (x ∷ []) (y ∷ later) h = h
later_take (suc n) (x ∷ z ∷ order) [] h = absurd h
later_take (suc zero) (x ∷ z ∷ order) (y ∷ later) h =
    let S : Entry → Type 0 = λ y. (y.by ≡ x.by) × ObjectLater x.object y.object in subst S (sym h.0) (refl, object_itself x.object)
later_take (suc (suc n)) (x ∷ z ∷ order) (y ∷ later) h = (h.0, later_take (suc n) (z ∷ order) later h.1)

-- An order grows in its last entry, an open stream, and more entries join.
pub record Grows (order later : List Entry) : Type 0 where
  pub front : List Entry
  pub by : Origin
  pub parts : List Part
  pub written : List Part
  pub more : List Entry
  pub unended : has_end parts ≡ false
  pub was : order ≡ with_stream front by parts
  pub now : later ≡ with_stream front by (parts ++ written) ++ more

-- or they only join
abbrev pub Joins : List Entry → List Entry → Type 0
Joins order later = (more : List Entry) × (later ≡ order ++ more)

pub later_form : (order later : List Entry) → OrderLater order later → Joins order later ⊎ Grows order later
later_form [] later h = inl (later, refl)
later_form (x ∷ []) [] h = absurd h
later_form (x ∷ []) (y ∷ later) h = one x.object refl h.1
  where
    entry_is : (a b : Entry) → a.by ≡ b.by → a.object ≡ b.object → a ≡ b
    entry_is a b e f = ap (λ (by : Origin). record { by = by; object = a.object }) e ∙ ap (λ (o : Object). record { by = b.by; object = o }) f

    stays : y.object ≡ x.object → Joins (x ∷ []) (y ∷ later) ⊎ Grows (x ∷ []) (y ∷ later)
    stays e = inl (later, ap (λ (z : Entry). z ∷ later) (entry_is y x h.0 e))

    one : (o : Object) → x.object ≡ o → ObjectLater o y.object → Joins (x ∷ []) (y ∷ later) ⊎ Grows (x ∷ []) (y ∷ later)
    one (Whole kind info octets) e goes = stays (goes ∙ sym e)
    one (Stream parts) e (more, is, none) = by_end (has_end parts) refl
      where
        by_end : (b : Bool) → has_end parts ≡ b → Joins (x ∷ []) (y ∷ later) ⊎ Grows (x ∷ []) (y ∷ later)
        by_end true ended = stays (ended_stays parts y.object ended (more, is, none) ∙ sym e)
        by_end false unended = inr (record {
          front = [];
          by = x.by;
          parts = parts;
          written = more;
          more = later;
          unended = unended;
          was = ap (λ (z : Entry). z ∷ []) (entry_is x (record { by = x.by; object = Stream parts }) refl e);
          now = ap (λ (z : Entry). z ∷ later) (entry_is y (record { by = x.by; object = Stream (parts ++ more) }) h.0 is);
        })
later_form (x ∷ z ∷ order) [] h = absurd h
later_form (x ∷ z ∷ order) (y ∷ later) h = go (later_form (z ∷ order) later h.1)
  where
    go : Joins (z ∷ order) later ⊎ Grows (z ∷ order) later → Joins (x ∷ z ∷ order) (y ∷ later) ⊎ Grows (x ∷ z ∷ order) (y ∷ later)
    go (inl (more, is)) = inl (more, ap (λ (w : Entry). w ∷ later) h.0 ∙ ap (λ (xs : List Entry). x ∷ xs) is)
    go (inr g) = inr (record {
      front = x ∷ g.front;
      by = g.by;
      parts = g.parts;
      written = g.written;
      more = g.more;
      unended = g.unended;
      was = ap (λ (xs : List Entry). x ∷ xs) g.was;
      now = ap (λ (w : Entry). w ∷ later) h.0 ∙ ap (λ (xs : List Entry). x ∷ xs) g.now;
    })

-- ---- positions

-- a source symbol of an order is one of an order with more entries
pub source_still : (p : Settings) (order more : List Entry) (at : Position) → is_source (shapes_of p order) at ≡ true → is_source (shapes_of p (order ++ more)) at ≡ true
source_still p order more at e = go order at.index e
  where
    test : Shape → Bool
    test s = nat_lt at.symbol (closed_in s at.block)

    go : (order : List Entry) (index : ℕ) → at_index (shapes_of p order) index false (λ s. nat_lt at.symbol (closed_in s at.block)) ≡ true
        → at_index (shapes_of p (order ++ more)) index false (λ s. nat_lt at.symbol (closed_in s at.block)) ≡ true
    go [] index e = absurd (clash e)
    go (x ∷ order) zero e = e
    go (x ∷ order) (suc index) e = go order index e

-- a source symbol stays one, and what stands before it stays
pub source_later : (p : Settings) (order later : List Entry) (at : Position) → 0 < p.e → OrderLater order later
    → is_source (shapes_of p order) at ≡ true → is_source (shapes_of p later) at ≡ true
source_later p order later at some h source = go (later_form order later h)
  where
    S : List Entry → Type 0
    S xs = is_source (shapes_of p xs) at ≡ true

    go : Joins order later ⊎ Grows order later → is_source (shapes_of p later) at ≡ true
    go (inl (more, is)) = subst S (sym is) (source_still p order more at source)
    go (inr g) =
        subst S (sym g.now) (source_still p (with_stream g.front g.by (g.parts ++ g.written)) g.more at
        (kept_as_stream_goes_on.still_source p g.front g.by g.parts g.written at some g.unended (subst S g.was source)))

pub upto_later : (p : Settings) (order later : List Entry) (at : Position) → 0 < p.e → OrderLater order later
    → is_source (shapes_of p order) at ≡ true → upto p later at ≡ upto p order at
upto_later p order later at some h source = go (later_form order later h)
  where
    S : List Entry → Type 0
    S xs = is_source (shapes_of p xs) at ≡ true

    go : Joins order later ⊎ Grows order later → upto p later at ≡ upto p order at
    go (inl (more, is)) = ap (λ (xs : List Entry). upto p xs at) is ∙ kept_as_order_grows p order more at source
    go (inr g) =
        let was = subst S g.was source in
        let still = kept_as_stream_goes_on.still_source p g.front g.by g.parts g.written at some g.unended was in
        ap (λ (xs : List Entry). upto p xs at) g.now
        ∙ kept_as_order_grows p (with_stream g.front g.by (g.parts ++ g.written)) g.more at still
        ∙ kept_as_stream_goes_on.same_before p g.front g.by g.parts g.written at some g.unended was
        ∙ ap (λ (xs : List Entry). upto p xs at) (sym g.was)

pub orders_grow : OrdersGrow
orders_grow = record { still_source = source_later; same_before = upto_later }
