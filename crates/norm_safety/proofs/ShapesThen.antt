-- The shapes of a later order, cut back to the last closed source symbol of then, are those of then.
use Rattle.std.proofs.Common.{◌≡◌, ℕ, zero, suc, ◌+◌, ◌-◌, ◌*◌, ◌<◌, ◌≤◌, List, [], ◌∷◌, ◌++◌, length, take, Bool, true, false, Option, None, Some, refl, sym, ap, ◌∙◌, subst, arith, ◌⊎◌, inl, inr}
use Rattle.std.specs.Prelude.{⊤, IfSome, min, nat_lt, ◌==◌}
use Rattle.std.specs.Int.{div_ceil}
use Rattle.std.specs.List.{AllByRecursion}
use Rattle.std.proofs.lemmas.Bool.Decides.{Decides-ltb, Decides-eqb}
use Rattle.std.proofs.lemmas.Grind.{div_ceil_times}
use Rattle.std.proofs.Math.Nat.{add-mul}
use Rattle.norm_base.specs.Settings.{Settings}
use Rattle.fec_plan.specs.Partition.{Cut, symbols_in, blocks_in, block_size, symbols_before, symbol_number}
use Rattle.fec_plan.specs.Points.{position}
use Rattle.fec_plan.specs.declared.position.Position.{Position}
use Rattle.fec_plan.proofs.CoverLemmas.{blocks_are_even_law, before_step, all_before}
use Rattle.fec_plan.proofs.CutLemmas.{some_blocks}
use Rattle.norm_order.specs.Entries.{Object, Whole, Stream, Entry}
use Rattle.norm_order.specs.Segments.{closed_from}
use Rattle.norm_order.specs.Shapes.{Shape, shape_of, shapes_of, closed_in, closed_blocks, last_in, last_from}
use Rattle.norm_send_rules.specs.Asking.{closed_at, shapes_at}
use Rattle.norm_send_rules.specs.Reached.{FitsProfile}
use Rattle.norm_send_rules.proofs.CutNames.{CutRange, is_sound}

-- ---- what grew

-- a later shape: the same cut and info, and no fewer closed symbols
pub record Longer (was now : Shape) : Type 0 where
  pub cut : now.cut ≡ was.cut
  pub closed : was.closed ≤ now.closed
  pub info : now.info ≡ was.info

-- the shapes of a later order: all but the last as they were, and the last one longer at most
abbrev pub Grew : List Shape → List Shape → Type 0
Grew [] now = ⊤
Grew (s ∷ was) [] = ⊥
Grew (s ∷ []) (t ∷ now) = Longer s t
Grew (s ∷ r ∷ was) (t ∷ now) = (t ≡ s) × Grew (r ∷ was) now

longer_itself : (s : Shape) → Longer s s
longer_itself s = record { cut = refl; closed = (let h : s.closed ≤ s.closed = omega arith in h); info = refl }

longer_both : (s t u : Shape) → Longer s t → Longer t u → Longer s u
longer_both s t u h g = record {
  cut = g.cut ∙ h.cut;
  closed = (let one = h.closed in let two = g.closed in let le : s.closed ≤ u.closed = omega (arith, one, two) in le);
  info = g.info ∙ h.info;
}

longer_same : (s t u : Shape) → t ≡ s → Longer t u → Longer s u
longer_same s t u e h = let L : Shape → Type 0 = λ x. Longer x u in subst L e h

-- an order with more entries
pub grew_joined : (shapes more : List Shape) → Grew shapes (shapes ++ more)
grew_joined [] more = tt
grew_joined (s ∷ []) more = longer_itself s
grew_joined (s ∷ r ∷ shapes) more = (refl, grew_joined (r ∷ shapes) more)

pub grew_itself : (shapes : List Shape) → Grew shapes shapes
grew_itself [] = tt
grew_itself (s ∷ []) = longer_itself s
grew_itself (s ∷ r ∷ shapes) = (refl, grew_itself (r ∷ shapes))

-- an order whose last entry is longer
pub grew_last : (front : List Shape) (s t : Shape) → Longer s t → Grew (front ++ s ∷ []) (front ++ t ∷ [])
grew_last [] s t h = h
grew_last (x ∷ []) s t h = (refl, h)
grew_last (x ∷ y ∷ front) s t h = (refl, grew_last (y ∷ front) s t h)

grew_head : (s t : Shape) (now later : List Shape) → Longer s t → Grew (t ∷ now) later → Grew (s ∷ []) later
grew_head s t now [] h g = absurd (never now g)
  where
    never : (now : List Shape) → Grew (t ∷ now) [] → ⊥
    never now g = g
grew_head s t [] (u ∷ later) h g = longer_both s t u h g
grew_head s t (r ∷ now) (u ∷ later) h g = let L : Shape → Type 0 = λ x. Longer s x in subst L (sym g.0) h

pub grew_both : (was now later : List Shape) → Grew was now → Grew now later → Grew was later
grew_both [] now later h g = tt
grew_both (s ∷ was) [] later h g = absurd h
grew_both (s ∷ []) (t ∷ now) later h g = grew_head s t now later h g
grew_both (s ∷ r ∷ was) (t ∷ []) later h g = absurd h.1
grew_both (s ∷ r ∷ was) (t ∷ x ∷ now) [] h g = absurd g
grew_both (s ∷ r ∷ was) (t ∷ x ∷ now) (u ∷ later) h g = (g.0 ∙ h.0, grew_both (r ∷ was) (x ∷ now) later h.1 g.1)

-- ---- how far a shape was closed

-- the last closed source symbol of a shape counts all that are closed
abbrev pub EndsClosed : Shape → Type 0
EndsClosed s = 0 < s.closed → symbol_number s.cut (closed_blocks s - 1) (closed_in s (closed_blocks s - 1) - 1) + 1 ≡ s.closed

whole_ends : (before size t : ℕ) → before + size ≡ t → 1 ≤ size → before + (min size (t - (before + 0)) - 1) + 1 ≡ t
whole_ends before size t e some = omega arith

stream_ends : (front b c more : ℕ) → c ≤ front + b → front < c → front + (min b (c - (front + 0)) - 1) + 1 ≡ c
stream_ends front b c more within lt = omega arith

pub object_ends : (p : Settings) → CutRange p → (object : Object) → FitsProfile p object → EndsClosed (shape_of p object)
object_ends p range (Whole kind info octets) fits some =
    let t : ℕ = symbols_in (length octets) p.e in
    let n : ℕ = blocks_in t p.b in
    let has : 0 < t = some_blocks (length octets) p.e fits.0 (let z = range.least_e in omega (arith, z)) in
    let n_some : 0 < n = some_blocks t p.b has (let z = range.least_b in omega (arith, z)) in
    let even = (blocks_are_even_law (length octets) p.e p.b p.max_n (is_sound p range (length octets) fits.0 fits.1) (n - 1)).0 in
    let step = before_step t n (n - 1) in
    let whole = all_before t n n_some in
    let last : symbols_before t n (n - 1 + 1) ≡ symbols_before t n n = ap (symbols_before t n) (let z : n - 1 + 1 ≡ n = omega (arith, n_some) in z) in
    whole_ends (symbols_before t n (n - 1)) (block_size t n (n - 1)) t (omega (arith, step, whole, last)) even
object_ends p range (Stream parts) fits some =
    let c : ℕ = length (closed_from p.e [] parts) in
    let n : ℕ = div_ceil c p.b in
    let b_pos : 0 < p.b = (let z = range.least_b in omega (arith, z)) in
    let n_some : 0 < n = some_blocks c p.b some b_pos in
    let bounds = div_ceil_times c p.b b_pos in
    let split : (n - 1) * p.b + p.b ≡ n * p.b = times_less n p.b n_some in
    stream_ends ((n - 1) * p.b) p.b c 0 (let up = bounds.0 in omega (arith, up, split)) (let down = bounds.1 in omega (arith, down, split))
  where
    times_less : (n b : ℕ) → 0 < n → (n - 1) * b + b ≡ n * b
    times_less n b some = sym (
        ap (λ (x : ℕ). x * b) (let e : n ≡ n - 1 + 1 = omega (arith, some) in e)
        ∙ add-mul (n - 1) 1 b
        ∙ (let z : (n - 1) * b + 1 * b ≡ (n - 1) * b + b = omega arith in z)
        )

pub order_ends : (p : Settings) → CutRange p → (order : List Entry) → AllByRecursion (λ (x : Entry). FitsProfile p x.object) order
    → AllByRecursion EndsClosed (shapes_of p order)
order_ends p range [] all = tt
order_ends p range (x ∷ order) all = (object_ends p range x.object all.0, order_ends p range order all.1)

not_true : (b : Bool) → (b ≡ true → ⊥) → b ≡ false
not_true true h = absurd (h refl)
not_true false h = refl

-- how many are closed, by where the last one is
abbrev by_place : Bool → Bool → ℕ → ℕ → ℕ
by_place here past some all = elim here [ true ↦ some | false ↦ elim past [ true ↦ 0 | false ↦ all ] ]

-- the last one is of a later object: all are closed
closed_behind : (at : Position) (index : ℕ) (t : Shape) → index < at.index → closed_at (Some at) index t ≡ t.closed
closed_behind at index t lt =
    ap (λ b. by_place b (nat_lt at.index index) (min t.closed (symbol_number t.cut at.block at.symbol + 1)) t.closed)
    (not_true (at.index == index) (λ e. let is = (Decides-eqb at.index index).0 e in absurd (omega (arith, is))))
    ∙ ap (λ b. by_place false b 0 t.closed) (not_true (nat_lt at.index index) (λ e. let less = (Decides-ltb at.index index).0 e in absurd (omega (arith, less))))

-- it is of an earlier one: none are
closed_past : (at : Position) (index : ℕ) (t : Shape) → at.index < index → closed_at (Some at) index t ≡ 0
closed_past at index t lt =
    ap (λ b. by_place b (nat_lt at.index index) (min t.closed (symbol_number t.cut at.block at.symbol + 1)) t.closed)
    (not_true (at.index == index) (λ e. let is = (Decides-eqb at.index index).0 e in absurd (omega (arith, is))))
    ∙ ap (λ b. by_place false b 0 t.closed) ((Decides-ltb at.index index).1 lt)

-- it is of this one: those up to it are
closed_here : (index block symbol : ℕ) (t : Shape) → closed_at (Some (position index block symbol)) index t ≡ min t.closed (symbol_number t.cut block symbol + 1)
closed_here index block symbol t =
    ap (λ b. by_place b (nat_lt index index) (min t.closed (symbol_number t.cut block symbol + 1)) t.closed) ((Decides-eqb index index).1 refl)

-- ---- the last closed source symbol

-- the last closed source symbol through this shape
abbrev found_by : ℕ → Option Position → Shape → Option Position
found_by index found s = elim (last_in index s) [ Some at ↦ Some at | None ↦ found ]

abbrev IsBefore : ℕ → Option Position → Type 0
IsBefore index found = IfSome found (λ at. at.index < index)

-- what a shape has last, or what was found before, by whether nothing of the shape is closed
abbrev own_or : Bool → Position → Option Position → Option Position
own_or true own found = found
own_or false own found = Some own

-- the last closed source symbol of a shape that has one
abbrev own_last : ℕ → Shape → Position
own_last index s = position index (closed_blocks s - 1) (closed_in s (closed_blocks s - 1) - 1)

found_is : (index : ℕ) (found : Option Position) (s : Shape) → found_by index found s ≡ own_or (s.closed == 0) (own_last index s) found
found_is index found s = go (s.closed == 0)
  where
    last : Bool → Option Position
    last b = elim b [ true ↦ None | false ↦ Some (own_last index s) ]

    either : Option Position → Option Position
    either own = elim own [ Some at ↦ Some at | None ↦ found ]

    go : (b : Bool) → either (last b) ≡ own_or b (own_last index s) found
    go true = refl
    go false = refl

before_next : (index : ℕ) (found : Option Position) (s : Shape) → IsBefore index found → IsBefore (index + 1) (found_by index found s)
before_next index found s before =
    let B : Option Position → Type 0 = λ o. IsBefore (index + 1) o in subst B (sym (found_is index found s)) (go (s.closed == 0))
  where
    kept : (found : Option Position) → IsBefore index found → IsBefore (index + 1) found
    kept None h = h
    kept (Some at) h = let z : at.index < index + 1 = omega (arith, h) in z

    go : (b : Bool) → IsBefore (index + 1) (own_or b (own_last index s) found)
    go true = kept found before
    go false = (let z : index < index + 1 = omega arith in z)

-- the last closed source symbol of further shapes is one of theirs, or the one that was found before
last_of_rest : (index : ℕ) (found : Option Position) (shapes : List Shape)
    → (last_from index found shapes ≡ found) ⊎ ((at : Position) × (last_from index found shapes ≡ Some at) × (index ≤ at.index))
unfolding last_from
last_of_rest index found [] = inl refl
last_of_rest index found (s ∷ shapes) = by (s.closed == 0) (found_is index found s) (last_of_rest (index + 1) (found_by index found s) shapes)
  where
    last : Option Position
    last = last_from (index + 1) (found_by index found s) shapes

    by : (b : Bool) → found_by index found s ≡ own_or b (own_last index s) found
        → (last ≡ found_by index found s) ⊎ ((at : Position) × (last ≡ Some at) × (index + 1 ≤ at.index))
        → (last ≡ found) ⊎ ((at : Position) × (last ≡ Some at) × (index ≤ at.index))
    by b is (inr (at, e, le)) = inr (at, e, (let z : index ≤ at.index = omega (arith, le) in z))
    by true is (inl e) = inl (e ∙ is)
    by false is (inl e) = inr (own_last index s, e ∙ is, (let z : index ≤ index = omega arith in z))

-- where no later shape has one
own_closed : (index : ℕ) (found : Option Position) (s t : Shape) → IsBefore index found → EndsClosed s → Longer s t
    → closed_at (found_by index found s) index t ≡ s.closed
own_closed index found s t before ends longer = ap (λ l. closed_at l index t) (found_is index found s) ∙ go (s.closed == 0) refl
  where
    none : (found : Option Position) → IsBefore index found → closed_at found index t ≡ 0
    none None h = refl
    none (Some at) h = closed_past at index t h

    some : (n : ℕ) → (n == 0) ≡ false → 0 < n
    some zero h = absurd (cc)
    some (suc n) h = omega arith

    go : (b : Bool) → (s.closed == 0) ≡ b → closed_at (own_or b (own_last index s) found) index t ≡ s.closed
    go true e = none found before ∙ sym ((Decides-eqb s.closed 0).0 e)
    go false e =
        closed_here index (closed_blocks s - 1) (closed_in s (closed_blocks s - 1) - 1) t
        ∙ ap (λ (c : Cut). min t.closed (symbol_number c (closed_blocks s - 1) (closed_in s (closed_blocks s - 1) - 1) + 1)) longer.cut
        ∙ ap (λ n. min t.closed n) (ends (some s.closed e))
        ∙ (let le = longer.closed in let z : min t.closed s.closed ≡ s.closed = omega (arith, le) in z)

-- where one may have one, this shape is as it was
rest_closed : (index : ℕ) (found : Option Position) (s t : Shape) (rest : List Shape) → IsBefore index found → EndsClosed s → t ≡ s
    → closed_at (last_from (index + 1) (found_by index found s) rest) index t ≡ s.closed
rest_closed index found s t rest before ends same = go (last_of_rest (index + 1) (found_by index found s) rest)
  where
    last : Option Position
    last = last_from (index + 1) (found_by index found s) rest

    go : (last ≡ found_by index found s) ⊎ ((at : Position) × (last ≡ Some at) × (index + 1 ≤ at.index)) → closed_at last index t ≡ s.closed
    go (inl e) =
        ap (λ l. closed_at l index t) e
        ∙ own_closed index found s t before ends (let L : Shape → Type 0 = λ x. Longer s x in subst L (sym same) (longer_itself s))
    go (inr (at, e, le)) =
        ap (λ l. closed_at l index t) e
        ∙ closed_behind at index t (omega (arith, le))
        ∙ ap (λ (x : Shape). x.closed) same

same_shape : (s t : Shape) (closed : ℕ) → t.cut ≡ s.cut → closed ≡ s.closed → t.info ≡ s.info → record t { closed = closed } ≡ s
same_shape s t closed cut is info =
    ap (λ (c : Cut). let x : Shape = record { cut = c; closed = closed; info = t.info } in x) cut
    ∙ ap (λ (n : ℕ). let x : Shape = record { cut = s.cut; closed = n; info = t.info } in x) is
    ∙ ap (λ (b : Bool). let x : Shape = record { cut = s.cut; closed = s.closed; info = b } in x) info

-- shapes that grew, cut back
pub shapes_then : (index : ℕ) (found : Option Position) (was now : List Shape) → IsBefore index found → AllByRecursion EndsClosed was → Grew was now
    → shapes_at (last_from index found was) index (take (length was) now) ≡ was
unfolding last_from shapes_at
shapes_then index found [] now before ends grew = refl
shapes_then index found (s ∷ was) [] before ends grew = absurd grew
shapes_then index found (s ∷ []) (t ∷ now) before ends grew =
    ap (λ (x : Shape). x ∷ []) (same_shape s t _ grew.cut (own_closed index found s t before ends.0 grew) grew.info)
shapes_then index found (s ∷ r ∷ was) (t ∷ now) before ends grew =
    ap (λ (x : Shape). x ∷ shapes_at (last_from (index + 1) (found_by index found s) (r ∷ was)) (index + 1) (take (length (r ∷ was)) now))
    (same_shape s t _ (ap (λ (x : Shape). x.cut) grew.0) (rest_closed index found s t (r ∷ was) before ends.0 grew.0) (ap (λ (x : Shape). x.info) grew.0))
    ∙ ap (λ (xs : List Shape). s ∷ xs) (shapes_then (index + 1) (found_by index found s) (r ∷ was) now (before_next index found s before) ends.1 grew.1)
