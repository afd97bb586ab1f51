-- The last closed source symbol of an order tells of each of its shapes how many of its source symbols are closed.
use Rattle.std.proofs.Common.{◌≡◌, ℕ, zero, suc, ◌+◌, ◌-◌, ◌*◌, ◌<◌, ◌≤◌, List, [], ◌∷◌, Bool, true, false, Option, None, Some, refl, sym, ap, ◌∙◌, subst, arith, ◌⊎◌, inl, inr}
use Rattle.std.specs.Prelude.{IfSome, min, nat_lt, ◌==◌, slice_get}
use Rattle.std.specs.Int.{div_ceil}
use Rattle.std.proofs.lemmas.Bool.Decides.{Decides-ltb, Decides-eqb}
use Rattle.std.proofs.lemmas.Grind.{div_ceil_times}
use Rattle.std.proofs.Math.Nat.{add-mul}
use Rattle.fec_plan.specs.Partition.{Cut, IsSound, blocks, source_symbols, all_symbols, symbol_number}
use Rattle.fec_plan.specs.Points.{position}
use Rattle.fec_plan.specs.declared.position.Position.{Position}
use Rattle.fec_plan.proofs.CutLemmas.{some_blocks}
use Rattle.fec_plan.proofs.PartitionLemmas.{some_sources, number_from_first, some_blocks_of}
use Rattle.norm_order.specs.Shapes.{Shape, closed_in, closed_blocks, last_in, last_from}
use Rattle.norm_send_rules.specs.Asking.{closed_at}
use Rattle.nack_union.specs.Kept.{Marked, shape_of_marked}
use Rattle.nack_union.specs.Adding.{IsPlanned}
use Rattle.nack_union.proofs.Counted.{block_fits}
use Rattle.nack_union.proofs.Wholes.{last_ends}

-- the last closed source symbol of a shape counts all that are closed
abbrev pub EndsClosed : Shape → Type 0
EndsClosed s = 0 < s.closed → symbol_number s.cut (closed_blocks s - 1) (closed_in s (closed_blocks s - 1) - 1) + 1 ≡ s.closed

whole_ends : (first size t n : ℕ) → n ≡ first + (min size (t - first) - 1) → first + size ≡ t → 1 ≤ size → n + 1 ≡ t
whole_ends first size t n is e some = omega arith

stream_ends : (front b c more : ℕ) → c ≤ front + b → front < c → front + (min b (c - (front + 0)) - 1) + 1 ≡ c
stream_ends front b c more within lt = omega arith

pub marked_ends : (m : Marked) → IsPlanned m → EndsClosed (shape_of_marked m)
marked_ends m plan = go m.cut.l plan.sound plan.whole
  where
    times_less : (n b : ℕ) → 0 < n → (n - 1) * b + b ≡ n * b
    times_less n b some = sym (
        ap (λ (x : ℕ). x * b) (let e : n ≡ n - 1 + 1 = omega (arith, some) in e)
        ∙ add-mul (n - 1) 1 b
        ∙ (let z : (n - 1) * b + 1 * b ≡ (n - 1) * b + b = omega arith in z)
        )

    whole : (c : Cut) (n : ℕ) → c.l ≡ Some n → IsSound c → m.closed ≡ all_symbols c
        → symbol_number c (blocks c - 1) (min (source_symbols c (blocks c - 1)) (m.closed - symbol_number c (blocks c - 1) 0) - 1) + 1 ≡ m.closed
    whole c n is sound all =
        let some = some_blocks_of c sound in
        let last : blocks c - 1 < blocks c = omega (arith, some) in
        let fits = block_fits c (blocks c - 1) sound last in
        let ends = last_ends c sound in
        whole_ends (symbol_number c (blocks c - 1) 0) (source_symbols c (blocks c - 1)) m.closed _
        (number_from_first c (blocks c - 1) (min (source_symbols c (blocks c - 1)) (m.closed - symbol_number c (blocks c - 1) 0) - 1))
        (omega (arith, fits, ends, all)) (some_sources c (blocks c - 1) sound)

    go : (l : Option ℕ) → IsSound (record (m.cut) { l = l }) → ((n : ℕ) → l ≡ Some n → m.closed ≡ all_symbols (record (m.cut) { l = l }))
        → EndsClosed (record { cut = record (m.cut) { l = l }; closed = m.closed; info = m.info })
    go (Some n) sound all some = whole (record (m.cut) { l = Some n }) n refl sound (all n refl)
    go None sound all some =
        let c : ℕ = m.closed in
        let b : ℕ = m.cut.b in
        let n : ℕ = div_ceil c b in
        let b_pos : 0 < b = (let z = sound.least_b in omega (arith, z)) in
        let n_some : 0 < n = some_blocks c b some b_pos in
        let bounds = div_ceil_times c b b_pos in
        let split : (n - 1) * b + b ≡ n * b = times_less n b n_some in
        stream_ends ((n - 1) * b) b c 0 (let up = bounds.0 in omega (arith, up, split)) (let down = bounds.1 in omega (arith, down, split))

not_true : (b : Bool) → (b ≡ true → ⊥) → b ≡ false
not_true true h = absurd (h refl)
not_true false h = refl

-- how many are closed, by where the last one is
abbrev by_place : Bool → Bool → ℕ → ℕ → ℕ
by_place here past some all = elim here [ true ↦ some | false ↦ elim past [ true ↦ 0 | false ↦ all ] ]

-- the last one is of a later object: all are closed
closed_behind : (at : Position) (index : ℕ) (t : Shape) → index < at.index → closed_at (Some at) index t ≡ t.closed
closed_behind at index t lt =
    ap (λ b. by_place b (nat_lt at.index index) (min t.closed (symbol_number t.cut at.block at.symbol + 1)) t.closed)
    (not_true (at.index == index) (λ e. let is = (Decides-eqb at.index index).0 e in absurd (omega (arith, is))))
    ∙ ap (λ b. by_place false b 0 t.closed) (not_true (nat_lt at.index index) (λ e. let less = (Decides-ltb at.index index).0 e in absurd (omega (arith, less))))

-- it is of an earlier one: none are
closed_past : (at : Position) (index : ℕ) (t : Shape) → at.index < index → closed_at (Some at) index t ≡ 0
closed_past at index t lt =
    ap (λ b. by_place b (nat_lt at.index index) (min t.closed (symbol_number t.cut at.block at.symbol + 1)) t.closed)
    (not_true (at.index == index) (λ e. let is = (Decides-eqb at.index index).0 e in absurd (omega (arith, is))))
    ∙ ap (λ b. by_place false b 0 t.closed) ((Decides-ltb at.index index).1 lt)

-- it is of this one: those up to it are
closed_here : (index block symbol : ℕ) (t : Shape) → closed_at (Some (position index block symbol)) index t ≡ min t.closed (symbol_number t.cut block symbol + 1)
closed_here index block symbol t =
    ap (λ b. by_place b (nat_lt index index) (min t.closed (symbol_number t.cut block symbol + 1)) t.closed) ((Decides-eqb index index).1 refl)

-- the last closed source symbol through this shape
abbrev found_by : ℕ → Option Position → Shape → Option Position
found_by index found s = elim (last_in index s) [ Some at ↦ Some at | None ↦ found ]

abbrev IsBefore : ℕ → Option Position → Type 0
IsBefore index found = IfSome found (λ at. at.index < index)

-- what a shape has last, or what was found before, by whether nothing of the shape is closed
abbrev own_or : Bool → Position → Option Position → Option Position
own_or true own found = found
own_or false own found = Some own

-- the last closed source symbol of a shape that has one
abbrev pub own_last : ℕ → Shape → Position
own_last index s = position index (closed_blocks s - 1) (closed_in s (closed_blocks s - 1) - 1)

found_is : (index : ℕ) (found : Option Position) (s : Shape) → found_by index found s ≡ own_or (s.closed == 0) (own_last index s) found
found_is index found s = go (s.closed == 0)
  where
    last : Bool → Option Position
    last b = elim b [ true ↦ None | false ↦ Some (own_last index s) ]

    either : Option Position → Option Position
    either own = elim own [ Some at ↦ Some at | None ↦ found ]

    go : (b : Bool) → either (last b) ≡ own_or b (own_last index s) found
    go true = refl
    go false = refl

before_next : (index : ℕ) (found : Option Position) (s : Shape) → IsBefore index found → IsBefore (index + 1) (found_by index found s)
before_next index found s before =
    let B : Option Position → Type 0 = λ o. IsBefore (index + 1) o in subst B (sym (found_is index found s)) (go (s.closed == 0))
  where
    kept : (found : Option Position) → IsBefore index found → IsBefore (index + 1) found
    kept None h = h
    kept (Some at) h = let z : at.index < index + 1 = omega (arith, h) in z

    go : (b : Bool) → IsBefore (index + 1) (own_or b (own_last index s) found)
    go true = kept found before
    go false = (let z : index < index + 1 = omega arith in z)

-- the last closed source symbol of further shapes is one of theirs, or the one that was found before
last_of_rest : (index : ℕ) (found : Option Position) (shapes : List Shape)
    → (last_from index found shapes ≡ found) ⊎ ((at : Position) × (last_from index found shapes ≡ Some at) × (index ≤ at.index))
unfolding last_from
last_of_rest index found [] = inl refl
last_of_rest index found (s ∷ shapes) = by (s.closed == 0) (found_is index found s) (last_of_rest (index + 1) (found_by index found s) shapes)
  where
    last : Option Position
    last = last_from (index + 1) (found_by index found s) shapes

    by : (b : Bool) → found_by index found s ≡ own_or b (own_last index s) found
        → (last ≡ found_by index found s) ⊎ ((at : Position) × (last ≡ Some at) × (index + 1 ≤ at.index))
        → (last ≡ found) ⊎ ((at : Position) × (last ≡ Some at) × (index ≤ at.index))
    by b is (inr (at, e, le)) = inr (at, e, (let z : index ≤ at.index = omega (arith, le) in z))
    by true is (inl e) = inl (e ∙ is)
    by false is (inl e) = inr (own_last index s, e ∙ is, (let z : index ≤ index = omega arith in z))

-- where no later shape has one
own_closed : (index : ℕ) (found : Option Position) (s : Shape) → IsBefore index found → EndsClosed s → closed_at (found_by index found s) index s ≡ s.closed
own_closed index found s before ends = ap (λ l. closed_at l index s) (found_is index found s) ∙ go (s.closed == 0) refl
  where
    none : (found : Option Position) → IsBefore index found → closed_at found index s ≡ 0
    none None h = refl
    none (Some at) h = closed_past at index s h

    some : (n : ℕ) → (n == 0) ≡ false → 0 < n
    some zero h = absurd (cc)
    some (suc n) h = omega arith

    go : (b : Bool) → (s.closed == 0) ≡ b → closed_at (own_or b (own_last index s) found) index s ≡ s.closed
    go true e = none found before ∙ sym ((Decides-eqb s.closed 0).0 e)
    go false e =
        closed_here index (closed_blocks s - 1) (closed_in s (closed_blocks s - 1) - 1) s
        ∙ ap (λ n. min s.closed n) (ends (some s.closed e))
        ∙ (let z : min s.closed s.closed ≡ s.closed = omega arith in z)

first_closed : (index : ℕ) (found : Option Position) (s : Shape) (rest : List Shape) → IsBefore index found → EndsClosed s
    → closed_at (last_from (index + 1) (found_by index found s) rest) index s ≡ s.closed
first_closed index found s rest before ends = go (last_of_rest (index + 1) (found_by index found s) rest)
  where
    last : Option Position
    last = last_from (index + 1) (found_by index found s) rest

    go : (last ≡ found_by index found s) ⊎ ((at : Position) × (last ≡ Some at) × (index + 1 ≤ at.index)) → closed_at last index s ≡ s.closed
    go (inl e) = ap (λ l. closed_at l index s) e ∙ own_closed index found s before ends
    go (inr (at, e, le)) = ap (λ l. closed_at l index s) e ∙ closed_behind at index s (omega (arith, le))

-- of each shape of an order as many are closed as the order's last closed source symbol says
pub closed_by_last : (index : ℕ) (found : Option Position) (shapes : List Shape) (k : ℕ) (s : Shape) → IsBefore index found → slice_get shapes k ≡ Some s → EndsClosed s
    → closed_at (last_from index found shapes) (index + k) s ≡ s.closed
unfolding last_from
closed_by_last index found [] k s before e ends = absurd (none e)
  where
    none : None ≡ Some s → ⊥
    none g = cc
closed_by_last index found (x ∷ shapes) zero s before e ends =
    ap (λ (y : Shape). closed_at (last_from (index + 1) (found_by index found y) shapes) (index + 0) s) (same e)
    ∙ ap (λ i. closed_at (last_from (index + 1) (found_by index found s) shapes) i s) (let f : index + 0 ≡ index = omega arith in f)
    ∙ first_closed index found s shapes before ends
  where
    same : Some x ≡ Some s → x ≡ s
    same g = cc
closed_by_last index found (x ∷ shapes) (suc k) s before e ends =
    ap (λ i. closed_at (last_from (index + 1) (found_by index found x) shapes) i s) (let f : index + suc k ≡ index + 1 + k = omega arith in f)
    ∙ closed_by_last (index + 1) (found_by index found x) shapes k s (before_next index found x before) e ends

-- the last closed source symbol of an order is the last of one of its shapes, or one that was found before
pub last_owned : (index : ℕ) (found : Option Position) (shapes : List Shape) (at : Position) → last_from index found shapes ≡ Some at
    → (found ≡ Some at) ⊎ ((k : ℕ) × (s : Shape) × (slice_get shapes k ≡ Some s) × (at ≡ own_last (index + k) s) × (0 < s.closed))
unfolding last_from
last_owned index found [] at e = inl e
last_owned index found (x ∷ shapes) at e = go (last_owned (index + 1) (found_by index found x) shapes at e)
  where
    some : (n : ℕ) → (n == 0) ≡ false → 0 < n
    some zero h = absurd (cc)
    some (suc n) h = omega arith

    by : (b : Bool) → (x.closed == 0) ≡ b → own_or b (own_last index x) found ≡ Some at
        → (found ≡ Some at) ⊎ ((k : ℕ) × (s : Shape) × (slice_get (x ∷ shapes) k ≡ Some s) × (at ≡ own_last (index + k) s) × (0 < s.closed))
    by true is h = inl h
    by false is h = inr (0, x, refl, same h ∙ ap (λ i. own_last i x) (let f : index ≡ index + 0 = omega arith in f), some x.closed is)
      where
        same : Some (own_last index x) ≡ Some at → at ≡ own_last index x
        same g = cc

    go : (found_by index found x ≡ Some at) ⊎ ((k : ℕ) × (s : Shape) × (slice_get shapes k ≡ Some s) × (at ≡ own_last (index + 1 + k) s) × (0 < s.closed))
        → (found ≡ Some at) ⊎ ((k : ℕ) × (s : Shape) × (slice_get (x ∷ shapes) k ≡ Some s) × (at ≡ own_last (index + k) s) × (0 < s.closed))
    go (inl h) = by (x.closed == 0) refl (sym (found_is index found x) ∙ h)
    go (inr (k, s, there, is, more)) = inr (suc k, s, there, is ∙ ap (λ i. own_last i s) (let f : index + 1 + k ≡ index + suc k = omega arith in f), more)
