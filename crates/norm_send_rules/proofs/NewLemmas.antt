-- What is new next is of the order, and is new once.
use Rattle.std.proofs.Common.{◌≡◌, ℕ, zero, suc, ◌+◌, ◌<◌, ◌≤◌, cond, List, [], ◌∷◌, ◌++◌, length, take, drop, Bool, true, false, None, Some, refl, sym, ap, ◌∙◌, subst, arith, ◌⊎◌, inl, inr}
use Rattle.std.specs.Prelude.{map, find, flat_map, ◌&&◌, not, min, nat_lt, nat_le}
use Rattle.std.specs.List.{AllByRecursion, range_with_len}
use Rattle.std.proofs.Common.{append_assoc}
use Rattle.std.proofs.lemmas.Bool.{cases_lt}
use Rattle.std.proofs.lemmas.Bool.Decides.{Decides-ltb, leb_tells}
use Rattle.std.proofs.lemmas.List.{map-append, length-append, length-take, take-append-drop}
use Rattle.norm_base.specs.Settings.{Settings}
use Rattle.fec_plan.specs.Points.{position, position_before}
use Rattle.fec_plan.specs.declared.position.Position.{Position}
use Rattle.fec_plan.specs.Partition.{source_symbols, encoding_symbols}
use Rattle.norm_order.specs.Entries.{Entry}
use Rattle.norm_order.specs.Shapes.{Shape, shapes_of, symbols_of, closed_in, encoded_in, is_full, closed_blocks, at_index}
use Rattle.norm_send_rules.specs.SenderState.{SenderState}
use Rattle.norm_send_rules.specs.InWindow.{current_shapes, stands_behind}
use Rattle.norm_send_rules.specs.Sending.{sent_once, new_of, new_from, next_new, behind}
use Rattle.norm_send_rules.specs.Wants.{want_before, want_index}
use Rattle.norm_send_rules.specs.Laws.{is_of_order, NewLaws}
use Rattle.norm_send_rules.specs.declared.want.Want.{Want}
use Rattle.norm_send_rules.specs.declared.want.Want.TheVariants.{Info as WantedInfo, Symbol}
use Rattle.fec_plan.proofs.PositionLemmas.{Before, Behind, before_decides, behind as behind_of}
use Rattle.norm_send_rules.proofs.ShapeLemmas.{Blocks, HasParity, shape_parity, blocks_of}

-- a shape behind others is found by its index
pub found_behind : (front : List Shape) (s : Shape) (rest : List Shape) (test : Shape → Bool) → at_index (front ++ s ∷ rest) (length front) false test ≡ test s
found_behind [] s rest test = refl
found_behind (x ∷ front) s rest test = found_behind front s rest test

-- ---- what is new is of the order

-- a want is an info or an encoded symbol of the object with this index
abbrev IsOfShape : ℕ → Shape → Want → Type 0
IsOfShape index s (WantedInfo i) = (i ≡ index) × (s.info ≡ true)
IsOfShape index s (Symbol at) = (at.index ≡ index) × (nat_lt at.symbol (encoded_in s at.block) ≡ true)

pub all_append : (P : Want → Type 0) (xs ys : List Want) → AllByRecursion P xs → AllByRecursion P ys → AllByRecursion P (xs ++ ys)
all_append P [] ys h g = g
all_append P (x ∷ xs) ys h g = (h.0, all_append P xs ys h.1 g)

sent_encoded : (p : Settings) (s : Shape) (block : ℕ) → HasParity s.cut → sent_once p s block ≤ encoded_in s block
sent_encoded p s block parity = go (is_full s block)
  where
    go : (b : Bool) → elim b [ true ↦ min (source_symbols s.cut block + p.auto) (encoding_symbols s.cut block) | false ↦ closed_in s block ]
        ≤ elim b [ true ↦ encoding_symbols s.cut block | false ↦ closed_in s block ]
    go true = omega arith
    go false = omega arith

symbols_of_shape : (p : Settings) (index : ℕ) (s : Shape) (block from count : ℕ) → from + count ≤ encoded_in s block
    → AllByRecursion (IsOfShape index s) (map Symbol (map (λ symbol. position index block symbol) (range_with_len from count)))
symbols_of_shape p index s block from zero le = tt
symbols_of_shape p index s block from (suc count) le =
    ((refl, (Decides-ltb from (encoded_in s block)).1 (omega arith)), symbols_of_shape p index s block (from + 1) count (omega arith))

blocks_of_shape : (p : Settings) (index : ℕ) (s : Shape) → HasParity s.cut → (from count : ℕ)
    → AllByRecursion (IsOfShape index s) (map Symbol (flat_map (λ block. symbols_of index (sent_once p s block) block) (range_with_len from count)))
blocks_of_shape p index s parity from zero = tt
blocks_of_shape p index s parity from (suc count) =
    let A : List Want → Type 0 = λ ws. AllByRecursion (IsOfShape index s) ws in
    subst A (sym (map-append Symbol (symbols_of index (sent_once p s from) from) _))
    (all_append (IsOfShape index s) _ _
    (symbols_of_shape p index s from 0 (sent_once p s from) (let le = sent_encoded p s from parity in omega arith))
    (blocks_of_shape p index s parity (from + 1) count))

new_of_shape : (p : Settings) (index : ℕ) (s : Shape) → HasParity s.cut → AllByRecursion (IsOfShape index s) (new_of p index s)
new_of_shape p index s parity =
    all_append (IsOfShape index s) _ _ (infos s.info refl) (blocks_of_shape p index s parity 0 (closed_blocks s))
  where
    infos : (b : Bool) → s.info ≡ b → AllByRecursion (IsOfShape index s) (cond b (WantedInfo index ∷ []) [])
    infos true e = ((refl, e), tt)
    infos false e = tt

-- the shapes of an order have their parity
abbrev HaveParity : List Shape → Type 0
HaveParity shapes = AllByRecursion (λ (s : Shape). HasParity s.cut) shapes

shapes_parity : (p : Settings) → Blocks p → (order : List Entry) → HaveParity (shapes_of p order)
shapes_parity p blocks [] = tt
shapes_parity p blocks (x ∷ order) = (shape_parity p blocks x.object, shapes_parity p blocks order)

of_order_by : (all : List Shape) (index : ℕ) (s : Shape) → ((test : Shape → Bool) → at_index all index false test ≡ test s)
    → (w : Want) → IsOfShape index s w → is_of_order all w ≡ true
of_order_by all index s found (WantedInfo i) h =
    ap (λ (n : ℕ). at_index all n false (λ x. x.info)) h.0 ∙ found (λ x. x.info) ∙ h.1
of_order_by all index s found (Symbol at) h =
    ap (λ (n : ℕ). at_index all n false (λ x. nat_lt at.symbol (encoded_in x at.block))) h.0
    ∙ found (λ x. nat_lt at.symbol (encoded_in x at.block)) ∙ h.1

pub all_implied : (P Q : Want → Type 0) (ws : List Want) → ((w : Want) → P w → Q w) → AllByRecursion P ws → AllByRecursion Q ws
all_implied P Q [] f all = tt
all_implied P Q (w ∷ ws) f all = (f w all.0, all_implied P Q ws f all.1)

new_of_order : (p : Settings) (front rest : List Shape) (index : ℕ) → index ≡ length front → HaveParity rest
    → AllByRecursion (λ w. is_of_order (front ++ rest) w ≡ true) (new_from p index rest)
unfolding new_from
new_of_order p front [] index e parity = tt
new_of_order p front (s ∷ rest) index e parity =
    let A : List Shape → Type 0 = λ all. AllByRecursion (λ w. is_of_order all w ≡ true) (new_from p (index + 1) rest) in
    let found : (test : Shape → Bool) → at_index (front ++ s ∷ rest) index false test ≡ test s =
    λ test. ap (λ (n : ℕ). at_index (front ++ s ∷ rest) n false test) e ∙ found_behind front s rest test in
    let more = length-append front (s ∷ []) in
    all_append (λ w. is_of_order (front ++ s ∷ rest) w ≡ true) _ _
    (all_implied (IsOfShape index s) (λ w. is_of_order (front ++ s ∷ rest) w ≡ true) (new_of p index s)
    (of_order_by (front ++ s ∷ rest) index s found) (new_of_shape p index s parity.0))
    (subst A (append_assoc front (s ∷ []) rest) (new_of_order p (front ++ s ∷ []) rest (index + 1) (omega arith) parity.1))

found_in : (P : Want → Type 0) (test : Want → Bool) (ws : List Want) (w : Want) → AllByRecursion P ws → find test ws ≡ Some w → P w
found_in P test [] w all e = absurd (none_some w e)
  where
    none_some : (x : Want) → None ≡ Some x → ⊥
    none_some x e = cc
found_in P test (x ∷ ws) w all e = go (test x) (λ e. found_in P test ws w all.1 e) e
  where
    same_want : (x y : Want) → Some x ≡ Some y → x ≡ y
    same_want x y e = cc

    go : (b : Bool) → (find test ws ≡ Some w → P w) → cond b (Some x) (find test ws) ≡ Some w → P w
    go true more e = subst P (same_want x w e) all.0
    go false more e = more e

shapes_drop : (p : Settings) (n : ℕ) (order : List Entry) → shapes_of p (drop n order) ≡ drop n (shapes_of p order)
shapes_drop p zero order = refl
shapes_drop p (suc n) [] = refl
shapes_drop p (suc n) (x ∷ order) = shapes_drop p n order

shapes_many : (p : Settings) (order : List Entry) → length (shapes_of p order) ≡ length order
shapes_many p [] = refl
shapes_many p (x ∷ order) = ap suc (shapes_many p order)

pub new_past : (p : Settings) (n index : ℕ) (order : List Entry) → length order ≤ n → new_from p index (shapes_of p (drop n order)) ≡ []
unfolding new_from
new_past p zero index [] le = refl
new_past p zero index (x ∷ order) le = absurd (omega arith)
new_past p (suc n) index [] le = refl
new_past p (suc n) index (x ∷ order) le = new_past p n index order (omega arith)

new_all : (p : Settings) → Blocks p → (order : List Entry) (index : ℕ)
    → AllByRecursion (λ w. is_of_order (shapes_of p order) w ≡ true) (new_from p index (shapes_of p (drop index order)))
new_all p blocks order index = go (cases_lt index (length order))
  where
    all : List Shape
    all = shapes_of p order

    go : (index < length order) ⊎ (length order ≤ index)
        → AllByRecursion (λ w. is_of_order all w ≡ true) (new_from p index (shapes_of p (drop index order)))
    go (inl lt) =
        let A : List Shape → Type 0 = λ xs. AllByRecursion (λ w. is_of_order xs w ≡ true) (new_from p index (shapes_of p (drop index order))) in
        let taken = length-take index all in
        let many : length all ≡ length order = shapes_many p order in
        let whole : take index all ++ shapes_of p (drop index order) ≡ all =
        ap (λ (xs : List Shape). take index all ++ xs) (shapes_drop p index order) ∙ take-append-drop index all in
        subst A whole (new_of_order p (take index all) (shapes_of p (drop index order)) index (omega arith) (shapes_parity p blocks (drop index order)))
    go (inr le) =
        let A : List Want → Type 0 = λ ws. AllByRecursion (λ w. is_of_order all w ≡ true) ws in
        subst A (sym (new_past p index index order le)) tt

-- What is sent next by itself is of the order.
pub next_of_order : (p : Settings) → Blocks p → (s : SenderState) (w : Want) → next_new p s ≡ Some w → is_of_order (current_shapes p s) w ≡ true
next_of_order p blocks s w e =
    found_in (λ w. is_of_order (current_shapes p s) w ≡ true) (λ w. not (want_before w s.next) && stands_behind s.current.drop w)
    (new_from p (want_index s.next) (shapes_of p (drop (want_index s.next) s.current.order))) w
    (new_all p blocks s.current.order (want_index s.next)) e

-- ---- and is new once

passes_in : (test : Want → Bool) (ws : List Want) (w : Want) → find test ws ≡ Some w → test w ≡ true
passes_in test [] w e = absurd (none_some w e)
  where
    none_some : (x : Want) → None ≡ Some x → ⊥
    none_some x e = cc
passes_in test (x ∷ ws) w e = go (test x) refl (λ e. passes_in test ws w e) e
  where
    same_want : (x y : Want) → Some x ≡ Some y → x ≡ y
    same_want x y e = cc

    go : (b : Bool) → test x ≡ b → (find test ws ≡ Some w → test w ≡ true) → cond b (Some x) (find test ws) ≡ Some w → test w ≡ true
    go true is more e = subst (λ (y : Want). test y ≡ true) (same_want x w e) is
    go false is more e = more e

clash : false ≡ true → ⊥
clash e = cc

not_less : (a b : ℕ) → nat_lt a b ≡ false → b ≤ a
not_less a b e = let no : a < b → ⊥ = λ lt. clash (sym e ∙ (Decides-ltb a b).1 lt) in omega arith

not_most : (a b : ℕ) → nat_le a b ≡ false → b < a
not_most a b e = go (leb_tells a b)
  where
    go : ((nat_le a b ≡ true) × (a ≤ b)) ⊎ ((nat_le a b ≡ false) × (b < a)) → b < a
    go (inl tells) = absurd (clash (sym e ∙ tells.0))
    go (inr tells) = tells.1

at_most : (a b : ℕ) → a ≤ b → nat_le a b ≡ true
at_most a b le = go (leb_tells a b)
  where
    go : ((nat_le a b ≡ true) × (a ≤ b)) ⊎ ((nat_le a b ≡ false) × (b < a)) → nat_le a b ≡ true
    go (inl tells) = tells.0
    go (inr tells) = absurd (omega (arith, tells.1))

-- what is not before the place behind a position is behind that position
behind_position : (a b : Position) → position_before b (position a.index a.block (a.symbol + 1)) ≡ false → position_before a b ≡ true
behind_position a b e = (before_decides a b).1 (go (behind_of b (position a.index a.block (a.symbol + 1)) (ap not e)))
  where
    go : Behind b (position a.index a.block (a.symbol + 1)) → Before a b
    go (inl lt) = inl (inl lt)
    go (inr (same, inl lt)) = inl (inr (same, lt))
    go (inr (same, inr (too, le))) = inr ((same, too), omega arith)

after_behind : (last w : Want) → want_before w (behind last) ≡ false → want_before last w ≡ true
after_behind (WantedInfo i) (WantedInfo j) e = (Decides-ltb i j).1 (not_most j i e)
after_behind (WantedInfo i) (Symbol at) e = at_most i at.index (go (behind_of at (position i 0 0) (ap not e)))
  where
    go : Behind at (position i 0 0) → i ≤ at.index
    go (inl lt) = omega arith
    go (inr (same, more)) = omega arith
after_behind (Symbol a) (WantedInfo j) e = (Decides-ltb a.index j).1 (not_most j a.index e)
after_behind (Symbol a) (Symbol b) e = behind_position a b e

both_true : (a b : Bool) → (a && b) ≡ true → (a ≡ true) × (b ≡ true)
both_true true true e = (refl, refl)
both_true true false e = absurd (clash e)
both_true false b e = absurd (clash e)

-- what is new is not before the next place, and stands behind the drop point
new_stands : (p : Settings) (s : SenderState) (w : Want) → next_new p s ≡ Some w → (not (want_before w s.next) ≡ true) × (stands_behind s.current.drop w ≡ true)
new_stands p s w e = both_true (not (want_before w s.next)) (stands_behind s.current.drop w)
    (passes_in (λ w. not (want_before w s.next) && stands_behind s.current.drop w)
    (new_from p (want_index s.next) (shapes_of p (drop (want_index s.next) s.current.order))) w e)

not_is : (b : Bool) → not b ≡ true → b ≡ false
not_is true e = absurd (clash e)
not_is false e = refl

pub new_laws : NewLaws
new_laws = record {
  of_order = λ p s w range e. next_of_order p (blocks_of p range) s w e;
  in_window = λ p s w e. (new_stands p s w e).1;
  rises = λ p s last w is e.
      after_behind last w (not_is (want_before w (behind last)) (subst (λ (next : Want). not (want_before w next) ≡ true) is (new_stands p s w e).0));
}
