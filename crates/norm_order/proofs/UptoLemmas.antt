-- What stands before a watermark, as the position and the order grow.
use Rattle.std.proofs.Common.{◌≡◌, ℕ, zero, suc, ◌+◌, ◌-◌, ◌*◌, ◌<◌, ◌≤◌, ◌⊎◌, inl, inr, List, [], ◌∷◌, ◌++◌, length, take, drop, Bool, true, false, Option, None, Some, refl, sym, ap, ◌∙◌, arith, append_assoc, append-nil}
use Rattle.std.specs.Prelude.{slice_get, min, nat_lt}
use Rattle.std.proofs.lemmas.Bool.Decides.{Decides-ltb}
use Rattle.std.proofs.lemmas.List.{take-append-le, take-append-drop}
use Rattle.std.proofs.lemmas.Option.{slice_get_within}
use Rattle.std.proofs.Math.Seq.{take-add}
use Rattle.std.proofs.Math.Nat.{mul-le-mul_right}
use Rattle.norm_base.specs.Settings.{Settings}
use Rattle.fec_plan.specs.declared.position.Position.{Position}
use Rattle.fec_plan.specs.Points.{position, reaches}
use Rattle.norm_order.specs.declared.up.Up.{Up}
use Rattle.norm_order.specs.Entries.{Object, Whole, Stream, Entry}
use Rattle.norm_order.specs.Shapes.{Shape, shape_of, shapes_of, at_index, closed_in, last_in}
use Rattle.norm_order.specs.Upto.{parts_of, all_parts, parts_through, upto}
use Rattle.fec_plan.proofs.PositionLemmas.{Behind, behind, reached, behind_both}
use Rattle.norm_order.specs.Laws.{GrowsWithPosition, KeptAsOrderGrows}

still_reaches : (later at goal : Position) → Behind later at → reaches at goal ≡ true → reaches later goal ≡ true
still_reaches later at goal h e = reached later goal (behind_both later at goal h (behind at goal e))

clash : false ≡ true → ⊥
clash e = cc

-- a list or none
abbrev when : Bool → List Up → List Up
when b ups = elim b [ true ↦ ups | false ↦ [] ]

when_front : (b c : Bool) (ups : List Up) → (b ≡ true → c ≡ true) → (rest : List Up) × (when b ups ++ rest ≡ when c ups)
when_front false c ups h = (when c ups, refl)
when_front true true ups h = ([], append-nil ups)
when_front true false ups h = absurd (clash (h refl))

take_front : (n m : ℕ) (ups : List Up) → n ≤ m → (rest : List Up) × (take n ups ++ rest ≡ take m ups)
take_front n m ups le = (take (m - n) (drop n ups), sym (take-add n (m - n) ups) ∙ ap (λ k. take k ups) (let e : n + (m - n) ≡ m = omega arith in e))

abbrev ends : Option Position → Position → Bool
ends last at = elim last [ Some l ↦ reaches at l | None ↦ false ]

ends_later : (last : Option Position) (at later : Position) → Behind later at → ends last at ≡ true → ends last later ≡ true
ends_later None at later h e = e
ends_later (Some l) at later h e = still_reaches later at l h e

number_grows : (size b s b' s' : ℕ) → s < size → (b < b') ⊎ ((b ≡ b') × (s ≤ s')) → 2 + (b * size + s) ≤ 2 + (b' * size + s')
number_grows size b s b' s' lt (inl less) = omega (arith, mul-le-mul_right size less)
number_grows size b s b' s' lt (inr (same, le)) = rw (← same) (omega arith)

below_min : (a b c : ℕ) → a < min b c → a < b
below_min a b c h = omega arith

-- two positions of one object
abbrev NotBefore : ℕ → ℕ → ℕ → ℕ → Type 0
NotBefore b s b' s' = (b < b') ⊎ ((b ≡ b') × (s ≤ s'))

part_front : (p : Settings) (i b s b' s' : ℕ) (object : Object) → NotBefore b s b' s' → s < closed_in (shape_of p object) b
    → (rest : List Up) × (parts_through p (position i b s) object ++ rest ≡ parts_through p (position i b' s') object)
part_front p i b s b' s' (Whole kind info octets) h lt =
    let last = last_in i (shape_of p (Whole kind info octets)) in
    when_front (ends last (position i b s)) (ends last (position i b' s')) (parts_of p i (Whole kind info octets))
    (ends_later last (position i b s) (position i b' s') (inr (refl, h)))
part_front p i b s b' s' (Stream parts) h lt =
    take_front (2 + (b * p.b + s)) (2 + (b' * p.b + s')) (parts_of p i (Stream parts))
    (number_grows p.b b s b' s' (below_min s p.b _ lt) h)

part_of_all : (p : Settings) (at : Position) (object : Object) → (rest : List Up) × (parts_through p at object ++ rest ≡ parts_of p at.index object)
part_of_all p at (Whole kind info octets) =
    when_front (ends (last_in at.index (shape_of p (Whole kind info octets))) at) true (parts_of p at.index (Whole kind info octets)) (λ e. refl)
part_of_all p at (Stream parts) =
    let n = 2 + (at.block * p.b + at.symbol) in
    (drop n (parts_of p at.index (Stream parts)), take-append-drop n (parts_of p at.index (Stream parts)))

pub source_entry : (p : Settings) (order : List Entry) (i : ℕ) (test : Shape → Bool) → at_index (shapes_of p order) i false test ≡ true
    → (entry : Entry) × ((slice_get order i ≡ Some entry) × (test (shape_of p entry.object) ≡ true))
source_entry p [] i test e = absurd (clash e)
source_entry p (entry ∷ order) zero test e = (entry, (refl, e))
source_entry p (entry ∷ order) (suc i) test e = source_entry p order i test e

pub same_entry : (x y : Entry) → Some x ≡ Some y → x ≡ y
same_entry x y e = cc

pub nothing_there : (x : Entry) → None ≡ Some x → ⊥
nothing_there x e = cc

entries_front : (p : Settings) (first n : ℕ) (order : List Entry) (i j : ℕ) (entry : Entry) → slice_get order i ≡ Some entry → i < j → n ≡ first + i
    → (rest : List Up) × ((all_parts p first (take i order) ++ parts_of p n entry.object) ++ rest ≡ all_parts p first (take j order))
unfolding all_parts
entries_front p first n [] i j entry e lt is = absurd (nothing_there entry e)
entries_front p first n (x ∷ order) i zero entry e lt is = absurd (omega arith)
entries_front p first n (x ∷ order) zero (suc j) entry e lt is =
    let same : n ≡ first = omega arith in (
      all_parts p (first + 1) (take j order),
      ap (λ (m : ℕ). parts_of p m entry.object ++ all_parts p (first + 1) (take j order)) same
          ∙ ap (λ (y : Entry). parts_of p first y.object ++ all_parts p (first + 1) (take j order)) (sym (same_entry x entry e)),
    )
entries_front p first n (x ∷ order) (suc i) (suc j) entry e lt is =
    let more = entries_front p (first + 1) n order i j entry e (omega arith) (omega arith) in (
      more.0,
      ap (λ list. list ++ more.0) (append_assoc (parts_of p first x.object) (all_parts p (first + 1) (take i order)) (parts_of p n entry.object))
          ∙ append_assoc (parts_of p first x.object) (all_parts p (first + 1) (take i order) ++ parts_of p n entry.object) more.0
          ∙ ap (λ list. parts_of p first x.object ++ list) more.1,
    )

joins : (a t r p s all e : List Up) → t ++ r ≡ p → (a ++ p) ++ s ≡ all → (a ++ t) ++ (r ++ (s ++ e)) ≡ all ++ e
joins a t r p s all e h k =
    append_assoc a t (r ++ (s ++ e))
    ∙ ap (λ x. a ++ x) (sym (append_assoc t r (s ++ e)))
    ∙ ap (λ x. a ++ (x ++ (s ++ e))) h
    ∙ sym (append_assoc a p (s ++ e))
    ∙ sym (append_assoc (a ++ p) s e)
    ∙ ap (λ x. x ++ e) k

-- what stands at the watermark's index
abbrev pub there : Settings → Position → Option Entry → List Up
there p at found = elim found [ Some entry ↦ parts_through p at entry.object | None ↦ [] ]

pub found_front : (xs ys : List Entry) (i : ℕ) (x : Entry) → slice_get xs i ≡ Some x → slice_get (xs ++ ys) i ≡ Some x
found_front [] ys i x e = absurd (nothing_there x e)
found_front (y ∷ xs) ys zero x e = e
found_front (y ∷ xs) ys (suc i) x e = found_front xs ys i x e

-- what joins the order behind a watermark's entry changes nothing before the watermark
pub kept_within : (p : Settings) (order more : List Entry) (at : Position) (entry : Entry) → slice_get order at.index ≡ Some entry
    → upto p (order ++ more) at ≡ upto p order at
kept_within p order more at entry found =
    let within : at.index < length order = slice_get_within order at.index entry found in
    ap (λ before. all_parts p 0 before ++ there p at (slice_get (order ++ more) at.index)) (take-append-le at.index order more (omega arith))
    ∙ ap (λ now. all_parts p 0 (take at.index order) ++ there p at now) (found_front order more at.index entry found ∙ sym found)

pub kept_as_order_grows : KeptAsOrderGrows
kept_as_order_grows p order more at is =
    let s = source_entry p order at.index (λ shape. nat_lt at.symbol (closed_in shape at.block)) is in
    kept_within p order more at s.0 s.1.0

later_object : (p : Settings) (order : List Entry) (at later : Position) (entry : Entry) → slice_get order at.index ≡ Some entry → at.index < later.index
    → (rest : List Up) × (upto p order at ++ rest ≡ upto p order later)
later_object p order at later entry e lt =
    let part = part_of_all p at entry.object in
    let more = entries_front p 0 at.index order at.index later.index entry e lt (omega arith) in
    let after = there p later (slice_get order later.index) in (
      part.0 ++ (more.0 ++ after),
      ap (λ found. (all_parts p 0 (take at.index order) ++ there p at found) ++ (part.0 ++ (more.0 ++ after))) e
          ∙ joins (all_parts p 0 (take at.index order)) (parts_through p at entry.object) part.0 (parts_of p at.index entry.object) more.0
          (all_parts p 0 (take later.index order)) after part.1 more.1,
    )

later_part : (p : Settings) (order : List Entry) (i b s b' s' : ℕ) (entry : Entry) → slice_get order i ≡ Some entry → NotBefore b s b' s'
    → s < closed_in (shape_of p entry.object) b
    → (rest : List Up) × (upto p order (position i b s) ++ rest ≡ upto p order (position i b' s'))
later_part p order i b s b' s' entry e h lt =
    let part = part_front p i b s b' s' entry.object h lt in
    let before = all_parts p 0 (take i order) in (
      part.0,
      ap (λ found. (before ++ there p (position i b s) found) ++ part.0) e
          ∙ append_assoc before (parts_through p (position i b s) entry.object) part.0
          ∙ ap (λ list. before ++ list) part.1
          ∙ ap (λ found. before ++ there p (position i b' s') found) (sym e),
    )

pub grows_with_position : GrowsWithPosition
grows_with_position p order at later is h = go (behind later at h)
  where
    s : (entry : Entry) × ((slice_get order at.index ≡ Some entry) × (nat_lt at.symbol (closed_in (shape_of p entry.object) at.block) ≡ true))
    s = source_entry p order at.index (λ shape. nat_lt at.symbol (closed_in shape at.block)) is

    go : Behind later at → (rest : List Up) × (upto p order at ++ rest ≡ upto p order later)
    go (inl lt) = later_object p order at later s.0 s.1.0 lt
    go (inr (same, within)) =
        let grown = later_part p order at.index at.block at.symbol later.block later.symbol s.0 s.1.0 within ((Decides-ltb at.symbol _).0 s.1.1) in
        (grown.0, grown.1 ∙ ap (λ i. upto p order (position i later.block later.symbol)) same)
