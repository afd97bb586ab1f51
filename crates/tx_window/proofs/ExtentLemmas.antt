-- The extents that a window keeps.
use Rattle.std.proofs.Common.{◌≡◌, ℕ, zero, suc, ◌+◌, ◌-◌, ◌<◌, ◌≤◌, ◌⊎◌, inl, inr, refl, sym, ap, ◌∙◌, subst, arith, Option, Some, None, List, [], ◌∷◌, ◌++◌, length, length-append, map, drop}
use Rattle.std.specs.Prelude.{slice_get, slice_set, nat_lt, Bool, false}
use Rattle.std.proofs.lemmas.Bool.{cases_lt}
use Rattle.std.proofs.lemmas.List.{length-drop, length-map, map-append, map-set}
use Rattle.std.proofs.lemmas.Option.{slice_get-map}
use Rattle.norm_base.specs.Settings.{Settings}
use Rattle.fec_plan.specs.declared.position.Position.{Position}
use Rattle.norm_order.specs.Shapes.{Shape, is_source, closed_in}
use Rattle.norm_send_rules.specs.SenderState.{SenderState}
use Rattle.norm_send_rules.specs.InWindow.{current_shapes, last_index}
use Rattle.tx_window.specs.WindowState.{most_kept, without_info, WindowState, Stands}
use Rattle.tx_window.specs.Asked.{from_first}
use Rattle.tx_window.proofs.ListLemmas.{slice_get-drop, found_at, found_behind, none_at, map_drop, set_get}
use Rattle.tx_window.specs.Extents.{shape_of_extent, IsSized}
use Rattle.tx_window.specs.declared.extent.Extent.{Extent}
use Rattle.tx_window.specs.declared.extent.Extent.TheVariants as extent

abbrev pub AreSized : List Extent → Type 0
AreSized xs = (i : ℕ) (x : Extent) → slice_get xs i ≡ Some x → IsSized x

same_extent : (a b : Extent) → Some a ≡ Some b → a ≡ b
same_extent a b e = cc

pub sized_more : (xs : List Extent) (x : Extent) → AreSized xs → IsSized x → AreSized (xs ++ x ∷ [])
sized_more [] x sized one zero y e = subst IsSized (same_extent x y e) one
sized_more [] x sized one (suc i) y e = absurd (cc)
sized_more (z ∷ xs) x sized one zero y e = sized 0 y e
sized_more (z ∷ xs) x sized one (suc i) y e = sized_more xs x (λ j w f. sized (suc j) w f) one i y e

pub sized_behind : (n : ℕ) (xs : List Extent) → AreSized xs → AreSized (drop n xs)
sized_behind n xs sized i y e = sized (n + i) y (sym (slice_get-drop n xs i) ∙ e)

pub sized_set : (xs : List Extent) (n : ℕ) (x : Extent) → AreSized xs → IsSized x → AreSized (slice_set xs n x)
sized_set xs n x sized one i y e = go (set_get xs n i x y e)
  where
    go : ((i ≡ n) × (y ≡ x)) ⊎ ((i ≡ n → ⊥) × (slice_get xs i ≡ Some y)) → IsSized y
    go (inl here) = subst IsSized (sym here.1) one
    go (inr other) = sized i y other.1

-- those that are forgotten and those that are kept are all
pub counted_more : (old new : ℕ) (xs ys : List Extent) (x : Extent) (all more : ℕ) → ys ≡ drop (new - old) (xs ++ x ∷ [])
    → (new ≡ old) ⊎ ((new ≡ old + 1) × (most_kept ≤ length xs)) → old + length xs ≡ all → all + 1 ≡ more → new + length ys ≡ more
counted_more old new xs ys x all more is counted numbered next = go counted
  where
    long : length ys ≡ length xs + 1 - (new - old)
    long = omega (arith, ap length is, length-drop (new - old) (xs ++ x ∷ []), length-append xs (x ∷ []))

    go : (new ≡ old) ⊎ ((new ≡ old + 1) × (most_kept ≤ length xs)) → new + length ys ≡ more
    go (inl same) = omega (arith, same, long, numbered, next)
    go (inr one) = omega (arith, one.0, one.1, long, numbered, next)

pub shapes_more : (p : Settings) (n : ℕ) (xs ys : List Extent) (x : Extent) → ys ≡ drop n (xs ++ x ∷ [])
    → drop n (map (shape_of_extent p) xs ++ shape_of_extent p x ∷ []) ≡ map (shape_of_extent p) ys
shapes_more p n xs ys x is =
    ap (drop n) (sym (map-append (shape_of_extent p) xs (x ∷ [])))
    ∙ sym (map_drop (shape_of_extent p) n (xs ++ x ∷ []))
    ∙ ap (map (shape_of_extent p)) (sym is)

-- ---- which positions are closed source symbols

-- whether a symbol is closed of an entry that may be there
abbrev is_closed : Position → Option Shape → Bool
is_closed at r = elim r as (λ v. Bool) [ Some x ↦ nat_lt at.symbol (closed_in x at.block) | None ↦ false ]

closed_without : (at : Position) (r : Option Shape) → is_closed at (Rattle.std.specs.Prelude.option_map without_info r) ≡ is_closed at r
closed_without at (Some x) = refl
closed_without at None = refl

shape_there : (w : WindowState) (s : SenderState) (index : ℕ) → Stands w s → w.forgotten ≤ index
    → Rattle.std.specs.Prelude.option_map without_info (slice_get (current_shapes w.p s) index) ≡ slice_get w.shapes (index - w.forgotten)
shape_there w s index stands le =
    ap (λ n. Rattle.std.specs.Prelude.option_map without_info (slice_get (current_shapes w.p s) n)) (let e : index ≡ w.forgotten + (index - w.forgotten) = omega (arith, le) in e)
    ∙ ap (Rattle.std.specs.Prelude.option_map without_info) (sym (slice_get-drop w.forgotten (current_shapes w.p s) (index - w.forgotten)))
    ∙ sym (slice_get-map without_info (drop w.forgotten (current_shapes w.p s)) (index - w.forgotten))
    ∙ ap (λ (xs : List Shape). slice_get xs (index - w.forgotten)) stands.shapes

-- by the extent of the entry with this index
pub source_of : (w : WindowState) (s : SenderState) (xs : List Extent) (at : Position) (x : Extent) → w.shapes ≡ map (shape_of_extent w.p) xs → Stands w s → Some x ≡ from_first w.forgotten xs at.index
    → is_source (current_shapes w.p s) at ≡ nat_lt at.symbol (closed_in (shape_of_extent w.p x) at.block)
source_of w s xs at x shapes stands found =
    sym (closed_without at (slice_get (current_shapes w.p s) at.index))
    ∙ ap (is_closed at) (shape_there w s at.index stands (found_behind w.forgotten at.index xs x found)
    ∙ ap (λ ys. slice_get ys (at.index - w.forgotten)) shapes
    ∙ slice_get-map (shape_of_extent w.p) xs (at.index - w.forgotten)
    ∙ ap (Rattle.std.specs.Prelude.option_map (shape_of_extent w.p)) (found_at w.forgotten at.index xs x found))

-- of no entry that an id names the extent is lacking
pub source_none : (w : WindowState) (s : SenderState) (xs : List Extent) (at : Position) → w.shapes ≡ map (shape_of_extent w.p) xs → Stands w s → last_index s ≤ at.index + 32768
    → None ≡ from_first w.forgotten xs at.index → is_source (current_shapes w.p s) at ≡ false
source_none w s xs at shapes stands near none = go (cases_lt at.index w.forgotten)
  where
    go : (at.index < w.forgotten) ⊎ (w.forgotten ≤ at.index) → is_source (current_shapes w.p s) at ≡ false
    go (inl before) = absurd (omega (arith, before, near, stands.kept))
    go (inr behind) =
        sym (closed_without at (slice_get (current_shapes w.p s) at.index))
        ∙ ap (is_closed at) (shape_there w s at.index stands behind
        ∙ ap (λ ys. slice_get ys (at.index - w.forgotten)) shapes
        ∙ slice_get-map (shape_of_extent w.p) xs (at.index - w.forgotten)
        ∙ ap (Rattle.std.specs.Prelude.option_map (shape_of_extent w.p)) (none_at w.forgotten at.index xs behind none))

-- the last extent was set
pub shapes_set : (p : Settings) (xs : List Extent) (segments : ℕ) (shape : Shape) → shape_of_extent p (extent.Stream segments) ≡ without_info shape
    → map (shape_of_extent p) (slice_set xs (length xs - 1) (extent.Stream segments)) ≡ slice_set (map (shape_of_extent p) xs) (length (map (shape_of_extent p) xs) - 1) (without_info shape)
shapes_set p xs segments shape is =
    map-set (shape_of_extent p) xs (length xs - 1) (extent.Stream segments)
    ∙ ap (λ n. slice_set (map (shape_of_extent p) xs) (n - 1) (shape_of_extent p (extent.Stream segments))) (sym (length-map xs (shape_of_extent p)))
    ∙ ap (slice_set (map (shape_of_extent p) xs) (length (map (shape_of_extent p) xs) - 1)) is
