-- The order as it stands when a request comes has each object of the window as it is.
use Rattle.std.proofs.Common.{◌≡◌, ℕ, zero, suc, ◌+◌, ◌<◌, List, [], ◌∷◌, length, get_or, take, Option, Some, None, sym, ap, ◌∙◌, arith}
use Rattle.std.specs.Prelude.{slice_get}
use Rattle.std.specs.List.{AllByRecursion}
use Rattle.std.proofs.lemmas.List.{length-map, take_all}
use Rattle.norm_base.specs.Settings.{Settings}
use Rattle.fec_plan.specs.declared.position.Position.{Position}
use Rattle.norm_ext.specs.Asking.{Named}
use Rattle.norm_order.specs.Entries.{Entry}
use Rattle.norm_order.specs.Shapes.{Shape, shape_of, last_source}
use Rattle.norm_send_rules.specs.SenderState.{SenderState}
use Rattle.norm_send_rules.specs.InWindow.{current_shapes, next_index}
use Rattle.norm_send_rules.specs.Asking.{closed_at, shapes_at, as_it_came}
use Rattle.nack_union.specs.Collected.{asked_of}
use Rattle.nack_union.specs.Kept.{Marked, Kept, Holds, shape_of_marked}
use Rattle.nack_union.specs.Adding.{IsPlanned}
use Rattle.nack_union.proofs.Collecting.{window_shape}
use Rattle.nack_union.proofs.Windows.{length-shapes_at}
use Rattle.nack_union.proofs.Ends.{marked_ends, closed_by_last}

-- what holds of each holds at a place
pub all_at : (ms : List Marked) (k : ℕ) (d : Marked) → AllByRecursion IsPlanned ms → k < length ms → IsPlanned (get_or ms k d)
all_at [] k d all lt = absurd (omega arith)
all_at (m ∷ ms) zero d all lt = all.0
all_at (m ∷ ms) (suc k) d all lt = all_at ms k d all.1 (omega arith)

-- a shape as it stood
abbrev stood : Option Position → ℕ → Shape → Option Shape
stood last index s = Some (record s { closed = closed_at last index s })

get_at : (last : Option Position) (index : ℕ) (shapes : List Shape) (k : ℕ) (s : Shape) → slice_get shapes k ≡ Some s
    → slice_get (shapes_at last index shapes) k ≡ stood last (index + k) s
unfolding shapes_at
get_at last index [] k s e = absurd (none e)
  where
    none : None ≡ Some s → ⊥
    none g = cc
get_at last index (x ∷ shapes) zero s e =
    ap (stood last index) (same e)
    ∙ ap (λ i. stood last i s) (let f : index ≡ index + 0 = omega arith in f)
  where
    same : Some x ≡ Some s → x ≡ s
    same g = cc
get_at last index (x ∷ shapes) (suc k) s e =
    get_at last (index + 1) shapes k s e ∙ ap (λ i. stood last i s) (let f : index + 1 + k ≡ index + suc k = omega arith in f)

-- each object of the window stands as it is
pub came_at : (p : Settings) (s : SenderState) (u : Kept) (r : Named) (k : ℕ) (d : Marked) → Holds p u s → AllByRecursion IsPlanned u.objects → k < length u.objects
    → slice_get (as_it_came (asked_of p s r) (current_shapes p s)) (u.first + k) ≡ Some (shape_of_marked (get_or u.objects k d))
came_at p s u r k d st planned lt =
    ap (λ shapes. slice_get (shapes_at (last_source (current_shapes p s)) 0 shapes) (u.first + k))
    (ap (λ n. take n (current_shapes p s)) (sym many) ∙ take_all (length (current_shapes p s)) (current_shapes p s) (omega arith))
    ∙ get_at (last_source (current_shapes p s)) 0 (current_shapes p s) (u.first + k) (shape_of_marked (get_or u.objects k d)) (window_shape p s u k d st lt)
    ∙ ap with_closed
    (closed_by_last 0 None (current_shapes p s) (u.first + k) (shape_of_marked (get_or u.objects k d)) tt (window_shape p s u k d st lt)
    (marked_ends (get_or u.objects k d) (all_at u.objects k d planned lt)))
  where
    with_closed : ℕ → Option Shape
    with_closed n = Some (record (shape_of_marked (get_or u.objects k d)) { closed = n })

    many : length (current_shapes p s) ≡ next_index s
    many = length-map s.current.order (λ (e : Entry). shape_of p e.object)

pub length_came : (p : Settings) (s : SenderState) (r : Named) → length (as_it_came (asked_of p s r) (current_shapes p s)) ≡ next_index s
length_came p s r =
    length-shapes_at (last_source (current_shapes p s)) 0 (take (next_index s) (current_shapes p s))
    ∙ ap length (ap (λ n. take n (current_shapes p s)) (sym many) ∙ take_all (length (current_shapes p s)) (current_shapes p s) (omega arith)) ∙ many
  where
    many : length (current_shapes p s) ≡ next_index s
    many = length-map s.current.order (λ (e : Entry). shape_of p e.object)
