-- A union whose first objects, and first blocks of the next, are gone.
use Rattle.std.proofs.Common.{◌≡◌, ℕ, ◌+◌, ◌-◌, ◌<◌, ◌≤◌, ◌⊎◌, inl, inr, List, drop, false, None, Some, ap, subst, ◌∙◌, arith}
use Rattle.std.specs.Prelude.{slice_get}
use Rattle.std.proofs.lemmas.Bool.{cases_lt}
use Rattle.std.proofs.lemmas.Option.{slice_get_within, get_or_from_slice_get}
use Rattle.fec_plan.specs.Points.{point}
use Rattle.norm_send_rules.specs.SenderState.{SenderState, Asked}
use Rattle.norm_send_rules.specs.Dropping.{dropped_to}
use Rattle.norm_send_rules.specs.InWindow.{current_shapes}
use Rattle.norm_base.specs.Settings.{Settings}
use Rattle.nack_union.specs.Kept.{Kept, Marked, Holds, MayRetire, asked_so_far, retired, moved_front, shape_of_marked}
use Rattle.nack_union.specs.Collected.{Collects}
use Rattle.nack_union.specs.UnionState.{UnionState, Stands}
use Rattle.nack_union.specs.Laws.{MayBeRetired}
use Rattle.nack_union.proofs.Standing.{stands_retired}
use Rattle.nack_union.proofs.Windows.{collects_retired}
use Rattle.nack_union.proofs.Collecting.{window_shape}
use Rattle.nack_union.proofs.Fronts.{front_at}

-- what a union holds and collected
pub holds_retired : (p : Settings) (u : Kept) (s : SenderState) (index block : ℕ) → MayRetire index block u → Holds p u s
    → Holds p (retired index block u) (dropped_to (point index block) s)
holds_retired p u s index block may st =
    let n = index - u.first in
    let from = may.not_back in
    let to = may.within in
    let at : u.first + n ≡ index = omega (arith, from) in
    subst (λ (i : ℕ). Holds p (record u { first = i; objects = moved_front block (drop n u.objects) }) (dropped_to (point i block) s)) at
    (stands_retired p s u n block (omega (arith, from, to)) (λ later. let some = may.some later in omega (arith, some, from)) may.onward st)

pub collected_retired : (p : Settings) (u : Kept) (s : SenderState) (asked : List Asked) (index block : ℕ) → MayRetire index block u → Holds p u s → Collects p u s asked
    → Collects p (retired index block u) (dropped_to (point index block) s) asked
collected_retired p u s asked index block may st col =
    let n = index - u.first in
    let from = may.not_back in
    let to = may.within in
    let at : u.first + n ≡ index = omega (arith, from) in
    subst (λ (i : ℕ). Collects p (record u { first = i; objects = moved_front block (drop n u.objects) }) (dropped_to (point i block) s) asked) at
    (collects_retired p s u asked n block (omega (arith, from, to)) (λ later. let some = may.some later in omega (arith, some, from)) may.onward st col)

-- a union that stood for a state stands, without what lies before a point, for the one in which all before it was dropped
pub retired_stands : (u : UnionState) (s : SenderState) (index block : ℕ) → MayRetire index block u.kept → Stands u s
    → Stands (record u { kept = retired index block u.kept }) (dropped_to (point index block) s)
retired_stands u s index block may st = record {
  holds = holds_retired u.p u.kept s index block may st.holds;
  collects = collected_retired u.p u.kept s (asked_so_far s) index block may st.holds st.collects;
}

-- the law
pub may_be_retired : MayBeRetired
may_be_retired u s index block stands low within onward inside most = record {
  not_back = let first = stands.holds.first in omega (arith, first, low);
  within = let next = stands.holds.next in omega (arith, next, within);
  onward = λ m there. low_block m there (cases_lt 0 (index - u.kept.first));
  some = λ later. let less = (inside later).0 in let next = stands.holds.next in omega (arith, less, next);
  moves = λ later m there. let two = stream later m there in record { stream = two.0; plain = two.1; most = most };
}
  where
    from : u.kept.first ≤ index
    from = let first = stands.holds.first in omega (arith, first, low)

    low_block : (m : Marked) → slice_get u.kept.objects (index - u.kept.first) ≡ Some m → (0 < index - u.kept.first) ⊎ (index - u.kept.first ≤ 0) → m.first ≤ block
    low_block m there (inl some) =
        let lt = slice_get_within u.kept.objects (index - u.kept.first) m there in
        let here = ap (λ (x : Marked). x.first) (get_or_from_slice_get u.kept.objects (index - u.kept.first) m m there) in
        let e = (front_at s.current.drop.block u.kept.objects (index - u.kept.first) m lt stands.holds.fronts).0 some in
        omega (arith, here, e)
    low_block m there (inr none) =
        let lt = slice_get_within u.kept.objects (index - u.kept.first) m there in
        let here = ap (λ (x : Marked). x.first) (get_or_from_slice_get u.kept.objects (index - u.kept.first) m m there) in
        let e = (front_at s.current.drop.block u.kept.objects (index - u.kept.first) m lt stands.holds.fronts).1 (omega (arith, none)) in
        let le = onward (let first = stands.holds.first in omega (arith, none, first, low)) in
        omega (arith, here, e, le)

    stream : 0 < block → (m : Marked) → slice_get u.kept.objects (index - u.kept.first) ≡ Some m → (m.cut.l ≡ None) × (m.info ≡ false)
    stream later m there =
        let lt = slice_get_within u.kept.objects (index - u.kept.first) m there in
        let here = get_or_from_slice_get u.kept.objects (index - u.kept.first) m m there in
        (inside later).1 (shape_of_marked m)
        (ap (slice_get (current_shapes u.p s)) (let e : index ≡ u.kept.first + (index - u.kept.first) = omega (arith, from) in e)
        ∙ window_shape u.p s u.kept (index - u.kept.first) m stands.holds lt
        ∙ ap (λ (x : Marked). Some (shape_of_marked x)) here)
