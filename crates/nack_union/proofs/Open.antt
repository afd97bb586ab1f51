-- The open stream of an order, as a union has it.
use Rattle.std.proofs.Common.{◌≡◌, ℕ, ◌+◌, ◌-◌, ◌*◌, ◌<◌, ◌≤◌, ◌⊎◌, inl, inr, Bool, true, false, List, [], ◌∷◌, ◌++◌, map, length, get_or, Some, refl, sym, ap, ◌∙◌, arith}
use Rattle.std.specs.Prelude.{min, slice_get, ◌==◌}
use Rattle.std.proofs.Math.Nat.{mul-le-mul_right}
use Rattle.std.proofs.lemmas.List.{map-append, length-append, length-map}
use Rattle.std.proofs.lemmas.Option.{get_or_from_slice_get}
use Rattle.fec_plan.specs.Partition.{most_blocks}
use Rattle.norm_order.specs.Entries.{Object, Stream, Entry}
use Rattle.norm_order.specs.Shapes.{Shape, shape_of, shapes_of}
use Rattle.norm_send_rules.specs.InWindow.{current_shapes}
use Rattle.norm_send_rules.proofs.WantLemmas.{ends_open}
use Rattle.nack_union.specs.Kept.{Marked, MayGrow, shape_of_marked}
use Rattle.norm_send_rules.specs.InWindow.{last_index}
use Rattle.std.proofs.lemmas.Bool.{cases_lt}
use Rattle.std.proofs.lemmas.Bool.Decides.{Decides-eqb}
use Rattle.nack_union.specs.Laws.{OpenStreamsMayGrow, front_of}
use Rattle.nack_union.proofs.Fronts.{front_at}
use Rattle.nack_union.proofs.Collecting.{window_shape}
use Rattle.nack_union.proofs.Rooms.{room_at}

at_end : (xs : List Shape) (x : Shape) → slice_get (xs ++ x ∷ []) (length xs) ≡ Some x
at_end [] x = refl
at_end (y ∷ xs) x = at_end xs x

one : {x y : Shape} → Some x ≡ Some y → x ≡ y
one e = cc

pub open_streams_may_grow : OpenStreamsMayGrow
open_streams_may_grow u s parts closed stands is_open kept more room = record { some = some; last = λ m is. grows m is }
  where
    front : List Entry
    front = (ends_open s.current.order parts is_open).0

    last : Entry
    last = (ends_open s.current.order parts is_open).1

    is_order : s.current.order ≡ front ++ last ∷ []
    is_order = (ends_open s.current.order parts is_open).2

    many : length s.current.order ≡ length front + 1
    many = ap (λ (es : List Entry). length es) is_order ∙ length-append front (last ∷ [])

    some : 0 < length u.kept.objects
    some = let first = stands.holds.first in let next = stands.holds.next in omega (arith, first, next, many, kept)

    of_order : slice_get (current_shapes u.p s) (length front) ≡ Some (shape_of u.p (Stream parts))
    of_order =
        ap (λ (es : List Entry). slice_get (shapes_of u.p es) (length front)) is_order
        ∙ ap (λ (xs : List Shape). slice_get xs (length front)) (map-append (λ (e : Entry). shape_of u.p e.object) front (last ∷ []))
        ∙ ap (slice_get (map (λ (e : Entry). shape_of u.p e.object) front ++ shape_of u.p last.object ∷ [])) (sym (length-map front (λ (e : Entry). shape_of u.p e.object)))
        ∙ at_end (map (λ (e : Entry). shape_of u.p e.object) front) (shape_of u.p last.object)
        ∙ ap (λ (o : Object). Some (shape_of u.p o)) (ends_open s.current.order parts is_open).3

    grows : (m : Marked) → slice_get u.kept.objects (length u.kept.objects - 1) ≡ Some m → MayGrow u.p closed m
    grows m is = record {
      cut = ap (λ (x : Shape). x.cut) (sym same);
      info = ap (λ (x : Shape). x.info) (sym same);
      more = let as_many = ap (λ (x : Shape). x.closed) same in omega (arith, as_many, more);
      room =
          let fits = room_at u.p u.kept.objects (length u.kept.objects - 1) m lt stands.holds.rooms (ap (λ (x : Marked). x.cut.l) here ∙ ap (λ (x : Shape). x.cut.l) (sym same)) in
          let as_many = ap (λ (x : Marked). length x.counts) here in
          let front = ap (λ (x : Marked). x.first) here in
          let starts = last_front in
          let up : min (front_of s + u.p.blocks) most_blocks * u.p.b ≤ min (length m.counts) most_blocks * u.p.b = mul-le-mul_right u.p.b (omega (arith, fits, as_many, front, starts)) in
          omega (arith, room, up);
    }
      where
        lt : length u.kept.objects - 1 < length u.kept.objects
        lt = omega (arith, some)

        here : get_or u.kept.objects (length u.kept.objects - 1) m ≡ m
        here = get_or_from_slice_get u.kept.objects (length u.kept.objects - 1) m m is

        last_front : (get_or u.kept.objects (length u.kept.objects - 1) m).first ≡ front_of s
        last_front = go (s.current.drop.index == last_index s) refl
          where
            fronts : (0 < length u.kept.objects - 1 → (get_or u.kept.objects (length u.kept.objects - 1) m).first ≡ 0)
                × (length u.kept.objects - 1 ≡ 0 → (get_or u.kept.objects (length u.kept.objects - 1) m).first ≡ s.current.drop.block)
            fronts = front_at s.current.drop.block u.kept.objects (length u.kept.objects - 1) m lt stands.holds.fronts

            clash : true ≡ false → ⊥
            clash e = cc

            go : (b : Bool) → (s.current.drop.index == last_index s) ≡ b
                → (get_or u.kept.objects (length u.kept.objects - 1) m).first ≡ elim b as (λ _. ℕ) [ true ↦ s.current.drop.block | false ↦ 0 ]
            go true e =
                let is = (Decides-eqb s.current.drop.index (last_index s)).0 e in
                let first = stands.holds.first in
                let next = stands.holds.next in
                fronts.1 (omega (arith, is, first, next, some))
            go false e = by (cases_lt 0 (length u.kept.objects - 1))
              where
                by : (0 < length u.kept.objects - 1) ⊎ (length u.kept.objects - 1 ≤ 0) → (get_or u.kept.objects (length u.kept.objects - 1) m).first ≡ 0
                by (inl more) = fronts.0 more
                by (inr none) =
                    let first = stands.holds.first in
                    let next = stands.holds.next in
                    absurd (clash (sym ((Decides-eqb s.current.drop.index (last_index s)).1 (omega (arith, first, next, some, none))) ∙ e))

        same : shape_of u.p (Stream parts) ≡ shape_of_marked m
        same =
            one (sym of_order
            ∙ ap (slice_get (current_shapes u.p s)) (let first = stands.holds.first in let next = stands.holds.next in let e : length front ≡ u.kept.first + (length u.kept.objects - 1) = omega (arith, first, next, many, some) in e)
            ∙ window_shape u.p s u.kept (length u.kept.objects - 1) m stands.holds lt
            ∙ ap (λ (x : Marked). Some (shape_of_marked x)) here)
