-- What stands before a watermark, as an open stream goes on.
use Rattle.std.proofs.Common.{◌≡◌, ℕ, zero, suc, ◌+◌, ◌-◌, ◌*◌, ◌<◌, ◌≤◌, ◌⊎◌, inl, inr, List, [], ◌∷◌, ◌++◌, length, take, map, Bool, true, false, Some, refl, sym, ap, ◌∙◌, arith}
use Rattle.std.specs.Prelude.{min, slice_get, nat_lt}
use Rattle.std.proofs.lemmas.Bool.Decides.{Decides-ltb}
use Rattle.std.proofs.lemmas.List.{length-map}
use Rattle.std.proofs.Math.Seq.{take-append_seam}
use Rattle.norm_base.specs.Settings.{Settings}
use Rattle.norm_base.specs.declared.node.Origin.{Origin}
use Rattle.fec_plan.specs.declared.position.Position.{Position}
use Rattle.norm_order.specs.declared.up.Up.{Up}
use Rattle.norm_order.specs.declared.up.Up.TheVariants as up
use Rattle.norm_order.specs.Entries.{Part, Stream, Entry}
use Rattle.norm_order.specs.Segments.{closed_from, segments, has_end}
use Rattle.norm_order.specs.Shapes.{Shape, shape_of, shapes_of, at_index, closed_in, is_source}
use Rattle.norm_order.specs.Upto.{segment_up, parts_of, all_parts, parts_through, upto}
use Rattle.norm_order.specs.Laws.{with_stream, KeptAsStreamGoesOn}
use Rattle.norm_order.proofs.StreamLemmas.{closed_begin, closed_grow, placed_begin, length-placed, map_begin, take_of_front}
use Rattle.norm_order.proofs.UptoLemmas.{source_entry, nothing_there, same_entry, found_front, there, kept_within}

abbrev Within : ℕ → ℕ → ℕ → ℕ → Type 0
Within k closed before symbol = symbol < min k (closed - before)

more_within : (k closed more before symbol : ℕ) → closed ≤ more → Within k closed before symbol → Within k more before symbol
more_within k closed more before symbol le lt = omega arith

behind_front : (k closed number symbol : ℕ) → Within k closed (number + 0) symbol → 2 + (number + symbol) ≤ 1 + closed
behind_front k closed number symbol lt = omega arith

-- an entry is there in the shapes of its order
pub entry_source : (p : Settings) (order : List Entry) (i : ℕ) (test : Shape → Bool) (entry : Entry) → slice_get order i ≡ Some entry
    → test (shape_of p entry.object) ≡ true → at_index (shapes_of p order) i false test ≡ true
entry_source p [] i test entry found e = absurd (nothing_there entry found)
entry_source p (x ∷ order) zero test entry found e = ap (λ (y : Entry). test (shape_of p y.object)) (same_entry x entry found) ∙ e
entry_source p (x ∷ order) (suc i) test entry found e = entry_source p order i test entry found e

-- an entry of an order with one more is one of the order, or that one
pub before_or_last : (order : List Entry) (last : Entry) (i : ℕ) (entry : Entry) → slice_get (order ++ last ∷ []) i ≡ Some entry
    → (slice_get order i ≡ Some entry) ⊎ ((i ≡ length order) × (last ≡ entry))
before_or_last [] last zero entry e = inr (refl, same_entry last entry e)
before_or_last [] last (suc i) entry e = absurd (nothing_there entry e)
before_or_last (x ∷ order) last zero entry e = inl e
before_or_last (x ∷ order) last (suc i) entry e = go (before_or_last order last i entry e)
  where
    go : (slice_get order i ≡ Some entry) ⊎ ((i ≡ length order) × (last ≡ entry))
        → (slice_get (x ∷ order) (suc i) ≡ Some entry) ⊎ ((suc i ≡ suc (length order)) × (last ≡ entry))
    go (inl h) = inl h
    go (inr h) = inr (ap suc h.0, h.1)

pub last_there : (order : List Entry) (last : Entry) → slice_get (order ++ last ∷ []) (length order) ≡ Some last
last_there [] last = refl
last_there (x ∷ order) last = last_there order last

-- the last entry's part before a watermark
upto_last : (p : Settings) (order : List Entry) (last : Entry) (at : Position) → at.index ≡ length order
    → upto p (order ++ last ∷ []) at ≡ all_parts p 0 order ++ parts_through p at last.object
upto_last p order last at is =
    ap (λ n. all_parts p 0 (take n (order ++ last ∷ [])) ++ there p at (slice_get (order ++ last ∷ []) n)) is
    ∙ ap (λ front. all_parts p 0 front ++ there p at (slice_get (order ++ last ∷ []) (length order))) (take-append_seam order (last ∷ []))
    ∙ ap (λ found. all_parts p 0 order ++ there p at found) (last_there order last)

abbrev stream_by : Origin → List Part → Entry
stream_by by parts = record { by = by; object = Stream parts }

abbrev in_shape : Position → Shape → Bool
in_shape at shape = nat_lt at.symbol (closed_in shape at.block)

stream_source : (p : Settings) (parts more : List Part) (at : Position) → 0 < p.e → has_end parts ≡ false
    → in_shape at (shape_of p (Stream parts)) ≡ true → in_shape at (shape_of p (Stream (parts ++ more))) ≡ true
stream_source p parts more at e_pos unended is =
    (Decides-ltb at.symbol (closed_in (shape_of p (Stream (parts ++ more))) at.block)).1
    (more_within p.b (length (closed_from p.e [] parts)) (length (closed_from p.e [] (parts ++ more))) (at.block * p.b + 0) at.symbol
    (closed_grow p.e parts more e_pos unended) ((Decides-ltb at.symbol (closed_in (shape_of p (Stream parts)) at.block)).0 is))

stream_parts : (p : Settings) (parts more : List Part) (at : Position) → 0 < p.e → has_end parts ≡ false
    → in_shape at (shape_of p (Stream parts)) ≡ true → parts_through p at (Stream (parts ++ more)) ≡ parts_through p at (Stream parts)
stream_parts p parts more at e_pos unended is =
    let n = 2 + (at.block * p.b + at.symbol) in
    let front = map_begin (segment_up at.index) (segments p.e parts) (segments p.e (parts ++ more))
    (placed_begin 0 (closed_from p.e [] parts) (closed_from p.e [] (parts ++ more)) (closed_begin p.e [] parts more e_pos unended)) in
    let long : n ≤ 1 + length (closed_from p.e [] parts) = behind_front p.b (length (closed_from p.e [] parts)) (at.block * p.b) at.symbol
    ((Decides-ltb at.symbol (closed_in (shape_of p (Stream parts)) at.block)).0 is) in
    take_of_front n (parts_of p at.index (Stream parts)) (parts_of p at.index (Stream (parts ++ more)))
    (front.0, ap (λ (ups : List Up). up.StreamOpen at.index ∷ ups) front.1)
    (let h : n ≤ suc (length (map (segment_up at.index) (segments p.e parts))) = omega (arith, length-map (segments p.e parts) (segment_up at.index), length-placed 0 (closed_from p.e [] parts), long) in h)

still : (p : Settings) (order : List Entry) (by : Origin) (parts more : List Part) (at : Position)
    → 0 < p.e → has_end parts ≡ false → is_source (shapes_of p (with_stream order by parts)) at ≡ true
    → is_source (shapes_of p (with_stream order by (parts ++ more))) at ≡ true
still p order by parts more at e_pos unended is = go (before_or_last order (stream_by by parts) at.index s.0 s.1.0)
  where
    s : (entry : Entry) × ((slice_get (with_stream order by parts) at.index ≡ Some entry) × (in_shape at (shape_of p entry.object) ≡ true))
    s = source_entry p (with_stream order by parts) at.index (in_shape at) is

    go : (slice_get order at.index ≡ Some s.0) ⊎ ((at.index ≡ length order) × (stream_by by parts ≡ s.0))
        → is_source (shapes_of p (with_stream order by (parts ++ more))) at ≡ true
    go (inl found) = entry_source p (with_stream order by (parts ++ more)) at.index (in_shape at) s.0
        (found_front order (stream_by by (parts ++ more) ∷ []) at.index s.0 found) s.1.1
    go (inr (i, same)) = entry_source p (with_stream order by (parts ++ more)) at.index (in_shape at) (stream_by by (parts ++ more))
        (ap (slice_get (with_stream order by (parts ++ more))) i ∙ last_there order (stream_by by (parts ++ more)))
        (stream_source p parts more at e_pos unended (ap (λ (entry : Entry). in_shape at (shape_of p entry.object)) same ∙ s.1.1))

same : (p : Settings) (order : List Entry) (by : Origin) (parts more : List Part) (at : Position)
    → 0 < p.e → has_end parts ≡ false → is_source (shapes_of p (with_stream order by parts)) at ≡ true
    → upto p (with_stream order by (parts ++ more)) at ≡ upto p (with_stream order by parts) at
same p order by parts more at e_pos unended is = go (before_or_last order (stream_by by parts) at.index s.0 s.1.0)
  where
    s : (entry : Entry) × ((slice_get (with_stream order by parts) at.index ≡ Some entry) × (in_shape at (shape_of p entry.object) ≡ true))
    s = source_entry p (with_stream order by parts) at.index (in_shape at) is

    go : (slice_get order at.index ≡ Some s.0) ⊎ ((at.index ≡ length order) × (stream_by by parts ≡ s.0))
        → upto p (with_stream order by (parts ++ more)) at ≡ upto p (with_stream order by parts) at
    go (inl found) =
        kept_within p order (stream_by by (parts ++ more) ∷ []) at s.0 found ∙ sym (kept_within p order (stream_by by parts ∷ []) at s.0 found)
    go (inr (i, same)) =
        upto_last p order (stream_by by (parts ++ more)) at i
        ∙ ap (λ last. all_parts p 0 order ++ last)
        (stream_parts p parts more at e_pos unended (ap (λ (entry : Entry). in_shape at (shape_of p entry.object)) same ∙ s.1.1))
        ∙ sym (upto_last p order (stream_by by parts) at i)

pub kept_as_stream_goes_on : KeptAsStreamGoesOn
kept_as_stream_goes_on = record { still_source = still; same_before = same }
