-- Where a union may follow its window.
use Rattle.std.proofs.Common.{◌≡◌, ◌∙◌, ℕ, zero, suc, ◌+◌, ◌-◌, ◌<◌, ◌≤◌, List, [], ◌∷◌, ◌++◌, length, drop, Some, Bool, true, false, inl, inr, ◌⊎◌, refl, sym, ap, arith}
use Rattle.std.specs.Prelude.{slice_get, option_map, ◌==◌}
use Rattle.std.proofs.lemmas.Bool.{cases_lt, lt-ltb, le-ltb}
use Rattle.std.proofs.lemmas.Bool.Decides.{nat_tests}
use Rattle.std.proofs.lemmas.List.{length-append, length-drop, length-map, map-append, drop-append-le}
use Rattle.std.proofs.lemmas.Option.{slice_get-map}
use Rattle.norm_base.specs.Settings.{Settings}
use Rattle.fec_plan.specs.Points.{Point}
use Rattle.norm_order.specs.Entries.{Part, Object, Stream, Entry}
use Rattle.norm_order.specs.Shapes.{Shape, shape_of}
use Rattle.norm_send_rules.specs.SenderState.{SenderState}
use Rattle.norm_send_rules.specs.InWindow.{current_shapes, next_index, last_index}
use Rattle.norm_send_rules.specs.Enqueuing.{open_stream, with_entry}
use Rattle.norm_send_rules.specs.Room.{first_kept}
use Rattle.norm_send_rules.proofs.WantLemmas.{ends_open}
use Rattle.tx_window.specs.EntryState.{EntryReads, StandsFor as StandsForEntry, first_of}
use Rattle.tx_window.specs.declared.entry.HeldEntry.{HeldEntry}
use Rattle.tx_window.specs.declared.entry.HeldEntry.TheVariants as held
use Rattle.tx_window.specs.WindowState.{WindowState, Stands as WindowStands, first_block}
use Rattle.tx_window.proofs.KeptLemmas.{entry_at_place}
use Rattle.nack_union.specs.Kept.{Kept, Marked, MayRetire, moved_front, retired, with_object}
use Rattle.nack_union.specs.Laws.{IsStreamAt, front_of}
use Rattle.nack_union.specs.UnionState.{UnionState, Stands as UnionStands}
use Rattle.nack_union.proofs.Retired.{may_be_retired}
use Rattle.mark_book.specs.BookState.{BookState}
use Rattle.norm_sender.specs.declared.parts.Parts.{Parts}
use Rattle.norm_sender.specs.Inside.{kept_of}
use Rattle.norm_sender.specs.SenderKept.{SenderKept}
use Rattle.norm_sender.specs.Retiring.{IsOnward}

-- A union may retire to a point that lies so.
pub may_retire : (u : UnionState) (s : SenderState) (d : Point) → UnionStands u s → IsOnward u.p s d → d.block ≤ 16777216 → MayRetire d.index d.block u.kept
may_retire u s d stands onward few = may_be_retired u s d.index d.block stands onward.not_back onward.within onward.onward onward.stream few

-- An object that was admitted stays the last one, as others and the front of a stream go.
front_with : (block : ℕ) (xs : List Marked) (m : Marked) → (0 < block → 0 < length xs) → moved_front block (xs ++ m ∷ []) ≡ moved_front block xs ++ m ∷ []
front_with zero xs m some = refl
front_with (suc block) [] m some = absurd (let never : 0 < 0 = some (omega arith) in omega (arith, never))
front_with (suc block) (x ∷ xs) m some = refl

pub retired_more : (index block : ℕ) (m : Marked) (u : Kept) → MayRetire index block u → retired index block (with_object m u) ≡ with_object m (retired index block u)
retired_more index block m u may =
    ap (λ (ms : List Marked). record u { first = index; objects = moved_front block ms }) (drop-append-le (index - u.first) u.objects (m ∷ []) (omega (arith, may.within)))
    ∙ ap (λ (ms : List Marked). record u { first = index; objects = ms })
    (front_with block (drop (index - u.first) u.objects) m (λ some. let inside = may.some some in omega (arith, inside, may.not_back, length-drop (index - u.first) u.objects)))

-- a sender of which the union followed the window
pub kept_is : (new : Parts) (k : SenderKept) (w : WindowState) → new.profile ≡ k.p → new.window ≡ w → new.book ≡ k.book
    → kept_of new ≡ record k { window = w; union = new.union; pace = new.pace }
kept_is new k w profile window book =
    ap (λ (q : Settings). record { p = q; window = new.window; union = new.union; book = new.book; pace = new.pace }) profile
    ∙ ap (λ (v : WindowState). record { p = k.p; window = v; union = new.union; book = new.book; pace = new.pace }) window
    ∙ ap (λ (b : BookState). record { p = k.p; window = w; union = new.union; book = b; pace = new.pace }) book

-- Which entries are streams.

the_shape : (a b : Shape) → Some a ≡ Some b → a ≡ b
the_shape a b e = cc

pub stream_at : (p : Settings) (s : SenderState) (index : ℕ) (entry : Entry) (parts : List Part) → slice_get s.current.order index ≡ Some entry
    → entry.object ≡ Stream parts → IsStreamAt p s index
stream_at p s index entry parts there object shape at =
    let is : shape ≡ shape_of p (Stream parts) =
    the_shape shape (shape_of p (Stream parts))
    (sym at ∙ slice_get-map (λ (e : Entry). shape_of p e.object) s.current.order index ∙ ap (option_map (λ (e : Entry). shape_of p e.object)) there
    ∙ ap (λ (o : Object). Some (shape_of p o)) object) in
    (ap (λ (x : Shape). x.cut.l) is, ap (λ (x : Shape). x.info) is)

-- an entry of which a front is gone is a stream
gone_stream : (r : EntryReads) (e : HeldEntry) → StandsForEntry r e → 0 < first_of e → (parts : List Part) × (r.object ≡ Stream parts)
gone_stream r (held.Object h) is some = absurd (omega (arith, some))
gone_stream r (held.Stream stream) is some = (is.parts, is.object)

-- a front is gone only of the first entry of the window, a stream
pub front_stream : (w : WindowState) (s : SenderState) → WindowStands w s → 0 < s.current.drop.block
    → (s.current.drop.index < next_index s) × IsStreamAt w.p s s.current.drop.index
front_stream w s stands some = go w.entries refl
  where
    index : s.current.drop.index ≡ w.dropped
    index = ap (λ (d : Point). d.index) stands.dropped

    block : s.current.drop.block ≡ first_block w.entries
    block = ap (λ (d : Point). d.block) stands.dropped

    go : (es : List HeldEntry) → w.entries ≡ es → (s.current.drop.index < next_index s) × IsStreamAt w.p s s.current.drop.index
    go [] is = absurd (let none : first_block w.entries ≡ 0 = ap first_block is in omega (arith, some, block, none))
    go (e ∷ es) is =
        let there : slice_get w.entries 0 ≡ Some e = ap (λ (xs : List HeldEntry). slice_get xs 0) is in
        let found = entry_at_place w s 0 e stands there in
        let first : first_block w.entries ≡ first_of e = ap first_block is in
        let stream = gone_stream _ e found.stands (omega (arith, some, block, first)) in
        let at : w.dropped + 0 ≡ s.current.drop.index = omega (arith, index) in
        let many = ap (λ (xs : List HeldEntry). length xs) is in (
          omega (arith, index, stands.next, many),
          stream_at w.p s s.current.drop.index found.entry stream.0 (ap (slice_get s.current.order) (sym at) ∙ found.there) stream.1,
        )

-- the drop point itself lies so
pub stays_onward : (w : WindowState) (s : SenderState) → WindowStands w s → IsOnward w.p s s.current.drop
stays_onward w s stands = record {
  not_back = omega arith;
  within = omega (arith, ap (λ (d : Point). d.index) stands.dropped, stands.next);
  onward = λ same. omega arith;
  stream = front_stream w s stands;
}

-- and as one more entry joins the order, a point lies as it did
get_before : (xs : List Shape) (x : Shape) (n : ℕ) → n < length xs → slice_get (xs ++ x ∷ []) n ≡ slice_get xs n
get_before [] x n lt = absurd (omega (arith, lt))
get_before (y ∷ xs) x zero lt = refl
get_before (y ∷ xs) x (suc n) lt = get_before xs x n (omega (arith, lt))

pub onward_more : (p : Settings) (s : SenderState) (entry : Entry) (d : Point) → IsOnward p s d → IsOnward p (with_entry entry s) d
onward_more p s entry d h = record {
  not_back = h.not_back;
  within = omega (arith, h.within, length-append s.current.order (entry ∷ []));
  onward = h.onward;
  stream = λ some.
      let was = h.stream some in (
        omega (arith, was.0, length-append s.current.order (entry ∷ [])),
        λ shape at. was.1 shape
            (sym (get_before (current_shapes p s) (shape_of p entry.object) d.index (omega (arith, was.0, length-map s.current.order (λ (e : Entry). shape_of p e.object))))
            ∙ ap (λ (xs : List Shape). slice_get xs d.index) (sym (map-append (λ (e : Entry). shape_of p e.object) s.current.order (entry ∷ []))) ∙ at),
      );
}

-- The open stream is the last entry.

at_end : (xs : List Entry) (x : Entry) → slice_get (xs ++ x ∷ []) (length xs) ≡ Some x
at_end [] x = refl
at_end (y ∷ xs) x = at_end xs x

pub last_stream : (p : Settings) (s : SenderState) (parts : List Part) → open_stream s ≡ Some parts → (last_index s < next_index s) × IsStreamAt p s (last_index s)
last_stream p s parts is =
    let ends = ends_open s.current.order parts is in
    let many : length s.current.order ≡ length ends.0 + 1 = ap (λ (es : List Entry). length es) ends.2 ∙ length-append ends.0 (ends.1 ∷ []) in
    let at : last_index s ≡ length ends.0 = omega (arith, many) in (
      omega (arith, many),
      stream_at p s (last_index s) ends.1 parts
          (ap (slice_get s.current.order) at ∙ ap (λ (es : List Entry). slice_get es (length ends.0)) ends.2 ∙ at_end ends.0 ends.1) ends.3,
    )

apart : (a b : ℕ) → a < b → (a == b) ≡ false
apart a b lt = grind (arith, nat_tests, lt)

alike : (a b : ℕ) → a ≤ b → b ≤ a → (a == b) ≡ true
alike a b le ge = grind (arith, nat_tests, le, ge)

-- the first block that is kept of the last entry, in either word
pub front_is : (s : SenderState) → s.current.drop.index ≤ last_index s → first_kept s (last_index s) ≡ front_of s
front_is s le = go (cases_lt s.current.drop.index (last_index s))
  where
    d : ℕ
    d = s.current.drop.index

    kept_by : Bool → ℕ
    kept_by b = elim b as (λ v. ℕ) [ true ↦ 0 | false ↦ s.current.drop.block ]

    front_by : Bool → ℕ
    front_by b = elim b as (λ v. ℕ) [ true ↦ s.current.drop.block | false ↦ 0 ]

    go : (d < last_index s) ⊎ (last_index s ≤ d) → first_kept s (last_index s) ≡ front_of s
    go (inl lt) =
        ap kept_by (lt-ltb d (last_index s) lt)
        ∙ sym (ap front_by (apart d (last_index s) lt))
    go (inr past) =
        ap kept_by (le-ltb d (last_index s) past)
        ∙ sym (ap front_by (alike d (last_index s) le past))
