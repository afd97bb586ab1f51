-- The closing of a round, by a union and by the rules.
use Rattle.std.proofs.Common.{◌≡◌, ℕ, zero, suc, ◌+◌, ◌-◌, ◌<◌, ◌≤◌, ◌⊎◌, inl, inr, List, [], ◌∷◌, length, get_or, true, false, Option, Some, None, refl, sym, ap, subst, ◌∙◌, arith, flat_map}
use Rattle.std.specs.Prelude.{filter, min, slice_get}
use Rattle.std.proofs.lemmas.Bool.{cases_lt}
use Rattle.std.proofs.lemmas.List.{get_or_past, length-map}
use Rattle.std.proofs.lemmas.List.Elements.{filter-append}
use Rattle.norm_base.specs.Settings.{Settings}
use Rattle.fec_plan.specs.Partition.{source_symbols, stream_cut}
use Rattle.fec_plan.specs.Points.{Point, point, point_of}
use Rattle.fec_plan.specs.declared.position.Position.{Position}
use Rattle.norm_send_rules.specs.declared.want.Want.TheVariants.{Symbol}
use Rattle.norm_ext.specs.Asking.{Count}
use Rattle.norm_order.specs.Entries.{Entry}
use Rattle.norm_order.specs.Sets.{with_members}
use Rattle.norm_order.specs.Shapes.{Shape, shape_of}
use Rattle.norm_send_rules.specs.SenderState.{SenderState, Asked, Round}
use Rattle.norm_send_rules.specs.InWindow.{stands_behind, current_shapes}
use Rattle.norm_send_rules.specs.Asking.{wants_of, counts_of}
use Rattle.norm_send_rules.specs.Closing.{greatest, counted, repairs, wants_after, round_closed}
use Rattle.norm_send_rules.specs.Wants.{want_before, want_index}
use Rattle.norm_send_rules.specs.declared.want.Want.{Want}
use Rattle.nack_union.specs.Kept.{Marked, Kept, Holds, IsCounted, shape_of_marked, admitted}
use Rattle.nack_union.specs.Rounds.{wants_closed}
use Rattle.nack_union.specs.Collected.{Collects}
use Rattle.nack_union.specs.CollectionSound.{IsIdle}
use Rattle.nack_union.proofs.Orders.{none_at}
use Rattle.nack_union.proofs.Idle.{zeros}
use Rattle.nack_union.proofs.Unions.{rounds_are_collected}
use Rattle.std.specs.List.{AllByRecursion}
use Rattle.nack_union.proofs.Dropped.{not_behind}
use Rattle.nack_union.proofs.Fronts.{symbol_behind, block_kept}
use Rattle.nack_union.proofs.Freshness.{put_both}
use Rattle.nack_union.proofs.Counted.{none_asked}
use Rattle.nack_union.proofs.Lists.{In, flat_in, in_flat, filter_in, in_filter, same_set}
use Rattle.nack_union.proofs.Collecting.{counted_from, named_first, block_repairs, in_all, all_in, repairs_of_index, repair_symbol, some_greatest, window_shape, past_end}

-- the counts of a round that are kept, and the repairs that they ask for
abbrev kept_counts : Settings → SenderState → List Asked → List Count
kept_counts p s asked = flat_map (counts_of (current_shapes p s)) asked

abbrev all_repairs : Settings → SenderState → List Asked → List Want
all_repairs p s asked = flat_map (λ (c : Count). counted s (current_shapes p s) (kept_counts p s asked) c.of) (kept_counts p s asked)

abbrev count_at : Kept → ℕ → Marked → ℕ → ℕ
count_at u k d block = get_or (get_or u.objects k d).counts block 0

-- of a block of the window the rules ask for what its count asks for
at_window : (p : Settings) (s : SenderState) (u : Kept) (asked : List Asked) (k block : ℕ) (d : Marked) → Holds p u s → Collects p u s asked → k < length u.objects → (get_or u.objects k d).first ≤ block
    → counted s (current_shapes p s) (kept_counts p s asked) (point (u.first + k) block) ≡ block_repairs s (u.first + k) (get_or u.objects k d) block (count_at u k d block)
at_window p s u asked k block d st col lt from =
    ap (λ (o : Option Shape). elim o as (λ _. List Want) [
      | Some shape ↦ repairs s (point (u.first + k) block) shape (min (greatest (kept_counts p s asked) (point (u.first + k) block)) (source_symbols shape.cut block))
      | None ↦ []
    ]) (window_shape p s u k d st lt)
    ∙ ap (block_repairs s (u.first + k) (get_or u.objects k d) block) (sym (col.counts k d lt block from))

-- a count of 0 gives nothing
none_in : (s : SenderState) (index block count : ℕ) (m : Marked) (w : Want) → In w (block_repairs s index m block count) → count ≤ 0 → ⊥
none_in s index block count m w here none =
    subst (In w) (none_asked s (point index block) (shape_of_marked m) (min count (source_symbols m.cut block)) (omega (arith, none))) here

clash : false ≡ true → ⊥
clash h = cc

all_at : (P : Marked → Type 0) (ms : List Marked) (k : ℕ) (d : Marked) → AllByRecursion P ms → k < length ms → P (get_or ms k d)
all_at P [] k d all lt = absurd (omega (arith, lt))
all_at P (m ∷ ms) zero d all lt = all.0
all_at P (m ∷ ms) (suc k) d all lt = all_at P ms k d all.1 (omega (arith, lt))

-- what holds of each symbol of a block holds of its repairs
repair_behind : (s : SenderState) (of : Point) (shape : Shape) (count : ℕ) (w : Want) → ((at : Position) → point_of at ≡ of → stands_behind s.current.drop (Symbol at) ≡ true)
    → In w (repairs s of shape count) → stands_behind s.current.drop w ≡ true
repair_behind s of shape count w each here =
    let at = repair_symbol s of shape count w here in
    ap (stands_behind s.current.drop) at.1 ∙ each at.0 at.2

repair_kept : (s : SenderState) (of : Point) (shape : Shape) (count : ℕ) (w : Want) {P : Type 0}
    → ((at : Position) → point_of at ≡ of → stands_behind s.current.drop (Symbol at) ≡ true → P) → In w (repairs s of shape count) → stands_behind s.current.drop w ≡ true → P
repair_kept s of shape count w each here behind =
    let at = repair_symbol s of shape count w here in
    each at.0 at.2 (sym (ap (stands_behind s.current.drop) at.1) ∙ behind)

there_at : (p : Settings) (s : SenderState) (u : Kept) (asked : List Asked) (d : Marked) → Holds p u s → Collects p u s asked → AllByRecursion IsCounted u.objects
    → (w : Want) (k block : ℕ) → k < length u.objects → In w (block_repairs s (u.first + k) (get_or u.objects k d) block (count_at u k d block))
    → In w (filter (stands_behind s.current.drop) (all_repairs p s asked))
there_at p s u asked d st col all w k block lt r = by (cases_lt 0 (count_at u k d block))
  where
    index : want_index w ≡ u.first + k
    index = repairs_of_index s (point (u.first + k) block) (shape_of_marked (get_or u.objects k d)) (min (count_at u k d block) (source_symbols (get_or u.objects k d).cut block)) w r

    from : 0 < count_at u k d block → (get_or u.objects k d).first ≤ block
    from some = (all_at IsCounted u.objects k d all lt block some).0

    found : 0 < count_at u k d block → In w (all_repairs p s asked)
    found some =
        let c = some_greatest (kept_counts p s asked) (point (u.first + k) block) (subst (λ n. 0 < n) (col.counts k d lt block (from some)) some) in
        flat_in (λ (c : Count). counted s (current_shapes p s) (kept_counts p s asked) c.of) w c.0 (kept_counts p s asked) c.1
        (subst (In w) (sym (ap (counted s (current_shapes p s) (kept_counts p s asked)) c.2 ∙ at_window p s u asked k block d st col lt (from some))) r)

    by : (0 < count_at u k d block) ⊎ (count_at u k d block ≤ 0) → In w (filter (stands_behind s.current.drop) (all_repairs p s asked))
    by (inl some) =
        filter_in (stands_behind s.current.drop) w (all_repairs p s asked) (found some)
        (repair_behind s (point (u.first + k) block) (shape_of_marked (get_or u.objects k d)) (min (count_at u k d block) (source_symbols (get_or u.objects k d).cut block)) w
        (λ at here. symbol_behind s.current.drop u.first k at u.objects d st.fronts st.first lt (ap (λ (q : Point). q.index) here) (let b = ap (λ (q : Point). q.block) here in let f = from some in omega (arith, b, f))) r)
    by (inr none) = absurd (none_in s (u.first + k) block (count_at u k d block) (get_or u.objects k d) w r none)

there : (p : Settings) (s : SenderState) (u : Kept) (asked : List Asked) (d : Marked) → Holds p u s → Collects p u s asked → AllByRecursion IsCounted u.objects
    → (w : Want) → In w (counted_from s u.first u.objects) → In w (filter (stands_behind s.current.drop) (all_repairs p s asked))
there p s u asked d st col all w here =
    let found = in_all s u.first u.objects d w here in
    there_at p s u asked d st col all w found.0 found.1 found.2 found.3

back : (p : Settings) (s : SenderState) (u : Kept) (asked : List Asked) (d : Marked) → Holds p u s → Collects p u s asked
    → (w : Want) → In w (filter (stands_behind s.current.drop) (all_repairs p s asked)) → In w (counted_from s u.first u.objects)
back p s u asked d st col w here = go (in_filter (stands_behind s.current.drop) w (all_repairs p s asked) here)
  where
    at : (c : Count) → stands_behind s.current.drop w ≡ true → In w (counted s (current_shapes p s) (kept_counts p s asked) c.of) → In w (counted_from s u.first u.objects)
    at c behind r = by (slice_get (current_shapes p s) c.of.index) refl r
      where
        by : (o : Option Shape) → slice_get (current_shapes p s) c.of.index ≡ o
            → In w (elim o as (λ _. List Want) [ Some shape ↦ repairs s c.of shape (min (greatest (kept_counts p s asked) c.of) (source_symbols shape.cut c.of.block)) | None ↦ [] ])
            → In w (counted_from s u.first u.objects)
        by None e given = absurd given
        by (Some shape) e given = inside (cases_lt c.of.index u.first)
          where
            index : want_index w ≡ c.of.index
            index = repairs_of_index s c.of shape (min (greatest (kept_counts p s asked) c.of) (source_symbols shape.cut c.of.block)) w given

            placed : u.first ≤ c.of.index → In w (counted_from s u.first u.objects)
            placed le = some (cases_lt 0 (count_at u (c.of.index - u.first) d c.of.block))
              where
                lt : c.of.index - u.first < length u.objects
                lt =
                    let last = past_end (current_shapes p s) c.of.index shape e in
                    let next = st.next in
                    omega (arith, last, next, le, length-map s.current.order (λ (entry : Entry). shape_of p entry.object))

                from : (get_or u.objects (c.of.index - u.first) d).first ≤ c.of.block
                from =
                    repair_kept s c.of shape (min (greatest (kept_counts p s asked) c.of) (source_symbols shape.cut c.of.block)) w
                    (λ at here passes. subst (λ n. (get_or u.objects (c.of.index - u.first) d).first ≤ n) (ap (λ (q : Point). q.block) here)
                    (block_kept s.current.drop u.first (c.of.index - u.first) at u.objects d st.fronts st.first lt
                    (let i = ap (λ (q : Point). q.index) here in omega (arith, i, le)) passes)) given behind

                point_is : c.of ≡ point (u.first + (c.of.index - u.first)) c.of.block
                point_is = ap (λ i. point i c.of.block) (let e : c.of.index ≡ u.first + (c.of.index - u.first) = omega (arith, le) in e)

                mine : In w (block_repairs s (u.first + (c.of.index - u.first)) (get_or u.objects (c.of.index - u.first) d) c.of.block (count_at u (c.of.index - u.first) d c.of.block))
                mine =
                    subst (In w) (ap (counted s (current_shapes p s) (kept_counts p s asked)) point_is ∙ at_window p s u asked (c.of.index - u.first) c.of.block d st col lt from) r

                some : (0 < count_at u (c.of.index - u.first) d c.of.block) ⊎ (count_at u (c.of.index - u.first) d c.of.block ≤ 0) → In w (counted_from s u.first u.objects)
                some (inl more) = all_in s u.first u.objects d w (c.of.index - u.first) c.of.block lt (within (cases_lt c.of.block (length (get_or u.objects (c.of.index - u.first) d).counts))) mine
                  where
                    within : (c.of.block < length (get_or u.objects (c.of.index - u.first) d).counts) ⊎ (length (get_or u.objects (c.of.index - u.first) d).counts ≤ c.of.block)
                        → c.of.block < length (get_or u.objects (c.of.index - u.first) d).counts
                    within (inl less) = less
                    within (inr past) = let zero-is = get_or_past (get_or u.objects (c.of.index - u.first) d).counts c.of.block 0 past in absurd (omega (arith, more, zero-is))
                some (inr none) = absurd (none_in s (u.first + (c.of.index - u.first)) c.of.block (count_at u (c.of.index - u.first) d c.of.block) (get_or u.objects (c.of.index - u.first) d) w mine none)

            inside : (c.of.index < u.first) ⊎ (u.first ≤ c.of.index) → In w (counted_from s u.first u.objects)
            inside (inl before) = let gone = not_behind s.current.drop w (let f = st.first in omega (arith, f, index, before)) in absurd (clash (sym gone ∙ behind))
            inside (inr le) = placed le

    go : In w (all_repairs p s asked) × (stands_behind s.current.drop w ≡ true) → In w (counted_from s u.first u.objects)
    go (all, behind) =
        let c = in_flat (λ (c : Count). counted s (current_shapes p s) (kept_counts p s asked) c.of) w (kept_counts p s asked) all in
        at c.0 behind c.2

-- what a union collected becomes wants as the rules say
pub by_rules : (p : Settings) (s : SenderState) (u : Kept) (asked : List Asked) → Holds p u s → Collects p u s asked → AllByRecursion IsCounted u.objects
    → wants_closed u s ≡ wants_after p s asked
by_rules p s u asked st col all =
    named_first s u.first u.objects s.wants
    ∙ ap (with_members want_before (counted_from s u.first u.objects))
    (ap (λ set. with_members want_before set s.wants) col.named ∙ rounds_are_collected named s.wants)
    ∙ same_set (counted_from s u.first u.objects) counts (with_members want_before named s.wants)
    (there p s u asked d st col all) (back p s u asked d st col)
    ∙ sym (put_both want_before named counts s.wants)
    ∙ ap (λ ws. with_members want_before ws s.wants) (sym (filter-append (stands_behind s.current.drop) (flat_map (wants_of (current_shapes p s)) asked) (all_repairs p s asked)))
  where
    d : Marked
    d = admitted (stream_cut 0 0 0) false

    named : List Want
    named = filter (stands_behind s.current.drop) (flat_map (wants_of (current_shapes p s)) asked)

    counts : List Want
    counts = filter (stands_behind s.current.drop) (all_repairs p s asked)

pub stands_by_rules : (p : Settings) (s : SenderState) (r : Round) (u new : Kept) → Holds p u s → Collects p u s r.asked → AllByRecursion IsCounted u.objects
    → Holds p new (record s { wants = wants_closed u s }) → Holds p new (round_closed p r s)
stands_by_rules p s r u new st col all after = record {
  first = after.first;
  fronts = after.fronts;
  next = after.next;
  shapes = after.shapes;
  wants = after.wants ∙ by_rules p s u r.asked st col all;
  rise = after.rise;
  sent = after.sent;
  rooms = after.rooms;
}

-- where nothing is asked for, no request was collected
pub nothing_collected : (p : Settings) (s : SenderState) (u : Kept) → ((k : ℕ) (d : Marked) → k < length u.objects → IsIdle (get_or u.objects k d)) → u.earliest ≡ None → Collects p u s []
nothing_collected p s u idle none = record {
  earliest = none;
  known = tt;
  named = none_at (λ m. m.asked) u.first u.objects (admitted (stream_cut 0 0 0) false) (λ j lt. (idle j (admitted (stream_cut 0 0 0) false) lt).0);
  counts = λ k d lt block from. ap (λ (cs : List ℕ). get_or cs block 0) (idle k d lt).1 ∙ zeros (length (get_or u.objects k d).counts) block;
}
