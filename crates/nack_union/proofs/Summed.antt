-- What requests ask for, as parts and by the rules: slots and counts of a union.
use Rattle.std.proofs.Common.{◌≡◌, ℕ, zero, suc, ◌+◌, ◌/◌, ◌%◌, List, [], ◌∷◌, map, get_or, Bool, true, false, refl, sym, ap, ◌∙◌, arith, cond}
use Rattle.std.specs.Prelude.{◌==◌, ◌&&◌, ◌||◌, nat_lt, max, filter, flat_map, slice_index}
use Rattle.std.specs.List.{list_any}
use Rattle.fec_plan.specs.Partition.{blocks}
use Rattle.norm_order.specs.Shapes.{Shape, closed_in, encoded_in}
use Rattle.fec_plan.specs.Points.{Point, point, point_of, position, same_point}
use Rattle.fec_plan.specs.declared.position.Position.{Position}
use Rattle.norm_ext.specs.Asking.{Span, Named, lies_in, has_flag, segment_flag, block_flag, object_flag, info_flag, asked_spans, asked_counts, Count, is_proper}
use Rattle.norm_ext.specs.declared.kinds.Form.{Form}
use Rattle.norm_ext.specs.declared.kinds.Form.TheVariants as form
use Rattle.norm_order.specs.Sets.{is_member}
use Rattle.norm_send_rules.specs.Closing.{greatest}
use Rattle.norm_send_rules.specs.Laws.{Rise}
use Rattle.nack_union.specs.Kept.{Marked, Kept, listed, symbols_of_marked}
use Rattle.nack_union.specs.Adding.{asks_slot, is_asked_slot, HasAsked, HasAdded}
use Rattle.nack_union.specs.Earliest.{earliest_with}
use Rattle.nack_union.specs.More.{kept_count, HasPart, MoreOf, part_where, counts_part, items_part, ranges_part, request_part, requests_part, named_part, symbol_part}
use Rattle.nack_union.proofs.AskedCounts.{most, most_from, greatest_both}
use Rattle.symbol_mask.proofs.Puts.{or_false}
use Rattle.nack_union.proofs.Requested.{begins, any_spans, any_where, same_symbol, items_slot, items_info, ranges_slot, ranges_info, no_infos, none_asked}

guard : (b s x e y : Bool) → (((b && s) && x) || ((b && e) && y)) ≡ (b && ((s && x) || (e && y)))
guard true s x e y = refl
guard false s x e y = refl

guard_one : (b s x e : Bool) → ((b && s) && x) ≡ (b && ((s && x) || (e && false)))
guard_one true s x true = sym (or_false (s && x) false refl)
guard_one true s x false = sym (or_false (s && x) false refl)
guard_one false s x e = refl

guard_none : (b s f g h e : Bool) → false ≡ (b && ((s && (((f && false) || (g && false)) || (h && false))) || (e && false)))
guard_none true s true true true true = go s
  where
    go : (s : Bool) → false ≡ ((s && false) || false)
    go true = refl
    go false = refl
guard_none true s f g h e =
    none_asked s f g h e ∙ ap (λ v. (s && (((f && false) || (g && false)) || (h && false))) || (e && v)) (go f)
  where
    go : (f : Bool) → (f && false) ≡ false
    go true = refl
    go false = refl
guard_none false s f g h e = refl

counts_slot : (index : ℕ) (c : Shape) (info : Bool) (slot : ℕ) (spans : List Span) (b : Bool)
    → (part_where b (counts_part spans)).slots index c info slot ≡ false
counts_slot index c info slot spans true = go spans
  where
    go : (spans : List Span) → (counts_part spans).slots index c info slot ≡ false
    go [] = refl
    go (x ∷ spans) = go spans
counts_slot index c info slot spans false = refl

by_form : (f : Form) (flags : ℕ) (spans : List Span) (index : ℕ) (m : Marked) (slot : ℕ)
    → (request_part (record { form = f; flags = flags; spans = spans })).slots index (symbols_of_marked m) m.info slot
    ≡ asks_slot (record { form = f; flags = flags; spans = spans }) index m slot
by_form form.Items flags spans index m zero = items_info flags index (symbols_of_marked m) m.info spans
by_form form.Items flags spans index m (suc n) =
    items_slot flags index n (symbols_of_marked m) m.info spans
    ∙ guard (nat_lt (n / 256) (blocks m.cut)) (nat_lt (n % 256) (closed_in (symbols_of_marked m) (n / 256))) _ (nat_lt (n % 256) (encoded_in (symbols_of_marked m) (n / 256))) _
    ∙ ap (λ v. nat_lt (n / 256) (blocks m.cut) && ((nat_lt (n % 256) (closed_in (symbols_of_marked m) (n / 256)) && v)
    || (nat_lt (n % 256) (encoded_in (symbols_of_marked m) (n / 256)) && (has_flag flags segment_flag && list_any (same_symbol (position index (n / 256) (n % 256))) (begins spans)))))
    (sym (any_spans (position index (n / 256) (n % 256)) flags spans))
    ∙ ap (λ v. nat_lt (n / 256) (blocks m.cut) && ((nat_lt (n % 256) (closed_in (symbols_of_marked m) (n / 256))
    && list_any (lies_in (position index (n / 256) (n % 256))) (asked_spans (record { form = form.Items; flags = flags; spans = spans })))
    || (nat_lt (n % 256) (encoded_in (symbols_of_marked m) (n / 256)) && v)))
    (sym (any_where (same_symbol (position index (n / 256) (n % 256))) flags segment_flag (begins spans)))
by_form form.Ranges flags spans index m zero = ranges_info flags index (symbols_of_marked m) m.info spans
by_form form.Ranges flags spans index m (suc n) =
    ranges_slot flags index n (symbols_of_marked m) m.info spans
    ∙ guard_one (nat_lt (n / 256) (blocks m.cut)) (nat_lt (n % 256) (closed_in (symbols_of_marked m) (n / 256))) _ (nat_lt (n % 256) (encoded_in (symbols_of_marked m) (n / 256)))
    ∙ ap (λ v. nat_lt (n / 256) (blocks m.cut) && ((nat_lt (n % 256) (closed_in (symbols_of_marked m) (n / 256)) && v) || (nat_lt (n % 256) (encoded_in (symbols_of_marked m) (n / 256)) && false)))
    (sym (any_spans (position index (n / 256) (n % 256)) flags (filter is_proper spans)))
by_form form.Erasures flags spans index m zero =
    counts_slot index (symbols_of_marked m) m.info zero spans (has_flag flags segment_flag || has_flag flags block_flag) ∙ no_infos m.info (has_flag flags info_flag)
by_form form.Erasures flags spans index m (suc n) =
    counts_slot index (symbols_of_marked m) m.info (suc n) spans (has_flag flags segment_flag || has_flag flags block_flag)
    ∙ guard_none (nat_lt (n / 256) (blocks m.cut)) (nat_lt (n % 256) (closed_in (symbols_of_marked m) (n / 256))) (has_flag flags segment_flag) (has_flag flags block_flag) (has_flag flags object_flag)
    (nat_lt (n % 256) (encoded_in (symbols_of_marked m) (n / 256)))
    ∙ ap (λ v. nat_lt (n / 256) (blocks m.cut) && ((nat_lt (n % 256) (closed_in (symbols_of_marked m) (n / 256)) && v) || (nat_lt (n % 256) (encoded_in (symbols_of_marked m) (n / 256)) && false)))
    (sym (any_spans (position index (n / 256) (n % 256)) flags []))

all_slots : (rs : List Named) (index : ℕ) (m : Marked) (slot : ℕ)
    → (requests_part rs).slots index (symbols_of_marked m) m.info slot ≡ is_asked_slot rs index m slot
all_slots [] index m slot = refl
all_slots (r ∷ rs) index m slot =
    ap (λ v. v || (requests_part rs).slots index (symbols_of_marked m) m.info slot) (by_form r.form r.flags r.spans index m slot)
    ∙ ap (λ v. asks_slot r index m slot || v) (all_slots rs index m slot)

-- the greatest of one more
greatest_more : (c : Count) (ys : List Count) (at : Point) → greatest (c ∷ ys) at ≡ max (elim (same_point c.of at) as (λ _. ℕ) [ true ↦ c.lacking | false ↦ 0 ]) (greatest ys at)
greatest_more c ys at = go (same_point c.of at)
  where
    go : (b : Bool) → most (cond b (c ∷ filter (λ c. same_point c.of at) ys) (filter (λ c. same_point c.of at) ys)) ≡ max (elim b as (λ _. ℕ) [ true ↦ c.lacking | false ↦ 0 ]) (greatest ys at)
    go true = most_from (max 0 c.lacking) (filter (λ c. same_point c.of at) ys) ∙ ap (λ n. max n (greatest ys at)) (let e : max 0 c.lacking ≡ c.lacking = omega arith in e)
    go false = let e : greatest ys at ≡ max 0 (greatest ys at) = omega arith in e

zero_where : (b : Bool) (x : Position) (index : ℕ) (c : Shape) (block : ℕ) → (part_where b (symbol_part x)).counts index c block ≡ 0
zero_where true x index c block = refl
zero_where false x index c block = refl

zero_named : (b : Bool) (flags : ℕ) (s : Span) (index : ℕ) (c : Shape) (block : ℕ) → (part_where b (named_part flags s)).counts index c block ≡ 0
zero_named true flags s index c block = refl
zero_named false flags s index c block = refl

items_zero : (flags index : ℕ) (c : Shape) (block : ℕ) (spans : List Span) → (items_part flags spans).counts index c block ≡ 0
items_zero flags index c block [] = refl
items_zero flags index c block (x ∷ spans) =
    let one = zero_where (has_flag flags segment_flag) x.first index c block in let rest = items_zero flags index c block spans in omega (arith, one, rest)

ranges_zero : (flags index : ℕ) (c : Shape) (block : ℕ) (spans : List Span) → (ranges_part flags spans).counts index c block ≡ 0
ranges_zero flags index c block [] = refl
ranges_zero flags index c block (x ∷ spans) =
    let one = zero_named (is_proper x) flags x index c block in let rest = ranges_zero flags index c block spans in omega (arith, one, rest)

-- of two counts that are kept the greater is kept
kept_both : (c : Shape) (block n m : ℕ) → max (kept_count c block n) (kept_count c block m) ≡ kept_count c block (max n m)
kept_both c block n m = by (nat_lt 0 (closed_in c block))
  where
    by : (b : Bool) → max (elim b as (λ _. ℕ) [ true ↦ n | false ↦ 0 ]) (elim b as (λ _. ℕ) [ true ↦ m | false ↦ 0 ]) ≡ (elim b as (λ _. ℕ) [ true ↦ max n m | false ↦ 0 ])
    by true = refl
    by false = refl

kept_none : (c : Shape) (block : ℕ) → 0 ≡ kept_count c block 0
kept_none c block = by (nat_lt 0 (closed_in c block))
  where
    by : (b : Bool) → 0 ≡ (elim b as (λ _. ℕ) [ true ↦ 0 | false ↦ 0 ])
    by true = refl
    by false = refl

abbrev counts_by : List Span → List Count
counts_by spans = map (λ (s : Span). record { of = point_of s.first; lacking = s.first.symbol }) spans

counts_are : (index : ℕ) (c : Shape) (block : ℕ) (spans : List Span) → (counts_part spans).counts index c block ≡ kept_count c block (greatest (counts_by spans) (point index block))
counts_are index c block [] = kept_none c block
counts_are index c block (x ∷ spans) =
    ap (λ v. max v ((counts_part spans).counts index c block)) (go (x.first.index == index) (x.first.block == block))
    ∙ ap (max (kept_count c block (elim (same_point (point_of x.first) (point index block)) as (λ _. ℕ) [ true ↦ x.first.symbol | false ↦ 0 ]))) (counts_are index c block spans)
    ∙ kept_both c block (elim (same_point (point_of x.first) (point index block)) as (λ _. ℕ) [ true ↦ x.first.symbol | false ↦ 0 ]) (greatest (counts_by spans) (point index block))
    ∙ ap (kept_count c block) (sym (greatest_more (record { of = point_of x.first; lacking = x.first.symbol }) (counts_by spans) (point index block)))
  where
    go : (a b : Bool) → (elim a as (λ _. ℕ) [ true ↦ kept_count c block (elim b as (λ _. ℕ) [ true ↦ x.first.symbol | false ↦ 0 ]) | false ↦ 0 ])
        ≡ kept_count c block (elim (a && b) as (λ _. ℕ) [ true ↦ x.first.symbol | false ↦ 0 ])
    go true b = refl
    go false b = kept_none c block

counts_form : (f : Form) (flags : ℕ) (spans : List Span) (index : ℕ) (c : Shape) (block : ℕ)
    → (request_part (record { form = f; flags = flags; spans = spans })).counts index c block
    ≡ kept_count c block (greatest (asked_counts (record { form = f; flags = flags; spans = spans })) (point index block))
counts_form form.Items flags spans index c block = items_zero flags index c block spans ∙ kept_none c block
counts_form form.Ranges flags spans index c block = ranges_zero flags index c block spans ∙ kept_none c block
counts_form form.Erasures flags spans index c block = go (has_flag flags segment_flag || has_flag flags block_flag)
  where
    go : (b : Bool) → (part_where b (counts_part spans)).counts index c block
        ≡ kept_count c block (greatest (elim b as (λ _. List Count) [ true ↦ counts_by spans | false ↦ [] ]) (point index block))
    go true = counts_are index c block spans
    go false = kept_none c block

all_counts : (rs : List Named) (index : ℕ) (c : Shape) (block : ℕ) → (requests_part rs).counts index c block ≡ kept_count c block (greatest (flat_map asked_counts rs) (point index block))
all_counts [] index c block = kept_none c block
all_counts (r ∷ rs) index c block =
    ap (λ v. max v ((requests_part rs).counts index c block)) (counts_form r.form r.flags r.spans index c block)
    ∙ ap (max (kept_count c block (greatest (asked_counts r) (point index block)))) (all_counts rs index c block)
    ∙ kept_both c block (greatest (asked_counts r) (point index block)) (greatest (flat_map asked_counts rs) (point index block))
    ∙ ap (kept_count c block) (sym (greatest_both (asked_counts r) (flat_map asked_counts rs) (point index block)))

-- what was asked as parts was added
pub added_parts : (rs : List Named) (old new : Kept) → HasPart (requests_part rs) old new
    → Rise (listed (λ m. m.asked) new.first new.objects) → new.earliest ≡ earliest_with old.earliest rs → HasAdded rs old new
added_parts rs old new part rise least = record {
  first = part.first;
  objects = part.objects;
  each = λ k d lt. go k (get_or old.objects k d) (get_or new.objects k d) (part.each k d lt);
  rise = rise;
  earliest = least;
}
  where
    go : (k : ℕ) (m n : Marked) → MoreOf (requests_part rs) (old.first + k) m n → HasAsked rs (old.first + k) m n
    go k m n more = record {
      rest = more.rest;
      asked = λ slot kept. more.asked slot kept ∙ ap (λ b. is_member nat_lt slot m.asked || b) (all_slots rs (old.first + k) m slot);
      blocks = more.blocks;
      counts = λ block low lt. more.counted block low lt ∙ ap (max (slice_index m.counts block)) (all_counts rs (old.first + k) (symbols_of_marked m) block);
    }
