-- What items and pairs of items ask for, one after another, and what a request asks for by its form.
use Rattle.std.proofs.Common.{◌≡◌, ℕ, ◌<◌, List, [], ◌∷◌, ◌++◌, map, length, Bool, Option, Some, None, refl, sym, ap, ◌∙◌, subst, arith}
use Rattle.std.specs.Prelude.{◌||◌, flat_map}
use Rattle.norm_base.specs.Settings.{Settings}
use Rattle.fec_plan.specs.declared.position.Position.{Position}
use Rattle.norm_ext.specs.Asking.{Span, span, pairs, pair_span, item_span, item_named, named_by, named, is_proper, has_flag, segment_flag, block_flag}
use Rattle.norm_ext.specs.Items.{both_of}
use Rattle.norm_ext.specs.Requests.{Request, RequestItem}
use Rattle.norm_ext.specs.declared.head.Item.{Item}
use Rattle.norm_ext.specs.declared.kinds.Form.{Form}
use Rattle.norm_ext.specs.declared.kinds.Form.TheVariants as form
use Rattle.nack_union.specs.Kept.{Kept}
use Rattle.nack_union.specs.Earliest.{items_spans, pairs_spans}
use Rattle.nack_union.specs.More.{HasPart, part_where, named_part, item_part, items_part, ranges_part, count_part, counts_part, request_part}
use Rattle.nack_union.proofs.Parts.{part_then}

-- an item more
pub item_more : (p : Settings) (known flags : ℕ) (x : Item) (at : Position) (items : List Item) (old mid new : Kept) → Some at ≡ item_named p known x
    → HasPart (item_part flags (span at at)) old mid → HasPart (items_part flags (items_spans p known items)) mid new
    → HasPart (items_part flags (items_spans p known (x ∷ items))) old new
item_more p known flags x at items old mid new is one rest =
    subst (λ (o : Option Position). HasPart (items_part flags (item_span o ++ items_spans p known items)) old new) is (part_then _ _ old mid new one rest)

pub count_more : (p : Settings) (known : ℕ) (x : Item) (at : Position) (items : List Item) (old mid new : Kept) → Some at ≡ item_named p known x
    → HasPart (count_part at) old mid → HasPart (counts_part (items_spans p known items)) mid new
    → HasPart (counts_part (items_spans p known (x ∷ items))) old new
count_more p known x at items old mid new is one rest =
    subst (λ (o : Option Position). HasPart (counts_part (item_span o ++ items_spans p known items)) old new) is (part_then _ _ old mid new one rest)

-- an item that names nothing
pub item_gone : (p : Settings) (known : ℕ) (x : Item) (items : List Item) → None ≡ item_named p known x → items_spans p known items ≡ items_spans p known (x ∷ items)
item_gone p known x items is = ap (λ (o : Option Position). item_span o ++ items_spans p known items) is

-- a pair by both its ends
abbrev span_of : Option (Position × Position) → List Span
span_of (Some x) = span x.0 x.1 ∷ []
span_of None = []

both_span : (a b : Option Position) → pair_span a b ≡ span_of (both_of a b)
both_span (Some a) (Some b) = refl
both_span (Some a) None = refl
both_span None b = refl

pub pair_spans : (p : Settings) (known : ℕ) (x y : Item) (items : List Item) (o : Option (Position × Position)) → o ≡ both_of (item_named p known x) (item_named p known y)
    → span_of o ++ pairs_spans p known items ≡ pairs_spans p known (x ∷ y ∷ items)
unfolding pairs
pair_spans p known x y items o is =
    ap (λ (o : Option (Position × Position)). span_of o ++ pairs_spans p known items) is
    ∙ ap (λ (s : List Span). s ++ pairs_spans p known items) (sym (both_span (item_named p known x) (item_named p known y)))

pub pair_more : (p : Settings) (known flags : ℕ) (x y : Item) (from to : Position) (items : List Item) (old mid new : Kept)
    → Some (from, to) ≡ both_of (item_named p known x) (item_named p known y)
    → HasPart (part_where (is_proper (span from to)) (named_part flags (span from to))) old mid → HasPart (ranges_part flags (pairs_spans p known items)) mid new
    → HasPart (ranges_part flags (pairs_spans p known (x ∷ y ∷ items))) old new
pair_more p known flags x y from to items old mid new is one rest =
    subst (λ (s : List Span). HasPart (ranges_part flags s) old new) (pair_spans p known x y items (Some (from, to)) is) (part_then _ _ old mid new one rest)

-- less than a pair
pub no_pairs : (p : Settings) (known : ℕ) (xs : List Item) → length xs < 2 → pairs_spans p known xs ≡ []
unfolding pairs
no_pairs p known [] lt = refl
no_pairs p known (x ∷ []) lt = refl
no_pairs p known (x ∷ y ∷ xs) lt = absurd (omega (arith, lt))

-- what items name
pub names_are : (p : Settings) (known : ℕ) (items : List RequestItem) → map (item_named p known) (map (λ (x : RequestItem). x.item) items) ≡ map (named_by p known) items
names_are p known [] = refl
names_are p known (x ∷ items) = ap (λ (places : List (Option Position)). named_by p known x ∷ places) (names_are p known items)

-- a request of a form
pub of_items : (p : Settings) (known : ℕ) (r : Request) → r.form ≡ form.Items
    → items_part r.flags (items_spans p known (map (λ (x : RequestItem). x.item) r.items)) ≡ request_part (named p known r)
of_items p known r is =
    ap (λ (places : List (Option Position)). items_part r.flags (flat_map item_span places)) (names_are p known r.items)
    ∙ ap (λ (f : Form). request_part (named p known (record r { form = f }))) (sym is)

pub of_ranges : (p : Settings) (known : ℕ) (r : Request) → r.form ≡ form.Ranges
    → ranges_part r.flags (pairs_spans p known (map (λ (x : RequestItem). x.item) r.items)) ≡ request_part (named p known r)
of_ranges p known r is =
    ap (λ (places : List (Option Position)). ranges_part r.flags (pairs places)) (names_are p known r.items)
    ∙ ap (λ (f : Form). request_part (named p known (record r { form = f }))) (sym is)

pub of_erasures : (p : Settings) (known : ℕ) (r : Request) (wanted : Bool) → r.form ≡ form.Erasures → (has_flag r.flags segment_flag || has_flag r.flags block_flag) ≡ wanted
    → part_where wanted (counts_part (items_spans p known (map (λ (x : RequestItem). x.item) r.items))) ≡ request_part (named p known r)
of_erasures p known r wanted is flags =
    ap (λ (places : List (Option Position)). part_where wanted (counts_part (flat_map item_span places))) (names_are p known r.items)
    ∙ ap (λ (b : Bool). part_where b (counts_part (flat_map item_span (map (named_by p known) r.items)))) (sym flags)
    ∙ ap (λ (f : Form). request_part (named p known (record r { form = f }))) (sym is)
