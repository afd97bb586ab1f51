-- Items of requests one by one, and the first point from which a request counts.
use Rattle.std.proofs.Common.{◌≡◌, ℕ, List, [], ◌∷◌, ◌++◌, map, Bool, true, false, cond, Option, Some, None, refl, sym, ap, ◌∙◌}
use Rattle.std.specs.Prelude.{◌||◌, filter, flat_map}
use Rattle.norm_base.specs.Settings.{Settings}
use Rattle.fec_plan.specs.Points.{Point}
use Rattle.fec_plan.specs.declared.position.Position.{Position}
use Rattle.norm_ext.specs.Asking.{Span, span, pairs, item_span, item_named, named_by, named, is_proper, has_flag, segment_flag, block_flag}
use Rattle.norm_ext.specs.Items.{both_of}
use Rattle.norm_ext.specs.Requests.{Request, RequestItem}
use Rattle.norm_ext.specs.declared.head.Item.{Item}
use Rattle.norm_ext.specs.declared.kinds.Form.{Form}
use Rattle.norm_ext.specs.declared.kinds.Form.TheVariants as form
use Rattle.norm_send_rules.specs.Closing.{gives_something, begins_at, counts_from}
use Rattle.nack_union.specs.Earliest.{lesser, least_with, firsts, items_spans, pairs_spans, lesser_span}
use Rattle.nack_union.proofs.PartsNamed.{names_are, pair_spans}

-- an item more
pub item_least : (p : Settings) (known flags : ℕ) (found : Option Point) (x : Item) (at : Position) (items : List Item) → Some at ≡ item_named p known x
    → least_with (lesser found (Some (counts_from flags at))) (firsts flags (items_spans p known items)) ≡ least_with found (firsts flags (items_spans p known (x ∷ items)))
item_least p known flags found x at items is = ap (λ (o : Option Position). least_with found (firsts flags (item_span o ++ items_spans p known items))) is

-- a range more
range_least : (flags : ℕ) (found : Option Point) (s : Span) (spans : List Span)
    → least_with (lesser_span flags found s) (firsts flags (filter is_proper spans)) ≡ least_with found (firsts flags (filter is_proper (s ∷ spans)))
range_least flags found s spans = go (is_proper s)
  where
    go : (test : Bool)
        → least_with (elim test as (λ _. Option Point) [ true ↦ lesser found (Some (counts_from flags s.first)) | false ↦ found ]) (firsts flags (filter is_proper spans))
        ≡ least_with found (firsts flags (cond test (s ∷ filter is_proper spans) (filter is_proper spans)))
    go true = refl
    go false = refl

pub pair_least : (p : Settings) (known flags : ℕ) (found : Option Point) (x y : Item) (from to : Position) (items : List Item)
    → Some (from, to) ≡ both_of (item_named p known x) (item_named p known y)
    → least_with (lesser_span flags found (span from to)) (firsts flags (filter is_proper (pairs_spans p known items)))
    ≡ least_with found (firsts flags (filter is_proper (pairs_spans p known (x ∷ y ∷ items))))
pair_least p known flags found x y from to items is =
    range_least flags found (span from to) (pairs_spans p known items)
    ∙ ap (λ (spans : List Span). least_with found (firsts flags (filter is_proper spans))) (pair_spans p known x y items (Some (from, to)) is)

firsts_are : (flags : ℕ) (spans : List Span) → firsts flags spans ≡ map (counts_from flags) (map (λ (s : Span). s.first) spans)
firsts_are flags [] = refl
firsts_are flags (s ∷ spans) = ap (λ (points : List Point). counts_from flags s.first ∷ points) (firsts_are flags spans)

-- the first point of a request of a form that gives something
abbrev pub least_at : Settings → ℕ → Request → Option Point
least_at p known r = least_with None (map (counts_from r.flags) (begins_at (named p known r)))

pub least_items : (p : Settings) (known : ℕ) (r : Request) → r.form ≡ form.Items
    → least_with None (firsts r.flags (items_spans p known (map (λ (x : RequestItem). x.item) r.items))) ≡ least_at p known r
least_items p known r is =
    ap (λ (places : List (Option Position)). least_with None (firsts r.flags (flat_map item_span places))) (names_are p known r.items)
    ∙ ap (least_with None) (firsts_are r.flags (flat_map item_span (map (named_by p known) r.items)))
    ∙ ap (λ (f : Form). least_at p known (record r { form = f })) (sym is)

pub least_erasures : (p : Settings) (known : ℕ) (r : Request) → r.form ≡ form.Erasures
    → least_with None (firsts r.flags (items_spans p known (map (λ (x : RequestItem). x.item) r.items))) ≡ least_at p known r
least_erasures p known r is =
    ap (λ (places : List (Option Position)). least_with None (firsts r.flags (flat_map item_span places))) (names_are p known r.items)
    ∙ ap (least_with None) (firsts_are r.flags (flat_map item_span (map (named_by p known) r.items)))
    ∙ ap (λ (f : Form). least_at p known (record r { form = f })) (sym is)

pub least_ranges : (p : Settings) (known : ℕ) (r : Request) → r.form ≡ form.Ranges
    → least_with None (firsts r.flags (filter is_proper (pairs_spans p known (map (λ (x : RequestItem). x.item) r.items)))) ≡ least_at p known r
least_ranges p known r is =
    ap (λ (places : List (Option Position)). least_with None (firsts r.flags (filter is_proper (pairs places)))) (names_are p known r.items)
    ∙ ap (least_with None) (firsts_are r.flags (filter is_proper (pairs (map (named_by p known) r.items))))
    ∙ ap (λ (f : Form). least_at p known (record r { form = f })) (sym is)

-- erasures give something by SEGMENT or BLOCK alone
or_none : (a : Bool) → (a || false) ≡ a
or_none true = refl
or_none false = refl

pub erasures_give : (r : Request) → r.form ≡ form.Erasures → gives_something (record { form = r.form; flags = r.flags; spans = [] }) ≡ (has_flag r.flags segment_flag || has_flag r.flags block_flag)
erasures_give r is =
    ap (λ (f : Form). gives_something (record { form = f; flags = r.flags; spans = [] })) is
    ∙ or_none (has_flag r.flags segment_flag || has_flag r.flags block_flag)
