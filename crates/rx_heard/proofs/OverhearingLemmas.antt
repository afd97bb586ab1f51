-- What requests ask for, piece by piece.
use Rattle.std.proofs.Common.{◌≡◌, ℕ, ◌<◌, List, [], ◌∷◌, ◌++◌, map, length, cond, Bool, true, false, Option, Some, None, refl, sym, ap, ◌∙◌, arith}
use Rattle.std.specs.Prelude.{◌||◌, filter, flat_map, slice_get, drop}
use Rattle.std.proofs.lemmas.List.{map-id, append_assoc}
use Rattle.norm_base.specs.Settings.{Settings}
use Rattle.fec_plan.specs.declared.position.Position.{Position}
use Rattle.norm_ext.specs.Asking.{Span, span, Named, Count, pairs, pair_span, item_span, item_named, named_by, named, named_spans, asked_spans, asked_counts, is_proper, has_flag, where_flag, block_span, object_span, segment_flag, block_flag, object_flag}
use Rattle.norm_ext.specs.Items.{both_of}
use Rattle.norm_ext.specs.Requests.{Request, RequestItem}
use Rattle.norm_ext.specs.declared.head.Item.{Item}
use Rattle.norm_ext.specs.declared.kinds.Form.{Form}
use Rattle.norm_ext.specs.declared.kinds.Form.TheVariants as form
use Rattle.norm_receive_rules.specs.Heard.{Heard, asked_infos}
use Rattle.rx_heard.specs.Overhearing.{widened, with_spans, with_named, naming, count_at, items_spans, pairs_spans}
use Rattle.rx_heard.specs.declared.overhearing.Width.{Width}
use Rattle.rx_heard.specs.declared.overhearing.Width.TheVariants as width

-- a span of a range more, where it is not empty
one_more : (w : Width) (old : List Span) (x : Span) (spans : List Span)
    → with_spans w (with_spans w old (filter is_proper (x ∷ []))) (filter is_proper spans) ≡ with_spans w old (filter is_proper (x ∷ spans))
one_more w old x spans = go (is_proper x)
  where
    go : (b : Bool) → with_spans w (with_spans w old (cond b (x ∷ []) [])) (filter is_proper spans) ≡ with_spans w old (cond b (x ∷ filter is_proper spans) (filter is_proper spans))
    go true = append_assoc old (widened w x ∷ []) (map (widened w) (filter is_proper spans))
    go false = append_assoc old [] (map (widened w) (filter is_proper spans))

both_more : (w : Width) (old : List Span) (a b : Option Position) (first last : Position) (spans : List Span) → Some (first, last) ≡ both_of a b
    → with_spans w (with_spans w old (filter is_proper (span first last ∷ []))) (filter is_proper spans) ≡ with_spans w old (filter is_proper (pair_span a b ++ spans))
both_more w old (Some a) (Some b) first last spans is =
    one_more w old (span first last) spans
    ∙ ap (λ (o : Option (Position × Position)). with_spans w old (filter is_proper (spans_by o ++ spans))) is
  where
    spans_by : Option (Position × Position) → List Span
    spans_by (Some x) = span x.0 x.1 ∷ []
    spans_by None = []
both_more w old (Some a) None first last spans is = absurd (cc)
both_more w old None b first last spans is = absurd (cc)

both_none : (w : Width) (old : List Span) (a b : Option Position) (spans : List Span) → None ≡ both_of a b
    → with_spans w old (filter is_proper spans) ≡ with_spans w old (filter is_proper (pair_span a b ++ spans))
both_none w old (Some a) (Some b) spans is = absurd (cc)
both_none w old (Some a) None spans is = refl
both_none w old None b spans is = refl

-- a pair of items more
pub pair_more : (p : Settings) (known : ℕ) (w : Width) (old mid : List Span) (x y : Item) (first last : Position) (items : List Item)
    → Some (first, last) ≡ both_of (item_named p known x) (item_named p known y) → mid ≡ with_spans w old (filter is_proper (span first last ∷ []))
    → with_spans w mid (filter is_proper (pairs_spans p known items)) ≡ with_spans w old (filter is_proper (pairs_spans p known (x ∷ y ∷ items)))
unfolding pairs
pair_more p known w old mid x y first last items is one =
    ap (λ (m : List Span). with_spans w m (filter is_proper (pairs_spans p known items))) one
    ∙ both_more w old (item_named p known x) (item_named p known y) first last (pairs_spans p known items) is

-- a pair that names nothing
pub pair_gone : (p : Settings) (known : ℕ) (w : Width) (old : List Span) (x y : Item) (items : List Item)
    → None ≡ both_of (item_named p known x) (item_named p known y)
    → with_spans w old (filter is_proper (pairs_spans p known items)) ≡ with_spans w old (filter is_proper (pairs_spans p known (x ∷ y ∷ items)))
unfolding pairs
pair_gone p known w old x y items is = both_none w old (item_named p known x) (item_named p known y) (pairs_spans p known items) is

-- less than a pair
pub no_pairs : (p : Settings) (known : ℕ) (xs : List Item) → length xs < 2 → pairs_spans p known xs ≡ []
unfolding pairs
no_pairs p known [] lt = refl
no_pairs p known (x ∷ []) lt = refl
no_pairs p known (x ∷ y ∷ xs) lt = absurd (omega (arith, lt))

-- what items name
names_are : (p : Settings) (known : ℕ) (items : List RequestItem) → map (item_named p known) (map (λ (x : RequestItem). x.item) items) ≡ map (named_by p known) items
names_are p known [] = refl
names_are p known (x ∷ items) = ap (λ (places : List (Option Position)). named_by p known x ∷ places) (names_are p known items)

-- what a request of a form names
pub of_items : (p : Settings) (known : ℕ) (r : Request) → form.Items ≡ r.form
    → items_spans p known (map (λ (x : RequestItem). x.item) r.items) ≡ named_spans (named p known r)
of_items p known r is =
    ap (λ (places : List (Option Position)). flat_map item_span places) (names_are p known r.items)
    ∙ ap (λ (f : Form). named_spans (named p known (record r { form = f }))) is

pub of_ranges : (p : Settings) (known : ℕ) (r : Request) → form.Ranges ≡ r.form
    → filter is_proper (pairs_spans p known (map (λ (x : RequestItem). x.item) r.items)) ≡ named_spans (named p known r)
of_ranges p known r is =
    ap (λ (places : List (Option Position)). filter is_proper (pairs places)) (names_are p known r.items)
    ∙ ap (λ (f : Form). named_spans (named p known (record r { form = f }))) is

-- the counts of a request of erasures
pub of_erasures : (p : Settings) (known : ℕ) (r : Request) → form.Erasures ≡ r.form → (has_flag r.flags segment_flag || has_flag r.flags block_flag) ≡ true
    → map count_at (items_spans p known (map (λ (x : RequestItem). x.item) r.items)) ≡ asked_counts (named p known r)
of_erasures p known r is flags =
    ap (λ (places : List (Option Position)). map count_at (flat_map item_span places)) (names_are p known r.items)
    ∙ ap (λ (b : Bool). elim b as (λ _. List Count) [ true ↦ map count_at (flat_map item_span (map (named_by p known) r.items)) | false ↦ [] ]) (sym flags)
    ∙ ap (λ (f : Form). asked_counts (named p known (record r { form = f }))) is

-- all spans that a request asks for, one kind after another
pub all_widths : (old a b new : List Span) (r : Named)
    → a ≡ old ++ where_flag r.flags segment_flag (map (widened width.Symbols) (named_spans r))
    → b ≡ a ++ where_flag r.flags block_flag (map (widened width.Blocks) (named_spans r))
    → new ≡ b ++ where_flag r.flags object_flag (map (widened width.Objects) (named_spans r))
    → new ≡ old ++ asked_spans r
all_widths old a b new r first second third =
    third
    ∙ ap (λ (t : List Span). t ++ objects) second
    ∙ ap (λ (t : List Span). (t ++ blocks) ++ objects) (first ∙ ap (λ (t : List Span). old ++ where_flag r.flags segment_flag t) (map-id (named_spans r)))
    ∙ ap (λ (t : List Span). t ++ objects) (append_assoc old symbols blocks)
    ∙ append_assoc old (symbols ++ blocks) objects
  where
    symbols : List Span
    symbols = where_flag r.flags segment_flag (named_spans r)

    blocks : List Span
    blocks = where_flag r.flags block_flag (map block_span (named_spans r))

    objects : List Span
    objects = where_flag r.flags object_flag (map object_span (named_spans r))

-- a request that was read into a buffer, and from there
pub from_buffer : (old : Heard) (r : Named) (spans symbols infos : List Span) → spans ≡ with_spans width.Symbols [] (named_spans r)
    → symbols ≡ old.symbols ++ asked_spans (naming r.flags spans) → infos ≡ old.infos ++ asked_infos (naming r.flags spans)
    → record old { symbols = symbols; infos = infos } ≡ with_named old r
from_buffer old r spans symbols infos is first second =
    ap (λ (s : List Span). record old { symbols = s; infos = infos }) (first ∙ ap (λ (t : List Span). old.symbols ++ asked_spans (naming r.flags t)) same)
    ∙ ap (λ (s : List Span). record old { symbols = old.symbols ++ asked_spans r; infos = s }) (second ∙ ap (λ (t : List Span). old.infos ++ asked_infos (naming r.flags t)) same)
  where
    same : spans ≡ named_spans r
    same = is ∙ map-id (named_spans r)

-- the first of some requests, and those behind it
pub request_front : (rs : List Request) (r : Request) (rest : List Request) → Some r ≡ slice_get rs 0 → rest ≡ drop 1 rs → rs ≡ r ∷ rest
request_front [] r rest is behind = absurd (cc)
request_front (x ∷ rs) r rest is behind = let same : r ≡ x = cc in ap (λ y. y ∷ rs) (sym same) ∙ ap (λ ys. r ∷ ys) (sym behind)

pub no_request : (rs : List Request) → None ≡ slice_get rs 0 → rs ≡ []
no_request [] is = refl
no_request (x ∷ rs) is = absurd (cc)
