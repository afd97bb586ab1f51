-- What the parts of requests ask for is what the rules say that they ask for.
use Rattle.std.proofs.Common.{◌≡◌, ℕ, zero, suc, ◌/◌, ◌%◌, List, [], ◌∷◌, ◌++◌, map, Bool, true, false, refl, sym, ap, ◌∙◌, arith, cond}
use Rattle.std.specs.Prelude.{◌==◌, ◌&&◌, ◌||◌, filter}
use Rattle.std.specs.List.{list_any}
use Rattle.std.proofs.Math.Bool.{or_assoc}
use Rattle.norm_order.specs.Shapes.{Shape}
use Rattle.fec_plan.specs.Points.{position}
use Rattle.fec_plan.specs.declared.position.Position.{Position}
use Rattle.norm_ext.specs.Asking.{Span, lies_in, block_span, object_span, has_flag, segment_flag, block_flag, object_flag, info_flag, where_flag, is_proper}
use Rattle.nack_union.specs.More.{is_source_slot, is_encoded_slot, asks_by, named_part, symbol_part, part_where, items_part, ranges_part}
use Rattle.symbol_mask.proofs.Puts.{or_false, other_is}

any_append : {X : Type 0} (f : X → Bool) (xs ys : List X) → list_any f (xs ++ ys) ≡ (list_any f xs || list_any f ys)
any_append f [] ys = refl
any_append f (x ∷ xs) ys = ap (λ b. f x || b) (any_append f xs ys) ∙ sym (or_assoc (f x) (list_any f xs) (list_any f ys))

any_map : {X Y : Type 0} (f : Y → Bool) (g : X → Y) (xs : List X) → list_any f (map g xs) ≡ list_any (λ x. f (g x)) xs
any_map f g [] = refl
any_map f g (x ∷ xs) = ap (λ b. f (g x) || b) (any_map f g xs)

pub any_where : {X : Type 0} (f : X → Bool) (flags flag : ℕ) (xs : List X) → list_any f (where_flag flags flag xs) ≡ (has_flag flags flag && list_any f xs)
any_where {X} f flags flag xs = go (has_flag flags flag)
  where
    go : (b : Bool) → list_any f (elim b as (λ _. List X) [ true ↦ xs | false ↦ [] ]) ≡ (b && list_any f xs)
    go true = refl
    go false = refl

four : (a b c d : Bool) → ((a || b) || (c || d)) ≡ ((a || c) || (b || d))
four true b c d = refl
four false true true d = refl
four false true false d = refl
four false false c d = refl

dist : (g x y : Bool) → ((g && x) || (g && y)) ≡ (g && (x || y))
dist true x y = refl
dist false x y = refl

-- three tests, each behind a flag, of one more and of the rest
three : (f g h a b c x y z : Bool)
    → ((((f && a) || (g && b)) || (h && c)) || (((f && x) || (g && y)) || (h && z))) ≡ (((f && (a || x)) || (g && (b || y))) || (h && (c || z)))
three f g h a b c x y z =
    four ((f && a) || (g && b)) (h && c) ((f && x) || (g && y)) (h && z)
    ∙ ap (λ v. v || ((h && c) || (h && z))) (four (f && a) (g && b) (f && x) (g && y))
    ∙ ap (λ v. ((v || ((g && b) || (g && y))) || ((h && c) || (h && z)))) (dist f a x)
    ∙ ap (λ v. (((f && (a || x)) || v) || ((h && c) || (h && z)))) (dist g b y)
    ∙ ap (λ v. ((f && (a || x)) || (g && (b || y))) || v) (dist h c z)

-- the spans of a request, by its flags
pub any_spans : (at : Position) (flags : ℕ) (spans : List Span)
    → list_any (lies_in at) (where_flag flags segment_flag spans ++ where_flag flags block_flag (map block_span spans) ++ where_flag flags object_flag (map object_span spans))
    ≡ (((has_flag flags segment_flag && list_any (lies_in at) spans) || (has_flag flags block_flag && list_any (λ s. lies_in at (block_span s)) spans))
    || (has_flag flags object_flag && list_any (λ s. lies_in at (object_span s)) spans))
any_spans at flags spans =
    any_append (lies_in at) (where_flag flags segment_flag spans ++ where_flag flags block_flag (map block_span spans)) (where_flag flags object_flag (map object_span spans))
    ∙ ap (λ b. b || list_any (lies_in at) (where_flag flags object_flag (map object_span spans)))
    (any_append (lies_in at) (where_flag flags segment_flag spans) (where_flag flags block_flag (map block_span spans)))
    ∙ ap (λ b. (b || list_any (lies_in at) (where_flag flags block_flag (map block_span spans))) || list_any (lies_in at) (where_flag flags object_flag (map object_span spans)))
    (any_where (lies_in at) flags segment_flag spans)
    ∙ ap (λ b. ((has_flag flags segment_flag && list_any (lies_in at) spans) || b) || list_any (lies_in at) (where_flag flags object_flag (map object_span spans)))
    (any_where (lies_in at) flags block_flag (map block_span spans) ∙ ap (λ b. has_flag flags block_flag && b) (any_map (lies_in at) block_span spans))
    ∙ ap (λ b. ((has_flag flags segment_flag && list_any (lies_in at) spans) || (has_flag flags block_flag && list_any (λ s. lies_in at (block_span s)) spans)) || b)
    (any_where (lies_in at) flags object_flag (map object_span spans) ∙ ap (λ b. has_flag flags object_flag && b) (any_map (lies_in at) object_span spans))

-- what flags ask of some spans, for a slot
abbrev pub by_spans : ℕ → Position → List Span → Bool
by_spans flags at spans =
    ((has_flag flags segment_flag && list_any (lies_in at) spans) || (has_flag flags block_flag && list_any (λ s. lies_in at (block_span s)) spans))
    || (has_flag flags object_flag && list_any (λ s. lies_in at (object_span s)) spans)

abbrev by_span : ℕ → Position → Span → Bool
by_span flags at s =
    ((has_flag flags segment_flag && lies_in at s) || (has_flag flags block_flag && lies_in at (block_span s))) || (has_flag flags object_flag && lies_in at (object_span s))

more_spans : (flags : ℕ) (at : Position) (s : Span) (spans : List Span) → (by_span flags at s || by_spans flags at spans) ≡ by_spans flags at (s ∷ spans)
more_spans flags at s spans =
    three (has_flag flags segment_flag) (has_flag flags block_flag) (has_flag flags object_flag) (lies_in at s) (lies_in at (block_span s)) (lies_in at (object_span s))
    (list_any (lies_in at) spans) (list_any (λ s. lies_in at (block_span s)) spans) (list_any (λ s. lies_in at (object_span s)) spans)

none_and : (a b : Bool) → b ≡ false → (a && b) ≡ false
none_and true b e = e
none_and false b e = refl

-- of a span, for the slot of a symbol
slot_by : (flags index n : ℕ) (s : Span) (c : Shape) (info : Bool)
    → asks_by flags s index c info (suc n) ≡ (is_source_slot c (suc n) && by_span flags (position index (n / 256) (n % 256)) s)
slot_by flags index n s c info =
    or_false _ _ (gone (has_flag flags info_flag) info (suc n == 0) (lies_in (position index 0 0) (object_span s)) (other_is (suc n) 0 (λ e. absurd (omega (arith, e)))))
  where
    gone : (a b v d : Bool) → v ≡ false → ((a && (b && v)) && d) ≡ false
    gone a b v d e = ap (λ w. (a && (b && w)) && d) e ∙ go a b
      where
        go : (a b : Bool) → ((a && (b && false)) && d) ≡ false
        go true true = refl
        go true false = refl
        go false b = refl

-- and of its object's info
info_by : (flags index : ℕ) (s : Span) (c : Shape) (info : Bool)
    → asks_by flags s index c info zero ≡ (info && (has_flag flags info_flag && lies_in (position index 0 0) (object_span s)))
info_by flags index s c info = go (has_flag flags info_flag) info (lies_in (position index 0 0) (object_span s))
  where
    go : (a b d : Bool) → ((a && (b && true)) && d) ≡ (b && (a && d))
    go true true d = refl
    go true false d = refl
    go false true d = refl
    go false false d = refl

-- an item that is named, for the slot of a symbol
abbrev pub same_symbol : Position → Position → Bool
same_symbol at x = x.index == at.index && x.block == at.block && x.symbol == at.symbol

named_by_flag : (flags index n : ℕ) (x : Position) (c : Shape) (info : Bool)
    → (part_where (has_flag flags segment_flag) (symbol_part x)).slots index c info (suc n)
    ≡ (is_encoded_slot c (suc n) && (has_flag flags segment_flag && same_symbol (position index (n / 256) (n % 256)) x))
named_by_flag flags index n x c info = go (has_flag flags segment_flag)
  where
    turn : (e i b s : Bool) → (i && (e && (b && s))) ≡ (e && (true && ((i && b) && s)))
    turn true true b s = refl
    turn true false b s = refl
    turn false true b s = refl
    turn false false b s = refl

    off : (e : Bool) → false ≡ (e && false)
    off true = refl
    off false = refl

    go : (f : Bool) → (part_where f (symbol_part x)).slots index c info (suc n) ≡ (is_encoded_slot c (suc n) && (f && same_symbol (position index (n / 256) (n % 256)) x))
    go true = turn (is_encoded_slot c (suc n)) (x.index == index) (x.block == n / 256) (x.symbol == n % 256)
    go false = off (is_encoded_slot c (suc n))

named_info : (flags index : ℕ) (x : Position) (c : Shape) (info : Bool) → (part_where (has_flag flags segment_flag) (symbol_part x)).slots index c info zero ≡ false
named_info flags index x c info = go (has_flag flags segment_flag)
  where
    go : (f : Bool) → (part_where f (symbol_part x)).slots index c info zero ≡ false
    go true = none_and (x.index == index) false refl
    go false = refl

pub none_asked : (s f g h e : Bool) → false ≡ ((s && (((f && false) || (g && false)) || (h && false))) || (e && (f && false)))
none_asked s f g h e =
    sym (ap (λ v. (s && ((v || (g && false)) || (h && false))) || (e && v)) (none_and f false refl)
    ∙ ap (λ v. (s && ((false || v) || (h && false))) || (e && false)) (none_and g false refl)
    ∙ ap (λ v. (s && v) || (e && false)) (none_and h false refl)
    ∙ ap (λ v. v || (e && false)) (none_and s false refl) ∙ none_and e false refl)

join : (s e f a b x y : Bool) → (((s && a) || (e && (f && b))) || ((s && x) || (e && (f && y)))) ≡ ((s && (a || x)) || (e && (f && (b || y))))
join s e f a b x y =
    four (s && a) (e && (f && b)) (s && x) (e && (f && y)) ∙ ap (λ v. v || ((e && (f && b)) || (e && (f && y)))) (dist s a x)
    ∙ ap (λ v. (s && (a || x)) || v) (dist e (f && b) (f && y) ∙ ap (λ v. e && v) (dist f b y))

-- where spans begin
abbrev pub begins : List Span → List Position
begins spans = map (λ (s : Span). s.first) spans

-- items, for the slot of a symbol
pub items_slot : (flags index n : ℕ) (c : Shape) (info : Bool) (spans : List Span)
    → (items_part flags spans).slots index c info (suc n)
    ≡ ((is_source_slot c (suc n) && by_spans flags (position index (n / 256) (n % 256)) spans)
    || (is_encoded_slot c (suc n) && (has_flag flags segment_flag && list_any (same_symbol (position index (n / 256) (n % 256))) (begins spans))))
items_slot flags index n c info [] =
    none_asked (is_source_slot c (suc n)) (has_flag flags segment_flag) (has_flag flags block_flag) (has_flag flags object_flag) (is_encoded_slot c (suc n))
items_slot flags index n c info (x ∷ spans) =
    ap (λ v. (v || (part_where (has_flag flags segment_flag) (symbol_part x.first)).slots index c info (suc n)) || (items_part flags spans).slots index c info (suc n))
    (slot_by flags index n x c info)
    ∙ ap (λ v. ((is_source_slot c (suc n) && by_span flags (position index (n / 256) (n % 256)) x) || v) || (items_part flags spans).slots index c info (suc n))
    (named_by_flag flags index n x.first c info)
    ∙ ap (λ v. ((is_source_slot c (suc n) && by_span flags (position index (n / 256) (n % 256)) x)
    || (is_encoded_slot c (suc n) && (has_flag flags segment_flag && same_symbol (position index (n / 256) (n % 256)) x.first))) || v)
    (items_slot flags index n c info spans)
    ∙ join (is_source_slot c (suc n)) (is_encoded_slot c (suc n)) (has_flag flags segment_flag) _ _ _ _
    ∙ ap (λ v. (is_source_slot c (suc n) && v) || (is_encoded_slot c (suc n) && (has_flag flags segment_flag
    && (same_symbol (position index (n / 256) (n % 256)) x.first || list_any (same_symbol (position index (n / 256) (n % 256))) (begins spans)))))
    (more_spans flags (position index (n / 256) (n % 256)) x spans)

pub no_infos : (i f : Bool) → false ≡ (i && (f && false))
no_infos true true = refl
no_infos true false = refl
no_infos false f = refl

-- items, for an info
pub items_info : (flags index : ℕ) (c : Shape) (info : Bool) (spans : List Span)
    → (items_part flags spans).slots index c info zero
    ≡ (info && (has_flag flags info_flag && list_any (λ s. lies_in (position index 0 0) (object_span s)) spans))
items_info flags index c info [] = no_infos info (has_flag flags info_flag)
items_info flags index c info (x ∷ spans) =
    ap (λ v. (v || (part_where (has_flag flags segment_flag) (symbol_part x.first)).slots index c info zero) || (items_part flags spans).slots index c info zero)
    (info_by flags index x c info)
    ∙ ap (λ v. v || (items_part flags spans).slots index c info zero) (or_false _ _ (named_info flags index x.first c info))
    ∙ ap (λ v. (info && (has_flag flags info_flag && lies_in (position index 0 0) (object_span x))) || v) (items_info flags index c info spans)
    ∙ dist info _ _ ∙ ap (λ v. info && v) (dist (has_flag flags info_flag) _ _)

-- ranges
pub ranges_slot : (flags index n : ℕ) (c : Shape) (info : Bool) (spans : List Span)
    → (ranges_part flags spans).slots index c info (suc n)
    ≡ (is_source_slot c (suc n) && by_spans flags (position index (n / 256) (n % 256)) (filter is_proper spans))
ranges_slot flags index n c info [] = go (is_source_slot c (suc n)) (has_flag flags segment_flag) (has_flag flags block_flag) (has_flag flags object_flag)
  where
    go : (s f g h : Bool) → false ≡ (s && (((f && false) || (g && false)) || (h && false)))
    go s f g h = none_asked s f g h false ∙ or_false _ false refl
ranges_slot flags index n c info (x ∷ spans) = go (is_proper x) (ranges_slot flags index n c info spans)
  where
    go : (b : Bool) → (ranges_part flags spans).slots index c info (suc n)
        ≡ (is_source_slot c (suc n) && by_spans flags (position index (n / 256) (n % 256)) (filter is_proper spans))
        → ((part_where b (named_part flags x)).slots index c info (suc n) || (ranges_part flags spans).slots index c info (suc n))
        ≡ (is_source_slot c (suc n) && by_spans flags (position index (n / 256) (n % 256)) (cond b (x ∷ filter is_proper spans) (filter is_proper spans)))
    go true rest =
        ap (λ v. v || (ranges_part flags spans).slots index c info (suc n)) (slot_by flags index n x c info)
        ∙ ap (λ v. (is_source_slot c (suc n) && by_span flags (position index (n / 256) (n % 256)) x) || v) rest
        ∙ dist (is_source_slot c (suc n)) _ _
        ∙ ap (λ v. is_source_slot c (suc n) && v) (more_spans flags (position index (n / 256) (n % 256)) x (filter is_proper spans))
    go false rest = rest

pub ranges_info : (flags index : ℕ) (c : Shape) (info : Bool) (spans : List Span)
    → (ranges_part flags spans).slots index c info zero
    ≡ (info && (has_flag flags info_flag && list_any (λ s. lies_in (position index 0 0) (object_span s)) (filter is_proper spans)))
ranges_info flags index c info [] = no_infos info (has_flag flags info_flag)
ranges_info flags index c info (x ∷ spans) = go (is_proper x) (ranges_info flags index c info spans)
  where
    go : (b : Bool) → (ranges_part flags spans).slots index c info zero
        ≡ (info && (has_flag flags info_flag && list_any (λ s. lies_in (position index 0 0) (object_span s)) (filter is_proper spans)))
        → ((part_where b (named_part flags x)).slots index c info zero || (ranges_part flags spans).slots index c info zero)
        ≡ (info && (has_flag flags info_flag && list_any (λ s. lies_in (position index 0 0) (object_span s)) (cond b (x ∷ filter is_proper spans) (filter is_proper spans))))
    go true rest =
        ap (λ v. v || (ranges_part flags spans).slots index c info zero) (info_by flags index x c info)
        ∙ ap (λ v. (info && (has_flag flags info_flag && lies_in (position index 0 0) (object_span x))) || v) rest
        ∙ dist info _ _ ∙ ap (λ v. info && v) (dist (has_flag flags info_flag) _ _)
    go false rest = rest
