-- What was heard tells, kept merged, the same as the requests as they were heard.
use Rattle.std.proofs.Common.{◌≡◌, ℕ, ◌+◌, ◌<◌, ◌≤◌, ◌⊎◌, inl, inr, List, [], ◌∷◌, map, Bool, true, false, not, refl, sym, ap, subst, ◌∙◌, arith}
use Rattle.std.specs.Prelude.{flat_map, fold, max, nat_lt, nat_le, ◌&&◌, ◌||◌, ⊤, if◌then◌else◌}
use Rattle.std.specs.Bool.{Decides}
use Rattle.std.specs.List.{list_any, AllByRecursion}
use Rattle.std.proofs.lemmas.Bool.{cases_lt}
use Rattle.std.proofs.lemmas.Bool.Decides.{Decides-ltb, Decides-eqb, Decides-and, leb_tells}
use Rattle.std.proofs.lemmas.List.Folds.{list_any-append}
use Rattle.fec_plan.specs.Points.{Point, position, position_before, same_point, point_before, nearer, reaches}
use Rattle.fec_plan.specs.declared.position.Position.{Position}
use Rattle.fec_plan.proofs.PositionLemmas.{Before, Behind, before_decides, behind, reached, behind_both, before_both}
use Rattle.norm_ext.specs.Asking.{Named, Span, lies_in, has_flag, info_flag, named_spans, object_span, is_proper, asked_spans, asks_info, Count, asked_counts}
use Rattle.norm_receive_rules.specs.Heard.{Heard, later, joined, with_span, with_proper, with_count, asked_infos, heard_also, heard_all, heard_nothing}
use Rattle.norm_receive_rules.specs.HeardNeeds.{is_asked, symbol_behind, covers, asks_as_many}
use Rattle.norm_receive_rules.specs.Laws.{EachIsAsked, HeardLaws}

-- ---- truth values, and the order of positions

clash : false ≡ true → ⊥
clash e = cc

bool_same : {P Q : Type 0} (b c : Bool) → Decides b P → Decides c Q → (P → Q) → (Q → P) → b ≡ c
bool_same true c d e to from = sym (e.1 (to (d.0 refl)))
bool_same false true d e to from = d.1 (from (e.0 refl))
bool_same false false d e to from = refl

or_swap : (a b c : Bool) → (a || (b || c)) ≡ (b || (a || c))
or_swap true true c = refl
or_swap true false c = refl
or_swap false true c = refl
or_swap false false c = refl

or_join : (a b c : Bool) → ((a || b) || c) ≡ (a || (b || c))
or_join true b c = refl
or_join false b c = refl

or_turn : (a b : Bool) → (a || b) ≡ (b || a)
or_turn true true = refl
or_turn true false = refl
or_turn false true = refl
or_turn false false = refl

or_false : (a : Bool) → (a || false) ≡ a
or_false true = refl
or_false false = refl

-- a position is before another or at it or behind it, and not both
either_way : (a b : Position) → Before a b ⊎ Behind a b
either_way a b = go (position_before a b) refl
  where
    go : (t : Bool) → position_before a b ≡ t → Before a b ⊎ Behind a b
    go true e = inl ((before_decides a b).0 e)
    go false e = inr (behind a b (ap not e))

not_before : (a b : Position) → Before a b → Behind a b → ⊥
not_before a b lt ge = clash (sym (ap not ((before_decides a b).1 lt)) ∙ reached a b ge)

behind_itself : (a : Position) → Behind a a
behind_itself a = inr (refl, inr (refl, omega arith))

-- of three in a row the first is before the last, where one step is strict
before_behind : (a b c : Position) → Before a b → Behind c b → Before a c
before_behind a b c lt ge = elim (either_way a c) [ inl is ↦ is | inr back ↦ absurd (not_before a b lt (behind_both a c b back ge)) ]

behind_before : (a b c : Position) → Behind b a → Before b c → Before a c
behind_before a b c ge lt = elim (either_way a c) [ inl is ↦ is | inr back ↦ absurd (not_before b c lt (behind_both b a c ge back)) ]

after : (a b : Position) → Before a b → Behind b a
after a b lt = elim (either_way b a) [ inl back ↦ absurd (not_before a b lt (after_of back)) | inr is ↦ is ]
  where
    after_of : Before b a → Behind a b
    after_of back = elim (either_way a b) [ inl is ↦ absurd (no_circle is back) | inr is ↦ is ]
      where
        no_circle : Before a b → Before b a → ⊥
        no_circle h k = not_before a a (before_both a b a h k) (behind_itself a)

test_before : (a b : Position) → position_before a b ≡ true → Before a b
test_before a b e = (before_decides a b).0 e

test_behind : (a b : Position) → position_before a b ≡ false → Behind a b
test_behind a b e = behind a b (ap not e)

-- ---- a span

abbrev In : Position → Span → Type 0
In at s = Behind at s.first × Behind s.last at

behind_test : (a b : Position) → Decides (not (position_before a b)) (Behind a b)
behind_test a b = (behind a b, reached a b)

lies_decides : (at : Position) (s : Span) → Decides (lies_in at s) (In at s)
lies_decides at s = Decides-and _ _ (behind_test at s.first) (behind_test s.last at)

nearer_is : (a b : Position) → ((nearer a b ≡ a) × Behind b a) ⊎ ((nearer a b ≡ b) × Before b a)
nearer_is a b = go (position_before b a) refl
  where
    go : (t : Bool) → position_before b a ≡ t → (((if t then b else a) ≡ a) × Behind b a) ⊎ (((if t then b else a) ≡ b) × Before b a)
    go true e = inr (refl, test_before b a e)
    go false e = inl (refl, test_behind b a e)

later_is : (a b : Position) → ((later a b ≡ b) × Before a b) ⊎ ((later a b ≡ a) × Behind a b)
later_is a b = go (position_before a b) refl
  where
    go : (t : Bool) → position_before a b ≡ t
        → ((elim t as (λ _. Position) [ true ↦ b | false ↦ a ] ≡ b) × Before a b) ⊎ ((elim t as (λ _. Position) [ true ↦ b | false ↦ a ] ≡ a) × Behind a b)
    go true e = inl (refl, test_before a b e)
    go false e = inr (refl, test_behind a b e)

-- at the nearer of two, or behind it
from_first : (at a b : Position) → Behind at a → Behind at (nearer a b)
from_first at a b h = elim (nearer_is a b) [
  | inl own ↦ subst (λ (x : Position). Behind at x) (sym own.0) h
  | inr other ↦ subst (λ (x : Position). Behind at x) (sym other.0) (behind_both at a b h (after b a other.1))
]

from_second : (at a b : Position) → Behind at b → Behind at (nearer a b)
from_second at a b h = elim (nearer_is a b) [
  | inl own ↦ subst (λ (x : Position). Behind at x) (sym own.0) (behind_both at b a h own.1)
  | inr other ↦ subst (λ (x : Position). Behind at x) (sym other.0) h
]

to_first : (at a b : Position) → Behind a at → Behind (later a b) at
to_first at a b h = elim (later_is a b) [
  | inl other ↦ subst (λ (x : Position). Behind x at) (sym other.0) (behind_both b a at (after a b other.1) h)
  | inr own ↦ subst (λ (x : Position). Behind x at) (sym own.0) h
]

to_second : (at a b : Position) → Behind b at → Behind (later a b) at
to_second at a b h = elim (later_is a b) [
  | inl other ↦ subst (λ (x : Position). Behind x at) (sym other.0) h
  | inr own ↦ subst (λ (x : Position). Behind x at) (sym own.0) (behind_both a b at own.1 h)
]

-- at the later of two or before it: at one of them or before it
of_later : (at a b : Position) → Behind (later a b) at → Behind a at ⊎ Behind b at
of_later at a b h = elim (later_is a b) [
  | inl other ↦ inr (subst (λ (x : Position). Behind x at) other.0 h)
  | inr own ↦ inl (subst (λ (x : Position). Behind x at) own.0 h)
]

-- what lies in two spans that share a position
in_joined : (at : Position) (x y : Span) → Behind y.last x.first → Behind x.last y.first → In at (joined x y) → In at x ⊎ In at y
in_joined at x y meets met h = elim (nearer_is x.first y.first) [
  | inl own ↦ first (subst (λ (p : Position). Behind at p) own.0 h.0) (either_way x.last at)
  | inr other ↦ second (subst (λ (p : Position). Behind at p) other.0 h.0) (either_way y.last at)
]
  where
    first : Behind at x.first → Before x.last at ⊎ Behind x.last at → In at x ⊎ In at y
    first from (inr to) = inl (from, to)
    first from (inl past) = elim (of_later at x.last y.last h.1) [
      | inl own ↦ absurd (not_before x.last at past own)
      | inr to ↦ inr (after y.first at (behind_before y.first x.last at met past), to)
    ]

    second : Behind at y.first → Before y.last at ⊎ Behind y.last at → In at x ⊎ In at y
    second from (inr to) = inr (from, to)
    second from (inl past) = elim (of_later at x.last y.last h.1) [
      | inl to ↦ inl (after x.first at (behind_before x.first y.last at meets past), to)
      | inr own ↦ absurd (not_before y.last at past own)
    ]

joined_in : (at : Position) (x y : Span) → In at x ⊎ In at y → In at (joined x y)
joined_in at x y (inl h) = (from_first at x.first y.first h.0, to_first at x.last y.last h.1)
joined_in at x y (inr h) = (from_second at x.first y.first h.0, to_second at x.last y.last h.1)

either_decides : {P Q : Type 0} (a b : Bool) → Decides a P → Decides b Q → Decides (a || b) (P ⊎ Q)
either_decides {P} {Q} true b d e = (λ yes. inl (d.0 refl), λ h. refl)
either_decides {P} {Q} false true d e = (λ yes. inr (e.0 refl), λ h. refl)
either_decides {P} {Q} false false d e = (λ yes. absurd (clash yes), λ h. absurd (none h))
  where
    none : P ⊎ Q → ⊥
    none (inl p) = clash (d.1 p)
    none (inr q) = clash (e.1 q)

joined_lies : (at : Position) (x y : Span) → position_before y.last x.first ≡ false → position_before x.last y.first ≡ false
    → lies_in at (joined x y) ≡ (lies_in at x || lies_in at y)
joined_lies at x y e f =
    bool_same (lies_in at (joined x y)) (lies_in at x || lies_in at y) (lies_decides at (joined x y))
    (either_decides (lies_in at x) (lies_in at y) (lies_decides at x) (lies_decides at y))
    (in_joined at x y (test_behind y.last x.first e) (test_behind x.last y.first f)) (joined_in at x y)

-- ---- a span more

with_span_asked : (at : Position) (x : Span) (spans : List Span) → is_asked (with_span x spans) at ≡ (lies_in at x || is_asked spans at)
unfolding with_span
with_span_asked at x [] = refl
with_span_asked at x (y ∷ spans) =
    go (position_before y.last x.first) (position_before x.last y.first) refl refl (with_span_asked at x spans) (λ z. with_span_asked at z spans)
  where
    go : (b c : Bool) → position_before y.last x.first ≡ b → position_before x.last y.first ≡ c
        → is_asked (with_span x spans) at ≡ (lies_in at x || is_asked spans at)
        → ((z : Span) → is_asked (with_span z spans) at ≡ (lies_in at z || is_asked spans at))
        → is_asked (elim b [
          | true ↦ y ∷ with_span x spans
          | false ↦ elim c [ true ↦ x ∷ y ∷ spans | false ↦ with_span (joined x y) spans ]
        ]) at ≡ (lies_in at x || (lies_in at y || is_asked spans at))
    go true c e f own any = ap (λ b. lies_in at y || b) own ∙ or_swap (lies_in at y) (lies_in at x) (is_asked spans at)
    go false true e f own any = refl
    go false false e f own any =
        any (joined x y) ∙ ap (λ b. b || is_asked spans at) (joined_lies at x y e f) ∙ or_join (lies_in at x) (lies_in at y) (is_asked spans at)

with_proper_asked : (at : Position) (spans : List Span) (x : Span) → is_asked (with_proper spans x) at ≡ (is_asked spans at || lies_in at x)
with_proper_asked at spans x = go (is_proper x) refl
  where
    none : is_proper x ≡ false → lies_in at x ≡ false
    none e = of_none (lies_in at x) refl
      where
        of_none : (b : Bool) → lies_in at x ≡ b → b ≡ false
        of_none false is = refl
        of_none true is =
            let h = (lies_decides at x).0 is in absurd (clash (sym e ∙ reached x.last x.first (behind_both x.last at x.first h.1 h.0)))

    go : (b : Bool) → is_proper x ≡ b
        → is_asked (elim b [ true ↦ with_span x spans | false ↦ spans ]) at ≡ (is_asked spans at || lies_in at x)
    go true e = with_span_asked at x spans ∙ or_turn (lies_in at x) (is_asked spans at)
    go false e = sym (or_false (is_asked spans at)) ∙ ap (λ b. is_asked spans at || b) (sym (none e))

all_asked : (at : Position) (spans more : List Span) → is_asked (fold with_proper spans more) at ≡ (is_asked spans at || is_asked more at)
all_asked at spans [] = sym (or_false (is_asked spans at))
all_asked at spans (x ∷ more) =
    all_asked at (with_proper spans x) more
    ∙ ap (λ b. b || is_asked more at) (with_proper_asked at spans x)
    ∙ or_join (is_asked spans at) (lies_in at x) (is_asked more at)

heard_symbols : (at : Position) (heard : Heard) (requests : List Named)
    → is_asked (fold heard_also heard requests).symbols at ≡ (is_asked heard.symbols at || is_asked (flat_map asked_spans requests) at)
heard_symbols at heard [] = sym (or_false (is_asked heard.symbols at))
heard_symbols at heard (r ∷ requests) =
    heard_symbols at (heard_also heard r) requests
    ∙ ap (λ b. b || is_asked (flat_map asked_spans requests) at) (all_asked at heard.symbols (asked_spans r))
    ∙ or_join (is_asked heard.symbols at) (is_asked (asked_spans r) at) (is_asked (flat_map asked_spans requests) at)
    ∙ ap (λ b. is_asked heard.symbols at || b) (sym (list_any-append (lies_in at) (asked_spans r) (flat_map asked_spans requests)))

any_map : {X Y : Type 0} (p : Y → Bool) (f : X → Y) (xs : List X) → list_any p (map f xs) ≡ list_any (λ x. p (f x)) xs
any_map p f [] = refl
any_map p f (x ∷ xs) = ap (λ b. p (f x) || b) (any_map p f xs)

infos_of_request : (r : Named) (index : ℕ) → is_asked (asked_infos r) (position index 0 0) ≡ asks_info r index
infos_of_request r index = go (has_flag r.flags info_flag)
  where
    go : (b : Bool) → is_asked (elim b [ true ↦ map object_span (named_spans r) | false ↦ [] ]) (position index 0 0)
        ≡ (b && list_any (λ s. lies_in (position index 0 0) (object_span s)) (named_spans r))
    go true = any_map (lies_in (position index 0 0)) object_span (named_spans r)
    go false = refl

heard_infos : (index : ℕ) (heard : Heard) (requests : List Named) → is_asked (fold heard_also heard requests).infos (position index 0 0)
    ≡ (is_asked heard.infos (position index 0 0) || list_any (λ (r : Named). asks_info r index) requests)
heard_infos index heard [] = sym (or_false (is_asked heard.infos (position index 0 0)))
heard_infos index heard (r ∷ requests) =
    heard_infos index (heard_also heard r) requests
    ∙ ap (λ b. b || list_any (λ (x : Named). asks_info x index) requests) (all_asked (position index 0 0) heard.infos (asked_infos r))
    ∙ or_join (is_asked heard.infos (position index 0 0)) (is_asked (asked_infos r) (position index 0 0)) (list_any (λ (x : Named). asks_info x index) requests)
    ∙ ap (λ b. is_asked heard.infos (position index 0 0) || (b || list_any (λ (x : Named). asks_info x index) requests)) (infos_of_request r index)

-- ---- counts

le_test : (a b : ℕ) → Decides (nat_le a b) (a ≤ b)
le_test a b = go (leb_tells a b)
  where
    go : ((nat_le a b ≡ true) × (a ≤ b)) ⊎ ((nat_le a b ≡ false) × (b < a)) → Decides (nat_le a b) (a ≤ b)
    go (inl tells) = (λ e. tells.1, λ le. tells.0)
    go (inr tells) = (λ e. absurd (clash (sym tells.0 ∙ e)), λ le. absurd (let h = tells.1 in omega arith))

le_max : (n a b : ℕ) → nat_le n (max a b) ≡ (nat_le n a || nat_le n b)
le_max n a b = bool_same (nat_le n (max a b)) (nat_le n a || nat_le n b) (le_test n (max a b))
    (either_decides (nat_le n a) (nat_le n b) (le_test n a) (le_test n b)) to from
  where
    to : n ≤ max a b → (n ≤ a) ⊎ (n ≤ b)
    to le = elim (cases_lt a n) [ inl lt ↦ inr (omega arith) | inr ge ↦ inl ge ]

    from : (n ≤ a) ⊎ (n ≤ b) → n ≤ max a b
    from (inl le) = omega arith
    from (inr le) = omega arith

points_same : (a b : Point) → same_point a b ≡ true → a ≡ b
points_same a b e =
    let both = (Decides-and _ _ (Decides-eqb a.index b.index) (Decides-eqb a.block b.block)).0 e in
    ap (λ (n : ℕ). record { index = n; block = a.block }) both.0 ∙ ap (λ (n : ℕ). record { index = b.index; block = n }) both.1

-- a count asks for as many symbols of a block
abbrev counts_for : Point → ℕ → Count → Bool
counts_for at wanted c = same_point c.of at && nat_le wanted c.lacking

count_joins : (at : Point) (wanted : ℕ) (c x : Count) → same_point c.of x.of ≡ true
    → counts_for at wanted (record x { lacking = max x.lacking c.lacking }) ≡ (counts_for at wanted c || counts_for at wanted x)
count_joins at wanted c x e =
    ap (λ b. same_point x.of at && b) (le_max wanted x.lacking c.lacking)
    ∙ apart (same_point x.of at) (nat_le wanted x.lacking) (nat_le wanted c.lacking)
    ∙ ap (λ (of : Point). (same_point of at && nat_le wanted c.lacking) || counts_for at wanted x) (sym (points_same c.of x.of e))
  where
    apart : (a b d : Bool) → (a && (b || d)) ≡ ((a && d) || (a && b))
    apart true b d = or_turn b d
    apart false b d = refl

with_count_asked : (at : Point) (wanted : ℕ) (c : Count) (counts : List Count)
    → asks_as_many (with_count c counts) at wanted ≡ (counts_for at wanted c || asks_as_many counts at wanted)
unfolding with_count
with_count_asked at wanted c [] = refl
with_count_asked at wanted c (x ∷ counts) = go (same_point c.of x.of) (point_before c.of x.of) refl (with_count_asked at wanted c counts)
  where
    go : (b d : Bool) → same_point c.of x.of ≡ b → asks_as_many (with_count c counts) at wanted ≡ (counts_for at wanted c || asks_as_many counts at wanted)
        → asks_as_many (elim b [
          | true ↦ record x { lacking = max x.lacking c.lacking } ∷ counts
          | false ↦ elim d [ true ↦ c ∷ x ∷ counts | false ↦ x ∷ with_count c counts ]
        ]) at wanted ≡ (counts_for at wanted c || (counts_for at wanted x || asks_as_many counts at wanted))
    go true d e more =
        ap (λ b. b || asks_as_many counts at wanted) (count_joins at wanted c x e)
        ∙ or_join (counts_for at wanted c) (counts_for at wanted x) (asks_as_many counts at wanted)
    go false true e more = refl
    go false false e more =
        ap (λ b. counts_for at wanted x || b) more ∙ or_swap (counts_for at wanted x) (counts_for at wanted c) (asks_as_many counts at wanted)

all_counted : (at : Point) (wanted : ℕ) (counts more : List Count)
    → asks_as_many (fold (λ (held : List Count) (c : Count). with_count c held) counts more) at wanted
    ≡ (asks_as_many counts at wanted || asks_as_many more at wanted)
all_counted at wanted counts [] = sym (or_false (asks_as_many counts at wanted))
all_counted at wanted counts (c ∷ more) =
    all_counted at wanted (with_count c counts) more
    ∙ ap (λ b. b || asks_as_many more at wanted) (with_count_asked at wanted c counts ∙ or_turn (counts_for at wanted c) (asks_as_many counts at wanted))
    ∙ or_join (asks_as_many counts at wanted) (counts_for at wanted c) (asks_as_many more at wanted)

heard_counts : (at : Point) (wanted : ℕ) (heard : Heard) (requests : List Named) → asks_as_many (fold heard_also heard requests).counts at wanted
    ≡ (asks_as_many heard.counts at wanted || asks_as_many (flat_map asked_counts requests) at wanted)
heard_counts at wanted heard [] = sym (or_false (asks_as_many heard.counts at wanted))
heard_counts at wanted heard (r ∷ requests) =
    heard_counts at wanted (heard_also heard r) requests
    ∙ ap (λ b. b || asks_as_many (flat_map asked_counts requests) at wanted) (all_counted at wanted heard.counts (asked_counts r))
    ∙ or_join (asks_as_many heard.counts at wanted) (asks_as_many (asked_counts r) at wanted) (asks_as_many (flat_map asked_counts requests) at wanted)
    ∙ ap (λ b. asks_as_many heard.counts at wanted || b)
    (sym (list_any-append (counts_for at wanted) (asked_counts r) (flat_map asked_counts requests)))

-- ---- spans in order

abbrev Follow : Position → List Span → Type 0
Follow p spans = AllByRecursion (λ (s : Span). Before p s.first) spans

-- no span begins behind its end, and each ends before the next begins
abbrev Apart : List Span → Type 0
Apart [] = ⊤
Apart (x ∷ spans) = Behind x.last x.first × Follow x.last spans × Apart spans

follow_with : (p : Position) (x : Span) (spans : List Span) → Before p x.first → Follow p spans → Follow p (with_span x spans)
unfolding with_span
follow_with p x [] h all = (h, tt)
follow_with p x (y ∷ spans) h all =
    go (position_before y.last x.first) (position_before x.last y.first) (follow_with p x spans h all.1)
    (λ z k. follow_with p z spans k all.1)
  where
    near : (t : ((nearer x.first y.first ≡ x.first) × Behind y.first x.first) ⊎ ((nearer x.first y.first ≡ y.first) × Before y.first x.first))
        → Before p (nearer x.first y.first)
    near (inl own) = subst (λ (q : Position). Before p q) (sym own.0) h
    near (inr other) = subst (λ (q : Position). Before p q) (sym other.0) all.0

    go : (b c : Bool) → Follow p (with_span x spans) → ((z : Span) → Before p z.first → Follow p (with_span z spans)) → Follow p (elim b [
      | true ↦ y ∷ with_span x spans
      | false ↦ elim c [ true ↦ x ∷ y ∷ spans | false ↦ with_span (joined x y) spans ]
    ])
    go true c own any = (all.0, own)
    go false true own any = (h, all)
    go false false own any = any (joined x y) (near (nearer_is x.first y.first))

follow_past : (p q : Position) (spans : List Span) → Before p q → Follow q spans → Follow p spans
follow_past p q [] h all = tt
follow_past p q (y ∷ spans) h all = (before_both p q y.first h all.0, follow_past p q spans h all.1)

apart_with : (x : Span) (spans : List Span) → Behind x.last x.first → Apart spans → Apart (with_span x spans)
unfolding with_span
apart_with x [] h all = (h, tt, tt)
apart_with x (y ∷ spans) h all =
    go (position_before y.last x.first) (position_before x.last y.first) refl refl (apart_with x spans h all.2) (λ z k. apart_with z spans k all.2)
  where
    go : (b c : Bool) → position_before y.last x.first ≡ b → position_before x.last y.first ≡ c → Apart (with_span x spans)
        → ((z : Span) → Behind z.last z.first → Apart (with_span z spans)) → Apart (elim b [
          | true ↦ y ∷ with_span x spans
          | false ↦ elim c [ true ↦ x ∷ y ∷ spans | false ↦ with_span (joined x y) spans ]
        ])
    go true c e f own any = (all.0, follow_with y.last x spans (test_before y.last x.first e) all.1, own)
    go false true e f own any =
        let lt = test_before x.last y.first f in
        (h, (lt, follow_past x.last y.last spans (before_behind x.last y.first y.last lt all.0) all.1), all)
    go false false e f own any =
        any (joined x y) (to_first (nearer x.first y.first) x.last y.last (behind_both x.last x.first (nearer x.first y.first) h (from_first x.first x.first y.first (behind_itself x.first))))

apart_proper : (spans : List Span) (x : Span) → Apart spans → Apart (with_proper spans x)
apart_proper spans x h = go (is_proper x) refl
  where
    go : (b : Bool) → is_proper x ≡ b → Apart (elim b [ true ↦ with_span x spans | false ↦ spans ])
    go true e = apart_with x spans (behind x.last x.first e) h
    go false e = h

apart_all : (spans more : List Span) → Apart spans → Apart (fold with_proper spans more)
apart_all spans [] h = h
apart_all spans (x ∷ more) h = apart_all (with_proper spans x) more (apart_proper spans x h)

apart_heard : (heard : Heard) (requests : List Named) → Apart heard.symbols → Apart (fold heard_also heard requests).symbols
apart_heard heard [] h = h
apart_heard heard (r ∷ requests) h = apart_heard (heard_also heard r) requests (apart_all heard.symbols (asked_spans r) h)

-- ---- the walk

-- the same of positions of an object
abbrev Each : List Span → ℕ → ℕ → Position → Position → Type 0
Each spans width index first last =
    (at : Position) → at.index ≡ index → at.symbol < width → Behind at first → Behind last at → is_asked spans at ≡ true

-- where spans follow a position, nothing at it or before it was asked for
none_before : (p at : Position) (spans : List Span) → Follow p spans → Behind p at → is_asked spans at ≡ false
none_before p at [] all le = refl
none_before p at (y ∷ spans) all le =
    ap (λ b. b || is_asked spans at) (out (lies_in at y) refl) ∙ none_before p at spans all.1 le
  where
    out : (b : Bool) → lies_in at y ≡ b → b ≡ false
    out false e = refl
    out true e = absurd (not_before p at (before_behind p y.first at all.0 ((lies_decides at y).0 e).0) le)

-- the source symbol behind another
record Next (width : ℕ) (at next : Position) : Type 0 where
  index : next.index ≡ at.index
  symbol : next.symbol < width
  past : Before at next
  nearest : (q : Position) → q.index ≡ at.index → q.symbol < width → Before at q → Behind q next

next_is : (width : ℕ) (at : Position) → 0 < width → Next width at (symbol_behind width at)
next_is width at some = go (nat_lt (at.symbol + 1) width) refl
  where
    within : (q : Position) → q.index ≡ at.index → q.symbol < width → Before at q → Behind q (position at.index at.block (at.symbol + 1))
    within q same small (inl (inl lt)) = absurd (omega arith)
    within q same small (inl (inr (is, lt))) = inr (sym same, inl lt)
    within q same small (inr ((is, block), lt)) = inr (sym same, inr (block, omega arith))

    beyond : nat_lt (at.symbol + 1) width ≡ false → (q : Position) → q.index ≡ at.index → q.symbol < width → Before at q
        → Behind q (position at.index (at.block + 1) 0)
    beyond e q same small (inl (inl lt)) = absurd (omega arith)
    beyond e q same small (inl (inr (is, lt))) = elim (cases_lt (at.block + 1) q.block) [
      | inl more ↦ inr (sym same, inl more)
      | inr le ↦ inr (sym same, inr (omega arith, omega arith))
    ]
    beyond e q same small (inr ((is, block), lt)) =
        absurd (clash (sym e ∙ (Decides-ltb (at.symbol + 1) width).1 (omega arith)))

    go : (b : Bool) → nat_lt (at.symbol + 1) width ≡ b
        → Next width at (elim b [ true ↦ position at.index at.block (at.symbol + 1) | false ↦ position at.index (at.block + 1) 0 ])
    go true e = record {
      index = refl;
      symbol = (Decides-ltb (at.symbol + 1) width).0 e;
      past = inr ((refl, refl), omega arith);
      nearest = within;
    }
    go false e = record { index = refl; symbol = some; past = inl (inr (refl, omega arith)); nearest = beyond e }

-- the walk, from a source symbol of the object on
walk_decides : (width index : ℕ) (last : Position) → last.symbol < width → last.index ≡ index → (spans : List Span) → Apart spans
    → (first : Position) → first.symbol < width → first.index ≡ index → Behind last first
    → Decides (covers width first last spans) (Each spans width index first last)
unfolding covers
walk_decides width index last small own [] apart first short here le =
    (λ e. absurd (clash e), λ all. all first here short (behind_itself first) le)
walk_decides width index last small own (x ∷ spans) apart first short here le =
    go (position_before x.last first) (position_before first x.first) (position_before x.last last) refl refl refl
    (walk_decides width index last small own spans apart.2)
  where
    More : Type 0
    More = (from : Position) → from.symbol < width → from.index ≡ index → Behind last from
        → Decides (covers width from last spans) (Each spans width index from last)

    or_true : (a b : Bool) → a ≡ false → (a || b) ≡ true → b ≡ true
    or_true true b e f = absurd (clash (sym e))
    or_true false b e f = f

    true_or : (a b : Bool) → b ≡ true → (a || b) ≡ true
    true_or true b e = refl
    true_or false b e = e

    or_first : (a b : Bool) → a ≡ true → (a || b) ≡ true
    or_first true b e = refl
    or_first false b e = absurd (clash e)

    -- what lies behind the first span is not in it
    past_first : (at : Position) → Before x.last at → lies_in at x ≡ false
    past_first at lt = out (lies_in at x) refl
      where
        out : (b : Bool) → lies_in at x ≡ b → b ≡ false
        out false e = refl
        out true e = absurd (not_before x.last at lt ((lies_decides at x).0 e).1)

    within : Behind first x.first → Behind x.last last → Each (x ∷ spans) width index first last
    within from to at same less above below =
        or_first (lies_in at x) (is_asked spans at)
        ((lies_decides at x).1 (behind_both at first x.first above from, behind_both x.last last at to below))

    -- the object of a span's end between two positions of it
    between : Behind x.last first → Before x.last last → x.last.index ≡ index
    between above below = omega (arith, at_least x.last first above, at_most x.last last below, here, own)
      where
        at_least : (a b : Position) → Behind a b → b.index ≤ a.index
        at_least a b (inl lt) = omega arith
        at_least a b (inr (same, k)) = omega arith

        at_most : (a b : Position) → Before a b → a.index ≤ b.index
        at_most a b (inl (inl lt)) = omega arith
        at_most a b (inl (inr (same, k))) = omega arith
        at_most a b (inr ((same, k), j)) = omega arith

    on : Behind first x.first → Behind x.last first → Before x.last last → More
        → Decides (covers width (symbol_behind width x.last) last spans) (Each (x ∷ spans) width index first last)
    on from above below more =
        let next = next_is width x.last (omega arith) in
        let is = between above below in
        let d = more (symbol_behind width x.last) next.symbol (next.index ∙ is) (next.nearest last (own ∙ sym is) small below) in (
          λ e at same less high low. elim (either_way x.last at) [
            | inl past ↦ true_or (lies_in at x) (is_asked spans at) (d.0 e at same less (next.nearest at (same ∙ sym is) less past) low)
            | inr inside ↦ or_first (lies_in at x) (is_asked spans at) ((lies_decides at x).1 (behind_both at first x.first high from, inside))
          ],
          λ all. d.1 (λ at same less high low.
              let past = before_behind x.last (symbol_behind width x.last) at next.past high in
              or_true (lies_in at x) (is_asked spans at) (past_first at past)
              (all at same less (after first at (behind_before first x.last at above past)) low)),
        )

    go : (a b c : Bool) → position_before x.last first ≡ a → position_before first x.first ≡ b → position_before x.last last ≡ c → More
        → Decides (elim a [
          | true ↦ covers width first last spans
          | false ↦ elim b [
            | true ↦ false
            | false ↦ elim c [ true ↦ covers width (symbol_behind width x.last) last spans | false ↦ true ]
          ]
        ]) (Each (x ∷ spans) width index first last)
    go true b c e f g more =
        let d = more first short here le in
        let lt = test_before x.last first e in (
          λ yes at same less high low. true_or (lies_in at x) (is_asked spans at) (d.0 yes at same less high low),
          λ all. d.1 (λ at same less high low.
              or_true (lies_in at x) (is_asked spans at) (past_first at (before_behind x.last first at lt high)) (all at same less high low)),
        )
    go false true c e f g more =
        let lt = test_before first x.first f in
        let outside : lies_in first x ≡ false = before_it (lies_in first x) refl lt in
        let rest : is_asked spans first ≡ false =
        none_before x.last first spans apart.1 (behind_both x.last x.first first apart.0 (after first x.first lt)) in (
          λ yes. absurd (clash yes),
          λ all. absurd (clash (sym rest ∙ or_true (lies_in first x) (is_asked spans first) outside (all first here short (behind_itself first) le))),
        )
      where
        before_it : (b : Bool) → lies_in first x ≡ b → Before first x.first → b ≡ false
        before_it false is lt = refl
        before_it true is lt = absurd (not_before first x.first lt ((lies_decides first x).0 is).0)
    go false false true e f g more = on (test_behind first x.first f) (test_behind x.last first e) (test_before x.last last g) more
    go false false false e f g more = (λ yes. within (test_behind first x.first f) (test_behind x.last last g), λ all. refl)

covered : (requests : List Named) (width : ℕ) (first last : Position) → first.index ≡ last.index → first.symbol < width → last.symbol < width
    → reaches last first ≡ true
    → Decides (covers width first last (heard_all requests).symbols) (EachIsAsked (flat_map asked_spans requests) width first last)
covered requests width first last same short small ordered =
    let spans = (heard_all requests).symbols in
    let d = walk_decides width first.index last small (sym same) spans (apart_heard heard_nothing requests tt) first short refl (behind last first ordered) in (
      λ e at is less high low. sym (heard_symbols at heard_nothing requests) ∙ d.0 e at is less (behind at first high) (behind last at low),
      λ all. d.1 (λ at is less high low. heard_symbols at heard_nothing requests ∙ all at is less (reached at first high) (reached last at low)),
    )

pub heard_laws : HeardLaws
heard_laws = record {
  symbols = λ requests at. heard_symbols at heard_nothing requests;
  infos = λ requests index. heard_infos index heard_nothing requests;
  counts = λ requests at wanted. heard_counts at wanted heard_nothing requests;
  covered = covered;
}
